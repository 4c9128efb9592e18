use Rattle.std.proofs.Common.{Bool, false, ℕ, ◌≡◌, ◌+◌, ◌-◌, ◌*◌, ◌/◌, [], ◌∷◌, length, refl, sym, ap, ◌∙◌, subst, arith}
use Rattle.nav_types.specs.declared.cells.Rect.{Rect}
use Rattle.class_planes.specs.inner.Lines.{RowTable, AreLines, LineTable}
use Rattle.class_planes.specs.inner.StopLines.{map_lines, stops_along}
use Rattle.class_planes.proofs.SetLemmas.{blanks_carried, parts_many}
use Rattle.class_planes.proofs.TurnLemmas.{blank_before}
use Rattle.class_planes.proofs.transposed.columns_of.Goals as goal

pub unstopped-requires : goal.unstopped-requires
unstopped-requires c = record {
  words = omega (arith, c.in_ok-lines.ensures.wide, c.from.ensures, c.args.size.high);
  long = λ b below. (c.in_ok-lines.ensures.each b (omega (arith, below, c.in_ok-lines.ensures.many))).long
      ∙ ap (λ (w : ℕ). 32 * w) (sym c.in_ok-lines.ensures.wide);
}

pub returns-clause-stops : goal.returns-clause-stops
returns-clause-stops c way =
    let lines : LineTable = c.in_ok-lines.lines in
    let blank : LineTable = c.in_ok-blank.blank in
    let columns : LineTable = c.in_ok-columns.columns in
    let count : ℕ = c.args.size.w / 32 + 1 in
    let words : ℕ = c.args.size.h / 64 + 1 in
    let none : ℕ → ℕ → Bool = λ n i. false in
    let wide : lines.words ≡ words = c.in_ok-lines.ensures.wide ∙ ap (λ (n : ℕ). n / 64 + 1) c.from.ensures in
    blanks_carried way count words blank columns
    (subst (λ (n : ℕ). AreLines none n words (stops_along way blank)) c.in_ok-lines.ensures.many
    (subst (λ (w : ℕ). AreLines none (length lines.bands) w (stops_along way blank)) wide (c.in_ok-blank.ensures.stops way)))
    c.in_ok-columns.ensures.lines.wide (sym (parts_many columns 0) ∙ c.in_ok-columns.ensures.lines.many)
    c.in_ok-columns.ensures.stops

pub updated_columns-requires-clause-before : goal.updated_columns-requires-clause-before
updated_columns-requires-clause-before c =
    let table : RowTable = record { size = c.args.size; rows = map_lines c.args.rows.now } in
    let w : ℕ = c.args.size.w in
    let h : ℕ = c.args.size.h in
    let map : Rect = c.of_map.result in
    let is = c.of_map.ensures.value in
    let none : ℕ → ℕ → Bool = λ n i. false in
    let east : map.i1 ≡ w - 1 = ap (λ (rect : Rect). rect.i1) is in
    let north : map.j1 ≡ h - 1 = ap (λ (rect : Rect). rect.j1) is in
    let columns : map.i1 + 1 ≡ w = omega (arith, east, c.args.size.wide.some) in
    let rows : map.j1 + 1 ≡ h = omega (arith, north, c.args.size.high.some) in
    blank_before table (map ∷ []) map (map_lines c.in_ok-blank.blank) refl (ap (λ (rect : Rect). rect.i0) is)
    (ap (λ (rect : Rect). rect.j0) is) columns rows
    (subst (AreLines none (w / 32 + 1) (h / 64 + 1)) (sym c.in_ok-blank.ensures.lines)
    (subst (λ (n : ℕ). AreLines none (w / 32 + 1) (n / 64 + 1) c.in_ok-lines.lines) c.from.ensures c.in_ok-lines.ensures))
