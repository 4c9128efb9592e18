use Rattle.std.proofs.Common.{ℕ, false, [], ◌∷◌, ◌≡◌, ◌+◌, ◌-◌, ◌*◌, refl, arith}
use Rattle.nav_types.specs.declared.cells.Rect.{Rect}
use Rattle.class_planes.specs.inner.StopLines.{IsRectOf, map_lines, stops_along}
use Rattle.class_planes.proofs.StopBandLemmas.{blank_stops, one_rect}
use Rattle.class_planes.proofs.stops.stopped.Goals as goal

pub renew_stops-requires-clause-inside : goal.renew_stops-requires-clause-inside
renew_stops-requires-clause-inside c =
    let words : ℕ = c.words.result in
    let map : Rect = record { i0 = 0; j0 = 0; i1 = 64 * words - 2; j1 = c.args.count - 1 } in
    let wide = c.words.ensures in
    let some = c.requires.lines.wide in
    let lines = c.requires.lines.some in
    one_rect (IsRectOf c.args.count c.args.lines.words) map
    (record { last_word = omega (arith, wide, some); last_line = omega (arith, lines); some = omega arith })

pub renew_stops-requires-clause-before : goal.renew_stops-requires-clause-before
renew_stops-requires-clause-before c way =
    let words : ℕ = c.words.result in
    let map : Rect = record { i0 = 0; j0 = 0; i1 = 64 * words - 2; j1 = c.args.count - 1 } in
    let wide = c.words.ensures in
    let some = c.requires.lines.wide in
    let lines = c.requires.lines.some in
    let last : 64 * words - 2 + 2 ≡ 64 * c.args.lines.words = omega (arith, wide, some) in
    let last_line : c.args.count - 1 + 1 ≡ c.args.count = omega (arith, lines) in
    blank_stops (λ n i. false) way (map_lines c.args.lines) (stops_along way c.args.lines) c.args.count (map ∷ []) map refl
    refl refl last last_line (c.requires.blank way)
