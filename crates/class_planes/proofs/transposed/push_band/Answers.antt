use Rattle.std.proofs.Common.{ℕ, Bool, List, [], ◌≡◌, ◌<◌, ◌+◌, ◌*◌, ◌/◌, get_or, length, sym, ap, ◌∙◌, subst, refl, arith}
use Rattle.nav_types.specs.Cells.{cell_at}
use Rattle.class_planes.specs.inner.Lines.{IsBand, LineTable, RowTable, free_cell}
use Rattle.class_planes.specs.inner.StopLines.{map_lines, part_in}
use Rattle.class_planes.proofs.LineLemmas.{lines_more}
use Rattle.class_planes.proofs.SetLemmas.{part_at, part_pushed, parts_many, stops_pushed}
use Rattle.class_planes.proofs.TurnLemmas.{band_same}
use Rattle.class_planes.proofs.UpdateLemmas.{both_ok}
use Rattle.class_planes.proofs.transposed.push_band.Goals as goal

pub share-requires : goal.share-requires
share-requires c = omega (arith, c.requires.band, c.requires.before.lines.many, parts_many c.args.before.now 0)

pub returns-then-not-is_met-clause-lines : goal.returns-then-not-is_met-clause-lines
returns-then-not-is_met-clause-lines c =
    let rows : RowTable = record { size = c.args.map.now.size; rows = map_lines c.args.map.now.rows.now } in
    let free : ℕ → ℕ → Bool = λ i j. free_cell rows (cell_at i j) in
    let words : ℕ = c.args.map.now.size.h / 64 + 1 in
    let before = c.requires.before in
    let table : LineTable = c.args.before.now in
    let b : ℕ = c.args.band in
    let band : List ℕ = get_or table.bands b [] in
    let below : b < length table.bands = omega (arith, c.requires.band, before.lines.many, parts_many table 0) in
    let wide : c.args.lines.now.words ≡ table.words = c.requires.lines.wide ∙ sym before.lines.wide in
    both_ok c.share.result c.share.ensures.words c.share.ensures.bands (λ same more.
    lines_more free b words (map_lines c.args.lines.now) (map_lines c.share.new.self)
    (part_in c.args.lines.now.words band 0) c.requires.lines same (part_pushed 0 c.args.lines.now c.share.new.self band same more)
    (subst (IsBand free (32 * b) words 32)
    (part_at table 0 b below ∙ ap (λ (w : ℕ). part_in w band 0) (sym wide))
    (band_same before.earlier free b words (get_or (map_lines table).bands b []) (before.lines.each b c.requires.band)
    (λ n i in_band. before.same (cell_at n i)
    (c.is_met.ensures c.if-not-is_met.true n i (omega arith) (omega arith))))))

pub returns-then-not-is_met-clause-stops : goal.returns-then-not-is_met-clause-stops
returns-then-not-is_met-clause-stops c =
    let table : LineTable = c.args.before.now in
    both_ok c.share.result c.share.ensures.words c.share.ensures.bands (λ same more.
    stops_pushed c.args.band table c.args.lines.now c.share.new.self (get_or table.bands c.args.band [])
    (sym (parts_many c.args.lines.now 0) ∙ c.requires.lines.many) more c.requires.stops (λ way. refl))

pub returns-clause-lines : goal.returns-clause-lines
returns-clause-lines c =
    let rows : RowTable = record { size = c.args.map.now.size; rows = map_lines c.args.map.now.rows.now } in
    let free : ℕ → ℕ → Bool = λ i j. free_cell rows (cell_at i j) in
    let words : ℕ = c.args.map.now.size.h / 64 + 1 in
    let band : List ℕ = c.in_ok-words.words.items in
    let wide : c.args.lines.now.words ≡ c.args.before.now.words =
    c.requires.lines.wide ∙ sym c.requires.before.lines.wide in
    both_ok c.push.result c.push.ensures.words c.push.ensures.bands (λ same more.
    lines_more free c.args.band words (map_lines c.args.lines.now) (map_lines c.push.new.self)
    (part_in c.args.lines.now.words band 0) c.requires.lines same (part_pushed 0 c.args.lines.now c.push.new.self band same more)
    (subst (IsBand free (32 * c.args.band) words 32) (ap (λ (w : ℕ). part_in w band 0) (sym wide))
    c.in_ok-words.ensures.lines))

pub returns-clause-stops : goal.returns-clause-stops
returns-clause-stops c =
    both_ok c.push.result c.push.ensures.words c.push.ensures.bands (λ same more.
    stops_pushed c.args.band c.args.before.now c.args.lines.now c.push.new.self c.in_ok-words.words.items
    (sym (parts_many c.args.lines.now 0) ∙ c.requires.lines.many) more c.requires.stops c.in_ok-words.ensures.stops)
