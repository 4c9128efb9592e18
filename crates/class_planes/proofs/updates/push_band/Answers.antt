use Rattle.std.proofs.Common.{ℕ, Bool, List, [], ◌≡◌, ◌<◌, ◌+◌, ◌*◌, ◌/◌, get_or, length, sym, ap, ◌∙◌, subst, refl, arith}
use Rattle.nav_types.specs.Cells.{cell_at}
use Rattle.class_planes.specs.inner.Lines.{IsBand, LineTable}
use Rattle.class_planes.specs.inner.StopLines.{map_lines, part_in}
use Rattle.class_planes.proofs.LineLemmas.{lines_more}
use Rattle.class_planes.proofs.SetLemmas.{part_at, part_pushed, parts_many, stops_pushed}
use Rattle.class_planes.proofs.UpdateLemmas.{band_stays, both_ok}
use Rattle.class_planes.proofs.updates.push_band.Goals as goal

pub share-requires : goal.share-requires
share-requires g c =
    omega (arith, c.requires.band, c.requires.before.lines.many, parts_many c.args.old.now.lines.now 0)

pub returns-then-not-is_met-clause-lines : goal.returns-then-not-is_met-clause-lines
returns-then-not-is_met-clause-lines g c =
    let view = c.args.view.now in
    let words : ℕ = (g.V.View.extent view).w / 64 + 1 in
    let free : ℕ → ℕ → Bool = λ j i. g.V.View.passes view c.args.class (cell_at i j) in
    let before = c.requires.before in
    let table : LineTable = c.args.old.now.lines.now in
    let b : ℕ = c.args.band in
    let band : List ℕ = get_or table.bands b [] in
    let below : b < length table.bands = omega (arith, c.requires.band, before.lines.many, parts_many table 0) in
    let wide : c.args.lines.now.words ≡ table.words = c.requires.lines.wide ∙ sym before.lines.wide in
    both_ok c.share.result c.share.ensures.words c.share.ensures.bands (λ same more.
    lines_more free b words (map_lines c.args.lines.now) (map_lines c.share.new.self)
    (part_in c.args.lines.now.words band 0) c.requires.lines same (part_pushed 0 c.args.lines.now c.share.new.self band same more)
    (subst (IsBand free (32 * b) words 32)
    (part_at table 0 b below ∙ ap (λ (w : ℕ). part_in w band 0) (sym wide))
    (band_stays before.earlier free c.args.old.now.rects.now (32 * b) words (get_or (map_lines table).bands b [])
    (before.lines.each b c.requires.band) before.same (c.is_met.ensures c.if-not-is_met.true))))

pub returns-then-not-is_met-clause-stops : goal.returns-then-not-is_met-clause-stops
returns-then-not-is_met-clause-stops g c =
    let table : LineTable = c.args.old.now.lines.now in
    both_ok c.share.result c.share.ensures.words c.share.ensures.bands (λ same more.
    stops_pushed c.args.band table c.args.lines.now c.share.new.self (get_or table.bands c.args.band [])
    (sym (parts_many c.args.lines.now 0) ∙ c.requires.lines.many) more c.requires.stops (λ way. refl))

pub returns-clause-lines : goal.returns-clause-lines
returns-clause-lines g c =
    let view = c.args.view.now in
    let words : ℕ = (g.V.View.extent view).w / 64 + 1 in
    let free : ℕ → ℕ → Bool = λ j i. g.V.View.passes view c.args.class (cell_at i j) in
    let table : LineTable = c.args.old.now.lines.now in
    let band : List ℕ = c.in_ok-words.words.items in
    let wide : c.args.lines.now.words ≡ table.words = c.requires.lines.wide ∙ sym c.requires.before.lines.wide in
    both_ok c.push.result c.push.ensures.words c.push.ensures.bands (λ same more.
    lines_more free c.args.band words (map_lines c.args.lines.now) (map_lines c.push.new.self)
    (part_in c.args.lines.now.words band 0) c.requires.lines same (part_pushed 0 c.args.lines.now c.push.new.self band same more)
    (subst (IsBand free (32 * c.args.band) words 32) (ap (λ (w : ℕ). part_in w band 0) (sym wide))
    c.in_ok-words.ensures.lines))

pub returns-clause-stops : goal.returns-clause-stops
returns-clause-stops g c =
    both_ok c.push.result c.push.ensures.words c.push.ensures.bands (λ same more.
    stops_pushed c.args.band c.args.old.now.lines.now c.args.lines.now c.push.new.self c.in_ok-words.words.items
    (sym (parts_many c.args.lines.now 0) ∙ c.requires.lines.many) more c.requires.stops c.in_ok-words.ensures.stops)
