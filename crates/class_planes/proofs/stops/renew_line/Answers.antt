use Rattle.std.proofs.Common.{ℕ, List, length, ◌≡◌, ◌+◌, ◌-◌, ◌/◌, ◌≤◌, ap, sym, ◌∙◌, subst, arith}
use Rattle.nav_types.specs.declared.straights.Way.{Way}
use Rattle.nav_types.specs.declared.straights.Way.TheVariants.{Up, Down}
use Rattle.class_planes.specs.inner.Runs.{LaneWords}
use Rattle.class_planes.specs.inner.StopLines.{lanes_of, IsStopBit}
use Rattle.class_planes.proofs.StopBandLemmas.{map_line_long}
use Rattle.class_planes.proofs.stops.renew_line.Goals as goal

-- a bit that is right by equal lanes, the same way
moved : (way same : Way) (lanes other : LaneWords) (stops : List ℕ) (i : ℕ) → way ≡ same → lanes ≡ other
    → IsStopBit same lanes stops i → IsStopBit way other stops i
moved way same lanes other stops i is_way is right =
    subst (λ (w : Way). IsStopBit w other stops i) (sym is_way)
    (subst (λ (l : LaneWords). IsStopBit same l stops i) is right)

back : (way same : Way) (lanes other : LaneWords) (stops : List ℕ) (i : ℕ) → way ≡ same → lanes ≡ other
    → IsStopBit way other stops i → IsStopBit same lanes stops i
back way same lanes other stops i is_way is right =
    subst (λ (w : Way). IsStopBit w lanes stops i) is_way
    (subst (λ (l : LaneWords). IsStopBit way l stops i) (sym is) right)

pub renew_up-requires-clause-words : goal.renew_up-requires-clause-words
renew_up-requires-clause-words c =
    let line = c.requires.line in
    c.requires.words ∙ sym (ap (λ (l : LaneWords). length l.mid) c.lanes_at-lanes.ensures
    ∙ map_line_long c.args.map.now.lines c.args.map.now.count c.args.n c.requires.lines (omega (arith, line)))

pub renew_up-requires-clause-last : goal.renew_up-requires-clause-last
renew_up-requires-clause-last c =
    let line = c.requires.line in
    let long = ap (λ (l : LaneWords). length l.mid) c.lanes_at-lanes.ensures
    ∙ map_line_long c.args.map.now.lines c.args.map.now.count c.args.n c.requires.lines (omega (arith, line)) in
    omega (arith, long, c.from-last.ensures, c.requires.rect.last_word)

pub renew_down-requires-clause-words : goal.renew_down-requires-clause-words
renew_down-requires-clause-words c =
    let line = c.requires.line in
    c.requires.words ∙ sym (ap (λ (l : LaneWords). length l.mid) c.lanes_at-lanes.ensures
    ∙ map_line_long c.args.map.now.lines c.args.map.now.count c.args.n c.requires.lines (omega (arith, line)))

pub renew_down-requires-clause-last : goal.renew_down-requires-clause-last
renew_down-requires-clause-last c =
    let line = c.requires.line in
    let long = ap (λ (l : LaneWords). length l.mid) c.lanes_at-lanes.ensures
    ∙ map_line_long c.args.map.now.lines c.args.map.now.count c.args.n c.requires.lines (omega (arith, line)) in
    omega (arith, long, c.from-last.ensures, c.requires.rect.last_word)

pub returns-in-Up-clause-near : goal.returns-in-Up-clause-near
returns-in-Up-clause-near c i near =
    let west : (c.args.rect.i0 - 1) / 64 ≤ i / 64 = near.west in
    let east : i / 64 ≤ (c.args.rect.i1 + 1) / 64 = near.east in
    moved c.args.way Up c.lanes_at-lanes.result (lanes_of c.args.map.now.lines c.args.map.now.count c.args.n) c.renew_up.new.stops i
    c.in-Up.is c.lanes_at-lanes.ensures
    (c.renew_up.ensures.renewed i (omega (arith, west, c.from-first.ensures, c.saturating_sub.ensures))
    (omega (arith, east, c.from-last.ensures)))

pub returns-in-Up-clause-kept : goal.returns-in-Up-clause-kept
returns-in-Up-clause-kept c i within was =
    let line = c.requires.line in
    let long = ap (λ (l : LaneWords). length l.mid) c.lanes_at-lanes.ensures
    ∙ map_line_long c.args.map.now.lines c.args.map.now.count c.args.n c.requires.lines (omega (arith, line)) in
    let lanes : LaneWords = lanes_of c.args.map.now.lines c.args.map.now.count c.args.n in
    moved c.args.way Up c.lanes_at-lanes.result lanes c.renew_up.new.stops i c.in-Up.is c.lanes_at-lanes.ensures
    (c.renew_up.ensures.kept i (omega (arith, within, long))
    (back c.args.way Up c.lanes_at-lanes.result lanes c.args.stops.now i c.in-Up.is c.lanes_at-lanes.ensures was))

pub returns-in-Down-clause-near : goal.returns-in-Down-clause-near
returns-in-Down-clause-near c i near =
    let west : (c.args.rect.i0 - 1) / 64 ≤ i / 64 = near.west in
    let east : i / 64 ≤ (c.args.rect.i1 + 1) / 64 = near.east in
    moved c.args.way Down c.lanes_at-lanes.result (lanes_of c.args.map.now.lines c.args.map.now.count c.args.n) c.renew_down.new.stops i
    c.in-Down.is c.lanes_at-lanes.ensures
    (c.renew_down.ensures.renewed i (omega (arith, west, c.from-first.ensures, c.saturating_sub.ensures))
    (omega (arith, east, c.from-last.ensures)))

pub returns-in-Down-clause-kept : goal.returns-in-Down-clause-kept
returns-in-Down-clause-kept c i within was =
    let line = c.requires.line in
    let long = ap (λ (l : LaneWords). length l.mid) c.lanes_at-lanes.ensures
    ∙ map_line_long c.args.map.now.lines c.args.map.now.count c.args.n c.requires.lines (omega (arith, line)) in
    let lanes : LaneWords = lanes_of c.args.map.now.lines c.args.map.now.count c.args.n in
    moved c.args.way Down c.lanes_at-lanes.result lanes c.renew_down.new.stops i c.in-Down.is c.lanes_at-lanes.ensures
    (c.renew_down.ensures.kept i (omega (arith, within, long))
    (back c.args.way Down c.lanes_at-lanes.result lanes c.args.stops.now i c.in-Down.is c.lanes_at-lanes.ensures was))
