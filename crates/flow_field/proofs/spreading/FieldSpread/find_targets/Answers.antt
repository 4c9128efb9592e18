use Rattle.std.proofs.Common.{◌+◌, inl, IsTrue, sym, subst, arith}
use Rattle.std.specs.Prelude.{◌↔◌}
use Rattle.nav_types.specs.declared.cells.Cell.{Cell}
use Rattle.nav_types.specs.declared.cells.Size.{Size}
use Rattle.nav_types.specs.Cells.{IsInside, IsInRect, cell_at}
use Rattle.nav_types.proofs.Walking.{Joined-passes}
use Rattle.flow_field.specs.inner.Marks.{IsSpreading, NoStep, Every}
use Rattle.flow_field.specs.inner.Spreads.{WaitsIn, FoundBefore, FoundTo}
use Rattle.flow_field.proofs.Fills.{spreading_as, to_before, all_before}
use Rattle.flow_field.proofs.spreading.FieldSpread.find_targets.Goals as goal

pub loop-i-preserved : goal.loop-i-preserved
loop-i-preserved g c =
    let size = g.M.View.extent c.args.map.now in
    let passes = g.M.View.passes c.args.map.now c.args.class in
    let hit = g.A.Aim.hit c.args.aim.now size in
    let rect = c.bounds-bounds.result in
    let new = c.find_target.new.self in
    let at = c.new.ensures in
    let Before : Cell → Type 0 = λ cell. IsSpreading passes hit c.args.start size (FoundBefore rect cell) NoStep c.loop-i.self.marks.items (WaitsIn c.loop-i.self) in
    let To : Cell → Type 0 = λ cell. IsSpreading passes hit c.args.start size (FoundTo rect cell) NoStep new.marks.items (WaitsIn new) in
    let spreads = subst To at (c.in_ok-find_target.ensures c.args.start rect c.requires.start c.area-home.ensures (subst Before (sym at) c.loop-i.invariant)) in
    spreading_as passes hit c.args.start size (FoundTo rect (cell_at c.loop-i.i c.loop-j.j)) (FoundBefore rect (cell_at (c.loop-i.i + 1) c.loop-j.j)) new.marks.items (WaitsIn new)
    (λ target is_hit joined found. inl (to_before rect c.loop-i.i c.loop-j.j target found)) spreads

pub returns : goal.returns
returns g c =
    let size = g.M.View.extent c.args.map.now in
    let passes = g.M.View.passes c.args.map.now c.args.class in
    let hit = g.A.Aim.hit c.args.aim.now size in
    let rect = c.bounds-bounds.result in
    let new = c.loop-j.self in
    let Exact : Size → Type 0 = λ s. (cell : Cell) → IsInside s cell → IsInRect rect cell ↔ IsTrue (g.A.Aim.framed c.args.aim.now s cell) in
    let exact = subst Exact c.size-size.ensures c.bounds-bounds.ensures.exact in
    spreading_as passes hit c.args.start size (FoundBefore rect (cell_at rect.i0 c.loop-j.j)) Every new.marks.items (WaitsIn new)
    (λ target is_hit joined found.
    let inside = g.met.M.View.within c.args.map.now c.args.class target (Joined-passes passes c.args.start target c.requires.start joined) in
    let framed = g.met.A.Aim.hits_framed c.args.aim.now size target c.requires.aim inside is_hit in
    inl (all_before rect c.loop-j.j target (omega (arith, c.loop-j-test.false)) ((exact target inside).1 framed)))
    c.loop-j.invariant
