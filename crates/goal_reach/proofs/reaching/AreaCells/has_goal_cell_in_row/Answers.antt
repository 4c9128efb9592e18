use Rattle.std.proofs.Common.{ℕ, ◌+◌, ◌<◌, ◌≤◌, IsTrue, arith}
use Rattle.nav_types.specs.declared.straights.Axis.TheVariants.{Row}
use Rattle.nav_types.specs.Cells.{cell_at, IsInside}
use Rattle.nav_types.specs.Walks.{Joined}
use Rattle.nav_types.proofs.Walking.{Joined-passes}
use Rattle.goal_shapes.specs.Goals.{contains}
use Rattle.goal_reach.proofs.GoalRows.{empty_to_next, empty_past}
use Rattle.goal_reach.proofs.Running.{next_is_free}
use Rattle.goal_reach.proofs.reaching.AreaCells.has_goal_cell_in_row.Goals as goal

pub past_alike-past-requires-clause-free : goal.past_alike-past-requires-clause-free
past_alike-past-requires-clause-free g c =
    let it = c.args.self.now in
    let passes = g.M.View.passes it.map.now it.class in let size = g.M.View.extent it.map.now in
    let last = c.requires.frame.last_column in
    let inside : (k : ℕ) → c.row.i ≤ k → k < it.frame.i1 + 1 → IsInside size (cell_at k c.args.j) =
    λ k _ before. record { column = omega arith; row = c.requires.row } in
    next_is_free (λ cell. IsTrue (passes cell)) Row c.args.j c.row.i (it.frame.i1 + 1) c.next_free-next.result c.min-i.result size
    c.new.result c.new.ensures c.min-i.ensures c.if-i-end.true inside c.next_free-next.ensures.reached c.next_free-next.ensures.found

pub row-preserved-then-i-end : goal.row-preserved-then-i-end
row-preserved-then-i-end g c =
    let it = c.args.self.now in
    let passes = g.M.View.passes it.map.now it.class in
    let gone = empty_to_next passes (contains it.goal.now) (Joined passes it.start) c.args.j it.frame.i0 (it.frame.i1 + 1)
    (g.M.View.extent it.map.now).w c.row.i c.next_free-next.result c.min-i.result c.new.result
    (λ cell joined. Joined-passes passes it.start cell c.requires.area.passable joined) c.new.ensures c.row-test.true c.min-i.ensures
    c.next_free-next.ensures c.row.invariant.1 in
    let begun = c.past_alike-past.ensures.stretch.begun in (
      c.past_alike-past.ensures.within,
      empty_past (contains it.goal.now) (Joined passes it.start) c.args.j it.frame.i0 c.min-i.result c.past_alike-past.result (omega arith)
          (c.has_goal_cell_at_ends.ensures.none c.if-has_goal_cell_at_ends.false) gone.1,
    )

pub row-preserved : goal.row-preserved
row-preserved g c =
    let it = c.args.self.now in
    let passes = g.M.View.passes it.map.now it.class in
    empty_to_next passes (contains it.goal.now) (Joined passes it.start) c.args.j it.frame.i0 (it.frame.i1 + 1)
    (g.M.View.extent it.map.now).w c.row.i c.next_free-next.result c.min-i.result c.new.result
    (λ cell joined. Joined-passes passes it.start cell c.requires.area.passable joined) c.new.ensures c.row-test.true c.min-i.ensures
    c.next_free-next.ensures c.row.invariant.1

pub returns-clause-none : goal.returns-clause-none
returns-clause-none g c = λ _ cell row begun last is_hit joined.
    c.row.invariant.1.none cell row begun (omega (arith, last, c.row-test.false)) is_hit joined

pub returns-then-is_row_missed-clause-none : goal.returns-then-is_row_missed-clause-none
returns-then-is_row_missed-clause-none g c = λ _ cell row begun last is_hit joined.
    c.is_row_missed.ensures c.if-is_row_missed.true cell row begun last is_hit
