use Rattle.std.proofs.Common.{◌-◌, ◌∙◌, sym, subst, arith, IsTrue}
use Rattle.std.proofs.lemmas.Bool.{both_ways}
use Rattle.nav_types.specs.declared.cells.Cell.{Cell}
use Rattle.nav_types.specs.declared.straights.Axis.TheVariants.{Row}
use Rattle.nav_types.specs.Cells.{cell_at}
use Rattle.nav_types.specs.Walks.{Joined}
use Rattle.goal_shapes.specs.Goals.{contains}
use Rattle.goal_reach.proofs.Joining.{stretch_reached}
use Rattle.goal_reach.proofs.Running.{in_run}
use Rattle.goal_reach.proofs.Stretching.{none_between}
use Rattle.goal_reach.proofs.reaching.AreaCells.has_goal_cell_at_ends.Goals as goal

pub returns-then-not-has-clause-none : goal.returns-then-not-has-clause-none
returns-then-not-has-clause-none g c = λ _ cell run hit joined.
    let it = c.args.self.now in
    let passes = g.M.View.passes it.map.now it.class in
    let first = (stretch_reached passes it.goal.now it.start Row c.args.j c.args.from c.args.past cell c.requires.stretch run).1 joined in
    both_ways c.has.result c.if-not-has.true (c.has.ensures.1 (subst (Joined passes it.start) (sym c.new-first.ensures) first))

pub returns-then-contains-clause-some : goal.returns-then-contains-clause-some
returns-then-contains-clause-some g c = λ _. (c.new-first.result, (sym c.contains.ensures ∙ c.if-contains.true, c.has.ensures.0 c.if-not-has.false))

pub returns-then-past-from-clause-none : goal.returns-then-past-from-clause-none
returns-then-past-from-clause-none g c = λ _ cell run hit joined.
    let it = c.args.self.now in
    let passes = g.M.View.passes it.map.now it.class in
    none_between passes it.goal.now c.args.j c.args.from c.args.past cell c.requires.stretch run
    (λ here. both_ways c.contains.result c.if-contains.false (c.contains.ensures ∙ subst (λ (d : Cell). IsTrue (contains it.goal.now d)) (sym c.new-first.ensures) here))
    (λ more. absurd (omega (arith, c.if-past-from.true))) hit

pub returns-clause-some : goal.returns-clause-some
returns-clause-some g c = λ is_hit.
    let it = c.args.self.now in
    let passes = g.M.View.passes it.map.now it.class in
    let begun = c.requires.stretch.begun in
    let last = in_run Row c.args.j c.args.from c.args.past (c.args.past - 1) (omega arith) (omega arith) in
    let first = subst (Joined passes it.start) c.new-first.ensures (c.has.ensures.0 c.if-not-has.false) in
    let joined = (stretch_reached passes it.goal.now it.start Row c.args.j c.args.from c.args.past (cell_at (c.args.past - 1) c.args.j) c.requires.stretch last).0 first in
    (c.new.result, (sym c.contains-2.ensures ∙ is_hit, subst (Joined passes it.start) (sym c.new.ensures) joined))

pub returns-clause-none : goal.returns-clause-none
returns-clause-none g c = λ missed cell run hit joined.
    let it = c.args.self.now in
    let passes = g.M.View.passes it.map.now it.class in
    none_between passes it.goal.now c.args.j c.args.from c.args.past cell c.requires.stretch run
    (λ here. both_ways c.contains.result c.if-contains.false (c.contains.ensures ∙ subst (λ (d : Cell). IsTrue (contains it.goal.now d)) (sym c.new-first.ensures) here))
    (λ more there. both_ways c.contains-2.result missed (c.contains-2.ensures ∙ subst (λ (d : Cell). IsTrue (contains it.goal.now d)) (sym c.new.ensures) there)) hit
