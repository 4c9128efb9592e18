use Rattle.std.proofs.Common.{ℕ, inl, refl, subst, arith, IsTrue}
use Rattle.nav_types.specs.Lines.{cell_on}
use Rattle.goal_reach.proofs.Joining.{stretch_found}
use Rattle.goal_reach.proofs.reaching.AreaCells.past_alike.Goals as goal

pub returns-then-not-stand_ends-clause-stretch : goal.returns-then-not-stand_ends-clause-stretch
returns-then-not-stand_ends-clause-stretch g c =
    let it = c.args.self.now in
    record {
      begun = omega arith;
      free = λ k at before. subst (λ (p : ℕ). IsTrue (g.M.View.passes it.map.now it.class (cell_on c.args.axis c.args.line p))) (omega arith) c.requires.free;
      several = inl refl;
    }

pub returns-clause-stretch : goal.returns-clause-stretch
returns-clause-stretch g c =
    let it = c.args.self.now in
    stretch_found (g.M.View.passes it.map.now it.class) it.goal.now c.args.axis c.args.line c.args.from c.args.end c.next_blocked.result c.min.result
    (g.M.View.extent it.map.now) c.cell_on-first.result c.cell_on-first.ensures c.requires.inside c.requires.free c.requires.end c.min.ensures
    c.next_blocked.ensures (c.stand_ends.ensures c.if-not-stand_ends.false)
