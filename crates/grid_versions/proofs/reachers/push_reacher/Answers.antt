use Rattle.std.proofs.Common.{List, sym, subst}
use Rattle.grid_versions.specs.declared.reachers.Reacher.{Reacher}
use Rattle.grid_versions.specs.inner.Reachers.{IsReachNoted}
use Rattle.grid_versions.proofs.ReacherLemmas.{IsReachNoted-push, IsReachNoted-last}
use Rattle.grid_versions.proofs.reachers.push_reacher.Goals as goal

pub returns-in_default-clause-reached : goal.returns-in_default-clause-reached
returns-in_default-clause-reached c = λ o stands k cell inside blocks.
    absurd (c.in_default.ensures o stands k cell inside blocks)

pub returns-clause-kept : goal.returns-clause-kept
returns-clause-kept c = λ n cell is.
    let made : Reacher = record { id = c.args.id; rect = c.in-Some.rect } in
    subst (λ (all : List Reacher). IsReachNoted all n cell) (sym c.in_ok-push.ensures.items)
    (IsReachNoted-push c.args.reachers.now.items made n cell is)

pub returns-clause-reached : goal.returns-clause-reached
returns-clause-reached c = λ o stands k cell inside blocks.
    let made : Reacher = record { id = c.args.id; rect = c.in-Some.rect } in
    subst (λ (all : List Reacher). IsReachNoted all c.args.id cell) (sym c.in_ok-push.ensures.items)
    (IsReachNoted-last c.args.reachers.now.items made cell (c.in-Some.ensures o stands k cell inside blocks))
