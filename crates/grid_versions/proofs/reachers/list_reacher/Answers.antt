use Rattle.std.proofs.Common.{List, [], ◌∷◌, ℕ, sym, subst}
use Rattle.std.specs.List.{Contains}
use Rattle.std.proofs.lemmas.Bool.{both_ways}
use Rattle.std.proofs.lemmas.List.Elements.{Contains-push, Contains-append_left}
use Rattle.grid_versions.proofs.reachers.list_reacher.Goals as goal

pub returns-clause-kept : goal.returns-clause-kept
returns-clause-kept c = λ n has.
    subst (λ (ids : List ℕ). Contains ids n) (sym c.in_ok-push.ensures.ok)
    (Contains-append_left c.args.ids.now (c.args.reacher.id ∷ []) n has)

pub returns-clause-listed : goal.returns-clause-listed
returns-clause-listed c = λ cell here inside.
    subst (λ (ids : List ℕ). Contains ids c.args.reacher.id) (sym c.in_ok-push.ensures.ok)
    (Contains-push c.args.ids.now c.args.reacher.id)

pub returns-then-not-meets-clause-listed : goal.returns-then-not-meets-clause-listed
returns-then-not-meets-clause-listed c = λ cell here inside.
    absurd (both_ways c.meets.result c.if-not-meets.true (c.meets.ensures.1 (cell, (here, inside))))
