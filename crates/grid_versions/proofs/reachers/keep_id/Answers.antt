use Rattle.std.proofs.Common.{List, [], ◌∷◌, ℕ, inr, sym, subst}
use Rattle.std.specs.List.{Contains}
use Rattle.std.proofs.lemmas.List.Elements.{Contains-push, Contains-append_left}
use Rattle.grid_versions.proofs.reachers.keep_id.Goals as goal

pub returns-clause-kept : goal.returns-clause-kept
returns-clause-kept c = λ n has.
    subst (λ (ids : List ℕ). Contains ids n) (sym c.in_ok-push.ensures.ok)
    (Contains-append_left c.args.kept.now (c.args.id ∷ []) n has)

pub returns-clause-either : goal.returns-clause-either
returns-clause-either c =
    inr (subst (λ (ids : List ℕ). Contains ids c.args.id) (sym c.in_ok-push.ensures.ok)
    (Contains-push c.args.kept.now c.args.id))
