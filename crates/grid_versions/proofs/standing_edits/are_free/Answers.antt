use Rattle.std.proofs.Common.{ℕ, ◌≡◌, ◌∙◌, None, get_or, subst, arith}
use Rattle.std.specs.FinMap as fin_map
use Rattle.std.proofs.lemmas.List.{get_or_default}
use Rattle.grid_versions.proofs.standing_edits.are_free.Goals as goal

pub returns : goal.returns
returns c = λ _ id has.
    let ids = c.args.ids.now in
    let low = has.1 in
    let same : get_or ids has.0 0 ≡ id = get_or_default ids has.0 0 id low ∙ has.2 in
    subst (λ (n : ℕ). fin_map.get c.args.shapes.now n ≡ None) same (c.loop-id.invariant has.0 (omega arith))
