use Rattle.std.proofs.Common.{ℕ, ◌≡◌, ◌⊎◌, ◌∙◌, get_or, inl, inr, subst, arith}
use Rattle.std.specs.List.{Contains}
use Rattle.std.proofs.lemmas.Bool.{cases_lt}
use Rattle.std.proofs.lemmas.List.{get_or_default}
use Rattle.grid_versions.proofs.reachers.unchanged_ids.Goals as goal

pub loop-id-preserved : goal.loop-id-preserved
loop-id-preserved c =
    let ids = c.args.ids.now in
    let changed = c.args.changed.now in
    let kept = c.keep_id.new.kept in
    let i : ℕ = c.loop-id.id-index in
    let made = c.in_ok-keep_id.ensures in
    record {
      either = λ k below. elim (cases_lt k i) [
        | inl early ↦ elim (c.loop-id.invariant.either k early) [
          | inl left ↦ inl left
          | inr has ↦ inr (made.kept (get_or ids k 0) has)
        ]
        | inr late ↦
            let same : i ≡ k = omega arith in
            subst (λ (p : ℕ). Contains changed (get_or ids p 0) ⊎ Contains kept (get_or ids p 0)) same made.either
      ];
    }

pub returns : goal.returns
returns c = λ id has.
    let ids = c.args.ids.now in
    let low = has.1 in
    let same : get_or ids has.0 0 ≡ id = get_or_default ids has.0 0 id low ∙ has.2 in
    subst (λ (n : ℕ). Contains c.args.changed.now n ⊎ Contains c.loop-id.kept n) same
    (c.loop-id.invariant.either has.0 (omega arith))
