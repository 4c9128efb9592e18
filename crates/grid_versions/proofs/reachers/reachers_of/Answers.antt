use Rattle.std.proofs.Common.{ℕ, ◌≡◌, ◌∙◌, get_or, inl, inr, subst, arith}
use Rattle.std.proofs.lemmas.Bool.{cases_lt}
use Rattle.std.proofs.lemmas.List.{get_or_default}
use Rattle.grid_versions.specs.inner.Reachers.{HoldReached}
use Rattle.grid_versions.proofs.reachers.reachers_of.Goals as goal

pub loop-id-preserved : goal.loop-id-preserved
loop-id-preserved c =
    let map = c.args.site.now.map.now in
    let shapes = c.args.site.now.shapes.now in
    let ids = c.args.ids.now in
    let i : ℕ = c.loop-id.id-index in
    let here = c.loop-id.invariant in
    let made = c.in_ok-push_reacher.ensures in
    record {
      reached = λ k below. elim (cases_lt k i) [
        | inl early ↦ λ o stands class cell inside blocks.
            made.kept (get_or ids k 0) cell (here.reached k early o stands class cell inside blocks)
        | inr late ↦
            let same : i ≡ k = omega arith in
            subst (λ (p : ℕ). HoldReached map shapes c.push_reacher.new.reachers.items (get_or ids p 0)) same made.reached
      ];
    }

pub returns : goal.returns
returns c = λ id has.
    let ids = c.args.ids.now in
    let low = has.1 in
    let same : get_or ids has.0 0 ≡ id = get_or_default ids has.0 0 id low ∙ has.2 in
    subst (λ (n : ℕ). HoldReached c.args.site.now.map.now c.args.site.now.shapes.now c.loop-id.reachers.items n) same
    (c.loop-id.invariant.reached has.0 (omega arith))
