use Rattle.std.proofs.Common.{ℕ, ◌≡◌, ◌∙◌, List, [], ◌∷◌, ◌++◌, inl, inr, ap, sym, subst}
use Rattle.std.specs.List.{Contains}
use Rattle.std.specs.FinMap as fin_map
use Rattle.std.proofs.lemmas.List.Elements.{Contains-push, Contains-append_left}
use Rattle.nav_types.proofs.Items.{Contains-cons_cases, Contains-none}
use Rattle.obstruction_shapes.specs.declared.shapes.Obstruction.{Obstruction}
use Rattle.obstruction_store.proofs.Listing.{Contains-entries}
use Rattle.grid_versions.proofs.reachers.standing_ids.Goals as goal

pub loop-id-init : goal.loop-id-init
loop-id-init c =
    let all = fin_map.entries c.args.shapes.now in
    let same : all ≡ c.into_iter-id-iterator.result =
    sym (c.into_iter-id-iterator.ensures.into_iter_gives ∙ c.entries-id-items.ensures ∙ ap fin_map.entries c.in_ok-listed.ensures) in
    record {
      all = λ entry has. inl (subst (λ (xs : List (ℕ × Obstruction)). Contains xs entry) same has);
    }

pub loop-id-preserved : goal.loop-id-preserved
loop-id-preserved c =
    let first : ℕ × Obstruction = (c.in-Some.id, c.in-Some.field-0-1.now) in
    let rest = c.next.new.self in
    let ids = c.loop-id.ids in
    let steps : c.loop-id.id-iterator ≡ first ∷ rest = c.in-Some.ensures.steps in
    record {
      all = λ entry has. elim (c.loop-id.invariant.all entry has) [
        | inl left ↦ elim (Contains-cons_cases first rest entry
            (subst (λ (xs : List (ℕ × Obstruction)). Contains xs entry) steps left)) [
              | inl here ↦ inr (subst (λ (xs : List ℕ). Contains xs entry.0) (sym c.in_ok-push.ensures.ok)
                  (subst (λ (n : ℕ). Contains (ids ++ c.in-Some.id ∷ []) n) (ap (λ (e : ℕ × Obstruction). e.0) here)
                  (Contains-push ids c.in-Some.id)))
              | inr later ↦ inl later
            ]
        | inr done ↦ inr (subst (λ (xs : List ℕ). Contains xs entry.0) (sym c.in_ok-push.ensures.ok)
            (Contains-append_left ids (c.in-Some.id ∷ []) entry.0 done))
      ];
    }

pub returns : goal.returns
returns c = λ id obstruction stands.
    let entry : ℕ × Obstruction = (id, obstruction) in
    let steps : c.loop-id.id-iterator ≡ [] = c.in-None.ensures.steps.0 in
    elim (c.loop-id.invariant.all entry ((Contains-entries c.args.shapes.now id obstruction).1 stands)) [
      | inl left ↦ absurd (Contains-none entry (subst (λ (xs : List (ℕ × Obstruction)). Contains xs entry) steps left))
      | inr done ↦ done
    ]
