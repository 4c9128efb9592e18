use Rattle.std.proofs.Common.{◌≡◌, ◌≢◌, ◌++◌, ◌∙◌, ℕ, List, [], ◌∷◌, ap, sym, subst}
use Rattle.std.specs.Prelude.{option_to_list}
use Rattle.std.specs.FinMap as fin_map
use Rattle.nav_types.specs.declared.cells.Rect.{Rect}
use Rattle.obstruction_store.specs.Standing.{Standing, AllFit}
use Rattle.grid_versions.specs.inner.Reaching.{CoverChanges, NameChanges}
use Rattle.grid_versions.proofs.EditingLemmas.{AllFit-after_edit}
use Rattle.grid_versions.proofs.ReachLemmas.{edit_elsewhere, covers_more, names_more}
use Rattle.grid_versions.proofs.standing_edits.apply_listed.Goals as goal

pub reach_under-after-requires : goal.reach_under-after-requires
reach_under-after-requires c =
    subst (λ (s : Standing). AllFit c.args.map.now.size s) (sym c.in_ok-reply.ensures.standing)
    (AllFit-after_edit c.args.map.now c.args.shapes.now c.args.edit c.requires)

pub returns-clause-covers : goal.returns-clause-covers
returns-clause-covers c = λ first covers.
    let map = c.args.map.now in
    let old = c.args.shapes.now in
    let new = c.apply.new.shapes in
    let was = c.reach_under-before.result in
    let is = c.reach_under-after.result in
    let others : (n : ℕ) → n ≢ c.id-id.result → fin_map.get new n ≡ fin_map.get old n = λ n other.
    ap (λ (s : Standing). fin_map.get s n) c.in_ok-reply.ensures.standing
    ∙ edit_elsewhere map old c.args.edit n (λ same. other (same ∙ sym c.id-id.ensures)) in
    subst (λ (rects : List Rect). CoverChanges map first new rects)
    (sym (c.in_ok-list-2.ensures ∙ ap (λ (rects : List Rect). rects ++ option_to_list is) c.in_ok-list.ensures))
    (covers_more map first old new c.id-id.result c.args.reaches.now was is others c.reach_under-before.ensures
    c.reach_under-after.ensures covers)

pub returns-clause-names : goal.returns-clause-names
returns-clause-names c = λ first names.
    let map = c.args.map.now in
    let old = c.args.shapes.now in
    let new = c.apply.new.shapes in
    let id = c.id-id.result in
    let was = c.reach_under-before.result in
    let is = c.reach_under-after.result in
    let others : (n : ℕ) → n ≢ id → fin_map.get new n ≡ fin_map.get old n = λ n other.
    ap (λ (s : Standing). fin_map.get s n) c.in_ok-reply.ensures.standing
    ∙ edit_elsewhere map old c.args.edit n (λ same. other (same ∙ sym c.id-id.ensures)) in
    subst (λ (ids : List ℕ). NameChanges map first new c.list-2.new.reaches ids) (sym c.in_ok-push.ensures.ok)
    (subst (λ (rects : List Rect). NameChanges map first new rects (c.args.ids.now ++ id ∷ []))
    (sym (c.in_ok-list-2.ensures ∙ ap (λ (rects : List Rect). rects ++ option_to_list is) c.in_ok-list.ensures))
    (names_more map first old new id c.args.reaches.now c.args.ids.now was is others c.reach_under-after.ensures names))
