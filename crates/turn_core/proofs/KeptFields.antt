-- Fields that are kept for the next request.
use Rattle.std.proofs.Common.{◌≡◌, ℕ, IsTrue, subst, sym, refl}
use Rattle.nav_types.specs.declared.cells.Cell.{Cell}
use Rattle.nav_types.specs.Regions.{HasArea}
use Rattle.nav_types.specs.Walks.{Joined}
use Rattle.goal_reach.specs.declared.targets.Target.{Target}
use Rattle.goal_reach.specs.Targets.{hit_by}
use Rattle.flow_field.specs.Flows.{IsFieldOf, HasSummary}
use Rattle.flow_field.proofs.SameFields.{shared_field, shared_summary}
use Rattle.grid_versions.specs.Versions.{MapState, passes_of}
use Rattle.grid_versions.specs.inner.PassingLaws.{area_joined}
use Rattle.turn_core.specs.declared.last_fields.LastField.{LastField}
use Rattle.turn_core.specs.inner.Searching.{CanFind, IsFieldOn, Serves}

-- a kept field of the same class, area and target serves a start
pub kept_serves : (state : MapState) (last : LastField) (start : Cell) (target : Target) (class area : ℕ)
    → IsFieldOn state last → CanFind state class start target → HasArea (passes_of state class) start area
    → last.class ≡ class → last.area ≡ area → last.target ≡ target → Serves state class start target last
kept_serves state last start target class area on can has same_class same_area same_target =
    let passes = passes_of state last.class in
    let hit = hit_by last.target in
    let starts : IsTrue (passes start) = subst (λ (k : ℕ). IsTrue (passes_of state k start)) (sym same_class) can.passes in
    let in_class : HasArea passes start area = subst (λ (k : ℕ). HasArea (passes_of state k) start area) (sym same_class) has in
    let in_area : HasArea passes start last.area = subst (λ (n : ℕ). HasArea passes start n) (sym same_area) in_class in
    let joined : Joined passes on.start start = (area_joined passes on.start start last.area last.area on.passes starts on.area in_area).0 refl in
    let field : IsFieldOf passes hit start last.field = shared_field passes hit on.start start last.field on.field joined in
    let summary : HasSummary passes hit start last.summary = shared_summary passes hit on.start start last.summary on.summary joined in
    let field_of : IsFieldOf (passes_of state class) hit start last.field =
    subst (λ (k : ℕ). IsFieldOf (passes_of state k) hit start last.field) same_class field in
    let summary_of : HasSummary (passes_of state class) hit start last.summary =
    subst (λ (k : ℕ). HasSummary (passes_of state k) hit start last.summary) same_class summary in
    record {
      field = subst (λ (t : Target). IsFieldOf (passes_of state class) (hit_by t) start last.field) same_target field_of;
      summary = subst (λ (t : Target). HasSummary (passes_of state class) (hit_by t) start last.summary) same_target summary_of;
    }
