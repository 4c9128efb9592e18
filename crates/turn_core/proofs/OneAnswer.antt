-- A request has one answer on a map with what stands on it.
use Rattle.std.proofs.Common.{◌≡◌, ℕ, Bool, true, false, ℤ, List, Option, None, Some, Ok, Err, sym, ap, ◌∙◌, subst, inl, inr}
use Rattle.std.specs.Prelude.{Result}
use Rattle.nav_types.proofs.Regions.{one_region, one_area}
use Rattle.nav_types.specs.declared.cells.Cell.{Cell}
use Rattle.nav_types.specs.Cells.{chunk_of}
use Rattle.nav_types.specs.Regions.{HasRegion, HasArea}
use Rattle.goal_shapes.specs.declared.goals.Goal.{Goal}
use Rattle.goal_reach.specs.declared.targets.Target.{Target}
use Rattle.goal_reach.specs.Targets.{AreTargets, hit_by}
use Rattle.goal_reach.proofs.Targeting.{one_target}
use Rattle.goal_reach.proofs.Starting.{one_holder, one_start}
use Rattle.walks.specs.Chosen.{IsAnswer}
use Rattle.walks.proofs.OneAnswer.{one_answer}
use Rattle.posts.specs.declared.edits.Refusal.{Refusal}
use Rattle.posts.specs.declared.posts.Request.{Request}
use Rattle.posts.specs.declared.posts.Request.TheVariants.{Path as AsksPath, Region as AsksRegion}
use Rattle.posts.specs.declared.replies.PathAnswer.{PathAnswer}
use Rattle.posts.specs.declared.replies.RegionAnswer.{RegionAnswer}
use Rattle.posts.specs.declared.replies.Answer.{Answer}
use Rattle.posts.specs.declared.replies.Answer.TheVariants.{Path as IsPath, Region as IsRegion}
use Rattle.posts.specs.Maps.{Map}
use Rattle.grid_versions.specs.Passing.{passable_at}
use Rattle.turn_core.specs.Words.{Standing}
use Rattle.turn_core.specs.NamedGoals.{class_named, is_on_map, goal_found}
use Rattle.turn_core.specs.Solving.{IsImpassable, is_near, IsPathAnswer, IsPathTo, IsPathFound, IsRegionAnswer, IsRegionAt, IsAnswerAt, IsAnswerTo, AreAnswersTo}
use Rattle.turn_core.proofs.Itemwise.{IsItemwise, itemwise_unique}

-- ---- paths

same_path : (a b : PathAnswer) → a.start ≡ b.start → a.end ≡ b.end → a.near ≡ b.near → a.cost.0 ≡ b.cost.0 → a.waypoints ≡ b.waypoints → a ≡ b
same_path a b p q r s t = λ i. record { start = p i; end = q i; near = r i; cost = record { 0 = s i }; waypoints = t i }

-- the answer of a walk to the target of the other path, which is the same
one_walk : (passes : Cell → Bool) (a b : PathAnswer) (goal : Goal) (t u : Target) → a.start ≡ b.start → AreTargets passes a.start goal t → AreTargets passes b.start goal u
    → a.near ≡ is_near t → b.near ≡ is_near u → IsAnswer passes a.start (hit_by t) a.end a.cost.0 a.waypoints → IsAnswer passes b.start (hit_by u) b.end b.cost.0 b.waypoints → a ≡ b
one_walk passes a b goal t u start at bt an bn aw bw =
    let same : t ≡ u = one_target passes a.start goal t u at (subst (λ (c : Cell). AreTargets passes c goal u) (sym start) bt) in
    let moved : IsAnswer passes a.start (hit_by u) b.end b.cost.0 b.waypoints =
    subst (λ (c : Cell). IsAnswer passes c (hit_by u) b.end b.cost.0 b.waypoints) (sym start) bw in
    let walk : IsAnswer passes a.start (hit_by t) b.end b.cost.0 b.waypoints =
    subst (λ (v : Target). IsAnswer passes a.start (hit_by v) b.end b.cost.0 b.waypoints) (sym same) moved in
    let one = one_answer passes a.start (hit_by t) a.end b.end a.cost.0 b.cost.0 a.waypoints b.waypoints aw walk in
    same_path a b start one.0 (an ∙ ap is_near same ∙ sym bn) one.1.0 one.1.1

one_path : (passes : Cell → Bool) (x z : ℤ) (goal : Goal) (a b : PathAnswer) → IsPathAnswer passes x z goal a → IsPathAnswer passes x z goal b → a ≡ b
one_path passes x z goal a b p q =
    one_walk passes a b goal p.target q.target (one_start passes x z a.start b.start p.start_cell q.start_cell)
    p.targets q.targets p.nearness q.nearness p.walk q.walk

-- a start is passable
path_passes : (passes : Cell → Bool) (x z : ℤ) (goal : Goal) (a : PathAnswer) → IsImpassable passes → IsPathAnswer passes x z goal a → ⊥
path_passes passes x z goal a none is =
    let no : passes a.start ≡ false = none a.start in
    let yes : passes a.start ≡ true = is.start_cell.passable in
    cc

one_path_to : (passes : Cell → Bool) (x z : ℤ) (goal : Goal) (a b : Answer) → IsPathTo passes x z goal a → IsPathTo passes x z goal b → a ≡ b
one_path_to passes x z goal a b (inl p) (inl q) = p.1 ∙ sym q.1
one_path_to passes x z goal a b (inl p) (inr q) = absurd (path_passes passes x z goal q.0 p.0 q.1.1)
one_path_to passes x z goal a b (inr p) (inl q) = absurd (path_passes passes x z goal p.0 q.0 p.1.1)
one_path_to passes x z goal a b (inr p) (inr q) = p.1.0 ∙ ap IsPath (one_path passes x z goal p.0 q.0 p.1.1 q.1.1) ∙ sym q.1.0

one_path_found : (passes : Cell → Bool) (x z : ℤ) (found : Result Goal Refusal) (a b : Answer) → IsPathFound passes x z found a → IsPathFound passes x z found b → a ≡ b
one_path_found passes x z (Err refusal) a b p q = p ∙ sym q
one_path_found passes x z (Ok goal) a b p q = one_path_to passes x z goal a b p q

-- ---- regions

same_region_answer : (a b : RegionAnswer) → a.ci ≡ b.ci → a.cj ≡ b.cj → a.region ≡ b.region → a.area ≡ b.area → a ≡ b
same_region_answer a b p q r s = λ i. record { ci = p i; cj = q i; region = r i; area = s i }

one_region_answer : (passes : Cell → Bool) (x z : ℤ) (a b : RegionAnswer) → IsRegionAnswer passes x z a → IsRegionAnswer passes x z b → a ≡ b
one_region_answer passes x z a b p q =
    let same : p.cell ≡ q.cell = one_holder x z p.cell q.cell p.holder q.holder in
    let region : HasRegion passes (chunk_of p.cell) p.cell b.region = subst (λ (c : Cell). HasRegion passes (chunk_of c) c b.region) (sym same) q.region_number in
    let area : HasArea passes p.cell b.area = subst (λ (c : Cell). HasArea passes c b.area) (sym same) q.area_number in
    same_region_answer a b
    (p.chunk_column ∙ ap (λ (c : Cell). (chunk_of c).ci) same ∙ sym q.chunk_column)
    (p.chunk_row ∙ ap (λ (c : Cell). (chunk_of c).cj) same ∙ sym q.chunk_row)
    (one_region passes (chunk_of p.cell) p.cell a.region b.region p.region_number region)
    (one_area passes p.cell a.area b.area p.area_number area)

one_region_at : (passes : Cell → Bool) (x z : ℤ) (a b : Answer) → IsRegionAt passes x z a → IsRegionAt passes x z b → a ≡ b
one_region_at passes x z a b p q = p.1.0 ∙ ap IsRegion (one_region_answer passes x z p.0 q.0 p.1.1 q.1.1) ∙ sym q.1.0

-- ---- requests

one_at : (named : Option ℕ) (on_map : Bool) (Answers : ℕ → Answer → Type 0) (a b : Answer)
    → ((class : ℕ) → Answers class a → Answers class b → a ≡ b) → IsAnswerAt named on_map Answers a → IsAnswerAt named on_map Answers b → a ≡ b
one_at None on_map Answers a b one p q = p ∙ sym q
one_at (Some class) false Answers a b one p q = p ∙ sym q
one_at (Some class) true Answers a b one p q = one class p q

pub one_answer_to : (map : Map) (standing : Standing) (request : Request) (a b : Answer) → IsAnswerTo map standing request a → IsAnswerTo map standing request b → a ≡ b
unfolding IsAnswerTo
one_answer_to map standing (AsksPath request) a b p q =
    let found = goal_found map standing request.goal in
    let Answers : ℕ → Answer → Type 0 = λ class. IsPathFound (passable_at map standing class) request.x request.z found in
    one_at (class_named map request.class) (is_on_map map.size request.x request.z) Answers a b
    (λ class. one_path_found (passable_at map standing class) request.x request.z found a b) p q
one_answer_to map standing (AsksRegion query) a b p q =
    let Answers : ℕ → Answer → Type 0 = λ class. IsRegionAt (passable_at map standing class) query.x query.z in
    one_at (class_named map query.class) (is_on_map map.size query.x query.z) Answers a b
    (λ class. one_region_at (passable_at map standing class) query.x query.z a b) p q

pub answers_itemwise : (map : Map) (standing : Standing) → IsItemwise (IsAnswerTo map standing) (AreAnswersTo map standing)
answers_itemwise map standing = record {
  none = tt;
  fewer = λ x xs are. are;
  further = λ y ys are. are;
  both = λ x xs y ys. (λ are. are, λ are. are);
}

pub one_answers : (map : Map) (standing : Standing) (requests : List Request) (a b : List Answer) → AreAnswersTo map standing requests a → AreAnswersTo map standing requests b → a ≡ b
one_answers map standing =
    itemwise_unique (IsAnswerTo map standing) (AreAnswersTo map standing) (answers_itemwise map standing) (one_answer_to map standing)
