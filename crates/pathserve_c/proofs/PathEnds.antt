-- How a path ends, by the targets of its goal.
use Rattle.std.proofs.Common.{◌≡◌, inl, inr, ◌==◌, ℕ, ℤ, Bool, true, false, Option, Some, None, Result, Ok, Err, IsTrue, if◌then◌else◌, refl, sym, ap, subst, ◌∙◌}
use Rattle.std.proofs.lemmas.Bool.{and_parts, both_ways, eqb-true}
use Rattle.nav_types.specs.declared.cells.Cell.{Cell}
use Rattle.fixed_point.specs.Plane.{IsOnAxis}
use Rattle.goal_shapes.specs.declared.goals.Goal.{Goal}
use Rattle.goal_reach.specs.declared.targets.Target.{Target}
use Rattle.goal_reach.specs.declared.targets.Target.TheVariants as target
use Rattle.goal_reach.specs.Starts.{IsStartCell}
use Rattle.goal_reach.specs.Targets.{AreTargets, hit_by, is_cell}
use Rattle.goal_reach.proofs.Starting.{one_start}
use Rattle.goal_reach.proofs.Targeting.{one_target}
use Rattle.posts.specs.declared.edits.Refusal.{Refusal}
use Rattle.posts.specs.declared.replies.Answer.{Answer}
use Rattle.posts.specs.declared.replies.PathAnswer.{PathAnswer}
use Rattle.posts.specs.declared.posts.Post.TheVariants.{Ask}
use Rattle.posts.specs.declared.posts.RegionQuery.{RegionQuery}
use Rattle.posts.specs.declared.posts.Request.{Request}
use Rattle.posts.specs.declared.posts.Request.TheVariants.{Path, Region}
use Rattle.flat_posts.specs.declared.posted.FlatPost.{FlatPost}
use Rattle.flat_posts.specs.Posts.{IsPost}
use Rattle.grid_versions.specs.Versions.{MapState, passes_of}
use Rattle.turn_core.specs.Solving.{IsAnswerAt, IsAnswerTo, IsPathAnswer, IsPathFound, IsPathTo, is_near}
use Rattle.pathserve_c.specs.declared.endings.PathEnd.{PathEnd}
use Rattle.pathserve_c.specs.declared.endings.PathEnd.TheVariants as end
use Rattle.pathserve_c.specs.Endings.{EndsAs, EndsSo, end_to}
use Rattle.pathserve_c.specs.Questions.{StartsAt}
use Rattle.pathserve_c.specs.inner.PathFields.{asks_path}

one_cell : (a b : Cell) → IsTrue (is_cell a b) → a ≡ b
one_cell a b same =
    let both = and_parts (b.i == a.i) (b.j == a.j) same in
    let i : b.i ≡ a.i = eqb-true b.i a.i both.0 in
    let j : b.j ≡ a.j = eqb-true b.j a.j both.1 in
    λ k. record { j = sym j k; i = sym i k }

near_end : (t : Target) (near : Bool) (cell : Cell) → near ≡ is_near t → IsTrue (hit_by t cell)
    → end_to t ≡ (if near then end.Near cell else end.AtGoal)
near_end (target.Goal goal) near cell is hit = sym (ap (λ (b : Bool). if b then end.Near cell else end.AtGoal) is)
near_end (target.Near only) near cell is hit =
    ap end.Near (one_cell only cell hit) ∙ sym (ap (λ (b : Bool). if b then end.Near cell else end.AtGoal) is)

ends_so : (passes : Cell → Bool) (x z : ℤ) (goal : Goal) (start : Cell) (t : Target) (path : PathAnswer) → IsStartCell passes x z start
    → AreTargets passes start goal t → IsPathAnswer passes x z goal path → end_to t ≡ (if path.near then end.Near path.end else end.AtGoal)
ends_so passes x z goal start t path starts targets is =
    let same : path.start ≡ start = one_start passes x z path.start start is.start_cell starts in
    let its : AreTargets passes start goal is.target = subst (λ (s : Cell). AreTargets passes s goal is.target) same is.targets in
    let one : t ≡ is.target = one_target passes start goal t is.target targets its in
    ap end_to one ∙ near_end is.target path.near path.end is.nearness is.walk.is_hit

-- a path from a start cell
pub ends_path : (passes : Cell → Bool) (x z : ℤ) (goal : Goal) (start : Cell) (t : Target) (how : PathEnd) → IsStartCell passes x z start
    → AreTargets passes start goal t → how ≡ end_to t → (told : Answer) → IsPathTo passes x z goal told → EndsAs told how
ends_path passes x z goal start t how starts targets is told (inl (none, nowhere)) = absurd (both_ways (passes start) (none start) starts.passable)
ends_path passes x z goal start t how starts targets is told (inr (path, (one, so))) =
    subst (λ (a : Answer). EndsAs a how) (sym one) (is ∙ ends_so passes x z goal start t path starts targets so)

-- a path that starts nowhere
pub ends_nowhere : (version : MapState) (k : ℕ) (x z : ℤ) (goal : Goal) → IsOnAxis version.map.size.w x → IsOnAxis version.map.size.h z
    → ((cell : Cell) → StartsAt version k x z cell → ⊥) → (told : Answer) → IsPathTo (passes_of version k) x z goal told → EndsAs told end.Nowhere
ends_nowhere version k x z goal column row none told (inl (all, is)) = subst (λ (a : Answer). EndsAs a end.Nowhere) (sym is) refl
ends_nowhere version k x z goal column row none told (inr (path, (is, so))) =
    absurd (none path.start (record { column = column; row = row; start = so.start_cell }))

-- ---- what is asked

pub region_is_no_path : (request : Request) (query : RegionQuery) → request ≡ Region query → IsTrue (asks_path request) → ⊥
region_is_no_path request query is asks =
    let path : IsTrue (asks_path (Region query)) = subst (λ (r : Request). IsTrue (asks_path r)) is asks in
    absurd (both_ways false refl path)

-- what is so of a request that asks for a path
pub ends_asked : (version : MapState) (post : FlatPost) (caller : ℕ) (request : Request) (how : PathEnd)
    → IsPost version.map post caller (Ask request) → IsTrue (asks_path request)
    → ((told : Answer) → IsAnswerTo version.map version.standing request told → EndsAs told how) → EndsSo version post how
ends_asked version post caller (Path request) how asks path ends = record { caller = caller; request = request; asks = asks; ends = ends }
ends_asked version post caller (Region query) how asks path ends = absurd (region_is_no_path (Region query) query refl path)

pub no_class : (named : Option ℕ) (on : Bool) (Answers : ℕ → Answer → Type 0) (told : Answer) → named ≡ None → IsAnswerAt named on Answers told
    → EndsAs told end.Refused
no_class named on Answers told none is =
    let so = subst (λ (n : Option ℕ). IsAnswerAt n on Answers told) none is in
    subst (λ (a : Answer). EndsAs a end.Refused) (sym so) refl

pub off_map : (named : Option ℕ) (on : Bool) (Answers : ℕ → Answer → Type 0) (told : Answer) (class : ℕ) → named ≡ Some class → on ≡ false
    → IsAnswerAt named on Answers told → EndsAs told end.Refused
off_map named on Answers told class some off is =
    let here = subst (λ (n : Option ℕ). IsAnswerAt n on Answers told) some is in
    let so = subst (λ (o : Bool). IsAnswerAt (Some class) o Answers told) off here in
    subst (λ (a : Answer). EndsAs a end.Refused) (sym so) refl

pub on_it : (named : Option ℕ) (on : Bool) (Answers : ℕ → Answer → Type 0) (told : Answer) (class : ℕ) → named ≡ Some class → on ≡ true
    → IsAnswerAt named on Answers told → Answers class told
on_it named on Answers told class some on_map is =
    subst (λ (o : Bool). IsAnswerAt (Some class) o Answers told) on_map (subst (λ (n : Option ℕ). IsAnswerAt n on Answers told) some is)

pub no_goal : {why : Refusal} (passes : Cell → Bool) (x z : ℤ) (found : Result Goal Refusal) (told : Answer) → found ≡ Err why
    → IsPathFound passes x z found told → EndsAs told end.Refused
no_goal passes x z found told is path =
    let so = subst (λ (f : Result Goal Refusal). IsPathFound passes x z f told) is path in
    subst (λ (a : Answer). EndsAs a end.Refused) (sym so) refl

pub to_goal : (passes : Cell → Bool) (x z : ℤ) (found : Result Goal Refusal) (goal : Goal) (told : Answer) → found ≡ Ok goal
    → IsPathFound passes x z found told → IsPathTo passes x z goal told
to_goal passes x z found goal told is path = subst (λ (f : Result Goal Refusal). IsPathFound passes x z f told) is path
