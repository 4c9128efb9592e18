-- A field has one Far, one Next and one summary, and so has its area.
use Rattle.std.proofs.Common.{ℕ, ◌≡◌, ◌≢◌, ◌+◌, ◌≤◌, inl, inr, Bool, List, [], ◌∷◌, ◌++◌, take, drop, sum_by, Option, Some, None, refl, sym, ap, ◌∙◌, subst, arith}
use Rattle.std.specs.List.{Contains, AllPairs}
use Rattle.std.proofs.lemmas.List.{take-append-drop, drop_more}
use Rattle.std.proofs.lemmas.List.Elements.{All-contains, Contains-append_left, Contains-append_right, Contains-append_cases}
use Rattle.std.proofs.lemmas.List.Sums.{sum_by-cons, sum_by-append}
use Rattle.nav_types.specs.declared.cells.Cell.{Cell}
use Rattle.nav_types.specs.declared.directions.Dir.{Dir}
use Rattle.nav_types.specs.Counting.{Lists}
use Rattle.nav_types.specs.Directions.{step_cost}
use Rattle.nav_types.specs.Walks.{Joined}
use Rattle.nav_types.proofs.Counting.{Counts-unique}
use Rattle.nav_types.proofs.Items.{Contains-head, Contains-tail, Contains-cons_cases, AllPairs-tail, head_apart, from_map}
use Rattle.nav_types.proofs.Walking.{Joined-passes, Joined-sym, Joined-trans, step_cost_some}
use Rattle.posts.specs.declared.notes.FlowSummary.{FlowSummary}
use Rattle.walks.specs.Chosen.{preference, IsFirstIn, IsAnswer}
use Rattle.walks.proofs.Tracing.{chosen_walk}
use Rattle.flow_field.specs.Flows.{IsFar, Descends, IsNext, FieldCells, far_in, IsFieldOf, HasSummary}
use Rattle.flow_field.proofs.Reading.{IsNearest-unique}
use Rattle.flow_field.proofs.Following.{first_within}

pub one_far : (passes hit : Cell → Bool) (start cell : Cell) (a b : Option ℕ) → IsFar passes hit start cell a → IsFar passes hit start cell b → a ≡ b
one_far passes hit start cell None None p q = refl
one_far passes hit start cell None (Some n) p q = absurd (p q.0)
one_far passes hit start cell (Some m) None p q = absurd (q p.0)
one_far passes hit start cell (Some m) (Some n) p q = ap (λ (k : ℕ). Some k) (IsNearest-unique passes hit cell m n p.1 q.1)

-- the first of a list within a set is one
one_first : (Within : Dir → Type 0) (dirs : List Dir) (d e : Dir) → IsFirstIn Within dirs d → IsFirstIn Within dirs e → d ≡ e
one_first Within [] d e p q = absurd p
one_first Within (first ∷ rest) d e (inl p) (inl q) = p.1 ∙ sym q.1
one_first Within (first ∷ rest) d e (inl p) (inr q) = absurd (q.0 p.0)
one_first Within (first ∷ rest) d e (inr p) (inl q) = absurd (p.0 q.0)
one_first Within (first ∷ rest) d e (inr p) (inr q) = one_first Within rest d e p.1 q.1

-- where a step descends, the cell is of the area and no target
not_none : (passes hit : Cell → Bool) (start cell : Cell) (dir : Dir) → IsNext passes hit start cell None → IsNext passes hit start cell (Some dir) → ⊥
not_none passes hit start cell dir (inl apart) some = apart some.0
not_none passes hit start cell dir (inr zero_far) some =
    let descends = first_within (Descends passes hit cell) preference dir some.1 in
    omega (arith, IsNearest-unique passes hit cell 0 (descends.cost + step_cost dir) zero_far descends.here, step_cost_some dir)

pub one_next : (passes hit : Cell → Bool) (start cell : Cell) (a b : Option Dir) → IsNext passes hit start cell a → IsNext passes hit start cell b → a ≡ b
one_next passes hit start cell None None p q = refl
one_next passes hit start cell None (Some d) p q = absurd (not_none passes hit start cell d p q)
one_next passes hit start cell (Some d) None p q = absurd (not_none passes hit start cell d q p)
one_next passes hit start cell (Some d) (Some e) p q = ap (λ (k : Dir). Some k) (one_first (Descends passes hit cell) preference d e p.1 q.1)

-- a list that has each item once sums up to no more than one that has all of them
sum_most : {A : Type 0} (f : A → ℕ) (xs ys : List A) → AllPairs (λ a b. a ≢ b) xs → ((x : A) → Contains xs x → Contains ys x) → sum_by f xs ≤ sum_by f ys
sum_most f [] ys once within = omega arith
sum_most {A} f (x ∷ xs) ys once within =
    let has = within x (Contains-head x xs) in
    let front = take has.0 ys in
    let back = drop (has.0 + 1) ys in
    let split : front ++ (x ∷ back) ≡ ys = ap (λ (zs : List A). front ++ zs) (sym (drop_more ys has.0 x has.1 ∙ ap (λ (y : A). y ∷ back) has.2)) ∙ take-append-drop has.0 ys in
    let rest = sum_most f xs (front ++ back) (AllPairs-tail (λ a b. a ≢ b) x xs once) (λ y inside.
    elim (Contains-append_cases front (x ∷ back) y (subst (λ (zs : List A). Contains zs y) (sym split) (within y (Contains-tail x xs y inside)))) [
      | inl before ↦ Contains-append_left front back y before
      | inr from ↦ elim (Contains-cons_cases x back y from) [
        | inl same ↦ absurd (head_apart (λ a b. a ≢ b) x xs y once inside same)
        | inr after ↦ Contains-append_right front back y after
      ]
    ]) in
    omega (arith, rest, sum_by-cons f x xs, sum_by-cons f x back, sum_by-append f front (x ∷ back), sum_by-append f front back, ap (λ (zs : List A). sum_by f zs) split)

sum_same : {A : Type 0} (f : A → ℕ) (Kind : A → Type 0) (xs ys : List A) → Lists Kind xs → Lists Kind ys → sum_by f xs ≡ sum_by f ys
sum_same f Kind xs ys one two =
    let low = sum_most f xs ys one.once (λ x inside. two.all x (one.each x inside)) in
    let high = sum_most f ys xs two.once (λ x inside. one.all x (two.each x inside)) in
    omega arith

-- the farthest of one list is no farther than that of another
farthest_most : (passes hit : Cell → Bool) (start : Cell) (a b : FlowSummary) → HasSummary passes hit start a → HasSummary passes hit start b → a.farthest ≤ b.farthest
farthest_most passes hit start a b p q =
    let found = from_map (λ (far : Cell × ℕ). far.1) p.fars a.farthest p.reached in
    let there = q.lists.all found.0 (p.lists.each found.0 found.1.0) in
    omega (arith, All-contains (λ (far : Cell × ℕ). far.1 ≤ b.farthest) q.fars found.0 q.most there, found.1.1)

pub one_summary : (passes hit : Cell → Bool) (start : Cell) (a b : FlowSummary) → HasSummary passes hit start a → HasSummary passes hit start b → a ≡ b
one_summary passes hit start a b p q =
    let Kind : Cell × ℕ → Type 0 = λ far. IsFar passes hit start far.0 (Some far.1) in
    let cells : a.cells ≡ b.cells = Counts-unique Kind a.cells b.cells (p.fars, (p.lists, p.cells)) (q.fars, (q.lists, q.cells)) in
    let sum : a.sum ≡ b.sum = sym p.sum ∙ (sum_same (λ (far : Cell × ℕ). far.1) Kind p.fars q.fars p.lists q.lists ∙ q.sum) in
    let low = farthest_most passes hit start a b p q in
    let high = farthest_most passes hit start b a q p in
    let farthest : a.farthest ≡ b.farthest = omega arith in
    ap (λ (n : ℕ). let s : FlowSummary = record { cells = n; farthest = a.farthest; sum = a.sum } in s) cells
    ∙ (ap (λ (n : ℕ). let s : FlowSummary = record { cells = b.cells; farthest = n; sum = a.sum } in s) farthest
    ∙ ap (λ (n : ℕ). let s : FlowSummary = record { cells = b.cells; farthest = b.farthest; sum = n } in s) sum)

-- ---- two starts of one area

shared_far : (passes hit : Cell → Bool) (a b cell : Cell) (far : Option ℕ) → Joined passes a b → IsFar passes hit a cell far → IsFar passes hit b cell far
shared_far passes hit a b cell None joined apart = λ there. apart (Joined-trans passes a b cell joined there)
shared_far passes hit a b cell (Some cost) joined far = (Joined-trans passes b a cell (Joined-sym passes a b joined) far.0, far.1)

pub shared_field : (passes hit : Cell → Bool) (a b : Cell) (field : FieldCells) → IsFieldOf passes hit a field → Joined passes a b → IsFieldOf passes hit b field
shared_field passes hit a b field is joined = record {
  covers = is.covers;
  begins = Joined-passes passes a b is.begins joined;
  inside = is.inside;
  fars = λ cell inside. shared_far passes hit a b cell (far_in field cell) joined (is.fars cell inside);
}

pub shared_summary : (passes hit : Cell → Bool) (a b : Cell) (summary : FlowSummary) → HasSummary passes hit a summary → Joined passes a b → HasSummary passes hit b summary
shared_summary passes hit a b summary has joined =
    let lists = has.lists in
    record {
      fars = has.fars;
      lists = record {
        each = λ far inside. shared_far passes hit a b far.0 (Some far.1) joined (lists.each far inside);
        all = λ far is. lists.all far (shared_far passes hit b a far.0 (Some far.1) (Joined-sym passes a b joined) is);
        once = lists.once;
      };
      cells = has.cells;
      most = has.most;
      reached = has.reached;
      sum = has.sum;
    }

pub answer_far : (passes hit : Cell → Bool) (start end : Cell) (cost : ℕ) (points : List Cell) → IsAnswer passes start hit end cost points → IsFar passes hit start start (Some cost)
answer_far passes hit start end cost points answer = (
  ([], refl),
  record {
    walk = (
      answer.walk.0,
      record { target = end; is_hit = answer.is_hit; walk = chosen_walk passes start end answer.walk.0 answer.walk.1.0; costs = answer.walk.1.1.0 },
    );
    least = λ target dirs is_hit walk. answer.nearest target dirs is_hit walk;
  },
)
