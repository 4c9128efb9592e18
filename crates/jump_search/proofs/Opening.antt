-- How many nodes a search has opened.
use Rattle.std.proofs.Common.{ℕ, zero, suc, ◌≡◌, ◌≢◌, ◌+◌, ◌≤◌, Bool, true, IsTrue, List, []}
use Rattle.std.proofs.Common.{◌∷◌, length, map, get_or, Some, inl, inr, refl, sym, subst, ap, ◌∙◌, arith}
use Rattle.std.specs.List.{AllPairs, Contains, filter, count_by, slice_get}
use Rattle.std.proofs.lemmas.Bool.{cases_lt, cond-true, cond-false, both_ways, cases_Bool}
use Rattle.std.proofs.lemmas.List.{length-map}
use Rattle.std.proofs.lemmas.List.Sums.{length-filter}
use Rattle.std.proofs.lemmas.List.Kept.{AllPairs-filter}
use Rattle.std.proofs.lemmas.Option.{slice_get-get_or}
use Rattle.nav_types.specs.declared.cells.Cell.{Cell}
use Rattle.nav_types.specs.declared.cells.Rect.{Rect}
use Rattle.nav_types.specs.Counting.{Counts}
use Rattle.nav_types.proofs.Items.{Contains-head, Contains-tail, Contains-cons_cases, Contains-none, Contains-map}
use Rattle.nav_types.proofs.Items.{from_map, Contains-from_slice_get, AllPairs-map}
use Rattle.nav_types.proofs.Counting.{no_longer}
use Rattle.jump_search.specs.declared.nodes.Node.{Node}
use Rattle.jump_search.specs.declared.states.JumpState.{JumpState}
use Rattle.jump_search.specs.Estimates.{IsConsistent}
use Rattle.jump_search.specs.JumpStates.{octile_to, AreJumps, jumps_cost, IsPrunedCost, IsOpened}
use Rattle.jump_search.specs.inner.Searched.{AreMet, IsSearched}
use Rattle.jump_search.proofs.Bounding.{bounded}
use Rattle.jump_search.proofs.Ending.{closed_end}

-- the items that pass a test

Contains-filter : {A : Type 0} (p : A → Bool) (xs : List A) (x : A) → Contains xs x → IsTrue (p x)
    → Contains (filter p xs) x
Contains-filter p [] x has is = absurd (Contains-none x has)
Contains-filter p (y ∷ ys) x has is = elim (cases_Bool (p y)) [
  | inl kept ↦ subst (λ l. Contains l x) (sym (cond-true (p y) (y ∷ filter p ys) (filter p ys) kept))
      (elim (Contains-cons_cases y ys x has) [
        | inl here ↦ subst (λ z. Contains (y ∷ filter p ys) z) here (Contains-head y (filter p ys))
        | inr later ↦ Contains-tail y (filter p ys) x (Contains-filter p ys x later is)
      ])
  | inr left ↦ subst (λ l. Contains l x) (sym (cond-false (p y) (y ∷ filter p ys) (filter p ys) left))
      (elim (Contains-cons_cases y ys x has) [
        | inl here ↦ absurd (both_ways (p y) left (subst (λ z. IsTrue (p z)) (sym here) is))
        | inr later ↦ Contains-filter p ys x later is
      ])
]

from_filter : {A : Type 0} (p : A → Bool) (xs : List A) (x : A) → Contains (filter p xs) x → Contains xs x
    × IsTrue (p x)
from_filter p [] x has = absurd (Contains-none x has)
from_filter p (y ∷ ys) x has = elim (cases_Bool (p y)) [
  | inl kept ↦ elim (Contains-cons_cases y (filter p ys) x
      (subst (λ l. Contains l x) (cond-true (p y) (y ∷ filter p ys) (filter p ys) kept) has)) [
        | inl here ↦ (subst (λ z. Contains (y ∷ ys) z) here (Contains-head y ys), subst (λ z. IsTrue (p z)) here kept)
        | inr later ↦ (let rest = from_filter p ys x later in (Contains-tail y ys x rest.0, rest.1))
      ]
  | inr left ↦ (let rest = from_filter p ys x (subst (λ l. Contains l x)
      (cond-false (p y) (y ∷ filter p ys) (filter p ys) left) has) in (Contains-tail y ys x rest.0, rest.1))
]

-- the states of the opened nodes

abbrev pub opened_states : List Node → List JumpState
opened_states nodes = map (λ (n : Node). n.state) (filter (λ (n : Node). n.opened) nodes)

opened_once : (passes hit : Cell → Bool) (start : Cell) (nodes : List Node) → AreMet passes hit start nodes
    → AllPairs (λ a b. a ≢ b) (opened_states nodes)
opened_once passes hit start nodes met =
    let Apart = λ (a b : Node). a.state ≢ b.state in
    let all : AllPairs Apart nodes = λ i j d less within same.
    (let at = met.once i j (get_or nodes i d) (get_or nodes j d) (slice_get-get_or nodes i d (omega arith))
    (slice_get-get_or nodes j d within) same in
    omega (arith, at, less)) in
    AllPairs-map Apart (λ a b. a ≢ b) (λ (n : Node). n.state) (filter (λ (n : Node). n.opened) nodes)
    (AllPairs-filter Apart (λ (n : Node). n.opened) nodes all) (λ a b in_a in_b apart. apart)

length-opened : (nodes : List Node) → length (opened_states nodes) ≡ count_by (λ (n : Node). n.opened) nodes
length-opened nodes =
    length-map _ _ ∙ length-filter (λ (n : Node). n.opened) nodes

-- an opened node by its state
record OpenedAs (nodes : List Node) (state : JumpState) : Type 0 where
  place : ℕ
  node : Node
  known : slice_get nodes place ≡ Some node
  opened : IsTrue node.opened
  same : node.state ≡ state

opened_as : (nodes : List Node) (state : JumpState) → Contains (opened_states nodes) state → OpenedAs nodes state
opened_as nodes state has =
    let kept = from_map (λ (n : Node). n.state) (filter (λ (n : Node). n.opened) nodes) state has in
    let of = from_filter (λ (n : Node). n.opened) nodes kept.0 kept.1.0 in
    record {
      place = of.0.0;
      node = kept.0;
      known = slice_get-get_or nodes of.0.0 kept.0 of.0.1 ∙ ap (λ (n : Node). Some n) of.0.2;
      opened = of.1;
      same = kept.1.1;
    }

-- all of them are opened states, and each opened state is one of them

opened_pruned : (passes hit : Cell → Bool) (start : Cell) (rect : Rect) (end : Cell) (bound : ℕ) (nodes : List Node)
    → IsTrue (passes start) → IsConsistent passes hit (octile_to rect) → IsSearched true passes hit start (octile_to rect) end bound nodes → (state : JumpState) → OpenedAs nodes state
    → IsOpened passes hit start rect bound state
opened_pruned passes hit start rect end bound nodes passing consistent searched state has =
    let node = has.node in
    let P = λ (s : JumpState). IsOpened passes hit start rect bound s in
    let reached = searched.met.reached has.place node has.known in
    let near = searched.within has.place node has.known has.opened in
    subst P has.same (record {
      cost = node.cost;
      pruned = record {
        jumps = reached;
        least = λ before jumps. (elim (cases_lt bound (jumps_cost before node.state + octile_to rect node.state.cell)) [
          | inl far ↦ omega (arith, far, near)
          | inr close ↦
              let other = bounded passes hit start (octile_to rect) bound nodes
              (closed_end true passes hit start (octile_to rect) end bound nodes searched passing consistent) before node.state jumps close in
              let cheap = other.cheap in
              let at = searched.met.once other.place has.place other.node node other.known has.known other.same in
              let one : Some other.node ≡ Some node = sym other.known ∙ (ap (slice_get nodes) at ∙ has.known) in
              let costs : other.node.cost ≡ node.cost =
              (let e : other.node ≡ node = cc in ap (λ (n : Node). n.cost) e) in
              omega (arith, cheap, costs)
        ]);
      };
      near = near;
    })

pub opened_number : (passes hit : Cell → Bool) (start : Cell) (rect : Rect) (end : Cell) (bound : ℕ) (nodes : List Node)
    → IsTrue (passes start) → IsConsistent passes hit (octile_to rect) → IsSearched true passes hit start (octile_to rect) end bound nodes
    → Counts (IsOpened passes hit start rect bound) (count_by (λ (n : Node). n.opened) nodes)
opened_number passes hit start rect end bound nodes passing consistent searched = (
  opened_states nodes,
  (
    record {
      each = λ state has. opened_pruned passes hit start rect end bound nodes passing consistent searched state
          (opened_as nodes state has);
      all = λ state opened.
          (let jumps = opened.pruned.jumps in
          let near = opened.near in
          let sums = jumps.1.1 in
          let found = bounded passes hit start (octile_to rect) bound nodes
          (closed_end true passes hit start (octile_to rect) end bound nodes searched passing consistent) jumps.0 state jumps.1.0
          (omega (arith, near, sums)) in
          subst (λ (s : JumpState). Contains (opened_states nodes) s) found.same
          (Contains-map (λ (n : Node). n.state) (filter (λ (n : Node). n.opened) nodes) found.node
          (Contains-filter (λ (n : Node). n.opened) nodes found.node
          (Contains-from_slice_get nodes found.place found.node found.known) found.opened)));
      once = opened_once passes hit start nodes searched.met;
    },
    length-opened nodes,
  ),
)

-- A state to which jumps lead within the bound can't but be opened, so no more nodes than opened states are opened.

-- some list of jumps has the least cost
least_jumps : (passes hit : Cell → Bool) (start : Cell) (state : JumpState) (most : ℕ) (before : List JumpState)
    → AreJumps passes hit start before state
    → jumps_cost before state ≤ most → ((cost : ℕ) → IsPrunedCost passes hit start state cost → cost ≤ jumps_cost before
    state → ⊥) → ⊥
least_jumps passes hit start state zero before jumps below none =
    none (jumps_cost before state) (record
    { jumps = (before, (jumps, refl)); least = λ others other. omega (arith, below) }) (omega arith)
least_jumps passes hit start state (suc most) before jumps below none =
    none (jumps_cost before state)
    (record {
      jumps = (before, (jumps, refl));
      least = λ others other. (elim (cases_lt (jumps_cost others state) (jumps_cost before state)) [
        | inl less ↦ absurd (least_jumps passes hit start state most others other (omega (arith, below, less))
            (λ cost pruned cheap. none cost pruned (omega (arith, cheap, less))))
        | inr more ↦ more
      ]);
    })
    (omega arith)

pub few_opened : (passes hit : Cell → Bool) (start : Cell) (rect : Rect) (bound : ℕ) (nodes : List Node)
    → AreMet passes hit start nodes
    → ((place : ℕ) (node : Node) → slice_get nodes place ≡ Some node → IsTrue node.opened
    → node.cost + octile_to rect node.state.cell ≤ bound)
    → (n : ℕ) → Counts (IsOpened passes hit start rect bound) n → count_by (λ (m : Node). m.opened) nodes ≤ n
few_opened passes hit start rect bound nodes met within n counts =
    let listed = counts.1.0 in
    let long : length counts.0 ≡ n = counts.1.1 in
    elim (cases_lt n (count_by (λ (m : Node). m.opened) nodes)) [
      | inl more ↦ absurd (no_longer (opened_states nodes) counts.0 (opened_once passes hit start nodes met)
          (λ state has lacks.
          (let it = opened_as nodes state has in
          let node = it.node in
          let reached = met.reached it.place node it.known in
          let sums = reached.1.1 in
          let near = within it.place node it.known it.opened in
          least_jumps passes hit start node.state (jumps_cost reached.0 node.state) reached.0 reached.1.0 (omega arith)
          (λ cost pruned cheap. lacks (listed.all state
          (subst (λ (s : JumpState). IsOpened passes hit start rect bound s) it.same
          (record { cost = cost; pruned = pruned; near = omega (arith, cheap, near, sums) }))))))
          (omega (arith, more, long, length-opened nodes)))
      | inr few ↦ few
    ]
