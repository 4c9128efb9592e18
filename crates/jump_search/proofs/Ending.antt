-- The end of a search is the first in cell order of the nearest hit cells.
use Rattle.std.proofs.Common.{ℕ, zero, suc, ◌≡◌, ◌<◌, ◌≤◌, Bool, IsTrue, List, [], ◌∷◌}
use Rattle.std.proofs.Common.{Option, Some, None, inl, inr, sym, subst, ap, ◌∙◌, arith}
use Rattle.std.specs.Prelude.{slice_get}
use Rattle.std.proofs.lemmas.Bool.{cases_lt}
use Rattle.nav_types.specs.declared.cells.Cell.{Cell}
use Rattle.nav_types.specs.declared.directions.Dir.{Dir}
use Rattle.nav_types.specs.Cells.{IsBefore, IsNotAfter}
use Rattle.nav_types.specs.Walks.{IsWalk, walk_cost, IsDistance, Joined, CanReach}
use Rattle.nav_types.proofs.CellOrder.{IsBefore-cases}
use Rattle.nav_types.proofs.Walking.{IsWalk-passes}
use Rattle.jump_search.specs.declared.nodes.Node.{Node}
use Rattle.jump_search.specs.declared.states.JumpState.{JumpState}
use Rattle.jump_search.specs.Estimates.{IsConsistent}
use Rattle.jump_search.specs.JumpStates.{jumps_cost}
use Rattle.jump_search.specs.inner.Following.{Follows}
use Rattle.jump_search.specs.inner.Searched.{IsSearched}
use Rattle.jump_search.proofs.Measuring.{Walked, jumps_walk}
use Rattle.jump_search.proofs.Stable.{some_chosen}
use Rattle.jump_search.proofs.Stopping.{stops}
use Rattle.jump_search.proofs.Bounding.{IsClosed, IsLeastToHit, closed, followed_opened}

-- the chosen walk to a hit cell that is joined to the start goes by jump states
pub goes_by_states : (passes hit : Cell → Bool) (start : Cell) → IsTrue (passes start) → (cell : Cell)
    → IsTrue (hit cell) → Joined passes start cell
    → ((states : List JumpState) (state : JumpState) → state.cell ≡ cell → Follows passes hit start None states state
    → ⊥) → ⊥
goes_by_states passes hit start passing cell is_hit joined none =
    some_chosen passes start cell passing joined (λ dirs chosen. stops passes hit start cell dirs passing is_hit chosen
    none)

-- the jumps by which a chosen walk goes cost no more than any walk
follows_least : (passes hit : Cell → Bool) (start : Cell) (next : Option Dir) (states : List JumpState)
    (state : JumpState)
    → Follows passes hit start next states state → (dirs : List Dir) → IsWalk passes start dirs state.cell
    → jumps_cost states state ≤ walk_cost dirs
follows_least passes hit start next [] state follows dirs walk = omega arith
follows_least passes hit start next (before ∷ rest) state follows dirs walk = let distance = follows.0 in
    distance.least dirs walk

-- a hit cell within the bound has an opened node that costs no more than any walk to it
pub least_hit : (all : Bool) (passes hit : Cell → Bool) (start : Cell) (ahead : Cell → ℕ) (bound : ℕ) (nodes : List Node)
    → IsClosed all passes hit start ahead bound nodes → IsTrue (passes start) → IsConsistent passes hit ahead
    → (target : Cell) (dirs : List Dir) → IsTrue (hit target) → IsWalk passes start dirs target → walk_cost dirs ≤ bound
    → ((place : ℕ) (node : Node) → slice_get nodes place ≡ Some node → IsTrue node.opened → node.state.cell ≡ target
    → node.cost ≤ walk_cost dirs → ⊥) → ⊥
least_hit all passes hit start ahead bound nodes ended passing consistent target dirs is_hit walk within none =
    goes_by_states passes hit start passing target is_hit (dirs, walk)
    (λ states state at follows.
    (let zero_to : ahead target ≡ 0 =
    consistent.none target (IsWalk-passes passes dirs start target passing walk) is_hit in
    let least = follows_least passes hit start None states state follows dirs
    (subst (λ (c : Cell). IsWalk passes start dirs c) (sym at) walk) in
    let here : ahead state.cell ≡ ahead target = ap ahead at in
    let found = followed_opened all passes hit start ahead bound nodes ended None states state follows
    (omega (arith, least, within, zero_to, here)) in
    let cheap = found.cheap in
    none found.place found.node found.known found.opened (ap (λ (s : JumpState). s.cell) found.same ∙ at)
    (omega (arith, cheap, least))))

-- no hit is nearer than `floor` where nodes are closed at each bound below it and opened nodes that are hit cost so much
pub none_nearer : (all : Bool) (passes hit : Cell → Bool) (start : Cell) (ahead : Cell → ℕ) (floor : ℕ) (nodes : List Node)
    → IsTrue (passes start) → IsConsistent passes hit ahead
    → ((bound : ℕ) → bound < floor → IsLeastToHit passes hit start bound
    → IsClosed all passes hit start ahead bound nodes)
    → ((place : ℕ) (node : Node) → slice_get nodes place ≡ Some node → IsTrue node.opened → IsTrue (hit node.state.cell)
    → floor ≤ node.cost)
    → (most : ℕ) (target : Cell) (dirs : List Dir) → walk_cost dirs < most → IsTrue (hit target)
    → IsWalk passes start dirs target → floor ≤ walk_cost dirs
none_nearer all passes hit start ahead floor nodes passing consistent closes passed zero target dirs few is_hit walk =
    absurd (omega (arith, few))
none_nearer all passes hit start ahead floor nodes passing consistent closes passed (suc most) target dirs few is_hit walk =
    elim (cases_lt (walk_cost dirs) floor) [
      | inl less ↦
          let least : IsLeastToHit passes hit start (walk_cost dirs) =
          λ other others hit_other walk_other. elim (cases_lt (walk_cost others) (walk_cost dirs)) [
            | inl nearer ↦
                let late = none_nearer all passes hit start ahead floor nodes passing consistent closes passed most other
                others (omega (arith, few, nearer)) hit_other walk_other in
                absurd (omega (arith, late, nearer, less))
            | inr more ↦ more
          ] in
          absurd (least_hit all passes hit start ahead (walk_cost dirs) nodes (closes (walk_cost dirs) less least) passing
          consistent target dirs is_hit walk (omega arith)
          (λ place node known opened at cheap.
          (let late = passed place node known opened (subst (λ (c : Cell). IsTrue (hit c)) (sym at) is_hit) in
          omega (arith, late, cheap, less))))
      | inr more ↦ more
    ]

-- where no opened node is hit there is none to reach
pub some_hit : (all : Bool) (passes hit : Cell → Bool) (start : Cell) (ahead : Cell → ℕ) (nodes : List Node)
    → ((bound : ℕ) → IsLeastToHit passes hit start bound → IsClosed all passes hit start ahead bound nodes)
    → IsTrue (passes start) → IsConsistent passes hit ahead
    → CanReach passes start hit
    → ((place : ℕ) (node : Node) → slice_get nodes place ≡ Some node → IsTrue node.opened → IsTrue (hit node.state.cell)
    → ⊥) → ⊥
some_hit all passes hit start ahead nodes ended passing consistent reach none =
    let walk = reach.1.1 in
    let past = suc (walk_cost walk.0) in
    let late = none_nearer all passes hit start ahead past nodes passing consistent
    (λ bound below least. ended bound least) (λ place node known opened is. absurd (none place node known opened is)) past
    reach.0 walk.0 (omega arith) reach.1.0 walk.1 in
    omega (arith, late)

-- the end and the bound

pub nearest_end : (all : Bool) (passes hit : Cell → Bool) (start : Cell) (ahead : Cell → ℕ) (end : Cell) (bound : ℕ)
    (nodes : List Node)
    → IsSearched all passes hit start ahead end bound nodes → IsTrue (passes start) → IsConsistent passes hit ahead
    → IsLeastToHit passes hit start bound
nearest_end all passes hit start ahead end bound nodes searched passing consistent target dirs is_hit walk =
    none_nearer all passes hit start ahead bound nodes passing consistent
    (λ below less least. record {
      consistent = consistent;
      met = searched.met;
      followed = searched.followed;
      least = least;
      beyond = λ place node known waits. elim (searched.beyond place node known waits) [
        | inl far ↦ inl (omega (arith, far, less))
        | inr dearer ↦ inr dearer
      ];
    })
    searched.nearest (suc (walk_cost dirs)) target dirs (omega arith) is_hit walk

-- so its nodes are closed at its bound
pub closed_end : (all : Bool) (passes hit : Cell → Bool) (start : Cell) (ahead : Cell → ℕ) (end : Cell) (bound : ℕ)
    (nodes : List Node)
    → IsSearched all passes hit start ahead end bound nodes → IsTrue (passes start) → IsConsistent passes hit ahead
    → IsClosed all passes hit start ahead bound nodes
closed_end all passes hit start ahead end bound nodes searched passing consistent =
    closed all passes hit start ahead end bound nodes consistent
    (nearest_end all passes hit start ahead end bound nodes searched passing consistent) searched

before_not_after : (a b : Cell) → IsBefore a b → IsNotAfter b a → ⊥
before_not_after a b (inl p) (inl q) = omega (arith, p, q)
before_not_after a b (inl p) (inr q) = let same = q.0 in omega (arith, p, same)
before_not_after a b (inr p) (inl q) = let same = p.0 in omega (arith, same, q)
before_not_after a b (inr p) (inr q) = let less = p.1 in let most = q.1 in omega (arith, less, most)

before_is_not_after : (a b : Cell) → IsBefore a b → IsNotAfter a b
before_is_not_after a b (inl row) = inl row
before_is_not_after a b (inr same) = let less = same.1 in inr (same.0, omega (arith, less))

not_after_cases : (a b : Cell) → (IsBefore b a → ⊥) → IsNotAfter a b
not_after_cases a b never = elim (IsBefore-cases a b) [
  | inl same ↦ inr (ap (λ (c : Cell). c.j) same, (let e = ap (λ (c : Cell). c.i) same in omega (arith, e)))
  | inr other ↦ elim other [
    | inl before ↦ before_is_not_after a b before
    | inr after ↦ absurd (never after)
  ]
]

pub first_end : (all : Bool) (passes hit : Cell → Bool) (start : Cell) (ahead : Cell → ℕ) (end : Cell) (bound : ℕ)
    (nodes : List Node)
    → IsSearched all passes hit start ahead end bound nodes → IsTrue (passes start) → IsConsistent passes hit ahead
    → (target : Cell) → IsTrue (hit target) → IsDistance passes start target bound → IsNotAfter end target
first_end all passes hit start ahead end bound nodes searched passing consistent target is_hit distance =
    let dirs = distance.walk.0 in
    let cost = distance.walk.1.1 in
    not_after_cases end target
    (λ before. least_hit all passes hit start ahead bound nodes
    (closed_end all passes hit start ahead end bound nodes searched passing consistent) passing consistent
    target dirs is_hit distance.walk.1.0 (omega (arith, cost))
    (λ place node known opened at cheap.
    (let here = subst (λ (c : Cell). IsTrue (hit c)) (sym at) is_hit in
    let no_less = searched.nearest place node known opened here in
    let same : node.cost ≡ bound = omega (arith, no_less, cheap, cost) in
    before_not_after target end before (subst (λ (c : Cell). IsNotAfter end c) at
    (searched.earliest place node known opened here same)))))

pub end_distance : (all : Bool) (passes hit : Cell → Bool) (start : Cell) (ahead : Cell → ℕ) (end : Cell) (bound : ℕ)
    (nodes : List Node)
    → IsSearched all passes hit start ahead end bound nodes → IsTrue (passes start) → IsConsistent passes hit ahead
    → IsDistance passes start end bound
end_distance all passes hit start ahead end bound nodes searched passing consistent =
    let ends = searched.ends.1.1 in
    let node = searched.ends.1.0 in
    let reached = searched.met.reached searched.ends.0 node ends.0 in
    let walked : Walked passes start end (jumps_cost reached.0 node.state) =
    subst (λ (c : Cell). Walked passes start c (jumps_cost reached.0 node.state)) ends.1.1.0
    (jumps_walk passes hit start reached.0 node.state reached.1.0) in
    record {
      walk = (walked.dirs, (walked.walk, walked.costs ∙ (reached.1.1 ∙ ends.1.1.1.0)));
      least = λ dirs walk. nearest_end all passes hit start ahead end bound nodes searched passing consistent end dirs
          ends.1.1.1.1 walk;
    }
