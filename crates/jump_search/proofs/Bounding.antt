-- A search that has ended has opened each state within its bound, as cheaply as jumps come to it.
use Rattle.std.proofs.Common.{ℕ, ◌≡◌, ◌+◌, ◌<◌, ◌≤◌, ◌⊎◌, Bool, true, IsTrue, IsFalse, List, [], ◌∷◌, Option}
use Rattle.std.proofs.Common.{Some, inl, inr, refl, sym, subst, ap, ◌∙◌, arith}
use Rattle.std.specs.Prelude.{slice_get}
use Rattle.std.proofs.lemmas.Bool.{false≢true, cases_Bool}
use Rattle.nav_types.specs.declared.cells.Cell.{Cell}
use Rattle.nav_types.specs.declared.directions.Dir.{Dir}
use Rattle.nav_types.specs.Walks.{IsWalk, walk_cost, IsDistance}
use Rattle.jump_search.specs.declared.nodes.Node.{Node}
use Rattle.jump_search.specs.declared.states.JumpState.{JumpState}
use Rattle.jump_search.specs.Estimates.{IsConsistent}
use Rattle.jump_search.specs.JumpStates.{IsJump, octile_between, start_state, AreJumps, jumps_cost}
use Rattle.jump_search.specs.inner.Following.{Follows}
use Rattle.jump_search.specs.inner.Numbered.{HasCheaper}
use Rattle.jump_search.specs.inner.Searched.{IsLastRun, IsRelaxed, IsNoted, IsDearer, AreMet, IsFollowedFrom}
use Rattle.jump_search.specs.inner.Searched.{IsSearched}
use Rattle.jump_search.proofs.Measuring.{falls_along, jumped, Walked, jumps_walk}

-- no walk to a cell that is hit costs less
abbrev pub IsLeastToHit : (Cell → Bool) → (Cell → Bool) → Cell → ℕ → Type 0
IsLeastToHit passes hit start bound =
    (target : Cell) (dirs : List Dir) → IsTrue (hit target) → IsWalk passes start dirs target → bound ≤ walk_cost dirs

-- the estimate is consistent, the jumps of opened nodes have been followed, no hit is nearer than the bound, and nodes that
-- are not opened are beyond it, or, where the search is not for all, dominated by another of their cell
pub record IsClosed (all : Bool) (passes hit : Cell → Bool) (start : Cell) (ahead : Cell → ℕ) (bound : ℕ)
    (nodes : List Node) : Type 0 where
  pub consistent : IsConsistent passes hit ahead
  pub met : AreMet passes hit start nodes
  pub followed : (place : ℕ) (node : Node) → slice_get nodes place ≡ Some node → IsTrue node.opened
      → IsFollowedFrom all passes hit start nodes node
  pub least : IsLeastToHit passes hit start bound
  pub beyond : (place : ℕ) (node : Node) → slice_get nodes place ≡ Some node → IsFalse node.opened
      → (bound < node.cost + ahead node.state.cell) ⊎ (IsFalse all × IsDearer nodes node)

pub closed : (all : Bool) (passes hit : Cell → Bool) (start : Cell) (ahead : Cell → ℕ) (end : Cell) (bound : ℕ)
    (nodes : List Node)
    → IsConsistent passes hit ahead → IsLeastToHit passes hit start bound
    → IsSearched all passes hit start ahead end bound nodes
    → IsClosed all passes hit start ahead bound nodes
closed all passes hit start ahead end bound nodes consistent least searched = record {
  consistent = consistent;
  met = searched.met;
  followed = searched.followed;
  least = least;
  beyond = searched.beyond;
}

-- an opened node of the state that costs at most so much
pub record HasOpened (nodes : List Node) (state : JumpState) (cost : ℕ) : Type 0 where
  pub place : ℕ
  pub node : Node
  pub known : slice_get nodes place ≡ Some node
  pub same : node.state ≡ state
  pub cheap : node.cost ≤ cost
  pub opened : IsTrue node.opened

-- a node within the bound that is not dominated by another of its cell is opened
pub opened_within : (all : Bool) (passes hit : Cell → Bool) (start : Cell) (ahead : Cell → ℕ) (bound : ℕ) (nodes : List Node)
    → IsClosed all passes hit start ahead bound nodes → (place : ℕ) (node : Node) → slice_get nodes place ≡ Some node
    → node.cost + ahead node.state.cell ≤ bound → (IsFalse all → IsDearer nodes node → ⊥) → IsTrue node.opened
opened_within all passes hit start ahead bound nodes ended place node known near cheapest =
    elim (cases_Bool node.opened) [
      | inl is ↦ is
      | inr not ↦ elim (ended.beyond place node known not) [
        | inl far ↦ absurd (omega (arith, far, near))
        | inr dearer ↦ absurd (cheapest dearer.0 dearer.1)
      ]
    ]

-- the same by the state and a cost
found_opened : (all : Bool) (passes hit : Cell → Bool) (start : Cell) (ahead : Cell → ℕ) (bound : ℕ) (nodes : List Node)
    → IsClosed all passes hit start ahead bound nodes → (state : JumpState) (cost place : ℕ) (node : Node)
    → slice_get nodes place ≡ Some node
    → node.state ≡ state → node.cost ≤ cost → cost + ahead state.cell ≤ bound
    → (IsFalse all → IsDearer nodes node → ⊥)
    → HasOpened nodes state cost
found_opened all passes hit start ahead bound nodes ended state cost place node known same cheap near cheapest =
    let here : ahead node.state.cell ≡ ahead state.cell =
    ap (λ (s : JumpState). ahead s.cell) same in
    record {
      place = place;
      node = node;
      known = known;
      same = same;
      cheap = cheap;
      opened = opened_within all passes hit start ahead bound nodes ended place node known
          (omega (arith, here, cheap, near)) cheapest;
    }

-- the start

start_opened : (all : Bool) (passes hit : Cell → Bool) (start : Cell) (ahead : Cell → ℕ) (bound : ℕ) (nodes : List Node)
    → IsClosed all passes hit start ahead bound nodes → (state : JumpState) → state ≡ start_state start
    → 0 + ahead state.cell ≤ bound → HasOpened nodes state 0
start_opened all passes hit start ahead bound nodes ended state is near =
    let first = ended.met.first in
    let free : first.0.cost ≡ 0 = first.1.1.1 in
    found_opened all passes hit start ahead bound nodes ended state 0 0 first.0 first.1.0 (first.1.1.0 ∙ sym is)
    (omega (arith, free)) near
    (λ some dearer. (let less = dearer.1.1.1.1 in omega (arith, less, free)))

-- a jump within the bound from an opened node, than which no node of the cell is cheaper

pub jump_relaxed : (all : Bool) (passes hit : Cell → Bool) (start : Cell) (ahead : Cell → ℕ) (bound : ℕ) (nodes : List Node)
    → IsClosed all passes hit start ahead bound nodes
    → (before state : JumpState) (cost : ℕ) (from : HasOpened nodes before cost)
    → IsJump passes hit before state → (run : ℕ) → IsLastRun passes before.cell state run
    → from.node.cost + octile_between before.cell state.cell ≤ bound
    → (IsFalse all → HasCheaper nodes state.cell (from.node.cost + octile_between before.cell state.cell) → ⊥)
    → IsRelaxed nodes state (from.node.cost + octile_between before.cell state.cell) run
jump_relaxed all passes hit start ahead bound nodes ended before state cost from jump run last within cheapest =
    let P = λ (s : JumpState). IsJump passes hit s state → IsLastRun passes s.cell state run
    → IsNoted all passes hit start nodes state (from.node.cost + octile_between s.cell state.cell) run in
    elim (subst P from.same (ended.followed from.place from.node from.known from.opened state run) jump last) [
      | inl relaxed ↦ relaxed
      | inr other ↦ elim other [
        | inl left ↦ absurd (cheapest left.0 left.1)
        | inr nearer ↦
            let to = nearer.1.0 in
            let is = to.1.1.1.1 in
            let less = nearer.1.1 in
            let least = ended.least to.0 to.1.1.0 to.1.0 to.1.1.1.0 in
            absurd (omega (arith, is, less, least, within))
      ]
    ]

-- each state within the bound, where the search is for all

pub bounded : (passes hit : Cell → Bool) (start : Cell) (ahead : Cell → ℕ) (bound : ℕ) (nodes : List Node)
    → IsClosed true passes hit start ahead bound nodes → (before : List JumpState) (state : JumpState)
    → AreJumps passes hit start before state → jumps_cost before state + ahead state.cell ≤ bound
    → HasOpened nodes state (jumps_cost before state)
bounded passes hit start ahead bound nodes ended [] state jumps near =
    start_opened true passes hit start ahead bound nodes ended state jumps near
bounded passes hit start ahead bound nodes ended (before ∷ rest) state jumps near =
    let jump = jumped passes hit before state jumps.0 in
    let through = falls_along passes hit ahead ended.consistent jump.dir jump.count before.cell state.cell jump.run in
    let from = bounded passes hit start ahead bound nodes ended rest before jumps.1 (omega (arith, near, through)) in
    let to = jump_relaxed true passes hit start ahead bound nodes ended before state (jumps_cost rest before) from
    jumps.0 jump.count (jump.dir, (jump.arrived, jump.run)) (let low = from.cheap in omega (arith, near, low))
    (λ some. absurd (false≢true (sym some))) in
    let less = to.cheap in
    let cheap = from.cheap in
    found_opened true passes hit start ahead bound nodes ended state
    (jumps_cost rest before + octile_between before.cell state.cell) to.place to.node to.known to.same
    (omega (arith, less, cheap)) near (λ some. absurd (false≢true (sym some)))

-- a node costs no less than the distance
pub node_least : (passes hit : Cell → Bool) (start : Cell) (nodes : List Node) → AreMet passes hit start nodes
    → (place : ℕ) (node : Node)
    → slice_get nodes place ≡ Some node → (cell : Cell) → node.state.cell ≡ cell → (cost : ℕ)
    → IsDistance passes start cell cost
    → cost ≤ node.cost
node_least passes hit start nodes met place node known cell same cost distance =
    let reached = met.reached place node known in
    let walked = jumps_walk passes hit start reached.0 node.state reached.1.0 in
    let dirs = walked.dirs in
    let is = walked.costs in
    let sums = reached.1.1 in
    let moved : Walked passes start cell (jumps_cost reached.0 node.state) =
    subst (λ (c : Cell). Walked passes start c (jumps_cost reached.0 node.state)) same walked in
    let least = distance.least moved.dirs moved.walk in
    let there = moved.costs in
    omega (arith, least, there, sums)

-- the states by which a chosen walk goes

-- no node of a cell costs less than the distance
pub none_cheaper : (passes hit : Cell → Bool) (start : Cell) (nodes : List Node) → AreMet passes hit start nodes
    → (at cell : Cell) → at ≡ cell → (cost distance : ℕ) → IsDistance passes start cell distance → cost ≤ distance
    → HasCheaper nodes at cost → ⊥
none_cheaper passes hit start nodes met at cell here cost distance is cheap cheaper =
    let less = cheaper.1.1.1.1 in
    let least = node_least passes hit start nodes met cheaper.0 cheaper.1.0 cheaper.1.1.0 cell
    (cheaper.1.1.1.0 ∙ here) distance is in
    omega (arith, less, least, cheap)

pub followed_opened : (all : Bool) (passes hit : Cell → Bool) (start : Cell) (ahead : Cell → ℕ) (bound : ℕ)
    (nodes : List Node)
    → IsClosed all passes hit start ahead bound nodes → (next : Option Dir) (states : List JumpState) (state : JumpState)
    → Follows passes hit start next states state → jumps_cost states state + ahead state.cell ≤ bound
    → HasOpened nodes state (jumps_cost states state)
followed_opened all passes hit start ahead bound nodes ended next [] state follows near =
    start_opened all passes hit start ahead bound nodes ended state follows near
followed_opened all passes hit start ahead bound nodes ended next (before ∷ rest) state follows near =
    let distance = follows.0 in
    let followed = follows.1.0 in
    let jump = jumped passes hit before state followed.jump in
    let through = falls_along passes hit ahead ended.consistent jump.dir jump.count before.cell state.cell jump.run in
    let from = followed_opened all passes hit start ahead bound nodes ended state.arrived rest before follows.1.1
    (omega (arith, near, through)) in
    let cheap = from.cheap in
    let to = jump_relaxed all passes hit start ahead bound nodes ended before state (jumps_cost rest before) from
    followed.jump jump.count (jump.dir, (jump.arrived, jump.run)) (omega (arith, near, cheap))
    (λ some cheaper. none_cheaper passes hit start nodes ended.met state.cell state.cell refl
    (from.node.cost + octile_between before.cell state.cell)
    (jumps_cost rest before + octile_between before.cell state.cell) distance (omega (arith, cheap)) cheaper) in
    let less = to.cheap in
    let most : to.node.cost ≤ jumps_cost rest before + octile_between before.cell state.cell =
    omega (arith, less, cheap) in
    found_opened all passes hit start ahead bound nodes ended state
    (jumps_cost rest before + octile_between before.cell state.cell) to.place to.node to.known to.same
    most near
    (λ some dearer. none_cheaper passes hit start nodes ended.met to.node.state.cell state.cell
    (ap (λ (s : JumpState). s.cell) {x = to.node.state} to.same) to.node.cost
    (jumps_cost rest before + octile_between before.cell state.cell) distance most dearer)
