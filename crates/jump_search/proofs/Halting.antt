-- What is known of a search wherever it stops, and where it has ended.
use Rattle.std.proofs.Common.{ℕ, ◌≡◌, ◌≤◌, ◌⊎◌, Bool, IsTrue, IsFalse, List, Option, Some, None, Result, Ok, Err, OnErr}
use Rattle.std.proofs.Common.{inl, inr, subst, arith}
use Rattle.std.specs.List.{slice_get}
use Rattle.std.specs.FinMap as map
use Rattle.std.proofs.lemmas.Bool.{both_ways}
use Rattle.nav_types.specs.declared.cells.Cell.{Cell}
use Rattle.open_heap.specs.Queue.{Queue}
use Rattle.jump_search.specs.declared.nodes.Node.{Node}
use Rattle.jump_search.specs.declared.searching.Best.{Best}
use Rattle.jump_search.specs.inner.Searched.{IsDearer}
use Rattle.jump_search.specs.inner.Underway.{estimate_of, IsQueued, IsUnderway, IsBestSoFar, IsPast, IsHalted, HasEnded}
use Rattle.jump_search.proofs.Listing.{one_item}
use Rattle.jump_search.proofs.Queueing.{get_cases}

-- nodes that are not opened wait, or are dominated by another of their cell
pub waits_or_dearer : (all : Bool) (ahead : Cell → ℕ) (floor : ℕ) (nodes : List Node) (queue : Queue)
    → IsQueued all ahead floor nodes queue
    → (number : ℕ) (node : Node) → slice_get nodes number ≡ Some node → IsFalse node.opened
    → ((value : ℕ) × ((map.get queue number ≡ Some value)
    × ((value ≡ estimate_of ahead node) × (floor ≤ value))))
    ⊎ (IsFalse all × IsDearer nodes node)
waits_or_dearer all ahead floor nodes queue queued number node found not = elim (get_cases queue number) [
  | inl none ↦ elim (queued.others number node found none) [
    | inl opened ↦ absurd (both_ways node.opened not opened)
    | inr dearer ↦ inr dearer
  ]
  | inr some ↦
      let has = queued.waits number some.0 some.1 in
      let is = one_item nodes number has.0 node has.1.0 found in
      inl (some.0, (some.1, (subst (λ (n : Node). some.0 ≡ estimate_of ahead n) is has.1.1.1.0, has.1.1.1.1)))
]

none_passed : (hit : Cell → Bool) (nodes : List Node) (floor : ℕ) (best : Option Best) → IsBestSoFar hit nodes floor best
    → (number : ℕ) (node : Node) → slice_get nodes number ≡ Some node → IsTrue node.opened
    → IsTrue (hit node.state.cell) → floor ≤ node.cost
none_passed hit nodes floor None none number node found opened is = absurd (none number node found opened is)
none_passed hit nodes floor (Some best) kept number node found opened is =
    let low = kept.0.nearest number node found opened is in
    let near = kept.1 in
    omega (arith, low, near)

pub halted : (all : Bool) (passes hit : Cell → Bool) (start : Cell) (ahead : Cell → ℕ) (floor : ℕ) (nodes : List Node)
    (queue : Queue) (best : Option Best)
    → IsUnderway all passes hit start ahead floor nodes queue best → IsHalted all passes hit start ahead floor nodes
halted all passes hit start ahead floor nodes queue best underway = record {
  met = underway.met;
  followed = underway.followed;
  within = underway.queued.within;
  beyond = λ number node found not. elim (waits_or_dearer all ahead floor nodes queue underway.queued number node found
      not) [
        | inl waits ↦ let same = waits.1.1.0 in let early = waits.1.1.1 in inl (omega (arith, same, early))
        | inr dearer ↦ inr dearer
      ];
  passed = none_passed hit nodes floor best underway.hits;
}

pub ended : (all : Bool) (passes hit : Cell → Bool) (start : Cell) (ahead : Cell → ℕ) (floor : ℕ) (nodes : List Node)
    (queue : Queue) (best : Option Best)
    → IsUnderway all passes hit start ahead floor nodes queue best
    → ((number : ℕ) (value : ℕ) → map.get queue number ≡ Some value → IsPast best value)
    → HasEnded all passes hit start ahead nodes best
ended all passes hit start ahead floor nodes queue None underway past = record {
  met = underway.met;
  followed = underway.followed;
  beyond = λ number node found not. elim (waits_or_dearer all ahead floor nodes queue underway.queued number node found
      not) [
        | inl waits ↦ absurd (past number waits.0 waits.1.0)
        | inr dearer ↦ dearer
      ];
  missed = underway.hits;
}
ended all passes hit start ahead floor nodes queue (Some best) underway past =
    let kept = underway.hits.0 in
    let near = underway.hits.1 in
    record {
      met = underway.met;
      followed = underway.followed;
      within = λ number node found opened.
          let low = underway.queued.within number node found opened in
          omega (arith, low, near);
      beyond = λ number node found not. elim (waits_or_dearer all ahead floor nodes queue underway.queued number node
          found not) [
            | inl waits ↦
                let same = waits.1.1.0 in
                let late = past number waits.0 waits.1.0 in
                inl (omega (arith, same, late))
            | inr dearer ↦ inr dearer
          ];
      ends = kept.ends;
      nearest = kept.nearest;
      earliest = kept.earliest;
    }

pub on_err_from : {A E : Type 0} (result : Result A E) (P : Type 0) → P → OnErr result P
on_err_from (Ok a) P p = tt
on_err_from (Err e) P p = p
