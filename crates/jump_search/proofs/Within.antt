-- A search that looks no further than a greatest cost.
use Rattle.std.proofs.Common.{ℕ, suc, ◌≡◌, ◌+◌, ◌<◌, ◌≤◌, ◌⊎◌, Bool, IsTrue, List, Option, Some, None, inl, inr, subst, arith}
use Rattle.std.specs.FinMap as map
use Rattle.nav_types.specs.declared.cells.Cell.{Cell}
use Rattle.nav_types.specs.declared.cells.Rect.{Rect}
use Rattle.nav_types.specs.declared.cells.Size.{Size}
use Rattle.nav_types.specs.declared.directions.Dir.{Dir}
use Rattle.nav_types.specs.Cells.{IsInside}
use Rattle.nav_types.specs.Counting.{Counts}
use Rattle.nav_types.specs.Frames.{IsFrame}
use Rattle.nav_types.specs.Walks.{IsWalk, walk_cost}
use Rattle.open_heap.specs.Queue.{Queue}
use Rattle.jump_search.specs.declared.nodes.Node.{Node}
use Rattle.jump_search.specs.declared.searching.Best.{Best}
use Rattle.jump_search.specs.Estimates.{IsConsistent, IsEstimate}
use Rattle.jump_search.specs.JumpStates.{IsOpened, IsWithinOpened}
use Rattle.jump_search.specs.inner.Nearby.{HasEndedWithin, IsHaltedWithin}
use Rattle.jump_search.specs.inner.Traced.{IsTraceable}
use Rattle.jump_search.specs.inner.Underway.{opened_count, IsUnderway, IsPast}
use Rattle.jump_search.proofs.Answering.{few_within, halted_below, halted_ticks, traceable}
use Rattle.jump_search.proofs.Halting.{ended, halted, waits_or_dearer}

pub halted_within : (all : Bool) (passes hit : Cell → Bool) (start : Cell) (ahead : Cell → ℕ) (most floor : ℕ)
    (nodes : List Node) (queue : Queue) (best : Option Best) (before after : ℕ)
    → IsUnderway all passes hit start ahead floor nodes queue best → floor ≤ most → after ≡ before + opened_count nodes
    → IsHaltedWithin all passes hit start ahead most before after
halted_within all passes hit start ahead most floor nodes queue best before after underway low ticks =
    inr (nodes, (floor, (low, (halted all passes hit start ahead floor nodes queue best underway, ticks))))

-- where all that waits is past the best hit or the greatest cost
pub ended_within : (all : Bool) (passes hit : Cell → Bool) (start : Cell) (ahead : Cell → ℕ) (most floor : ℕ)
    (nodes : List Node) (queue : Queue) (best : Option Best)
    → IsUnderway all passes hit start ahead floor nodes queue best → floor ≤ most → IsConsistent passes hit ahead
    → ((number value : ℕ) → map.get queue number ≡ Some value → IsPast best value ⊎ (most < value))
    → HasEndedWithin all passes hit start ahead most nodes best
ended_within all passes hit start ahead most floor nodes queue None underway low consistent past = record {
  met = underway.met;
  followed = underway.followed;
  within = λ number node found opened. let near = underway.queued.within number node found opened in
      omega (arith, near, low);
  beyond = λ number node found not. elim (waits_or_dearer all ahead floor nodes queue underway.queued number node found
      not) [
        | inl waits ↦ elim (past number waits.0 waits.1.0) [
          | inl never ↦ absurd never
          | inr far ↦ let same = waits.1.1.0 in inl (omega (arith, far, same))
        ]
        | inr dearer ↦ inr dearer
      ];
  passed = λ number node found opened is. absurd (underway.hits number node found opened is);
}
ended_within all passes hit start ahead most floor nodes queue (Some best) underway low consistent past =
    let near = underway.hits.1 in
    let ends = underway.hits.0.ends in
    let cost = ends.1.1.1.1.1.0 in
    let within = underway.queued.within ends.0 ends.1.0 ends.1.1.0 ends.1.1.1.0 in
    let cheap : best.cost ≤ most = omega (arith, cost, within, low) in (
      ended all passes hit start ahead floor nodes queue (Some best) underway (λ number value found.
          elim (past number value found) [
            | inl is ↦ is
            | inr far ↦ omega (arith, far, cheap)
          ]),
      cheap,
    )

-- what it opens

pub ticks_within : (all : Bool) (passes hit framed : Cell → Bool) (start : Cell) (size : Size) (ahead : Cell → ℕ)
    (most before after : ℕ)
    → IsTrue (passes start) → IsEstimate passes hit framed size ahead
    → IsHaltedWithin all passes hit start ahead most before after
    → IsWithinOpened passes hit framed size start before after
ticks_within all passes hit framed start size ahead most before after passing estimate (inl none) =
    halted_ticks all passes hit framed start size ahead before after passing estimate (inl none)
ticks_within all passes hit framed start size ahead most before after passing estimate (inr some) =
    halted_ticks all passes hit framed start size ahead before after passing estimate
    (inr (some.0, (some.1.0, some.1.1.1)))

pub near_within : (all : Bool) (passes hit framed : Cell → Bool) (start : Cell) (size : Size) (ahead : Cell → ℕ)
    (most before after : ℕ)
    → IsTrue (passes start) → IsEstimate passes hit framed size ahead
    → IsHaltedWithin all passes hit start ahead most before after
    → (rect : Rect) (n : ℕ) → IsFrame framed size rect → Counts (IsOpened passes hit start rect most) n
    → after ≤ before + n
near_within all passes hit framed start size ahead most before after passing estimate (inl none) rect n frame counts =
    omega (arith, none)
near_within all passes hit framed start size ahead most before after passing estimate (inr some) rect n frame counts =
    let halts = some.1.1.1.0 in
    let ticks = some.1.1.1.1 in
    let few = few_within passes hit start ahead rect some.1.0 most some.0 passing (estimate.octile rect frame)
    halts.met halts.within some.1.1.0 n counts in
    omega (arith, ticks, few)

-- what it has found

pub too_far : (all : Bool) (passes hit : Cell → Bool) (start : Cell) (ahead : Cell → ℕ) (most : ℕ) (nodes : List Node)
    (best : Option Best)
    → IsTrue (passes start) → IsConsistent passes hit ahead → HasEndedWithin all passes hit start ahead most nodes best
    → best ≡ None
    → (target : Cell) (dirs : List Dir) → IsTrue (hit target) → IsWalk passes start dirs target → most < walk_cost dirs
too_far all passes hit start ahead most nodes best passing consistent ended none target dirs is_hit walk =
    let halts = subst (λ (o : Option Best). HasEndedWithin all passes hit start ahead most nodes o) none ended in
    let far = halted_below all passes hit start ahead (suc most) nodes halts passing consistent target dirs is_hit walk in
    omega (arith, far)

pub able_within : (all : Bool) (passes hit : Cell → Bool) (start : Cell) (size : Size) (ahead : Cell → ℕ) (most : ℕ)
    (nodes : List Node) (best : Option Best) (at : Best)
    → ((cell : Cell) → IsTrue (passes cell) → IsInside size cell) → IsTrue (passes start)
    → IsConsistent passes hit ahead → HasEndedWithin all passes hit start ahead most nodes best → best ≡ Some at
    → IsTraceable all passes hit start ahead at.cell at.cost nodes × (at.cost ≤ most)
able_within all passes hit start size ahead most nodes best at within passing consistent ended is =
    let found = subst (λ (o : Option Best). HasEndedWithin all passes hit start ahead most nodes o) is ended in (
      traceable all passes hit start size ahead at.cell at.cost nodes within passing consistent found.0,
      found.1,
    )
