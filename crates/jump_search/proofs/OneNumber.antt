-- A jump state has one pruned cost, and a search one opened number.
use Rattle.std.proofs.Common.{ℕ, ◌≡◌, Bool, List, subst, arith}
use Rattle.nav_types.specs.declared.cells.Cell.{Cell}
use Rattle.nav_types.specs.declared.cells.Rect.{Rect}
use Rattle.nav_types.specs.declared.cells.Size.{Size}
use Rattle.nav_types.specs.Counting.{Counts}
use Rattle.nav_types.specs.Frames.{IsFrame}
use Rattle.nav_types.proofs.Counting.{Counts-unique}
use Rattle.walks.specs.Chosen.{IsAnswer}
use Rattle.walks.proofs.OneAnswer.{one_answer}
use Rattle.jump_search.proofs.Framing.{one_frame}
use Rattle.jump_search.specs.declared.states.JumpState.{JumpState}
use Rattle.jump_search.specs.JumpStates.{IsPrunedCost, IsOpened}

pub one_cost : (passes hit : Cell → Bool) (start : Cell) (state : JumpState) (m n : ℕ)
    → IsPrunedCost passes hit start state m
    → IsPrunedCost passes hit start state n → m ≡ n
one_cost passes hit start state m n one two =
    let there = two.jumps in let here = one.jumps in
    let below = one.least there.0 there.1.0 in
    let above = two.least here.0 here.1.0 in
    let left = there.1.1 in let right = here.1.1 in
    omega (arith, below, above, left, right)

pub one_number : (passes hit framed : Cell → Bool) (size : Size) (start : Cell) (e f : Cell) (c d : ℕ)
    (xs ys : List Cell) (r s : Rect) (m n : ℕ)
    → IsAnswer passes start hit e c xs → IsAnswer passes start hit f d ys → IsFrame framed size r
    → IsFrame framed size s
    → Counts (IsOpened passes hit start r c) m → Counts (IsOpened passes hit start s d) n → m ≡ n
one_number passes hit framed size start e f c d xs ys r s m n one two here there counts others =
    let cost : c ≡ d = (one_answer passes start hit e f c d xs ys one two).1.0 in
    let rect : r ≡ s = one_frame framed size r s here there in
    let moved : Counts (IsOpened passes hit start s c) m =
    subst (λ (q : Rect). Counts (IsOpened passes hit start q c) m) rect counts in
    Counts-unique (IsOpened passes hit start s d) m n
    (subst (λ (k : ℕ). Counts (IsOpened passes hit start s k) m) cost moved) others
