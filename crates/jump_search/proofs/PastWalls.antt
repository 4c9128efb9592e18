-- The bound by tables of landmarks is an estimate, where the tables are gentle and their span spans what is looked for.
use Rattle.std.proofs.Common.{ℕ, ◌≡◌, ◌+◌, ◌≤◌, Bool, IsTrue, arith}
use Rattle.std.specs.Prelude.{max}
use Rattle.nav_types.specs.declared.cells.Cell.{Cell}
use Rattle.nav_types.specs.declared.cells.Size.{Size}
use Rattle.nav_types.specs.Cells.{IsInside}
use Rattle.nav_types.specs.Directions.{step_cost}
use Rattle.nav_types.specs.Frames.{IsFrame}
use Rattle.landmarks.specs.Landmarks.{AreGentle}
use Rattle.landmarks.specs.Spans.{IsSpanned, span_bound}
use Rattle.landmarks.proofs.Spanning.{span_bound_falls, span_bound_of_spanned}
use Rattle.jump_search.specs.declared.estimates.Marked.{Marked}
use Rattle.jump_search.specs.Estimates.{IsEstimate, cost_past}
use Rattle.jump_search.specs.JumpStates.{octile_to}
use Rattle.jump_search.proofs.Framing.{octile_estimate}

both_none : (a b : ℕ) → a ≡ 0 → b ≡ 0 → max a b ≡ 0
both_none a b one other = omega (arith, one, other)

both_fall : (a b c d cost : ℕ) → a ≤ cost + c → b ≤ cost + d → max a b ≤ cost + max c d
both_fall a b c d cost one other = omega (arith, one, other)

first_less : (a b c : ℕ) → a ≤ b → a ≤ max b c
first_less a b c less = omega (arith, less)

-- the greater of the octile distance and the bound is an estimate
pub past_estimate : (passes hit framed : Cell → Bool) (size : Size) (marked : Marked)
    → ((cell : Cell) → IsTrue (passes cell) → IsInside size cell)
    → ((cell : Cell) → IsInside size cell → IsTrue (hit cell) → IsTrue (framed cell)) → IsFrame framed size marked.rect
    → AreGentle passes marked.tables.now
    → ((cell : Cell) → IsTrue (passes cell) → IsTrue (hit cell) → IsSpanned marked.tables.now marked.span cell)
    → IsEstimate passes hit framed size (cost_past marked)
past_estimate passes hit framed size marked within hits_framed frame gentle spanned =
    let octile = octile_estimate passes hit framed size marked.rect within hits_framed frame in
    let tables = marked.tables.now in
    let bound = span_bound tables marked.span in
    let near = octile_to marked.rect in
    record {
      consistent = record {
        none = λ cell passing is_hit. both_none (near cell) (bound cell) (octile.consistent.none cell passing is_hit)
            (span_bound_of_spanned tables marked.span cell (spanned cell passing is_hit));
        falls = λ dir from to step. both_fall (near from) (bound from) (near to) (bound to) (step_cost dir)
            (octile.consistent.falls dir from to step)
            (span_bound_falls tables marked.span passes passes dir from to gentle (λ cell passing. passing) step);
      };
      octile = λ other frames cell passing. first_less (octile_to other cell) (near cell) (bound cell)
          (octile.octile other frames cell passing);
    }
