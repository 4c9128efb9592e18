use Rattle.std.proofs.Common.{ℕ, ◌<◌, ◌≤◌, ◌/◌, take}
use Rattle.std.specs.Prelude.{All}
use Rattle.class_planes.specs.inner.Spans.{IsLineAbout}
use Rattle.class_planes.proofs.band_spans.bands_about.Given as goal

-- outside of the span none of the rectangles so far has a line
abbrev pub invariant-loop-rect : goal.invariant-loop-rect
invariant-loop-rect l = (n : ℕ) → n / 32 < 2048 → (l.span.from ≤ n / 32 → n / 32 < l.span.to → ⊥)
    → All (λ rect. IsLineAbout l.axis rect n → ⊥) (take l.rect-index l.rects)
