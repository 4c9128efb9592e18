use Rattle.std.proofs.Common.{◌≡◌, ℕ, All}
use Rattle.nav_types.specs.declared.cells.Rect.{Rect}
use Rattle.nav_types.specs.Cells.{IsRectInside}
use Rattle.made_match.specs.Making.{drawn, draw_each, draw_base_rect, map_size}
use Rattle.made_match.proofs.maps.base.Given as goal

abbrev pub invariant-loop-number : goal.invariant-loop-number
invariant-loop-number l = record {
  drawn : draw_each (λ n. draw_base_rect) l._number l.fn.draws ≡ drawn l.base l.draws;
  inside : All (λ (entry : Rect × ℕ). IsRectInside map_size entry.0) l.base;
}
