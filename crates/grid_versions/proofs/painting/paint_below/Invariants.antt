use Rattle.std.proofs.Common.{ℕ, ◌≡◌, drop}
use Rattle.nav_types.specs.Numbering.{number_of}
use Rattle.nav_types.specs.Rects.{IsPartOf}
use Rattle.grid_versions.specs.Passing.{is_blocked}
use Rattle.grid_versions.specs.inner.Reachers.{blocks_under}
use Rattle.grid_versions.proofs.PaintLemmas.{Ends, Settled}
use Rattle.grid_versions.proofs.painting.paint_below.Given as goal

-- the obstructions of the numbers before `index` are painted, and outside of what is left all are
abbrev pub invariant-loop-index : goal.invariant-loop-index
invariant-loop-index l = record {
  extent : l.patch.rect ≡ l.fn.patch.rect;
  within : IsPartOf l.fn.part l.left;
  ends : Ends l.fn.patch.rect l.fn.part (λ k cell (id : ℕ). blocks_under l.site.map.now l.site.shapes.now k cell id) l.near
      (drop l.index l.near) (number_of l.fn.patch) (number_of l.patch);
  settled : Settled l.fn.part l.left (is_blocked l.site.map.now l.site.shapes.now) (number_of l.patch);
}
