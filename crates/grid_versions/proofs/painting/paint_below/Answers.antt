use Rattle.std.proofs.Common.{ℕ, ◌∙◌, Bool, ◌∷◌, [], get_or, drop, refl, subst, sym}
use Rattle.std.specs.List.{list_any}
use Rattle.std.proofs.Math.Bool.{or-false}
use Rattle.nav_types.specs.declared.cells.Cell.{Cell}
use Rattle.nav_types.specs.declared.cells.Rect.{Rect}
use Rattle.nav_types.specs.Numbering.{number_of}
use Rattle.nav_types.specs.Rects.{IsPartOf}
use Rattle.clearance_raster.proofs.Rastering.{part_moved}
use Rattle.obstruction_store.specs.Standing.{Standing}
use Rattle.posts.specs.Maps.{Map}
use Rattle.grid_versions.specs.Passing.{is_blocked}
use Rattle.grid_versions.specs.inner.Reachers.{blocks_under}
use Rattle.grid_versions.proofs.NextLemmas.{whole_part}
use Rattle.grid_versions.proofs.PaintLemmas.{Ends-none, Ends-at, Ends-past, Ends-set, raster_over, raster_left, settled_more, settled_all, settled_after, part_of_part}
use Rattle.grid_versions.proofs.PlanePartLemmas.{part_in_map}
use Rattle.grid_versions.proofs.ReacherLemmas.{listed_blocks, blocked_listed}
use Rattle.grid_versions.proofs.painting.paint_below.Goals as goal

abbrev blocks : Map → Standing → ℕ → Cell → ℕ → Bool
blocks map standing k cell id = blocks_under map standing k cell id

pub loop-index-init : goal.loop-index-init
loop-index-init c =
    let part = c.args.part in
    record {
      extent = refl;
      within = whole_part part c.requires.part.columns c.requires.part.rows;
      ends = Ends-none c.args.patch.now.rect part (blocks c.args.site.now.map.now c.args.site.now.shapes.now) c.args.near.now
          (number_of c.args.patch.now);
      settled = λ k cell inside out holds. absurd (out inside);
    }

pub unlike_part-requires-clause-rect : goal.unlike_part-requires-clause-rect
unlike_part-requires-clause-rect c = c.requires.other ∙ sym c.loop-index.invariant.extent

pub unlike_part-requires-clause-part : goal.unlike_part-requires-clause-part
unlike_part-requires-clause-part c =
    subst (λ (rect : Rect). IsPartOf rect c.loop-index.left) (sym c.loop-index.invariant.extent)
    (part_of_part c.args.patch.now.rect c.args.part c.loop-index.left c.requires.part c.loop-index.invariant.within)

pub paint_listed-requires-clause-inside : goal.paint_listed-requires-clause-inside
paint_listed-requires-clause-inside c =
    part_in_map c.args.site.now.map.now.size c.args.part c.in-Some.rest
    (part_of_part c.args.part c.loop-index.left c.in-Some.rest c.loop-index.invariant.within c.in-Some.ensures.part)
    c.requires.inside

pub paint_listed-requires-clause-part : goal.paint_listed-requires-clause-part
paint_listed-requires-clause-part c =
    let part = c.args.part in
    subst (λ (rect : Rect). IsPartOf rect c.in-Some.rest) (sym c.loop-index.invariant.extent)
    (part_of_part c.args.patch.now.rect part c.in-Some.rest c.requires.part
    (part_of_part part c.loop-index.left c.in-Some.rest c.loop-index.invariant.within c.in-Some.ensures.part))

pub loop-index-preserved : goal.loop-index-preserved
loop-index-preserved c =
    let map = c.args.site.now.map.now in
    let standing = c.args.site.now.shapes.now in
    let near = c.args.near.now in
    let rect = c.args.patch.now.rect in
    let part = c.args.part in
    let rest = c.in-Some.rest in
    let i : ℕ = c.loop-index.index in
    let old = number_of c.loop-index.patch in
    let new = number_of c.paint_listed.new.patch in
    let here = c.loop-index.invariant in
    let id : ℕ = get_or near i 0 in
    let within = part_of_part part c.loop-index.left rest here.within c.in-Some.ensures.part in
    let settled = settled_more part c.loop-index.left rest (is_blocked map standing) old (number_of c.args.most.now) here.settled
    c.in-Some.ensures.like c.requires.most in
    let painted = part_moved c.loop-index.patch.rect rect rest (λ k cell. blocks map standing k cell id) old new here.extent
    c.paint_listed.ensures.set in
    record {
      extent = c.paint_listed.ensures.rect ∙ here.extent;
      within = within;
      ends = Ends-at rect part (blocks map standing) near near i 0 (number_of c.args.patch.now) old new
          c.loop-index-test.true here.ends
          (raster_left rect part rest (λ k cell. blocks map standing k cell id) old new c.requires.part within
          (λ k cell inside out holds. settled k cell inside out
          (listed_blocks map standing k cell (id ∷ []) (or-false (blocks map standing k cell id) ∙ holds)))
          painted);
      settled = settled_after rect part rest (is_blocked map standing) (λ k cell. blocks map standing k cell id) old new
          c.requires.part settled painted;
    }

pub returns-in_default-clause-set : goal.returns-in_default-clause-set
returns-in_default-clause-set c =
    let map = c.args.site.now.map.now in
    let standing = c.args.site.now.shapes.now in
    let near = c.args.near.now in
    let rect = c.args.patch.now.rect in
    let part = c.args.part in
    let first = number_of c.args.patch.now in
    let last = number_of c.loop-index.patch in
    let all = settled_all part c.loop-index.left (is_blocked map standing) last (number_of c.args.most.now)
    c.loop-index.invariant.settled (λ k cell inside. c.in_default.ensures.like k cell inside (λ none. none)) c.requires.most in
    raster_over rect part (λ k cell. list_any (blocks map standing k cell) near) (is_blocked map standing) first last
    (λ k cell inside. listed_blocks map standing k cell near)
    (λ k cell inside. blocked_listed map standing k cell part first near c.requires.near inside)
    (Ends-set rect part (blocks map standing) near (drop c.loop-index.index near) first last
    (λ k cell inside listed.
    all k cell inside (listed_blocks map standing k cell (drop c.loop-index.index near) listed))
    c.loop-index.invariant.ends)

pub returns-clause-set : goal.returns-clause-set
returns-clause-set c =
    let map = c.args.site.now.map.now in
    let standing = c.args.site.now.shapes.now in
    let near = c.args.near.now in
    let rect = c.args.patch.now.rect in
    let part = c.args.part in
    let first = number_of c.args.patch.now in
    let last = number_of c.loop-index.patch in
    raster_over rect part (λ k cell. list_any (blocks map standing k cell) near) (is_blocked map standing) first last
    (λ k cell inside. listed_blocks map standing k cell near)
    (λ k cell inside. blocked_listed map standing k cell part first near c.requires.near inside)
    (Ends-past rect part (blocks map standing) near near c.loop-index.index first last c.loop-index-test.false
    c.loop-index.invariant.ends)
