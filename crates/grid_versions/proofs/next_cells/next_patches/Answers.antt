use Rattle.std.proofs.Common.{ℕ, ◌≡◌, ◌<◌, ◌∙◌, List, None, length, replicate, inl, inr, refl, ap, sym, subst, arith, Some}
use Rattle.std.specs.Arc.{arc_value}
use Rattle.std.specs.List.{slice_get}
use Rattle.std.proofs.lemmas.List.{length-set, length-replicate}
use Rattle.std.proofs.lemmas.Option.{slice_get_within}
use Rattle.nav_types.specs.declared.cells.Rect.{Rect}
use Rattle.nav_types.specs.declared.cells.Size.{Size}
use Rattle.nav_types.specs.Numbering.{Numbering}
use Rattle.grid_versions.specs.Chunks.{chunk_count}
use Rattle.grid_versions.specs.inner.ChunkLists.{chunk_numbered}
use Rattle.grid_versions.specs.inner.Painting.{IsPaintedChunk}
use Rattle.grid_versions.specs.inner.ReachedParts.{AreReachedParts}
use Rattle.grid_versions.specs.inner.Reaching.{HoldsReached}
use Rattle.grid_versions.proofs.DirtyLemmas.{part_of, reached_part, left_first, made_more, all_made, compared_first, compared_set}
use Rattle.grid_versions.proofs.NextLemmas.{chunk_stays}
use Rattle.grid_versions.proofs.VersionLemmas.{AreCompared}
use Rattle.grid_versions.proofs.next_cells.next_patches.Goals as goal

pub loop-part-init : goal.loop-part-init
loop-part-init c =
    let map = c.args.source.now.site.now.map.now in let now = c.args.source.now.site.now.shapes.now in
    let rects = c.args.before.now.dirty.now.rects in
    let cells = c.args.before.now.cells.now in
    let before = c.requires.before in
    let all = c.in_ok-all.all in
    let parts = c.parts-parts.result.now in
    let same : all ≡ cells = c.in_ok-all.ensures in
    let reached = subst (λ (s : Size). AreReachedParts s rects parts) c.requires.sized c.parts-parts.ensures in
    let long : length all ≡ length cells = ap (λ (xs : List Numbering). length xs) same in
    let clear : c.in_ok-changed.changed.items ≡ replicate c.len.result 0 = c.in_ok-changed.ensures.items_if_clones_equal (λ y e. e) in
    record {
      painted = record {
        are = λ place old at.
            let was : slice_get cells place ≡ Some old = ap (λ (xs : List Numbering). slice_get xs place) (sym same) ∙ at in
            let low : place < chunk_count map.size = omega (arith, slice_get_within cells place old was, before.painted.each) in
            let painted = before.painted.are place old was in
            elim (reached.all place low) [
              | inl has ↦ inr (left_first parts place has)
              | inr none ↦
                  let here = subst (λ (r : Rect). HoldsReached rects r None) (sym painted.extent) none in
                  inl (chunk_stays map before.earlier now rects before.covered (chunk_numbered map.size place) old painted
                  (λ cell inside is. here.held cell inside is))
            ];
      };
      each = long ∙ before.painted.each;
      long = ap (λ (xs : List ℕ). length xs) clear ∙ length-replicate c.len.result 0 ∙ c.len.ensures;
      compared = subst (λ (xs : List Numbering). AreCompared cells xs c.in_ok-changed.changed.items) (sym same)
          (subst (λ (bits : List ℕ). AreCompared cells cells bits) (sym clear) (compared_first cells c.len.result));
    }

pub next_patch-requires-clause-part : goal.next_patch-requires-clause-part
next_patch-requires-clause-part c = reached_part c.args.source.now.site.now.map.now.size c.args.before.now.dirty.now.size c.args.before.now.dirty.now.rects c.parts-parts.result.now
    c.loop-part.part-index c.requires.sized c.parts-parts.ensures c.loop-part-test.true

pub set_shared-requires : goal.set_shared-requires
set_shared-requires c =
    let within = (reached_part c.args.source.now.site.now.map.now.size c.args.before.now.dirty.now.size c.args.before.now.dirty.now.rects c.parts-parts.result.now
    c.loop-part.part-index c.requires.sized c.parts-parts.ensures c.loop-part-test.true).within in let each = c.loop-part.invariant.each in omega (arith, within, each)

pub loop-part-preserved : goal.loop-part-preserved
loop-part-preserved c =
    let map = c.args.source.now.site.now.map.now in let now = c.args.source.now.site.now.shapes.now in
    let parts = c.parts-parts.result.now in
    let i : ℕ = c.loop-part.part-index in
    let place = (part_of parts i).place in
    let all = c.loop-part.all in
    let patch = arc_value c.in_ok-patch.patch in
    let bits = c.in_ok-patch.bits in
    let here = c.loop-part.invariant in
    let within = (reached_part c.args.source.now.site.now.map.now.size c.args.before.now.dirty.now.size c.args.before.now.dirty.now.rects c.parts-parts.result.now
    c.loop-part.part-index c.requires.sized c.parts-parts.ensures c.loop-part-test.true).within in
    let each = here.each in
    let long = here.long in
    let low : place < length all = omega (arith, within, each) in
    let same = c.in_ok-set_shared.ensures.ok in
    record {
      painted = made_more (λ at cells. IsPaintedChunk map now (chunk_numbered map.size at) cells) parts i place all c.set_shared.new.self
          patch refl low same c.in_ok-patch.ensures.painted here.painted;
      each = ap (λ (xs : List Numbering). length xs) same ∙ length-set all place patch ∙ each;
      long = length-set c.loop-part.changed.items place bits ∙ long ∙ sym (length-set all place patch)
          ∙ sym (ap (λ (xs : List Numbering). length xs) same);
      compared = compared_set c.args.before.now.cells.now all c.set_shared.new.self c.loop-part.changed.items _ place bits patch low
          (omega (arith, low, long)) same refl c.in_ok-patch.ensures.bits here.compared;
    }

pub returns-clause-painted : goal.returns-clause-painted
returns-clause-painted c =
    let map = c.args.source.now.site.now.map.now in let now = c.args.source.now.site.now.shapes.now in
    all_made map.size (chunk_count map.size) (IsPaintedChunk map now) c.parts-parts.result.now c.loop-part.part-index c.loop-part.all
    c.loop-part.invariant.each (omega arith) c.loop-part.invariant.painted
