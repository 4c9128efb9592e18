use Rattle.std.proofs.Common.{◌≡◌, ◌<◌, ◌∙◌, ℕ, List, length, inl, inr, refl, ap, sym, subst, arith, Some}
use Rattle.std.specs.List.{Contains, slice_get}
use Rattle.std.proofs.lemmas.List.{length-set}
use Rattle.std.proofs.lemmas.Option.{slice_get_within}
use Rattle.nav_types.specs.declared.cells.Size.{Size}
use Rattle.nav_types.specs.Rects.{chunk_rect}
use Rattle.grid_versions.specs.declared.reachers.Reacher.{Reacher}
use Rattle.grid_versions.specs.Chunks.{chunk_count}
use Rattle.grid_versions.specs.inner.ChunkLists.{chunk_numbered}
use Rattle.grid_versions.specs.inner.Reachers.{HoldChunkReachers, AreReachersSince}
use Rattle.grid_versions.specs.inner.ReachedParts.{AreReachedParts}
use Rattle.grid_versions.proofs.ChunkLemmas.{numbered_inside}
use Rattle.grid_versions.proofs.DirtyLemmas.{part_of, reached_part, left_first, made_more, all_made}
use Rattle.grid_versions.proofs.PlanePartLemmas.{chunk_in_map}
use Rattle.grid_versions.proofs.ReacherLemmas.{reachers_stay}
use Rattle.grid_versions.proofs.reachers.next_reachers.Goals as goal

pub loop-part-init : goal.loop-part-init
loop-part-init c =
    let map = c.args.site.now.map.now in let now = c.args.site.now.shapes.now in
    let rects = c.args.changes.now.dirty.now.rects in
    let before = c.requires.before in
    let all = c.in_ok-all.all in
    let parts = c.parts-parts.result.now in
    let same : all ≡ c.args.before.now = c.in_ok-all.ensures in
    let reached = subst (λ (s : Size). AreReachedParts s rects parts) c.requires.sized c.parts-parts.ensures in
    record {
      each = ap (λ (xs : List (List ℕ)). length xs) same ∙ before.lists.each;
      made = record {
        are = λ place ids at.
            let was : slice_get c.args.before.now place ≡ Some ids = ap (λ (xs : List (List ℕ)). slice_get xs place) (sym same) ∙ at in
            let low : place < chunk_count map.size = omega (arith, slice_get_within c.args.before.now place ids was, before.lists.each) in
            let chunk = chunk_numbered map.size place in
            elim (reached.all place low) [
              | inl has ↦ inr (left_first parts place has)
              | inr none ↦ inl (reachers_stay map before.earlier now rects c.args.changes.now.ids.now before.named
                  (chunk_rect map.size chunk) ids (before.lists.are place ids was)
                  (chunk_in_map map.size chunk (numbered_inside map.size place low)) (λ cell here is. none.held cell here is))
            ];
      };
    }

pub reachers_at-requires-clause-place : goal.reachers_at-requires-clause-place
reachers_at-requires-clause-place c =
    subst (λ (s : Size). (part_of c.parts-parts.result.now c.loop-part.part-index).place < chunk_count s) (sym c.size-size.ensures)
    (reached_part c.args.site.now.map.now.size c.args.changes.now.dirty.now.size c.args.changes.now.dirty.now.rects c.parts-parts.result.now
    c.loop-part.part-index c.requires.sized c.parts-parts.ensures c.loop-part-test.true).within

pub reachers_at-requires-clause-each : goal.reachers_at-requires-clause-each
reachers_at-requires-clause-each c =
    c.requires.before.lists.each ∙ ap (λ (s : Size). chunk_count s) (sym c.size-size.ensures)

pub set-requires : goal.set-requires
set-requires c =
    let within = (reached_part c.args.site.now.map.now.size c.args.changes.now.dirty.now.size c.args.changes.now.dirty.now.rects c.parts-parts.result.now
    c.loop-part.part-index c.requires.sized c.parts-parts.ensures c.loop-part-test.true).within in let each = c.loop-part.invariant.each in omega (arith, within, each)

pub loop-part-preserved : goal.loop-part-preserved
loop-part-preserved c =
    let map = c.args.site.now.map.now in let now = c.args.site.now.shapes.now in
    let parts = c.parts-parts.result.now in
    let i : ℕ = c.loop-part.part-index in
    let place = (part_of parts i).place in
    let all = c.loop-part.all in
    let made = c.in_ok-made.made in
    let before = c.requires.before in
    let rising = c.deref.result.now in
    let within = (reached_part c.args.site.now.map.now.size c.args.changes.now.dirty.now.size c.args.changes.now.dirty.now.rects c.parts-parts.result.now
    c.loop-part.part-index c.requires.sized c.parts-parts.ensures c.loop-part-test.true).within in
    let each = c.loop-part.invariant.each in
    let since : AreReachersSince map now c.args.before.now c.args.changes.now.dirty.now.rects rising c.deref-in-loop-part.result.now =
    subst (λ (changed : List Reacher). AreReachersSince map now c.args.before.now c.args.changes.now.dirty.now.rects rising changed)
    (sym c.deref-in-loop-part.ensures.value) (record {
      earlier = before.earlier;
      lists = before.lists;
      each = λ id. elim (before.named.each id) [
        | inl same ↦ inl same
        | inr was ↦ inr (
          c.in_ok-changed.ensures id (subst (λ (ids : List ℕ). Contains ids id) (sym c.deref.ensures.value)
              (c.in_ok-rising.ensures id was.0)),
          was.1,
        )
      ];
      named = c.in_ok-changed.ensures;
    }) in
    let own = subst (λ (s : Size). HoldChunkReachers map now (chunk_numbered s place) made) c.size-size.ensures
    (c.in_ok-made.ensures map now (sym c.size-size.ensures) since) in
    record {
      each = ap (λ (xs : List (List ℕ)). length xs) c.in_ok-set.ensures.ok ∙ length-set all place made ∙ each;
      made = made_more (λ at ids. HoldChunkReachers map now (chunk_numbered map.size at) ids) parts i place all c.set.new.self made
          refl (omega (arith, within, each)) c.in_ok-set.ensures.ok own c.loop-part.invariant.made;
    }

pub returns : goal.returns
returns c =
    let map = c.args.site.now.map.now in let now = c.args.site.now.shapes.now in
    all_made map.size (chunk_count map.size) (HoldChunkReachers map now) c.parts-parts.result.now c.loop-part.part-index c.loop-part.all
    c.loop-part.invariant.each (omega arith) c.loop-part.invariant.made
