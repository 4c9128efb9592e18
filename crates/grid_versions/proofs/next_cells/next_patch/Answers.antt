use Rattle.std.proofs.Common.{ℕ, List, Option, Some, ◌≡◌, ◌↔◌, ◌∙◌, refl, sym, subst}
use Rattle.std.specs.Int.{bit_at}
use Rattle.std.specs.Arc.{arc_value}
use Rattle.std.proofs.lemmas.Option.{same_Some}
use Rattle.nav_types.specs.declared.cells.Rect.{Rect}
use Rattle.nav_types.specs.declared.cells.Size.{Size}
use Rattle.nav_types.specs.Numbering.{Numbering}
use Rattle.navcell_grid.specs.Patches.{DiffersIn}
use Rattle.nav_types.specs.Rects.{chunk_rect, IsPartOf}
use Rattle.clearance_raster.proofs.Rastering.{in_whole}
use Rattle.obstruction_store.specs.Standing.{Standing}
use Rattle.posts.specs.Maps.{Map}
use Rattle.grid_versions.specs.inner.ChunkLists.{chunk_numbered}
use Rattle.grid_versions.specs.inner.Painting.{IsPaintedChunk}
use Rattle.grid_versions.specs.inner.Reachers.{HoldReachers}
use Rattle.grid_versions.specs.inner.Reaching.{HoldsReached}
use Rattle.grid_versions.proofs.ReacherLemmas.{HoldReachers-part}
use Rattle.grid_versions.proofs.ChunkLemmas.{numbered_inside}
use Rattle.grid_versions.proofs.PlanePartLemmas.{chunk_in_map, part_in_map}
use Rattle.grid_versions.proofs.NextLemmas.{chunk_repainted, chunk_kept, differs_in_part}
use Rattle.grid_versions.proofs.next_cells.next_patch.Goals as goal

-- what is known of the part of a painted chunk
reached_here : (map : Map) (earlier : Standing) (rects : List Rect) (size : Size) (place : ℕ) (old : Numbering) (part : Option Rect)
    → size ≡ map.size → IsPaintedChunk map earlier (chunk_numbered map.size place) old
    → HoldsReached rects (chunk_rect size (chunk_numbered size place)) part → HoldsReached rects old.rect part
reached_here map earlier rects size place old part sized was reached =
    subst (λ (r : Rect). HoldsReached rects r part) (sym was.extent)
    (subst (λ (s : Size). HoldsReached rects (chunk_rect s (chunk_numbered s place)) part) sized reached)

pub next_numbers-requires-clause-near : goal.next_numbers-requires-clause-near
next_numbers-requires-clause-near c =
    let map = c.args.source.now.site.now.map.now in let now = c.args.source.now.site.now.shapes.now in
    let chunk = chunk_numbered map.size c.args.part.place in
    let part = c.args.part.rect in
    let before = c.requires.before in
    let was = before.painted.are c.args.part.place c.at-old.result.now c.at-old.ensures in
    let reached = reached_here map before.earlier c.args.before.now.dirty.now.rects map.size c.args.part.place c.at-old.result.now
    (Some c.args.part.rect) refl (before.painted.are c.args.part.place c.at-old.result.now c.at-old.ensures) c.requires.part.holds in
    let within = subst (λ (r : Rect). IsPartOf r part) was.extent reached.inside in
    subst (λ (ids : List ℕ). HoldReachers map now part ids) (sym c.as_slice.ensures)
    (HoldReachers-part map now (chunk_rect map.size chunk) part c.at-near.result.now
    (c.requires.reachers.are c.args.part.place c.at-near.result.now c.at-near.ensures) within)

pub next_numbers-requires-clause-same : goal.next_numbers-requires-clause-same
next_numbers-requires-clause-same c =
    let before = c.requires.before in
    let was = before.painted.are c.args.part.place c.at-old.result.now c.at-old.ensures in
    let under = c.requires.base.are c.args.part.place c.at.result.now c.at.ensures in
    under.extent ∙ sym was.extent

pub next_numbers-requires-clause-base : goal.next_numbers-requires-clause-base
next_numbers-requires-clause-base c = λ k cell inside.
    let map = c.args.source.now.site.now.map.now in
    let before = c.requires.before in
    let part = c.args.part.rect in
    let was = before.painted.are c.args.part.place c.at-old.result.now c.at-old.ensures in
    let under = c.requires.base.are c.args.part.place c.at.result.now c.at.ensures in
    let reached = reached_here map before.earlier c.args.before.now.dirty.now.rects map.size c.args.part.place c.at-old.result.now
    (Some c.args.part.rect) refl (before.painted.are c.args.part.place c.at-old.result.now c.at-old.ensures) c.requires.part.holds in
    let within = subst (λ (r : Rect). IsPartOf r part) (was.extent ∙ sym under.extent) reached.inside in
    under.bits k cell (in_whole c.at.result.now.rect part cell within inside)

pub next_numbers-requires-clause-before : goal.next_numbers-requires-clause-before
next_numbers-requires-clause-before c =
    let map = c.args.source.now.site.now.map.now in
    let before = c.requires.before in
    let part = c.args.part.rect in
    let old = c.at-old.result.now in
    let was = before.painted.are c.args.part.place old c.at-old.ensures in
    let reached = reached_here map before.earlier c.args.before.now.dirty.now.rects map.size c.args.part.place c.at-old.result.now
    (Some c.args.part.rect) refl (before.painted.are c.args.part.place c.at-old.result.now c.at-old.ensures) c.requires.part.holds in
    let within = reached.inside in
    record {
      earlier = before.earlier;
      bits = λ k cell inside. was.bits k cell (in_whole old.rect part cell within inside);
      named = before.named;
      only_adds = before.only_adds;
      only_removes = before.only_removes;
    }

pub next_numbers-requires-clause-inside : goal.next_numbers-requires-clause-inside
next_numbers-requires-clause-inside c =
    let map = c.args.source.now.site.now.map.now in
    let before = c.requires.before in
    let was = before.painted.are c.args.part.place c.at-old.result.now c.at-old.ensures in
    let chunk = chunk_numbered map.size c.args.part.place in
    let reached = reached_here map before.earlier c.args.before.now.dirty.now.rects map.size c.args.part.place c.at-old.result.now
    (Some c.args.part.rect) refl (before.painted.are c.args.part.place c.at-old.result.now c.at-old.ensures) c.requires.part.holds in
    part_in_map map.size (chunk_rect map.size chunk) c.args.part.rect
    (subst (λ (r : Rect). IsPartOf r c.args.part.rect) was.extent reached.inside)
    (chunk_in_map map.size chunk (numbered_inside map.size c.args.part.place c.requires.part.within))

pub next_numbers-requires-clause-part : goal.next_numbers-requires-clause-part
next_numbers-requires-clause-part c =
    let map = c.args.source.now.site.now.map.now in
    let before = c.requires.before in
    let reached = reached_here map before.earlier c.args.before.now.dirty.now.rects map.size c.args.part.place c.at-old.result.now
    (Some c.args.part.rect) refl (before.painted.are c.args.part.place c.at-old.result.now c.at-old.ensures) c.requires.part.holds in
    reached.inside

pub differs_in-bits-requires-clause-inside : goal.differs_in-bits-requires-clause-inside
differs_in-bits-requires-clause-inside c =
    let map = c.args.source.now.site.now.map.now in
    let before = c.requires.before in
    let reached = reached_here map before.earlier c.args.before.now.dirty.now.rects map.size c.args.part.place c.at-old.result.now
    (Some c.args.part.rect) refl (before.painted.are c.args.part.place c.at-old.result.now c.at-old.ensures) c.requires.part.holds in
    reached.inside

pub differs_in-bits-requires-clause-other : goal.differs_in-bits-requires-clause-other
differs_in-bits-requires-clause-other c =
    let map = c.args.source.now.site.now.map.now in
    let before = c.requires.before in
    let reached = reached_here map before.earlier c.args.before.now.dirty.now.rects map.size c.args.part.place c.at-old.result.now
    (Some c.args.part.rect) refl (before.painted.are c.args.part.place c.at-old.result.now c.at-old.ensures) c.requires.part.holds in
    subst (λ (r : Rect). IsPartOf r c.args.part.rect) (sym c.in_ok-patch.ensures.rect) reached.inside

pub returns-then-bits-eq0-clause-painted : goal.returns-then-bits-eq0-clause-painted
returns-then-bits-eq0-clause-painted c =
    let map = c.args.source.now.site.now.map.now in let now = c.args.source.now.site.now.shapes.now in
    let chunk = chunk_numbered map.size c.args.part.place in
    let before = c.requires.before in
    let old = c.at-old.result.now in
    let part = c.args.part.rect in
    let patch = c.in_ok-patch.patch in
    let was = before.painted.are c.args.part.place old c.at-old.ensures in
    let reached = reached_here map before.earlier c.args.before.now.dirty.now.rects map.size c.args.part.place c.at-old.result.now
    (Some c.args.part.rect) refl (before.painted.are c.args.part.place c.at-old.result.now c.at-old.ensures) c.requires.part.holds in
    let within = reached.inside in
    let same : old ≡ arc_value c.in_ok-shared.field-0 =
    same_Some old (arc_value c.in_ok-shared.field-0) (sym c.at-old.ensures ∙ c.in_ok-shared.ensures) in
    subst (λ (n : Numbering). IsPaintedChunk map now chunk n) same
    (chunk_kept map before.earlier now c.args.before.now.dirty.now.rects before.covered chunk old was part patch within
    reached.held
    c.in_ok-patch.ensures.rect c.in_ok-patch.ensures.whole c.in_ok-patch.ensures.bits c.in_ok-patch.ensures.others
    (λ k. subst (λ (n : ℕ). (bit_at n k ≡ 1) ↔ DiffersIn k part old patch) c.if-bits-eq0.true (c.differs_in-bits.ensures k)))

pub returns-clause-painted : goal.returns-clause-painted
returns-clause-painted c =
    let map = c.args.source.now.site.now.map.now in let now = c.args.source.now.site.now.shapes.now in
    let chunk = chunk_numbered map.size c.args.part.place in
    let before = c.requires.before in
    let old = c.at-old.result.now in
    let part = c.args.part.rect in
    let patch = c.in_ok-patch.patch in
    let was = before.painted.are c.args.part.place old c.at-old.ensures in
    let reached = reached_here map before.earlier c.args.before.now.dirty.now.rects map.size c.args.part.place c.at-old.result.now
    (Some c.args.part.rect) refl (before.painted.are c.args.part.place c.at-old.result.now c.at-old.ensures) c.requires.part.holds in
    let within = reached.inside in
    subst (λ (n : Numbering). IsPaintedChunk map now chunk n) (sym c.in_ok-new.ensures.ok)
    (chunk_repainted map before.earlier now c.args.before.now.dirty.now.rects before.covered chunk old was part patch within
    reached.held
    c.in_ok-patch.ensures.rect c.in_ok-patch.ensures.whole c.in_ok-patch.ensures.bits c.in_ok-patch.ensures.others)

pub returns-clause-bits : goal.returns-clause-bits
returns-clause-bits c = λ found at k.
    let map = c.args.source.now.site.now.map.now in let now = c.args.source.now.site.now.shapes.now in
    let chunk = chunk_numbered map.size c.args.part.place in
    let before = c.requires.before in
    let old = c.at-old.result.now in
    let part = c.args.part.rect in
    let patch = c.in_ok-patch.patch in
    let set = c.differs_in-bits.result in
    let was = before.painted.are c.args.part.place old c.at-old.ensures in
    let reached = reached_here map before.earlier c.args.before.now.dirty.now.rects map.size c.args.part.place c.at-old.result.now
    (Some c.args.part.rect) refl (before.painted.are c.args.part.place c.at-old.result.now c.at-old.ensures) c.requires.part.holds in
    let within = reached.inside in
    let same : old ≡ found = same_Some old found (sym c.at-old.ensures ∙ at) in
    subst (λ (n : Numbering). (bit_at set k ≡ 1) ↔ DiffersIn k n.rect found n) (sym c.in_ok-new.ensures.ok)
    (subst (λ (n : Numbering). (bit_at set k ≡ 1) ↔ DiffersIn k patch.rect n patch) same
    (differs_in_part map before.earlier now c.args.before.now.dirty.now.rects before.covered chunk old was part patch within
    reached.held
    c.in_ok-patch.ensures.rect c.in_ok-patch.ensures.whole c.in_ok-patch.ensures.bits c.in_ok-patch.ensures.others
    k set (c.differs_in-bits.ensures k)))
