use Rattle.std.proofs.Common.{List, ◌≡◌, ◌∷◌, ◌++◌, []}
use Rattle.std.proofs.lemmas.List.Elements.{All-nil, All-push, All-same}
use Rattle.class_planes.specs.Planes.{is_passable}
use Rattle.grid_versions.specs.declared.dirty_parts.DirtyPart.{DirtyPart}
use Rattle.grid_versions.specs.inner.Keeping.{IsKeptPart}
use Rattle.grid_versions.proofs.DirtyLemmas.{part_of, reached_part}
use Rattle.grid_versions.proofs.tables.kept_numbers.kept_parts.Goals.{then-keeps_numbers+in_ok-push, else-keeps_numbers}
use Rattle.grid_versions.proofs.tables.kept_numbers.kept_parts.Goals as goal

pub loop-part-init : goal.loop-part-init
loop-part-init c =
    let Kept = IsKeptPart (is_passable c.args.changed.now.before.now) (is_passable c.args.plane.now) c.args.plane.now.size in
    All-same Kept c.in_ok-kept.kept.items [] c.in_ok-kept.ensures.items (All-nil Kept)

pub keeps_numbers-requires-clause-part : goal.keeps_numbers-requires-clause-part
keeps_numbers-requires-clause-part c =
    let dirty = c.args.changed.now.dirty.now in
    reached_part c.args.plane.now.size dirty.size dirty.rects c.parts-parts.result.now c.loop-part.part-index c.requires.dirty.sized
    c.parts-parts.ensures c.loop-part-test.true

pub loop-part-preserved : goal.loop-part-preserved
loop-part-preserved c =
    let Kept = IsKeptPart (is_passable c.args.changed.now.before.now) (is_passable c.args.plane.now) c.args.plane.now.size in
    let part : DirtyPart = part_of c.parts-parts.result.now c.loop-part.part-index in
    let old : List DirtyPart = c.loop-part.kept.items in
    let new : List DirtyPart = c.if-keeps_numbers.kept.items in
    elim c.if-keeps_numbers.branch [
      | then-keeps_numbers+in_ok-push w ↦
          let same : new ≡ old ++ part ∷ [] = cc (w.kept-is, w.in_ok-push.ensures.items) in
          All-same Kept new (old ++ part ∷ []) same
          (All-push Kept old part c.loop-part.invariant (c.keeps_numbers.ensures w.if-keeps_numbers.true))
      | else-keeps_numbers w ↦
          let same : new ≡ old = cc w.kept-is in
          All-same Kept new old same c.loop-part.invariant
    ]
