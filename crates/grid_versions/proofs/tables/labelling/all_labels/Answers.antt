use Rattle.std.proofs.Common.{ℕ, List, ◌+◌, ◌≡◌, ◌∙◌, sym, ap, subst, arith}
use Rattle.nav_types.specs.declared.cells.Chunk.{Chunk}
use Rattle.nav_types.specs.declared.cells.Size.{Size}
use Rattle.chunk_regions.specs.Labelling.{Labelling, AreLabels}
use Rattle.class_planes.specs.Planes.{is_passable}
use Rattle.grid_versions.specs.Chunks.{chunk_count}
use Rattle.grid_versions.specs.inner.ChunkLists.{AreOfChunks}
use Rattle.grid_versions.proofs.ChunkLemmas.{AreOfChunks-push}
use Rattle.grid_versions.proofs.tables.labelling.all_labels.Goals as goal

pub labels_at-requires : goal.labels_at-requires
labels_at-requires g c =
    let equal : c.count-count.result ≡ chunk_count c.args.plane.now.size = c.count-count.ensures.value ∙ ap (λ (s : Size). chunk_count s) c.size.ensures in
    omega arith

pub returns-in_err-labels-clause-most : goal.returns-in_err-labels-clause-most
returns-in_err-labels-clause-most g c =
    let equal : c.count-count.result ≡ chunk_count c.args.plane.now.size = c.count-count.ensures.value ∙ ap (λ (s : Size). chunk_count s) c.size.ensures in
    let ticked = c.loop-place.invariant.ticked in
    omega (arith, c.labels_at.ensures.ticks)

pub returns-in_err-push-clause-most : goal.returns-in_err-push-clause-most
returns-in_err-push-clause-most g c =
    let equal : c.count-count.result ≡ chunk_count c.args.plane.now.size = c.count-count.ensures.value ∙ ap (λ (s : Size). chunk_count s) c.size.ensures in
    let ticked = c.loop-place.invariant.ticked in
    omega (arith, c.labels_at.ensures.ticks)

pub loop-place-preserved : goal.loop-place-preserved
loop-place-preserved g c =
    let passes = is_passable c.args.plane.now in
    let size = c.args.plane.now.size in
    let place = c.loop-place.place in
    let Is = λ (chunk : Chunk) (one : Labelling). AreLabels passes size chunk one in
    let ticked = c.loop-place.invariant.ticked in
    record {
      labelled = subst (λ (all : List Labelling). AreOfChunks size (place + 1) Is all) (sym c.in_ok-push.ensures.ok)
          (AreOfChunks-push size place Is c.loop-place.all c.in_ok-labels.labels c.loop-place.invariant.labelled c.in_ok-labels.ensures.labels);
      ticked = omega (arith, c.labels_at.ensures.ticks);
    }

pub returns-clause-labels : goal.returns-clause-labels
returns-clause-labels g c =
    let passes = is_passable c.args.plane.now in
    let size = c.args.plane.now.size in
    let equal : c.count-count.result ≡ chunk_count size = c.count-count.ensures.value ∙ ap (λ (s : Size). chunk_count s) c.size.ensures in
    let done : c.loop-place.place ≡ chunk_count size = omega arith in
    subst (λ (n : ℕ). AreOfChunks size n (λ chunk one. AreLabels passes size chunk one) c.loop-place.all) done c.loop-place.invariant.labelled

pub returns-clause-ticks : goal.returns-clause-ticks
returns-clause-ticks g c =
    let equal : c.count-count.result ≡ chunk_count c.args.plane.now.size = c.count-count.ensures.value ∙ ap (λ (s : Size). chunk_count s) c.size.ensures in
    let ticked = c.loop-place.invariant.ticked in
    omega arith

pub returns-clause-most : goal.returns-clause-most
returns-clause-most g c =
    let equal : c.count-count.result ≡ chunk_count c.args.plane.now.size = c.count-count.ensures.value ∙ ap (λ (s : Size). chunk_count s) c.size.ensures in
    let ticked = c.loop-place.invariant.ticked in
    omega arith
