use Rattle.std.proofs.Common.{sym, subst}
use Rattle.obstruction_store.specs.Standing.{Standing}
use Rattle.posts.specs.Maps.{Map}
use Rattle.grid_versions.specs.inner.Painting.{AreBaseChunks, ArePaintedChunks}
use Rattle.grid_versions.proofs.GuidingLemmas.{base_painted}
use Rattle.grid_versions.proofs.versions.Version.grown_guides.Goals as goal

pub new-bare-requires : goal.new-bare-requires
new-bare-requires c =
    let map = c.deref.result.now in
    let base = c.parts.inside.layers.cell_layer.base in
    subst (λ (s : Standing). ArePaintedChunks map s base) (sym c.in_ok-nothing.ensures)
    (base_painted map base (subst (λ (m : Map). AreBaseChunks m base) (sym c.deref.ensures) c.parts.invariant.base_are))
