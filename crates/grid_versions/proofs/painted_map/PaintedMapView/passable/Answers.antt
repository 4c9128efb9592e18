use Rattle.std.proofs.Common.{◌≡◌, ◌<◌, ◌∙◌, length, ap, sym, subst}
use Rattle.nav_types.specs.declared.cells.Chunk.{Chunk}
use Rattle.nav_types.specs.declared.cells.Size.{Size}
use Rattle.nav_types.specs.Cells.{IsInside, chunk_of}
use Rattle.grid_versions.specs.Chunks.{chunk_place}
use Rattle.grid_versions.specs.Versions.{MapState, passes_of}
use Rattle.grid_versions.proofs.VersionLemmas.{painted_chunk, in_own_rect, free_is_passable}
use Rattle.grid_versions.proofs.painted_map.PaintedMapView.passable.Goals as goal

pub is_free-requires : goal.is_free-requires
is_free-requires c =
    let map = c.self.inside.site.now.map.now in
    let standing = c.self.inside.site.now.shapes.now in
    let inside = subst (λ (s : MapState). IsInside s.map.size c.args.cell) (sym c.self.view_is) c.requires.inside in
    let place : c.place_of-place.result ≡ chunk_place map.size (chunk_of c.args.cell) =
    c.place_of-place.ensures.value ∙ ap (λ (s : Size). chunk_place s c.chunk.result) c.size.ensures
    ∙ ap (λ (chunk : Chunk). chunk_place map.size chunk) c.chunk.ensures in
    in_own_rect map standing c.args.cell c.at.result.now inside
    (painted_chunk map standing c.self.inside.cells.now c.self.invariant c.args.cell c.place_of-place.result c.at.result.now inside
    place c.at.ensures)

pub returns : goal.returns
returns c =
    let map = c.self.inside.site.now.map.now in
    let standing = c.self.inside.site.now.shapes.now in
    let inside = subst (λ (s : MapState). IsInside s.map.size c.args.cell) (sym c.self.view_is) c.requires.inside in
    let low = subst (λ (s : MapState). c.args.class < length s.map.classes) (sym c.self.view_is) c.requires.class in
    let place : c.place_of-place.result ≡ chunk_place map.size (chunk_of c.args.cell) =
    c.place_of-place.ensures.value ∙ ap (λ (s : Size). chunk_place s c.chunk.result) c.size.ensures
    ∙ ap (λ (chunk : Chunk). chunk_place map.size chunk) c.chunk.ensures in
    let painted = painted_chunk map standing c.self.inside.cells.now c.self.invariant c.args.cell c.place_of-place.result
    c.at.result.now inside place c.at.ensures in
    c.is_free.ensures ∙ free_is_passable map standing c.args.cell c.at.result.now c.args.class inside low painted
    ∙ ap (λ (s : MapState). passes_of s c.args.class c.args.cell) c.self.view_is
