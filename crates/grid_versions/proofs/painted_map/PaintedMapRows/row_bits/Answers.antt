use Rattle.std.proofs.Common.{ℕ, ◌≡◌, ◌*◌, ◌+◌, ◌<◌, ◌≤◌, length, get_or, ap, sym, subst, ◌∙◌, arith}
use Rattle.std.specs.Int.{bit_at}
use Rattle.nav_types.specs.declared.cells.Rect.{Rect}
use Rattle.nav_types.specs.declared.cells.Size.{Size}
use Rattle.nav_types.specs.Cells.{cell_at}
use Rattle.nav_types.specs.Numbering.{columns}
use Rattle.nav_types.specs.Rows.{bit_of}
use Rattle.grid_versions.specs.Chunks.{chunk_columns}
use Rattle.grid_versions.specs.Versions.{MapState, passes_of}
use Rattle.grid_versions.proofs.RowLemmas.{row_chunk, holds_row, row_more}
use Rattle.grid_versions.proofs.painted_map.PaintedMapRows.row_bits.Goals as goal

pub row-row-requires-clause-south : goal.row-row-requires-clause-south
row-row-requires-clause-south c =
    let map = c.self.inside.site.now.map.now in
    let standing = c.self.inside.site.now.shapes.now in
    let size = c.size-size.result in
    let j : ℕ = c.args.j in
    let ci : ℕ = c.loop-ci.ci in
    let count : ℕ = length c.args.out.now in
    let high = subst (λ (s : MapState). j < s.map.size.h) (sym c.self.view_is) c.requires.row in
    let within : c.args.from + count ≤ map.size.w =
    subst (λ (s : MapState). c.args.from + count ≤ s.map.size.w) (sym c.self.view_is) c.requires.within in
    let wide : size.w ≡ map.size.w = ap (λ (s : Size). s.w) c.size-size.ensures in
    let below : ci < chunk_columns size = omega (arith, within, wide, c.loop-ci-test.true) in
    let painted = row_chunk map standing c.self.inside.cells.now size j ci c.place_of-place.result c.at.result.now
    c.self.invariant c.size-size.ensures high below c.place_of-place.ensures.value c.at.ensures in
    let lies = holds_row map standing size j ci c.at.result.now c.size-size.ensures high below painted in
    lies.south

pub row-row-requires-clause-north : goal.row-row-requires-clause-north
row-row-requires-clause-north c =
    let map = c.self.inside.site.now.map.now in
    let standing = c.self.inside.site.now.shapes.now in
    let size = c.size-size.result in
    let j : ℕ = c.args.j in
    let ci : ℕ = c.loop-ci.ci in
    let count : ℕ = length c.args.out.now in
    let high = subst (λ (s : MapState). j < s.map.size.h) (sym c.self.view_is) c.requires.row in
    let within : c.args.from + count ≤ map.size.w =
    subst (λ (s : MapState). c.args.from + count ≤ s.map.size.w) (sym c.self.view_is) c.requires.within in
    let wide : size.w ≡ map.size.w = ap (λ (s : Size). s.w) c.size-size.ensures in
    let below : ci < chunk_columns size = omega (arith, within, wide, c.loop-ci-test.true) in
    let painted = row_chunk map standing c.self.inside.cells.now size j ci c.place_of-place.result c.at.result.now
    c.self.invariant c.size-size.ensures high below c.place_of-place.ensures.value c.at.ensures in
    let lies = holds_row map standing size j ci c.at.result.now c.size-size.ensures high below painted in
    lies.north

pub write_part-requires-clause-here : goal.write_part-requires-clause-here
write_part-requires-clause-here c =
    let map = c.self.inside.site.now.map.now in
    let standing = c.self.inside.site.now.shapes.now in
    let size = c.size-size.result in
    let j : ℕ = c.args.j in
    let ci : ℕ = c.loop-ci.ci in
    let count : ℕ = length c.args.out.now in
    let high = subst (λ (s : MapState). j < s.map.size.h) (sym c.self.view_is) c.requires.row in
    let within : c.args.from + count ≤ map.size.w =
    subst (λ (s : MapState). c.args.from + count ≤ s.map.size.w) (sym c.self.view_is) c.requires.within in
    let wide : size.w ≡ map.size.w = ap (λ (s : Size). s.w) c.size-size.ensures in
    let below : ci < chunk_columns size = omega (arith, within, wide, c.loop-ci-test.true) in
    let painted = row_chunk map standing c.self.inside.cells.now size j ci c.place_of-place.result c.at.result.now
    c.self.invariant c.size-size.ensures high below c.place_of-place.ensures.value c.at.ensures in
    let west : c.at.result.now.rect.i0 ≡ 96 * ci = ap (λ (r : Rect). r.i0) painted.extent in
    let east = ap (λ (r : Rect). r.i1) painted.extent in
    let long : length c.row-row.result.now ≡ columns c.at.result.now.rect = c.row-row.ensures.width in
    omega (arith, within, wide, west, east, long, c.loop-ci.auto.ci)

pub loop-ci-preserved : goal.loop-ci-preserved
loop-ci-preserved c =
    let map = c.self.inside.site.now.map.now in
    let standing = c.self.inside.site.now.shapes.now in
    let size = c.size-size.result in
    let j : ℕ = c.args.j in
    let ci : ℕ = c.loop-ci.ci in
    let count : ℕ = length c.args.out.now in
    let high = subst (λ (s : MapState). j < s.map.size.h) (sym c.self.view_is) c.requires.row in
    let within : c.args.from + count ≤ map.size.w =
    subst (λ (s : MapState). c.args.from + count ≤ s.map.size.w) (sym c.self.view_is) c.requires.within in
    let wide : size.w ≡ map.size.w = ap (λ (s : Size). s.w) c.size-size.ensures in
    let below : ci < chunk_columns size = omega (arith, within, wide, c.loop-ci-test.true) in
    let painted = row_chunk map standing c.self.inside.cells.now size j ci c.place_of-place.result c.at.result.now
    c.self.invariant c.size-size.ensures high below c.place_of-place.ensures.value c.at.ensures in
    let old = c.loop-ci.out in
    let new = c.write_part.new.out in
    let long : length new ≡ count = c.write_part.ensures.stays ∙ c.loop-ci.invariant.long in
    let west : c.loop-ci.ci * 96 ≡ 96 * ci = omega arith in
    record {
      long = long;
      each = λ k i known inside below.
          let class = subst (λ (s : MapState). k < length s.map.classes) (sym c.self.view_is) known in
          subst (λ (s : MapState). bit_at (get_or new i 0) k ≡ bit_of (passes_of s k (cell_at (c.args.from + i) j)))
          c.self.view_is
          (row_more map standing j ci c.args.from (c.loop-ci.ci * 96) k i c.at.result.now c.row-row.result.now old new high
          painted west class c.row-row.ensures.width c.row-row.ensures.cells c.write_part.ensures.inside
          c.write_part.ensures.before
          (λ early.
          subst (λ (s : MapState). bit_at (get_or old i 0) k ≡ bit_of (passes_of s k (cell_at (c.args.from + i) j)))
          (sym c.self.view_is)
          (c.loop-ci.invariant.each k i known (omega (arith, inside, c.write_part.ensures.stays)) (omega (arith, early))))
          inside below (omega (arith, inside, long, within)));
    }
