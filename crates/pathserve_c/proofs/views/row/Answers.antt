use Rattle.std.proofs.Common.{◌≡◌, ◌≤◌, ◌/◌, ◌%◌, ◌++◌, ℕ, List, length, sym, subst, le_trans}
use Rattle.std.specs.Prelude.{drop, slice_index}
use Rattle.std.specs.Int.{bit_at}
use Rattle.std.proofs.Math.Nat.{min-le_left}
use Rattle.lane_rows.specs.Rows.{one_if}
use Rattle.nav_types.specs.Cells.{cell_at}
use Rattle.class_planes.specs.Planes.{AreFreeBits}
use Rattle.grid_versions.specs.Versions.{passes_of}
use Rattle.pathserve_c.proofs.Places.{first_bits, row_fits}
use Rattle.pathserve_c.proofs.views.row.Goals as goal

pub returns-clause-bits : goal.returns-clause-bits
returns-clause-bits c = λ i early.
    let version = c.args.version.now in let j = c.args.j in let words = c.args.words.now in
    let row = c.row_of-row.result.now in let count = c.min-count.result in
    let of_class = subst (λ (k : ℕ). AreFreeBits (λ n. passes_of version k (cell_at n j)) row) c.in-Some.ensures.some.0 c.row_of-row.ensures.bits in
    let width = c.args.version.now.map.size.w in
    let few : c.div_ceil.result ≤ length row = rw (c.div_ceil.ensures, c.from.ensures, c.size.ensures, c.map.ensures, c.row_of-row.ensures.words) (row_fits width) in
    let within = subst (λ (n : ℕ). n ≤ length row) (sym c.min-count.ensures) (le_trans (min-le_left c.div_ceil.result (length words)) few) in
    subst (λ (head : List ℕ). bit_at (slice_index (head ++ drop count words) (i / 64)) (i % 64) ≡ one_if (passes_of version c.args.class_number (cell_at i j)))
    (sym c.copy_from_slice.ensures.after)
    (first_bits (λ n. passes_of version c.args.class_number (cell_at n j)) row (drop count words) count of_class within i early)
