-- What the parts of a version say of its map and its obstructions.
use Rattle.std.proofs.Common.{◌≡◌, ℕ, zero, suc, ◌+◌, ◌-◌, ◌<◌, ◌≤◌, ◌↔◌, Bool, true, false, ◌&&◌, not, cond, List, [], ◌∷◌, ◌++◌, length, map as each_of, get_or, refl, sym, ap, subst, ◌∙◌, inl, inr, arith, Option, Some, option_map, length-append}
use Rattle.std.specs.Prelude.{nat_lt, slice_get}
use Rattle.std.specs.List.{count_by, sum_by, range_with_len}
use Rattle.std.specs.Int.{bit_at}
use Rattle.std.proofs.lemmas.Bool.{and_parts, and_from, lt-ltb, eqb-true, eq-eqb}
use Rattle.std.proofs.lemmas.Option.{same_Some, slice_get-map, slice_get_within, slice_get-get_or, get_or_from_slice_get}
use Rattle.std.proofs.lemmas.List.{length-map}
use Rattle.std.proofs.lemmas.List.FromFn.{length-map-range_with_len, get_or-map-range_with_len, sum_by-map-range_with_len_more}
use Rattle.std.proofs.lemmas.List.Sums.{sum_by-cons}
use Rattle.nav_types.specs.declared.cells.Cell.{Cell}
use Rattle.nav_types.specs.declared.cells.Chunk.{Chunk}
use Rattle.nav_types.specs.declared.cells.Rect.{Rect}
use Rattle.nav_types.specs.declared.cells.Size.{Size}
use Rattle.nav_types.specs.Cells.{IsInside, IsInRect, chunk_of}
use Rattle.nav_types.specs.Regions.{HasRelabelled}
use Rattle.lane_rows.specs.Rows.{has_class}
use Rattle.navcell_grid.specs.Patches.{DiffersIn}
use Rattle.nav_types.specs.Numbering.{Numbering, number_of}
use Rattle.nav_types.specs.Rects.{chunk_rect}
use Rattle.nav_types.proofs.CellOrder.{same_chunk}
use Rattle.chunk_regions.proofs.LabelLemmas.{in_rect, in_chunk}
use Rattle.region_edges.specs.Edges.{PassesInside}
use Rattle.class_planes.specs.Planes.{PlaneCells, IsPlaneOf, is_passable}
use Rattle.obstruction_store.specs.Standing.{Standing}
use Rattle.posts.specs.Maps.{Map}
use Rattle.grid_versions.specs.Passing.{passable_at, is_inside}
use Rattle.grid_versions.specs.inner.Painting.{is_covered, IsPaintedChunk, ArePaintedChunks, AreDiffering}
use Rattle.grid_versions.specs.Chunks.{chunk_count, chunk_place}
use Rattle.grid_versions.specs.inner.ChunkLists.{chunk_numbered}
use Rattle.grid_versions.specs.inner.Tables.{Tables, AreTables}
use Rattle.grid_versions.specs.inner.Tallying.{AreTablesOf, Differs, AreMarks}
use Rattle.grid_versions.specs.inner.Changing.{AreChanges}
use Rattle.grid_versions.specs.inner.Parts.{AreParts}
use Rattle.nav_types.proofs.Items.{slice_get-push_cases}
use Rattle.grid_versions.proofs.ChunkLemmas.{AreOfChunks-at, chunk_inside, item_at}
use Rattle.grid_versions.proofs.TallyLemmas.{all_relabelled, differing_inside}
use Rattle.grid_versions.proofs.PassingLemmas.{inside_from, inside_to}

-- ---- one more table

pub AreTablesOf-push : (classes : ℕ) (passes : ℕ → Cell → Bool) (size : Size) (all : List Tables) (one : Tables)
    → AreTablesOf classes passes size all → AreTables (passes classes) size one → AreTablesOf (classes + 1) passes size (all ++ one ∷ [])
AreTablesOf-push classes passes size all one of is =
    let each = of.each in
    record {
      each = omega (arith, length-append all (one ∷ []));
      are = λ class tables at. elim (slice_get-push_cases all one class tables at) [
        | inl here ↦ of.are class tables here
        | inr last ↦
            let same : classes ≡ class = omega (arith, last.0) in
            subst (λ (k : ℕ). AreTables (passes k) size tables) same (subst (λ (t : Tables). AreTables (passes classes) size t) last.1 is)
      ];
    }

-- ---- covered and passable cells

module _ (map : Map) (standing : Standing) where
  -- a cell of the map is passable for a class of the map where nothing covers it
  pub passable-inside : (k : ℕ) (cell : Cell) → k < length map.classes → IsInside map.size cell
      → passable_at map standing k cell ≡ not (is_covered map standing k cell)
  unfolding passable_at
  passable-inside k cell class inside =
      let known = and_from (nat_lt k (length map.classes)) (is_inside map.size cell) (lt-ltb k (length map.classes) class) (inside_to map.size cell inside) in
      ap (λ b. b && not (is_covered map standing k cell)) known

  -- only cells of the map are passable
  pub passable_within : (k : ℕ) → PassesInside (passable_at map standing k) map.size
  unfolding passable_at
  passable_within k cell passes =
      let all = and_parts (nat_lt k (length map.classes) && is_inside map.size cell) (not (is_covered map standing k cell)) passes in
      inside_from map.size cell (and_parts (nat_lt k (length map.classes)) (is_inside map.size cell) all.0).1

  -- a cell of a chunk's rectangle lies in the map
  pub rect_inside : (size : Size) (chunk : Chunk) (cell : Cell) → IsInRect (chunk_rect size chunk) cell → IsInside size cell
  rect_inside size chunk cell inside =
      let east = inside.east in let north = inside.north in
      let wide = size.wide.some in let high = size.high.some in
      record { column = omega arith; row = omega arith }

  -- a cell lies in its own chunk's rectangle
  pub own_rect : (cell : Cell) → IsInside map.size cell → IsInRect (chunk_rect map.size (chunk_of cell)) cell
  own_rect cell inside = in_rect map.size (chunk_of cell) cell inside refl refl

  -- a painted chunk's free cells are passable
  pub chunk-passes : (chunk : Chunk) (cells : Numbering) (k : ℕ) (cell : Cell) → IsPaintedChunk map standing chunk cells → k < length map.classes
      → IsInRect (chunk_rect map.size chunk) cell → not (has_class k (number_of cells cell)) ≡ passable_at map standing k cell
  chunk-passes chunk cells k cell painted class inside =
      ap not (painted.bits k cell (subst (λ (r : Rect). IsInRect r cell) (sym painted.extent) inside))
      ∙ sym (passable-inside k cell class (rect_inside map.size chunk cell inside))

-- ---- what differs between two versions

not-injective : (x y : Bool) → not x ≡ not y → x ≡ y
not-injective true true same = refl
not-injective true false same = absurd (cc)
not-injective false true same = absurd (cc)
not-injective false false same = refl

pub sum_each : {X Y : Type 0} (g : Y → ℕ) (f : X → Y) (xs : List X) → sum_by g (each_of f xs) ≡ sum_by (λ x. g (f x)) xs
sum_each g f [] = refl
sum_each g f (x ∷ xs) =
    sum_by-cons g (f x) (each_of f xs) ∙ ap (λ n. g (f x) + n) (sum_each g f xs) ∙ sym (sum_by-cons (λ y. g (f y)) x xs)

mark_low : (bits : List ℕ) (place : ℕ) (mark : Bool) (k : ℕ) → slice_get (each_of (has_class k) bits) place ≡ Some mark → place < length bits
mark_low bits place mark k at = omega (arith, slice_get_within (each_of (has_class k) bits) place mark at, length-map bits (has_class k))

marks_low : (marks : ℕ → List Bool) (classes k : ℕ) (ms : List Bool) → slice_get (each_of marks (range_with_len 0 classes)) k ≡ Some ms → k < classes
marks_low marks classes k ms at =
    omega (arith, slice_get_within (each_of marks (range_with_len 0 classes)) k ms at, length-map-range_with_len marks 0 classes)

marks_at : (marks : ℕ → List Bool) (classes k : ℕ) (ms : List Bool) → k < classes → slice_get (each_of marks (range_with_len 0 classes)) k ≡ Some ms → marks k ≡ ms
marks_at marks classes k ms low at =
    sym (get_or-map-range_with_len marks 0 classes k k ms low (omega arith))
    ∙ get_or_from_slice_get (each_of marks (range_with_len 0 classes)) k ms ms at

module _ (map : Map) (old new : Standing) (before now : List Numbering) (were : ArePaintedChunks map old before) (are : ArePaintedChunks map new now) where
  -- a bit of a chunk differs exactly where a cell is passable in one of the two and not in the other
  differs_where : (k : ℕ) (chunk : Chunk) (a b : Numbering) → k < length map.classes → IsPaintedChunk map old chunk a → IsPaintedChunk map new chunk b
      → DiffersIn k b.rect a b ↔ Differs (passable_at map old k) (passable_at map new k) chunk
  differs_where k chunk a b class was is = (
    λ differs.
        let inside = subst (λ (r : Rect). IsInRect r differs.cell) is.extent differs.inside in
        let place = in_chunk map.size chunk differs.cell inside in (
          differs.cell,
          (
            same_chunk (chunk_of differs.cell) chunk place.0 place.1,
            λ same.
                differs.apart (not-injective (has_class k (number_of a differs.cell)) (has_class k (number_of b differs.cell))
                (chunk-passes map old chunk a k differs.cell was class inside ∙ same ∙ sym (chunk-passes map new chunk b k differs.cell is class inside))),
          ),
        ),
    λ differs.
        let cell = differs.0 in
        let inside : IsInRect (chunk_rect map.size chunk) cell =
        subst (λ (c : Chunk). IsInRect (chunk_rect map.size c) cell) differs.1.0 (own_rect map old cell (differing_inside (passable_at map old k) (passable_at map new k) map.size (passable_within map old k) (passable_within map new k) cell differs.1.1)) in
        record {
          cell = cell;
          inside = subst (λ (r : Rect). IsInRect r cell) (sym is.extent) inside;
          apart = λ same. differs.1.1 (sym (chunk-passes map old chunk a k cell was class inside) ∙ ap not same ∙ chunk-passes map new chunk b k cell is class inside);
        },
  )

  -- the marks of a class are its bits
  marks_of : (bits : List ℕ) (k : ℕ) → AreDiffering before now bits → k < length map.classes
      → AreMarks (passable_at map old k) (passable_at map new k) map.size (each_of (has_class k) bits)
  marks_of bits k differing class =
      let each = differing.each in
      record {
        each = length-map bits (has_class k) ∙ each ∙ are.each;
        are = λ place mark at.
            let low : place < length bits = mark_low bits place mark k at in
            let set = get_or bits place 0 in
            let set_at : slice_get bits place ≡ Some set = slice_get-get_or bits place 0 low in
            let mark_is : has_class k set ≡ mark =
            same_Some (has_class k set) mark (ap (λ o. option_map (has_class k) o) (sym set_at) ∙ sym (slice_get-map (has_class k) bits place) ∙ at) in
            let was = item_at map.size (chunk_count map.size) (IsPaintedChunk map old) before were place (omega (arith, are.each)) in
            let is = item_at map.size (chunk_count map.size) (IsPaintedChunk map new) now are place (omega (arith, are.each)) in
            let bit = differing.are place was.0 is.0 set was.1 is.1 set_at k in
            let cells = differs_where k (chunk_numbered map.size place) was.0 is.0 class (were.are place was.0 was.1) (are.are place is.0 is.1) in (
              λ marked. cells.0 (bit.0 (eqb-true (bit_at set k) 1 (mark_is ∙ marked))),
              λ differs. sym mark_is ∙ eq-eqb (bit_at set k) 1 (bit.1 (cells.1 differs)),
            );
      }

  pub changes_of : (bits : List ℕ) (k : ℕ) → AreDiffering before now bits → k < length map.classes
      → AreChanges (passable_at map old k) (passable_at map new k) map.size k bits
  changes_of bits k differing class = record {
    before_inside = passable_within map old k;
    now_inside = passable_within map new k;
    marks = marks_of bits k differing class;
  }

  pub relabelled_counted : (bits : List ℕ) (classes : ℕ) → AreDiffering before now bits → classes ≡ length map.classes
      → HasRelabelled (length map.classes) (passable_at map old) (passable_at map new) (sum_by (λ k. count_by (has_class k) bits) (range_with_len 0 classes))
  relabelled_counted bits classes differing count =
      let marks : ℕ → List Bool = λ k. each_of (has_class k) bits in
      let all = each_of marks (range_with_len 0 classes) in
      let counted : List Bool → ℕ = λ ms. count_by (λ mark. mark) ms in
      let total : sum_by counted all ≡ sum_by (λ k. count_by (has_class k) bits) (range_with_len 0 classes) =
      sum_each counted marks (range_with_len 0 classes)
      ∙ ap (λ (f : ℕ → ℕ). sum_by f (range_with_len 0 classes)) (λ i k. sum_each (λ (mark : Bool). cond mark 1 0) (has_class k) bits i) in
      subst (λ n. HasRelabelled (length map.classes) (passable_at map old) (passable_at map new) n) total
      (all_relabelled (length map.classes) (passable_at map old) (passable_at map new) map.size all (passable_within map old) (passable_within map new)
      (record {
        each = length-map-range_with_len marks 0 classes ∙ count;
        are = λ k ms at.
            let low : k < classes = marks_low marks classes k ms at in
            let is : marks k ≡ ms = marks_at marks classes k ms low at in
            subst (λ (m : List Bool). AreMarks (passable_at map old k) (passable_at map new k) map.size m) is (marks_of bits k differing (omega (arith, count)));
      }))

-- ---- loops

pub sum_range_more : (f : ℕ → ℕ) (n : ℕ) → sum_by f (range_with_len 0 (n + 1)) ≡ sum_by f (range_with_len 0 n) + f n
sum_range_more f n =
    sym (sum_each f (λ (k : ℕ). k) (range_with_len 0 (n + 1)))
    ∙ sum_by-map-range_with_len_more f (λ k. k) 0 n n (omega arith)
    ∙ ap (λ m. m + f n) (sum_each f (λ (k : ℕ). k) (range_with_len 0 n))

sum_range_up : (f : ℕ → ℕ) (m d : ℕ) → sum_by f (range_with_len 0 m) ≤ sum_by f (range_with_len 0 (m + d))
sum_range_up f m zero =
    let same : m + 0 ≡ m = omega arith in
    omega (arith, ap (λ (k : ℕ). sum_by f (range_with_len 0 k)) same)
sum_range_up f m (suc d) =
    let same : m + suc d ≡ m + d + 1 = omega arith in
    omega (arith, sum_range_up f m d, sum_range_more f (m + d), ap (λ (k : ℕ). sum_by f (range_with_len 0 k)) same)

pub sum_range_most : (f : ℕ → ℕ) (m n : ℕ) → m ≤ n → sum_by f (range_with_len 0 m) ≤ sum_by f (range_with_len 0 n)
sum_range_most f m n low =
    let same : m + (n - m) ≡ n = omega arith in
    omega (arith, sum_range_up f m (n - m), ap (λ (k : ℕ). sum_by f (range_with_len 0 k)) same)

-- each chunk before place n is compared
abbrev pub AreCompared : List Numbering → List Numbering → List ℕ → Type 0
AreCompared before now bits = (place : ℕ) (a b : Numbering) (set : ℕ) → slice_get before place ≡ Some a → slice_get now place ≡ Some b
    → slice_get bits place ≡ Some set → (k : ℕ) → (bit_at set k ≡ 1) ↔ DiffersIn k b.rect a b

-- ---- a version from its parts

-- the tables at a class's place are those of the class
pub class_table : (map : Map) (standing : Standing) (base : List Numbering) (reachers : List (List ℕ)) (cells : List Numbering) (planes : List (Option PlaneCells)) (tables : List Tables)
    → AreParts map standing base reachers cells planes tables → (class index : ℕ) (found : Tables) → index ≡ class → slice_get tables index ≡ Some found → AreTables (passable_at map standing class) map.size found
class_table map standing base reachers cells planes tables parts class index found same at =
    parts.tables_are.are class found (ap (λ i. slice_get tables i) (sym same) ∙ at)

-- the numbers at the place of a cell's chunk are the chunk's
pub painted_chunk : (map : Map) (standing : Standing) (cells : List Numbering) → ArePaintedChunks map standing cells
    → (cell : Cell) (place : ℕ) (found : Numbering) → IsInside map.size cell → place ≡ chunk_place map.size (chunk_of cell)
    → slice_get cells place ≡ Some found → IsPaintedChunk map standing (chunk_of cell) found
painted_chunk map standing cells are cell place found inside same at =
    AreOfChunks-at map.size (chunk_count map.size) (IsPaintedChunk map standing) cells (chunk_of cell) found are
    (chunk_inside map.size cell inside) (ap (λ i. slice_get cells i) (sym same) ∙ at)

pub in_own_rect : (map : Map) (standing : Standing) (cell : Cell) (found : Numbering) → IsInside map.size cell → IsPaintedChunk map standing (chunk_of cell) found
    → IsInRect found.rect cell
in_own_rect map standing cell found inside painted =
    subst (λ (r : Rect). IsInRect r cell) (sym painted.extent) (own_rect map standing cell inside)

pub free_is_passable : (map : Map) (standing : Standing) (cell : Cell) (found : Numbering) (k : ℕ) → IsInside map.size cell → k < length map.classes
    → IsPaintedChunk map standing (chunk_of cell) found → not (has_class k (number_of found cell)) ≡ passable_at map standing k cell
free_is_passable map standing cell found k inside class painted =
    chunk-passes map standing (chunk_of cell) found k cell painted class (own_rect map standing cell inside)

-- ---- a class by its plane

-- what holds of the cells and the size of a class's plane holds of the class
pub of_plane : (Is : (Cell → Bool) → Size → Type 0) (size : Size) (passes : Cell → Bool) (plane : PlaneCells)
    → IsPlaneOf size passes plane → Is (is_passable plane) plane.size → Is passes size
of_plane Is size passes plane of is =
    subst (λ (s : Size). Is passes s) of.extent (subst (λ (p : Cell → Bool). Is p plane.size) of.cells is)

-- what holds of a class holds of the cells and the size of its plane
pub to_plane : (Is : (Cell → Bool) → Size → Type 0) (size : Size) (passes : Cell → Bool) (plane : PlaneCells)
    → IsPlaneOf size passes plane → Is passes size → Is (is_passable plane) plane.size
to_plane Is size passes plane of is =
    subst (λ (p : Cell → Bool). Is p plane.size) (sym of.cells) (subst (λ (s : Size). Is passes s) (sym of.extent) is)
