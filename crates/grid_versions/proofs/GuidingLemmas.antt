-- Tables of landmarks of the map where nothing stands serve all its versions.
use Rattle.std.proofs.Common.{◌≡◌, ℕ, Bool, false, ◌||◌, ◌<◌, List, Option, None, Some, IfSome, length, set, replicate, IsTrue, sym, ap, inl, inr, subst, ◌∙◌, arith}
use Rattle.std.proofs.lemmas.Bool.{cases_eq}
use Rattle.std.proofs.lemmas.List.{length-set, length-replicate, get_or-replicate}
use Rattle.std.proofs.lemmas.Option.{slice_get_within, get_or_from_slice_get}
use Rattle.std.specs.List.{slice_get}
use Rattle.std.specs.Ordering.{nat_cmp}
use Rattle.std.specs.FinMap as fin_map
use Rattle.nav_types.specs.declared.cells.Cell.{Cell}
use Rattle.nav_types.specs.Numbering.{Numbering}
use Rattle.obstruction_shapes.specs.declared.shapes.Obstruction.{Obstruction}
use Rattle.clearance_raster.specs.Rasters.{blocks_class}
use Rattle.obstruction_store.specs.Standing.{Standing}
use Rattle.obstruction_store.proofs.Listing.{Contains-entries}
use Rattle.landmarks.specs.Landmarks.{Tables, AreGentle}
use Rattle.landmarks.proofs.Bounds.{gentle_where_fewer_pass}
use Rattle.posts.specs.Maps.{Map}
use Rattle.grid_versions.specs.Chunks.{chunk_count}
use Rattle.grid_versions.specs.Passing.{has_base, is_blocked, passable_at}
use Rattle.grid_versions.specs.inner.Guiding.{AreGuides, MayGuide, Guiding, AreAllGuides}
use Rattle.grid_versions.specs.inner.Painting.{AreBaseChunks, IsBaseChunk, ArePaintedChunks, IsPaintedChunk, is_covered}
use Rattle.grid_versions.proofs.ChunkLemmas.{AreOfChunks-weaker}
use Rattle.grid_versions.proofs.PassingLemmas.{any_none, passable_in_words}
use Rattle.grid_versions.proofs.RemakeLemmas.{set_here, set_elsewhere}

-- ---- where nothing stands

none_stands : (id : ℕ) (obstruction : Obstruction) → fin_map.get {R = nat_cmp} fin_map.empty id ≡ Some obstruction → ⊥
none_stands id obstruction stands = let none = fin_map.get-empty {X = Obstruction} nat_cmp id in absurd (cc)

none_blocks : (map : Map) (k : ℕ) (cell : Cell) → is_blocked map fin_map.empty k cell ≡ false
none_blocks map k cell =
    any_none (λ (entry : ℕ × Obstruction). blocks_class entry.1 map.classes k cell) (fin_map.entries fin_map.empty)
    (λ entry has. absurd (none_stands entry.0 entry.1 ((Contains-entries fin_map.empty entry.0 entry.1).0 has)))

or_none : (x y : Bool) → y ≡ false → x ≡ (x || y)
or_none x y none = grind (arith, none)

base_covers : (map : Map) (k : ℕ) (cell : Cell) → has_base map k cell ≡ is_covered map fin_map.empty k cell
base_covers map k cell = or_none (has_base map k cell) (is_blocked map fin_map.empty k cell) (none_blocks map k cell)

pub base_painted : (map : Map) (all : List Numbering) → AreBaseChunks map all → ArePaintedChunks map fin_map.empty all
base_painted map all =
    AreOfChunks-weaker map.size (chunk_count map.size) (IsBaseChunk map) (IsPaintedChunk map fin_map.empty) all
    (λ chunk cells base. record {
      extent = base.extent;
      whole = base.whole;
      bits = λ k cell inside. base.bits k cell inside ∙ base_covers map k cell;
    })

pub passes_bare : (map : Map) (standing : Standing) (k : ℕ) (cell : Cell) → IsTrue (passable_at map standing k cell)
    → IsTrue (passable_at map fin_map.empty k cell)
passes_bare map standing k cell passes =
    let is = (passable_in_words map standing k cell).0 passes in
    (passable_in_words map fin_map.empty k cell).1 (record {
      class = is.class;
      inside = is.inside;
      base = is.base;
      clear = λ id obstruction stands. absurd (none_stands id obstruction stands);
    })

pub gentle_for_all : (map : Map) (standing : Standing) (k : ℕ) (tables : Tables) → AreGuides map k tables
    → AreGentle (passable_at map standing k) tables
gentle_for_all map standing k tables guides =
    gentle_where_fewer_pass tables (passable_at map fin_map.empty k) (passable_at map standing k) guides.gentle (passes_bare map standing k)

-- ---- the tables of all classes

-- what is so of what was found is what follows from it
pub found_so : {A : Type 0} (found : Option A) (P Q : A → Type 0) → ((a : A) → P a → Q a) → IfSome found P → IfSome found Q
found_so None P Q so is = tt
found_so (Some a) P Q so is = so a is

-- the tables of a class serve it
pub guides_of : (map : Map) (all : Guiding) (k : ℕ) (tables : Tables) → AreAllGuides map all
    → slice_get all.classes k ≡ Some (Some tables) → AreGuides map k tables
guides_of map all k tables are at = are.are k (Some tables) at

-- where no class has tables
none_at : (count at : ℕ) (tables : Option Tables) → slice_get (replicate count None) at ≡ Some tables → tables ≡ None
none_at count at tables here =
    let none : List (Option Tables) = replicate count None in
    let nobody : Option Tables = None in
    let low : at < count = omega (arith, slice_get_within none at tables here, length-replicate count nobody) in
    sym (get_or_from_slice_get none at tables tables here) ∙ get_or-replicate count at None tables low

pub none_guide : (map : Map) (all : Guiding) (count : ℕ) → all ≡ record { classes = replicate count None; half = None }
    → count ≡ length map.classes → AreAllGuides map all
none_guide map all count none many =
    let nobody : Option Tables = None in
    subst (AreAllGuides map) (sym none) (record {
      each = length-replicate count nobody ∙ many;
      are = λ k tables at. subst (MayGuide map k) (sym (none_at count k tables at)) tt;
      half = tt;
    })

-- where one class has other tables
pub others_guide : (map : Map) (all : Guiding) (k : ℕ) (new : Option Tables) → AreAllGuides map all
    → MayGuide map k new → AreAllGuides map (record { classes = set all.classes k new; half = None })
others_guide map all k new are serve = record {
  each = length-set all.classes k new ∙ are.each;
  are = λ at tables is. elim (cases_eq at k) [
    | inl here ↦
        let low : k < length all.classes = omega (arith, slice_get_within (set all.classes k new) at tables is, length-set all.classes k new, here) in
        let own : slice_get (set all.classes k new) k ≡ Some tables = ap (λ (i : ℕ). slice_get (set all.classes k new) i) (sym here) ∙ is in
        subst (λ (i : ℕ). MayGuide map i tables) (sym here)
        (subst (λ (x : Option Tables). MayGuide map k x) (set_here all.classes k new tables low own) serve)
    | inr other ↦ are.are at tables (set_elsewhere all.classes k at new tables other is)
  ];
  half = tt;
}
