-- The cells of a plane, and the bits of its lines.
use Rattle.std.proofs.Common.{◌≡◌, ℕ, ◌∷◌, ◌++◌, length, length-append, option_map, IfSome, ◌+◌, ◌*◌, ◌/◌, ◌%◌, ◌<◌, Bool, true, false, ◌&&◌, IsTrue, eqb, ltb, ◌≤◌, inl, inr, List, [], get_or, Option, Some, None, IsSome, is_some, refl, sym, ap, ◌∙◌, subst, arith}
use Rattle.std.proofs.lemmas.Bool.{false≢true, ltb-true, lt-ltb, cases_lt}
use Rattle.std.proofs.lemmas.List.{get_or_past, get_or_append_left, get_or_at}
use Rattle.std.proofs.lemmas.Nat.Bits.{bit_at_ones}
use Rattle.std.specs.Int.{bit_at}
use Rattle.std.proofs.lemmas.List.FromFn.{get_or-map-range_with_len}
use Rattle.std.proofs.lemmas.Option.{none-some}
use Rattle.nav_types.specs.declared.cells.Cell.{Cell}
use Rattle.nav_types.specs.declared.cells.Size.{Size}
use Rattle.nav_types.specs.Cells.{IsInside, cell_at}
use Rattle.nav_types.specs.Places.{place_of, cell_of}
use Rattle.nav_types.proofs.CellPlaces.{place_of-lt, cell_of-place_of}
use Rattle.class_planes.specs.Planes.{PlaneCells, is_passable, AreFreeBits, IsPlaneIn, ArePlanes, AreOf, AreOfBefore, AreOfSame}
use Rattle.class_planes.specs.declared.changed_parts.ChangedPart.{ChangedPart}
use Rattle.class_planes.specs.inner.Changes.{IsPlaneBefore}
use Rattle.lane_rows.specs.Rows.{one_if}
use Rattle.class_planes.specs.inner.Lines.{LineTable, RowTable, line_at, line_in, free_at, free_cell, plane_of, AreLines, AreRows}

-- two tests of the same two sides
same_inside : (a b x y : Bool) → (IsTrue a → IsTrue b → x ≡ y) → (a && b && x) ≡ (a && b && y)
same_inside true true x y same = same refl refl
same_inside true false x y same = refl
same_inside false b x y same = refl

dead : (x : Bool) → IsTrue false → false ≡ x
dead true false_is_true = false_is_true
dead false false_is_true = refl

follows : (x : Bool) → (IsTrue x → IsTrue false) → false ≡ x
follows true never = never refl
follows false never = refl

-- a test that is false wherever a side fails
guarded : (a b x y : Bool) → (IsTrue a → IsTrue b → x ≡ y) → (IsTrue y → IsTrue a × IsTrue b) → (a && b && x) ≡ y
guarded true true x y same sides = same refl refl
guarded true false x y same sides = follows y (λ yes. (sides yes).1)
guarded false b x y same sides = follows y (λ yes. (sides yes).0)

-- a plane of rows has the free cells of the rows
pub passable_is : (table : RowTable) (cell : Cell) → is_passable (plane_of table) cell ≡ free_cell table cell
passable_is table cell =
    let size = table.size in
    same_inside (ltb cell.i size.w) (ltb cell.j size.h) (get_or (plane_of table).cells (place_of size cell) false)
    (free_at table.rows cell.j cell.i)
    (λ east north.
    let inside : IsInside size cell = record
    { column = ltb-true cell.i size.w east; row = ltb-true cell.j size.h north } in
    get_or-map-range_with_len (λ place. free_at table.rows (cell_of size place).j (cell_of size place).i) 0
    (size.w * size.h) (place_of size cell) (place_of size cell) false
    (place_of-lt size cell inside) (omega arith)
    ∙ ap (λ (c : Cell). free_at table.rows c.j c.i) (cell_of-place_of size cell inside))

-- whether a bit is set
pub told : (free : Bool) → eqb (one_if free) 1 ≡ free
told true = refl
told false = refl

-- the bits of one line
pub line_free : (free : ℕ → ℕ → Bool) (count words n : ℕ) (table : LineTable) → AreLines free count words table
    → n / 32 < count → AreFreeBits (free n) (line_at table n)
line_free free count words n table are below =
    let band : List ℕ = get_or table.bands (n / 32) [] in
    let there : 32 * (n / 32) + n % 32 ≡ n = omega arith in
    subst (λ m. AreFreeBits (free m) (line_at table n)) there
    (subst (λ w. AreFreeBits (free (32 * (n / 32) + n % 32)) (line_in w band (n % 32))) (sym are.wide)
    ((are.each (n / 32) below).each (n % 32) (omega arith)))

pub at_free : (free : ℕ → ℕ → Bool) (count words n i : ℕ) (table : LineTable) → AreLines free count words table
    → n / 32 < count → free_at table n i ≡ free n i
at_free free count words n i table are below =
    ap (λ b. eqb b 1) (line_free free count words n table are below i) ∙ told (free n i)

-- the cells of the rows that were made of a set of cells
pub rows_free : (size : Size) (table : LineTable) (passes : Cell → Bool)
    → ((cell : Cell) → IsTrue (passes cell) → IsInside size cell)
    → AreLines (λ j i. passes (cell_at i j)) (size.h / 32 + 1) (size.w / 64 + 1) table
    → (cell : Cell) → free_cell (record { size = size; rows = table }) cell ≡ passes cell
rows_free size table passes within are cell =
    guarded (ltb cell.i size.w) (ltb cell.j size.h) (free_at table cell.j cell.i) (passes cell)
    (λ east north.
    let below : cell.j < size.h = ltb-true cell.j size.h north in
    at_free (λ j i. passes (cell_at i j)) (size.h / 32 + 1) (size.w / 64 + 1) cell.j cell.i table are (omega arith))
    (λ yes. (lt-ltb cell.i size.w (within cell yes).column, lt-ltb cell.j size.h (within cell yes).row))

pub rows_same : (size : Size) (table : LineTable) (passes : Cell → Bool)
    → ((cell : Cell) → IsTrue (passes cell) → IsInside size cell)
    → AreLines (λ j i. passes (cell_at i j)) (size.h / 32 + 1) (size.w / 64 + 1) table
    → free_cell (record { size = size; rows = table }) ≡ passes
rows_same size table passes within are = λ p cell. rows_free size table passes within are cell p

pub are_rows : (size : Size) (table : LineTable) (passes : Cell → Bool)
    → ((cell : Cell) → IsTrue (passes cell) → IsInside size cell)
    → AreLines (λ j i. passes (cell_at i j)) (size.h / 32 + 1) (size.w / 64 + 1) table → AreRows
    (record { size = size; rows = table })
are_rows size table passes within are =
    subst (λ (free : Cell → Bool). AreLines (λ j i. free (cell_at i j)) (size.h / 32 + 1) (size.w / 64 + 1) table)
    (sym (rows_same size table passes within are)) are

-- the plane of the rows that were made of a set of cells
pub plane_same : (size : Size) (table : LineTable) (passes : Cell → Bool)
    → ((cell : Cell) → IsTrue (passes cell) → IsInside size cell)
    → AreLines (λ j i. passes (cell_at i j)) (size.h / 32 + 1) (size.w / 64 + 1) table
    → is_passable (plane_of (record { size = size; rows = table })) ≡ passes
plane_same size table passes within are =
    λ p cell. (passable_is (record { size = size; rows = table }) cell ∙ rows_free size table passes within are cell) p

both_true : (a b x : Bool) → IsTrue a → IsTrue b → (a && b && x) ≡ x
both_true true true x east north = refl
both_true true false x east north = dead x north
both_true false b x east north = dead x east

-- inside the map the bit alone decides
pub inside_free : (table : RowTable) (i j : ℕ) → i < table.size.w → j < table.size.h
    → free_cell table (cell_at i j) ≡ free_at table.rows j i
inside_free table i j east north =
    both_true (ltb i table.size.w) (ltb j table.size.h) (free_at table.rows j i) (lt-ltb i table.size.w east)
    (lt-ltb j table.size.h north)

-- the free cells of the rows of a plane are its passable ones
pub free_passable : (table : RowTable) (plane : PlaneCells) → plane_of table ≡ plane → (cell : Cell)
    → free_cell table cell ≡ is_passable plane cell
free_passable table plane is cell = sym (passable_is table cell) ∙ ap (λ (p : PlaneCells). is_passable p cell) is

pub both_parts : (a b x : Bool) → IsTrue (a && b && x) → IsTrue a × IsTrue b
both_parts true true x all = (refl, refl)
both_parts true false x all = absurd (false≢true all)
both_parts false b x all = absurd (false≢true all)

-- the passable cells of a plane lie in its map
pub only_inside : (plane : PlaneCells) (cell : Cell) → IsTrue (is_passable plane cell) → IsInside plane.size cell
only_inside plane cell passing =
    let size = plane.size in
    let sides = both_parts (ltb cell.i size.w) (ltb cell.j size.h) (get_or plane.cells (place_of size cell) false)
    passing in
    record { column = ltb-true cell.i size.w sides.0; row = ltb-true cell.j size.h sides.1 }

-- planes that were built of a map are planes of it
pub are_of : (size : Size) (passes : ℕ → Cell → Bool) (mask count : ℕ) (planes : List (Option PlaneCells))
    → ArePlanes size passes mask count planes → AreOf size passes planes
are_of size passes mask count planes are class plane is = elim (cases_lt class count) [
  | inl known ↦ (subst (IsPlaneIn size (passes class) (eqb (bit_at mask class) 1)) is (are.each class known)).1
  | inr past ↦
      let none : get_or planes class None ≡ None =
      get_or_past planes class None (subst (λ many. many ≤ class) (sym are.many) past) in
      absurd (none-some plane (sym none ∙ is))
]

-- ---- planes after a change

-- a plane is there exactly where it is wanted
same_wanted : (size : Size) (passes : Cell → Bool) (wanted : Bool) (plane : Option PlaneCells)
    → IsPlaneIn size passes wanted plane → is_some plane ≡ wanted
same_wanted size passes wanted (Some plane) is = sym is.0
same_wanted size passes wanted None is = sym is

-- planes of the same classes as planes of the wanted classes
pub wanted_same : (size : Size) (was passes : ℕ → Cell → Bool) (mask count : ℕ) (others planes : List (Option PlaneCells))
    → ArePlanes size was mask count others → AreOfSame size passes others planes
    → ArePlanes size passes mask count planes
wanted_same size was passes mask count others planes were are = record {
  many = are.many ∙ were.many;
  each = λ class below. subst (λ w. IsPlaneIn size (passes class) w (get_or planes class None))
      (same_wanted size (was class) (eqb (bit_at mask class) 1) (get_or others class None) (were.each class below))
      (are.each class (subst (λ n. class < n) (sym were.many) below));
}

there_is : (size : Size) (passes : Cell → Bool) (wanted : Bool) (plane : Option PlaneCells)
    → IsPlaneIn size passes wanted plane → IsTrue wanted → IsSome plane
there_is size passes wanted (Some plane) is holds = refl
there_is size passes wanted None is holds = absurd (false≢true (sym is ∙ holds))

-- each class has a plane where the planes of all 16 classes are wanted
pub each_there : (size : Size) (passes : ℕ → Cell → Bool) (count : ℕ) (planes : List (Option PlaneCells))
    → ArePlanes size passes 65535 count planes → count ≤ 16 → (class : ℕ) → class < count
    → IsSome (get_or planes class None)
each_there size passes count planes are few class below =
    there_is size (passes class) (eqb (bit_at 65535 class) 1) (get_or planes class None) (are.each class below)
    (ap (λ b. eqb b 1) (bit_at_ones 16 class (omega arith)))

-- what holds of each place holds of one place more
pub each_more : {X : Type 0} (Is : ℕ → X → Type 0) (xs : List X) (x d : X) (n : ℕ) → length xs ≡ n
    → ((k : ℕ) → k < n → Is k (get_or xs k d)) → Is n x → (k : ℕ) → k < n + 1 → Is k (get_or (xs ++ x ∷ []) k d)
each_more Is xs x d n long each is k below = elim (cases_lt k n) [
  | inl early ↦ subst (Is k) (sym (get_or_append_left xs (x ∷ []) d k (omega arith))) (each k early)
  | inr late ↦
      let same : n ≡ k = omega arith in
      subst (Is k) (sym (get_or_at xs x [] d k (long ∙ same))) (subst (λ m. Is m x) same is)
]

-- the planes of one class more
pub planes_more : (size : Size) (passes : ℕ → Cell → Bool) (mask count : ℕ) (planes : List (Option PlaneCells))
    (plane : Option PlaneCells) → ArePlanes size passes mask count planes
    → IsPlaneIn size (passes count) (eqb (bit_at mask count) 1) plane
    → ArePlanes size passes mask (count + 1) (planes ++ plane ∷ [])
planes_more size passes mask count planes plane are is =
    let many = are.many in
    record {
      many = omega (arith, length-append planes (plane ∷ []));
      each = each_more (λ class one. IsPlaneIn size (passes class) (eqb (bit_at mask class) 1) one) planes plane None count
          are.many are.each is;
    }

-- the plane of a class before its map changed
pub plane_before : (size : Size) (classes : ℕ) (passes : ℕ → Cell → Bool) (parts : List ChangedPart)
    (planes : List (Option PlaneCells)) → AreOfBefore size classes passes parts planes
    → {X : Type 0} (plane_of : X → PlaneCells) (class : ℕ) (found : Option X)
    → option_map plane_of found ≡ get_or planes class None
    → IfSome found (λ x. IsPlaneBefore size (passes class) parts class (plane_of x))
plane_before size classes passes parts planes before plane_of class (Some x) at =
    let is = before.are class (plane_of x) (sym at) in
    record {
      extent = is.extent;
      same = λ cell kept. ap (λ (p : Cell → Bool). p cell) is.cells ∙ before.same class cell kept;
    }
plane_before size classes passes parts planes before plane_of class None at = tt

pub is_some_mapped : {X Y : Type 0} (h : X → Y) (o : Option X) → is_some o ≡ is_some (option_map h o)
is_some_mapped h (Some x) = refl
is_some_mapped h None = refl
