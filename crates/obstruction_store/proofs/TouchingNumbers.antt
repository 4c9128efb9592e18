-- The numbers of the entries that touch a rectangle.
use Rattle.std.proofs.Common.{◌≡◌, ◌⊎◌, ℕ, ℤ, T, List, [], ◌∷◌, ◌++◌, Option, IsSomeAnd, Contains, refl, sym, ap, subst, inl, inr, arith}
use Rattle.std.proofs.lemmas.List.{append_assoc, append-nil}
use Rattle.std.proofs.lemmas.Map.Keys.{IsStrictlyIncreasing-from_sorted}
use Rattle.std.specs.FinMap as map
use Rattle.std.specs.FinMap.{is_sorted}
use Rattle.std.specs.FinMap.Entries.{below_all}
use Rattle.std.specs.List.{AllByRecursion}
use Rattle.std.specs.List.Sorted.{IsStrictlySortedBy}
use Rattle.std.specs.Ordering.{nat_cmp}
use Rattle.std.specs.declared.cmp.Ordering.TheVariants.{Less}
use Rattle.nav_types.specs.declared.cells.Rect.{Rect}
use Rattle.nav_types.specs.declared.cells.Size.{Size}
use Rattle.obstruction_shapes.specs.declared.shapes.Obstruction.{Obstruction}
use Rattle.obstruction_shapes.specs.Shapes.{FitsMap}
use Rattle.nav_types.proofs.Items.{Contains-tail, Contains-cons_cases}
use Rattle.nav_types.proofs.Options.{value_of}
use Rattle.obstruction_store.specs.Standing.{Standing, AllFit}
use Rattle.obstruction_store.specs.Touching.{Touches, AreTouching}
use Rattle.obstruction_store.proofs.Listing.{first, second, less_than, Contains-entries}

-- each shape of the entries fits
abbrev pub FitEach : Size → List (ℕ × Obstruction) → Type 0
FitEach size [] = Unit {0}
FitEach size (e ∷ es) = FitsMap size e.1.shape × FitEach size es

FitEach-listed : (size : Size) (es : List (ℕ × Obstruction)) → ((n : ℕ) (o : Obstruction) → Contains es (n, o) → FitsMap size o.shape) → FitEach size es
FitEach-listed size [] each = tt
FitEach-listed size (e ∷ es) each =
    (each e.0 e.1 (0, omega arith, refl), FitEach-listed size es (λ n o listed. each n o (Contains-tail e es (n, o) listed)))

-- where all standing shapes fit, those of all entries do
pub FitEach-entries : (size : Size) (standing : Standing) → AllFit size standing → FitEach size (map.entries standing)
FitEach-entries size standing all = FitEach-listed size (map.entries standing)
    (λ n o listed. all.each n o ((Contains-entries standing n o).0 listed))

module _ (size : Size) (rect : Rect) (clearance : ℤ) where
  -- these are the numbers of the entries that touch, in their order
  abbrev pub Picks : List (ℕ × Obstruction) → List ℕ → Type 0
  Picks [] ids = ids ≡ []
  Picks (e ∷ es) ids = (Touches size rect clearance e.1.shape × ((rest : List ℕ) × ((ids ≡ e.0 ∷ rest) × Picks es rest)))
      ⊎ (¬ Touches size rect clearance e.1.shape × Picks es ids)

  -- whatever the entries left come to completes what was picked
  abbrev pub PicksSoFar : Standing → List ℕ → List (ℕ × Obstruction) → Type 0
  PicksSoFar standing ids left = (more : List ℕ) → Picks left more → Picks (map.entries standing) (ids ++ more)

  pub PicksSoFar-first : (standing : Standing) (left : List (ℕ × Obstruction)) → left ≡ map.entries standing → PicksSoFar standing [] left
  PicksSoFar-first standing left all more picks = subst (λ es. Picks es more) all picks

  pub PicksSoFar-touches : (standing : Standing) (ids : List ℕ) (e : ℕ × Obstruction) (left rest : List (ℕ × Obstruction)) → left ≡ e ∷ rest
      → Touches size rect clearance e.1.shape → PicksSoFar standing ids left → PicksSoFar standing (ids ++ e.0 ∷ []) rest
  PicksSoFar-touches standing ids e left rest is touches so_far more picks =
      let one : Picks (e ∷ rest) (e.0 ∷ more) = inl (touches, (more, (refl, picks))) in
      rw append_assoc (so_far (e.0 ∷ more) (subst (λ es. Picks es (e.0 ∷ more)) (sym is) one))

  pub PicksSoFar-far : (standing : Standing) (ids : List ℕ) (e : ℕ × Obstruction) (left rest : List (ℕ × Obstruction)) → left ≡ e ∷ rest
      → ¬ Touches size rect clearance e.1.shape → PicksSoFar standing ids left → PicksSoFar standing ids rest
  PicksSoFar-far standing ids e left rest is far so_far more picks =
      let none : Picks (e ∷ rest) more = inr (far, picks) in
      so_far more (subst (λ es. Picks es more) (sym is) none)

  -- ---- what was picked
  -- each number is that of an entry that touches
  entry_of : (es : List (ℕ × Obstruction)) (ids : List ℕ) (n : ℕ) → Picks es ids → Contains ids n
      → (o : Obstruction) × (Contains es (n, o) × Touches size rect clearance o.shape)
  entry_of [] ids n picks listed = absurd (omega (arith, (subst (λ xs. Contains xs n) picks listed).1))
  entry_of (e ∷ es) ids n picks listed = elim picks [
    | inl one ↦ elim (Contains-cons_cases e.0 one.1.0 n (subst (λ xs. Contains xs n) one.1.1.0 listed)) [
      | inl here ↦ (e.1, ((0, omega arith, λ i. (here i, e.1)), one.0))
      | inr later ↦
          let found = entry_of es one.1.0 n one.1.1.1 later in
          (found.0, (Contains-tail e es (n, found.0) found.1.0, found.1.1))
    ]
    | inr none ↦
        let found = entry_of es ids n none.1 listed in
        (found.0, (Contains-tail e es (n, found.0) found.1.0, found.1.1))
  ]

  -- the number of each entry that touches is among them
  picked : (es : List (ℕ × Obstruction)) (ids : List ℕ) (n : ℕ) (o : Obstruction) → Picks es ids → Contains es (n, o)
      → Touches size rect clearance o.shape → Contains ids n
  picked [] ids n o picks listed touches = absurd (omega (arith, listed.1))
  picked (e ∷ es) ids n o picks listed touches = elim (Contains-cons_cases e es (n, o) listed) [
    | inl here ↦ elim picks [
      | inl one ↦ subst (λ xs. Contains xs n) (sym one.1.1.0) (0, omega arith, ap (λ p. p.0) here)
      | inr none ↦ absurd (none.0 (subst (λ (p : ℕ × Obstruction). Touches size rect clearance p.1.shape) (sym here) touches))
    ]
    | inr later ↦ elim picks [
      | inl one ↦ subst (λ xs. Contains xs n) (sym one.1.1.0) (Contains-tail e.0 one.1.0 n (picked es one.1.0 n o one.1.1.1 later touches))
      | inr none ↦ picked es ids n o none.1 later touches
    ]
  ]

  below_picked : (x : ℕ) (es : List (ℕ × Obstruction)) (ids : List ℕ) → T (below_all nat_cmp x es) → Picks es ids
      → AllByRecursion (λ y. nat_cmp x y ≡ Less) ids
  below_picked x [] ids below picks = subst (AllByRecursion (λ y. nat_cmp x y ≡ Less)) (sym picks) tt
  below_picked x (e ∷ es) ids below picks = elim picks [
    | inl one ↦ subst (AllByRecursion (λ y. nat_cmp x y ≡ Less)) (sym one.1.1.0)
        (less_than x e.0 (nat_cmp x e.0) (first _ _ below), below_picked x es one.1.0 (second _ _ below) one.1.1.1)
    | inr none ↦ below_picked x es ids (second _ _ below) none.1
  ]

  sorted_picked : (es : List (ℕ × Obstruction)) (ids : List ℕ) → T (is_sorted nat_cmp es) → Picks es ids → IsStrictlySortedBy nat_cmp ids
  unfolding IsStrictlySortedBy
  sorted_picked [] ids sorted picks = subst (IsStrictlySortedBy nat_cmp) (sym picks) tt
  sorted_picked (e ∷ es) ids sorted picks = elim picks [
    | inl one ↦ subst (IsStrictlySortedBy nat_cmp) (sym one.1.1.0)
        (below_picked e.0 es one.1.0 (first _ _ sorted) one.1.1.1, sorted_picked es one.1.0 (second _ _ sorted) one.1.1.1)
    | inr none ↦ sorted_picked es ids (second _ _ sorted) none.1
  ]

  are_touching : (standing : Standing) (ids : List ℕ) → Picks (map.entries standing) ids → AreTouching size rect clearance standing ids
  are_touching standing ids picks = record {
    each = λ n listed.
        let found = entry_of (map.entries standing) ids n picks listed in
        subst (λ (o : Option Obstruction). IsSomeAnd o (λ (o : Obstruction). Touches size rect clearance o.shape))
        (sym ((Contains-entries standing n found.0).0 found.1.0)) found.1.1;
    all = λ n touches.
        let found = value_of (λ (o : Obstruction). Touches size rect clearance o.shape) (map.get standing n) touches in
        picked (map.entries standing) ids n found.0 picks ((Contains-entries standing n found.0).1 found.1.0) found.1.1;
    rising = IsStrictlyIncreasing-from_sorted ids (sorted_picked (map.entries standing) ids (map.entries_sorted standing) picks);
  }

  -- once no entry is left, the list is whole
  pub AreTouching-picked : (standing : Standing) (ids : List ℕ) (left : List (ℕ × Obstruction)) → left ≡ []
      → PicksSoFar standing ids left → AreTouching size rect clearance standing ids
  AreTouching-picked standing ids left none so_far =
      are_touching standing ids (rw append-nil at (so_far [] (subst (λ es. Picks es []) (sym none) refl)))
