-- A place that is taken out of those that wait, and the end, where none waits.
use Rattle.std.proofs.Common.{ℕ, ◌≡◌, ◌+◌, ◌<◌, ◌⊎◌, inl, inr, Bool, List, ◌∷◌, IsTrue, length, get_or, sum, sym, ap, ◌∙◌, subst, arith}
use Rattle.std.specs.List.{Contains}
use Rattle.std.proofs.lemmas.List.Elements.{Contains-get_or}
use Rattle.nav_types.specs.declared.cells.Cell.{Cell}
use Rattle.nav_types.specs.declared.cells.Size.{Size}
use Rattle.nav_types.proofs.Items.{Contains-head, Contains-tail, Contains-cons_cases}
use Rattle.flow_field.specs.declared.spreading.FieldSpread.{FieldSpread}
use Rattle.flow_field.specs.inner.Marks.{free, spot_of, IsSpreading, Every, NoStep}
use Rattle.flow_field.specs.inner.Spreads.{WaitsIn, weight, IsTaken, StepsFrom, IsInner, RelaxesAll, IsSpreadingForSome, KeepsSpreading}
use Rattle.flow_field.proofs.Spots.{few_spots, spot_of-low, spot_of-high, spot_of-inj}

pub first_waits : (xs : List ℕ) (x : ℕ) → 0 < length xs → x ≡ get_or xs 0 0 → Contains xs x
first_waits xs x some is = subst (λ (y : ℕ). Contains xs y) (sym is) (Contains-get_or xs 0 0 some)

-- what a list keeps that loses its first item
record IsRest (x : ℕ) (xs ys : List ℕ) : Type 0 where
  pub had : Contains xs x
  pub kept : (y : ℕ) → Contains xs y → (y ≡ x) ⊎ Contains ys y
  pub only : (y : ℕ) → Contains ys y → Contains xs y
  pub long : length xs ≡ length ys + 1

rest_of : (x : ℕ) (xs ys : List ℕ) → xs ≡ x ∷ ys → IsRest x xs ys
rest_of x xs ys is = record {
  had = subst (λ (zs : List ℕ). Contains zs x) (sym is) (Contains-head x ys);
  kept = λ y has. elim (Contains-cons_cases x ys y (subst (λ (zs : List ℕ). Contains zs y) is has)) [
    | inl here ↦ inl (sym here)
    | inr later ↦ inr later
  ];
  only = λ y has. subst (λ (zs : List ℕ). Contains zs y) (sym is) (Contains-tail x ys y has);
  long = omega (arith, ap length is);
}

pub taken_straight : (at : ℕ) (old new : FieldSpread) → new.marks.items ≡ old.marks.items → old.straight ≡ at ∷ new.straight → new.diagonal ≡ old.diagonal → IsTaken at old new
taken_straight at old new marks straight diagonal =
    let rest = rest_of at old.straight new.straight straight in
    record {
      marks = marks;
      waited = inl rest.had;
      kept = λ spot waits. elim waits [
        | inl first ↦ elim (rest.kept spot first) [ inl same ↦ inl same | inr later ↦ inr (inl later) ]
        | inr second ↦ inr (inr (subst (λ (q : List ℕ). Contains q spot) (sym diagonal) second))
      ];
      only = λ spot waits. elim waits [
        | inl first ↦ inl (rest.only spot first)
        | inr second ↦ inr (subst (λ (q : List ℕ). Contains q spot) diagonal second)
      ];
      left = omega (arith, rest.long, ap length diagonal);
    }

pub taken_diagonal : (at : ℕ) (old new : FieldSpread) → new.marks.items ≡ old.marks.items → old.diagonal ≡ at ∷ new.diagonal → new.straight ≡ old.straight → IsTaken at old new
taken_diagonal at old new marks diagonal straight =
    let rest = rest_of at old.diagonal new.diagonal diagonal in
    record {
      marks = marks;
      waited = inr rest.had;
      kept = λ spot waits. elim waits [
        | inl first ↦ inr (inl (subst (λ (q : List ℕ). Contains q spot) (sym straight) first))
        | inr second ↦ elim (rest.kept spot second) [ inl same ↦ inl same | inr later ↦ inr (inr later) ]
      ];
      only = λ spot waits. elim waits [
        | inl first ↦ inl (subst (λ (q : List ℕ). Contains q spot) straight first)
        | inr second ↦ inr (rest.only spot second)
      ];
      left = omega (arith, rest.long, ap length straight);
    }

-- where a place that waits lies
pub record IsHeld (width at : ℕ) (spread : FieldSpread) : Type 0 where
  pub inner : IsInner width at spread
  pub below : get_or spread.marks.items at 0 < free

pub held : (width at : ℕ) (old new : FieldSpread) → IsSpreadingForSome width old → KeepsSpreading width old new → WaitsIn new at → IsHeld width at new
held width at old new some keeps waits =
    let size = some.1.1.1.0 in
    let wide = some.1.1.1.1.0 in
    let spreads = keeps some.0 some.1.0 some.1.1.0 size wide some.1.1.1.1.1 in
    let sound = spreads.sound in
    let known = spreads.reached at waits in
    let found = sound.cells at known.0 in
    let inside = sound.inside found.0 found.1.0 in
    record {
      inner = record {
        below = omega (arith, spot_of-low size found.0, found.1.1, wide);
        above = omega (arith, spot_of-high size found.0 inside, found.1.1, sound.long, wide);
        few = omega (arith, few_spots size, sound.long);
        wide = omega (arith, wide);
      };
      below = known.1;
    }

pub held_taken : (width at : ℕ) (old new : FieldSpread) → IsHeld width at old → IsTaken at old new → IsHeld width at new
held_taken width at old new was taken =
    let inner = was.inner in
    let same = taken.marks in
    record {
      inner = record {
        below = inner.below;
        above = omega (arith, inner.above, ap length same);
        few = omega (arith, inner.few, ap length same);
        wide = inner.wide;
      };
      below = omega (arith, was.below, ap (λ (m : List ℕ). get_or m at 0) same);
    }

-- the place that is taken out is left out
taken_spreads : (passes hit : Cell → Bool) (start : Cell) (size : Size) (here : Cell) (at : ℕ) (old new : FieldSpread) → IsTaken at old new → spot_of size here ≡ at → IsTrue (passes here)
    → IsSpreading passes hit start size Every NoStep old.marks.items (WaitsIn old) → IsSpreading passes hit start size Every (StepsFrom here 0) new.marks.items (WaitsIn new)
taken_spreads passes hit start size here at old new taken is_here passable spreads =
    let sound = spreads.sound in
    let made : IsSpreading passes hit start size Every (StepsFrom here 0) old.marks.items (WaitsIn new) = record {
      sound = sound;
      reached = λ spot waits. spreads.reached spot (taken.only spot waits);
      ends = spreads.ends;
      settled = λ cell dir pass below. elim (spreads.settled cell dir pass below) [
        | inl settled ↦ inl settled
        | inr rest ↦ elim rest [
          | inl waits ↦ elim (taken.kept (spot_of size cell) waits) [
            | inl same ↦ inr (inr (spot_of-inj size cell here (sound.inside cell pass) (sound.inside here passable) (same ∙ sym is_here), omega arith))
            | inr still ↦ inr (inl still)
          ]
          | inr none ↦ absurd none
        ]
      ];
    } in
    subst (λ (m : List ℕ). IsSpreading passes hit start size Every (StepsFrom here 0) m (WaitsIn new)) (sym taken.marks) made

pub keeps_more : (width at : ℕ) (first old mid new : FieldSpread) → KeepsSpreading width first old → IsTaken at old mid → RelaxesAll width at mid new → KeepsSpreading width first new
keeps_more width at first old mid new keeps taken relaxed = λ passes hit start size wide begins.
    let spreads = keeps passes hit start size wide begins in
    let known = spreads.reached at taken.waited in
    let found = spreads.sound.cells at known.0 in
    let here = found.0 in
    relaxed.spreads passes hit start size here wide (sym found.1.1) found.1.0 (omega (arith, known.1, ap (λ (m : List ℕ). get_or m at 0) taken.marks))
    (taken_spreads passes hit start size here at old mid taken (sym found.1.1) found.1.0 spreads)

pub weight_less : (width at : ℕ) (old mid new : FieldSpread) → IsTaken at old mid → RelaxesAll width at mid new → weight new < weight old
weight_less width at old mid new taken relaxed =
    let count = taken.left in
    omega (arith, relaxed.less, ap sum taken.marks)
