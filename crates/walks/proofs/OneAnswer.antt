-- There is one chosen walk into a cell, and so one answer to a search.
use Rattle.std.proofs.Common.{◌≡◌, ℕ, ◌≤◌, inl, inr, List, [], ◌∷◌, Bool, Option, Some, None, refl, sym, subst, ap, ◌∙◌, arith, reverse}
use Rattle.std.proofs.lemmas.List.{reverse-reverse}
use Rattle.std.proofs.lemmas.Option.{same_Some}
use Rattle.nav_types.specs.declared.cells.Cell.{Cell}
use Rattle.nav_types.specs.declared.directions.Dir.{Dir}
use Rattle.nav_types.specs.Directions.{Leads}
use Rattle.nav_types.specs.Walks.{walk_cost, IsDistance}
use Rattle.walks.specs.Chosen.{Enters, preference, IsFirstIn, IsPicked, IsChosenBack, IsChosen, IsAnswer}
use Rattle.nav_types.proofs.CellOrder.{IsNotAfter-antisym}
use Rattle.nav_types.proofs.Walking.{leads_from_same}
use Rattle.walks.proofs.Tracing.{chosen_walk}

-- the first of a list within a set is one
one_first : (Within : Dir → Type 0) (dirs : List Dir) (d e : Dir) → IsFirstIn Within dirs d → IsFirstIn Within dirs e → d ≡ e
one_first Within [] d e p q = absurd p
one_first Within (first ∷ rest) d e (inl p) (inl q) = p.1 ∙ sym q.1
one_first Within (first ∷ rest) d e (inl p) (inr q) = absurd (q.0 p.0)
one_first Within (first ∷ rest) d e (inr p) (inl q) = absurd (p.0 q.0)
one_first Within (first ∷ rest) d e (inr p) (inr q) = one_first Within rest d e p.1 q.1

-- the picked direction is one
one_picked : (Within : Dir → Type 0) (next : Option Dir) (d e : Dir) → IsPicked Within next d → IsPicked Within next e → d ≡ e
one_picked Within next d e (inl p) (inl q) = same_Some d e (sym p.1 ∙ q.1)
one_picked Within next d e (inl p) (inr q) = absurd (q.0 p.0)
one_picked Within next d e (inr p) (inl q) = absurd (p.0 q.0)
one_picked Within next d e (inr p) (inr q) = one_first Within preference d e p.1 q.1

-- the chosen steps into a cell are one list
one_chosen_back : (passes : Cell → Bool) (start : Cell) (next : Option Dir) (xs ys : List Dir) (cell : Cell)
    → IsChosenBack passes start next xs cell → IsChosenBack passes start next ys cell → xs ≡ ys
one_chosen_back passes start next [] [] cell p q = refl
one_chosen_back passes start next [] (y ∷ ys) cell p q = absurd (q.0 p)
one_chosen_back passes start next (x ∷ xs) [] cell p q = absurd (p.0 q)
one_chosen_back passes start next (x ∷ xs) (y ∷ ys) cell p q =
    let way : x ≡ y = one_picked (Enters passes start cell) next x y p.1.0 q.1.0 in
    let led : Leads x q.1.1.0 cell = subst (λ (d : Dir). Leads d q.1.1.0 cell) (sym way) q.1.1.1.0 in
    let here : p.1.1.0 ≡ q.1.1.0 = leads_from_same x p.1.1.0 q.1.1.0 cell p.1.1.1.0 led in
    let turned : IsChosenBack passes start (Some x) ys q.1.1.0 = subst (λ (d : Dir). IsChosenBack passes start (Some d) ys q.1.1.0) (sym way) q.1.1.1.1 in
    let moved : IsChosenBack passes start (Some x) ys p.1.1.0 = subst (λ (c : Cell). IsChosenBack passes start (Some x) ys c) (sym here) turned in
    let rest : xs ≡ ys = one_chosen_back passes start (Some x) xs ys p.1.1.0 p.1.1.1.1 moved in
    cc

-- the cost of an answer is the distance of its end
distance_of : (passes : Cell → Bool) (start : Cell) (hit : Cell → Bool) (e : Cell) (c : ℕ) (xs : List Cell) → IsAnswer passes start hit e c xs → IsDistance passes start e c
distance_of passes start hit e c xs p = record {
  walk = (p.walk.0, (chosen_walk passes start e p.walk.0 p.walk.1.0, p.walk.1.1.0));
  least = λ dirs walk. p.nearest e dirs p.is_hit walk;
}

pub one_answer : (passes : Cell → Bool) (start : Cell) (hit : Cell → Bool) (e f : Cell) (c d : ℕ) (xs ys : List Cell)
    → IsAnswer passes start hit e c xs → IsAnswer passes start hit f d ys → (e ≡ f) × ((c ≡ d) × (xs ≡ ys))
one_answer passes start hit e f c d xs ys p q =
    let at_e = distance_of passes start hit e c xs p in
    let at_f = distance_of passes start hit f d ys q in
    let below : c ≤ walk_cost at_f.walk.0 = p.nearest f at_f.walk.0 q.is_hit at_f.walk.1.0 in
    let above : d ≤ walk_cost at_e.walk.0 = q.nearest e at_e.walk.0 p.is_hit at_e.walk.1.0 in
    let here = at_e.walk.1.1 in let there = at_f.walk.1.1 in
    let cost : c ≡ d = omega arith in
    let end : e ≡ f = IsNotAfter-antisym e f
    (p.first f q.is_hit (subst (λ (n : ℕ). IsDistance passes start f n) (sym cost) at_f))
    (q.first e p.is_hit (subst (λ (n : ℕ). IsDistance passes start e n) cost at_e)) in
    let chosen : IsChosen passes start q.walk.0 e = subst (λ (z : Cell). IsChosen passes start q.walk.0 z) (sym end) q.walk.1.0 in
    let back : reverse p.walk.0 ≡ reverse q.walk.0 = one_chosen_back passes start None (reverse p.walk.0) (reverse q.walk.0) e p.walk.1.0 chosen in
    let dirs : p.walk.0 ≡ q.walk.0 = sym (reverse-reverse p.walk.0) ∙ (ap reverse back ∙ reverse-reverse q.walk.0) in
    let left = p.walk.1.1.1 in let right = q.walk.1.1.1 in
    (end, (cost, cc))
