-- How a forest's trees stay, and how two become one.
use Rattle.std.proofs.Common.{◌≡◌, ◌≢◌, ℕ, ◌<◌, ◌≤◌, ◌⊎◌, List, length, get_or, set, refl, sym, ap, ◌∙◌, subst, inl, inr, arith, get_or-set_same, get_or-set_other}
use Rattle.std.proofs.lemmas.List.{length-set}
use Rattle.std.proofs.lemmas.Bool.{cases_eq}
use Rattle.reach_sets.specs.Chains.{AreChained}
use Rattle.reach_sets.specs.inner.Forests.{IsForest, HasParent, IsRoot, AreInOneTree, KeepsTrees, JoinsTrees}
use Rattle.reach_sets.proofs.ChainLemmas.{chained_same, chained_once, chained_on, chained_back, chained_to}

-- the parents after one is changed
parent_set : (p : List ℕ) (x v k : ℕ) → k < length p → ((k ≡ x) × (get_or (set p x v) k 0 ≡ v)) ⊎ ((k ≢ x) × (get_or (set p x v) k 0 ≡ get_or p k 0))
parent_set p x v k inside =
    elim (cases_eq k x) [ inl same ↦ inl (same, at_same p x v k same inside) | inr other ↦ inr (other, get_or-set_other p x k v 0 other) ]
  where
    at_same : (p : List ℕ) (x v k : ℕ) → k ≡ x → k < length p → get_or (set p x v) k 0 ≡ v
    at_same p x v k same inside =
        let P : ℕ → Type 0 = λ y. get_or (set p x v) y 0 ≡ v in subst P (sym same) (get_or-set_same p x v 0 (omega arith))

pub forest_set : (p : List ℕ) (x v : ℕ) → IsForest p → v ≤ x → IsForest (set p x v)
forest_set p x v forest low k inside =
    let within : k < length p = omega (arith, length-set p x v) in let here = forest k within in
    elim (parent_set p x v k within) [ inl same ↦ omega arith | inr other ↦ omega arith ]

pub keeps_self : (p : List ℕ) → IsForest p → KeepsTrees p p
keeps_self p forest =
    record { forest = forest; kept = λ a b same. same; only = λ a b same. same; roots = λ k root. root }

pub keeps_on : (p q r : List ℕ) → KeepsTrees p q → KeepsTrees q r → KeepsTrees p r
keeps_on p q r first second =
    record {
      forest = second.forest;
      kept = λ a b same. second.kept a b (first.kept a b same);
      only = λ a b same. first.only a b (second.only a b same);
      roots = λ k root. second.roots k (first.roots k root);
    }

-- where each parent of one forest is in one tree of another
pub trees_from : (p q : List ℕ) → ((k : ℕ) → k < length p → AreInOneTree q k (get_or p k 0)) → (a b : ℕ) → AreInOneTree p a b → AreInOneTree q a b
trees_from p q each a b same =
    chained_to (HasParent p) (HasParent q) (λ x. x) (λ x y has. let P : ℕ → Type 0 = λ z. AreInOneTree q x z in subst P has.1 (each x has.0)) a b same

pub to_parent : (p : List ℕ) (k : ℕ) → k < length p → AreInOneTree p k (get_or p k 0)
to_parent p k inside = chained_once (HasParent p) k (get_or p k 0) (inside, refl)

-- the parent of a changed place
to_new : (p : List ℕ) (x v : ℕ) → x < length p → AreInOneTree (set p x v) x v
to_new p x v inside =
    chained_once (HasParent (set p x v)) x v (omega (arith, length-set p x v), get_or-set_same p x v 0 inside)

-- the parent of another place
to_old : (p : List ℕ) (x v k : ℕ) → k ≢ x → k < length p → AreInOneTree (set p x v) k (get_or p k 0)
to_old p x v k other inside =
    chained_once (HasParent (set p x v)) k (get_or p k 0) (omega (arith, length-set p x v), get_or-set_other p x k v 0 other)

-- a place that gets its grandparent as its parent
grandparent : (p : List ℕ) (x up top : ℕ) → IsForest p → x < length p → get_or p x 0 ≡ up → up ≢ x → get_or p up 0 ≡ top → KeepsTrees p (set p x top)
grandparent p x up top forest inside is_up moved is_top =
    let low : up < x = omega (arith, forest x inside) in
    let lower : top ≤ up = omega (arith, forest up (omega arith)) in
    let q = set p x top in
    let next : AreInOneTree p x up = chained_once (HasParent p) x up (inside, is_up) in
    let last : AreInOneTree p up top = chained_once (HasParent p) up top (omega arith, is_top) in
    let fresh : AreInOneTree q x top = to_new p x top inside in
    let old_up : AreInOneTree q up top =
    let P : ℕ → Type 0 = λ y. AreInOneTree q up y in subst P is_top (to_old p x top up moved (omega arith)) in
    let kept : (k : ℕ) → k < length p → AreInOneTree q k (get_or p k 0) = λ k within.
    elim (cases_eq k x) [
      | inl same ↦
          let P : ℕ → Type 0 = λ y. AreInOneTree q y (get_or p y 0) in
          let Q : ℕ → Type 0 = λ y. AreInOneTree q x y in
          subst P (sym same) (subst Q (sym is_up) (chained_on (HasParent q) x top up fresh (chained_back (HasParent q) up top old_up)))
      | inr other ↦ to_old p x top k other within
    ] in
    let only : (k : ℕ) → k < length q → AreInOneTree p k (get_or q k 0) = λ k within.
    let here : k < length p = omega (arith, length-set p x top) in
    elim (parent_set p x top k here) [
      | inl same ↦
          let P : ℕ → Type 0 = λ y. AreInOneTree p y (get_or q k 0) in
          let Q : ℕ → Type 0 = λ y. AreInOneTree p x y in
          subst P (sym same.0) (subst Q (sym same.1) (chained_on (HasParent p) x up top next last))
      | inr other ↦
          let Q : ℕ → Type 0 = λ y. AreInOneTree p k y in
          subst Q (sym other.1) (to_parent p k here)
    ] in
    record {
      forest = forest_set p x top forest (omega arith);
      kept = λ a b same. trees_from p q kept a b same;
      only = λ a b same. trees_from q p only a b same;
      roots = λ k root.
          let other : k ≢ x = λ same. moved (sym is_up ∙ ap (λ y. get_or p y 0) (sym same) ∙ root.1 ∙ same) in
          (omega (arith, length-set p x top, root.0), get_or-set_other p x k top 0 other ∙ root.1);
    }

-- one turn of the way up to a root
pub climbed : (first p : List ℕ) (start x up top : ℕ) → KeepsTrees first p → AreInOneTree p start x → x < length p → get_or p x 0 ≡ up → up ≢ x → get_or p up 0 ≡ top → KeepsTrees first (set p x top) × (AreInOneTree (set p x top) start top × (top < x))
climbed first p start x up top so_far found inside is_up moved is_top =
    let step = grandparent p x up top so_far.forest inside is_up moved is_top in
    let low : up < x = omega (arith, so_far.forest x inside) in (
      keeps_on first p (set p x top) so_far step,
      (
        chained_on (HasParent (set p x top)) start x top (step.kept start x found) (to_new p x top inside),
        omega (arith, so_far.forest up (omega arith)),
      ),
    )

-- a root that gets an earlier place as its parent: its tree is one with that place's tree
hung : (p : List ℕ) (x v : ℕ) → IsForest p → IsRoot p x → v ≤ x → (IsForest (set p x v)) × (((a b : ℕ) → AreInOneTree p a b → AreInOneTree (set p x v) a b) × AreInOneTree (set p x v) x v)
hung p x v forest root low =
    let q = set p x v in
    let kept : (k : ℕ) → k < length p → AreInOneTree q k (get_or p k 0) = λ k within.
    elim (cases_eq k x) [
      | inl same ↦ chained_same (HasParent q) k (get_or p k 0) (same ∙ sym root.1 ∙ ap (λ y. get_or p y 0) (sym same))
      | inr other ↦ to_old p x v k other within
    ] in
    (forest_set p x v forest low, ((λ a b same. trees_from p q kept a b same), to_new p x v root.0))

-- the trees of two places are one after the root of one got a place of the other's tree as its parent
pub joins : (old p : List ℕ) (a b x v : ℕ) → KeepsTrees old p → IsRoot p x → v ≤ x → ((AreInOneTree p a x × AreInOneTree p b v) ⊎ (AreInOneTree p b x × AreInOneTree p a v)) → JoinsTrees old a b (set p x v)
joins old p a b x v so_far root low ends =
    let q = set p x v in
    let grown = hung p x v so_far.forest root low in
    let Near : ℕ → ℕ → Type 0 = λ s t. HasParent old s t ⊎ ((s ≡ a) × (t ≡ b)) in
    let wide : (s t : ℕ) → AreInOneTree p s t → AreChained Near s t = λ s t same.
    chained_to (HasParent old) Near (λ y. y) (λ y z has. chained_once Near y z (inl has)) s t (so_far.only s t same) in
    let link : AreChained Near a b = chained_once Near a b (inr (refl, refl)) in
    let across : AreChained Near x v = elim ends [
      | inl e ↦
          chained_on Near x a v (chained_back Near a x (wide a x e.0)) (chained_on Near a b v link (wide b v e.1))
      | inr e ↦
          chained_on Near x b v (chained_back Near b x (wide b x e.0)) (chained_on Near b a v (chained_back Near a b link) (wide a v e.1))
    ] in
    let meet : AreInOneTree q a b = elim ends [
      | inl e ↦
          chained_on (HasParent q) a x b (grown.1.0 a x e.0) (chained_on (HasParent q) x v b grown.1.1 (chained_back (HasParent q) b v (grown.1.0 b v e.1)))
      | inr e ↦
          chained_on (HasParent q) a v b (grown.1.0 a v e.1) (chained_on (HasParent q) v x b (chained_back (HasParent q) x v grown.1.1) (chained_back (HasParent q) b x (grown.1.0 b x e.0)))
    ] in
    record {
      forest = grown.0;
      joined = meet;
      kept = λ s t same. grown.1.0 s t (so_far.kept s t same);
      only = λ s t has.
          let here : s < length p = omega (arith, length-set p x v, has.0) in
          elim (parent_set p x v s here) [
            | inl same ↦
                let P : ℕ → Type 0 = λ y. AreChained Near y t in
                let Q : ℕ → Type 0 = λ y. AreChained Near x y in
                subst P (sym same.0) (subst Q (sym same.1 ∙ has.1) across)
            | inr other ↦ wide s t (chained_once (HasParent p) s t (here, sym other.1 ∙ has.1))
          ];
    }
