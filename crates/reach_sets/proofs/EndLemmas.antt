-- The regions with links: their marks, their places and their areas while they are made.
use Rattle.std.proofs.Common.{◌≡◌, ◌≢◌, ℕ, ◌+◌, ◌<◌, ◌||◌, List, [], ◌∷◌, ◌++◌, length, get_or, set, take, sum, refl, sym, ap, ◌∙◌, subst, inl, inr, arith, length-append, get_or-set_same, get_or-set_other}
use Rattle.std.specs.Prelude.{All, IsTrue, ◌==◌}
use Rattle.std.proofs.lemmas.Bool.{cases_lt, cases_eq, or_cases, or_left, or_right, eq-eqb, eqb-true}
use Rattle.std.proofs.lemmas.List.{get_or_append_left, get_or_push}
use Rattle.std.proofs.lemmas.List.Elements.{All-get_or, All-more, All-weaker, All-contains, All-from_get_or, All-take, Contains-get_or}
use Rattle.reach_sets.specs.declared.regions.RegionId.{RegionId}
use Rattle.reach_sets.specs.RegionOrder.{place}
use Rattle.reach_sets.specs.inner.Forests.{IsForest}
use Rattle.reach_sets.specs.inner.EndMarks.{is_marked, marked_before}
use Rattle.reach_sets.specs.inner.Linked.{IsEnd, HasMarks, AreEnds, ArePlaces, children_before}
use Rattle.reach_sets.proofs.MarkLemmas.{same_number}

-- ---- marks

-- words that have the places of one more link
pub ends_more : (regions : List ℕ) (links : List (RegionId × RegionId)) (i : ℕ) (none : RegionId × RegionId) (old mid new : List ℕ) (a b : ℕ) → i < length links
    → a ≡ place regions (get_or links i none).0 → b ≡ place regions (get_or links i none).1
    → ((k : ℕ) → is_marked mid k ≡ (is_marked old k || k == a)) → ((k : ℕ) → is_marked new k ≡ (is_marked mid k || k == b))
    → All (HasMarks regions old) (take i links) → ((k : ℕ) → IsTrue (is_marked old k) → IsEnd regions links k)
    → All (HasMarks regions new) (take (i + 1) links) × ((k : ℕ) → IsTrue (is_marked new k) → IsEnd regions links k)
ends_more regions links i none old mid new a b inside a_is b_is first second all only =
    let link = get_or links i none in
    let on : (k : ℕ) → IsTrue (is_marked mid k) → IsTrue (is_marked new k) = λ k set_here. second k ∙ or_left (is_marked mid k) (k == b) set_here in
    let kept : (k : ℕ) → IsTrue (is_marked old k) → IsTrue (is_marked new k) = λ k set_here. on k (first k ∙ or_left (is_marked old k) (k == a) set_here) in
    let one : IsTrue (is_marked new (place regions link.0)) = on (place regions link.0) (first (place regions link.0)
    ∙ or_right (is_marked old (place regions link.0)) (place regions link.0 == a) (eq-eqb (place regions link.0) a (sym a_is))) in
    let other : IsTrue (is_marked new (place regions link.1)) =
    second (place regions link.1) ∙ or_right (is_marked mid (place regions link.1)) (place regions link.1 == b) (eq-eqb (place regions link.1) b (sym b_is)) in
    let known = Contains-get_or links i none inside in (
      All-more (HasMarks regions new) links i none inside
          (All-weaker (HasMarks regions old) (HasMarks regions new) (λ link has. (kept (place regions link.0) has.0, kept (place regions link.1) has.1)) (take i links) all)
          (one, other),
      (λ k set_here. elim (or_cases (is_marked mid k) (k == b) (sym (second k) ∙ set_here)) [
        | inl before ↦ elim (or_cases (is_marked old k) (k == a) (sym (first k) ∙ before)) [
          | inl earlier ↦ only k earlier
          | inr here ↦ (link, (known, inl (sym a_is ∙ sym (eqb-true k a here))))
        ]
        | inr here ↦ (link, (known, inr (sym b_is ∙ sym (eqb-true k b here))))
      ]),
    )

-- ---- places

-- the places of both regions of the link are written down at their numbers
abbrev pub IsNoted : List ℕ → List ℕ → List ℕ → RegionId × RegionId → Type 0
IsNoted regions words places link =
    (get_or places (marked_before words (place regions link.0)) 0 ≡ place regions link.0)
    × (get_or places (marked_before words (place regions link.1)) 0 ≡ place regions link.1)

-- another place is written down at its number
note_kept : (words places : List ℕ) (k p : ℕ) → IsTrue (is_marked words k) → IsTrue (is_marked words p) → marked_before words p < length places → get_or places (marked_before words k) 0 ≡ k → get_or (set places (marked_before words p) p) (marked_before words k) 0 ≡ k
note_kept words places k p k_is p_is inside noted =
    elim (cases_eq (marked_before words k) (marked_before words p)) [
      | inl same ↦
          let one : k ≡ p = same_number words k p k_is p_is same in
          ap (λ i. get_or (set places (marked_before words p) p) i 0) same
          ∙ get_or-set_same places (marked_before words p) p 0 inside ∙ sym one
      | inr other ↦ get_or-set_other places (marked_before words p) (marked_before words k) p 0 other ∙ noted
    ]

pub noted_more : (regions : List ℕ) (links : List (RegionId × RegionId)) (words : List ℕ) (i : ℕ) (none : RegionId × RegionId) (old mid new : List ℕ) (a b : ℕ) → i < length links
    → All (HasMarks regions words) links → a ≡ marked_before words (place regions (get_or links i none).0) → b ≡ marked_before words (place regions (get_or links i none).1)
    → a < length old → b < length mid
    → mid ≡ set old a (place regions (get_or links i none).0) → new ≡ set mid b (place regions (get_or links i none).1)
    → All (IsNoted regions words old) (take i links) → All (IsNoted regions words new) (take (i + 1) links)
noted_more regions links words i none old mid new a b inside marks a_is b_is a_low b_low first second all =
    let link = get_or links i none in
    let p = place regions link.0 in let q = place regions link.1 in
    let n = marked_before words in
    let has = All-get_or (HasMarks regions words) links i none inside marks in
    let mid_is : mid ≡ set old (n p) p = first ∙ ap (λ x. set old x p) a_is in
    let new_is : new ≡ set mid (n q) q = second ∙ ap (λ x. set mid x q) b_is in
    let p_low : n p < length old = omega (arith, a_is, a_low) in
    let q_low : n q < length mid = omega (arith, b_is, b_low) in
    let to_mid : (k : ℕ) → IsTrue (is_marked words k) → get_or old (n k) 0 ≡ k → get_or mid (n k) 0 ≡ k = λ k set_here noted.
    ap (λ xs. get_or xs (n k) 0) mid_is ∙ note_kept words old k p set_here has.0 p_low noted in
    let to_new : (k : ℕ) → IsTrue (is_marked words k) → get_or mid (n k) 0 ≡ k → get_or new (n k) 0 ≡ k = λ k set_here noted.
    ap (λ xs. get_or xs (n k) 0) new_is ∙ note_kept words mid k q set_here has.1 q_low noted in
    let p_there : get_or mid (n p) 0 ≡ p = ap (λ xs. get_or xs (n p) 0) mid_is ∙ get_or-set_same old (n p) p 0 p_low in
    let q_there : get_or new (n q) 0 ≡ q = ap (λ xs. get_or xs (n q) 0) new_is ∙ get_or-set_same mid (n q) q 0 q_low in
    let before : All (IsNoted regions words new) (take i links) = All-from_get_or (IsNoted regions words new) (take i links) none (λ j low.
    let other = get_or (take i links) j none in
    let m = All-get_or (HasMarks regions words) (take i links) j none low (All-take (HasMarks regions words) i links marks) in
    let was = All-get_or (IsNoted regions words old) (take i links) j none low all in (
      to_new (place regions other.0) m.0 (to_mid (place regions other.0) m.0 was.0),
      to_new (place regions other.1) m.1 (to_mid (place regions other.1) m.1 was.1),
    )) in
    All-more (IsNoted regions words new) links i none inside before (to_new p has.0 p_there, q_there)

-- the places of all links are those of all marks
pub places_noted : (regions : List ℕ) (links : List (RegionId × RegionId)) (words places : List ℕ) → AreEnds regions links words → length places ≡ marked_before words (sum regions) → All (IsNoted regions words places) links → ArePlaces words places (sum regions)
places_noted regions links words places ends each noted =
    record {
      each = each;
      at = λ k low set_here.
          let end = ends.only k set_here in
          let is = All-contains (IsNoted regions words places) links end.0 noted end.1.0 in
          let P : ℕ → Type 0 = λ y. get_or places (marked_before words y) 0 ≡ y in
          elim end.1.1 [ inl one ↦ subst P one is.0 | inr other ↦ subst P other is.1 ];
    }

-- ---- areas

-- the areas of the first marked places
pub record AreFirstAreas (places parents areas : List ℕ) : Type 0 where
  pub root : (k : ℕ) → k < length areas → get_or parents k 0 ≡ k → get_or areas k 0 + children_before parents k ≡ get_or places k 0 + 1
  pub child : (k : ℕ) → k < length areas → get_or parents k 0 ≢ k → get_or areas k 0 ≡ get_or areas (get_or parents k 0) 0

pub areas_more : (places parents areas made : List ℕ) (number : ℕ) → IsForest parents → length areas < length parents → made ≡ areas ++ number ∷ [] → AreFirstAreas places parents areas
    → (get_or parents (length areas) 0 ≡ length areas → number + children_before parents (length areas) ≡ get_or places (length areas) 0 + 1)
    → (get_or parents (length areas) 0 ≢ length areas → number ≡ get_or areas (get_or parents (length areas) 0) 0)
    → (length made ≡ length areas + 1) × AreFirstAreas places parents made
areas_more places parents areas made number forest inside is so_far root child =
    let here = length areas in
    let now = areas ++ number ∷ [] in
    let longer = length-append areas (number ∷ []) in
    let P : List ℕ → Type 0 = λ xs. (length xs ≡ here + 1) × AreFirstAreas places parents xs in
    let old : (k : ℕ) → k < here → get_or now k 0 ≡ get_or areas k 0 = λ k low. get_or_append_left areas (number ∷ []) 0 k low in
    let last : get_or now here 0 ≡ number = get_or_push areas number 0 here refl in
    let Root : ℕ → Type 0 = λ k. get_or parents k 0 ≡ k → get_or now k 0 + children_before parents k ≡ get_or places k 0 + 1 in
    let Child : ℕ → Type 0 = λ k. get_or parents k 0 ≢ k → get_or now k 0 ≡ get_or now (get_or parents k 0) 0 in
    let root_here : Root here = λ own. ap (λ x. x + children_before parents here) last ∙ root own in
    let child_here : Child here = λ apart.
    let up = forest here inside in
    last ∙ child apart ∙ sym (old (get_or parents here 0) (omega (arith, up, apart))) in
    subst P (sym is) (
      omega (arith, longer),
      record {
        root = λ k low. elim (cases_lt k here) [
          | inl earlier ↦ λ own. ap (λ x. x + children_before parents k) (old k earlier) ∙ so_far.root k earlier own
          | inr later ↦ let e : here ≡ k = omega (arith, longer, low, later) in subst Root e root_here
        ];
        child = λ k low. elim (cases_lt k here) [
          | inl earlier ↦ λ apart.
              let up = forest k (omega (arith, earlier, inside)) in
              old k earlier ∙ so_far.child k earlier apart ∙ sym (old (get_or parents k 0) (omega (arith, up, earlier)))
          | inr later ↦ let e : here ≡ k = omega (arith, longer, low, later) in subst Child e child_here
        ];
      },
    )

-- a list of counts and one more
pub counts_more : (f : ℕ → ℕ) (counts made : List ℕ) (number : ℕ) → made ≡ counts ++ number ∷ [] → number ≡ f (length counts) → ((k : ℕ) → k < length counts → get_or counts k 0 ≡ f k)
    → (length made ≡ length counts + 1) × ((k : ℕ) → k < length made → get_or made k 0 ≡ f k)
counts_more f counts made number is last so_far =
    let now = counts ++ number ∷ [] in
    let longer = length-append counts (number ∷ []) in
    let P : List ℕ → Type 0 = λ xs. (length xs ≡ length counts + 1) × ((k : ℕ) → k < length xs → get_or xs k 0 ≡ f k) in
    subst P (sym is) (
      omega (arith, longer),
      (λ k low. elim (cases_lt k (length counts)) [
        | inl earlier ↦ get_or_append_left counts (number ∷ []) 0 k earlier ∙ so_far k earlier
        | inr later ↦
            let e : length counts ≡ k = omega (arith, longer, low, later) in
            let Q : ℕ → Type 0 = λ y. get_or now y 0 ≡ f y in
            subst Q e (get_or_push counts number 0 (length counts) refl ∙ last)
      ]),
    )
