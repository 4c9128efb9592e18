-- A numbering by first cells is the only one that fits.
use Rattle.std.proofs.Common.{ℕ, ◌≡◌, ◌+◌, ◌⊎◌, ◌↔◌, Bool, List, IsTrue, ap, inl, inr, sym, subst, ◌∙◌, arith, Some}
use Rattle.std.specs.List.{slice_get}
use Rattle.std.proofs.lemmas.Bool.{cases_Bool, both_ways}
use Rattle.std.proofs.lemmas.Option.{same_Some}
use Rattle.nav_types.specs.declared.cells.Cell.{Cell}
use Rattle.nav_types.specs.Counting.{AreFirsts, HasNumber}
use Rattle.nav_types.proofs.Items.{Contains-from_slice_get, same_ordered, same_place}

-- a cell has one number at most, where cells are together both ways and over others, and the order is total
pub HasNumber-unique : (passes : Cell → Bool) (Together Before : Cell → Cell → Type 0)
    → ((a b : Cell) → Together a b → Together b a)
    → ((a b c : Cell) → Together a b → Together b c → Together a c)
    → ((a b : Cell) → Before a b → Before b a → ⊥)
    → ((a b : Cell) → (a ≡ b) ⊎ (Before a b ⊎ Before b a))
    → (cell : Cell) (m n : ℕ) → HasNumber passes Together Before cell m → HasNumber passes Together Before cell n → m ≡ n
HasNumber-unique passes Together Before turn on asym total cell m n one two =
    elim (cases_Bool (passes cell)) [
      | inl passable ↦
          let a = one.placed passable in
          let b = two.placed passable in
          let firsts_a = a.1.0 in
          let firsts_b = b.1.0 in
          let first_a = a.1.1.1.0 in
          let first_b = b.1.1.1.0 in
          let in_a = Contains-from_slice_get a.0 a.1.1.0 first_a a.1.1.1.1.0 in
          let in_b = Contains-from_slice_get b.0 b.1.1.0 first_b b.1.1.1.1.0 in
          let across = on first_a cell first_b (turn cell first_a a.1.1.1.1.1.0) b.1.1.1.1.1.0 in
          let one_first : first_a ≡ first_b = elim (total first_a first_b) [
            | inl same ↦ same
            | inr other ↦ elim other [
              | inl less ↦ absurd ((firsts_b.each first_b in_b).earliest first_a (turn first_a first_b across) less)
              | inr more ↦ absurd ((firsts_a.each first_a in_a).earliest first_b across more)
            ]
          ] in
          let one_list : a.0 ≡ b.0 = same_ordered Before asym a.0 b.0 firsts_a.rising firsts_b.rising
          (λ z inside. firsts_b.all z (firsts_a.each z inside)) (λ z inside. firsts_a.all z (firsts_b.each z inside)) in
          let there : slice_get b.0 a.1.1.0 ≡ Some first_b =
          ap (λ xs. slice_get xs a.1.1.0) (sym one_list) ∙ a.1.1.1.1.0 ∙ ap (λ z. Some z) one_first in
          let one_place : a.1.1.0 ≡ b.1.1.0 = same_place Before asym b.0 firsts_b.rising a.1.1.0 b.1.1.0 first_b there b.1.1.1.1.0 in
          a.1.1.1.1.1.1 ∙ ap (λ place. place + 1) one_place ∙ sym b.1.1.1.1.1.1
      | inr blocked ↦ one.blocked blocked ∙ sym (two.blocked blocked)
    ]

-- one group has one list of first cells
pub AreFirsts-unique : (passes : Cell → Bool) (Together Before : Cell → Cell → Type 0) → ((a b : Cell) → Before a b → Before b a → ⊥)
    → (xs ys : List Cell) → AreFirsts passes Together Before xs → AreFirsts passes Together Before ys → xs ≡ ys
AreFirsts-unique passes Together Before asym xs ys one two =
    same_ordered Before asym xs ys one.rising two.rising (λ z inside. two.all z (one.each z inside)) (λ z inside. one.all z (two.each z inside))

-- passable cells of one number are together
pub HasNumber-same : (passes : Cell → Bool) (Together Before : Cell → Cell → Type 0)
    → ((a b : Cell) → Together a b → Together b a)
    → ((a b c : Cell) → Together a b → Together b c → Together a c)
    → ((a b : Cell) → Before a b → Before b a → ⊥)
    → (a b : Cell) (n : ℕ) → IsTrue (passes a) → IsTrue (passes b)
    → HasNumber passes Together Before a n → HasNumber passes Together Before b n → Together a b
HasNumber-same passes Together Before turn on asym a b n open_a open_b one two =
    let p = one.placed open_a in
    let q = two.placed open_b in
    let lists = AreFirsts-unique passes Together Before asym p.0 q.0 p.1.0 q.1.0 in
    let number_p = p.1.1.1.1.1.1 in
    let number_q = q.1.1.1.1.1.1 in
    let place : p.1.1.0 ≡ q.1.1.0 = omega arith in
    let first : p.1.1.1.0 ≡ q.1.1.1.0 = same_Some p.1.1.1.0 q.1.1.1.0
    (sym p.1.1.1.1.0 ∙ ap (λ xs. slice_get xs p.1.1.0) lists ∙ ap (λ k. slice_get q.0 k) place ∙ q.1.1.1.1.0) in
    on a q.1.1.1.0 b (subst (λ (cell : Cell). Together a cell) first p.1.1.1.1.1.0) (turn b q.1.1.1.0 q.1.1.1.1.1.0)

-- passable cells have one number exactly where they are together
pub HasNumber-together : (passes : Cell → Bool) (Together Before : Cell → Cell → Type 0)
    → ((a b : Cell) → Together a b → Together b a)
    → ((a b c : Cell) → Together a b → Together b c → Together a c)
    → ((a b : Cell) → Before a b → Before b a → ⊥)
    → ((a b : Cell) → (a ≡ b) ⊎ (Before a b ⊎ Before b a))
    → (a b : Cell) (m n : ℕ) → IsTrue (passes a) → IsTrue (passes b)
    → HasNumber passes Together Before a m → HasNumber passes Together Before b n → (m ≡ n) ↔ Together a b
HasNumber-together passes Together Before turn on asym total a b m n open_a open_b one two = (
  λ same. HasNumber-same passes Together Before turn on asym a b n open_a open_b
      (subst (λ k. HasNumber passes Together Before a k) same one) two,
  λ together.
      let q = two.placed open_b in
      let moved : HasNumber passes Together Before a n = record {
        blocked = λ shut. absurd (both_ways (passes a) shut open_a);
        placed = λ _. (q.0, (q.1.0, (q.1.1.0, (q.1.1.1.0, (q.1.1.1.1.0, (on a b q.1.1.1.0 together q.1.1.1.1.1.0, q.1.1.1.1.1.1))))));
      } in
      HasNumber-unique passes Together Before turn on asym total a m n one moved,
)
