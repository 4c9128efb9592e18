-- The first place of a line that is sought.
use Rattle.std.proofs.Common.{ℕ, Bool, true, false, ◌≡◌, ◌==◌, ◌<◌, min, List, get_or, inl, inr, ◌∙◌, refl, sym, ap, subst, arith, IsTrue, IsFalse, ◌*◌, ◌+◌}
use Rattle.std.specs.Bool.{beq}
use Rattle.std.specs.Int.{bit_at}
use Rattle.std.proofs.lemmas.Bool.{cases_order}
use Rattle.std.proofs.Math.Nat.{min-le_left, min-le_right}
use Rattle.nav_types.specs.Lines.{IsFirstFree, is_sought}
use Rattle.lane_rows.specs.Rows.{one_if}
use Rattle.class_planes.specs.inner.Runs.{bit_in, IsNext}
use Rattle.class_planes.proofs.WordLemmas.{in_word}

-- 1 for a place that is sought
abbrev pub sought_bit : (ℕ → Bool) → ℕ → ℕ
sought_bit sought i = one_if (sought i)

-- the free places of a line, or the others
abbrev pub sought_in : Bool → List ℕ → ℕ → Bool
sought_in free line i = is_sought free (bit_in line i == 1)

pub is_one : (b : Bool) → one_if b ≡ 1 → IsTrue b
is_one true one = refl
is_one false one = absurd (omega (arith, one))

pub is_no_one : (b : Bool) → one_if b ≡ 0 → IsFalse b
is_no_one true none = absurd (omega (arith, none))
is_no_one false none = refl

pub no_one : (b : Bool) → IsFalse b → one_if b ≡ 0
no_one b off = ap one_if off

-- a place whose bit is not as the one sought
pub not_sought : (free set : Bool) → IsFalse (beq set free) → IsFalse (is_sought free set)
not_sought true true off = off
not_sought true false off = refl
not_sought false true off = refl
not_sought false false off = off

-- the bits of a word of sought places, by their places on the line
pub bits_here : (free : Bool) (line : List ℕ) (w k word : ℕ) → k < 64
    → (k < 64 → bit_at word k ≡ one_if (is_sought free (bit_at (get_or line w 0) k == 1)))
    → bit_at word k ≡ sought_bit (sought_in free line) (64 * w + k)
bits_here free line w k word small bits =
    bits small ∙ ap (λ b. one_if (is_sought free (b == 1))) (sym (in_word line w k small))

-- the next sought place, where the place itself is not sought
pub first_next : (sought : ℕ → Bool) (from end to : ℕ) → from < end → IsFalse (sought from)
    → IsNext (sought_bit sought) from to → IsFirstFree sought from end (min end to)
first_next sought from end to below off next =
    let after = next.after in
    let left = min-le_left end to in
    let right = min-le_right end to in
    record {
      reached = omega arith;
      within = left;
      found = λ small.
          let there : to ≡ min end to = omega arith in
          subst (λ n. IsTrue (sought n)) there (is_one (sought to) next.set);
      none_before = λ k past before. elim (cases_order from k) [
        | inl same ↦ subst (λ n. IsFalse (sought n)) same off
        | inr (inl less) ↦ is_no_one (sought k) (next.none k less (omega arith))
        | inr (inr more) ↦ absurd (omega arith)
      ];
    }
