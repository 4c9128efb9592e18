-- Draws, one after another.
use Rattle.std.proofs.Common.{◌≡◌, ℕ, add-one, ◌+◌, ◌^◌, ◌%◌, ◌<◌, zero, suc, arith, All, slice_index_or, List, [], ◌∷◌, ◌++◌, refl}
use Rattle.std.proofs.Math.Nat.{mod-add-mod}
use Rattle.made_match.specs.Making.{Draw, drawn, draw_each}

-- a step of the generator modulo 2^64
pub wrapped : (n k : ℕ) → (n % 2 ^ 64 + k) % 2 ^ 64 ≡ (n + k) % 2 ^ 64
wrapped n k = mod-add-mod n (2 ^ 64) k

-- nothing is drawn yet
pub none_drawn : {A : Type 0} (thing : ℕ → ℕ → Draw A) (state : ℕ) → draw_each thing 0 state ≡ drawn [] state
unfolding draw_each
none_drawn thing state = refl

-- one thing more is drawn
pub one_more : {A : Type 0} (thing : ℕ → ℕ → Draw A) (count state : ℕ)
    → draw_each thing (count + 1) state
    ≡ drawn ((draw_each thing count state).value ++ (thing count (draw_each thing count state).state).value ∷ [])
    (thing count (draw_each thing count state).state).state
unfolding draw_each
one_more thing count state = rw add-one refl

-- one thing more is drawn, and put behind the others
pub drawn_more : {A : Type 0} (thing : ℕ → ℕ → Draw A) (count state now next : ℕ) (values all : List A) (value : A)
    → draw_each thing count state ≡ drawn values now → value ≡ (thing count now).value → next ≡ (thing count now).state
    → all ≡ values ++ value ∷ [] → draw_each thing (count + 1) state ≡ drawn all next
drawn_more thing count state now next values all value before is goes whole = cc (one_more thing count state)

one_at : {A : Type 0} (P : A → Type 0) (x : A) → P x → (k : ℕ) (d : A) → k < 1 → P (slice_index_or (x ∷ []) k d)
one_at P x holds zero d below = holds
one_at P x holds (suc k) d below = absurd (omega arith)

-- what holds of a thing holds of the list of it
pub all_one : {A : Type 0} (P : A → Type 0) (x : A) → P x → All P (x ∷ [])
all_one P x holds = λ k d below. one_at P x holds k d below

pub ruleset drawing = (none_drawn, one_more)
