-- What is told of the bytes left in a source, and of one read.
use Rattle.std.proofs.Common.{◌≡◌, ℕ, ◌<◌, ◌≤◌, ◌↔◌, List, [], ◌∷◌, length, Bool, true, false, Option, Some, None, Ok, IsTrue, refl, sym, inl, inr, ◌∙◌, arith}
use Rattle.std.proofs.lemmas.List.{append-nil}
use Rattle.std.proofs.lemmas.Bool.{false≢true}
use Rattle.io_edges.specs.Faults.{Rose}
use Rattle.input_lines.specs.Held.{WhereTold, Taken, RefillAnswer}

-- ---- what is told

pub told-same : (a : Option (List ℕ)) (P : List ℕ → List ℕ → Type 0) → ((x : List ℕ) → P x x) → WhereTold a a P
told-same None P h = tt
told-same (Some x) P h = h x

pub told-weaker : (a b : Option (List ℕ)) (P Q : List ℕ → List ℕ → Type 0) → ((x y : List ℕ) → P x y → Q x y) → WhereTold a b P → WhereTold a b Q
told-weaker None b P Q h t = tt
told-weaker (Some x) None P Q h t = absurd t
told-weaker (Some x) (Some y) P Q h t = h x y t

pub told-then : (a b c : Option (List ℕ)) (P Q R : List ℕ → List ℕ → Type 0) → ((x y z : List ℕ) → P x y → Q y z → R x z) → WhereTold a b P → WhereTold b c Q → WhereTold a c R
told-then None b c P Q R h t u = tt
told-then (Some x) None c P Q R h t u = absurd t
told-then (Some x) (Some y) None P Q R h t u = absurd u
told-then (Some x) (Some y) (Some z) P Q R h t u = h x y z t u

-- ---- causes

pub rose-later : (first before now : ℕ) → first ≤ before → Rose before now → Rose first now
rose-later first before now low (inl h) = inl (omega arith)
rose-later first before now low (inr e) = inr e

-- ---- refills

-- nothing more is taken where bytes are held, or at the end of the input
pub refills-none : (old : Taken) (left : Option (List ℕ)) → (old.bytes ≡ [] → IsTrue old.ended) → WhereTold left left (RefillAnswer old old (Ok tt))
refills-none old left ended = told-same left _ (λ x h. record { taken = []; took = refl; bytes = sym (append-nil old.bytes); at_end = λ none. h (ended none) })

pub some_held : (b : Bool) (bs : List ℕ) → ((b ≡ true) ↔ (bs ≡ [])) → b ≡ false → 0 < length bs
some_held b [] h e = absurd (false≢true (sym e ∙ h.1 refl))
some_held b (x ∷ xs) h e = omega arith
