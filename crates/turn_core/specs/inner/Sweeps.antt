-- Sweeps over a list, in which each item works with what the items before it left.
use Rattle.std.specs.Prelude.{List, [], ◌∷◌}

-- what each item gives, with what is left at it
abbrev pub swept : {A B S : Type 0} → (A → S → B) → (A → S → S) → List A → S → List B
swept {A} {B} {S} give next [] s = []
swept {A} {B} {S} give next (x ∷ xs) s = give x s ∷ swept give next xs (next x s)

-- what the items leave
abbrev pub left : {A S : Type 0} → (A → S → S) → List A → S → S
left {A} {S} next [] s = s
left {A} {S} next (x ∷ xs) s = left next xs (next x s)

-- each item has what it needs
abbrev pub EachHas : {A S : Type 0} → (A → S → Type 0) → (A → S → S) → List A → S → Type 0
EachHas {A} {S} Has next [] s = Unit {0}
EachHas {A} {S} Has next (x ∷ xs) s = Has x s × EachHas Has next xs (next x s)
