-- Two lists, item by item.
use Rattle.std.specs.Prelude.{List, [], ◌∷◌}

-- each item of the one list, with that of the other in its place; where there is none, it stays
abbrev pub zipped : {A B : Type 0} → (A → B → A) → List A → List B → List A
zipped {A} {B} give [] bs = []
zipped {A} {B} give (a ∷ xs) [] = a ∷ xs
zipped {A} {B} give (a ∷ xs) (b ∷ bs) = give a b ∷ zipped give xs bs

-- it holds of each two items in one place
abbrev pub AllPaired : {A B : Type 0} → (A → B → Type 0) → List A → List B → Type 0
AllPaired {A} {B} P [] bs = Unit {0}
AllPaired {A} {B} P (a ∷ xs) [] = Unit {0}
AllPaired {A} {B} P (a ∷ xs) (b ∷ bs) = P a b × AllPaired P xs bs
