-- Chains of things, each near the next, read either way.
use Rattle.std.specs.Prelude.{◌≡◌, ◌⊎◌, List, [], ◌∷◌}

-- one is near the other, or the other is near the one
abbrev pub Either : {A : Type 0} → (A → A → Type 0) → A → A → Type 0
Either Near a b = Near a b ⊎ Near b a

-- the things on the way from one end of a chain to the other, without the first
abbrev pub IsChain : {A : Type 0} → (A → A → Type 0) → A → List A → A → Type 0
IsChain Near from [] to = from ≡ to
IsChain Near from (next ∷ rest) to = Either Near from next × IsChain Near next rest to

-- a chain leads from one thing to the other
abbrev pub AreChained : {A : Type 0} → (A → A → Type 0) → A → A → Type 0
AreChained {A} Near a b = (way : List A) × IsChain Near a way b
