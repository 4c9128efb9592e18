-- An open list of which one key has been added, lowered or taken out.
use Rattle.std.proofs.Common.{ℕ, ◌≡◌, ◌≢◌, ◌⊎◌, Option, Some, None, inl, inr, refl}
use Rattle.std.proofs.Common.{◌∙◌}
use Rattle.std.proofs.lemmas.Bool.{cond-true, cond-false}
use Rattle.std.specs.Cmp.{nat_cmp_total}
use Rattle.std.specs.FinMap as map
use Rattle.std.specs.Ordering.{nat_cmp, eq_by_cmp}
use Rattle.open_heap.specs.Queue.{Queue}
use Rattle.nav_types.proofs.NumberTies.{ties_at, apart_at}

pub inserted_here : (queue : Queue) (key : ℕ) (value : ℕ)
    → map.get (map.insert queue key value) key ≡ Some value
inserted_here queue key value =
    map.get-insert nat_cmp_total queue key value key
    ∙ cond-true (eq_by_cmp nat_cmp key key) (Some value) (map.get queue key) (ties_at key key refl)

pub inserted_apart : (queue : Queue) (key : ℕ) (value : ℕ) (other : ℕ) → other ≢ key
    → map.get (map.insert queue key value) other ≡ map.get queue other
inserted_apart queue key value other apart =
    map.get-insert nat_cmp_total queue key value other
    ∙ cond-false (eq_by_cmp nat_cmp other key) (Some value) (map.get queue other) (apart_at other key apart)

pub removed_here : (queue : Queue) (key : ℕ) → map.get (map.remove queue key) key ≡ None
removed_here queue key =
    map.get-remove nat_cmp_total queue key key
    ∙ cond-true (eq_by_cmp nat_cmp key key) None (map.get queue key) (ties_at key key refl)

pub removed_apart : (queue : Queue) (key other : ℕ) → other ≢ key
    → map.get (map.remove queue key) other ≡ map.get queue other
removed_apart queue key other apart =
    map.get-remove nat_cmp_total queue key other
    ∙ cond-false (eq_by_cmp nat_cmp other key) None (map.get queue other) (apart_at other key apart)

none_or_some : (found : Option ℕ) → (found ≡ None) ⊎ ((value : ℕ) × (found ≡ Some value))
none_or_some None = inl refl
none_or_some (Some value) = inr (value, refl)

-- what a key has
pub get_cases : (queue : Queue) (key : ℕ) → (map.get queue key ≡ None)
    ⊎ ((value : ℕ) × (map.get queue key ≡ Some value))
get_cases queue key = none_or_some (map.get queue key)
