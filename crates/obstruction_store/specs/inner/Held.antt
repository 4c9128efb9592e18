-- How a store holds its obstructions: each number has a key, under which a slot holds its obstruction.
use Rattle.std.specs.Prelude.{◌≡◌, ℕ, ◌≤◌, List, [], ◌∷◌, Option, None, Some, IsSome, slice_index_or}
use Rattle.std.specs.Ordering.{nat_cmp}
use Rattle.std.specs.BTreeMap as tree
use Rattle.std.specs.FinMap as map
use Rattle.nav_types.specs.declared.limits.TheConstants.{MAX_OBSTRUCTIONS}
use Rattle.obstruction_shapes.specs.declared.shapes.Obstruction.{Obstruction}
use Rattle.obstruction_store.specs.Standing.{Standing}

-- what the slot of a key holds
abbrev pub slot_at : List (Option Obstruction) → ℕ → Option Obstruction
slot_at slots key = slice_index_or slots key None

-- the number with what its slot holds, in front of the rest
abbrev pub with_entry : ℕ → Option Obstruction → List (ℕ × Obstruction) → List (ℕ × Obstruction)
with_entry number None rest = rest
with_entry number (Some obstruction) rest = (number, obstruction) ∷ rest

-- the numbers of these pairs of number and key, each with what its slot holds
abbrev pub held_entries : List (Option Obstruction) → List (ℕ × ℕ) → List (ℕ × Obstruction)
held_entries slots [] = []
held_entries slots (e ∷ es) = with_entry e.0 (slot_at slots e.1) (held_entries slots es)

-- the standing obstructions that are held so
abbrev pub held_standing : tree.BTreeMap ℕ ℕ → List (Option Obstruction) → Standing
held_standing keys slots = map.from_sorted (held_entries slots keys.entries)

-- each of these keys has a full slot
abbrev pub HaveFullSlots : List (Option Obstruction) → List (ℕ × ℕ) → Type 0
HaveFullSlots slots [] = Unit {0}
HaveFullSlots slots (e ∷ es) = IsSome (slot_at slots e.1) × HaveFullSlots slots es

-- the numbers rise, the key of each has a full slot, no two have one key, and there are not too many
pub record IsHeld (keys : tree.BTreeMap ℕ ℕ) (slots : List (Option Obstruction)) : Type 0 where
  pub ordered : tree.IsOrdered nat_cmp keys
  pub full : (number key : ℕ) → tree.get nat_cmp keys number ≡ Some key → IsSome (slot_at slots key)
  pub apart : (a b key : ℕ) → tree.get nat_cmp keys a ≡ Some key → tree.get nat_cmp keys b ≡ Some key → a ≡ b
  pub few : tree.btree_map_len keys ≤ MAX_OBSTRUCTIONS
