-- Forms over the reading of serde_json: objects with exactly the keys of a form, the strings under them, and class
-- names.
use Rattle.std.specs.Prelude.{ℕ, ◌-◌, ◌&&◌, ◌||◌, ◌==◌, List, [], ◌∷◌, ◌++◌, length, replicate, count_by, bytes_eq, Bool, false, nat_le, Option, option_and_then}
use Rattle.std.specs.List.{list_all, list_any}
use Rattle.std.specs.Char.{is_ascii_alphanumeric}
use Rattle.serde_json.specs.Data.{Data, object, Members, no_members, member}
use Rattle.serde_json.specs.Find.{get, as_str}

-- the keys of an object, in its order
abbrev pub keys_of : Members → List (List ℕ)
keys_of no_members = []
keys_of (member key d ms) = key ∷ keys_of ms

-- an object whose keys are exactly these, in any order: each of its keys is one of these, and each of these stands in
-- it once
abbrev pub has_keys : List (List ℕ) → Data → Bool
has_keys keys (object ms) = list_all (λ key. list_any (bytes_eq key) keys) (keys_of ms)
    && list_all (λ key. count_by (bytes_eq key) (keys_of ms) == 1) keys
has_keys keys _ = false

-- the string under a key
abbrev pub text_under : List ℕ → Data → Option (List ℕ)
text_under key d = option_and_then as_str (get key d)

-- a class name: 1 to 64 bytes, each an ASCII letter, a digit, `-` (45) or `_` (95)
abbrev pub is_class_name : List ℕ → Bool
is_class_name name = nat_le 1 (length name) && nat_le (length name) 64
    && list_all (λ byte. is_ascii_alphanumeric byte || byte == 45 || byte == 95) name

-- a name and zeros behind it, 64 bytes in all
abbrev pub padded : List ℕ → List ℕ
padded name = name ++ replicate (64 - length name) 0
