-- Canonical values read back: lists, decimals and objects of one key.
use Rattle.std.proofs.Common.{◌≡◌, ℕ, ◌<◌, ◌≤◌, ◌^◌, List, [], ◌∷◌, map, ℤ, refl, ap, arith, FitsSigned}
use Rattle.std.specs.Prelude.{All}
use Rattle.std.specs.Int.{w32}
use Rattle.std.proofs.lemmas.List.Elements.{All-head, All-tail}
use Rattle.serde_json.specs.Data.{Data, array, object, no_members, member, item}
use Rattle.serde_json.specs.View.{items_of}
use Rattle.fixed_point.specs.Text.{fixed_text}
use Rattle.fixed_point.proofs.ReadsBack.{reads_back}
use Rattle.script_text.specs.Canon.{decimal_json, list_json, decimals_json, shape_json}
use Rattle.script_text.specs.Grammar.{IsObject, IsDecimal, SayEach, IsArray, HasDecimals}
use Rattle.script_text.specs.ReadsBack.{AreFixed}
use Rattle.script_text.proofs.BackTexts.{IsSimple, AreSimple, sorted, sorted_items, text-fixed_text}

-- an object of one key
pub one_key : (k : List ℕ) (d : Data) → IsObject (k ∷ []) (d ∷ []) (object (member k d no_members))
one_key k d = record { members = member k d no_members; is = refl; are = (no_members, no_members, refl, refl) }

-- ---- lists

pub simple_list : {X : Type 0} (write : X → Data) (P : X → Type 0) (levels : ℕ) → ((x : X) → P x → IsSimple (write x) levels)
    → (xs : List X) → All P xs → AreSimple (items_of (map write xs)) levels
simple_list write P levels each [] all = tt
simple_list write P levels each (x ∷ xs) all = (each x (All-head P x xs all), simple_list write P levels each xs (All-tail P x xs all))

pub sorted_list : {X : Type 0} (write : X → Data) (xs : List X) → sorted_items (items_of (map write xs)) ≡ items_of (map (λ x. sorted (write x)) xs)
sorted_list write [] = refl
sorted_list write (x ∷ xs) = ap (item (sorted (write x))) (sorted_list write xs)

say_list : {X : Type 0} (write : X → Data) (P : X → Type 0) (Says : X → Data → Type 0) → ((x : X) → P x → Says x (sorted (write x)))
    → (xs : List X) → All P xs → SayEach Says xs (map (λ x. sorted (write x)) xs)
say_list write P Says each [] all = tt
say_list write P Says each (x ∷ xs) all = (each x (All-head P x xs all), say_list write P Says each xs (All-tail P x xs all))

pub array_list : {X : Type 0} (write : X → Data) (P : X → Type 0) (Says : X → Data → Type 0) → ((x : X) → P x → Says x (sorted (write x)))
    → (xs : List X) → All P xs → IsArray Says xs (sorted (list_json (map write xs)))
array_list write P Says each xs all =
    (map (λ x. sorted (write x)) xs, ap array (sorted_list write xs), say_list write P Says each xs all)

-- ---- decimals

abbrev pub IsFixed : ℤ → Type 0
IsFixed raw = FitsSigned w32 raw

pub says_decimal : (raw : ℤ) → IsFixed raw → IsDecimal raw (sorted (decimal_json raw))
says_decimal raw fits = (fixed_text raw, refl, reads_back raw fits)

pub simple_decimals : (raws : List ℤ) (levels : ℕ) → AreFixed raws → AreSimple (items_of (map decimal_json raws)) levels
simple_decimals raws levels fixed = simple_list decimal_json IsFixed levels text-fixed_text raws fixed

pub says_decimals : (raws : List ℤ) → AreFixed raws → IsArray IsDecimal raws (sorted (decimals_json raws))
says_decimals raws fixed = array_list decimal_json IsFixed IsDecimal says_decimal raws fixed

-- ---- objects of decimals

pub says_shape : (key : List ℕ) (raws : List ℤ) → AreFixed raws → HasDecimals key raws (sorted (shape_json key raws))
says_shape key raws fixed = (sorted (decimals_json raws), one_key key (sorted (decimals_json raws)), says_decimals raws fixed)

pub small : (n most : ℕ) → most ≤ 4294967295 → n ≤ most → n < 2 ^ 64
small n most limit few = omega (arith, limit, few)
