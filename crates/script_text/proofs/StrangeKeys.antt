-- Keys that no form has: how they are found.
use Rattle.std.proofs.Common.{◌≡◌, ℕ, ◌<◌, ◌||◌, ◌==◌, List, [], ◌∷◌, Bool, true, false, cond, Option, Some, None, option_map, String, Global, string_bytes, refl, ap, sym, ◌∙◌, arith}
use Rattle.std.specs.Prelude.{◌↔◌, IfSome, IsSome, IsTrue}
use Rattle.std.specs.List.{list_all, find}
use Rattle.std.specs.Map.{keys_of}
use Rattle.std.specs.Char.{is_ascii_alphanumeric}
use Rattle.std.specs.Str.{IsAscii, IsUtf8}
use Rattle.std.proofs.lemmas.Bool.{and_parts}
use Rattle.std.proofs.lemmas.Bool.Decides.{nat_tests}
use Rattle.std.proofs.lemmas.Str.{IsUtf8-from_ascii}
use Rattle.std.proofs.lemmas.Str.Ascii.{IsAscii-cons, IsAscii-nil}
use Rattle.serde_json.specs.Data.{Data, null, boolean, number, string, array, object}
use Rattle.serde_json.specs.Find.{as_object}
use Rattle.serde_json.specs.View.{members_view}
use Rattle.serde_json.specs.declared.value.Value.{Value}
use Rattle.class_config.specs.Forms as form
use Rattle.script_text.specs.Causes.{is_unknown, unknown_key}

-- ---- names

low : (b : ℕ) → (is_ascii_alphanumeric b || b == 45 || b == 95) ≡ true → b < 128
low b h = grind (arith, nat_tests)

named-ascii : (bs : List ℕ) → list_all (λ b. is_ascii_alphanumeric b || b == 45 || b == 95) bs ≡ true → IsAscii bs
named-ascii [] h = IsAscii-nil
named-ascii (b ∷ bs) h =
    let parts = and_parts (is_ascii_alphanumeric b || b == 45 || b == 95) (list_all (λ b. is_ascii_alphanumeric b || b == 45 || b == 95) bs) h in
    IsAscii-cons b bs (low b parts.0) (named-ascii bs parts.1)

-- a name is text
pub name-utf8 : (name : List ℕ) → form.is_class_name name ≡ true → IsUtf8 name
name-utf8 name h = IsUtf8-from_ascii name (named-ascii name (and_parts _ _ h).1)

-- ---- keys

found_key : (es : List (String Global × Value)) → option_map string_bytes (find (λ key. is_unknown (string_bytes key)) (keys_of es)) ≡ find is_unknown (form.keys_of (members_view es))
found_key [] = refl
found_key (e ∷ es) = by_test (is_unknown (string_bytes e.0)) (found_key es)
  where
    by_test : (b : Bool) → option_map string_bytes (find (λ key. is_unknown (string_bytes key)) (keys_of es)) ≡ find is_unknown (form.keys_of (members_view es))
        → option_map string_bytes (cond b (Some e.0) (find (λ key. is_unknown (string_bytes key)) (keys_of es))) ≡ cond b (Some (string_bytes e.0)) (find is_unknown (form.keys_of (members_view es)))
    by_test true rest = refl
    by_test false rest = rest

-- the first key that no form has, among the members of a value
pub unknown-entries : (d : Data) (es : List (String Global × Value)) → Some (members_view es) ≡ as_object d
    → option_map string_bytes (find (λ key. is_unknown (string_bytes key)) (keys_of es)) ≡ unknown_key d
unfolding unknown_key
unknown-entries null es is = absurd (cc)
unknown-entries (boolean b) es is = absurd (cc)
unknown-entries (number n) es is = absurd (cc)
unknown-entries (string s) es is = absurd (cc)
unknown-entries (array ds) es is = absurd (cc)
unknown-entries (object ms) es is =
    let same : ms ≡ members_view es = cc in
    found_key es ∙ ap (λ m. find is_unknown (form.keys_of m)) (sym same)

mapped-passes : (ks : List (String Global)) (name : List ℕ) → Some name ≡ option_map string_bytes (find (λ key. is_unknown (string_bytes key)) ks) → is_unknown name ≡ true
mapped-passes [] name e = absurd (cc)
mapped-passes (k ∷ ks) name e = by_test (is_unknown (string_bytes k)) refl (mapped-passes ks name) e
  where
    by_test : (b : Bool) → is_unknown (string_bytes k) ≡ b → (Some name ≡ option_map string_bytes (find (λ key. is_unknown (string_bytes key)) ks) → is_unknown name ≡ true)
        → Some name ≡ option_map string_bytes (cond b (Some k) (find (λ key. is_unknown (string_bytes key)) ks)) → is_unknown name ≡ true
    by_test true passes rest h = let same : name ≡ string_bytes k = cc in ap is_unknown same ∙ passes
    by_test false fails rest h = rest h

made : (name : List ℕ) (o : Option (List ℕ)) → form.is_class_name name ≡ true → (IsSome o ↔ IsTrue (form.is_class_name name)) → IfSome o (λ n. n ≡ name) → o ≡ Some name
made name (Some n) named both same = ap Some same
made name None named both same = let some = both.1 named in absurd (cc)

-- the name that is made of the key that is found
pub unknown-name : (d : Data) (es : List (String Global × Value)) (name text : List ℕ) (o : Option (List ℕ)) → Some (members_view es) ≡ as_object d
    → Some name ≡ option_map string_bytes (find (λ key. is_unknown (string_bytes key)) (keys_of es)) → text ≡ name
    → (IsSome o ↔ IsTrue (form.is_class_name text)) → IfSome o (λ n. n ≡ text) → o ≡ unknown_key d
unknown-name d es name text o is found same both bytes =
    made text o (ap form.is_class_name same ∙ (and_parts _ _ (mapped-passes (keys_of es) name found)).0) both bytes
    ∙ ap Some same ∙ found ∙ unknown-entries d es is

-- what is found passes
pub found-passes : {X : Type 0} (test : X → Bool) (xs : List X) (x : X) → find test xs ≡ Some x → test x ≡ true
found-passes test [] x e = absurd (cc)
found-passes {X} test (y ∷ ys) x e = by_test (test y) refl (found-passes test ys x) e
  where
    by_test : (b : Bool) → test y ≡ b → (find test ys ≡ Some x → test x ≡ true) → cond b (Some y) (find test ys) ≡ Some x → test x ≡ true
    by_test true passes rest h = let same : y ≡ x = cc in ap test (sym same) ∙ passes
    by_test false fails rest h = rest h
