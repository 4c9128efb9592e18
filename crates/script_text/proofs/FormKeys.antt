-- The test of a form's keys: an object has each key once, so whether a key is there and how often it stands are one question,
-- and where it has as many members as there are keys, and each of these, it has no other.
use Rattle.std.proofs.Common.{◌≡◌, ◌==◌, ◌&&◌, ℕ, suc, List, [], ◌∷◌, map, length, Bool, true, false, Some, is_some, String, Global, string_cmp, refl, ap, sym, ◌∙◌, eq-eqb}
use Rattle.std.specs.Prelude.{count_by, bytes_eq}
use Rattle.std.specs.List.{list_all}
use Rattle.std.specs.List.Sorted.{IsStrictlySortedBy}
use Rattle.std.specs.Map.{keys_of}
use Rattle.std.proofs.lemmas.List.{length-map}
use Rattle.std.proofs.lemmas.Bool.Decides.{Decides-eqb}
use Rattle.serde_json.specs.Data.{Data, null, boolean, number, string, array, object, Members}
use Rattle.serde_json.specs.Find.{get, get_member, as_object}
use Rattle.serde_json.specs.View.{members_view}
use Rattle.serde_json.specs.declared.value.Value.{Value}
use Rattle.class_config.specs.Forms as form
use Rattle.class_config.proofs.FormKeys.{stands_once}
use Rattle.script_text.specs.declared.causes.keys.Key.{Key}
use Rattle.script_text.specs.declared.table.Form.{Form}
use Rattle.script_text.specs.Table.{key_text, texts_of}
use Rattle.script_text.specs.Table as table
use Rattle.script_text.proofs.Members.{are_distinct, are_asked, held, members-as_many, asked_by_count}
use Rattle.script_text.proofs.FormTable.{texts_distinct}

-- each key that is asked for is there, and so stands once
each_once : (keys : List Key) (es : List (String Global × Value)) → IsStrictlySortedBy string_cmp (keys_of es)
    → list_all (λ k. is_some (get_member (key_text k) (members_view es))) keys
    ≡ list_all (λ key. count_by (bytes_eq key) (form.keys_of (members_view es)) == 1) (map key_text keys)
each_once [] es sorted = refl
each_once (k ∷ ks) es sorted =
    ap (λ b. b && list_all (λ l. is_some (get_member (key_text l) (members_view es))) ks) (stands_once (key_text k) es sorted)
    ∙ ap (λ rest. (count_by (bytes_eq (key_text k)) (form.keys_of (members_view es)) == 1) && rest) (each_once ks es sorted)

never : (b : Bool) → (b && false) ≡ false
never true = refl
never false = refl

-- as many members as keys
abbrev counted : List (List ℕ) → Members → Bool
counted keys ms = length (form.keys_of ms) == length keys

entries_length : (es : List (String Global × Value)) → length es ≡ length (form.keys_of (members_view es))
entries_length [] = refl
entries_length (e ∷ es) = ap suc (entries_length es)

-- for distinct keys that is the test of the keys
by_count : (keys : List (List ℕ)) (ms : Members) → are_distinct keys ≡ true → (counted keys ms && list_all (λ key. count_by (bytes_eq key) (form.keys_of ms) == 1) keys) ≡ form.has_keys keys (object ms)
by_count keys ms distinct = by_tests (list_all (λ key. count_by (bytes_eq key) (form.keys_of ms) == 1) keys) (are_asked keys ms) (counted keys ms) refl refl refl
  where
    by_tests : (once asked many : Bool) → list_all (λ key. count_by (bytes_eq key) (form.keys_of ms) == 1) keys ≡ once → are_asked keys ms ≡ asked → counted keys ms ≡ many
        → (many && once) ≡ (asked && once)
    by_tests false asked many o a m = never many ∙ sym (never asked)
    by_tests true true true o a m = refl
    by_tests true false false o a m = refl
    by_tests true true false o a m =
        let same : length (form.keys_of ms) ≡ length keys = (let all = held keys ms distinct a o in members-as_many keys all.values ms all.are) in
        let t : counted keys ms ≡ true = eq-eqb (length (form.keys_of ms)) (length keys) same in absurd (cc)
    by_tests true false true o a m =
        let t : are_asked keys ms ≡ true = asked_by_count keys ms distinct ((Decides-eqb (length (form.keys_of ms)) (length keys)).0 m) o in absurd (cc)

-- the same test over the map of an object
pub has_keys-entries : (version : ℕ) (f : Form) (d : Data) (es : List (String Global × Value)) (many each : Bool) → Some (members_view es) ≡ as_object d
    → IsStrictlySortedBy string_cmp (keys_of es) → many ≡ (length es == length (table.keys_of version f))
    → each ≡ list_all (λ k. is_some (get (key_text k) d)) (table.keys_of version f) → (many && each) ≡ form.has_keys (texts_of version f) d
has_keys-entries version f null es many each is sorted counts has = absurd (cc)
has_keys-entries version f (boolean b) es many each is sorted counts has = absurd (cc)
has_keys-entries version f (number n) es many each is sorted counts has = absurd (cc)
has_keys-entries version f (string s) es many each is sorted counts has = absurd (cc)
has_keys-entries version f (array ds) es many each is sorted counts has = absurd (cc)
has_keys-entries version f (object ms) es many each is sorted counts has =
    let keys = table.keys_of version f in
    let texts = texts_of version f in
    let same : ms ≡ members_view es = cc in
    let there = has ∙ ap (λ m. list_all (λ k. is_some (get_member (key_text k) m)) keys) same ∙ each_once keys es sorted in
    let lengths : (length es == length keys) ≡ counted texts (members_view es) =
    ap (λ n. n == length keys) (entries_length es) ∙ ap (λ n. length (form.keys_of (members_view es)) == n) (sym (length-map keys key_text)) in
    ap (λ b. b && each) (counts ∙ lengths)
    ∙ ap (λ b. counted texts (members_view es) && b) there
    ∙ by_count texts (members_view es) (texts_distinct version f)
    ∙ ap (λ m. form.has_keys texts (object m)) (sym same)
