-- An object has each key once, so whether a key is there and how often it stands are one question.
use Rattle.std.proofs.Common.{◌≡◌, ℕ, ◌+◌, ◌==◌, ◌&&◌, ◌||◌, List, [], ◌∷◌, map, Bool, true, false, cond, Some, Bor, is_some, is_eq, String, Global, Less, string_bytes, string_cmp, refl, ap, sym, ◌∙◌, zero-add}
use Rattle.std.specs.Prelude.{count_by, bytes_eq}
use Rattle.std.specs.List.{list_all, list_any, AllByRecursion}
use Rattle.std.specs.List.Sorted.{IsStrictlySortedBy}
use Rattle.std.specs.Map.{keys_of}
use Rattle.std.proofs.lemmas.List.Sums.{sum_by-cons}
use Rattle.std.proofs.lemmas.Map.Keys.{sorted_head, sorted_tail}
use Rattle.std.proofs.lemmas.Map.Text.{is_eq-slice_cmp}
use Rattle.std.proofs.lemmas.Slice.Eq.{bytes_eq-Decides}
use Rattle.serde_json.specs.Data.{Data, null, boolean, number, string, array, object, Members, member}
use Rattle.serde_json.specs.Find.{get, get_member, as_object}
use Rattle.serde_json.specs.View.{view, members_view}
use Rattle.serde_json.specs.declared.value.Value.{Value}
use Rattle.serde_json.proofs.Views.{member_here, member_later}
use Rattle.class_config.specs.Forms as form

abbrev Entries : Type 0
Entries = List (String Global × Value)

-- how often a key stands in an object with a member more
pub count-member : (key other : List ℕ) (d : Data) (ms : Members)
    → count_by (bytes_eq key) (form.keys_of (member other d ms)) ≡ cond (bytes_eq key other) 1 0 + count_by (bytes_eq key) (form.keys_of ms)
count-member key other d ms = sum_by-cons (λ k. cond (bytes_eq key k) 1 0) other (form.keys_of ms)

pub count-same : (key other : List ℕ) (d : Data) (ms : Members) → bytes_eq key other ≡ true
    → count_by (bytes_eq key) (form.keys_of (member other d ms)) ≡ 1 + count_by (bytes_eq key) (form.keys_of ms)
count-same key other d ms same = count-member key other d ms ∙ ap (λ b. cond b 1 0 + count_by (bytes_eq key) (form.keys_of ms)) same

pub count-apart : (key other : List ℕ) (d : Data) (ms : Members) → bytes_eq key other ≡ false
    → count_by (bytes_eq key) (form.keys_of (member other d ms)) ≡ count_by (bytes_eq key) (form.keys_of ms)
count-apart key other d ms apart =
    count-member key other d ms ∙ ap (λ b. cond b 1 0 + count_by (bytes_eq key) (form.keys_of ms)) apart
    ∙ zero-add (count_by (bytes_eq key) (form.keys_of ms))

-- a key before all others stands nowhere among them
none_after : (key : List ℕ) (first : String Global) (es : Entries) → key ≡ string_bytes first → AllByRecursion (λ later. string_cmp first later ≡ Less) (keys_of es)
    → count_by (bytes_eq key) (form.keys_of (members_view es)) ≡ 0
none_after key first [] same below = refl
none_after key first (e ∷ es) same below =
    let apart : bytes_eq (string_bytes first) (string_bytes e.0) ≡ false = sym (is_eq-slice_cmp (string_bytes first) (string_bytes e.0)) ∙ ap is_eq below.0 in
    count-apart key (string_bytes e.0) (view e.1) (members_view es) (ap (λ k. bytes_eq k (string_bytes e.0)) same ∙ apart)
    ∙ none_after key first es same below.1

stands_once_at : (b : Bool) (key : List ℕ) (e : String Global × Value) (es : Entries) → bytes_eq key (string_bytes e.0) ≡ b
    → AllByRecursion (λ later. string_cmp e.0 later ≡ Less) (keys_of es)
    → is_some (get_member key (members_view es)) ≡ (count_by (bytes_eq key) (form.keys_of (members_view es)) == 1)
    → is_some (get_member key (members_view (e ∷ es))) ≡ (count_by (bytes_eq key) (form.keys_of (members_view (e ∷ es))) == 1)
stands_once_at true key e es test below rest =
    let same : key ≡ string_bytes e.0 = (bytes_eq-Decides key (string_bytes e.0)).0 test in
    let once : count_by (bytes_eq key) (form.keys_of (members_view (e ∷ es))) ≡ 1 =
    count-same key (string_bytes e.0) (view e.1) (members_view es) test ∙ ap (λ n. 1 + n) (none_after key e.0 es same below) in
    ap is_some (member_here key e es same) ∙ sym (ap (λ n. n == 1) once)
stands_once_at false key e es test below rest =
    ap is_some (member_later key e es (λ same. let t : bytes_eq key (string_bytes e.0) ≡ true = (bytes_eq-Decides key (string_bytes e.0)).1 same in absurd (cc)))
    ∙ rest ∙ sym (ap (λ n. n == 1) (count-apart key (string_bytes e.0) (view e.1) (members_view es) test))

-- a key is there exactly where it stands once
pub stands_once : (key : List ℕ) (es : Entries) → IsStrictlySortedBy string_cmp (keys_of es)
    → is_some (get_member key (members_view es)) ≡ (count_by (bytes_eq key) (form.keys_of (members_view es)) == 1)
stands_once key [] sorted = refl
stands_once key (e ∷ es) sorted =
    stands_once_at _ key e es refl (sorted_head string_cmp e.0 (keys_of es) sorted) (stands_once key es (sorted_tail string_cmp e.0 (keys_of es) sorted))

-- each key that is asked for is there, and so stands once
each_once : (keys : List (Bor (List ℕ))) (es : Entries) → IsStrictlySortedBy string_cmp (keys_of es)
    → list_all (λ key. is_some (get_member key.now (members_view es))) keys
    ≡ list_all (λ key. count_by (bytes_eq key) (form.keys_of (members_view es)) == 1) (map (λ key. key.now) keys)
each_once [] es sorted = refl
each_once (key ∷ keys) es sorted =
    ap (λ b. b && list_all (λ key. is_some (get_member key.now (members_view es))) keys) (stands_once key.now es sorted)
    ∙ ap (λ rest. (count_by (bytes_eq key.now) (form.keys_of (members_view es)) == 1) && rest) (each_once keys es sorted)

any_of : (name : List ℕ) (keys : List (Bor (List ℕ))) → list_any (λ key. bytes_eq name key.now) keys ≡ list_any (bytes_eq name) (map (λ key. key.now) keys)
any_of name [] = refl
any_of name (key ∷ keys) = ap (λ rest. bytes_eq name key.now || rest) (any_of name keys)

-- each key of the map is asked for
each_asked : (keys : List (Bor (List ℕ))) (es : Entries) → list_all (λ name. list_any (λ key. bytes_eq (string_bytes name) key.now) keys) (keys_of es)
    ≡ list_all (λ name. list_any (bytes_eq name) (map (λ key. key.now) keys)) (form.keys_of (members_view es))
each_asked keys [] = refl
each_asked keys (e ∷ es) =
    ap (λ b. b && list_all (λ name. list_any (λ key. bytes_eq (string_bytes name) key.now) keys) (keys_of es)) (any_of (string_bytes e.0) keys)
    ∙ ap (λ rest. list_any (bytes_eq (string_bytes e.0)) (map (λ key. key.now) keys) && rest) (each_asked keys es)

-- both tests over the map of an object
pub has_keys-entries : (d : Data) (keys : List (Bor (List ℕ))) (es : Entries) (asked each : Bool) → Some (members_view es) ≡ as_object d
    → IsStrictlySortedBy string_cmp (keys_of es)
    → asked ≡ list_all (λ name. list_any (λ key. bytes_eq (string_bytes name) key.now) keys) (keys_of es)
    → each ≡ list_all (λ key. is_some (get key.now d)) keys → (asked && each) ≡ form.has_keys (map (λ key. key.now) keys) d
has_keys-entries null keys es asked each is sorted asks has = absurd (cc)
has_keys-entries (boolean b) keys es asked each is sorted asks has = absurd (cc)
has_keys-entries (number n) keys es asked each is sorted asks has = absurd (cc)
has_keys-entries (string s) keys es asked each is sorted asks has = absurd (cc)
has_keys-entries (array ds) keys es asked each is sorted asks has = absurd (cc)
has_keys-entries (object ms) keys es asked each is sorted asks has =
    let same : ms ≡ members_view es = cc in
    let names : List (List ℕ) = map (λ (key : Bor (List ℕ)). key.now) keys in
    let there = has ∙ ap (λ m. list_all (λ key. is_some (get_member key.now m)) keys) same ∙ each_once keys es sorted in
    ap (λ b. b && each) (asks ∙ each_asked keys es)
    ∙ ap (λ b. list_all (λ name. list_any (bytes_eq name) names) (form.keys_of (members_view es)) && b) there
    ∙ ap (λ m. form.has_keys names (object m)) (sym same)
