-- Objects with exactly the keys of a list: how the test of the keys, and the members in any order, go together.
use Rattle.std.proofs.Common.{◌≡◌, ℕ, suc, ◌+◌, ◌==◌, ◌&&◌, ◌||◌, List, [], ◌∷◌, length, cond, Bool, true, false, not, Option, Some, None, is_some, refl, ap, sym, subst, ◌∙◌, arith, eq-eqb, zero-add}
use Rattle.std.specs.Prelude.{⊤, bytes_eq, count_by}
use Rattle.std.specs.List.{list_all, list_any}
use Rattle.std.specs.declared.cmp.Ordering.{Ordering}
use Rattle.std.specs.declared.cmp.Ordering.TheVariants.{Less, Equal, Greater}
use Rattle.std.specs.Ordering.{nat_cmp, match_ordering}
use Rattle.std.specs.Cmp.{Equal-is}
use Rattle.std.specs.Cmp.Lexicographic.{slice_cmp}
use Rattle.std.proofs.lemmas.Bool.{and_parts, and_from, or_right}
use Rattle.std.proofs.lemmas.Bool.Decides.{Decides-eqb}
use Rattle.std.proofs.lemmas.Map.Lookups.{exact_bytes}
use Rattle.std.proofs.lemmas.Map.Text.{is_eq-slice_cmp}
use Rattle.std.proofs.lemmas.Slice.Eq.{bytes_eq-Decides}
use Rattle.serde_json.specs.Data.{Data, null, boolean, number, string, array, object, Members, no_members, member}
use Rattle.serde_json.specs.Find.{get, get_member}
use Rattle.class_config.specs.Forms.{has_keys, keys_of}
use Rattle.class_config.proofs.FormKeys.{count-member, count-same, count-apart}
use Rattle.script_text.specs.Grammar.{joined, AreMembers, IsObject}

-- ---- what stands under a key

same_order : (key : List ℕ) → slice_cmp nat_cmp key key ≡ Equal
same_order key = (Equal-is (slice_cmp nat_cmp key key)).0 (is_eq-slice_cmp key key ∙ (bytes_eq-Decides key key).1 refl)

pub get-here : (key : List ℕ) (d : Data) (ms : Members) → get_member key (member key d ms) ≡ Some d
get-here key d ms = ap (λ o. match_ordering o (get_member key ms) (Some d) (get_member key ms)) (same_order key)

pub get-there : (key other : List ℕ) (d : Data) (ms : Members) → (key ≡ other → ⊥) → get_member key (member other d ms) ≡ get_member key ms
get-there key other d ms differ = by_order (slice_cmp nat_cmp key other) (exact_bytes key other)
  where
    by_order : (o : Ordering) → (o ≡ Equal → key ≡ other) → match_ordering o (get_member key ms) (Some d) (get_member key ms) ≡ get_member key ms
    by_order Less tells = refl
    by_order Equal tells = absurd (differ (tells refl))
    by_order Greater tells = refl

-- a key is this one or another
pub by_key : {A : Type 0} (key other : List ℕ) → (key ≡ other → A) → ((key ≡ other → ⊥) → A) → A
by_key {A} key other same differ = by_test (bytes_eq key other) (bytes_eq-Decides key other).0 (bytes_eq-Decides key other).1
  where
    by_test : (b : Bool) → (b ≡ true → key ≡ other) → (key ≡ other → b ≡ true) → A
    by_test true tells told = same (tells refl)
    by_test false tells told = differ (λ e. let t : false ≡ true = told e in absurd (cc))

eq_other : (key other : List ℕ) → (key ≡ other → ⊥) → bytes_eq key other ≡ false
eq_other key other differ = by_test (bytes_eq key other) (bytes_eq-Decides key other).0
  where
    by_test : (b : Bool) → (b ≡ true → key ≡ other) → b ≡ false
    by_test true tells = absurd (differ (tells refl))
    by_test false tells = refl

eq_same : (key : List ℕ) → bytes_eq key key ≡ true
eq_same key = (bytes_eq-Decides key key).1 refl

-- ---- how often a key stands

abbrev count_of : List ℕ → Members → ℕ
count_of key ms = count_by (bytes_eq key) (keys_of ms)

swap : (a b n : ℕ) → a + (b + n) ≡ b + (a + n)
swap a b n = omega arith

count-joined : (before after : Members) (key other : List ℕ) (d : Data)
    → count_of key (joined before (member other d after)) ≡ cond (bytes_eq key other) 1 0 + count_of key (joined before after)
count-joined no_members after key other d = count-member key other d after
count-joined (member k e ms) after key other d =
    count-member key k e (joined ms (member other d after)) ∙ ap (λ n. cond (bytes_eq key k) 1 0 + n) (count-joined ms after key other d)
    ∙ swap (cond (bytes_eq key k) 1 0) (cond (bytes_eq key other) 1 0) (count_of key (joined ms after))
    ∙ ap (λ n. cond (bytes_eq key other) 1 0 + n) (sym (count-member key k e (joined ms after)))

count-here : (before after : Members) (key : List ℕ) (d : Data) → count_of key (joined before (member key d after)) ≡ 1 + count_of key (joined before after)
count-here before after key d = count-joined before after key key d ∙ ap (λ b. cond b 1 0 + count_of key (joined before after)) (eq_same key)

count-other : (before after : Members) (key other : List ℕ) (d : Data) → (key ≡ other → ⊥) → count_of key (joined before (member other d after)) ≡ count_of key (joined before after)
count-other before after key other d differ =
    count-joined before after key other d ∙ ap (λ b. cond b 1 0 + count_of key (joined before after)) (eq_other key other differ)
    ∙ zero-add (count_of key (joined before after))

-- a key that is not found stands nowhere
count-none : (key : List ℕ) (ms : Members) → get_member key ms ≡ None → count_of key ms ≡ 0
count-none key no_members none = refl
count-none key (member k d ms) none =
    by_key key k
    (λ same. let found : get_member key (member k d ms) ≡ Some d = ap (λ q. get_member q (member k d ms)) same ∙ get-here k d ms in absurd (cc))
    (λ differ. count-apart key k d ms (eq_other key k differ) ∙ count-none key ms (sym (get-there key k d ms differ) ∙ none))

some_by_count : (key : List ℕ) (ms : Members) → count_of key ms ≡ 1 → is_some (get_member key ms) ≡ true
some_by_count key ms one = by_found (get_member key ms) refl
  where
    by_found : (o : Option Data) → get_member key ms ≡ o → is_some o ≡ true
    by_found (Some d) e = refl
    by_found None e = let none : count_of key ms ≡ 0 = count-none key ms e in absurd (omega (arith, none, one))

get-joined-other : (before after : Members) (key other : List ℕ) (d : Data) → (key ≡ other → ⊥)
    → get_member key (joined before (member other d after)) ≡ get_member key (joined before after)
get-joined-other no_members after key other d differ = get-there key other d after differ
get-joined-other (member k e ms) after key other d differ =
    ap (λ rest. match_ordering (slice_cmp nat_cmp key k) rest (Some e) rest) (get-joined-other ms after key other d differ)

get-joined-here : (before after : Members) (key : List ℕ) (d : Data) → get_member key (joined before after) ≡ None
    → get_member key (joined before (member key d after)) ≡ Some d
get-joined-here no_members after key d none = get-here key d after
get-joined-here (member k e ms) after key d none =
    by_key key k
    (λ same. let found : get_member key (member k e (joined ms after)) ≡ Some e =
    ap (λ q. get_member q (member k e (joined ms after))) same ∙ get-here k e (joined ms after) in absurd (cc))
    (λ differ. get-there key k e (joined ms (member key d after)) differ
    ∙ get-joined-here ms after key d (sym (get-there key k e (joined ms after) differ) ∙ none))

-- ---- distinct keys

-- the key is none of these
abbrev pub is_other : List ℕ → List (List ℕ) → Bool
is_other key [] = true
is_other key (other ∷ others) = not (bytes_eq key other) && is_other key others

abbrev pub are_distinct : List (List ℕ) → Bool
are_distinct [] = true
are_distinct (key ∷ keys) = is_other key keys && are_distinct keys

other_head : (key other : List ℕ) (others : List (List ℕ)) → is_other key (other ∷ others) ≡ true → (key ≡ other → ⊥) × (is_other key others ≡ true)
other_head key other others h =
    let parts = and_parts (not (bytes_eq key other)) (is_other key others) h in (
      λ same. let t : bytes_eq key other ≡ true = (bytes_eq-Decides key other).1 same in
          let f : not (bytes_eq key other) ≡ false = ap not t in absurd (cc),
      parts.1,
    )

-- ---- the values under keys

-- under each key stands the value in its place
abbrev pub AreUnder : List (List ℕ) → List Data → Members → Type 0
AreUnder [] [] ms = ⊤
AreUnder (key ∷ keys) (d ∷ ds) ms = (get_member key ms ≡ Some d) × AreUnder keys ds ms
AreUnder [] (d ∷ ds) ms = ⊥
AreUnder (key ∷ keys) [] ms = ⊥

-- a member more under another key changes nothing
under-more : (keys : List (List ℕ)) (ds : List Data) (before after : Members) (other : List ℕ) (d : Data) → is_other other keys ≡ true
    → AreUnder keys ds (joined before after) → AreUnder keys ds (joined before (member other d after))
under-more [] [] before after other d apart under = tt
under-more [] (e ∷ ds) before after other d apart under = under
under-more (key ∷ keys) [] before after other d apart under = under
under-more (key ∷ keys) (e ∷ ds) before after other d apart under =
    let parts = other_head other key keys apart in
    (get-joined-other before after key other d (λ same. parts.0 (sym same)) ∙ under.0, under-more keys ds before after other d parts.1 under.1)

once-same : (keys : List (List ℕ)) (before after : Members) (other : List ℕ) (d : Data) → is_other other keys ≡ true
    → list_all (λ key. count_of key (joined before (member other d after)) == 1) keys ≡ list_all (λ key. count_of key (joined before after) == 1) keys
once-same [] before after other d apart = refl
once-same (key ∷ keys) before after other d apart =
    let parts = other_head other key keys apart in
    ap (λ n. (n == 1) && list_all (λ k. count_of k (joined before (member other d after)) == 1) keys)
    (count-other before after key other d (λ same. parts.0 (sym same)))
    ∙ ap (λ rest. (count_of key (joined before after) == 1) && rest) (once-same keys before after other d parts.1)

-- ---- keys that are asked for

keep-less : (P : List ℕ → Bool) (before after : Members) (other : List ℕ) (d : Data) → list_all P (keys_of (joined before (member other d after))) ≡ true
    → list_all P (keys_of (joined before after)) ≡ true
keep-less P no_members after other d all = (and_parts (P other) (list_all P (keys_of after)) all).1
keep-less P (member k e ms) after other d all =
    let parts = and_parts (P k) (list_all P (keys_of (joined ms (member other d after)))) all in
    and_from (P k) (list_all P (keys_of (joined ms after))) parts.0 (keep-less P ms after other d parts.1)

keep-more : (P : List ℕ → Bool) (before after : Members) (other : List ℕ) (d : Data) → P other ≡ true → list_all P (keys_of (joined before after)) ≡ true
    → list_all P (keys_of (joined before (member other d after))) ≡ true
keep-more P no_members after other d here all = and_from (P other) (list_all P (keys_of after)) here all
keep-more P (member k e ms) after other d here all =
    let parts = and_parts (P k) (list_all P (keys_of (joined ms after))) all in
    and_from (P k) (list_all P (keys_of (joined ms (member other d after)))) parts.0 (keep-more P ms after other d here parts.1)

or_rest : (a b : Bool) → a ≡ false → (a || b) ≡ true → b ≡ true
or_rest true b e f = absurd (cc)
or_rest false b e f = f

abbrev pub are_asked : List (List ℕ) → Members → Bool
are_asked keys ms = list_all (λ key. list_any (bytes_eq key) keys) (keys_of ms)

asked-wider : (key : List ℕ) (keys : List (List ℕ)) (ms : Members) → are_asked keys ms ≡ true → are_asked (key ∷ keys) ms ≡ true
asked-wider key keys no_members all = refl
asked-wider key keys (member k d ms) all =
    let parts = and_parts (list_any (bytes_eq k) keys) (are_asked keys ms) all in
    and_from (bytes_eq k key || list_any (bytes_eq k) keys) (are_asked (key ∷ keys) ms)
    (or_right (bytes_eq k key) (list_any (bytes_eq k) keys) parts.0) (asked-wider key keys ms parts.1)

asked-less : (key : List ℕ) (keys : List (List ℕ)) (ms : Members) → count_of key ms ≡ 0 → are_asked (key ∷ keys) ms ≡ true → are_asked keys ms ≡ true
asked-less key keys no_members none all = refl
asked-less key keys (member k d ms) none all =
    let parts = and_parts (bytes_eq k key || list_any (bytes_eq k) keys) (are_asked (key ∷ keys) ms) all in
    by_key key k
    (λ same. let one : count_of key (member k d ms) ≡ 1 + count_of key ms = count-same key k d ms ((bytes_eq-Decides key k).1 same) in absurd (omega (arith, one, none)))
    (λ differ. let apart : bytes_eq k key ≡ false = eq_other k key (λ e. differ (sym e)) in
    let rest : count_of key ms ≡ 0 = sym (count-apart key k d ms (eq_other key k differ)) ∙ none in
    and_from (list_any (bytes_eq k) keys) (are_asked keys ms) (or_rest (bytes_eq k key) (list_any (bytes_eq k) keys) apart parts.0) (asked-less key keys ms rest parts.1))

-- ---- from the members to what is found

pub members-none : (keys : List (List ℕ)) (ds : List Data) (ms : Members) (other : List ℕ) → AreMembers keys ds ms → is_other other keys ≡ true
    → get_member other ms ≡ None
members-none [] [] ms other are apart = ap (get_member other) are
members-none [] (d ∷ ds) ms other are apart = absurd are
members-none (key ∷ keys) [] ms other are apart = absurd are
members-none (key ∷ keys) (d ∷ ds) ms other are apart =
    let parts = other_head other key keys apart in
    ap (get_member other) are.2 ∙ get-joined-other are.0 are.1 other key d parts.0
    ∙ members-none keys ds (joined are.0 are.1) other are.3 parts.1

pub members-under : (keys : List (List ℕ)) (ds : List Data) (ms : Members) → are_distinct keys ≡ true → AreMembers keys ds ms → AreUnder keys ds ms
members-under [] [] ms distinct are = tt
members-under [] (d ∷ ds) ms distinct are = are
members-under (key ∷ keys) [] ms distinct are = are
members-under (key ∷ keys) (d ∷ ds) ms distinct are =
    let parts = and_parts (is_other key keys) (are_distinct keys) distinct in
    let rest = members-under keys ds (joined are.0 are.1) parts.1 are.3 in
    let none = members-none keys ds (joined are.0 are.1) key are.3 parts.0 in
    let Under : Members → Type 0 = λ m. AreUnder (key ∷ keys) (d ∷ ds) m in
    let there : Under (joined are.0 (member key d are.1)) = (get-joined-here are.0 are.1 key d none, under-more keys ds are.0 are.1 key d parts.0 rest) in
    rw are.2 there

members-asked : (keys : List (List ℕ)) (ds : List Data) (ms : Members) → AreMembers keys ds ms → are_asked keys ms ≡ true
members-asked [] [] ms are = ap (λ m. are_asked [] m) are
members-asked [] (d ∷ ds) ms are = absurd are
members-asked (key ∷ keys) [] ms are = absurd are
members-asked (key ∷ keys) (d ∷ ds) ms are =
    let P : List ℕ → Bool = λ k. list_any (bytes_eq k) (key ∷ keys) in
    let rest = asked-wider key keys (joined are.0 are.1) (members-asked keys ds (joined are.0 are.1) are.3) in
    ap (λ m. list_all P (keys_of m)) are.2 ∙ keep-more P are.0 are.1 key d (ap (λ b. b || list_any (bytes_eq key) keys) (eq_same key)) rest

members-once : (keys : List (List ℕ)) (ds : List Data) (ms : Members) → are_distinct keys ≡ true → AreMembers keys ds ms
    → list_all (λ key. count_of key ms == 1) keys ≡ true
members-once [] ds ms distinct are = refl
members-once (key ∷ keys) [] ms distinct are = absurd are
members-once (key ∷ keys) (d ∷ ds) ms distinct are =
    let parts = and_parts (is_other key keys) (are_distinct keys) distinct in
    let rest = joined are.0 are.1 in
    let none : count_of key rest ≡ 0 = count-none key rest (members-none keys ds rest key are.3 parts.0) in
    let one : count_of key ms ≡ 1 = ap (count_of key) are.2 ∙ count-here are.0 are.1 key d ∙ ap (λ n. 1 + n) none in
    let Once : Members → Type 0 = λ m. list_all (λ k. count_of k m == 1) keys ≡ true in
    let others : Once ms = subst Once (sym are.2) (once-same keys are.0 are.1 key d parts.0 ∙ members-once keys ds rest parts.1 are.3) in
    and_from (count_of key ms == 1) (list_all (λ k. count_of k ms == 1) keys) (eq-eqb (count_of key ms) 1 one) others

-- ---- from what is found to the members

-- a key that is found, with its value and what stands before and after it
record Found (key : List ℕ) (ms : Members) : Type 0 where
  before : Members
  after : Members
  value : Data
  is : ms ≡ joined before (member key value after)
  found : get_member key ms ≡ Some value

find_key : (key : List ℕ) (ms : Members) → is_some (get_member key ms) ≡ true → Found key ms
find_key key no_members some = absurd (cc)
find_key key (member k d ms) some =
    by_key key k
    (λ same. record {
      before = no_members;
      after = ms;
      value = d;
      is = ap (λ q. member q d ms) (sym same);
      found = ap (λ q. get_member q (member k d ms)) same ∙ get-here k d ms;
    })
    (λ differ. let there = get-there key k d ms differ in
    let rest = find_key key ms (ap is_some (sym there) ∙ some) in record {
      before = member k d rest.before;
      after = rest.after;
      value = rest.value;
      is = ap (member k d) rest.is;
      found = there ∙ rest.found;
    })

no_member : (ms : Members) → are_asked [] ms ≡ true → ms ≡ no_members
no_member no_members all = refl
no_member (member key d ms) all = absurd (cc)

-- the members of an object whose keys are exactly these distinct keys
pub record Held (keys : List (List ℕ)) (ms : Members) : Type 0 where
  pub values : List Data
  pub are : AreMembers keys values ms
  pub under : AreUnder keys values ms

pub held : (keys : List (List ℕ)) (ms : Members) → are_distinct keys ≡ true → are_asked keys ms ≡ true
    → list_all (λ key. count_of key ms == 1) keys ≡ true → Held keys ms
held [] ms distinct all ones = record { values = []; are = no_member ms all; under = tt }
held (key ∷ keys) ms distinct all ones =
    let apart = and_parts (is_other key keys) (are_distinct keys) distinct in
    let first = and_parts (count_of key ms == 1) (list_all (λ k. count_of k ms == 1) keys) ones in
    let one : count_of key ms ≡ 1 = (Decides-eqb (count_of key ms) 1).0 first.0 in
    let found = find_key key ms (some_by_count key ms one) in
    let rest = joined found.before found.after in
    let P : List ℕ → Bool = λ k. list_any (bytes_eq k) (key ∷ keys) in
    let counted : count_of key ms ≡ 1 + count_of key rest = ap (count_of key) found.is ∙ count-here found.before found.after key found.value in
    let none : count_of key rest ≡ 0 = omega (arith, counted, one) in
    let Asked : Members → Type 0 = λ m. list_all P (keys_of m) ≡ true in
    let fewer = keep-less P found.before found.after key found.value (subst Asked found.is all) in
    let Once : Members → Type 0 = λ m. list_all (λ k. count_of k m == 1) keys ≡ true in
    let others = sym (once-same keys found.before found.after key found.value apart.0) ∙ subst Once found.is first.1 in
    let more = held keys rest apart.1 (asked-less key keys rest none fewer) others in
    let more_under = under-more keys more.values found.before found.after key found.value apart.0 more.under in
    let Under : Members → Type 0 = λ m. AreUnder keys more.values m in
    record {
      values = found.value ∷ more.values;
      are = (found.before, found.after, found.is, more.are);
      under = (found.found, subst Under (sym found.is) more_under);
    }

-- ---- as many members as keys

length-joined : (before after : Members) (key : List ℕ) (d : Data) → length (keys_of (joined before (member key d after))) ≡ suc (length (keys_of (joined before after)))
length-joined no_members after key d = refl
length-joined (member k e ms) after key d = ap suc (length-joined ms after key d)

pub members-as_many : (keys : List (List ℕ)) (ds : List Data) (ms : Members) → AreMembers keys ds ms → length (keys_of ms) ≡ length keys
members-as_many [] [] ms are = ap (λ m. length (keys_of m)) are
members-as_many [] (d ∷ ds) ms are = absurd are
members-as_many (key ∷ keys) [] ms are = absurd are
members-as_many (key ∷ keys) (d ∷ ds) ms are =
    ap (λ m. length (keys_of m)) are.2 ∙ length-joined are.0 are.1 key d ∙ ap suc (members-as_many keys ds (joined are.0 are.1) are.3)

-- where each of as many distinct keys stands once, no other does
pub asked_by_count : (keys : List (List ℕ)) (ms : Members) → are_distinct keys ≡ true → length (keys_of ms) ≡ length keys
    → list_all (λ key. count_of key ms == 1) keys ≡ true → are_asked keys ms ≡ true
asked_by_count [] no_members distinct many ones = refl
asked_by_count [] (member k d ms) distinct many ones = absurd (omega (arith, many))
asked_by_count (key ∷ keys) ms distinct many ones =
    let apart = and_parts (is_other key keys) (are_distinct keys) distinct in
    let first = and_parts (count_of key ms == 1) (list_all (λ k. count_of k ms == 1) keys) ones in
    let found = find_key key ms (some_by_count key ms ((Decides-eqb (count_of key ms) 1).0 first.0)) in
    let rest = joined found.before found.after in
    let fewer : length (keys_of ms) ≡ suc (length (keys_of rest)) =
    ap (λ m. length (keys_of m)) found.is ∙ length-joined found.before found.after key found.value in
    let Once : Members → Type 0 = λ m. list_all (λ k. count_of k m == 1) keys ≡ true in
    let others = sym (once-same keys found.before found.after key found.value apart.0) ∙ subst Once found.is first.1 in
    let asked = asked-wider key keys rest (asked_by_count keys rest apart.1 (omega (arith, fewer, many)) others) in
    let P : List ℕ → Bool = λ k. list_any (bytes_eq k) (key ∷ keys) in
    ap (λ m. list_all P (keys_of m)) found.is
    ∙ keep-more P found.before found.after key found.value (ap (λ b. b || list_any (bytes_eq key) keys) (eq_same key)) asked

-- ---- objects

-- under each key of the value stands the value in its place
abbrev pub Stand : List (List ℕ) → List Data → Data → Type 0
Stand [] [] d = ⊤
Stand (key ∷ keys) (v ∷ vs) d = (get key d ≡ Some v) × Stand keys vs d
Stand [] (v ∷ vs) d = ⊥
Stand (key ∷ keys) [] d = ⊥

stand : (keys : List (List ℕ)) (ds : List Data) (ms : Members) → AreUnder keys ds ms → Stand keys ds (object ms)
stand [] [] ms under = tt
stand [] (d ∷ ds) ms under = under
stand (key ∷ keys) [] ms under = under
stand (key ∷ keys) (d ∷ ds) ms under = (under.0, stand keys ds ms under.1)

-- a value with exactly these keys is an object of them
pub record Opened (keys : List (List ℕ)) (d : Data) : Type 0 where
  pub values : List Data
  pub is : IsObject keys values d
  pub stand : Stand keys values d

pub open_keys : (keys : List (List ℕ)) (d : Data) → are_distinct keys ≡ true → has_keys keys d ≡ true → Opened keys d
open_keys keys null distinct has = absurd (cc)
open_keys keys (boolean b) distinct has = absurd (cc)
open_keys keys (number n) distinct has = absurd (cc)
open_keys keys (string s) distinct has = absurd (cc)
open_keys keys (array ds) distinct has = absurd (cc)
open_keys keys (object ms) distinct has =
    let parts = and_parts (are_asked keys ms) (list_all (λ key. count_of key ms == 1) keys) has in
    let all = held keys ms distinct parts.0 parts.1 in
    record { values = all.values; is = record { members = ms; is = refl; are = all.are }; stand = stand keys all.values ms all.under }

-- an object of these keys has them, and the values stand under them
pub has_keys-object : (keys : List (List ℕ)) (vs : List Data) (d : Data) → are_distinct keys ≡ true → IsObject keys vs d → has_keys keys d ≡ true
has_keys-object keys vs d distinct o =
    ap (has_keys keys) o.is
    ∙ and_from (are_asked keys o.members) (list_all (λ key. count_of key o.members == 1) keys) (members-asked keys vs o.members o.are)
    (members-once keys vs o.members distinct o.are)

pub stand-object : (keys : List (List ℕ)) (vs : List Data) (d : Data) → are_distinct keys ≡ true → IsObject keys vs d → Stand keys vs d
stand-object keys vs d distinct o =
    let Stands : Data → Type 0 = λ e. Stand keys vs e in
    let there : Stands (object o.members) = stand keys vs o.members (members-under keys vs o.members distinct o.are) in
    rw o.is there

-- it has no other key
pub get-object-none : (keys : List (List ℕ)) (vs : List Data) (d : Data) (other : List ℕ) → IsObject keys vs d → is_other other keys ≡ true → get other d ≡ None
get-object-none keys vs d other o apart = ap (get other) o.is ∙ members-none keys vs o.members other o.are apart

pub lacks : (keys : List (List ℕ)) (key : List ℕ) (d : Data) → get key d ≡ None → is_other key keys ≡ false → has_keys keys d ≡ false
lacks keys key null none there = refl
lacks keys key (boolean b) none there = refl
lacks keys key (number n) none there = refl
lacks keys key (string s) none there = refl
lacks keys key (array ds) none there = refl
lacks keys key (object ms) none there = no_all (are_asked keys ms) (list_all (λ k. count_of k ms == 1) keys) (missing keys there)
  where
    no_all : (asked all : Bool) → all ≡ false → (asked && all) ≡ false
    no_all true all e = e
    no_all false all e = refl

    missing : (ks : List (List ℕ)) → is_other key ks ≡ false → list_all (λ k. count_of k ms == 1) ks ≡ false
    missing [] e = absurd (cc)
    missing (k ∷ ks) e =
        by_key key k
        (λ same. ap (λ q. (count_of q ms == 1) && list_all (λ l. count_of l ms == 1) ks) (sym same)
        ∙ ap (λ n. (n == 1) && list_all (λ l. count_of l ms == 1) ks) (count-none key ms none))
        (λ differ. let t : bytes_eq key k ≡ false = eq_other key k differ in
        no_all (count_of k ms == 1) (list_all (λ l. count_of l ms == 1) ks) (missing ks (ap (λ b. not b && is_other key ks) (sym t) ∙ e)))

-- an object of these keys has not exactly those keys, where one of those is none of these
pub has_keys-other : (keys others : List (List ℕ)) (vs : List Data) (d : Data) (key : List ℕ) → IsObject keys vs d → is_other key keys ≡ true
    → is_other key others ≡ false → has_keys others d ≡ false
has_keys-other keys others vs d key o apart there = lacks others key d (get-object-none keys vs d key o apart) there

-- ---- objects of one to four keys

pub record One (k : List ℕ) (d : Data) : Type 0 where
  pub v : Data
  pub is : IsObject (k ∷ []) (v ∷ []) d
  pub at : get k d ≡ Some v

pub open_one : (k : List ℕ) (d : Data) → has_keys (k ∷ []) d ≡ true → One k d
open_one k d has = by_values (opened.values) opened.is opened.stand
  where
    opened : Opened (k ∷ []) d
    opened = open_keys (k ∷ []) d refl has

    by_values : (vs : List Data) → IsObject (k ∷ []) vs d → Stand (k ∷ []) vs d → One k d
    by_values (v ∷ []) is at = record { v = v; is = is; at = at.0 }
    by_values [] is at = absurd at
    by_values (v ∷ w ∷ vs) is at = absurd at.1

pub record Two (k l : List ℕ) (d : Data) : Type 0 where
  pub v : Data
  pub w : Data
  pub is : IsObject (k ∷ l ∷ []) (v ∷ w ∷ []) d
  pub first : get k d ≡ Some v
  pub second : get l d ≡ Some w

pub open_two : (k l : List ℕ) (d : Data) → are_distinct (k ∷ l ∷ []) ≡ true → has_keys (k ∷ l ∷ []) d ≡ true → Two k l d
open_two k l d distinct has = let opened = open_keys (k ∷ l ∷ []) d distinct has in by_values opened.values opened.is opened.stand
  where
    by_values : (vs : List Data) → IsObject (k ∷ l ∷ []) vs d → Stand (k ∷ l ∷ []) vs d → Two k l d
    by_values (v ∷ w ∷ []) is at = record { v = v; w = w; is = is; first = at.0; second = at.1.0 }
    by_values [] is at = absurd at
    by_values (v ∷ []) is at = absurd at.1
    by_values (v ∷ w ∷ x ∷ vs) is at = absurd at.1.1

pub record Three (k l m : List ℕ) (d : Data) : Type 0 where
  pub v : Data
  pub w : Data
  pub x : Data
  pub is : IsObject (k ∷ l ∷ m ∷ []) (v ∷ w ∷ x ∷ []) d
  pub first : get k d ≡ Some v
  pub second : get l d ≡ Some w
  pub third : get m d ≡ Some x

pub open_three : (k l m : List ℕ) (d : Data) → are_distinct (k ∷ l ∷ m ∷ []) ≡ true → has_keys (k ∷ l ∷ m ∷ []) d ≡ true → Three k l m d
open_three k l m d distinct has = let opened = open_keys (k ∷ l ∷ m ∷ []) d distinct has in by_values opened.values opened.is opened.stand
  where
    by_values : (vs : List Data) → IsObject (k ∷ l ∷ m ∷ []) vs d → Stand (k ∷ l ∷ m ∷ []) vs d → Three k l m d
    by_values (v ∷ w ∷ x ∷ []) is at = record { v = v; w = w; x = x; is = is; first = at.0; second = at.1.0; third = at.1.1.0 }
    by_values [] is at = absurd at
    by_values (v ∷ []) is at = absurd at.1
    by_values (v ∷ w ∷ []) is at = absurd at.1.1
    by_values (v ∷ w ∷ x ∷ y ∷ vs) is at = absurd at.1.1.1

pub record Four (k l m n : List ℕ) (d : Data) : Type 0 where
  pub v : Data
  pub w : Data
  pub x : Data
  pub y : Data
  pub is : IsObject (k ∷ l ∷ m ∷ n ∷ []) (v ∷ w ∷ x ∷ y ∷ []) d
  pub first : get k d ≡ Some v
  pub second : get l d ≡ Some w
  pub third : get m d ≡ Some x
  pub fourth : get n d ≡ Some y

pub open_four : (k l m n : List ℕ) (d : Data) → are_distinct (k ∷ l ∷ m ∷ n ∷ []) ≡ true → has_keys (k ∷ l ∷ m ∷ n ∷ []) d ≡ true → Four k l m n d
open_four k l m n d distinct has = let opened = open_keys (k ∷ l ∷ m ∷ n ∷ []) d distinct has in by_values opened.values opened.is opened.stand
  where
    by_values : (vs : List Data) → IsObject (k ∷ l ∷ m ∷ n ∷ []) vs d → Stand (k ∷ l ∷ m ∷ n ∷ []) vs d → Four k l m n d
    by_values (v ∷ w ∷ x ∷ y ∷ []) is at = record { v = v; w = w; x = x; y = y; is = is; first = at.0; second = at.1.0; third = at.1.1.0; fourth = at.1.1.1.0 }
    by_values [] is at = absurd at
    by_values (v ∷ []) is at = absurd at.1
    by_values (v ∷ w ∷ []) is at = absurd at.1.1
    by_values (v ∷ w ∷ x ∷ []) is at = absurd at.1.1.1
    by_values (v ∷ w ∷ x ∷ y ∷ z ∷ vs) is at = absurd at.1.1.1.1
