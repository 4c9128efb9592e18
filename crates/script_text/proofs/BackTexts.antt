-- Values of whole numbers and strings of plain ASCII: their texts, and what is read of these.
use Rattle.std.proofs.Common.{◌≡◌, ◌≢◌, ℕ, zero, suc, ◌+◌, ◌-◌, ◌/◌, ◌%◌, ◌^◌, ◌<◌, ◌≤◌, ◌&&◌, ◌||◌, ◌==◌, ◌++◌, List, [], ◌∷◌, length, Bool, true, false, cond, nat_le, nat_lt, Some, None, option_map, option_and_then, ℤ, decimal, refl, ap, sym, ◌∙◌, arith, append_assoc, append-nil, lt-ltb, FitsSigned}
use Rattle.std.specs.Prelude.{⊤, unsigned_abs}
use Rattle.std.specs.Char.{is_ascii_digit, is_ascii_alphanumeric}
use Rattle.std.specs.Int.{w32, is_negative}
use Rattle.std.specs.List.{list_all}
use Rattle.std.specs.Str.{all_ascii_digits}
use Rattle.std.proofs.lemmas.Bool.{and_parts, leb-true, and_from}
use Rattle.std.proofs.lemmas.Bool.Decides.{leb_tells, eqb_tells}
use Rattle.std.proofs.lemmas.Fmt.{digits_decimal}
use Rattle.std.proofs.lemmas.List.Elements.{All-nil, All-cons}
use Rattle.std.proofs.lemmas.List.Folds.{list_all-append}
use Rattle.std.proofs.lemmas.Str.{is_utf8-from_IsUtf8}
use Rattle.std.proofs.lemmas.Str.Parse.{numerals_by_value, tells_all_ascii_digits}
use Rattle.json.specs.Json as json
use Rattle.json.specs.Lex.{tokens}
use Rattle.json.specs.Print.{quoted}
use Rattle.json.specs.Tree.{json_tokens, HasNumbers, ItemsHaveNumbers, MembersHaveNumbers}
use Rattle.json.specs.Tree as tree
use Rattle.json.proofs.Printed.Decimals.{IsNumber-decimal}
use Rattle.json.proofs.Printed.Tokens.{tokens-print}
use Rattle.json.proofs.Printed.Trees.{ArePrintable-json_tokens, value-json_tokens}
use Rattle.json.proofs.Printed.Utf8.{are_ascii, IsUtf8-are_ascii}
use Rattle.serde_json.specs.Data.{Num, unsigned, negative, float, Data, null, boolean, number, string, array, object, Items, no_items, item, Members, no_members, member, put}
use Rattle.serde_json.specs.Read.{read, of_json, of_items, of_members, max_depth}
use Rattle.serde_json.specs.Written.{outline, items_outline, members_outline, comma_if, compact_text, items_text, members_text}
use Rattle.serde_json.proofs.Numbers.{number_of-decimal}
use Rattle.serde_json.proofs.Texts.{print-outline}
use Rattle.fixed_point.specs.Text.{fixed_text, fraction_digits, fraction_text}
use Rattle.fixed_point.proofs.ReadsBack.{all_fraction_digits, magnitude_small}
use Rattle.class_config.specs.Forms.{is_class_name}
use Rattle.script_text.specs.inner.Plain.{is_plain}
use Rattle.input_lines.specs.Lines.{IsPlain}
use Rattle.script_text.proofs.BackForms.{ReadsTo}
use Rattle.script_text.specs.Nesting.{fits, is_shallow}
use Rattle.script_text.proofs.ShallowTexts.{digits_passed, quoted_passed, comma_passed}
use Rattle.script_text.proofs.CanonTexts.{plain-decimal, plain-fixed_text, plain-name, quoted-plain}

-- ---- bytes

abbrev is_ascii : ℕ → Bool
is_ascii byte = nat_lt byte 128

-- a string of plain ASCII
abbrev pub IsText : List ℕ → Type 0
IsText text = (list_all is_plain text ≡ true) × (list_all is_ascii text ≡ true)

-- a byte that may stand in a line
abbrev is_shown : ℕ → Bool
is_shown byte = nat_le 32 byte && is_ascii byte

all_both : (test : ℕ → Bool) (xs ys : List ℕ) → list_all test xs ≡ true → list_all test ys ≡ true → list_all test (xs ++ ys) ≡ true
all_both test xs ys h k = list_all-append test xs ys ∙ and_from (list_all test xs) (list_all test ys) h k

-- what passes one test passes another
all_weaker : (p q : ℕ → Bool) → ((c : ℕ) → p c ≡ true → q c ≡ true) → (cs : List ℕ) → list_all p cs ≡ true → list_all q cs ≡ true
all_weaker p q tells [] h = refl
all_weaker p q tells (c ∷ cs) h =
    let s = and_parts (p c) (list_all p cs) h in and_from (q c) (list_all q cs) (tells c s.0) (all_weaker p q tells cs s.1)

shown_text : (cs : List ℕ) → IsText cs → list_all is_shown cs ≡ true
shown_text [] is = refl
shown_text (c ∷ cs) is =
    let p = and_parts (is_plain c) (list_all is_plain cs) is.0 in
    let a = and_parts (is_ascii c) (list_all is_ascii cs) is.1 in
    let low = and_parts (nat_le 32 c) _ (and_parts (nat_le 32 c && _) _ p.0).0 in
    and_from (is_shown c) (list_all is_shown cs) (and_from (nat_le 32 c) (is_ascii c) low.0 a.0) (shown_text cs (p.1, a.1))

-- ---- the strings and numbers of scripts

ascii_digit : (c : ℕ) → is_ascii_digit c ≡ true → is_ascii c ≡ true
ascii_digit c h = lt-ltb c 128 (omega (arith, leb-true c 57 (and_parts (nat_le 48 c) (nat_le c 57) h).1))

ascii_digits : (cs : List ℕ) → all_ascii_digits cs ≡ true → list_all is_ascii cs ≡ true
ascii_digits cs h = all_weaker is_ascii_digit is_ascii ascii_digit cs h

ascii_decimal : (n : ℕ) → n < 2 ^ 64 → list_all is_ascii (decimal n) ≡ true
ascii_decimal n small = ascii_digits (decimal n) (digits_decimal (numerals_by_value _ tells_all_ascii_digits) n small)

ascii_sign : (minus : Bool) → list_all is_ascii (cond minus (45 ∷ []) []) ≡ true
ascii_sign true = refl
ascii_sign false = refl

ascii_fraction : (n : ℕ) → n < 65536 → list_all is_ascii (fraction_text n) ≡ true
ascii_fraction n small = by_zero (n == 0) (fraction_digits 16 n) (ascii_digits (fraction_digits 16 n) (all_fraction_digits 16 n small))
  where
    by_zero : (none : Bool) (xs : List ℕ) → list_all is_ascii xs ≡ true → list_all is_ascii (cond none [] (46 ∷ xs)) ≡ true
    by_zero true xs h = refl
    by_zero false xs h = h

pub text-fixed_text : (raw : ℤ) → FitsSigned w32 raw → IsText (fixed_text raw)
unfolding fixed_text
text-fixed_text raw fits =
    let m : ℕ = unsigned_abs raw in let sign : List ℕ = cond (is_negative raw) (45 ∷ []) [] in
    let small : m ≤ 2 ^ 31 = magnitude_small raw fits in (
      plain-fixed_text raw,
      all_both is_ascii (sign ++ decimal (m / 65536)) (fraction_text (m % 65536))
          (all_both is_ascii sign (decimal (m / 65536)) (ascii_sign (is_negative raw)) (ascii_decimal (m / 65536) (whole m small))) (ascii_fraction (m % 65536) (rest m)),
    )
  where
    whole : (n : ℕ) → n ≤ 2 ^ 31 → n / 65536 < 2 ^ 64
    whole n h = omega (arith, h)

    rest : (n : ℕ) → n % 65536 < 65536
    rest n = omega arith

pub text-name : (name : List ℕ) → is_class_name name ≡ true → IsText name
text-name name h = (
  plain-name name h,
  all_weaker (λ c. is_ascii_alphanumeric c || c == 45 || c == 95) is_ascii name_byte name
      (and_parts (nat_le 1 (length name) && nat_le (length name) 64) (list_all (λ c. is_ascii_alphanumeric c || c == 45 || c == 95) name) h).1,
)
  where
    name_byte : (c : ℕ) → (is_ascii_alphanumeric c || c == 45 || c == 95) ≡ true → is_ascii c ≡ true
    name_byte c h = lt-ltb c 128 (below c h)
      where
        below : (c : ℕ) → (is_ascii_alphanumeric c || c == 45 || c == 95) ≡ true → c < 128
        below c h = grind (arith, leb_tells, eqb_tells)

-- ---- values

abbrev IsSmall : Num → Type 0
IsSmall (unsigned n) = n < 2 ^ 64
IsSmall (negative z) = ⊥
IsSmall (float x) = ⊥

-- whole numbers of 64 bits and strings of plain ASCII, in arrays and objects that nest so deep at most
abbrev mutual
  pub IsSimple : Data → ℕ → Type 0
  IsSimple null levels = ⊥
  IsSimple (boolean b) levels = ⊥
  IsSimple (number n) levels = IsSmall n
  IsSimple (string s) levels = IsText s
  IsSimple (array ds) zero = ⊥
  IsSimple (array ds) (suc levels) = AreSimple ds levels
  IsSimple (object ms) zero = ⊥
  IsSimple (object ms) (suc levels) = HaveSimple ms levels

  pub AreSimple : Items → ℕ → Type 0
  AreSimple no_items levels = ⊤
  AreSimple (item d ds) levels = IsSimple d levels × AreSimple ds levels

  pub HaveSimple : Members → ℕ → Type 0
  HaveSimple no_members levels = ⊤
  HaveSimple (member k d ms) levels = IsText k × IsSimple d levels × HaveSimple ms levels

-- the value with the members of its objects in the order that a reading has
abbrev mutual
  pub sorted : Data → Data
  sorted null = null
  sorted (boolean b) = boolean b
  sorted (number n) = number n
  sorted (string s) = string s
  sorted (array ds) = array (sorted_items ds)
  sorted (object ms) = object (sorted_members ms no_members)

  pub sorted_items : Items → Items
  sorted_items no_items = no_items
  sorted_items (item d ds) = item (sorted d) (sorted_items ds)

  pub sorted_members : Members → Members → Members
  sorted_members no_members found = found
  sorted_members (member k d ms) found = sorted_members ms (put k (sorted d) found)

mutual
  numbers : (d : Data) (levels : ℕ) → IsSimple d levels → HasNumbers (outline d)
  numbers null levels is = absurd is
  numbers (boolean b) levels is = absurd is
  numbers (number (unsigned n)) levels is = IsNumber-decimal n is
  numbers (number (negative z)) levels is = absurd is
  numbers (number (float x)) levels is = absurd is
  numbers (string s) levels is = tt
  numbers (array ds) zero is = absurd is
  numbers (array ds) (suc levels) is = items_numbers ds levels is
  numbers (object ms) zero is = absurd is
  numbers (object ms) (suc levels) is = members_numbers ms levels is

  items_numbers : (ds : Items) (levels : ℕ) → AreSimple ds levels → ItemsHaveNumbers (items_outline ds)
  items_numbers no_items levels is = tt
  items_numbers (item d ds) levels is = (numbers d levels is.0, items_numbers ds levels is.1)

  members_numbers : (ms : Members) (levels : ℕ) → HaveSimple ms levels → MembersHaveNumbers (members_outline ms)
  members_numbers no_members levels is = tt
  members_numbers (member k d ms) levels is = (numbers d levels is.1, members_numbers ms levels is.2)

mutual
  shallow : (d : Data) (levels : ℕ) → IsSimple d levels → tree.depth (outline d) ≤ levels
  shallow null levels is = absurd is
  shallow (boolean b) levels is = absurd is
  shallow (number n) levels is = omega arith
  shallow (string s) levels is = omega arith
  shallow (array ds) zero is = absurd is
  shallow (array ds) (suc levels) is = omega (arith, items_shallow ds levels is)
  shallow (object ms) zero is = absurd is
  shallow (object ms) (suc levels) is = omega (arith, members_shallow ms levels is)

  items_shallow : (ds : Items) (levels : ℕ) → AreSimple ds levels → tree.items_depth (items_outline ds) ≤ levels
  items_shallow no_items levels is = omega arith
  items_shallow (item d ds) levels is = omega (arith, shallow d levels is.0, items_shallow ds levels is.1)

  members_shallow : (ms : Members) (levels : ℕ) → HaveSimple ms levels → tree.members_depth (members_outline ms) ≤ levels
  members_shallow no_members levels is = omega arith
  members_shallow (member k d ms) levels is = omega (arith, shallow d levels is.1, members_shallow ms levels is.2)

shown_quoted : (s : List ℕ) → IsText s → list_all is_shown (quoted s) ≡ true
shown_quoted s is =
    ap (list_all is_shown) (quoted-plain s is.0) ∙ all_both is_shown s (34 ∷ []) (shown_text s is) refl

shown_comma : (later : Bool) → list_all is_shown (comma_if later) ≡ true
shown_comma true = refl
shown_comma false = refl

mutual
  shown : (d : Data) (levels : ℕ) → IsSimple d levels → list_all is_shown (compact_text d) ≡ true
  shown null levels is = absurd is
  shown (boolean b) levels is = absurd is
  shown (number (unsigned n)) levels is = shown_text (decimal n) (plain-decimal n, ascii_decimal n is)
  shown (number (negative z)) levels is = absurd is
  shown (number (float x)) levels is = absurd is
  shown (string s) levels is = shown_quoted s is
  shown (array ds) zero is = absurd is
  shown (array ds) (suc levels) is = items_shown false ds levels is
  shown (object ms) zero is = absurd is
  shown (object ms) (suc levels) is = members_shown false ms levels is

  items_shown : (later : Bool) (ds : Items) (levels : ℕ) → AreSimple ds levels → list_all is_shown (items_text later ds) ≡ true
  items_shown later no_items levels is = refl
  items_shown later (item d ds) levels is =
      all_both is_shown (comma_if later) (compact_text d ++ items_text true ds) (shown_comma later)
      (all_both is_shown (compact_text d) (items_text true ds) (shown d levels is.0) (items_shown true ds levels is.1))

  members_shown : (later : Bool) (ms : Members) (levels : ℕ) → HaveSimple ms levels → list_all is_shown (members_text later ms) ≡ true
  members_shown later no_members levels is = refl
  members_shown later (member k d ms) levels is =
      all_both is_shown (comma_if later) (quoted k ++ 58 ∷ (compact_text d ++ members_text true ms)) (shown_comma later)
      (all_both is_shown (quoted k) (58 ∷ (compact_text d ++ members_text true ms)) (shown_quoted k is.0)
      (all_both is_shown (compact_text d) (members_text true ms) (shown d levels is.1) (members_shown true ms levels is.2)))

mutual
  of_outline : (d : Data) (levels : ℕ) → IsSimple d levels → of_json (outline d) ≡ Some (sorted d)
  of_outline null levels is = absurd is
  of_outline (boolean b) levels is = absurd is
  of_outline (number (unsigned n)) levels is = ap (option_map number) (number_of-decimal n is)
  of_outline (number (negative z)) levels is = absurd is
  of_outline (number (float x)) levels is = absurd is
  of_outline (string s) levels is = refl
  of_outline (array ds) zero is = absurd is
  of_outline (array ds) (suc levels) is = ap (option_map array) (of_outlines ds levels is)
  of_outline (object ms) zero is = absurd is
  of_outline (object ms) (suc levels) is = ap (option_map object) (of_members_outline ms no_members levels is)

  of_outlines : (ds : Items) (levels : ℕ) → AreSimple ds levels → of_items (items_outline ds) ≡ Some (sorted_items ds)
  of_outlines no_items levels is = refl
  of_outlines (item d ds) levels is =
      ap (option_and_then (λ first. option_map (item first) (of_items (items_outline ds)))) (of_outline d levels is.0)
      ∙ ap (option_map (item (sorted d))) (of_outlines ds levels is.1)

  of_members_outline : (ms found : Members) (levels : ℕ) → HaveSimple ms levels → of_members (members_outline ms) found ≡ Some (sorted_members ms found)
  of_members_outline no_members found levels is = refl
  of_members_outline (member k d ms) found levels is =
      ap (option_and_then (λ value. of_members (members_outline ms) (put k value found))) (of_outline d levels is.1)
      ∙ of_members_outline ms (put k (sorted d) found) levels is.2

-- ---- lines

no_newline : (cs : List ℕ) → list_all is_shown cs ≡ true → IsPlain cs
no_newline [] h = All-nil (λ (byte : ℕ). byte ≢ 10)
no_newline (c ∷ cs) h =
    let s = and_parts (is_shown c) (list_all is_shown cs) h in
    let low : 32 ≤ c = leb-true 32 c (and_parts (nat_le 32 c) (is_ascii c) s.0).0 in
    All-cons (λ (byte : ℕ). byte ≢ 10) c cs (λ e. omega (arith, e, low)) (no_newline cs s.1)

all_ascii : (cs : List ℕ) → list_all is_shown cs ≡ true → are_ascii cs ≡ true
all_ascii [] h = refl
all_ascii (c ∷ cs) h =
    let s = and_parts (is_shown c) (list_all is_shown cs) h in
    and_from (nat_lt c 128) (are_ascii cs) (and_parts (nat_le 32 c) (is_ascii c) s.0).1 (all_ascii cs s.1)

closed : (depth : ℕ) → (depth + 1) - 1 ≡ depth
closed depth = omega arith

-- what follows a value of so many levels fits where the value and what follows it do
mutual
  value_passed : (d : Data) (levels depth : ℕ) (rest : List ℕ) → IsSimple d levels → depth + levels ≤ 8 → fits depth (compact_text d ++ rest) ≡ fits depth rest
  value_passed null levels depth rest is few = absurd is
  value_passed (boolean b) levels depth rest is few = absurd is
  value_passed (number (unsigned n)) levels depth rest is few =
      digits_passed (decimal n) depth rest (digits_decimal (numerals_by_value _ tells_all_ascii_digits) n is)
  value_passed (number (negative z)) levels depth rest is few = absurd is
  value_passed (number (float x)) levels depth rest is few = absurd is
  value_passed (string s) levels depth rest is few = quoted_passed s depth rest is.0
  value_passed (array ds) zero depth rest is few = absurd is
  value_passed (array ds) (suc levels) depth rest is few =
      ap (λ b. b && fits (depth + 1) (items_text false ds ++ rest)) (lt-ltb depth 8 (omega (arith, few))) ∙ items_passed false ds levels depth rest is (omega (arith, few))
  value_passed (object ms) zero depth rest is few = absurd is
  value_passed (object ms) (suc levels) depth rest is few =
      ap (λ b. b && fits (depth + 1) (members_text false ms ++ rest)) (lt-ltb depth 8 (omega (arith, few))) ∙ members_passed false ms levels depth rest is (omega (arith, few))

  items_passed : (later : Bool) (ds : Items) (levels depth : ℕ) (rest : List ℕ) → AreSimple ds levels → (depth + 1) + levels ≤ 8
      → fits (depth + 1) (items_text later ds ++ rest) ≡ fits depth rest
  items_passed later no_items levels depth rest is few = ap (λ n. fits n rest) (closed depth)
  items_passed later (item d ds) levels depth rest is few =
      let more = items_text true ds in
      ap (fits (depth + 1)) (append_assoc (comma_if later) (compact_text d ++ more) rest) ∙ comma_passed later (depth + 1) ((compact_text d ++ more) ++ rest)
      ∙ ap (fits (depth + 1)) (append_assoc (compact_text d) more rest) ∙ value_passed d levels (depth + 1) (more ++ rest) is.0 few
      ∙ items_passed true ds levels depth rest is.1 few

  members_passed : (later : Bool) (ms : Members) (levels depth : ℕ) (rest : List ℕ) → HaveSimple ms levels → (depth + 1) + levels ≤ 8
      → fits (depth + 1) (members_text later ms ++ rest) ≡ fits depth rest
  members_passed later no_members levels depth rest is few = ap (λ n. fits n rest) (closed depth)
  members_passed later (member k d ms) levels depth rest is few =
      let more = members_text true ms in let value = 58 ∷ (compact_text d ++ more) in
      ap (fits (depth + 1)) (append_assoc (comma_if later) (quoted k ++ value) rest) ∙ comma_passed later (depth + 1) ((quoted k ++ value) ++ rest)
      ∙ ap (fits (depth + 1)) (append_assoc (quoted k) value rest) ∙ quoted_passed k (depth + 1) (value ++ rest) is.0.0
      ∙ ap (fits (depth + 1)) (append_assoc (compact_text d) more rest) ∙ value_passed d levels (depth + 1) (more ++ rest) is.1 few
      ∙ members_passed true ms levels depth rest is.2 few

text_shallow : (d : Data) → IsSimple d 8 → is_shallow (compact_text d) ≡ true
text_shallow d is = ap (fits 0) (sym (append-nil (compact_text d))) ∙ value_passed d 8 0 [] is (omega arith)

read_text : (d : Data) → IsSimple d 8 → read (compact_text d) ≡ Some (sorted d)
read_text d is =
    let j = outline d in
    let those : tokens (compact_text d) ≡ json_tokens j ++ [] =
    ap tokens (sym (print-outline d)) ∙ tokens-print (json_tokens j) (ArePrintable-json_tokens j (numbers d 8 is)) ∙ sym (append-nil (json_tokens j)) in
    ap (λ o. option_and_then of_json (option_and_then (λ p. json.if_last p.0 p.1) o))
    (ap (json.value max_depth) those ∙ value-json_tokens j max_depth [] (omega (arith, shallow d 8 is)))
    ∙ of_outline d 8 is

-- the text of a value has no newline, and reads as the value with its members sorted
pub reads_sorted : (d : Data) (Says : Data → Type 0) → IsSimple d 8 → Says (sorted d) → ReadsTo d Says
reads_sorted d Says is says = record {
  plain = no_newline (compact_text d) (shown d 8 is);
  value = sorted d;
  reads = ap (λ b. cond (b && is_shallow (compact_text d)) (read (compact_text d)) None)
      (is_utf8-from_IsUtf8 (compact_text d) (IsUtf8-are_ascii (compact_text d) (all_ascii (compact_text d) (shown d 8 is))))
      ∙ ap (λ b. cond b (read (compact_text d)) None) (text_shallow d is) ∙ read_text d is;
  says = says;
}
