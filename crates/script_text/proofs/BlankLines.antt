-- A line of white space is no value, and neither is one that nests too deep.
use Rattle.std.proofs.Common.{◌≡◌, ◌↔◌, ℕ, ◌&&◌, ◌||◌, ◌==◌, List, [], ◌∷◌, Bool, true, false, not, cond, Option, Some, None, option_and_then, refl, ap, sym, subst, ◌∙◌}
use Rattle.std.specs.Prelude.{IsTrue, IsFalse}
use Rattle.std.specs.List.{list_all}
use Rattle.std.specs.Str.{is_utf8}
use Rattle.std.proofs.lemmas.Bool.{and_parts, false≢true}
use Rattle.std.proofs.lemmas.Bool.Decides.{Decides-eqb}
use Rattle.json.specs.Lex.{between, lex, punctuate, fresh}
use Rattle.json.specs.Json as json
use Rattle.serde_json.specs.Data.{Data}
use Rattle.serde_json.specs.Read.{read, of_json}
use Rattle.script_text.specs.declared.parts.Part.{Part}
use Rattle.script_text.specs.declared.causes.Cause.{Cause}
use Rattle.script_text.specs.declared.causes.Cause.TheVariants.{BlankLine, ByteOrderMark, TooDeep}
use Rattle.script_text.specs.Nesting.{is_shallow}
use Rattle.script_text.specs.Script.{reading_of}
use Rattle.script_text.specs.Causes.{is_white, is_blank, has_mark, is_too_deep, text_cause, reading_cause, cause}
use Rattle.script_text.specs.LargeNumbers.{broken_cause}
use Rattle.script_text.proofs.BrokenLines.{IsBroken, broken-is, text-causes}
use Rattle.script_text.proofs.ReadWalk.{reading_of-deep}
use Rattle.script_text.proofs.ShallowTexts.{blank_shallow}
use Rattle.script_text.proofs.TrueCauses.{true_causes}

-- white space is passed over
lex-white : (byte : ℕ) (line : List ℕ) → is_white byte ≡ true → lex between (byte ∷ line) ≡ lex between line
unfolding lex
lex-white byte line white = by_byte (byte == 32) (byte == 9) (byte == 10) (byte == 13) refl refl refl refl white
  where
    by_byte : (a b c e : Bool) → (byte == 32) ≡ a → (byte == 9) ≡ b → (byte == 10) ≡ c → (byte == 13) ≡ e → (a || b || c || e) ≡ true → lex between (byte ∷ line) ≡ lex between line
    by_byte true b c e is_a is_b is_c is_e h = ap (λ n. lex between (n ∷ line)) ((Decides-eqb byte 32).0 is_a)
    by_byte false true c e is_a is_b is_c is_e h = ap (λ n. lex between (n ∷ line)) ((Decides-eqb byte 9).0 is_b)
    by_byte false false true e is_a is_b is_c is_e h = ap (λ n. lex between (n ∷ line)) ((Decides-eqb byte 10).0 is_c)
    by_byte false false false true is_a is_b is_c is_e h = ap (λ n. lex between (n ∷ line)) ((Decides-eqb byte 13).0 is_e)
    by_byte false false false false is_a is_b is_c is_e h = absurd (cc)

lex-blank : (line : List ℕ) → is_blank line ≡ true → lex between line ≡ []
unfolding lex
lex-blank [] blank = refl
lex-blank (byte ∷ line) blank =
    let parts = and_parts (is_white byte) (list_all is_white line) blank in
    lex-white byte line parts.0 ∙ lex-blank line parts.1

-- there is no value among no tokens
read-blank : (line : List ℕ) → is_blank line ≡ true → read line ≡ None
unfolding json.value punctuate
read-blank line blank = ap (λ lexemes. option_and_then of_json (option_and_then (λ p. json.if_last p.0 p.1) (json.value 127 (punctuate fresh lexemes)))) (lex-blank line blank)

unread : (line : List ℕ) → is_blank line ≡ true → reading_of line ≡ None
unread line blank = by_text (is_utf8 line && is_shallow line)
  where
    by_text : (b : Bool) → cond b (read line) None ≡ None
    by_text true = read-blank line blank
    by_text false = refl

-- a broken line is told neither to be blank nor to nest too deep
broken-blank : (found : Cause) → IsBroken found → found ≡ BlankLine → ⊥
broken-blank found broken e = subst IsBroken e broken

broken-deep : (found : Cause) → IsBroken found → found ≡ TooDeep → ⊥
broken-deep found broken e = subst IsBroken e broken

text-blank : (line : List ℕ) → text_cause line ≡ BlankLine → ⊥
text-blank line = text-causes (λ found. found ≡ BlankLine → ⊥) line (λ deep e. absurd (cc)) (λ shallow text. broken-blank (broken_cause line) (broken-is line)) (λ no_text e. absurd (cc))

text-deep : (line : List ℕ) → text_cause line ≡ TooDeep → is_too_deep line ≡ true
text-deep line = text-causes (λ found. found ≡ TooDeep → is_too_deep line ≡ true) line (λ deep e. deep) (λ shallow text e. absurd (broken-deep (broken_cause line) (broken-is line) e)) (λ no_text e. absurd (cc))

deep-first : (deep : Bool) (other : Cause) → deep ≡ true → cond deep TooDeep other ≡ TooDeep
deep-first true other e = refl
deep-first false other e = absurd (cc)

pub blank_lines : (part : Part) (turn : ℕ) (line : List ℕ) → (cause part turn line ≡ Some BlankLine) ↔ IsTrue (is_blank line)
blank_lines part turn line = (λ e. told (reading_of line) e, λ blank. ap (reading_cause part turn line) (unread line blank) ∙ first (is_blank line) blank)
  where
    first : (b : Bool) → b ≡ true → Some (cond b BlankLine (cond (has_mark line) ByteOrderMark (text_cause line))) ≡ Some BlankLine
    first true e = refl
    first false e = absurd (cc)

    by_tests : (blank mark : Bool) (text : Cause) → (text ≡ BlankLine → ⊥) → Some (cond blank BlankLine (cond mark ByteOrderMark text)) ≡ Some BlankLine → blank ≡ true
    by_tests true mark text other e = refl
    by_tests false true text other e = absurd (cc)
    by_tests false false text other e = absurd (other (some-inside e))
      where
        some-inside : Some text ≡ Some BlankLine → text ≡ BlankLine
        some-inside h = cc

    told : (reading : Option Data) → reading_cause part turn line reading ≡ Some BlankLine → is_blank line ≡ true
    told None e = by_tests (is_blank line) (has_mark line) (text_cause line) (text-blank line) e
    told (Some d) e = absurd (true_causes part turn d BlankLine e)

-- ---- lines that nest too deep

pub deep_lines : (part : Part) (turn : ℕ) (line : List ℕ) → (cause part turn line ≡ Some TooDeep) ↔ (IsTrue (is_too_deep line) × IsFalse (has_mark line))
deep_lines part turn line = (λ e. told (reading_of line) e, λ deep. ap (reading_cause part turn line) (sym (none deep.0)) ∙ third (is_blank line) (has_mark line) (text_cause line) (some deep.0) deep.1 (deep-first (is_too_deep line) _ deep.0))
  where
    shallow : is_too_deep line ≡ true → is_shallow line ≡ false
    shallow deep = is_false (is_shallow line) (and_parts (is_utf8 line) (not (is_shallow line)) deep).1
      where
        is_false : (b : Bool) → not b ≡ true → b ≡ false
        is_false true h = absurd (cc)
        is_false false h = refl

    none : is_too_deep line ≡ true → None ≡ reading_of line
    none deep = reading_of-deep line (shallow deep)

    -- a byte opens an array or an object
    some : is_too_deep line ≡ true → is_blank line ≡ false
    some deep = by_blank (is_blank line) refl
      where
        by_blank : (b : Bool) → is_blank line ≡ b → b ≡ false
        by_blank true blank = absurd (false≢true (sym (shallow deep) ∙ blank_shallow line blank))
        by_blank false blank = refl

    third : (blank mark : Bool) (text : Cause) → blank ≡ false → mark ≡ false → text ≡ TooDeep → Some (cond blank BlankLine (cond mark ByteOrderMark text)) ≡ Some TooDeep
    third true mark text e f g = absurd (cc)
    third false true text e f g = absurd (cc)
    third false false text e f g = ap Some g

    by_tests : (blank mark : Bool) (text : Cause) → (text ≡ TooDeep → is_too_deep line ≡ true) → Some (cond blank BlankLine (cond mark ByteOrderMark text)) ≡ Some TooDeep
        → (is_too_deep line ≡ true) × (mark ≡ false)
    by_tests true mark text is e = absurd (cc)
    by_tests false true text is e = absurd (cc)
    by_tests false false text is e = (is (some-inside e), refl)
      where
        some-inside : Some text ≡ Some TooDeep → text ≡ TooDeep
        some-inside h = cc

    told : (reading : Option Data) → reading_cause part turn line reading ≡ Some TooDeep → (is_too_deep line ≡ true) × (has_mark line ≡ false)
    told None e = by_tests (is_blank line) (has_mark line) (text_cause line) (text-deep line) e
    told (Some d) e = absurd (true_causes part turn d TooDeep e)
