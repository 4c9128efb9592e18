-- The walk over the lines of an input, and the reading of the whole.
use Rattle.std.proofs.Common.{◌≡◌, ◌≢◌, ℕ, ◌+◌, ◌<◌, ◌≤◌, ◌&&◌, ◌⊎◌, List, [], ◌∷◌, ◌++◌, length, Bool, true, false, cond, nat_lt, Some, None, refl, ap, sym, inl, inr, ◌∙◌, arith, append_assoc, length-append}
use Rattle.std.specs.Str.{IsUtf8, is_utf8}
use Rattle.std.proofs.lemmas.Bool.{and_from, and_parts, false≢true, lt-ltb, or_left, or_right}
use Rattle.std.proofs.lemmas.List.{append-nil}
use Rattle.std.proofs.lemmas.List.Elements.{All-append}
use Rattle.std.proofs.lemmas.Str.{IsUtf8-from_is_utf8, is_utf8-from_IsUtf8}
use Rattle.serde_json.specs.Data.{Data}
use Rattle.serde_json.specs.Read.{read}
use Rattle.input_lines.specs.Lines.{full_lines, tail_of, IsPlain}
use Rattle.script_text.specs.Nesting.{is_shallow}
use Rattle.script_text.specs.Script.{Place, Item, Walk, Ends, at_place, stuck_by, too_long, arrived, stuck, chain, chain_from, reading_of, counted, placed, is_long, accept, walk, finish, last_line, reading}
use Rattle.input_lines.proofs.Newlines.{cut_at_newline}
use Rattle.input_lines.proofs.LineLists.{full_lines-plain, tail_of-plain, full_lines-line, tail_of-line}

-- ---- the reading of a line

reading_by : (b : Bool) (line : List ℕ) → b ≡ true → cond b (read line) None ≡ read line
reading_by b line e = ap (λ t. cond t (read line) None) e

pub reading_of-text : (line : List ℕ) (d : Data) → is_shallow line ≡ true → IsUtf8 line → read line ≡ Some d → Some d ≡ reading_of line
reading_of-text line d shallow text e =
    sym (reading_by (is_utf8 line && is_shallow line) line (and_from (is_utf8 line) (is_shallow line) (is_utf8-from_IsUtf8 line text) shallow) ∙ e)

none_by : (b : Bool) (line : List ℕ) → (b ≡ true → read line ≡ None) → None ≡ cond b (read line) None
none_by true line h = sym (h refl)
none_by false line h = refl

pub reading_of-none : (line : List ℕ) → (IsUtf8 line → read line ≡ None) → None ≡ reading_of line
reading_of-none line h =
    none_by (is_utf8 line && is_shallow line) line (λ e. h (IsUtf8-from_is_utf8 line (and_parts (is_utf8 line) (is_shallow line) e).0))

pub reading_of-deep : (line : List ℕ) → is_shallow line ≡ false → None ≡ reading_of line
reading_of-deep line deep =
    none_by (is_utf8 line && is_shallow line) line (λ e. absurd (false≢true (sym deep ∙ (and_parts (is_utf8 line) (is_shallow line) e).1)))

-- ---- chains

abbrev onward : List Item → Walk → Walk
onward items w = record { items = items ++ w.items; ends = w.ends }

chain_from-append : (xs ys : List Item) (e : Ends) (g : Place → Walk) → chain_from (xs ++ ys) e g ≡ onward xs (chain_from ys e g)
chain_from-append xs ys (at_place p) g = ap (λ items. record { items = items; ends = (g p).ends }) (append_assoc xs ys (g p).items)
chain_from-append xs ys (stuck_by s) g = refl

chain_from-assoc : (items : List Item) (e : Ends) (f g : Place → Walk) → chain (chain_from items e f) g ≡ chain_from items e (λ p. chain (f p) g)
chain_from-assoc items (at_place p) f g = chain_from-append items (f p).items (f p).ends g
chain_from-assoc items (stuck_by s) f g = refl

pub chain-assoc : (w : Walk) (f g : Place → Walk) → chain (chain w f) g ≡ chain w (λ p. chain (f p) g)
chain-assoc w f g = chain_from-assoc w.items w.ends f g

chain_from-same : (items : List Item) (e : Ends) (f g : Place → Walk) → ((p : Place) → f p ≡ g p) → chain_from items e f ≡ chain_from items e g
chain_from-same items (at_place p) f g h = ap (onward items) (h p)
chain_from-same items (stuck_by s) f g h = refl

pub chain-same : (w : Walk) (f g : Place → Walk) → ((p : Place) → f p ≡ g p) → chain w f ≡ chain w g
chain-same w f g h = chain_from-same w.items w.ends f g h

-- a walk that stops at its place
chain_from-arrived : (items : List Item) (e : Ends) → chain_from items e (arrived []) ≡ record { items = items; ends = e }
chain_from-arrived items (at_place p) = ap (λ all. record { items = all; ends = at_place p }) (append-nil items)
chain_from-arrived items (stuck_by s) = refl

pub chain-arrived : (w : Walk) → chain w (arrived []) ≡ w
chain-arrived w = chain_from-arrived w.items w.ends

-- ---- walks over lines

abbrev pub line_at : List ℕ → Place → Walk
line_at line p = accept (length line + 1) line p

pub walk-push : (lines : List (List ℕ)) (line : List ℕ) (p : Place) → walk (lines ++ line ∷ []) p ≡ chain (walk lines p) (line_at line)
walk-push [] line p = chain-arrived (line_at line p)
walk-push (first ∷ lines) line p =
    chain-same (line_at first p) _ _ (λ q. walk-push lines line q) ∙ sym (chain-assoc (line_at first p) (λ q. walk lines q) (line_at line))

-- over lines, and then more lines
pub walk-append : (lines more : List (List ℕ)) (p : Place) → walk (lines ++ more) p ≡ chain (walk lines p) (λ q. walk more q)
walk-append [] more p = refl
walk-append (line ∷ lines) more p = chain-same (line_at line p) _ _ (λ q. walk-append lines more q) ∙ sym (chain-assoc (line_at line p) (λ q. walk lines q) (λ q. walk more q))

-- ---- readings

pub reading-line : (line rest : List ℕ) (p : Place) → IsPlain line → reading (line ++ 10 ∷ rest) p ≡ chain (line_at line p) (reading rest)
reading-line line rest p plain =
    ap (λ lines. chain (walk lines p) (last_line (tail_of (line ++ 10 ∷ rest)))) (full_lines-line line rest plain)
    ∙ ap (λ tail. chain (walk (line ∷ full_lines rest) p) (last_line tail)) (tail_of-line line rest plain)
    ∙ chain-assoc (line_at line p) (λ q. walk (full_lines rest) q) (last_line (tail_of rest))

pub reading-tail : (line : List ℕ) (p : Place) → IsPlain line → reading line p ≡ last_line line p
reading-tail line p plain =
    ap (λ lines. chain (walk lines p) (last_line (tail_of line))) (full_lines-plain line plain)
    ∙ ap (λ tail. chain (walk [] p) (last_line tail)) (tail_of-plain line plain)

-- ---- lines that are too long

pub accept-long : (size : ℕ) (line : List ℕ) (p : Place) → (8388608 < length line) ⊎ (4294967296 < p.bytes + size) → accept size line p ≡ stuck (too_long (p.lines + 1))
accept-long size line p h =
    let e : is_long p size line ≡ true = long h in
    ap (λ b. cond b (stuck (too_long (p.lines + 1))) (placed (counted p size) (reading_of line))) e
  where
    long : (8388608 < length line) ⊎ (4294967296 < p.bytes + size) → is_long p size line ≡ true
    long (inl h) = or_left (nat_lt 8388608 (length line)) (nat_lt 4294967296 (p.bytes + size)) (lt-ltb 8388608 (length line) h)
    long (inr h) = or_right (nat_lt 8388608 (length line)) (nat_lt 4294967296 (p.bytes + size)) (lt-ltb 4294967296 (p.bytes + size) h)

-- a last line that has a byte
pub last_line-some : (line : List ℕ) (p : Place) → 0 < length line → last_line line p ≡ chain (accept (length line) line p) finish
last_line-some [] p h = absurd (omega arith)
last_line-some (byte ∷ line) p h = refl

-- the beginning of a line passes a limit
abbrev pub PassesAt : Place → List ℕ → Type 0
PassesAt p line = (8388608 < length line) ⊎ (4294967296 < p.bytes + length line)

passes_more : (p : Place) (line part : List ℕ) (more : ℕ) → PassesAt p line → (8388608 < length (line ++ part)) ⊎ (4294967296 < p.bytes + (length (line ++ part) + more))
passes_more p line part more (inl h) = inl (omega (arith, length-append line part))
passes_more p line part more (inr h) = inr (omega (arith, length-append line part))

passes_tail : (p : Place) (line part : List ℕ) → PassesAt p line → (8388608 < length (line ++ part)) ⊎ (4294967296 < p.bytes + length (line ++ part))
passes_tail p line part (inl h) = inl (omega (arith, length-append line part))
passes_tail p line part (inr h) = inr (omega (arith, length-append line part))

some_byte : (p : Place) (line part : List ℕ) → p.bytes ≤ 4294967296 → PassesAt p line → 0 < length (line ++ part)
some_byte p line part low (inl h) = omega (arith, length-append line part)
some_byte p line part low (inr h) = omega (arith, length-append line part)

pub reading-long : (line rest : List ℕ) (p : Place) → p.bytes ≤ 4294967296 → IsPlain line → PassesAt p line → reading (line ++ rest) p ≡ stuck (too_long (p.lines + 1))
reading-long line rest p low plain passes = by_rest (cut_at_newline rest)
  where
    by_rest : IsPlain rest ⊎ ((part : List ℕ) × (more : List ℕ) × IsPlain part × (rest ≡ part ++ 10 ∷ more)) → reading (line ++ rest) p ≡ stuck (too_long (p.lines + 1))
    by_rest (inl h) =
        let all = line ++ rest in
        let long : (8388608 < length all) ⊎ (4294967296 < p.bytes + length all) = passes_tail p line rest passes in
        reading-tail all p (All-append (λ byte. byte ≢ 10) line rest plain h) ∙ last_line-some all p (some_byte p line rest low passes)
        ∙ ap (λ w. chain w finish) (accept-long (length all) all p long)
    by_rest (inr (part, more, h, e)) =
        let all = line ++ part in
        ap (λ bytes. reading (line ++ bytes) p) e ∙ ap (λ bytes. reading bytes p) (sym (append_assoc line part (10 ∷ more)))
        ∙ reading-line all more p (All-append (λ byte. byte ≢ 10) line part plain h)
        ∙ ap (λ w. chain w (reading more)) (accept-long (length all + 1) all p (passes_more p line part 1 passes))
