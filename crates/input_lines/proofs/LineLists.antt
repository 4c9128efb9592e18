-- An input is its lines and its tail.
use Rattle.std.proofs.Common.{◌≡◌, ◌≢◌, ℕ, All, List, [], ◌∷◌, ◌++◌, cond, refl, ap, sym, ◌∙◌, append_assoc}
use Rattle.std.proofs.lemmas.List.Elements.{All-head, All-tail}
use Rattle.std.proofs.lemmas.Bool.{ne_eqb}
use Rattle.input_lines.specs.Lines.{full_lines, tail_of, tail_with, in_front, unlines, IsPlain}

abbrev not_newline : ℕ → Type 0
not_newline byte = byte ≢ 10

full_lines-cons : (byte : ℕ) (bytes : List ℕ) → byte ≢ 10 → full_lines (byte ∷ bytes) ≡ in_front byte (full_lines bytes)
full_lines-cons byte bytes h = ap (λ b. cond b ([] ∷ full_lines bytes) (in_front byte (full_lines bytes))) (ne_eqb byte 10 h)

tail_of-cons : (byte : ℕ) (bytes : List ℕ) → byte ≢ 10 → tail_of (byte ∷ bytes) ≡ tail_with byte (full_lines bytes) (tail_of bytes)
tail_of-cons byte bytes h = ap (λ b. cond b (tail_of bytes) (tail_with byte (full_lines bytes) (tail_of bytes))) (ne_eqb byte 10 h)

-- bytes without a newline are no full line, and are the tail
pub full_lines-plain : (line : List ℕ) → IsPlain line → full_lines line ≡ []
full_lines-plain [] h = refl
full_lines-plain (byte ∷ line) h =
    full_lines-cons byte line (All-head not_newline byte line h) ∙ ap (in_front byte) (full_lines-plain line (All-tail not_newline byte line h))

pub tail_of-plain : (line : List ℕ) → IsPlain line → tail_of line ≡ line
tail_of-plain [] h = refl
tail_of-plain (byte ∷ line) h =
    let rest = All-tail not_newline byte line h in
    tail_of-cons byte line (All-head not_newline byte line h)
    ∙ ap (λ lines. tail_with byte lines (tail_of line)) (full_lines-plain line rest) ∙ ap (λ tail. byte ∷ tail) (tail_of-plain line rest)

-- a line with its newline in front
pub full_lines-line : (line rest : List ℕ) → IsPlain line → full_lines (line ++ 10 ∷ rest) ≡ line ∷ full_lines rest
full_lines-line [] rest h = refl
full_lines-line (byte ∷ line) rest h =
    full_lines-cons byte (line ++ 10 ∷ rest) (All-head not_newline byte line h)
    ∙ ap (in_front byte) (full_lines-line line rest (All-tail not_newline byte line h))

pub tail_of-line : (line rest : List ℕ) → IsPlain line → tail_of (line ++ 10 ∷ rest) ≡ tail_of rest
tail_of-line [] rest h = refl
tail_of-line (byte ∷ line) rest h =
    let more = All-tail not_newline byte line h in
    tail_of-cons byte (line ++ 10 ∷ rest) (All-head not_newline byte line h)
    ∙ ap (λ lines. tail_with byte lines (tail_of (line ++ 10 ∷ rest))) (full_lines-line line rest more) ∙ tail_of-line line rest more

pub unlines-line : (line : List ℕ) (lines : List (List ℕ)) (rest : List ℕ) → unlines (line ∷ lines) ++ rest ≡ line ++ 10 ∷ (unlines lines ++ rest)
unlines-line line lines rest = append_assoc line (10 ∷ unlines lines) rest

-- one line more behind the lines
pub unlines-push : (lines : List (List ℕ)) (line rest : List ℕ) → unlines (lines ++ line ∷ []) ++ rest ≡ unlines lines ++ (line ++ 10 ∷ rest)
unlines-push [] line rest = unlines-line line [] rest
unlines-push (first ∷ lines) line rest =
    unlines-line first (lines ++ line ∷ []) rest ∙ ap (λ more. first ++ 10 ∷ more) (unlines-push lines line rest)
    ∙ sym (unlines-line first lines (line ++ 10 ∷ rest))

-- lines in front of bytes
pub full_lines-behind : (lines : List (List ℕ)) (rest : List ℕ) → All IsPlain lines → full_lines (unlines lines ++ rest) ≡ lines ++ full_lines rest
full_lines-behind [] rest plain = refl
full_lines-behind (line ∷ lines) rest plain =
    ap full_lines (unlines-line line lines rest) ∙ full_lines-line line (unlines lines ++ rest) (All-head IsPlain line lines plain)
    ∙ ap (λ more. line ∷ more) (full_lines-behind lines rest (All-tail IsPlain line lines plain))
