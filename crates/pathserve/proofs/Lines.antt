-- How lines are found in bytes that are taken in parts.
use Rattle.std.proofs.Common.{◌≡◌, ℕ, inl, inr, List, [], ◌∷◌, ◌++◌, true, false, eqb, refl, ap, ◌∙◌}
use Rattle.std.proofs.lemmas.Bool.Decides.{eqb_tells}
use Rattle.input_lines.specs.Lines.{in_front, full_lines, tail_with, tail_of}

front_append : (byte : ℕ) (lines : List (List ℕ)) (tail more : List ℕ) → eqb byte 10 ≡ false
    → in_front byte (lines ++ full_lines (tail ++ more)) ≡ in_front byte lines ++ full_lines (tail_with byte lines tail ++ more)
front_append byte [] tail more e = rw e refl
front_append byte (line ∷ lines) tail more e = refl

-- the lines of bytes and of what follows them
pub full_lines-append : (bytes more : List ℕ) → full_lines (bytes ++ more) ≡ full_lines bytes ++ full_lines (tail_of bytes ++ more)
full_lines-append [] more = refl
full_lines-append (byte ∷ bytes) more = elim (eqb_tells byte 10) [
  | inl t ↦ let e : eqb byte 10 ≡ true = t.0 in rw e (ap (λ (ls : List (List ℕ)). [] ∷ ls) (full_lines-append bytes more))
  | inr f ↦ let e : eqb byte 10 ≡ false = f.0 in
      rw e (ap (in_front byte) (full_lines-append bytes more) ∙ front_append byte (full_lines bytes) (tail_of bytes) more e)
]
