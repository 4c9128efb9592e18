-- What a piece of an input adds to the next line.
use Rattle.std.proofs.Common.{◌≡◌, ℕ, ◌+◌, ◌-◌, List, [], ◌∷◌, ◌++◌, length, take, drop, true, false, Some, Err, ap, sym, subst, ◌∙◌, arith, append_assoc, length-append, length-drop, position}
use Rattle.std.proofs.lemmas.List.{append-nil, take_all}
use Rattle.input_lines.specs.declared.faults.LineFault.{LineFault}
use Rattle.input_lines.specs.declared.faults.LineFault.TheVariants.{TooLong, ReadFault, NoMemory}
use Rattle.input_lines.specs.Lines.{IsPlain}
use Rattle.input_lines.specs.Held.{HeldLine, TakesMore, IsWholeLine}
use Rattle.input_lines.specs.Pushed.{pushed_line, PushAnswer}
use Rattle.input_lines.specs.inner.Pushing.{IsNoPart}
use Rattle.input_lines.proofs.Newlines.{is_newline, at_newline}

-- the line ends in the piece
pub ends_line : (h : HeldLine) (line longer bytes : List ℕ) (at : ℕ) → h ≡ pushed_line line false → longer ≡ h.line ++ take at bytes → position is_newline bytes ≡ Some at
    → TakesMore h (pushed_line longer true) bytes (take (length bytes - (at + 1)) (drop (at + 1) bytes))
ends_line h line longer bytes at is grown found =
    let part = take at bytes in
    let behind = drop (at + 1) bytes in
    let cut = (at_newline bytes at found).0 in
    let all : take (length bytes - (at + 1)) behind ≡ behind = take_all (length bytes - (at + 1)) behind (omega (arith, length-drop (at + 1) bytes)) in
    let To : HeldLine → Type 0 = λ g. longer ≡ g.line ++ part → TakesMore g (pushed_line longer true) bytes (take (length bytes - (at + 1)) behind) in
    subst To (sym is) (λ longer_is. record {
      taken = part ++ 10 ∷ [];
      took = cut ∙ ap (λ l. part ++ 10 ∷ l) (sym all) ∙ sym (append_assoc part (10 ∷ []) (take (length bytes - (at + 1)) behind));
      bytes = ap (λ l. l ++ (part ++ 10 ∷ [])) (append-nil line) ∙ sym (append_assoc line part (10 ∷ [])) ∙ ap (λ l. l ++ 10 ∷ []) (sym longer_is);
    }) grown

pub whole_line : (line : List ℕ) (size : ℕ) → size ≡ length line + 1 → IsWholeLine (pushed_line line true) size
whole_line line size e = record { ends = tt; counted = omega (arith, e, length-append line (10 ∷ [])); some_byte = omega (arith, e) }

-- the piece ends no line
pub goes_on : (h new : HeldLine) (line bytes : List ℕ) → h ≡ pushed_line line false → new ≡ pushed_line (h.line ++ bytes) false → TakesMore h new bytes []
goes_on h new line bytes is grown =
    let From : HeldLine → Type 0 = λ g. new ≡ pushed_line (g.line ++ bytes) false → TakesMore g new bytes [] in
    let To : HeldLine → Type 0 = λ g. TakesMore (pushed_line line false) g bytes [] in
    subst From (sym is) (λ e. subst To (sym e) (record {
      taken = bytes;
      took = sym (append-nil bytes);
      bytes = ap (λ l. l ++ bytes) (append-nil line) ∙ sym (append-nil (line ++ bytes));
    })) grown

-- the line is refused
pub not_pushed : (h new : HeldLine) (room : ℕ) (fault : LineFault) (bytes part rest after : List ℕ) → bytes ≡ part ++ rest → IsPlain part → IsNoPart (h.line ++ part) room fault
    → PushAnswer h new room (Err fault) bytes after
not_pushed h new room TooLong bytes part rest after cut plain long = record { part = part; rest = rest; cut = cut; plain = plain; long = long }
not_pushed h new room ReadFault bytes part rest after cut plain none = absurd none
not_pushed h new room NoMemory bytes part rest after cut plain none = tt
