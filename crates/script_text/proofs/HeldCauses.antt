-- What a reader holds after a bad line has a cause.
use Rattle.std.proofs.Common.{◌≡◌, ◌≢◌, ℕ, ◌+◌, ◌≤◌, List, [], ◌∷◌, cond, Bool, true, false, refl, ap, sym, subst, ◌∙◌}
use Rattle.std.specs.Prelude.{IsSome}
use Rattle.script_text.specs.declared.faults.ScriptFault.{ScriptFault}
use Rattle.script_text.specs.declared.faults.ScriptFault.TheVariants.{BadLine, TooLong, ReadFault, NoMemory}
use Rattle.input_lines.specs.Lines.{IsPlain, first_line}
use Rattle.script_text.specs.Script.{Place, Walk, bad, bad_line, counted, placed, stuck, too_long, is_long, accept, reading_of}
use Rattle.script_text.specs.Reader.{HoldsBad, HoldsRefused}
use Rattle.script_text.specs.Causes.{cause}
use Rattle.input_lines.specs.Held.{HeldLine, newline_of, bytes_of, IsWholeLine}
use Rattle.script_text.specs.inner.Judging.{IsBadAt, IsStuckBy, held_at}
use Rattle.input_lines.proofs.FirstLines.{first_of_whole, some_held}
use Rattle.script_text.proofs.CauseLemmas.{bad_line-cause}

-- a bad line that is held first has its number and its cause
by_bytes : (p : Place) (bytes : List ℕ) (ended : Bool) → bytes ≢ [] → IsSome (cause p.part (p.turns + 1) (first_line bytes))
    → HoldsBad p.lines (record { place = p; bytes = bytes; ended = ended; over = false; failed = false })
by_bytes p [] ended some found = absurd (some refl)
by_bytes p (byte ∷ bytes) ended some found = record { number = refl; cause = found }

-- a line that is stuck as a bad one is bad in its place
bad_accept : (p : Place) (line : List ℕ) (size : ℕ) → accept size line p ≡ stuck (bad_line (counted p size).lines) → placed (counted p size) (reading_of line) ≡ bad (counted p size)
bad_accept p line size e = by_length (is_long p size line) e
  where
    by_length : (long : Bool) → cond long (stuck (too_long (p.lines + 1))) (placed (counted p size) (reading_of line)) ≡ stuck (bad_line (counted p size).lines)
        → placed (counted p size) (reading_of line) ≡ bad (counted p size)
    by_length true e = let ends = ap (λ (w : Walk). w.ends) e in absurd (cc)
    by_length false e = e

holds_line : (p q : Place) (h : HeldLine) (size : ℕ) (fault : ScriptFault) → IsPlain h.line → IsWholeLine h size → IsStuckBy (accept size h.line p) fault
    → IsBadAt q (counted p size) fault → HoldsRefused (held_at q h) fault
holds_line p q h size (TooLong n) plain whole refused at = tt
holds_line p q h size ReadFault plain whole refused at = tt
holds_line p q h size NoMemory plain whole refused at = tt
holds_line p q h size (BadLine n) plain whole refused at =
    let here = counted p size in
    let stands = bad_accept p h.line size (refused ∙ ap (λ m. stuck (bad_line m)) at.1) in
    let why : IsSome (cause here.part (here.turns + 1) h.line) = (bad_line-cause here.part here h.line).0 stands in
    let HasCause : List ℕ → Type 0 = λ line. IsSome (cause here.part (here.turns + 1) line) in
    let first = first_of_whole h.line h.line_end h.rest plain whole.ends in
    let some = some_held h.line (newline_of h.line_end) h.rest.bytes (subst (λ m. 1 ≤ m) whole.counted whole.some_byte) in
    let holds : HoldsBad here.lines (held_at here h) = by_bytes here (bytes_of h) h.rest.ended some (subst HasCause (sym first) why) in
    let At : Place → Type 0 = λ r. HoldsBad here.lines (held_at r h) in
    let Numbered : ℕ → Type 0 = λ m. HoldsBad m (held_at q h) in
    subst Numbered (sym at.1) (subst At (sym at.0) holds)

pub holds_refused : (p q : Place) (h : HeldLine) (size : ℕ) (fault : ScriptFault) (line : List ℕ) → line ≡ h.line → IsPlain line → IsWholeLine h size
    → IsStuckBy (accept size line p) fault → IsBadAt q (counted p size) fault → HoldsRefused (held_at q h) fault
holds_refused p q h size fault line same plain whole refused at =
    let Refused : List ℕ → Type 0 = λ l. IsStuckBy (accept size l p) fault in
    holds_line p q h size fault (subst IsPlain same plain) whole (subst Refused same refused) at
