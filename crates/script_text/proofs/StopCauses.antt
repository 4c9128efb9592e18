-- Why an input stops, line by line.
use Rattle.std.proofs.Common.{◌≡◌, ◌≢◌, ℕ, ◌+◌, ◌<◌, ◌≤◌, List, [], ◌∷◌, ◌++◌, length, Option, Some, None, IsTrue, refl, ap, sym, subst, ◌∙◌, arith, append_assoc, length-append}
use Rattle.std.proofs.lemmas.List.{append-nil}
use Rattle.input_lines.specs.declared.intake.LineEnd.{LineEnd}
use Rattle.input_lines.specs.declared.intake.LineEnd.TheVariants.{Newline, Input}
use Rattle.input_lines.specs.Lines.{first_line, full_lines, tail_of, IsPlain}
use Rattle.script_text.specs.Script.{Place, Item, Stop, Walk, arrived, stuck, accept}
use Rattle.script_text.specs.Causes.{cause, cause_from, next_cause, line_cause, lines_cause, last_cause, stop_cause}
use Rattle.input_lines.specs.Held.{Taken, HeldLine, newline_of, bytes_of, HasEnd, IsWholeLine}
use Rattle.input_lines.proofs.FirstLines.{first_of_whole, some_held}
use Rattle.input_lines.proofs.LineLists.{full_lines-plain, tail_of-plain, full_lines-line, tail_of-line}

stop_cause-line : (line rest : List ℕ) (p : Place) → IsPlain line → stop_cause (line ++ 10 ∷ rest) p ≡ line_cause (length line + 1) line p (stop_cause rest)
stop_cause-line line rest p plain =
    ap (λ lines. lines_cause lines p (last_cause (tail_of (line ++ 10 ∷ rest)))) (full_lines-line line rest plain)
    ∙ ap (λ tail. lines_cause (line ∷ full_lines rest) p (last_cause tail)) (tail_of-line line rest plain)

last_cause-some : (line : List ℕ) (p : Place) → 0 < length line → last_cause line p ≡ line_cause (length line) line p (stop_cause [])
last_cause-some [] p h = absurd (omega arith)
last_cause-some (byte ∷ line) p h = refl

stop_cause-tail : (line : List ℕ) (p : Place) → IsPlain line → stop_cause line p ≡ last_cause line p
stop_cause-tail line p plain =
    ap (λ lines. lines_cause lines p (last_cause (tail_of line))) (full_lines-plain line plain) ∙ ap (λ tail. last_cause tail p) (tail_of-plain line plain)

whole_by : (line : List ℕ) (line_end : Option LineEnd) (rest : Taken) (size : ℕ) (left : List ℕ) (p : Place) → HasEnd line_end rest → size ≡ length (line ++ newline_of line_end) → 1 ≤ size
    → IsPlain line → (IsTrue rest.ended → left ≡ [])
    → stop_cause ((line ++ (newline_of line_end ++ rest.bytes)) ++ left) p ≡ line_cause size line p (stop_cause (rest.bytes ++ left))
whole_by line None rest size left p ends counted low plain at_end = absurd ends
whole_by line (Some Newline) rest size left p ends counted low plain at_end =
    let same : length line + 1 ≡ size = omega (arith, counted, length-append line (10 ∷ [])) in
    ap (λ bytes. stop_cause bytes p) (append_assoc line (10 ∷ rest.bytes) left)
    ∙ stop_cause-line line (rest.bytes ++ left) p plain
    ∙ ap (λ n. line_cause n line p (stop_cause (rest.bytes ++ left))) same
whole_by line (Some Input) rest size left p ends counted low plain at_end =
    let nothing : rest.bytes ++ left ≡ [] = ap (λ l. l ++ left) ends.0 ∙ at_end ends.1 in
    let same : length line ≡ size = ap length (sym (append-nil line)) ∙ sym counted in
    ap (λ bytes. stop_cause bytes p) (append_assoc line rest.bytes left ∙ ap (λ l. line ++ l) nothing ∙ append-nil line)
    ∙ stop_cause-tail line p plain ∙ last_cause-some line p (omega arith)
    ∙ ap (λ n. line_cause n line p (stop_cause [])) same
    ∙ ap (λ l. line_cause size line p (stop_cause l)) (sym nothing)

-- a line that is held whole was used
pub stop_cause-used : (h : HeldLine) (size : ℕ) (left : List ℕ) (p q : Place) (items : List Item) → IsWholeLine h size → IsPlain h.line → (IsTrue h.rest.ended → left ≡ [])
    → accept size h.line p ≡ arrived items q → stop_cause (bytes_of h ++ left) p ≡ stop_cause (h.rest.bytes ++ left) q
stop_cause-used h size left p q items w plain at_end e =
    whole_by h.line h.line_end h.rest size left p w.ends w.counted w.some_byte plain at_end
    ∙ ap (λ (v : Walk). cause_from v.ends (cause p.part (p.turns + 1) h.line) (stop_cause (h.rest.bytes ++ left))) e

-- the input stops at a line that is held whole
pub stop_cause-stuck : (h : HeldLine) (size : ℕ) (left : List ℕ) (p : Place) (s : Stop) → IsWholeLine h size → IsPlain h.line → (IsTrue h.rest.ended → left ≡ [])
    → accept size h.line p ≡ stuck s → stop_cause (bytes_of h ++ left) p ≡ cause p.part (p.turns + 1) h.line
stop_cause-stuck h size left p s w plain at_end e =
    whole_by h.line h.line_end h.rest size left p w.ends w.counted w.some_byte plain at_end
    ∙ ap (λ (v : Walk). cause_from v.ends (cause p.part (p.turns + 1) h.line) (stop_cause (h.rest.bytes ++ left))) e

-- ---- what is held

next_cause-some : (p : Place) (bytes : List ℕ) → bytes ≢ [] → next_cause p bytes ≡ cause p.part (p.turns + 1) (first_line bytes)
next_cause-some p [] some = absurd (some refl)
next_cause-some p (byte ∷ bytes) some = refl

-- the next cause is that of the line that is held whole
pub next_cause-whole : (p : Place) (h : HeldLine) (size : ℕ) → IsPlain h.line → IsWholeLine h size → next_cause p (bytes_of h) ≡ cause p.part (p.turns + 1) h.line
next_cause-whole p h size plain whole =
    let some = some_held h.line (newline_of h.line_end) h.rest.bytes (subst (λ m. 1 ≤ m) whole.counted whole.some_byte) in
    next_cause-some p (bytes_of h) some ∙ ap (λ line. cause p.part (p.turns + 1) line) (first_of_whole h.line h.line_end h.rest plain whole.ends)
