-- Lines of an input that tells its bytes, one after another.
use Rattle.std.proofs.Common.{◌≡◌, ℕ, ◌+◌, ◌<◌, ◌≤◌, ◌⊎◌, List, [], ◌∷◌, ◌++◌, length, Bool, true, false, Option, Some, None, IsTrue, IsFalse, refl, ap, sym, inl, inr, ◌∙◌, arith, append_assoc, length-append}
use Rattle.std.proofs.lemmas.List.{append-nil}
use Rattle.std.proofs.lemmas.List.Elements.{All-nil, All-push}
use Rattle.std.proofs.lemmas.Bool.{false≢true}
use Rattle.script_text.specs.declared.faults.ScriptFault.{ScriptFault}
use Rattle.script_text.specs.declared.faults.ScriptFault.TheVariants.{BadLine, TooLong, ReadFault, NoMemory}
use Rattle.input_lines.specs.declared.intake.LineEnd.{LineEnd}
use Rattle.input_lines.specs.declared.intake.LineEnd.TheVariants.{Newline, Input}
use Rattle.input_lines.specs.Lines.{unlines, IsPlain}
use Rattle.script_text.specs.Script.{Place, Item, Walk, Stop, too_long, bad_line, arrived, stuck, chain, counted, accept, finish, reading}
use Rattle.script_text.specs.Causes.{next_cause, stop_cause}
use Rattle.script_text.specs.Reader.{Held, UsesLines, GoesOn, StopsAtBad, Refuses, stuck_after}
use Rattle.input_lines.specs.Held.{Taken, HeldLine, newline_of, bytes_of, HasEnd, IsWholeLine, TakesMore, TakesNext, IsPastLimit, after_line}
use Rattle.script_text.specs.inner.Judging.{IsBadAt, IsStuckBy, held_at}
use Rattle.input_lines.proofs.LineLists.{unlines-push}
use Rattle.script_text.proofs.StopCauses.{next_cause-whole, stop_cause-used, stop_cause-stuck}
use Rattle.script_text.proofs.ReadWalk.{line_at, walk-push, reading-line, reading-tail, reading-long, last_line-some}

-- ---- the next line of an input

whole_by : (line : List ℕ) (line_end : Option LineEnd) (rest : Taken) (size : ℕ) (left : List ℕ) (p : Place) → HasEnd line_end rest → size ≡ length (line ++ newline_of line_end) → 1 ≤ size
    → IsPlain line → (IsTrue rest.ended → left ≡ [])
    → reading ((line ++ (newline_of line_end ++ rest.bytes)) ++ left) p ≡ chain (accept size line p) (reading (rest.bytes ++ left))
whole_by line None rest size left p ends counted low plain at_end = absurd ends
whole_by line (Some Newline) rest size left p ends counted low plain at_end =
    let same : length line + 1 ≡ size = omega (arith, counted, length-append line (10 ∷ [])) in
    ap (λ bytes. reading bytes p) (append_assoc line (10 ∷ rest.bytes) left)
    ∙ reading-line line (rest.bytes ++ left) p plain
    ∙ ap (λ n. chain (accept n line p) (reading (rest.bytes ++ left))) same
whole_by line (Some Input) rest size left p ends counted low plain at_end =
    let nothing : rest.bytes ++ left ≡ [] = ap (λ l. l ++ left) ends.0 ∙ at_end ends.1 in
    let same : length line ≡ size = ap length (sym (append-nil line)) ∙ sym counted in
    ap (λ bytes. reading bytes p) (append_assoc line rest.bytes left ∙ ap (λ l. line ++ l) nothing ∙ append-nil line)
    ∙ reading-tail line p plain ∙ last_line-some line p (omega arith)
    ∙ ap (λ n. chain (accept n line p) finish) same
    ∙ ap (λ l. chain (accept size line p) (reading l)) (sym nothing)

pub reading-whole : (h : HeldLine) (size : ℕ) (left : List ℕ) (p : Place) → IsWholeLine h size → IsPlain h.line → (IsTrue h.rest.ended → left ≡ [])
    → reading (bytes_of h ++ left) p ≡ chain (accept size h.line p) (reading (h.rest.bytes ++ left))
reading-whole h size left p w plain at_end = whole_by h.line h.line_end h.rest size left p w.ends w.counted w.some_byte plain at_end

-- ---- walks that go on

chain-arrived_arrived : (xs ys : List Item) (p q : Place) (f : Place → Walk) → chain (arrived xs p) (λ r. chain (arrived ys q) f) ≡ chain (arrived (xs ++ ys) q) f
chain-arrived_arrived xs ys p q f = ap (λ items. record { items = items; ends = (f q).ends }) (sym (append_assoc xs ys (f q).items))

chain-arrived_stuck : (xs : List Item) (p : Place) (s : Stop) → chain (arrived xs p) (λ r. stuck s) ≡ stuck_after xs s
chain-arrived_stuck xs p s = ap (λ items. stuck_after items s) (append-nil xs)

-- ---- one line more

pub goes_nowhere : (old : Held) (left : List ℕ) → (IsTrue old.ended → left ≡ []) → GoesOn old old left left []
goes_nowhere old left at_end = record {
  taken = [];
  took = refl;
  same = refl;
  cause = refl;
  at_end = at_end;
  used = λ going. record { lines = []; plain = All-nil IsPlain; bytes = append-nil old.bytes; walked = refl };
}

pub not_ended : (before now : Bool) → (before ≡ true → now ≡ true) → now ≡ false → before ≡ false
not_ended true now h e = absurd (false≢true (sym e ∙ h refl))
not_ended false now h e = refl

pub uses_more : (old : Held) (p : Place) (h now : HeldLine) (taken more : List ℕ) (items : List Item) → bytes_of h ++ more ≡ bytes_of now → UsesLines old (held_at p h) taken items
    → UsesLines old (held_at p now) (taken ++ more) items
uses_more old p h now taken more items bytes u = record {
  lines = u.lines;
  plain = u.plain;
  bytes = sym (append_assoc old.bytes taken more) ∙ ap (λ l. l ++ more) u.bytes ∙ append_assoc (unlines u.lines) (bytes_of h) more ∙ ap (λ l. unlines u.lines ++ l) bytes;
  walked = u.walked;
}

bytes_more : (h now : HeldLine) (y z : List ℕ) → TakesMore h now y z → bytes_of h ++ y ≡ bytes_of now ++ z
bytes_more h now y z t = ap (λ l. bytes_of h ++ l) t.took ∙ sym (append_assoc (bytes_of h) t.taken z) ∙ ap (λ l. l ++ z) t.bytes

same_more : (old : Held) (p : Place) (h now : HeldLine) (x y z : List ℕ) (items : List Item) → GoesOn old (held_at p h) x y items → TakesMore h now y z
    → reading (old.bytes ++ x) old.place ≡ chain (arrived items p) (reading (bytes_of now ++ z))
same_more old p h now x y z items g t = g.same ∙ ap (λ l. chain (arrived items p) (reading l)) (bytes_more h now y z t)

pub took_more : (x y z taken more : List ℕ) → x ≡ taken ++ y → y ≡ more ++ z → x ≡ (taken ++ more) ++ z
took_more x y z taken more first next = first ∙ ap (λ l. taken ++ l) next ∙ sym (append_assoc taken more z)

-- the next line was found
pub goes_next : (old : Held) (p : Place) (h now : HeldLine) (x y z : List ℕ) (items : List Item) → (IsTrue h.rest.ended → IsTrue now.rest.ended) → GoesOn old (held_at p h) x y items → TakesNext h now y z
    → GoesOn old (held_at p now) x z items
goes_next old p h now x y z items stays g t = record {
  taken = g.taken ++ t.more.taken;
  took = took_more x y z g.taken t.more.taken g.took t.more.took;
  same = same_more old p h now x y z items g t.more;
  cause = g.cause ∙ ap (λ l. stop_cause l p) (bytes_more h now y z t.more);
  at_end = t.at_end;
  used = λ going. uses_more old p h now g.taken t.more.taken items t.more.bytes (g.used (not_ended h.rest.ended now.rest.ended stays going));
}

pub uses_line : (old : Held) (p q : Place) (h : HeldLine) (line_end : Option LineEnd) (size : ℕ) (taken : List ℕ) (xs ys : List Item) → h.line_end ≡ line_end → HasEnd line_end h.rest
    → size ≡ length (h.line ++ newline_of line_end) → IsPlain h.line → accept size h.line p ≡ arrived ys q → IsFalse h.rest.ended → UsesLines old (held_at p h) taken xs
    → UsesLines old (held_at q (after_line h)) taken (xs ++ ys)
uses_line old p q h None size taken xs ys is ends counted plain e going u = absurd ends
uses_line old p q h (Some Input) size taken xs ys is ends counted plain e going u = absurd (false≢true (sym going ∙ ends.1))
uses_line old p q h (Some Newline) size taken xs ys is ends counted plain e going u =
    let same : size ≡ length h.line + 1 = omega (arith, counted, length-append h.line (10 ∷ [])) in
    let at : line_at h.line p ≡ arrived ys q = ap (λ n. accept n h.line p) (sym same) ∙ e in
    record {
      lines = u.lines ++ h.line ∷ [];
      plain = All-push IsPlain u.lines h.line u.plain plain;
      bytes = u.bytes ∙ ap (λ l. unlines u.lines ++ (h.line ++ (newline_of l ++ h.rest.bytes))) is ∙ sym (unlines-push u.lines h.line h.rest.bytes);
      walked = walk-push u.lines h.line old.place ∙ ap (λ w. chain w (line_at h.line)) u.walked ∙ ap (λ w. chain (arrived xs p) (λ r. w)) at;
    }

-- the line that is held was used
pub goes_line : (old : Held) (p q : Place) (h : HeldLine) (size : ℕ) (x z : List ℕ) (xs ys : List Item) → IsWholeLine h size → IsPlain h.line → accept size h.line p ≡ arrived ys q
    → GoesOn old (held_at p h) x z xs → GoesOn old (held_at q (after_line h)) x z (xs ++ ys)
goes_line old p q h size x z xs ys w plain e g = record {
  taken = g.taken;
  took = g.took;
  same = g.same ∙ ap (λ v. chain (arrived xs p) (λ r. v)) (reading-whole h size z p w plain g.at_end ∙ ap (λ v. chain v (reading (h.rest.bytes ++ z))) e)
      ∙ chain-arrived_arrived xs ys p q (reading (h.rest.bytes ++ z));
  cause = g.cause ∙ stop_cause-used h size z p q ys w plain g.at_end e;
  at_end = g.at_end;
  used = λ going. uses_line old p q h h.line_end size g.taken xs ys refl w.ends w.counted plain e going (g.used going);
}

-- ---- refusals

-- the line that is held is stuck
pub stuck_line : (old : Held) (p : Place) (h : HeldLine) (size : ℕ) (x z : List ℕ) (items : List Item) (s : Stop) → IsWholeLine h size → IsPlain h.line → accept size h.line p ≡ stuck s
    → GoesOn old (held_at p h) x z items → reading (old.bytes ++ x) old.place ≡ stuck_after items s
stuck_line old p h size x z items s w plain e g =
    g.same ∙ ap (λ v. chain (arrived items p) (λ r. v)) (reading-whole h size z p w plain g.at_end ∙ ap (λ v. chain v (reading (h.rest.bytes ++ z))) e)
    ∙ chain-arrived_stuck items p s

-- the line that is held is bad, and stays held
pub stops_line : (old : Held) (p q : Place) (h : HeldLine) (size : ℕ) (x z : List ℕ) (items : List Item) (n : ℕ) → IsWholeLine h size → IsPlain h.line → accept size h.line p ≡ stuck (bad_line n)
    → q ≡ counted p size → GoesOn old (held_at p h) x z items → StopsAtBad old (held_at q h) x items n
stops_line old p q h size x z items n w plain e at g = record {
  stuck = stuck_line old p h size x z items (bad_line n) w plain e g;
  cause = g.cause ∙ stop_cause-stuck h size z p (bad_line n) w plain g.at_end e ∙ sym (next_cause-whole (counted p size) h size plain w)
      ∙ ap (λ r. next_cause r (bytes_of h)) (sym at);
}

pub refuses_line : (old : Held) (p q : Place) (h : HeldLine) (size : ℕ) (x z : List ℕ) (items : List Item) (fault : ScriptFault) → IsWholeLine h size → IsPlain h.line
    → IsStuckBy (accept size h.line p) fault → IsBadAt q (counted p size) fault → GoesOn old (held_at p h) x z items → Refuses old (held_at q h) x z items fault
refuses_line old p q h size x z items (BadLine n) w plain e at g = stops_line old p q h size x z items n w plain e at.0 g
refuses_line old p q h size x z items (TooLong n) w plain e at g = stuck_line old p h size x z items (too_long n) w plain e g
refuses_line old p q h size x z items ReadFault w plain e at g = absurd e
refuses_line old p q h size x z items NoMemory w plain e at g = tt

-- the beginning of a line passes a limit
past_limit : (p : Place) (h : HeldLine) (room : ℕ) → room + p.bytes ≡ 4294967296 → IsPastLimit h room → (8388608 < length h.line) ⊎ (4294967296 < p.bytes + length h.line)
past_limit p h room e (inl long) = inl long
past_limit p h room e (inr long) = inr (omega arith)

pub refuses_long : (old : Held) (p : Place) (h now : HeldLine) (room : ℕ) (x y z : List ℕ) (items : List Item) → room + p.bytes ≡ 4294967296 → IsPlain now.line → GoesOn old (held_at p h) x y items
    → TakesMore h now y z → IsPastLimit now room → reading (old.bytes ++ x) old.place ≡ stuck_after items (too_long (p.lines + 1))
refuses_long old p h now room x y z items e plain g t long =
    let behind = (newline_of now.line_end ++ now.rest.bytes) ++ z in
    let bytes : bytes_of now ++ z ≡ now.line ++ behind = append_assoc now.line (newline_of now.line_end ++ now.rest.bytes) z in
    let stops : reading (bytes_of now ++ z) p ≡ stuck (too_long (p.lines + 1)) = ap (λ l. reading l p) bytes ∙ reading-long now.line behind p (omega arith) plain (past_limit p now room e long) in
    same_more old p h now x y z items g t ∙ ap (λ v. chain (arrived items p) (λ r. v)) stops ∙ chain-arrived_stuck items p (too_long (p.lines + 1))
