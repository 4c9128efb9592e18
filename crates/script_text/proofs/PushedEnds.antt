-- The end of an input that is pushed.
use Rattle.std.proofs.Common.{◌≡◌, ℕ, ◌+◌, ◌≤◌, List, [], ◌∷◌, ◌++◌, length, Bool, true, false, Option, Some, None, Result, Ok, Err, refl, ap, sym, subst, ◌∙◌, arith}
use Rattle.std.proofs.lemmas.List.{append-nil}
use Rattle.input_lines.specs.declared.intake.LineEnd.{LineEnd}
use Rattle.input_lines.specs.declared.intake.LineEnd.TheVariants.{Newline, Input}
use Rattle.input_lines.specs.Lines.{IsPlain}
use Rattle.input_lines.specs.Held.{HeldLine, IsWholeLine, Taken, after_line, bytes_of, newline_of}
use Rattle.script_text.specs.declared.faults.ScriptFault.{ScriptFault}
use Rattle.script_text.specs.declared.faults.ScriptFault.TheVariants.{BadLine, TooLong, ReadFault, NoMemory}
use Rattle.script_text.specs.declared.items.ScriptItem.{ScriptItem}
use Rattle.script_text.specs.Script.{Place, Item, Walk, bad_line, arrived, stuck, chain, counted, accept, finish, reading}
use Rattle.script_text.specs.Causes.{cause, end_cause, next_cause, stop_cause}
use Rattle.script_text.specs.Reader.{Held, HoldsRefused, held_cause}
use Rattle.script_text.specs.Pushed.{EndTold, item_of}
use Rattle.script_text.specs.inner.Judging.{EndsHere, IsBadAt, IsStuckBy, held_at}
use Rattle.script_text.proofs.HeldCauses.{holds_refused}
use Rattle.script_text.proofs.ReadNext.{reading-whole}
use Rattle.script_text.proofs.StopCauses.{next_cause-whole, stop_cause-used, stop_cause-stuck}
use Rattle.script_text.proofs.PushedReads.{nothing_behind}

-- ---- the last line

-- how the line ended where the input ends behind it
last_end : Option LineEnd → Option LineEnd
last_end None = Some Input
last_end (Some Newline) = Some Newline
last_end (Some Input) = Some Input

-- what is held, as the last line of an input that has ended
last : HeldLine → HeldLine
last h = record { line = h.line; line_end = last_end h.line_end; rest = record { bytes = []; ended = true } }

last_by : (line_end : Option LineEnd) (line : List ℕ) → line ++ (newline_of line_end ++ []) ≡ line ++ (newline_of (last_end line_end) ++ [])
unfolding last_end
last_by None line = refl
last_by (Some Newline) line = refl
last_by (Some Input) line = refl

-- the same bytes are held
last_bytes : (h : HeldLine) → h.rest ≡ nothing_behind → bytes_of h ≡ bytes_of (last h)
unfolding last
last_bytes h behind = ap (λ (r : Taken). h.line ++ (newline_of h.line_end ++ r.bytes)) behind ∙ last_by h.line_end h.line

last_whole : (line_end : Option LineEnd) (line : List ℕ) (size : ℕ) → size ≡ length (line ++ (newline_of (last_end line_end) ++ [])) → 1 ≤ size
    → IsWholeLine (record { line = line; line_end = last_end line_end; rest = record { bytes = []; ended = true } }) size
unfolding last_end
last_whole None line size counted some = record { ends = (refl, refl); counted = counted; some_byte = some }
last_whole (Some Newline) line size counted some = record { ends = tt; counted = counted; some_byte = some }
last_whole (Some Input) line size counted some = record { ends = (refl, refl); counted = counted; some_byte = some }

-- it is whole
last_is_whole : (h : HeldLine) (size : ℕ) → h.rest ≡ nothing_behind → size ≡ length (bytes_of h) → 1 ≤ size → IsWholeLine (last h) size
unfolding last
last_is_whole h size behind counted some = last_whole h.line_end h.line size (counted ∙ ap length (last_bytes h behind)) some

reading-last : (h : HeldLine) (size : ℕ) (p : Place) → h.rest ≡ nothing_behind → size ≡ length (bytes_of h) → 1 ≤ size → IsPlain h.line → reading (bytes_of h) p ≡ chain (accept size h.line p) finish
unfolding last
reading-last h size p behind counted some plain =
    ap (λ bytes. reading bytes p) (last_bytes h behind ∙ sym (append-nil (bytes_of (last h)))) ∙ reading-whole (last h) size [] p (last_is_whole h size behind counted some) plain (λ ended. refl)

cause-used : (h : HeldLine) (size : ℕ) (p q : Place) (items : List Item) → h.rest ≡ nothing_behind → size ≡ length (bytes_of h) → 1 ≤ size → IsPlain h.line → accept size h.line p ≡ arrived items q
    → stop_cause (bytes_of h) p ≡ end_cause q.part q.posts
unfolding last
cause-used h size p q items behind counted some plain e =
    ap (λ bytes. stop_cause bytes p) (last_bytes h behind ∙ sym (append-nil (bytes_of (last h)))) ∙ stop_cause-used (last h) size [] p q items (last_is_whole h size behind counted some) plain (λ ended. refl) e

cause-bad : (h : HeldLine) (size n : ℕ) (p : Place) → h.rest ≡ nothing_behind → size ≡ length (bytes_of h) → 1 ≤ size → IsPlain h.line → accept size h.line p ≡ stuck (bad_line n)
    → stop_cause (bytes_of h) p ≡ held_cause (held_at (counted p size) h)
unfolding last
cause-bad h size n p behind total some plain e =
    let whole = last_is_whole h size behind total some in
    ap (λ bytes. stop_cause bytes p) (last_bytes h behind ∙ sym (append-nil (bytes_of (last h)))) ∙ stop_cause-stuck (last h) size [] p (bad_line n) whole plain (λ ended. refl) e
    ∙ sym (next_cause-whole (counted p size) (last h) size plain whole)
    ∙ ap (λ bytes. held_cause (record { place = counted p size; bytes = bytes; ended = h.rest.ended; over = false; failed = false })) (sym (last_bytes h behind))

-- why the line that is held is not in the grammar
pub cause-held : (p : Place) (h : HeldLine) (size : ℕ) → h.rest ≡ nothing_behind → size ≡ length (bytes_of h) → 1 ≤ size → IsPlain h.line → next_cause p (bytes_of h) ≡ cause p.part (p.turns + 1) h.line
unfolding last
cause-held p h size behind total some plain = ap (next_cause p) (last_bytes h behind) ∙ next_cause-whole p (last h) size plain (last_is_whole h size behind total some)

after_bytes : (h after : HeldLine) → after ≡ after_line h → h.rest ≡ nothing_behind → bytes_of after ≡ []
after_bytes h after used behind = ap bytes_of used ∙ ap (λ (r : Taken). r.bytes) behind

cause-nothing : (p : Place) (bytes : List ℕ) (ended : Bool) → bytes ≡ [] → end_cause p.part p.posts ≡ held_cause (record { place = p; bytes = bytes; ended = ended; over = false; failed = false })
cause-nothing p [] ended e = refl
cause-nothing p (byte ∷ bytes) ended e = absurd (cc)

-- it gives something
pub last_gives : (p q : Place) (h after : HeldLine) (size : ℕ) (item : ScriptItem) → h.rest ≡ nothing_behind → size ≡ length (bytes_of h) → 1 ≤ size → IsPlain h.line → after ≡ after_line h
    → accept size h.line p ≡ arrived (item_of item ∷ []) q → EndTold (held_at p h) (held_at q after) (Ok (Some item))
last_gives p q h after size item behind counted some plain used e =
    let nothing = after_bytes h after used behind in
    record {
      same = reading-last h size p behind counted some plain ∙ ap (λ w. chain w finish) e;
      cause = cause-used h size p q (item_of item ∷ []) behind counted some plain e ∙ cause-nothing q (bytes_of after) after.rest.ended nothing;
      nothing = nothing;
    }

-- it is refused
pub last_refused : (p q : Place) (h after : HeldLine) (size : ℕ) (fault : ScriptFault) → h.rest ≡ nothing_behind → size ≡ length (bytes_of h) → 1 ≤ size → IsPlain h.line → after ≡ h
    → IsStuckBy (accept size h.line p) fault → IsBadAt q (counted p size) fault → (fault ≡ NoMemory → q ≡ p) → EndTold (held_at p h) (held_at q after) (Err fault)
last_refused p q h after size (BadLine n) behind total some plain same e at kept =
    let Held : HeldLine → Type 0 = λ l. EndTold (held_at p h) (held_at q l) (Err (BadLine n)) in
    let At : Place → Type 0 = λ r. EndTold (held_at p h) (held_at r h) (Err (BadLine n)) in
    subst Held (sym same) (subst At (sym at.0) (record {
      stuck = reading-last h size p behind total some plain ∙ ap (λ w. chain w finish) e;
      cause = cause-bad h size n p behind total some plain e;
    }))
last_refused p q h after size (TooLong n) behind total some plain same e at kept = reading-last h size p behind total some plain ∙ ap (λ w. chain w finish) e
last_refused p q h after size ReadFault behind total some plain same e at kept = absurd e
last_refused p q h after size NoMemory behind total some plain same e at kept = (kept refl, ap bytes_of same)

-- ---- the end

ends_by : (first last : Held) (w : Walk) (result : Result (Option ScriptItem) ScriptFault) → reading first.bytes first.place ≡ w → stop_cause first.bytes first.place ≡ held_cause last → last.bytes ≡ [] → EndsHere w result
    → (result ≡ Err NoMemory → ⊥) → EndTold first last result
ends_by first last w (Ok None) same cause nothing e some = (same ∙ e, nothing)
ends_by first last w (Ok (Some item)) same cause nothing e some = absurd e
ends_by first last w (Err (BadLine n)) same cause nothing e some = record { stuck = same ∙ e; cause = cause }
ends_by first last w (Err (TooLong n)) same cause nothing e some = same ∙ e
ends_by first last w (Err ReadFault) same cause nothing e some = absurd e
ends_by first last w (Err NoMemory) same cause nothing e some = absurd (some refl)

-- behind a last line that gives nothing
pub end_behind : (p q : Place) (h after : HeldLine) (size : ℕ) (result : Result (Option ScriptItem) ScriptFault) → h.rest ≡ nothing_behind → size ≡ length (bytes_of h) → 1 ≤ size → IsPlain h.line
    → after ≡ after_line h → accept size h.line p ≡ arrived [] q → EndsHere (finish q) result → (result ≡ Err NoMemory → ⊥) → EndTold (held_at p h) (held_at q after) result
end_behind p q h after size result behind counted some plain used e ends not_memory =
    let nothing = after_bytes h after used behind in
    ends_by (held_at p h) (held_at q after) (finish q) result (reading-last h size p behind counted some plain ∙ ap (λ w. chain w finish) e)
    (cause-used h size p q [] behind counted some plain e ∙ cause-nothing q (bytes_of after) after.rest.ended nothing) nothing ends not_memory

no_bytes : (bytes : List ℕ) → length bytes ≡ 0 → bytes ≡ []
no_bytes [] e = refl
no_bytes (byte ∷ bytes) e = absurd (omega (arith, e))

-- where nothing is held
pub end_alone : (p : Place) (h : HeldLine) (result : Result (Option ScriptItem) ScriptFault) → length (bytes_of h) ≡ 0 → EndsHere (finish p) result → (result ≡ Err NoMemory → ⊥)
    → EndTold (held_at p h) (held_at p h) result
end_alone p h result empty ends not_memory =
    let nothing = no_bytes (bytes_of h) empty in
    ends_by (held_at p h) (held_at p h) (finish p) result (ap (λ bytes. reading bytes p) nothing)
    (ap (λ bytes. stop_cause bytes p) nothing ∙ cause-nothing p (bytes_of h) h.rest.ended nothing) nothing ends not_memory

-- ---- what a refusal leaves held

same_holds : (old new : Held) (fault : ScriptFault) → new.place ≡ old.place → new.bytes ≡ old.bytes → HoldsRefused old fault → HoldsRefused new fault
same_holds old new (BadLine n) place bytes bad =
    let At : Place → Type 0 = λ r. HoldsRefused (record { place = r; bytes = new.bytes; ended = new.ended; over = new.over; failed = new.failed }) (BadLine n) in
    let Bytes : List ℕ → Type 0 = λ l. HoldsRefused (record { place = old.place; bytes = l; ended = new.ended; over = new.over; failed = new.failed }) (BadLine n) in
    subst At (sym place) (subst Bytes (sym bytes) (record { number = bad.number; cause = bad.cause }))
same_holds old new (TooLong n) place bytes bad = tt
same_holds old new ReadFault place bytes bad = tt
same_holds old new NoMemory place bytes bad = tt

pub last_holds : (p q : Place) (h after : HeldLine) (size : ℕ) (fault : ScriptFault) → h.rest ≡ nothing_behind → size ≡ length (bytes_of h) → 1 ≤ size → IsPlain h.line → after ≡ h
    → IsStuckBy (accept size h.line p) fault → IsBadAt q (counted p size) fault → HoldsRefused (held_at q after) fault
unfolding last
last_holds p q h after size fault behind total some plain same e at =
    same_holds (held_at q (last h)) (held_at q after) fault refl (ap bytes_of same ∙ last_bytes h behind)
    (holds_refused p q (last h) size fault h.line refl plain (last_is_whole h size behind total some) e at)
