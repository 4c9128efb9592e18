-- A source that is read item by item: what was taken is pushed, and more is taken where it gives nothing.
use Rattle.std.proofs.Common.{◌≡◌, ℕ, ◌+◌, ◌-◌, ◌<◌, ◌≤◌, ◌⊎◌, List, [], ◌∷◌, ◌++◌, length, drop, Bool, true, false, Option, Some, None, Result, Ok, Err, IfErr, IfOk, IfSome, IsTrue, IsFalse, OnErr, OnOk, refl, ap, sym, subst, inl, inr, ◌∙◌, arith, append_assoc, length-append}
use Rattle.std.specs.Prelude.{IsErrOf, is_err}
use Rattle.std.specs.Bool.{⊤}
use Rattle.std.proofs.lemmas.Bool.{false≢true}
use Rattle.std.proofs.lemmas.List.{append-nil, drop_all, drop_at}
use Rattle.std.proofs.lemmas.List.Elements.{All-nil}
use Rattle.io_edges.specs.Faults.{Rose}
use Rattle.input_lines.specs.declared.faults.LineFault.{LineFault}
use Rattle.input_lines.specs.declared.faults.LineFault.TheVariants as no_line
use Rattle.input_lines.specs.Lines.{full_lines, unlines, IsPlain}
use Rattle.input_lines.specs.Held.{Taken, WhereTold, FailsToRefill, Refills, RefillAnswer}
use Rattle.input_lines.proofs.ToldLines.{told-same, told-then, told-weaker}
use Rattle.script_text.specs.declared.faults.ScriptFault.{ScriptFault}
use Rattle.script_text.specs.declared.faults.ScriptFault.TheVariants.{BadLine, TooLong, ReadFault, NoMemory}
use Rattle.script_text.specs.declared.items.ScriptItem.{ScriptItem}
use Rattle.script_text.specs.declared.parts.Rules.{Rules}
use Rattle.script_text.specs.Causes.{next_cause, stop_cause}
use Rattle.script_text.specs.Script.{Item, arrived, chain, reading, too_long, walk}
use Rattle.script_text.specs.Items.{ItemAnswers, ItemTold}
use Rattle.script_text.specs.Pushed.{EndTold, KeepsRules, PushTold, TakenUpTo, is_refused, item_of}
use Rattle.script_text.specs.Reader.{Held, GoesOn, HoldsRefused, HoldsTurn, LeavesHeld, ReadsWhile, Refuses, TakesFrom, TakesNoneAhead, UsesLines, WantsTurn, taken_bytes}
use Rattle.script_text.specs.inner.Judging.{IsApart, IsReadable, IsUsedWhere, PushRefused, PushesOn, TakenAnswers, held_with}
use Rattle.script_text.proofs.ReadCalls.{GoesTold, fault_then, goes_then, stuck_then, uses_then}
use Rattle.script_text.proofs.ReadNeed.{ahead_then, given_ahead}
use Rattle.script_text.proofs.ReadStill.{holds_line}

-- ---- what was taken is pushed

-- some bytes, with the end of the input as yet unmet
abbrev pub piece_of : List ℕ → Bool → Taken
piece_of bytes ended = record { bytes = bytes; ended = ended }

-- what stands in front of the rest of a piece
pub front_of : (piece left taken : List ℕ) → piece ++ [] ≡ taken ++ (left ++ []) → piece ≡ taken ++ left
front_of piece left taken e = sym (append-nil piece) ∙ e ∙ ap (λ l. taken ++ l) (append-nil left)

goes_with : (s0 s1 : Held) (piece left : List ℕ) (ended : Bool) (items : List Item) → IsFalse ended → IsFalse s1.ended → ((more : List ℕ) → GoesOn s0 s1 (piece ++ more) (left ++ more) items) → (more : List ℕ)
    → GoesOn (held_with s0 (piece_of piece ended)) (held_with s1 (piece_of left ended)) more more items
goes_with s0 s1 piece left ended items unmet still on more =
    let g = on more in
    let first = on [] in
    let u = first.used still in
    let took = front_of piece left first.taken first.took in
    let before = append_assoc s0.bytes piece more in
    let after = sym (append_assoc s1.bytes left more) in
    record {
      taken = [];
      took = refl;
      same = ap (λ b. reading b s0.place) before ∙ g.same ∙ ap (λ b. chain (arrived items s1.place) (λ q. reading b q)) after;
      cause = ap (λ b. stop_cause b s0.place) before ∙ g.cause ∙ ap (λ b. stop_cause b s1.place) after;
      at_end = λ end. absurd (false≢true (sym unmet ∙ end));
      used = λ going. record {
        lines = u.lines;
        plain = u.plain;
        bytes = append-nil (s0.bytes ++ piece) ∙ ap (λ l. s0.bytes ++ l) took ∙ sym (append_assoc s0.bytes first.taken left) ∙ ap (λ l. l ++ left) u.bytes
            ∙ append_assoc (unlines u.lines) s1.bytes left;
        walked = u.walked;
      };
    }

-- a line gave an item, or none did
pub taken_ok : (s0 s1 : Held) (piece left : List ℕ) (ended : Bool) (next : Option ScriptItem) → IsFalse ended → IsFalse s1.ended → PushTold s0 s1 piece left (Ok next) → (more : List ℕ)
    → TakenAnswers (held_with s0 (piece_of piece ended)) (held_with s1 (piece_of left ended)) (Ok next) more
taken_ok s0 s1 piece left ended (Some item) unmet still told more = goes_with s0 s1 piece left ended (item_of item ∷ []) unmet still told more
taken_ok s0 s1 piece left ended None unmet still told more = goes_with s0 s1 piece left ended [] unmet still told more

-- a line was refused
pub taken_err : (s0 s1 : Held) (piece left : List ℕ) (ended : Bool) (fault : ScriptFault) → PushTold s0 s1 piece left (Err fault) → (more : List ℕ)
    → TakenAnswers (held_with s0 (piece_of piece ended)) (held_with s1 (piece_of [] ended)) (Err fault) more
taken_err s0 s1 piece left ended (BadLine n) told more =
    let t = told more in
    let before = append_assoc s0.bytes piece more in
    record {
      stuck = ap (λ b. reading b s0.place) before ∙ t.stuck;
      cause = ap (λ b. stop_cause b s0.place) before ∙ t.cause ∙ ap (next_cause s1.place) (sym (append-nil s1.bytes));
    }
taken_err s0 s1 piece left ended (TooLong n) told more = ap (λ b. reading b s0.place) (append_assoc s0.bytes piece more) ∙ told more
taken_err s0 s1 piece left ended ReadFault told more = absurd (told more)
taken_err s0 s1 piece left ended NoMemory told more = tt

-- the rest of a piece stands at its end
pub front_ok : (s0 s1 : Held) (piece left : List ℕ) (next : Option ScriptItem) → PushTold s0 s1 piece left (Ok next) → (front : List ℕ) × (piece ≡ front ++ left)
front_ok s0 s1 piece left (Some item) told = let g = told [] in (g.taken, front_of piece left g.taken g.took)
front_ok s0 s1 piece left None told = let g = told [] in (g.taken, front_of piece left g.taken g.took)

-- what is held lies in the script, or behind it
pub apart_ok : (s0 s1 : Held) (piece left : List ℕ) (ended : Bool) (next : Option ScriptItem) → TakenUpTo s0 s1 piece left (Ok next) → IsApart s1 (piece_of left ended)
apart_ok s0 s1 piece left ended (Some item) up = inl up.nothing
apart_ok s0 s1 piece left ended None up = inr up.0

pub used_ok : (s0 s1 : Held) (piece left : List ℕ) (ended : Bool) (next : Option ScriptItem) → TakenUpTo s0 s1 piece left (Ok next) → IsUsedWhere s1 (piece_of left ended) (Ok next)
used_ok s0 s1 piece left ended (Some item) up = tt
used_ok s0 s1 piece left ended None up = up

-- what a script refused is still held where nothing stands behind it
refused_with : (s : Held) (t : Taken) (fault : ScriptFault) → t.bytes ≡ [] → HoldsRefused s fault → HoldsRefused (held_with s t) fault
refused_with s t (BadLine n) none bad =
    let same : s.bytes ≡ s.bytes ++ t.bytes = sym (append-nil s.bytes) ∙ ap (λ b. s.bytes ++ b) (sym none) in
    let At : List ℕ → Type 0 = λ b. HoldsRefused (record { place = s.place; bytes = b; ended = t.ended; over = false; failed = false }) (BadLine n) in
    subst At same (record { number = bad.number; cause = bad.cause })
refused_with s t (TooLong n) none bad = tt
refused_with s t ReadFault none bad = tt
refused_with s t NoMemory none bad = tt

pub refused_behind : {A : Type 0} (s : Held) (t : Taken) (result : Result A ScriptFault) → t.bytes ≡ [] → IfErr result (HoldsRefused s) → IfErr result (HoldsRefused (held_with s t))
refused_behind s t (Ok given) none bad = tt
refused_behind s t (Err fault) none bad = refused_with s t fault none bad

-- ---- more is taken

-- nothing is told twice
goes_more : (s : Held) (t now : Taken) (y z : List ℕ) → IsFalse t.ended → (IsTrue now.ended → now.bytes ≡ []) → Refills t now y z → GoesOn (held_with s t) (held_with s now) y z []
goes_more s t now y z unmet at_end r =
    let bytes : (s.bytes ++ t.bytes) ++ r.taken ≡ s.bytes ++ now.bytes = append_assoc s.bytes t.bytes r.taken ∙ ap (λ b. s.bytes ++ b) (sym r.bytes) in
    let all : (s.bytes ++ t.bytes) ++ y ≡ (s.bytes ++ now.bytes) ++ z =
    ap (λ b. (s.bytes ++ t.bytes) ++ b) r.took ∙ sym (append_assoc (s.bytes ++ t.bytes) r.taken z) ∙ ap (λ b. b ++ z) bytes in
    record {
      taken = r.taken;
      took = r.took;
      same = ap (λ b. reading b s.place) all;
      cause = ap (λ b. stop_cause b s.place) all;
      at_end = λ ended. r.at_end (at_end ended);
      used = λ going. record { lines = []; plain = All-nil IsPlain; bytes = bytes; walked = refl };
    }

-- the lines used so far gave nothing
pub goes_taken : (old : Held) (s0 s1 : Held) (t0 t1 : Taken) (a b : Option (List ℕ)) → (IsTrue t0.ended → IsTrue t1.ended) → GoesTold old (held_with s0 t0) a b
    → ((left : List ℕ) → GoesOn (held_with s0 t0) (held_with s1 t1) left left []) → GoesTold old (held_with s1 t1) a b
goes_taken old s0 s1 t0 t1 a b stays told on =
    told-weaker a b _ _ (λ x y t end. goes_then old (held_with s0 t0) (held_with s1 t1) x y y [] [] stays (t end) (on y)) told

pub goes_refilled : (old s : Held) (t now : Taken) (a b c : Option (List ℕ)) → IsFalse t.ended → (IsTrue now.ended → now.bytes ≡ []) → GoesTold old (held_with s t) a b
    → WhereTold b c (RefillAnswer t now (Ok tt)) → GoesTold old (held_with s now) a c
goes_refilled old s t now a b c unmet at_end told refilled = told-then a b c _ _ _ (λ x y z g r end.
    goes_then old (held_with s t) (held_with s now) x y z [] [] (λ ended. absurd (false≢true (sym unmet ∙ ended))) (g end)
    (goes_more s t now y z unmet at_end (r (λ ended. absurd (false≢true (sym unmet ∙ ended)))))) told refilled

-- ---- nothing is taken ahead

ahead_by : (h : Held) (t now : Taken) (y z : List ℕ) → IsFalse h.ended → full_lines h.bytes ≡ [] → t.bytes ≡ [] → length now.bytes ≤ 65536 → Refills t now y z → (y ≡ z) ⊎ ReadsWhile WantsTurn h y z
ahead_by h t now y z unmet no_line none few r =
    let piece : now.bytes ≡ r.taken = r.bytes ∙ ap (λ b. b ++ r.taken) none in
    inr (record {
      earlier = [];
      piece = r.taken;
      took = r.took;
      few = omega (arith, few, ap length piece);
      going = unmet;
      wants = (h.place, ap (λ lines. walk lines h.place) (ap full_lines (append-nil h.bytes) ∙ no_line));
    })

pub ahead_refilled : (old s : Held) (t now : Taken) (a b c : Option (List ℕ)) → IsFalse t.ended → full_lines s.bytes ≡ [] → t.bytes ≡ [] → length now.bytes ≤ 65536 → GoesTold old (held_with s t) a b
    → TakesNoneAhead WantsTurn old a b → WhereTold b c (RefillAnswer t now (Ok tt)) → (IsTrue old.ended → IsTrue t.ended) → TakesNoneAhead WantsTurn old a c
ahead_refilled old s t now a b c unmet no_line none few told before refilled stays =
    let lines : full_lines (s.bytes ++ t.bytes) ≡ [] = ap (λ b. full_lines (s.bytes ++ b)) none ∙ ap full_lines (append-nil s.bytes) ∙ no_line in
    ahead_then WantsTurn old (held_with s t) a b c stays (told-weaker a b _ _ (λ x y g end. record { items = []; on = g end; wants = λ w wants. wants }) told) before
    (told-weaker b c _ _ (λ y z r. ahead_by (held_with s t) t now y z unmet lines none few (r (λ ended. absurd (false≢true (sym unmet ∙ ended))))) refilled)

-- ---- where an item or a stop is held, nothing is read

uses_still : (old new : Held) (items : List Item) → IsFalse new.ended → GoesOn old new [] [] items → UsesLines old new [] items
uses_still old new items unmet g =
    let none : g.taken ≡ [] = sym (append-nil g.taken) ∙ sym g.took in
    let Uses : List ℕ → Type 0 = λ taken. UsesLines old new taken items in
    subst Uses none (g.used unmet)

-- lines that were held gave nothing, and no whole line is left
pub no_turn_held : (old s0 s1 : Held) (t0 t1 : Taken) → IsFalse t1.ended → t1.bytes ≡ [] → full_lines s1.bytes ≡ [] → UsesLines old (held_with s0 t0) [] []
    → ((left : List ℕ) → GoesOn (held_with s0 t0) (held_with s1 t1) left left []) → HoldsTurn old → ⊥
no_turn_held old s0 s1 t0 t1 unmet none no_line used on holds =
    let u = uses_then old (held_with s0 t0) (held_with s1 t1) [] [] [] [] used (uses_still (held_with s0 t0) (held_with s1 t1) [] unmet (on [])) in
    holds_line old (held_with s1 t1) holds u (ap (λ b. full_lines (s1.bytes ++ b)) none ∙ ap full_lines (append-nil s1.bytes) ∙ no_line)

-- ---- answers

-- an item, or a refusal
answers_on : (old s0 s1 : Held) (t0 t1 : Taken) (x y : List ℕ) (item : ScriptItem) → (IsTrue t0.ended → IsTrue t1.ended) → GoesOn old (held_with s0 t0) x y [] → TakenAnswers (held_with s0 t0) (held_with s1 t1) (Ok (Some item)) y
    → ItemAnswers old (held_with s1 t1) (Ok (Some item)) x y
answers_on old s0 s1 t0 t1 x y item stays g t = goes_then old (held_with s0 t0) (held_with s1 t1) x y y [] (item_of item ∷ []) stays g t

pub item_told : (old s0 s1 : Held) (t0 t1 : Taken) (a b : Option (List ℕ)) (item : ScriptItem) → (IsTrue t0.ended → IsTrue t1.ended) → GoesTold old (held_with s0 t0) a b
    → ((left : List ℕ) → TakenAnswers (held_with s0 t0) (held_with s1 t1) (Ok (Some item)) left) → ItemTold old (held_with s1 t1) a b (Ok (Some item))
item_told old s0 s1 t0 t1 a b item stays told taken = told-weaker a b _ _ (λ x y g end. answers_on old s0 s1 t0 t1 x y item stays (g end) (taken y)) told

refuses_on : (old h new : Held) (x y : List ℕ) (fault : ScriptFault) → GoesOn old h x y [] → TakenAnswers h new (Err fault) y → Refuses old new x y [] fault
refuses_on old h new x y (BadLine n) g t = record { stuck = stuck_then old h x y [] [] _ g t.stuck; cause = g.cause ∙ t.cause }
refuses_on old h new x y (TooLong n) g t = stuck_then old h x y [] [] (too_long n) g t
refuses_on old h new x y ReadFault g t = absurd t
refuses_on old h new x y NoMemory g t = tt

pub refused_told : (old h new : Held) (a b : Option (List ℕ)) (fault : ScriptFault) → GoesTold old h a b → ((left : List ℕ) → TakenAnswers h new (Err fault) left) → ItemTold old new a b (Err fault)
refused_told old h new a b fault told taken = told-weaker a b _ _ (λ x y g end. refuses_on old h new x y fault (g end) (taken y)) told

-- a script that is given bytes is refused by no read
pub taken_unread : {A P : Type 0} (old new : Held) (fault : ScriptFault) → ((left : List ℕ) → TakenAnswers old new (Err fault) left) → IsErrOf {T = A} (Err fault) ReadFault → P
taken_unread old new (BadLine n) taken is = absurd (cc)
taken_unread old new (TooLong n) taken is = absurd (cc)
taken_unread old new ReadFault taken is = absurd (taken [])
taken_unread old new NoMemory taken is = absurd (cc)

-- a read failed
fails_by : (old s : Held) (t now : Taken) (x y z : List ℕ) → IsFalse old.ended → IsFalse t.ended → full_lines s.bytes ≡ [] → GoesOn old (held_with s t) x y [] → RefillAnswer t now (Err no_line.ReadFault) y z
    → Refuses old (held_with s now) x z [] ReadFault
fails_by old s t now x y z going unmet no_line g f =
    let Left : List ℕ → Type 0 = λ l. x ≡ g.taken ++ l in
    let u = g.used unmet in
    record {
      going = going;
      taken = g.taken;
      took = subst Left f.same g.took;
      used = record { lines = u.lines; plain = u.plain; bytes = u.bytes ∙ ap (λ b. unlines u.lines ++ (s.bytes ++ b)) (f.held ∙ sym f.still); walked = u.walked };
      no_line = ap (λ b. full_lines (s.bytes ++ b)) f.still ∙ ap full_lines (append-nil s.bytes) ∙ no_line;
    }

pub fails_told : (old s : Held) (t now : Taken) (a b c : Option (List ℕ)) → IsFalse old.ended → IsFalse t.ended → full_lines s.bytes ≡ [] → GoesTold old (held_with s t) a b
    → WhereTold b c (RefillAnswer t now (Err no_line.ReadFault)) → ItemTold old (held_with s now) a c (Err ReadFault)
fails_told old s t now a b c going unmet no_line told failed = told-then a b c _ _ _ (λ x y z g f end. fails_by old s t now x y z going unmet no_line (g end) f) told failed

-- ---- the end

-- what a script holds is what the reader holds, where nothing stands behind it
with_none : (s : Held) (t : Taken) → t.bytes ≡ [] → (s.bytes ++ t.bytes) ++ [] ≡ s.bytes
with_none s t none = append-nil (s.bytes ++ t.bytes) ∙ ap (λ b. s.bytes ++ b) none ∙ append-nil s.bytes

ends_by : (s0 s1 : Held) (t : Taken) (result : Result (Option ScriptItem) ScriptFault) → IsTrue t.ended → t.bytes ≡ [] → EndTold s0 s1 result → ItemAnswers (held_with s0 t) (held_with s1 t) result [] []
ends_by s0 s1 t (Ok (Some item)) ended none e = record {
  taken = [];
  took = refl;
  same = ap (λ b. reading b s0.place) (with_none s0 t none) ∙ e.same ∙ ap (λ b. chain (arrived (item_of item ∷ []) s1.place) (λ q. reading b q)) (sym (with_none s1 t none ∙ e.nothing));
  cause = ap (λ b. stop_cause b s0.place) (with_none s0 t none) ∙ e.cause ∙ ap (next_cause s1.place) e.nothing ∙ ap (λ b. stop_cause b s1.place) (sym (with_none s1 t none ∙ e.nothing));
  at_end = λ end. refl;
  used = λ going. absurd (false≢true (sym going ∙ ended));
}
ends_by s0 s1 t (Ok None) ended none e = record { whole = ap (λ b. reading b s0.place) (with_none s0 t none) ∙ e.0; nothing = refl }
ends_by s0 s1 t (Err (BadLine n)) ended none e = record {
  stuck = ap (λ b. reading b s0.place) (with_none s0 t none) ∙ e.stuck;
  cause = ap (λ b. stop_cause b s0.place) (with_none s0 t none) ∙ e.cause ∙ ap (next_cause s1.place) (sym (ap (λ b. s1.bytes ++ b) none ∙ append-nil s1.bytes));
}
ends_by s0 s1 t (Err (TooLong n)) ended none e = ap (λ b. reading b s0.place) (with_none s0 t none) ∙ e
ends_by s0 s1 t (Err ReadFault) ended none e = absurd e
ends_by s0 s1 t (Err NoMemory) ended none e = tt

-- the end was met by an earlier call
pub ends_told : (s0 s1 : Held) (t : Taken) (left : Option (List ℕ)) (result : Result (Option ScriptItem) ScriptFault) → IsTrue t.ended → t.bytes ≡ [] → EndTold s0 s1 result
    → ItemTold (held_with s0 t) (held_with s1 t) left left result
ends_told s0 s1 t left result ended none e = told-same left _ (λ x end.
    let Left : List ℕ → Type 0 = λ l. ItemAnswers (held_with s0 t) (held_with s1 t) result l l in
    subst Left (sym (end ended)) (ends_by s0 s1 t result ended none e))

-- an answer behind lines that gave nothing
answers_then : (old h new : Held) (x y z : List ℕ) (result : Result (Option ScriptItem) ScriptFault) → (IsTrue h.ended → IsTrue new.ended) → (IsTrue old.ended → IsTrue h.ended) → GoesOn old h x y [] → ItemAnswers h new result y z
    → ItemAnswers old new result x z
answers_then old h new x y z (Ok (Some item)) stays began g t = goes_then old h new x y z [] (item_of item ∷ []) stays g t
answers_then old h new x y z (Ok None) stays began g t = record { whole = stuck_then old h x y [] [] _ g t.whole; nothing = t.nothing }
answers_then old h new x y z (Err (BadLine n)) stays began g t = record { stuck = stuck_then old h x y [] [] _ g t.stuck; cause = g.cause ∙ t.cause }
answers_then old h new x y z (Err (TooLong n)) stays began g t = stuck_then old h x y [] [] _ g t
answers_then old h new x y z (Err ReadFault) stays began g t = fault_then old h new x y z [] [] began g t
answers_then old h new x y z (Err NoMemory) stays began g t = tt

-- the end was met by this call
pub ends_then : (old s0 s1 : Held) (t : Taken) (a b : Option (List ℕ)) (result : Result (Option ScriptItem) ScriptFault) → IsTrue t.ended → t.bytes ≡ [] → GoesTold old (held_with s0 t) a b → EndTold s0 s1 result
    → ItemTold old (held_with s1 t) a b result
ends_then old s0 s1 t a b result ended none told e = told-weaker a b _ _ (λ x y g end.
    let goes = g end in
    let Left : List ℕ → Type 0 = λ l. ItemAnswers (held_with s0 t) (held_with s1 t) result l l in
    answers_then old (held_with s0 t) (held_with s1 t) x y y result (λ e. ended) (λ e. ended) goes (subst Left (sym (goes.at_end ended)) (ends_by s0 s1 t result ended none e))) told

pub end_unread : {P : Type 0} (s0 s1 : Held) (result : Result (Option ScriptItem) ScriptFault) → EndTold s0 s1 result → IsErrOf result ReadFault → P
end_unread s0 s1 (Ok (Some item)) e is = absurd (cc)
end_unread s0 s1 (Ok None) e is = absurd (cc)
end_unread s0 s1 (Err (BadLine n)) e is = absurd (cc)
end_unread s0 s1 (Err (TooLong n)) e is = absurd (cc)
end_unread s0 s1 (Err ReadFault) e is = absurd e
end_unread s0 s1 (Err NoMemory) e is = absurd (cc)

-- ---- one push

rest_kept : (s0 s1 : Held) (t0 t1 : Taken) (left : List ℕ) (count : ℕ) (next : Option ScriptItem) → count + length left ≡ length t0.bytes → t1 ≡ piece_of (drop count t0.bytes) t0.ended → PushTold s0 s1 t0.bytes left (Ok next)
    → t1 ≡ piece_of left t0.ended
rest_kept s0 s1 t0 t1 left count next counted used told =
    let f = front_ok s0 s1 t0.bytes left next told in
    let size : length f.0 ≡ count = omega (arith, counted, ap length f.1, length-append f.0 left) in
    used ∙ ap (λ b. piece_of b t0.ended) (ap (drop count) f.1 ∙ drop_at f.0 left count size)

by_rest : (s0 s1 : Held) (t0 : Taken) (left : List ℕ) (next : Option ScriptItem) → IsFalse t0.ended → IsFalse s1.ended → PushTold s0 s1 t0.bytes left (Ok next) → TakenUpTo s0 s1 t0.bytes left (Ok next)
    → taken_bytes s1 + length left ≡ taken_bytes s0 + length t0.bytes → PushesOn s0 s1 t0 (piece_of left t0.ended) next
by_rest s0 s1 t0 left next unmet still told up count = record {
  told = taken_ok s0 s1 t0.bytes left t0.ended next unmet still told;
  used = used_ok s0 s1 t0.bytes left t0.ended next up;
  apart = apart_ok s0 s1 t0.bytes left t0.ended next up;
  count = omega (arith, count, length-append s1.bytes left, length-append s0.bytes t0.bytes);
  unmet = unmet;
}

pub pushes_on : (s0 s1 : Held) (t0 t1 : Taken) (piece left : List ℕ) (count : ℕ) (next : Option ScriptItem) → IsFalse t0.ended → IsFalse s1.ended → piece ≡ t0.bytes → count + length left ≡ length t0.bytes
    → t1 ≡ piece_of (drop count t0.bytes) t0.ended → PushTold s0 s1 piece left (Ok next) → TakenUpTo s0 s1 piece left (Ok next) → taken_bytes s1 + length left ≡ taken_bytes s0 + length piece → PushesOn s0 s1 t0 t1 next
pushes_on s0 s1 t0 t1 piece left count next unmet still same counted used told up all =
    let Told : List ℕ → Type 0 = λ b. PushTold s0 s1 b left (Ok next) in
    let Up : List ℕ → Type 0 = λ b. TakenUpTo s0 s1 b left (Ok next) in
    let there = subst Told same told in
    let On : Taken → Type 0 = λ t. PushesOn s0 s1 t0 t next in
    subst On (sym (rest_kept s0 s1 t0 t1 left count next counted used there))
    (by_rest s0 s1 t0 left next unmet still there (subst Up same up) (all ∙ ap (λ b. taken_bytes s0 + length b) same))

-- what is left of the piece is no more than it
pub left_of : (s0 s1 : Held) (piece left : List ℕ) (next : Option ScriptItem) → PushTold s0 s1 piece left (Ok next) → length left ≤ length piece
left_of s0 s1 piece left next told = let f = front_ok s0 s1 piece left next told in omega (arith, ap length f.1, length-append f.0 left)

pub push_refused : (s0 s1 : Held) (t0 t1 : Taken) (piece left : List ℕ) (count : ℕ) (fault : ScriptFault) → IsFalse t0.ended → piece ≡ t0.bytes → count ≡ length t0.bytes → t1 ≡ piece_of (drop count t0.bytes) t0.ended
    → PushTold s0 s1 piece left (Err fault) → HoldsRefused s1 fault → PushRefused s0 s1 t0 t1 fault
push_refused s0 s1 t0 t1 piece left count fault unmet same counted used told bad =
    let Told : List ℕ → Type 0 = λ b. PushTold s0 s1 b left (Err fault) in
    let after : t1 ≡ piece_of [] t0.ended = used ∙ ap (λ b. piece_of b t0.ended) (drop_all count t0.bytes (omega (arith, counted))) in
    let Refused : Taken → Type 0 = λ t. PushRefused s0 s1 t0 t fault in
    subst Refused (sym after) (record {
      told = taken_err s0 s1 t0.bytes left t0.ended fault (subst Told same told);
      none = refl;
      unmet = unmet;
      bad = refused_with s1 (piece_of [] t0.ended) fault refl bad;
    })

-- ---- the loop over reads

-- each read takes some bytes, and no more may be held or used than so many
pub takes_less : (s0 s1 : Held) (t0 t1 now : Taken) → taken_bytes (held_with s1 t1) ≡ taken_bytes (held_with s0 t0) → t1.bytes ≡ [] → 0 < length now.bytes → s1.place.bytes ≤ 4294967296 → length s1.bytes ≤ 8388609
    → length now.bytes ≤ 65536 → 4303421442 - taken_bytes (held_with s1 now) < 4303421442 - taken_bytes (held_with s0 t0)
takes_less s0 s1 t0 t1 now count none some limit short few =
    let empty : length t1.bytes ≡ 0 = ap length none in
    omega (arith, count, empty, some, limit, short, few, length-append s1.bytes t1.bytes, length-append s1.bytes now.bytes)

-- the rules stay while lines give nothing
pub rules_then : (first old now : Option Rules) (result : Result (Option ScriptItem) ScriptFault) → old ≡ first → KeepsRules old now result → KeepsRules first now result
rules_then first old now result same keeps = let From : Option Rules → Type 0 = λ r. KeepsRules r now result in subst From same keeps

-- a refusal leaves what it had
pub leaves_by : {A : Type 0} (old s : Held) (t : Taken) (result : Result A ScriptFault) → s.place.bytes ≤ 4294967296 → (IsTrue old.ended → IsTrue t.ended) → IfErr result (HoldsRefused (held_with s t)) → LeavesHeld old (held_with s t) result
leaves_by old s t result limit stays bad = record { limit = limit; stays = stays; bad = bad }

-- what was taken is the reads so far
pub takes_by : {A : Type 0} (old : Held) (a b : Option (List ℕ)) (i j : ℕ) (result : Result A ScriptFault) → TakesNoneAhead WantsTurn old a b → i ≤ j → (IsErrOf result ReadFault → Rose i j) → TakesFrom a b i j result
takes_by old a b i j result ahead later fault = record { given = given_ahead WantsTurn old a b ahead; later = later; fault = fault }

-- a read that was not refused
pub record HasRefilled (t now : Taken) (b c : Option (List ℕ)) : Type 0 where
  pub told : WhereTold b c (RefillAnswer t now (Ok tt))
  pub at_end : IsTrue now.ended → now.bytes ≡ []

at_end_by : (bytes : List ℕ) (before ended : Bool) → before ≡ false → (0 < length bytes → ended ≡ before) → ended ≡ true → bytes ≡ []
at_end_by [] before ended unmet going end = refl
at_end_by (byte ∷ bytes) before ended unmet going end = absurd (false≢true (sym unmet ∙ sym (going (omega arith)) ∙ end))

pub has_refilled : (t now : Taken) (b c : Option (List ℕ)) (result : Result ⊤ LineFault) (failed : Bool) → failed ≡ is_err result → failed ≡ false → IsFalse t.ended → WhereTold b c (RefillAnswer t now result)
    → OnOk result (0 < length now.bytes → now.ended ≡ t.ended) → HasRefilled t now b c
has_refilled t now b c (Ok u) failed is went unmet told going = record { told = told; at_end = at_end_by now.bytes t.ended now.ended unmet going }
has_refilled t now b c (Err fault) failed is went unmet told going = absurd (false≢true (sym went ∙ is))

pub not_refilled : (t now : Taken) (b c : Option (List ℕ)) (result : Result ⊤ LineFault) (failed : Bool) → failed ≡ is_err result → failed ≡ true → WhereTold b c (RefillAnswer t now result)
    → IfErr result (λ fault. fault ≡ no_line.ReadFault) → WhereTold b c (RefillAnswer t now (Err no_line.ReadFault))
not_refilled t now b c (Ok u) failed is went told why = absurd (false≢true (sym is ∙ went))
not_refilled t now b c (Err fault) failed is went told why = let Told : LineFault → Type 0 = λ f. WhereTold b c (RefillAnswer t now (Err f)) in subst Told why told

-- it is a read that failed
pub read_failed : (result : Result ⊤ LineFault) (failed : Bool) → failed ≡ is_err result → failed ≡ true → IfErr result (λ fault. fault ≡ no_line.ReadFault) → IsErrOf result no_line.ReadFault
read_failed (Ok u) failed is went why = absurd (false≢true (sym is ∙ went))
read_failed (Err fault) failed is went why = ap Err why

pub ready_at_end : (s : Held) (t : Taken) (result : Result (Option ScriptItem) ScriptFault) → s.failed ≡ is_refused result → IsTrue s.ended → IsTrue t.ended → t.bytes ≡ []
    → IfOk result (λ next. IfSome next (λ item. IsReadable s t))
ready_at_end s t (Ok (Some item)) going told ended none = record { going = going; same_end = told ∙ sym ended; at_end = λ end. none }
ready_at_end s t (Ok None) going told ended none = tt
ready_at_end s t (Err fault) going told ended none = tt

-- where bytes came, the end was not met
pub still_unmet : (now : Taken) → 0 < length now.bytes → (IsTrue now.ended → now.bytes ≡ []) → IsFalse now.ended
still_unmet now some at_end = by_ended now.ended (λ end. at_end end)
  where
    by_ended : (ended : Bool) → (ended ≡ true → now.bytes ≡ []) → ended ≡ false
    by_ended true none = absurd (omega (arith, some, ap length (none refl)))
    by_ended false none = refl

-- a read that failed took nothing
kept_by : (old : Held) (t now : Taken) (x y z : List ℕ) → (x ≡ y) ⊎ ReadsWhile WantsTurn old x y → FailsToRefill t now y z → (x ≡ z) ⊎ ReadsWhile WantsTurn old x z
kept_by old t now x y z before f = let Left : List ℕ → Type 0 = λ l. (x ≡ l) ⊎ ReadsWhile WantsTurn old x l in subst Left f.same before

pub ahead_kept : (old : Held) (t now : Taken) (a b c : Option (List ℕ)) → TakesNoneAhead WantsTurn old a b → WhereTold b c (RefillAnswer t now (Err no_line.ReadFault)) → TakesNoneAhead WantsTurn old a c
ahead_kept old t now a b c before failed = told-then a b c _ _ _ (λ x y z l f. kept_by old t now x y z l f) before failed

-- what is said where a read was refused, and where it was not
pub where_failed : {P : Type 0} (result : Result ⊤ LineFault) (failed : Bool) → failed ≡ is_err result → failed ≡ true → OnErr result P → P
where_failed (Ok u) failed is went holds = absurd (false≢true (sym is ∙ went))
where_failed (Err fault) failed is went holds = holds

pub where_went : {P : Type 0} (result : Result ⊤ LineFault) (failed : Bool) → failed ≡ is_err result → failed ≡ false → OnOk result P → P
where_went (Ok u) failed is went holds = holds
where_went (Err fault) failed is went holds = absurd (false≢true (sym went ∙ is))
