-- What is written for a script that is served, over a source that may tell its bytes and a sink that may keep them.
use Rattle.std.proofs.Common.{◌≡◌, ◌≢◌, ℕ, List, [], ◌∷◌, ◌++◌, take, zero, suc, Bool, true, Option, Some, None, Result, Ok, Err, inl, inr, refl, sym, ap, ◌∙◌, subst, append-nil, false}
use Rattle.std.specs.Prelude.{All, ⊤}
use Rattle.std.specs.List.{list_all}
use Rattle.std.specs.Io.KnownBytes.{Appends}
use Rattle.std.proofs.KnownBytes.{Appends-nil}
use Rattle.std.proofs.lemmas.Bool.{and_parts, and_from}
use Rattle.std.proofs.lemmas.List.Folds.{list_all-append}
use Rattle.std.proofs.lemmas.List.Sums.{AllPass-from_list_all}
use Rattle.io_edges.specs.Faults.{Rose}
use Rattle.io_edges.specs.declared.edges.WriteRefusal.{WriteRefusal}
use Rattle.io_edges.specs.declared.edges.WriteRefusal.TheVariants as refusal
use Rattle.posts.specs.declared.posts.Post.{Post}
use Rattle.posts.specs.declared.replies.TurnReplies.{TurnReplies}
use Rattle.posts.specs.Maps.{Map}
use Rattle.posts.specs.Callers.{of_caller, list_of}
use Rattle.turn_core.specs.Turns.{IsOneThread}
use Rattle.script_text.specs.declared.faults.ScriptFault.{ScriptFault}
use Rattle.script_text.specs.declared.faults.ScriptFault.TheVariants as fault
use Rattle.script_text.specs.Canon.{is_post_of, HaveLines}
use Rattle.script_text.specs.Script.{Item, map_after, turns_of, beginning, whole_input, too_long, bad_line, Ends, stuck_by, Walk, reading}
use Rattle.script_text.specs.Reader.{Held, unread, StopsAtFault}
use Rattle.input_lines.specs.Held.{WhereTold}
use Rattle.input_lines.proofs.ToldLines.{told-same}
use Rattle.answer_text.specs.Answers.{bad_line_text}
use Rattle.pathserve.specs.declared.status.Status.{Status}
use Rattle.pathserve.specs.declared.status.Status.TheVariants.{Done, Usage, BadLine, ReadFault, WriteFault, NoMemory, TooLong}
use Rattle.pathserve.specs.Output.{ComesByStop, stop_status, stop_text}
use Rattle.pathserve.specs.Runs.{names_line}
use Rattle.pathserve.specs.Serving.{IsJournalOf, IsServed, IsServedTo, IsServedBeginning, Serves, ServesTold, TakesNoStop, journal_text}
use Rattle.pathserve.specs.inner.WholeScripts.{IsTextOfSession, IsWholeScript, RefusedTold, RefusesAll, WholeTold}
use Rattle.pathserve.specs.inner.Writing.{WritesPiece, WritesSome, StopsWith, EndsWith, refused_status, status_after}
use Rattle.pathserve.proofs.Passes.{after_other, done_no_read, done_no_usage, refused_no_line}
use Rattle.pathserve.proofs.Progress.{walked_taken}
use Rattle.pathserve.proofs.Refusals.{at_bytes, ends_of, refused_by_fault, refused_no_read, refused_no_usage}

-- ---- what is written

serves_told : (start now kept final : Option (List ℕ)) (Says : List ℕ → List ℕ → Type 0) (out : List ℕ) (status : Status) → WhereTold start now Says
    → Appends kept final out → ((bytes rest : List ℕ) → Says bytes rest → Serves bytes rest out status) → ServesTold start now kept final status
serves_told None now kept final Says out status s wrote here = tt
serves_told (Some bytes) None kept final Says out status s wrote here = absurd s
serves_told (Some bytes) (Some rest) None final Says out status s wrote here = tt
serves_told (Some bytes) (Some rest) (Some kept) None Says out status s wrote here = absurd wrote
serves_told (Some bytes) (Some rest) (Some kept) (Some final) Says out status s wrote here = (out, (wrote, here bytes rest s))

-- there was no memory for a reader
pub told_no_reader : (start kept : Option (List ℕ)) → ServesTold start start kept kept NoMemory
told_no_reader start kept = serves_told start start kept kept (λ bytes rest. ⊤) [] NoMemory (told-same start _ (λ bytes. tt)) (Appends-nil kept) (λ bytes rest s. inl refl)

begun_refused : (refused : WriteRefusal) (bytes rest out : List ℕ) → IsServedBeginning bytes out → Serves bytes rest out (refused_status refused)
begun_refused refusal.Failed bytes rest out begun = begun
begun_refused refusal.NoMemory bytes rest out begun = begun

-- the first bytes of a text for the stop of the input
begun_by : (bytes text : List ℕ) (ends : Ends) (n : ℕ) → (reading bytes beginning).ends ≡ ends → IsServedTo bytes ends text
    → IsServedBeginning bytes (take n text)
begun_by bytes text ends n is served = inr (text, (subst (λ (e : Ends). IsServedTo bytes e text) (sym is) served, (n, refl)))

served : (m : Map) (lists : List (List Post)) (journal : List (List (List Post))) (told : List TurnReplies) (bytes rest : List ℕ)
    → IsWholeScript m lists bytes rest → IsJournalOf m.callers (list_of lists) journal → IsOneThread m journal told
    → IsServed bytes (journal_text m journal told)
served m lists journal told bytes rest w made answers = record {
  map = m;
  on_map = ap (λ (v : Walk). map_after None v.items) w.whole ∙ w.on_map;
  journal = journal;
  of_callers = record {
    wide = made.wide;
    posts = λ caller. made.posts caller ∙ w.posts caller ∙ ap (λ (v : Walk). of_caller caller (turns_of v.items)) (sym w.whole);
    some = made.some;
  };
  told = told;
  one_thread = answers;
  text = refl;
}

-- the session was run, and its text was written, or a part of it
told_served : (m : Map) (lists : List (List Post)) (journal : List (List (List Post))) (told : List TurnReplies) (start now kept final : Option (List ℕ))
    (written : Result (Unit {0}) WriteRefusal) → WholeTold m lists start now → IsJournalOf m.callers (list_of lists) journal → IsOneThread m journal told
    → WritesPiece kept final (journal_text m journal told) written → ServesTold start now kept final (status_after written Done)
told_served m lists journal told start now kept final (Ok done) s made answers wrote =
    serves_told start now kept final (IsWholeScript m lists) (journal_text m journal told) Done s wrote
    (λ bytes rest w. (w.nothing, (ends_of bytes w.items whole_input w.whole, served m lists journal told bytes rest w made answers)))
told_served m lists journal told start now kept final (Err refused) s made answers (n, wrote) =
    serves_told start now kept final (IsWholeScript m lists) (take n (journal_text m journal told)) (refused_status refused) s wrote
    (λ bytes rest w. begun_refused refused bytes rest (take n (journal_text m journal told))
    (begun_by bytes (journal_text m journal told) (stuck_by whole_input) n (ends_of bytes w.items whole_input w.whole)
    (served m lists journal told bytes rest w made answers)))

-- the same where there may be no memory for the session
session_so : (m : Map) (lists : List (List Post)) (start now kept final : Option (List ℕ)) (written : Result (Unit {0}) WriteRefusal) → WholeTold m lists start now
    → WritesSome (IsTextOfSession m lists) kept final written → ServesTold start now kept final (status_after written Done)
session_so m lists start now kept final written s (inl (text, (is, wrote))) =
    told_served m lists is.journal is.told start now kept final written s is.of_callers is.one_thread
    (subst (λ (l : List ℕ). WritesPiece kept final l written) is.is wrote)
session_so m lists start now kept final written s (inr (refused, wrote)) =
    subst (λ (r : Result (Unit {0}) WriteRefusal). ServesTold start now kept final (status_after r Done)) (sym refused)
    (serves_told start now kept final (IsWholeScript m lists) [] NoMemory s wrote (λ bytes rest w. inl refl))

pub told_session : (m : Map) (lists : List (List Post)) (start now kept final : Option (List ℕ)) (status : Status) → WholeTold m lists start now
    → EndsWith (IsTextOfSession m lists) kept final status → ServesTold start now kept final status
told_session m lists start now kept final status s (written, (wrote, is)) =
    subst (λ (x : Status). ServesTold start now kept final x) (sym is) (session_so m lists start now kept final written s wrote)

-- the text of a session that was run on this map
pub session_written : (m on : Map) (lists : List (List Post)) (journal : List (List (List Post))) (told : List TurnReplies) (kept final : Option (List ℕ))
    (written : Result (Unit {0}) WriteRefusal) → on ≡ m → IsJournalOf m.callers (list_of lists) journal → IsOneThread m journal told
    → WritesPiece kept final (journal_text on journal told) written → WritesSome (IsTextOfSession m lists) kept final written
session_written m on lists journal told kept final written same made answers wrote = inl (
  journal_text on journal told,
  (
    record {
      journal = journal;
      of_callers = made;
      told = told;
      one_thread = answers;
      is = ap (λ (n : Map). journal_text n journal told) same;
    },
    wrote,
  ),
)

-- a bad line was named, or a part of its name was written
told_bad : (new : Held) (n : ℕ) (start now kept final : Option (List ℕ)) (written : Result (Unit {0}) WriteRefusal) → RefusedTold new (fault.BadLine n) start now
    → WritesPiece kept final (stop_text (bad_line n)) written → ServesTold start now kept final (status_after written BadLine)
told_bad new n start now kept final (Ok done) s wrote =
    serves_told start now kept final (λ bytes rest. RefusesAll unread new bytes rest (fault.BadLine n)) (bad_line_text n) BadLine s wrote
    (λ bytes rest r. (n, (ends_of bytes r.items (bad_line n) r.refused.stuck, refl)))
told_bad new n start now kept final (Err refused) s (k, wrote) =
    serves_told start now kept final (λ bytes rest. RefusesAll unread new bytes rest (fault.BadLine n)) (take k (bad_line_text n)) (refused_status refused) s wrote
    (λ bytes rest r. begun_refused refused bytes rest (take k (bad_line_text n))
    (begun_by bytes (bad_line_text n) (stuck_by (bad_line n)) k (ends_of bytes r.items (bad_line n) r.refused.stuck) refl))

-- no line among the bytes taken stops the input
no_stop_taken : (new : Held) (bytes rest : List ℕ) (items : List Item) → StopsAtFault unread new bytes rest items → TakesNoStop bytes rest
no_stop_taken new bytes rest items s = record {
  taken = s.taken;
  took = s.took;
  items = items;
  place = new.place;
  walked = walked_taken bytes rest new items s;
}

-- no part of the script came
pub told_refused : (new : Held) (met : ScriptFault) (start now kept final : Option (List ℕ)) (status : Status) → RefusedTold new met start now
    → StopsWith met kept final status → ServesTold start now kept final status
told_refused new (fault.BadLine n) start now kept final status s (written, (wrote, is)) =
    subst (λ (x : Status). ServesTold start now kept final x) (sym is) (told_bad new n start now kept final written s wrote)
told_refused new (fault.TooLong n) start now kept final status s (is, wrote) =
    subst (λ (x : Status). ServesTold start now kept final x) (sym is)
    (serves_told start now kept final (λ bytes rest. RefusesAll unread new bytes rest (fault.TooLong n)) [] TooLong s wrote
    (λ bytes rest r. (n, (ends_of bytes r.items (too_long n) r.refused, refl))))
told_refused new fault.ReadFault start now kept final status s (is, wrote) =
    subst (λ (x : Status). ServesTold start now kept final x) (sym is)
    (serves_told start now kept final (λ bytes rest. RefusesAll unread new bytes rest fault.ReadFault) [] ReadFault s wrote
    (λ bytes rest r. (no_stop_taken new bytes rest r.items r.refused, refl)))
told_refused new fault.NoMemory start now kept final status s (is, wrote) =
    subst (λ (x : Status). ServesTold start now kept final x) (sym is)
    (serves_told start now kept final (λ bytes rest. RefusesAll unread new bytes rest fault.NoMemory) [] NoMemory s wrote (λ bytes rest r. inl refl))

-- ---- the status

pub stop_served : (m : Map) (lists : List (List Post)) (start now kept final : Option (List ℕ)) (status : Status) (reads reading_now writes writing_now : ℕ)
    → WholeTold m lists start now → EndsWith (IsTextOfSession m lists) kept final status → (status ≡ WriteFault → Rose writes writing_now)
    → (bytes : List ℕ) → start ≡ Some bytes → ComesByStop reads reading_now writes writing_now (reading bytes beginning).ends status
stop_served m lists start now kept final status reads reading_now writes writing_now s (Ok done, (wrote, is)) rose bytes told =
    at_bytes (λ (l : List ℕ). ComesByStop reads reading_now writes writing_now (reading l beginning).ends status) start now (IsWholeScript m lists) bytes s told
    (λ left rest w. inl (is ∙ ap stop_status (sym (ends_of left w.items whole_input w.whole))))
stop_served m lists start now kept final status reads reading_now writes writing_now s (Err refusal.Failed, (wrote, is)) rose bytes told = inr (inr (inr (is, rose is)))
stop_served m lists start now kept final status reads reading_now writes writing_now s (Err refusal.NoMemory, (wrote, is)) rose bytes told = inr (inl is)

-- the status after a write tells a fault of the sink where the write met one
pub fault_written : (written : Result (Unit {0}) WriteRefusal) → status_after written Done ≡ WriteFault → written ≡ Err refusal.Failed
fault_written (Ok done) is = let other : Done ≡ WriteFault = is in absurd (cc)
fault_written (Err refused) is = ap (λ (r : WriteRefusal). let w : Result (Unit {0}) WriteRefusal = Err r in w) (refused_by_fault refused is)

-- the status of a run that ends with a text is that of a write
ends_so : (P : Status → Type 0) (Is : List ℕ → Type 0) (kept final : Option (List ℕ)) (status : Status) → EndsWith Is kept final status
    → ((written : Result (Unit {0}) WriteRefusal) → P (status_after written Done)) → P status
ends_so P Is kept final status (written, (wrote, is)) each = subst P (sym is) (each written)

pub ends_no_usage : (Is : List ℕ → Type 0) (kept final : Option (List ℕ)) (status : Status) → EndsWith Is kept final status → status ≢ Usage
ends_no_usage Is kept final status ends = ends_so (λ s. s ≢ Usage) Is kept final status ends (after_other Done Usage done_no_usage refused_no_usage)

pub ends_no_read : (Is : List ℕ → Type 0) (kept final : Option (List ℕ)) (status : Status) → EndsWith Is kept final status → status ≢ ReadFault
ends_no_read Is kept final status ends = ends_so (λ s. s ≢ ReadFault) Is kept final status ends (after_other Done ReadFault done_no_read refused_no_read)

no_line_named : (written : Result (Unit {0}) WriteRefusal) → names_line (status_after written Done) ≡ false
no_line_named (Ok done) = refl
no_line_named (Err refused) = refused_no_line refused

pub ends_no_line : (Is : List ℕ → Type 0) (kept final : Option (List ℕ)) (status : Status) → EndsWith Is kept final status → names_line status ≡ false
ends_no_line Is kept final status ends = ends_so (λ s. names_line s ≡ false) Is kept final status ends no_line_named

-- ---- the lines of the journal

-- where the posts of each caller pass a test, all posts of a turn do
each_list : (passes : Post → Bool) (turn : List (List Post)) → ((caller : ℕ) → list_all passes (list_of turn caller) ≡ true)
    → list_all (λ posts. list_all passes posts) turn ≡ true
each_list passes [] each = refl
each_list passes (posts ∷ turn) each =
    and_from (list_all passes posts) (list_all (λ posts. list_all passes posts) turn) (each 0) (each_list passes turn (λ caller. each (suc caller)))

-- and all posts of a journal
each_turn : (passes : Post → Bool) (journal : List (List (List Post))) → ((caller : ℕ) → list_all passes (of_caller caller journal) ≡ true)
    → list_all (λ turn. list_all (λ posts. list_all passes posts) turn) journal ≡ true
each_turn passes [] each = refl
each_turn passes (turn ∷ journal) each =
    let parts : (caller : ℕ) → (list_all passes (list_of turn caller) ≡ true) × (list_all passes (of_caller caller journal) ≡ true) = λ caller.
    and_parts (list_all passes (list_of turn caller)) (list_all passes (of_caller caller journal))
    (sym (list_all-append passes (list_of turn caller) (of_caller caller journal)) ∙ each caller) in
    and_from (list_all (λ posts. list_all passes posts) turn) (list_all (λ turn. list_all (λ posts. list_all passes posts) turn) journal)
    (each_list passes turn (λ caller. (parts caller).0)) (each_turn passes journal (λ caller. (parts caller).1))

one_list : (passes : Post → Bool) (lists : List (List Post)) (caller : ℕ) → list_all (λ posts. list_all passes posts) lists ≡ true
    → list_all passes (list_of lists caller) ≡ true
one_list passes [] caller all = refl
one_list passes (posts ∷ lists) zero all = (and_parts (list_all passes posts) (list_all (λ posts. list_all passes posts) lists) all).0
one_list passes (posts ∷ lists) (suc caller) all =
    one_list passes lists caller (and_parts (list_all passes posts) (list_all (λ posts. list_all passes posts) lists) all).1

-- a journal of posts that have lines
pub journal_lines : (version callers : ℕ) (lists : List (List Post)) (journal : List (List (List Post))) → HaveLines version lists
    → IsJournalOf callers (list_of lists) journal → All (HaveLines version) journal
journal_lines version callers lists journal have made =
    AllPass-from_list_all (λ turn. list_all (λ posts. list_all (is_post_of version) posts) turn) journal
    (each_turn (is_post_of version) journal
    (λ caller. ap (λ (l : List Post). list_all (is_post_of version) l) (made.posts caller) ∙ one_list (is_post_of version) lists caller have))
