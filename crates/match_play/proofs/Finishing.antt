-- How a match ends, and what it has told then.
use Rattle.std.proofs.Common.{◌≡◌, ◌≢◌, ℕ, List, [], ◌∷◌, ◌++◌, Bool, true, false, IsTrue, Some, None, Result, Ok, Err, inl, inr, refl, sym, ap, subst, ◌∙◌, append_assoc, append-nil}
use Rattle.posts.specs.declared.notes.Report.{Report}
use Rattle.script_text.specs.declared.faults.ScriptFault.{ScriptFault}
use Rattle.script_text.specs.declared.faults.ScriptFault.TheVariants as met
use Rattle.script_text.specs.declared.items.ScriptItem.{ScriptItem}
use Rattle.script_text.specs.Script.{Item, beginning, Stop, whole_input, Walk, arrived, chain, finish, reading}
use Rattle.script_text.specs.Causes.{next_cause, stop_cause}
use Rattle.script_text.specs.Reader.{Held, stuck_after}
use Rattle.script_text.specs.Pushed.{item_of, EndTold}
use Rattle.match_play.specs.declared.states.ScriptStop.{ScriptStop}
use Rattle.match_play.specs.declared.states.ScriptStop.TheVariants.{BadLine, TooLong}
use Rattle.match_play.specs.declared.states.NextItem.{NextItem}
use Rattle.match_play.specs.declared.states.NextItem.TheVariants as next_item
use Rattle.match_play.specs.declared.states.MatchState.{MatchState}
use Rattle.match_play.specs.declared.faults.MatchFault.{MatchFault}
use Rattle.match_play.specs.declared.faults.MatchFault.TheVariants as fault
use Rattle.match_play.specs.Texts.{unsaid, Gives, IsText, stop_text, ends_text, IsOut}
use Rattle.match_play.specs.Playing.{said_of, stop_of, ReadsItems, GoesOnBehind, HasCause, StopsSo, StopsBehind, HasRead, told_stop, IsTold, IsOver, HasPlayed, IsWholeText, FinishTold, Plays, FinishPlays}
use Rattle.match_play.specs.inner.Fitting.{TellsStop, fault_of, stop_in}
use Rattle.match_play.proofs.Playing.{reading_used, cause_used, with_script, with_ahead, plays_none, stops_same}

-- ---- the script ends

-- what was read goes on with what is held
items_ended : (ended : Bool) (held : Held) (fed : List ℕ) (items : List Item) → ReadsItems ended held fed items → ReadsItems true held fed items
items_ended true held fed items read = read
items_ended false held fed items used = record {
  same =
      ap (λ (bytes : List ℕ). reading bytes beginning) (sym (append-nil fed))
      ∙ reading_used fed [] held items used
      ∙ ap (λ (bytes : List ℕ). chain (arrived items held.place) (λ q. reading bytes q)) (append-nil held.bytes);
  cause =
      ap (λ (bytes : List ℕ). stop_cause bytes beginning) (sym (append-nil fed))
      ∙ cause_used fed [] held items used
      ∙ ap (λ (bytes : List ℕ). stop_cause bytes held.place) (append-nil held.bytes);
}

stop_ended : (ended : Bool) (held : Held) (fed : List ℕ) (items : List Item) (stop : Stop) → StopsBehind ended held fed items stop → StopsBehind true held fed items stop
stop_ended true held fed items stop stuck = stuck
stop_ended false held fed items stop stuck = subst (λ (bytes : List ℕ). StopsSo held bytes items stop) (append-nil fed) (stuck [])

read_ended : (ended : Bool) (held : Held) (fed : List ℕ) (items : List Item) (next : NextItem) → HasRead ended held fed items next → HasRead true held fed items next
read_ended ended held fed items next_item.Lines read = items_ended ended held fed items read
read_ended ended held fed items (next_item.Item item) read = items_ended ended held fed (items ++ item_of item ∷ []) read
read_ended ended held fed items (next_item.Stop stop) read = stop_ended ended held fed items (stop_of stop) read
read_ended ended held fed items (next_item.Nothing stop) read = stop_ended ended held fed items (stop_of stop) read
read_ended ended held fed items next_item.Whole read = stop_ended ended held fed items whole_input read

-- a step that takes no byte and tells nothing
quiet : (a b : MatchState) → b.waiting ≡ a.waiting → b.report ≡ a.report → ((fed told : List ℕ) → HasPlayed a fed told → HasPlayed b fed told) → Plays a b [] []
quiet a b waits report played = record {
  taken = [];
  took = refl;
  text = [];
  waits = waits ∙ sym (append-nil a.waiting);
  report = report;
  played = λ fed told h. subst (λ (l : List ℕ). HasPlayed b l (told ++ [])) (sym (append-nil fed)) (subst (HasPlayed b fed) (sym (append-nil told)) (played fed told h));
}

pub plays_ended : (a : MatchState) → Plays a (record a { ended = true }) [] []
plays_ended a = quiet a (record a { ended = true }) refl refl (λ fed told h.
    record { items = h.items; text = h.text; read = read_ended a.ended a.script fed h.items a.next_item h.read; gives = h.gives; all = h.all })

-- ---- what is left of it

-- the items that were told, and what the reading goes on with
rest_before : (a : MatchState) (fed : List ℕ) (items : List Item) → IsTrue a.ended → a.next_item ≡ next_item.Lines → HasRead a.ended a.script fed items a.next_item
    → GoesOnBehind a.script fed items
rest_before a fed items ended at read =
    let lines : ReadsItems a.ended a.script fed items = subst (HasRead a.ended a.script fed items) at read in
    subst (λ (e : Bool). ReadsItems e a.script fed items) ended lines

-- all that was told where nothing waits
told_lines : (a : MatchState) (fed told : List ℕ) → a.next_item ≡ next_item.Lines → (h : HasPlayed a fed told) → told ≡ h.text ++ []
told_lines a fed told at h = h.all ∙ ap (λ (n : NextItem). h.text ++ told_stop n) at

-- what is held was the last line, which gives an item
pub rest_item : (a : MatchState) (new : Held) (item : ScriptItem) → IsTrue a.ended → a.next_item ≡ next_item.Lines → EndTold a.script new (Ok (Some item))
    → Plays a (with_ahead a new (next_item.Item item)) [] []
rest_item a new item ended at e = quiet a (with_ahead a new (next_item.Item item)) refl refl (λ fed told h.
    let next = item_of item in
    let behind = finish new.place in
    let before = rest_before a fed h.items ended at h.read in
    let same : reading fed beginning ≡ chain (arrived (h.items ++ next ∷ []) new.place) (λ q. reading new.bytes q) =
    before.same
    ∙ ap (λ (w : Walk). chain (arrived h.items a.script.place) (λ q. w)) e.same
    ∙ ap (λ (l : List Item). record { items = l; ends = behind.ends }) (sym (append_assoc h.items (next ∷ []) behind.items))
    ∙ ap (λ (bytes : List ℕ). chain (arrived (h.items ++ next ∷ []) new.place) (λ q. reading bytes q)) (sym e.nothing) in
    let cause : stop_cause fed beginning ≡ stop_cause new.bytes new.place =
    before.cause ∙ e.cause ∙ ap (λ (bytes : List ℕ). next_cause new.place bytes) e.nothing ∙ ap (λ (bytes : List ℕ). stop_cause bytes new.place) (sym e.nothing) in
    let read : GoesOnBehind new fed (h.items ++ next ∷ []) = record { same = same; cause = cause } in
    record {
      items = h.items;
      text = h.text;
      read = subst (λ (x : Bool). ReadsItems x new fed (h.items ++ next ∷ [])) (sym ended) read;
      gives = h.gives;
      all = told_lines a fed told at h;
    })

-- the reading stops there
stuck_rest : (a : MatchState) (new : Held) (fed : List ℕ) (items : List Item) (stop : Stop) → IsTrue a.ended → a.next_item ≡ next_item.Lines
    → HasRead a.ended a.script fed items a.next_item → reading a.script.bytes a.script.place ≡ stuck_after [] stop
    → (stop_cause fed beginning ≡ stop_cause a.script.bytes a.script.place → HasCause stop new fed) → StopsBehind a.ended new fed items stop
stuck_rest a new fed items stop ended at read is why =
    let before = rest_before a fed items ended at read in
    let stuck : reading fed beginning ≡ stuck_after items stop =
    before.same
    ∙ ap (λ (w : Walk). chain (arrived items a.script.place) (λ q. w)) is
    ∙ ap (λ (l : List Item). stuck_after l stop) (append-nil items) in
    subst (λ (x : Bool). StopsBehind x new fed items stop) (sym ended) (record { stuck = stuck; cause = why before.cause })

pub rest_whole : (a : MatchState) (new : Held) → IsTrue a.ended → a.next_item ≡ next_item.Lines → EndTold a.script new (Ok None) → Plays a (with_ahead a new next_item.Whole) [] []
rest_whole a new ended at (is, none) = quiet a (with_ahead a new next_item.Whole) refl refl (λ fed told h. record {
  items = h.items;
  text = h.text;
  read = stuck_rest a new fed h.items whole_input ended at h.read is (λ same. tt);
  gives = h.gives;
  all = told_lines a fed told at h;
})

-- a refusal by which the script stops
refused_by : (old new : Held) (met : ScriptFault) (stop : ScriptStop) → EndTold old new (Err met) → stop_in met ≡ Some stop
    → reading old.bytes old.place ≡ stuck_after [] (stop_of stop)
refused_by old new (met.BadLine n) stop told is =
    let same : BadLine n ≡ stop = stops_same (BadLine n) stop is in
    subst (λ (s : ScriptStop). reading old.bytes old.place ≡ stuck_after [] (stop_of s)) same told.stuck
refused_by old new (met.TooLong n) stop told is =
    let same : TooLong n ≡ stop = stops_same (TooLong n) stop is in
    subst (λ (s : ScriptStop). reading old.bytes old.place ≡ stuck_after [] (stop_of s)) same told
refused_by old new met.ReadFault stop told is = absurd told
refused_by old new met.NoMemory stop told is = absurd (cc)

caused_by : (old new : Held) (fed : List ℕ) (met : ScriptFault) (stop : ScriptStop) → EndTold old new (Err met) → stop_in met ≡ Some stop
    → stop_cause fed beginning ≡ stop_cause old.bytes old.place → HasCause (stop_of stop) new fed
caused_by old new fed (met.BadLine n) stop told is same =
    subst (λ (s : ScriptStop). HasCause (stop_of s) new fed) (stops_same (BadLine n) stop is) (same ∙ told.cause)
caused_by old new fed (met.TooLong n) stop told is same =
    subst (λ (s : ScriptStop). HasCause (stop_of s) new fed) (stops_same (TooLong n) stop is) tt
caused_by old new fed met.ReadFault stop told is same = absurd told
caused_by old new fed met.NoMemory stop told is same = absurd (cc)

pub rest_stop : (a : MatchState) (new : Held) (met : ScriptFault) (stop : ScriptStop) → IsTrue a.ended → a.next_item ≡ next_item.Lines → EndTold a.script new (Err met)
    → stop_in met ≡ Some stop → Plays a (with_ahead a new (next_item.Stop stop)) [] []
rest_stop a new met stop ended at told is = quiet a (with_ahead a new (next_item.Stop stop)) refl refl (λ fed said h. record {
  items = h.items;
  text = h.text;
  read = stuck_rest a new fed h.items (stop_of stop) ended at h.read (refused_by a.script new met stop told is) (caused_by a.script new fed met stop told is);
  gives = h.gives;
  all = told_lines a fed said at h;
})

-- there was no memory
pub kept_held : (old new : Held) (met : ScriptFault) → EndTold old new (Err met) → stop_in met ≡ None → (new.place ≡ old.place) × (new.bytes ≡ old.bytes)
kept_held old new (met.BadLine n) told none = absurd (cc)
kept_held old new (met.TooLong n) told none = absurd (cc)
kept_held old new met.ReadFault told none = absurd told
kept_held old new met.NoMemory told none = told

pub rest_kept : (a : MatchState) (new : Held) (met : ScriptFault) → IsTrue a.ended → a.next_item ≡ next_item.Lines → EndTold a.script new (Err met) → stop_in met ≡ None
    → Plays a (with_script a new) [] []
rest_kept a new met ended at told none = quiet a (with_script a new) refl refl (λ fed said h.
    let kept = kept_held a.script new met told none in
    let before = rest_before a fed h.items ended at h.read in
    let read : GoesOnBehind new fed h.items = record {
      same = before.same ∙ (λ i. chain (arrived h.items (sym kept.0 i)) (λ q. reading (sym kept.1 i) q));
      cause = before.cause ∙ (λ i. stop_cause (sym kept.1 i) (sym kept.0 i));
    } in
    record {
      items = h.items;
      text = h.text;
      read = subst (HasRead a.ended new fed h.items) (sym at) (subst (λ (x : Bool). ReadsItems x new fed h.items) (sym ended) read);
      gives = h.gives;
      all = h.all;
    })

-- ---- answers

-- nothing was taken
nothing_taken : (taken : List ℕ) → [] ≡ taken ++ [] → taken ≡ []
nothing_taken taken is = sym (append-nil taken) ∙ sym is

finish_by : (a b : MatchState) (result : Result (Unit {0}) MatchFault) → Plays a b [] [] → ((fed told : List ℕ) → HasPlayed b fed told → FinishTold b.report result fed told)
    → FinishPlays a b result
finish_by a b result p says =
    let played : (fed told : List ℕ) → HasPlayed a fed told → HasPlayed b fed (told ++ p.text) =
    λ fed told h. subst (λ (l : List ℕ). HasPlayed b l (told ++ p.text)) (ap (λ (l : List ℕ). fed ++ l) (nothing_taken p.taken p.took) ∙ append-nil fed) (p.played fed told h) in
    record {
      text = p.text;
      waits = p.waits;
      report = p.report;
      played = played;
      told = λ fed told h. subst (λ (r : Report). FinishTold r result fed (told ++ p.text)) p.report (says fed (told ++ p.text) (played fed told h));
    }

pub finish_nothing : (a b : MatchState) → Plays a b [] [] → FinishPlays a b (Err fault.NoMemory)
finish_nothing a b p = finish_by a b (Err fault.NoMemory) p (λ fed told h. tt)

-- what was told is the output text
out_of : (m : MatchState) (stop : Stop) (fed told : List ℕ) (items : List Item) (text : List ℕ) → reading fed beginning ≡ stuck_after items stop
    → Gives m.report unsaid items text (said_of m.progress) → told ≡ text ++ stop_text stop → IsWholeText m.report stop fed told
out_of m stop fed told items text read gives all = record {
  ends = ap (λ (w : Walk). w.ends) read;
  out =
      subst (λ (w : Walk). (body : List ℕ) × (IsText m.report w.items body × (told ≡ body ++ ends_text w.ends))) (sym read)
      (text, ((said_of m.progress, gives), all));
}

-- of a script that has ended by a stop, or whole
over_text : (m : MatchState) (stop : Stop) (next : NextItem) (fed told : List ℕ) → IsTrue m.ended → m.next_item ≡ next → told_stop next ≡ stop_text stop
    → ((items : List Item) → HasRead m.ended m.script fed items next → StopsBehind m.ended m.script fed items stop) → HasPlayed m fed told → IsWholeText m.report stop fed told
over_text m stop next fed told ended at says stops h =
    let so : StopsSo m.script fed h.items stop =
    subst (λ (x : Bool). StopsBehind x m.script fed h.items stop) ended (stops h.items (subst (HasRead m.ended m.script fed h.items) at h.read)) in
    out_of m stop fed told h.items h.text so.stuck h.gives (h.all ∙ ap (λ (n : NextItem). h.text ++ told_stop n) at ∙ ap (λ (l : List ℕ). h.text ++ l) says)

told_by : (report : Report) (stop : ScriptStop) (fed told : List ℕ) → IsWholeText report (stop_of stop) fed told → FinishTold report (Err (fault_of stop)) fed told
told_by report (BadLine n) fed told is = is
told_by report (TooLong n) fed told is = is

pub finish_whole : (a b : MatchState) → Plays a b [] [] → IsTrue b.ended → b.next_item ≡ next_item.Whole → FinishPlays a b (Ok tt)
finish_whole a b p ended at = finish_by a b (Ok tt) p (λ fed told h. over_text b whole_input next_item.Whole fed told ended at refl (λ items read. read) h)

-- the stop was told, or there was no memory
pub finish_stop : (a b : MatchState) (result : Result (Unit {0}) MatchFault) → Plays a b [] [] → IsTrue b.ended → TellsStop b.next_item result → FinishPlays a b result
finish_stop a b result p ended (inl none) = subst (FinishPlays a b) (sym none) (finish_nothing a b p)
finish_stop a b result p ended (inr (stop, (at, is))) =
    subst (FinishPlays a b) (sym is) (finish_by a b (Err (fault_of stop)) p
    (λ fed told h. told_by b.report stop fed told (over_text b (stop_of stop) (next_item.Nothing stop) fed told ended at refl (λ items read. read) h)))

-- the script had ended, and all was told
over_out : (m : MatchState) (next : NextItem) (fed told : List ℕ) → IsTrue m.ended → m.next_item ≡ next → IsTold next → HasPlayed m fed told → IsOut m.report fed told
over_out m next_item.Lines fed told ended at over h = absurd over
over_out m (next_item.Item item) fed told ended at over h = absurd over
over_out m (next_item.Stop stop) fed told ended at over h = absurd over
over_out m (next_item.Nothing stop) fed told ended at over h = (over_text m (stop_of stop) (next_item.Nothing stop) fed told ended at refl (λ items read. read) h).out
over_out m next_item.Whole fed told ended at over h = (over_text m whole_input next_item.Whole fed told ended at refl (λ items read. read) h).out

pub finish_again : (a : MatchState) → IsOver a → FinishPlays a a (Err fault.Ended)
finish_again a (ended, over) = finish_by a a (Err fault.Ended) (plays_none a []) (λ fed told h. over_out a a.next_item fed told ended refl over h)

-- a step, and then a call
pub finish_then : (a b c : MatchState) (result : Result (Unit {0}) MatchFault) → Plays a b [] [] → FinishPlays b c result → FinishPlays a c result
finish_then a b c result p f =
    let played : (fed told : List ℕ) → HasPlayed a fed told → HasPlayed b fed (told ++ p.text) =
    λ fed told h. subst (λ (l : List ℕ). HasPlayed b l (told ++ p.text)) (ap (λ (l : List ℕ). fed ++ l) (nothing_taken p.taken p.took) ∙ append-nil fed) (p.played fed told h) in
    record {
      text = p.text ++ f.text;
      waits = f.waits ∙ (ap (λ (l : List ℕ). l ++ f.text) p.waits ∙ append_assoc a.waiting p.text f.text);
      report = f.report ∙ p.report;
      played = λ fed told h. subst (HasPlayed c fed) (append_assoc told p.text f.text) (f.played fed (told ++ p.text) (played fed told h));
      told = λ fed told h.
          subst (λ (r : Report). FinishTold r result fed (told ++ (p.text ++ f.text))) p.report
          (subst (FinishTold b.report result fed) (append_assoc told p.text f.text) (f.told fed (told ++ p.text) (played fed told h)));
    }

-- all was told, unless there was no memory
pub stop_over : (next : NextItem) (result : Result (Unit {0}) MatchFault) → TellsStop next result → result ≢ Err fault.NoMemory → IsTold next
stop_over next result (inl none) some = absurd (some none)
stop_over next result (inr (stop, (at, is))) some = subst IsTold (sym at) tt
