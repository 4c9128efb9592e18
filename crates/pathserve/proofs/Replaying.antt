-- What a replay keeps from call to call, and what it answers, over a source that may tell its bytes and a sink that may keep them.
use Rattle.std.proofs.Common.{◌≡◌, ℕ, ◌+◌, ◌<◌, ◌^◌, length, arith, inl, inr, List, [], ◌∷◌, ◌++◌, take, Option, Some, None, Result, Ok, Err, refl, sym, ap, ◌∙◌, subst, append_assoc, append-nil, IsTrue}
use Rattle.std.specs.Prelude.{⊤}
use Rattle.std.specs.Io.KnownBytes.{Appends}
use Rattle.std.proofs.KnownBytes.{Appends-nil, Appends-trans}
use Rattle.io_edges.specs.declared.edges.WriteRefusal.{WriteRefusal}
use Rattle.io_edges.specs.declared.edges.WriteRefusal.TheVariants as refusal
use Rattle.script_text.specs.declared.faults.ScriptFault.{ScriptFault}
use Rattle.script_text.specs.declared.faults.ScriptFault.TheVariants as fault
use Rattle.script_text.specs.declared.items.ScriptItem.{ScriptItem}
use Rattle.script_text.specs.declared.items.ScriptItem.TheVariants as kind
use Rattle.input_lines.specs.Held.{WhereTold}
use Rattle.script_text.specs.Items.{HasFewPosts, ItemTold}
use Rattle.script_text.specs.Pushed.{item_of}
use Rattle.script_text.specs.Reader.{Held, unread, GoesOn, IsRead, Refuses, stuck_after}
use Rattle.script_text.specs.Script.{Item, beginning, Stop, whole_input, too_long, bad_line, stuck, stuck_by, Walk, reading}
use Rattle.input_lines.proofs.ToldLines.{told-same, told-then}
use Rattle.script_text.proofs.ReadCalls.{stuck_then}
use Rattle.pathserve.specs.declared.status.Status.{Status}
use Rattle.pathserve.specs.declared.status.Status.TheVariants.{Done, Usage, BadLine, ReadFault, WriteFault, NoMemory, TooLong}
use Rattle.posts.specs.declared.notes.Report.{Report}
use Rattle.posts.specs.Posts.{jobs}
use Rattle.posts.proofs.PostCounts.{few_jobs}
use Rattle.match_play.specs.Grounds.{TakesItem, Tells as TellsItem}
use Rattle.pathserve.specs.Output.{Said, unsaid, Says, Gives, stop_text, IsOut, IsBeginning, Replays, ReplaysTold, stop_status, ComesByStop}
use Rattle.pathserve.specs.inner.WholeScripts.{RefusedTold}
use Rattle.pathserve.specs.inner.Writing.{WritesPiece, WritesSome, refused_status, status_after, StopsWith}
use Rattle.pathserve.proofs.Progress.{Went, WentTold, went_nowhere, went_on_told, gives_on, gives_one, begun_here, begun_item, out_here, begun_stop, taken_here}
use Rattle.pathserve.proofs.Refusals.{at_bytes, ends_of, refused_told}

-- The items so far, and what was written for them: `start` and `now` are what is left in the source at entry and here,
-- `kept` and `keeps` what the sink keeps.
pub record Stands (report : Report) (start now kept keeps : Option (List ℕ)) (held : Held) (state : Said) : Type 0 where
  pub items : List Item
  pub text : List ℕ
  pub went : WentTold start now held items
  pub gives : Gives report unsaid items text state
  pub wrote : Appends kept keeps text

-- what a call of the reader says of the bytes left before and after it
abbrev pub Tells : Held → Option (List ℕ) → Option (List ℕ) → (List ℕ → List ℕ → Type 0) → Type 0
Tells held before now Says = WhereTold before now (λ left after. (IsTrue held.ended → left ≡ []) → Says left after)

pub stands_first : (report : Report) (start kept : Option (List ℕ)) → Stands report start start kept kept unread unsaid
stands_first report start kept = record { items = []; text = []; went = told-same start _ went_nowhere; gives = (refl, refl); wrote = Appends-nil kept }

-- ---- steps

-- an item was read, and its text was written whole
pub stands_item : (report : Report) (start before now kept keeps final : Option (List ℕ)) (held new : Held) (state next : Said) (item : ScriptItem) (done : Unit {0})
    → Stands report start before kept keeps held state → ItemTold held new before now (Ok (Some item)) → (IsTrue held.ended → IsTrue new.ended)
    → WritesSome (λ text. Says report state (item_of item) text next) keeps final (Ok done) → Stands report start now kept final new next
stands_item report start before now kept keeps final held new state next item done s a stays (inl (piece, (says, wrote))) = record {
  items = s.items ++ item_of item ∷ [];
  text = s.text ++ piece;
  went = went_on_told start before now held new s.items (item_of item ∷ []) s.went a stays;
  gives = gives_on report unsaid state next s.items (item_of item ∷ []) s.text piece s.gives (gives_one report state next (item_of item) piece says);
  wrote = Appends-trans kept keeps final s.text piece s.wrote wrote;
}
stands_item report start before now kept keeps final held new state next item done s a stays (inr (refused, wrote)) = absurd (cc)

-- ---- exits, over the source and the sink

replays_told : (report : Report) (start before now kept keeps final : Option (List ℕ)) (held : Held) (state : Said) (Says : List ℕ → List ℕ → Type 0) (status : Status) (extra : List ℕ)
    → Stands report start before kept keeps held state → Tells held before now Says → Appends keeps final extra
    → ((bytes left after : List ℕ) (items : List Item) (text : List ℕ) → Went bytes left held items → Gives report unsaid items text state
    → Says left after → Replays report bytes after (text ++ extra) status)
    → ReplaysTold report start now kept final status
replays_told report None before now kept keeps final held state Says status extra s a wrote here = tt
replays_told report (Some bytes) None now kept keeps final held state Says status extra s a wrote here = absurd s.went
replays_told report (Some bytes) (Some left) None kept keeps final held state Says status extra s a wrote here = absurd a
replays_told report (Some bytes) (Some left) (Some after) None keeps final held state Says status extra s a wrote here = tt
replays_told report (Some bytes) (Some left) (Some after) (Some kept) None final held state Says status extra s a wrote here = absurd s.wrote
replays_told report (Some bytes) (Some left) (Some after) (Some kept) (Some keeps) None held state Says status extra s a wrote here = absurd wrote
replays_told report (Some bytes) (Some left) (Some after) (Some kept) (Some keeps) (Some final) held state Says status extra s a wrote here = (
  s.text ++ extra,
  (
    wrote ∙ (ap (λ (l : List ℕ). l ++ extra) s.wrote ∙ append_assoc kept s.text extra),
    here bytes left after s.items s.text s.went s.gives (a s.went.at_end),
  ),
)

-- nothing more was written
without_more : (report : Report) (bytes after text : List ℕ) (status : Status) → Replays report bytes after text status → Replays report bytes after (text ++ []) status
without_more report bytes after text status r = subst (λ (l : List ℕ). Replays report bytes after l status) (sym (append-nil text)) r

-- the input stops behind the items so far
stopped_here : (bytes left : List ℕ) (held : Held) (items : List Item) (stop : Stop) → Went bytes left held items
    → reading (held.bytes ++ left) held.place ≡ stuck stop → reading bytes beginning ≡ stuck_after items stop
stopped_here bytes left held items stop w stopped =
    stuck_then unread held bytes left items [] stop w stopped ∙ ap (λ (l : List Item). stuck_after l stop) (append-nil items)

-- the input is whole
pub told_done : (report : Report) (start before now kept keeps : Option (List ℕ)) (held new : Held) (state : Said)
    → Stands report start before kept keeps held state → ItemTold held new before now (Ok None) → ReplaysTold report start now kept keeps Done
told_done report start before now kept keeps held new state s a =
    replays_told report start before now kept keeps keeps held state (λ left after. IsRead held left after) Done [] s a (Appends-nil keeps)
    (λ bytes left after items text w gives said.
    let end = stopped_here bytes left held items whole_input w said.whole in
    (said.nothing, (ap (λ (v : Walk). v.ends) end, out_here report bytes items whole_input state text end gives)))

refused_begun : (report : Report) (refused : WriteRefusal) (bytes after out : List ℕ) → IsBeginning report bytes out → Replays report bytes after out (refused_status refused)
refused_begun report refusal.Failed bytes after out b = b
refused_begun report refusal.NoMemory bytes after out b = b

-- an item was read, and its text was not written, or not whole
pub told_item : (report : Report) (start before now kept keeps final : Option (List ℕ)) (held new : Held) (state next : Said) (item : ScriptItem) (refused : WriteRefusal)
    → Stands report start before kept keeps held state → ItemTold held new before now (Ok (Some item))
    → WritesSome (λ text. Says report state (item_of item) text next) keeps final (Err refused) → ReplaysTold report start now kept final (refused_status refused)
told_item report start before now kept keeps final held new state next item refused s a (inl (piece, (says, (n, wrote)))) =
    replays_told report start before now kept keeps final held state (λ left after. GoesOn held new left after (item_of item ∷ [])) (refused_status refused)
    (take n piece) s a wrote
    (λ bytes left after items said w gives given. refused_begun report refused bytes after (said ++ take n piece)
    (begun_item report bytes left after held new items (item_of item) state next said piece n w given gives says))
told_item report start before now kept keeps final held new state next item refused s a (inr (is, wrote)) =
    replays_told report start before now kept keeps final held state (λ left after. GoesOn held new left after (item_of item ∷ [])) (refused_status refused) [] s a wrote
    (λ bytes left after items said w gives given. refused_begun report refused bytes after (said ++ [])
    (subst (IsBeginning report bytes) (sym (append-nil said)) (begun_here report bytes left held items state said w gives)))

-- there was no memory for a reader
pub told_no_reader : (report : Report) (start kept : Option (List ℕ)) → ReplaysTold report start start kept kept NoMemory
told_no_reader report start kept =
    replays_told report start start start kept kept kept unread unsaid (λ left after. ⊤) NoMemory [] (stands_first report start kept)
    (told-same start _ (λ left ended. tt)) (Appends-nil kept)
    (λ bytes left after items text w gives said. without_more report bytes after text NoMemory (begun_here report bytes left unread items unsaid text w gives))

-- no part of the script came: the input stops behind the items so far, or a call was refused

stopped_out : (report : Report) (bytes left : List ℕ) (held : Held) (items : List Item) (state : Said) (text : List ℕ) (stop : Stop)
    → Went bytes left held items → Gives report unsaid items text state → reading (held.bytes ++ left) held.place ≡ stuck stop
    → ((reading bytes beginning).ends ≡ stuck_by stop) × IsOut report bytes (text ++ stop_text stop)
stopped_out report bytes left held items state text stop w gives stopped =
    let end = stopped_here bytes left held items stop w stopped in
    (ap (λ (v : Walk). v.ends) end, out_here report bytes items stop state text end gives)

-- what a refusal behind the items so far says
abbrev pub RefusedBehind : Held → Held → ScriptFault → List ℕ → List ℕ → Type 0
RefusedBehind held new met left after = Refuses held new left after [] met

told_bad_line : (report : Report) (start before now kept keeps final : Option (List ℕ)) (held new : Held) (state : Said) (n : ℕ) (written : Result (Unit {0}) WriteRefusal)
    → Stands report start before kept keeps held state → Tells held before now (RefusedBehind held new (fault.BadLine n))
    → WritesPiece keeps final (stop_text (bad_line n)) written → ReplaysTold report start now kept final (status_after written BadLine)
told_bad_line report start before now kept keeps final held new state n (Ok whole) s a wrote =
    replays_told report start before now kept keeps final held state (RefusedBehind held new (fault.BadLine n)) BadLine (stop_text (bad_line n)) s a wrote
    (λ bytes left after items text w gives r. (n, stopped_out report bytes left held items state text (bad_line n) w gives r.stuck))
told_bad_line report start before now kept keeps final held new state n (Err refused) s a wrote =
    replays_told report start before now kept keeps final held state (RefusedBehind held new (fault.BadLine n)) (refused_status refused)
    (take wrote.0 (stop_text (bad_line n))) s a wrote.1
    (λ bytes left after items text w gives r. refused_begun report refused bytes after (text ++ take wrote.0 (stop_text (bad_line n)))
    (begun_stop report bytes items (bad_line n) state text wrote.0 (stopped_here bytes left held items (bad_line n) w r.stuck) gives))

pub told_fault : (report : Report) (start before now kept keeps final : Option (List ℕ)) (held new : Held) (state : Said) (met : ScriptFault) (status : Status)
    → Stands report start before kept keeps held state → ItemTold held new before now (Err met)
    → StopsWith met keeps final status → ReplaysTold report start now kept final status
told_fault report start before now kept keeps final held new state (fault.BadLine n) status s a (written, (wrote, is)) =
    subst (λ (x : Status). ReplaysTold report start now kept final x) (sym is) (told_bad_line report start before now kept keeps final held new state n written s a wrote)
told_fault report start before now kept keeps final held new state (fault.TooLong n) status s a (is, wrote) =
    subst (λ (x : Status). ReplaysTold report start now kept final x) (sym is)
    (replays_told report start before now kept keeps final held state (RefusedBehind held new (fault.TooLong n)) TooLong [] s a wrote
    (λ bytes left after items text w gives r. (n, stopped_out report bytes left held items state text (too_long n) w gives r)))
told_fault report start before now kept keeps final held new state fault.ReadFault status s a (is, wrote) =
    subst (λ (x : Status). ReplaysTold report start now kept final x) (sym is)
    (replays_told report start before now kept keeps final held state (RefusedBehind held new fault.ReadFault) ReadFault [] s a wrote
    (λ bytes left after items text w gives r. without_more report bytes after text ReadFault
    (taken_here report bytes left after held new items state text w r gives, begun_here report bytes left held items state text w gives)))
told_fault report start before now kept keeps final held new state fault.NoMemory status s a (is, wrote) =
    subst (λ (x : Status). ReplaysTold report start now kept final x) (sym is)
    (replays_told report start before now kept keeps final held state (RefusedBehind held new fault.NoMemory) NoMemory [] s a wrote
    (λ bytes left after items text w gives r. without_more report bytes after text NoMemory (begun_here report bytes left held items state text w gives)))

-- the same of the bytes of the whole input
pub stands_refused : (report : Report) (start before now kept keeps : Option (List ℕ)) (held new : Held) (state : Said) (met : ScriptFault)
    → Stands report start before kept keeps held state → ItemTold held new before now (Err met) → RefusedTold new met start now
stands_refused report start before now kept keeps held new state met s a = refused_told start before now held new s.items met s.went a

-- ---- the status

pub stop_done : (report : Report) (start before now kept keeps : Option (List ℕ)) (held new : Held) (state : Said) (reads reading_now writes writing_now : ℕ)
    → Stands report start before kept keeps held state → ItemTold held new before now (Ok None)
    → (bytes : List ℕ) → start ≡ Some bytes → ComesByStop reads reading_now writes writing_now (reading bytes beginning).ends Done
stop_done report start before now kept keeps held new state reads reading_now writes writing_now s a bytes is =
    at_bytes (λ (l : List ℕ). ComesByStop reads reading_now writes writing_now (reading l beginning).ends Done) start now
    (λ whole rest. reading whole beginning ≡ stuck_after s.items whole_input) bytes
    (told-then start before now _ _ _ (λ whole left after went said. stopped_here whole left held s.items whole_input went (said went.at_end).whole) s.went a) is
    (λ whole rest ends. inl (ap stop_status (sym (ends_of whole s.items whole_input ends))))

-- ---- items

-- the jobs of a turn are fewer than its posts
pub takes_item : (takes : ℕ → Type 0) (i : ScriptItem) → HasFewPosts i → ((count : ℕ) → count < 2 ^ 32 → takes count) → TakesItem takes i
takes_item takes (kind.Map m) few all = tt
takes_item takes (kind.Base rects) few all = tt
takes_item takes (kind.Turn posts) few all = all (length (jobs posts)) (omega (arith, few, few_jobs posts))

-- the text of an item was told behind nothing, and then written
pub item_written : (report : Report) (s t : Said) (i : Item) (old new : List ℕ) (kept now : Option (List ℕ)) (result : Result (Unit {0}) WriteRefusal)
    → TellsItem report s i t old new → old ≡ [] → WritesPiece kept now new result → WritesSome (λ text. Says report s i text t) kept now result
item_written report s t i old new kept now result (text, (says, is)) none wrote =
    inl (text, (says, subst (λ (l : List ℕ). WritesPiece kept now l result) (is ∙ ap (λ (l : List ℕ). l ++ text) none) wrote))
