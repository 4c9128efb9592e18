-- How a match goes from what it was fed with to what it tells.
use Rattle.std.proofs.Common.{◌≡◌, ℕ, ◌+◌, ◌↔◌, List, [], ◌∷◌, ◌++◌, length, All, Bool, true, false, IsFalse, IsTrue, Option, Some, None, Result, Ok, Err, inl, inr, refl, sym, ap, subst, ◌∙◌, append_assoc, append-nil}
use Rattle.std.proofs.lemmas.List.Elements.{All-head, All-tail}
use Rattle.posts.specs.declared.notes.Report.{Report}
use Rattle.input_lines.specs.Lines.{full_lines, tail_of, unlines, IsPlain}
use Rattle.input_lines.proofs.LineLists.{unlines-line, full_lines-behind, full_lines-line, tail_of-line}
use Rattle.script_text.specs.declared.faults.ScriptFault.{ScriptFault}
use Rattle.script_text.specs.declared.faults.ScriptFault.TheVariants as met
use Rattle.script_text.specs.declared.items.ScriptItem.{ScriptItem}
use Rattle.script_text.specs.Script.{Item, Place, beginning, Stop, Ends, at_place, stuck_by, Walk, arrived, chain, chain_from, accept, walk, reading}
use Rattle.script_text.specs.declared.causes.Cause.{Cause}
use Rattle.script_text.specs.Causes.{cause, cause_from, line_cause, lines_cause, last_cause, stop_cause}
use Rattle.script_text.specs.Reader.{Held, unread, UsesLines, GoesOn, stuck_after}
use Rattle.script_text.specs.Pushed.{item_of, PushTold}
use Rattle.script_text.proofs.ReadCalls.{uses_then}
use Rattle.script_text.proofs.ReadNext.{took_more}
use Rattle.script_text.proofs.ReadWalk.{chain-assoc, chain-same, reading-line}
use Rattle.match_play.specs.declared.states.ScriptStop.{ScriptStop}
use Rattle.match_play.specs.declared.states.ScriptStop.TheVariants.{BadLine, TooLong}
use Rattle.match_play.specs.declared.states.NextItem.{NextItem}
use Rattle.match_play.specs.declared.states.NextItem.TheVariants as next_item
use Rattle.match_play.specs.declared.states.MatchProgress.{MatchProgress}
use Rattle.match_play.specs.declared.states.MatchState.{MatchState}
use Rattle.match_play.specs.declared.faults.MatchFault.{MatchFault}
use Rattle.match_play.specs.declared.faults.MatchFault.TheVariants as fault
use Rattle.match_play.specs.Texts.{Said, unsaid, Says, Gives, IsText, stop_text, ends_text}
use Rattle.match_play.specs.Playing.{said_of, stop_of, ReadsItems, HasCause, StopsSo, StopsBehind, HasRead, told_stop, IsOver, HasPlayed, IsLinesText, IsStopText, FeedTold, Plays, FeedPlays}
use Rattle.match_play.specs.Grounds.{Tells}
use Rattle.match_play.specs.inner.Fitting.{IsStopped, TellsStop, fault_of, stop_in}

-- ---- texts

-- what is written for items, and then for more
pub gives_on : (report : Report) (s mid t : Said) (items more : List Item) (text piece : List ℕ)
    → Gives report s items text mid → Gives report mid more piece t → Gives report s (items ++ more) (text ++ piece) t
gives_on report s mid t [] more text piece (none, here) gives =
    subst (λ (l : List ℕ). Gives report s more (l ++ piece) t) (sym none) (subst (λ (r : Said). Gives report r more piece t) (sym here) gives)
gives_on report s mid t (first ∷ items) more text piece (one, (next, (rest, (said, (gives, parts))))) goes = (
  one,
  (
    next,
    (
      rest ++ piece,
      (
        said,
        (
          gives_on report next mid t items more rest piece gives goes,
          ap (λ (l : List ℕ). l ++ piece) parts ∙ append_assoc one rest piece,
        ),
      ),
    ),
  ),
)

-- what is written for one item
pub gives_one : (report : Report) (s t : Said) (item : Item) (piece : List ℕ) → Says report s item piece t → Gives report s (item ∷ []) piece t
gives_one report s t item piece says = (piece, (t, ([], (says, ((refl, refl), sym (append-nil piece))))))

-- ---- readings behind lines

reading_lines : (lines : List (List ℕ)) (rest : List ℕ) (p : Place) → All IsPlain lines
    → reading (unlines lines ++ rest) p ≡ chain (walk lines p) (λ q. reading rest q)
reading_lines [] rest p plain = refl
reading_lines (line ∷ lines) rest p plain =
    let w = accept (length line + 1) line p in
    ap (λ (bytes : List ℕ). reading bytes p) (unlines-line line lines rest)
    ∙ reading-line line (unlines lines ++ rest) p (All-head IsPlain line lines plain)
    ∙ chain-same w (λ q. reading (unlines lines ++ rest) q) (λ q. chain (walk lines q) (λ r. reading rest r)) (λ q. reading_lines lines rest q (All-tail IsPlain line lines plain))
    ∙ sym (chain-assoc w (λ q. walk lines q) (λ r. reading rest r))

-- the reading goes on behind lines that were used
pub reading_used : (fed rest : List ℕ) (held : Held) (items : List Item) → UsesLines unread held fed items
    → reading (fed ++ rest) beginning ≡ chain (arrived items held.place) (λ q. reading (held.bytes ++ rest) q)
reading_used fed rest held items u =
    ap (λ (bytes : List ℕ). reading bytes beginning) (ap (λ (l : List ℕ). l ++ rest) u.bytes ∙ append_assoc (unlines u.lines) held.bytes rest)
    ∙ reading_lines u.lines (held.bytes ++ rest) beginning u.plain
    ∙ ap (λ (w : Walk). chain w (λ q. reading (held.bytes ++ rest) q)) u.walked

-- ---- causes behind lines

cause_line : (line rest : List ℕ) (p : Place) → IsPlain line → stop_cause (line ++ 10 ∷ rest) p ≡ line_cause (length line + 1) line p (stop_cause rest)
cause_line line rest p plain =
    ap (λ (lines : List (List ℕ)). lines_cause lines p (last_cause (tail_of (line ++ 10 ∷ rest)))) (full_lines-line line rest plain)
    ∙ ap (λ (tail : List ℕ). lines_cause (line ∷ full_lines rest) p (last_cause tail)) (tail_of-line line rest plain)

-- a walk that arrives went on from where its first part ended
by_ends : (items : List Item) (ends : Ends) (why : Option Cause) (next : Place → Option Cause) (go_on : Place → Walk) (q : Place) (to : Option Cause)
    → ((r : Place) → (go_on r).ends ≡ at_place q → next r ≡ to) → (chain_from items ends go_on).ends ≡ at_place q → cause_from ends why next ≡ to
by_ends items (at_place r) why next go_on q to then is = then r is
by_ends items (stuck_by stop) why next go_on q to then is = absurd (cc)

cause_lines : (lines : List (List ℕ)) (rest : List ℕ) (p q : Place) → All IsPlain lines → (walk lines p).ends ≡ at_place q
    → stop_cause (unlines lines ++ rest) p ≡ stop_cause rest q
cause_lines [] rest p q plain is = let here : p ≡ q = cc in ap (λ (r : Place). stop_cause rest r) here
cause_lines (line ∷ lines) rest p q plain is =
    let w = accept (length line + 1) line p in
    ap (λ (bytes : List ℕ). stop_cause bytes p) (unlines-line line lines rest)
    ∙ cause_line line (unlines lines ++ rest) p (All-head IsPlain line lines plain)
    ∙ by_ends w.items w.ends (cause p.part (p.turns + 1) line) (stop_cause (unlines lines ++ rest)) (λ r. walk lines r) q (stop_cause rest q)
    (λ r on. cause_lines lines rest r q (All-tail IsPlain line lines plain) on) is

-- the cause is that of what follows lines that were used
pub cause_used : (fed rest : List ℕ) (held : Held) (items : List Item) → UsesLines unread held fed items
    → stop_cause (fed ++ rest) beginning ≡ stop_cause (held.bytes ++ rest) held.place
cause_used fed rest held items u =
    ap (λ (bytes : List ℕ). stop_cause bytes beginning) (ap (λ (l : List ℕ). l ++ rest) u.bytes ∙ append_assoc (unlines u.lines) held.bytes rest)
    ∙ cause_lines u.lines (held.bytes ++ rest) beginning held.place u.plain (ap (λ (w : Walk). w.ends) u.walked)

-- ---- steps

pub plays_none : (a : MatchState) (left : List ℕ) → Plays a a left left
plays_none a left = record {
  taken = [];
  took = refl;
  text = [];
  waits = sym (append-nil a.waiting);
  report = refl;
  played = λ fed told h. subst (λ (l : List ℕ). HasPlayed a l (told ++ [])) (sym (append-nil fed)) (subst (HasPlayed a fed) (sym (append-nil told)) h);
}

pub plays_then : (a b c : MatchState) (x y z : List ℕ) → Plays a b x y → Plays b c y z → Plays a c x z
plays_then a b c x y z p q = record {
  taken = p.taken ++ q.taken;
  took = took_more x y z p.taken q.taken p.took q.took;
  text = p.text ++ q.text;
  waits = q.waits ∙ (ap (λ (l : List ℕ). l ++ q.text) p.waits ∙ append_assoc a.waiting p.text q.text);
  report = q.report ∙ p.report;
  played = λ fed told h.
      subst (λ (l : List ℕ). HasPlayed c l (told ++ (p.text ++ q.text))) (append_assoc fed p.taken q.taken)
      (subst (HasPlayed c ((fed ++ p.taken) ++ q.taken)) (append_assoc told p.text q.text)
      (q.played (fed ++ p.taken) (told ++ p.text) (p.played fed told h)));
}

-- the piece without what may come behind it
took_here : (piece left taken : List ℕ) → piece ++ [] ≡ taken ++ (left ++ []) → piece ≡ taken ++ left
took_here piece left taken took = sym (append-nil piece) ∙ took ∙ ap (λ (l : List ℕ). taken ++ l) (append-nil left)

-- the script after a call
abbrev pub with_script : MatchState → Held → MatchState
with_script a new = record a { script = new }

abbrev pub with_ahead : MatchState → Held → NextItem → MatchState
with_ahead a new next = record a { script = new; next_item = next }

-- ---- a script that goes on

-- the lines that were used before a call
used_before : (a : MatchState) (fed : List ℕ) (items : List Item) → IsFalse a.ended → a.next_item ≡ next_item.Lines → HasRead a.ended a.script fed items a.next_item
    → UsesLines unread a.script fed items
used_before a fed items unended at read =
    let lines : ReadsItems a.ended a.script fed items = subst (HasRead a.ended a.script fed items) at read in
    subst (λ (e : Bool). ReadsItems e a.script fed items) unended lines

-- and those that were used after it
used_after : (a : MatchState) (held : Held) (fed : List ℕ) (items : List Item) → IsFalse a.ended → a.next_item ≡ next_item.Lines → UsesLines unread held fed items
    → HasRead a.ended held fed items a.next_item
used_after a held fed items unended at used =
    subst (HasRead a.ended held fed items) (sym at) (reads_items a.ended held fed items unended used)
  where
    reads_items : (ended : Bool) (held : Held) (fed : List ℕ) (items : List Item) → IsFalse ended → UsesLines unread held fed items → ReadsItems ended held fed items
    reads_items ended held fed items unended used = subst (λ (e : Bool). ReadsItems e held fed items) (sym unended) used

-- lines were used that give nothing
plays_on : (a : MatchState) (new : Held) (piece left : List ℕ) → IsFalse a.ended → a.next_item ≡ next_item.Lines → GoesOn a.script new (piece ++ []) (left ++ []) [] → IsFalse new.ended
    → Plays a (with_script a new) piece left
plays_on a new piece left unended at g going = record {
  taken = g.taken;
  took = took_here piece left g.taken g.took;
  text = [];
  waits = sym (append-nil a.waiting);
  report = refl;
  played = λ fed told h.
      let read = used_before a fed h.items unended at h.read in
      let used = uses_then unread a.script new fed g.taken h.items [] read (g.used going) in
      record {
        items = h.items;
        text = h.text;
        read = used_after a new (fed ++ g.taken) h.items unended at (subst (UsesLines unread new (fed ++ g.taken)) (append-nil h.items) used);
        gives = h.gives;
        all = append-nil told ∙ h.all;
      };
}

pub plays_lines : (a : MatchState) (new : Held) (piece left : List ℕ) → IsFalse a.ended → a.next_item ≡ next_item.Lines → PushTold a.script new piece left (Ok None) → IsFalse new.ended
    → Plays a (with_script a new) piece left
plays_lines a new piece left unended at told going = plays_on a new piece left unended at (told []) going

-- there was no memory
pub plays_fault : (a : MatchState) (new : Held) (piece left : List ℕ) (fault : ScriptFault) → IsFalse a.ended → a.next_item ≡ next_item.Lines → PushTold a.script new piece left (Err fault)
    → IsFalse new.ended → stop_in fault ≡ None → Plays a (with_script a new) piece left
plays_fault a new piece left (met.BadLine n) unended at told going none = absurd (cc)
plays_fault a new piece left (met.TooLong n) unended at told going none = absurd (cc)
plays_fault a new piece left met.ReadFault unended at told going none = absurd (told [])
plays_fault a new piece left met.NoMemory unended at told going none = plays_on a new piece left unended at (told []) going

-- an item was read
pub plays_item : (a : MatchState) (new : Held) (item : ScriptItem) (piece left : List ℕ) → IsFalse a.ended → a.next_item ≡ next_item.Lines
    → PushTold a.script new piece left (Ok (Some item)) → IsFalse new.ended → Plays a (with_ahead a new (next_item.Item item)) piece left
plays_item a new item piece left unended at told going =
    let g = told [] in
    record {
      taken = g.taken;
      took = took_here piece left g.taken g.took;
      text = [];
      waits = sym (append-nil a.waiting);
      report = refl;
      played = λ fed told h.
          let read = used_before a fed h.items unended at h.read in
          let used = uses_then unread a.script new fed g.taken h.items (item_of item ∷ []) read (g.used going) in
          record {
            items = h.items;
            text = h.text;
            read = subst (λ (e : Bool). ReadsItems e new (fed ++ g.taken) (h.items ++ item_of item ∷ [])) (sym unended) used;
            gives = h.gives;
            all = append-nil told ∙ (h.all ∙ ap (λ (next : NextItem). h.text ++ told_stop next) at);
          };
    }

pub stops_same : (a b : ScriptStop) → Some a ≡ Some b → a ≡ b
stops_same a b is = cc

-- the script stops, whatever comes
stopped : (old new : Held) (piece left : List ℕ) (fault : ScriptFault) (stop : ScriptStop) → PushTold old new piece left (Err fault) → stop_in fault ≡ Some stop
    → (more : List ℕ) → reading (old.bytes ++ (piece ++ more)) old.place ≡ stuck_after [] (stop_of stop)
stopped old new piece left (met.BadLine n) stop told is more =
    let same : BadLine n ≡ stop = stops_same (BadLine n) stop is in
    subst (λ (s : ScriptStop). reading (old.bytes ++ (piece ++ more)) old.place ≡ stuck_after [] (stop_of s)) same (told more).stuck
stopped old new piece left (met.TooLong n) stop told is more =
    let same : TooLong n ≡ stop = stops_same (TooLong n) stop is in
    subst (λ (s : ScriptStop). reading (old.bytes ++ (piece ++ more)) old.place ≡ stuck_after [] (stop_of s)) same (told more)
stopped old new piece left met.ReadFault stop told is more = absurd (told more)
stopped old new piece left met.NoMemory stop told is more = absurd (cc)

-- and the cause of a bad line is that of what is held
caused : (old new : Held) (fed piece left : List ℕ) (fault : ScriptFault) (stop : ScriptStop) → PushTold old new piece left (Err fault) → stop_in fault ≡ Some stop
    → (more : List ℕ) → stop_cause ((fed ++ piece) ++ more) beginning ≡ stop_cause (old.bytes ++ (piece ++ more)) old.place
    → HasCause (stop_of stop) new ((fed ++ piece) ++ more)
caused old new fed piece left (met.BadLine n) stop told is more same =
    subst (λ (s : ScriptStop). HasCause (stop_of s) new ((fed ++ piece) ++ more)) (stops_same (BadLine n) stop is) (same ∙ (told more).cause)
caused old new fed piece left (met.TooLong n) stop told is more same =
    subst (λ (s : ScriptStop). HasCause (stop_of s) new ((fed ++ piece) ++ more)) (stops_same (TooLong n) stop is) tt
caused old new fed piece left met.ReadFault stop told is more same = absurd (told more)
caused old new fed piece left met.NoMemory stop told is more same = absurd (cc)

stuck_behind : (fed piece more : List ℕ) (held : Held) (items : List Item) (stop : Stop) → UsesLines unread held fed items
    → reading (held.bytes ++ (piece ++ more)) held.place ≡ stuck_after [] stop → reading ((fed ++ piece) ++ more) beginning ≡ stuck_after items stop
stuck_behind fed piece more held items stop u is =
    ap (λ (bytes : List ℕ). reading bytes beginning) (append_assoc fed piece more)
    ∙ reading_used fed (piece ++ more) held items u
    ∙ ap (λ (w : Walk). chain (arrived items held.place) (λ q. w)) is
    ∙ ap (λ (l : List Item). stuck_after l stop) (append-nil items)

pub plays_stop : (a : MatchState) (new : Held) (piece left : List ℕ) (fault : ScriptFault) (stop : ScriptStop) → IsFalse a.ended → a.next_item ≡ next_item.Lines
    → PushTold a.script new piece left (Err fault) → stop_in fault ≡ Some stop → Plays a (with_ahead a new (next_item.Stop stop)) piece []
plays_stop a new piece left fault stop unended at told is = record {
  taken = piece;
  took = sym (append-nil piece);
  text = [];
  waits = sym (append-nil a.waiting);
  report = refl;
  played = λ fed said h.
      let read = used_before a fed h.items unended at h.read in
      let stuck : (more : List ℕ) → StopsSo new ((fed ++ piece) ++ more) h.items (stop_of stop) =
      λ more. record {
        stuck = stuck_behind fed piece more a.script h.items (stop_of stop) read (stopped a.script new piece left fault stop told is more);
        cause = caused a.script new fed piece left fault stop told is more
            (ap (λ (bytes : List ℕ). stop_cause bytes beginning) (append_assoc fed piece more) ∙ cause_used fed (piece ++ more) a.script h.items read);
      } in
      record {
        items = h.items;
        text = h.text;
        read = subst (λ (e : Bool). StopsBehind e new (fed ++ piece) h.items (stop_of stop)) (sym unended) stuck;
        gives = h.gives;
        all = append-nil said ∙ (h.all ∙ ap (λ (next : NextItem). h.text ++ told_stop next) at);
      };
}

-- the item that waits was told
pub plays_told : (a : MatchState) (item : ScriptItem) (next : MatchProgress) (waits left : List ℕ) → a.next_item ≡ next_item.Item item
    → Tells a.report (said_of a.progress) (item_of item) (said_of next) a.waiting waits
    → Plays a (record a { next_item = next_item.Lines; progress = next; waiting = waits }) left left
plays_told a item next waits left at (piece, (says, is)) = record {
  taken = [];
  took = refl;
  text = piece;
  waits = is;
  report = refl;
  played = λ fed told h.
      let read : ReadsItems a.ended a.script fed (h.items ++ item_of item ∷ []) = subst (HasRead a.ended a.script fed h.items) at h.read in
      let said : told ≡ h.text = h.all ∙ (ap (λ (n : NextItem). h.text ++ told_stop n) at ∙ append-nil h.text) in
      record {
        items = h.items ++ item_of item ∷ [];
        text = h.text ++ piece;
        read = subst (λ (l : List ℕ). ReadsItems a.ended a.script l (h.items ++ item_of item ∷ [])) (sym (append-nil fed)) read;
        gives = gives_on a.report unsaid (said_of a.progress) (said_of next) h.items (item_of item ∷ []) h.text piece h.gives
            (gives_one a.report (said_of a.progress) (said_of next) (item_of item) piece says);
        all = ap (λ (l : List ℕ). l ++ piece) said ∙ sym (append-nil (h.text ++ piece));
      };
}

-- the stop was told
pub plays_end : (a : MatchState) (stop : ScriptStop) (waits left : List ℕ) → a.next_item ≡ next_item.Stop stop → waits ≡ a.waiting ++ stop_text (stop_of stop)
    → Plays a (record a { next_item = next_item.Nothing stop; waiting = waits }) left left
plays_end a stop waits left at is = record {
  taken = [];
  took = refl;
  text = stop_text (stop_of stop);
  waits = is;
  report = refl;
  played = λ fed told h.
      let read : StopsBehind a.ended a.script fed h.items (stop_of stop) = subst (HasRead a.ended a.script fed h.items) at h.read in
      let said : told ≡ h.text = h.all ∙ (ap (λ (n : NextItem). h.text ++ told_stop n) at ∙ append-nil h.text) in
      record {
        items = h.items;
        text = h.text;
        read = subst (λ (l : List ℕ). StopsBehind a.ended a.script l h.items (stop_of stop)) (sym (append-nil fed)) read;
        gives = h.gives;
        all = ap (λ (l : List ℕ). l ++ stop_text (stop_of stop)) said;
      };
}

-- a stopped match takes what comes
more_bytes : (ended : Bool) (held : Held) (fed more : List ℕ) (items : List Item) (stop : Stop) → IsFalse ended → StopsBehind ended held fed items stop
    → StopsBehind ended held (fed ++ more) items stop
more_bytes true held fed more items stop unended read = absurd (cc)
more_bytes false held fed more items stop unended read = λ rest.
    subst (λ (bytes : List ℕ). StopsSo held bytes items stop) (sym (append_assoc fed more rest)) (read (more ++ rest))

more_read : (ended : Bool) (held : Held) (fed more : List ℕ) (items : List Item) (next : NextItem) → IsFalse ended → IsStopped next → HasRead ended held fed items next
    → HasRead ended held (fed ++ more) items next
more_read ended held fed more items next_item.Lines unended stopped read = absurd stopped
more_read ended held fed more items (next_item.Item item) unended stopped read = absurd stopped
more_read ended held fed more items (next_item.Stop stop) unended stopped read = more_bytes ended held fed more items (stop_of stop) unended read
more_read ended held fed more items (next_item.Nothing stop) unended stopped read = more_bytes ended held fed more items (stop_of stop) unended read
more_read ended held fed more items next_item.Whole unended stopped read = absurd stopped

pub plays_stopped : (a : MatchState) (piece : List ℕ) → IsFalse a.ended → IsStopped a.next_item → Plays a a piece []
plays_stopped a piece unended stopped = record {
  taken = piece;
  took = sym (append-nil piece);
  text = [];
  waits = sym (append-nil a.waiting);
  report = refl;
  played = λ fed told h. record {
    items = h.items;
    text = h.text;
    read = more_read a.ended a.script fed piece h.items a.next_item unended stopped h.read;
    gives = h.gives;
    all = append-nil told ∙ h.all;
  };
}

-- ---- answers

-- all whole lines were played
lines_text : (b : MatchState) (fed told : List ℕ) → IsFalse b.ended → b.next_item ≡ next_item.Lines → full_lines b.script.bytes ≡ [] → HasPlayed b fed told → IsLinesText b.report fed told
lines_text b fed told unended at none h =
    let u = used_before b fed h.items unended at h.read in
    let lines : full_lines fed ≡ u.lines =
    ap full_lines u.bytes ∙ (full_lines-behind u.lines b.script.bytes u.plain ∙ (ap (λ (ls : List (List ℕ)). u.lines ++ ls) none ∙ append-nil u.lines)) in
    let said : told ≡ h.text = h.all ∙ (ap (λ (n : NextItem). h.text ++ told_stop n) at ∙ append-nil h.text) in
    record {
      items = h.items;
      place = b.script.place;
      walked = ap (λ (ls : List (List ℕ)). walk ls beginning) lines ∙ u.walked;
      text = (said_of b.progress, subst (λ (l : List ℕ). Gives b.report unsaid h.items l (said_of b.progress)) (sym said) h.gives);
    }

pub feed_lines : (a b : MatchState) (piece left : List ℕ) → Plays a b piece left → IsFalse b.ended → b.next_item ≡ next_item.Lines → full_lines b.script.bytes ≡ [] → FeedPlays a b piece left (Ok tt)
feed_lines a b piece left p unended at none = record {
  plays = p;
  told = λ fed told h. subst (λ (r : Report). IsLinesText r (fed ++ p.taken) (told ++ p.text)) p.report
      (lines_text b (fed ++ p.taken) (told ++ p.text) unended at none (p.played fed told h));
}

pub feed_nothing : (a b : MatchState) (piece left : List ℕ) → Plays a b piece left → FeedPlays a b piece left (Err fault.NoMemory)
feed_nothing a b piece left p = record { plays = p; told = λ fed told h. tt }

-- the match has stopped
stop_told : (b : MatchState) (stop : ScriptStop) (fed told : List ℕ) → IsFalse b.ended → b.next_item ≡ next_item.Nothing stop → HasPlayed b fed told → IsStopText b.report (stop_of stop) fed told
stop_told b stop fed told unended at h =
    let stops : StopsBehind b.ended b.script fed h.items (stop_of stop) = subst (HasRead b.ended b.script fed h.items) at h.read in
    let so : (more : List ℕ) → StopsSo b.script (fed ++ more) h.items (stop_of stop) =
    subst (λ (e : Bool). StopsBehind e b.script fed h.items (stop_of stop)) unended stops in
    let read : (more : List ℕ) → reading (fed ++ more) beginning ≡ stuck_after h.items (stop_of stop) = λ more. (so more).stuck in
    let said : told ≡ h.text ++ stop_text (stop_of stop) = h.all ∙ ap (λ (n : NextItem). h.text ++ told_stop n) at in
    record {
      stuck = λ more. ap (λ (w : Walk). w.ends) (read more);
      out = λ more.
          subst (λ (w : Walk). (body : List ℕ) × (IsText b.report w.items body × (told ≡ body ++ ends_text w.ends))) (sym (read more))
          (h.text, ((said_of b.progress, h.gives), said));
    }

told_by : (report : Report) (stop : ScriptStop) (fed told : List ℕ) → IsStopText report (stop_of stop) fed told → FeedTold report (Err (fault_of stop)) fed told
told_by report (BadLine n) fed told is = is
told_by report (TooLong n) fed told is = is

feed_stopped : (a b : MatchState) (stop : ScriptStop) (piece left : List ℕ) → Plays a b piece left → IsFalse b.ended → b.next_item ≡ next_item.Nothing stop
    → FeedPlays a b piece left (Err (fault_of stop))
feed_stopped a b stop piece left p unended at = record {
  plays = p;
  told = λ fed told h. told_by a.report stop (fed ++ p.taken) (told ++ p.text)
      (subst (λ (r : Report). IsStopText r (stop_of stop) (fed ++ p.taken) (told ++ p.text)) p.report
      (stop_told b stop (fed ++ p.taken) (told ++ p.text) unended at (p.played fed told h)));
}

-- the stop was told, or there was no memory
pub feed_told : (a b : MatchState) (piece left : List ℕ) (result : Result (Unit {0}) MatchFault) → Plays a b piece left → IsFalse b.ended → TellsStop b.next_item result
    → FeedPlays a b piece left result
feed_told a b piece left result p unended (inl none) = subst (FeedPlays a b piece left) (sym none) (feed_nothing a b piece left p)
feed_told a b piece left result p unended (inr (stop, (at, is))) = subst (FeedPlays a b piece left) (sym is) (feed_stopped a b stop piece left p unended at)

-- the script had ended
pub feed_ended : (a : MatchState) (piece : List ℕ) → FeedPlays a a piece piece (Err fault.Ended)
feed_ended a piece = record { plays = plays_none a piece; told = λ fed told h. tt }

-- a stop is no end
pub stop_answer : (next : NextItem) (result : Result (Unit {0}) MatchFault) → TellsStop next result → result ≡ Err fault.Ended → ⊥
stop_answer next result (inl none) is = absurd (cc)
stop_answer next result (inr (BadLine n, (at, met))) is = absurd (cc)
stop_answer next result (inr (TooLong n, (at, met))) is = absurd (cc)

-- an answer that only a script gives that has ended
pub only_ended : (result : Result (Unit {0}) MatchFault) (ended : Bool) → IsFalse ended → (result ≡ Err fault.Ended → ⊥) → (result ≡ Err fault.Ended) ↔ IsTrue ended
only_ended result ended unended answer = (λ is. absurd (answer is), λ end. absurd (cc))

-- and only one of which all was told
pub only_over : (a : MatchState) (result : Result (Unit {0}) MatchFault) (over : Bool) → (IsOver a → IsTrue over) → IsFalse over → (result ≡ Err fault.Ended → ⊥)
    → (result ≡ Err fault.Ended) ↔ IsOver a
only_over a result over says none answer = (λ is. absurd (answer is), λ end. let is = says end in absurd (cc))
