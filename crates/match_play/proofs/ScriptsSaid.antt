-- What the items of a whole script say.
use Rattle.std.proofs.Common.{◌≡◌, ℕ, ◌+◌, List, [], ◌∷◌, ◌++◌, length, All, Bool, true, false, cond, Option, Some, None, option_map, option_and_then, Ok, Err, refl, sym, ap, subst, ◌∙◌, append_assoc, append-nil}
use Rattle.std.proofs.lemmas.List.Elements.{All-nil, All-cons, All-append}
use Rattle.posts.specs.declared.posts.Post.{Post}
use Rattle.posts.specs.Maps.{Map, with_base}
use Rattle.input_lines.specs.Lines.{full_lines, tail_of}
use Rattle.script_text.specs.declared.faults.ScriptFault.{ScriptFault}
use Rattle.script_text.specs.declared.faults.ScriptFault.TheVariants as met
use Rattle.script_text.specs.declared.items.ScriptItem.{ScriptItem}
use Rattle.script_text.specs.declared.items.ScriptItem.TheVariants as item
use Rattle.script_text.specs.declared.parts.Part.TheVariants.{InBase}
use Rattle.script_text.specs.declared.parts.Rules.{Rules}
use Rattle.script_text.specs.declared.causes.Cause.{Cause}
use Rattle.script_text.specs.Causes.{next_cause, stop_cause}
use Rattle.script_text.specs.Forms.{map_of}
use Rattle.script_text.specs.Pushed.{item_of, EndTold, EndsWith, KeepsRules, KeepsTo, PushTold}
use Rattle.script_text.specs.Reader.{Held, HoldsRefused, held_cause, rules_at, stuck_after, unread}
use Rattle.script_text.specs.Script.{Item, begins, adds_base, ends_turn, Place, beginning, Stop, whole_input, too_long, bad_line, Walk, arrived, stuck, chain, accept, counted, finish, is_long, last_line, map_after, map_after_item, map_line, no_posts, reading, reading_of, rules_of, turns_of, walk}
use Rattle.script_text.proofs.ReadCalls.{map_after-append, turns_of-append}
use Rattle.script_text.proofs.ReadWalk.{chain-assoc}
use Rattle.match_play.specs.declared.scripts.SaidSoFar.{SaidSoFar}
use Rattle.match_play.specs.declared.faults.MatchFault.TheVariants as fault
use Rattle.match_play.specs.Scripts.{IsBadLineOf, IsTurnOn, RefusesScript, SaysMatch}
use Rattle.match_play.specs.inner.Reading.{AreTurnsOn, FitsMap, GoesWith, HasRead, HasReadAll, HoldsCause, fault_in}

-- ---- nothing was read

pub read_nothing : (script : List ℕ) (held : Held) (said : SaidSoFar) → held ≡ unread → said ≡ record { map = None; journal = [] } → HasRead script held script said
read_nothing script held said h s =
    subst (λ (x : Held). HasRead script x script said) (sym h)
    (subst (HasRead script unread script) (sym s) (record { items = []; goes = refl; cause = refl; says_map = refl; says_turns = refl }))

pub with_nothing : (held : Held) (said : SaidSoFar) → held ≡ unread → said ≡ record { map = None; journal = [] } → GoesWith held said
with_nothing held said h s =
    subst (λ (x : Held). GoesWith x said) (sym h) (subst (GoesWith unread) (sym s) (record { rules = refl; turns = refl }))

-- ---- an item more

-- what an item says is behind what was said
record SaysMore (said next : SaidSoFar) (i : ScriptItem) : Type 0 where
  map : next.map ≡ map_after_item said.map (item_of i)
  journal : next.journal ≡ said.journal ++ turns_of (item_of i ∷ [])

more_items : (items : List Item) (said next : SaidSoFar) (i : ScriptItem) → map_after None items ≡ said.map → turns_of items ≡ said.journal
    → SaysMore said next i → (map_after None (items ++ item_of i ∷ []) ≡ next.map) × (turns_of (items ++ item_of i ∷ []) ≡ next.journal)
more_items items said next i map turns says = (
  map_after-append None items (item_of i ∷ []) ∙ (ap (λ (m : Option Map). map_after_item m (item_of i)) map ∙ sym says.map),
  turns_of-append items (item_of i ∷ []) ∙ (ap (λ (t : List (List (List Post))). t ++ turns_of (item_of i ∷ [])) turns ∙ sym says.journal),
)

-- the cause with no bytes behind
with_more : (held : Held) (bytes : List ℕ) → stop_cause (held.bytes ++ bytes) held.place ≡ stop_cause (held.bytes ++ (bytes ++ [])) held.place
with_more held bytes = ap (λ (l : List ℕ). stop_cause (held.bytes ++ l) held.place) (sym (append-nil bytes))

-- the cause of what is held, with nothing behind
of_held : (held : Held) → stop_cause (held.bytes ++ []) held.place ≡ stop_cause held.bytes held.place
of_held held = ap (λ (l : List ℕ). stop_cause l held.place) (append-nil held.bytes)

pub read_item : (script : List ℕ) (old new : Held) (before left : List ℕ) (said next : SaidSoFar) (i : ScriptItem) → HasRead script old before said
    → PushTold old new before left (Ok (Some i)) → next.map ≡ map_after_item said.map (item_of i) → next.journal ≡ said.journal ++ turns_of (item_of i ∷ [])
    → HasRead script new left next
read_item script old new before left said next i h told map journal =
    let says : SaysMore said next i = record { map = map; journal = journal } in
    let more = more_items h.items said next i h.says_map h.says_turns says in
    let behind = reading (new.bytes ++ left) new.place in
    let here : reading (old.bytes ++ before) old.place ≡ chain (arrived (item_of i ∷ []) new.place) (λ q. reading (new.bytes ++ left) q) =
    ap (λ (l : List ℕ). reading (old.bytes ++ l) old.place) (sym (append-nil before)) ∙ ((told []).same
    ∙ ap (λ (l : List ℕ). chain (arrived (item_of i ∷ []) new.place) (λ q. reading (new.bytes ++ l) q)) (append-nil left)) in
    record {
      items = h.items ++ item_of i ∷ [];
      goes = h.goes ∙ (ap (λ (w : Walk). chain (arrived h.items old.place) (λ q. w)) here
          ∙ ap (λ (l : List Item). record { items = l; ends = behind.ends }) (sym (append_assoc h.items (item_of i ∷ []) behind.items)));
      cause = h.cause ∙ (with_more old before ∙ ((told []).cause ∙ ap (λ (l : List ℕ). stop_cause (new.bytes ++ l) new.place) (append-nil left)));
      says_map = more.0;
      says_turns = more.1;
    }

-- what is said keeps to the part of the script
abbrev StepsTo : Option Map → List (List (List Post)) → Option Rules → ScriptItem → Type 0
StepsTo m turns now i = (now ≡ option_map rules_of (map_after_item m (item_of i))) × AreTurnsOn (map_after_item m (item_of i)) (turns ++ turns_of (item_of i ∷ []))

keeps_step : (m : Option Map) (turns : List (List (List Post))) (now : Option Rules) (i : ScriptItem) → AreTurnsOn m turns → KeepsTo (option_map rules_of m) now i
    → StepsTo m turns now i
keeps_step None turns now (item.Map m) none keep =
    (keep, subst (All (IsTurnOn m)) (sym (append-nil turns)) (subst (All (IsTurnOn m)) (sym none) (All-nil (IsTurnOn m))))
keeps_step None turns now (item.Base rects) none keep = absurd keep
keeps_step None turns now (item.Turn posts) none keep = absurd keep
keeps_step (Some m) turns now (item.Map other) are keep = absurd keep
keeps_step (Some m) turns now (item.Base rects) are keep = (keep.0, subst (All (IsTurnOn m)) (sym (append-nil turns)) are)
keeps_step (Some m) turns now (item.Turn posts) are keep =
    (keep.0, All-append (IsTurnOn m) turns (posts ∷ []) are (All-cons (IsTurnOn m) posts [] keep.1 (All-nil (IsTurnOn m))))

keeps_now : (old new : Held) (said : SaidSoFar) (i : ScriptItem) → GoesWith old said → KeepsRules (rules_at old.place.part) (rules_at new.place.part) (Ok (Some i))
    → KeepsTo (option_map rules_of said.map) (rules_at new.place.part) i
keeps_now old new said i goes keep = subst (λ (r : Option Rules). KeepsTo r (rules_at new.place.part) i) goes.rules keep

pub with_item : (old new : Held) (said next : SaidSoFar) (i : ScriptItem) → GoesWith old said → KeepsRules (rules_at old.place.part) (rules_at new.place.part) (Ok (Some i))
    → next.map ≡ map_after_item said.map (item_of i) → next.journal ≡ said.journal ++ turns_of (item_of i ∷ []) → GoesWith new next
with_item old new said next i goes keep map journal =
    let step = keeps_step said.map said.journal (rules_at new.place.part) i goes.turns (keeps_now old new said i goes keep) in
    record {
      rules = step.0 ∙ ap (option_map rules_of) (sym map);
      turns = subst (λ (m : Option Map). AreTurnsOn m next.journal) (sym map)
          (subst (AreTurnsOn (map_after_item said.map (item_of i))) (sym journal) step.1);
    }

fits : (m : Option Map) (now : Option Rules) (i : ScriptItem) → KeepsTo (option_map rules_of m) now i → FitsMap m i
fits m now (item.Map other) keep = tt
fits m now (item.Turn posts) keep = tt
fits None now (item.Base rects) keep = absurd keep
fits (Some m) now (item.Base rects) keep = keep.1

pub fits_next : (old new : Held) (said : SaidSoFar) (i : ScriptItem) → GoesWith old said → KeepsRules (rules_at old.place.part) (rules_at new.place.part) (Ok (Some i))
    → FitsMap said.map i
fits_next old new said i goes keep = fits said.map (rules_at new.place.part) i (keeps_now old new said i goes keep)

-- ---- the lines are used up

pub read_lines : (script : List ℕ) (old new : Held) (before left : List ℕ) (said : SaidSoFar) → HasRead script old before said
    → PushTold old new before left (Ok None) → left ≡ [] → HasRead script new [] said
read_lines script old new before left said h told none =
    let behind = reading (new.bytes ++ []) new.place in
    let here : reading (old.bytes ++ before) old.place ≡ chain (arrived [] new.place) (λ q. reading (new.bytes ++ []) q) =
    ap (λ (l : List ℕ). reading (old.bytes ++ l) old.place) (sym (append-nil before)) ∙ ((told []).same
    ∙ ap (λ (l : List ℕ). chain (arrived [] new.place) (λ q. reading (new.bytes ++ l) q)) (append-nil left ∙ none)) in
    record {
      items = h.items;
      goes = h.goes ∙ ap (λ (w : Walk). chain (arrived h.items old.place) (λ q. w)) here;
      cause = h.cause ∙ (with_more old before ∙ ((told []).cause ∙ ap (λ (l : List ℕ). stop_cause (new.bytes ++ l) new.place) (append-nil left ∙ none)));
      says_map = h.says_map;
      says_turns = h.says_turns;
    }

pub with_lines : (old new : Held) (said : SaidSoFar) → GoesWith old said → KeepsRules (rules_at old.place.part) (rules_at new.place.part) (Ok None) → GoesWith new said
with_lines old new said goes keep = record { rules = keep ∙ goes.rules; turns = goes.turns }

-- ---- the reading stops

stops : (script : List ℕ) (old : Held) (before : List ℕ) (said : SaidSoFar) (stop : Stop) (h : HasRead script old before said)
    → reading (old.bytes ++ before) old.place ≡ stuck_after [] stop → reading script beginning ≡ stuck_after h.items stop
stops script old before said stop h stuck =
    h.goes ∙ (ap (λ (w : Walk). chain (arrived h.items old.place) (λ q. w)) stuck ∙ ap (λ (l : List Item). stuck_after l stop) (append-nil h.items))

ends_there : (script : List ℕ) (old : Held) (before : List ℕ) (said : SaidSoFar) (stop : Stop) → HasRead script old before said
    → reading (old.bytes ++ before) old.place ≡ stuck_after [] stop → (reading script beginning).ends ≡ (stuck_after [] stop).ends
ends_there script old before said stop h stuck = ap (λ (w : Walk). w.ends) (stops script old before said stop h stuck)

-- the same bytes, with none behind them
with_none : (old : Held) (bytes : List ℕ) (w : Walk) → reading (old.bytes ++ (bytes ++ [])) old.place ≡ w → reading (old.bytes ++ bytes) old.place ≡ w
with_none old bytes w is = ap (λ (l : List ℕ). reading (old.bytes ++ l) old.place) (sym (append-nil bytes)) ∙ is

alone : (old : Held) (w : Walk) → reading old.bytes old.place ≡ w → reading (old.bytes ++ []) old.place ≡ w
alone old w is = ap (λ (l : List ℕ). reading l old.place) (append-nil old.bytes) ∙ is

pub lines_stop : (script : List ℕ) (old new : Held) (before left : List ℕ) (said : SaidSoFar) (why : ScriptFault) → HasRead script old before said
    → PushTold old new before left (Err why) → RefusesScript script (fault_in why)
lines_stop script old new before left said (met.BadLine n) h told =
    ends_there script old before said (bad_line n) h (with_none old before (stuck_after [] (bad_line n)) (told []).stuck)
lines_stop script old new before left said (met.TooLong n) h told =
    ends_there script old before said (too_long n) h (with_none old before (stuck_after [] (too_long n)) (told []))
lines_stop script old new before left said met.ReadFault h told = tt
lines_stop script old new before left said met.NoMemory h told = tt

pub rest_stops : (script : List ℕ) (old new : Held) (said : SaidSoFar) (why : ScriptFault) → HasRead script old [] said
    → EndTold old new (Err why) → RefusesScript script (fault_in why)
rest_stops script old new said (met.BadLine n) h told =
    ends_there script old [] said (bad_line n) h (alone old (stuck_after [] (bad_line n)) told.stuck)
rest_stops script old new said (met.TooLong n) h told =
    ends_there script old [] said (too_long n) h (alone old (stuck_after [] (too_long n)) told)
rest_stops script old new said met.ReadFault h told = tt
rest_stops script old new said met.NoMemory h told = tt

-- ---- what is held at a bad line

pub lines_hold : (script : List ℕ) (old new : Held) (before left : List ℕ) (said : SaidSoFar) (why : ScriptFault) → HasRead script old before said
    → PushTold old new before left (Err why) → HoldsRefused new why → HoldsCause script new (fault_in why)
lines_hold script old new before left said (met.BadLine n) h told bad = (h.cause ∙ (with_more old before ∙ (told []).cause), bad.cause)
lines_hold script old new before left said (met.TooLong n) h told bad = tt
lines_hold script old new before left said met.ReadFault h told bad = tt
lines_hold script old new before left said met.NoMemory h told bad = tt

pub rest_holds : (script : List ℕ) (old new : Held) (said : SaidSoFar) (why : ScriptFault) → HasRead script old [] said
    → EndTold old new (Err why) → HoldsRefused new why → HoldsCause script new (fault_in why)
rest_holds script old new said (met.BadLine n) h told bad = (h.cause ∙ (of_held old ∙ told.cause), bad.cause)
rest_holds script old new said (met.TooLong n) h told bad = tt
rest_holds script old new said met.ReadFault h told bad = tt
rest_holds script old new said met.NoMemory h told bad = tt

-- ---- what stands behind the last newline

pub rest_item : (script : List ℕ) (old new : Held) (said next : SaidSoFar) (i : ScriptItem) → HasRead script old [] said → EndsWith old new (item_of i)
    → next.map ≡ map_after_item said.map (item_of i) → next.journal ≡ said.journal ++ turns_of (item_of i ∷ []) → HasRead script new [] next
rest_item script old new said next i h e map journal =
    let says : SaysMore said next i = record { map = map; journal = journal } in
    let more = more_items h.items said next i h.says_map h.says_turns says in
    let behind = finish new.place in
    let none : new.bytes ++ [] ≡ [] = append-nil new.bytes ∙ e.nothing in
    record {
      items = h.items ++ item_of i ∷ [];
      goes = h.goes ∙ (ap (λ (w : Walk). chain (arrived h.items old.place) (λ q. w)) (alone old (chain (arrived (item_of i ∷ []) new.place) finish) e.same)
          ∙ (ap (λ (l : List Item). record { items = l; ends = behind.ends }) (sym (append_assoc h.items (item_of i ∷ []) behind.items))
          ∙ ap (λ (bytes : List ℕ). chain (arrived (h.items ++ item_of i ∷ []) new.place) (λ q. reading bytes q)) (sym none)));
      cause = h.cause ∙ (of_held old ∙ (e.cause ∙ (ap (next_cause new.place) e.nothing ∙ ap (λ (bytes : List ℕ). stop_cause bytes new.place) (sym none))));
      says_map = more.0;
      says_turns = more.1;
    }

pub rest_whole : (script : List ℕ) (old : Held) (said : SaidSoFar) → HasRead script old [] said → reading old.bytes old.place ≡ stuck whole_input
    → HasReadAll script said
rest_whole script old said h is = record {
  items = h.items;
  whole = stops script old [] said whole_input h (alone old (stuck whole_input) is);
  says_map = h.says_map;
  says_turns = h.says_turns;
}

-- ---- a whole script has a map

map_stays : (m : Map) (items : List Item) → map_after (Some m) items ≡ None → ⊥
map_stays m [] none = absurd (cc)
map_stays m (begins other ∷ items) none = map_stays other items none
map_stays m (adds_base rects ∷ items) none = map_stays (with_base m rects) items none
map_stays m (ends_turn posts ∷ items) none = map_stays m items none

-- the first line is the map line, or the script stops there
opens : (long : Bool) (m : Option Map) (p : Place) (go_on : Place → Walk) (items : List Item)
    → chain (cond long (stuck (too_long 1)) (map_line p m)) go_on ≡ stuck_after items whole_input → map_after None items ≡ None → ⊥
opens true m p go_on items is none = let ends = ap (λ (w : Walk). w.ends) is in absurd (cc)
opens false None p go_on items is none = let ends = ap (λ (w : Walk). w.ends) is in absurd (cc)
opens false (Some m) p go_on items is none =
    let q = record p { part = InBase (rules_of m); posts = no_posts m.callers } in
    map_stays m (go_on q).items (ap (λ (w : Walk). map_after None w.items) is ∙ none)

begins_with : (lines : List (List ℕ)) (tail : List ℕ) (items : List Item)
    → chain (walk lines beginning) (λ q. last_line tail q) ≡ stuck_after items whole_input → map_after None items ≡ None → ⊥
begins_with [] [] items is none = let ends = ap (λ (w : Walk). w.ends) is in absurd (cc)
begins_with [] (byte ∷ bytes) items is none =
    let line = byte ∷ bytes in
    let whole = chain (accept (length line) line beginning) finish in
    let same : whole ≡ stuck_after items whole_input = is in
    opens (is_long beginning (length line) line) (option_and_then map_of (reading_of line)) (counted beginning (length line)) finish items same none
begins_with (line ∷ lines) tail items is none =
    let first = accept (length line + 1) line beginning in
    let on : chain (chain first (λ q. walk lines q)) (λ q. last_line tail q) ≡ chain first (λ q. chain (walk lines q) (λ r. last_line tail r)) =
    chain-assoc first (λ q. walk lines q) (λ q. last_line tail q) in
    opens (is_long beginning (length line + 1) line) (option_and_then map_of (reading_of line)) (counted beginning (length line + 1))
    (λ q. chain (walk lines q) (λ r. last_line tail r)) items (sym on ∙ is) none

pub has_map : (script : List ℕ) (said : SaidSoFar) → HasReadAll script said → said.map ≡ None → ⊥
has_map script said h none = begins_with (full_lines script) (tail_of script) h.items h.whole (h.says_map ∙ none)

-- ---- the answer

turns_on : (found : Option Map) (m : Map) (turns : List (List (List Post))) → found ≡ Some m → AreTurnsOn found turns → All (IsTurnOn m) turns
turns_on found m turns is are = subst (λ (o : Option Map). AreTurnsOn o turns) is are

pub says_match : (script : List ℕ) (held : Held) (said : SaidSoFar) (m : Map) → HasReadAll script said → GoesWith held said → said.map ≡ Some m
    → SaysMatch script (record { map = m; journal = said.journal })
says_match script held said m h goes is = record {
  reads = record { items = h.items; whole = h.whole; says_map = h.says_map ∙ is; says_turns = h.says_turns };
  turns = turns_on said.map m said.journal is goes.turns;
}

-- ---- the bad line of a script

pub whole_is_good : (script : List ℕ) (said : SaidSoFar) → HasReadAll script said → IsBadLineOf script None
whole_is_good script said h n is = let ends = ap (λ (w : Walk). w.ends) h.whole in absurd (cc)

pub long_is_not_bad : (script : List ℕ) (number : ℕ) → RefusesScript script (fault.TooLong number) → IsBadLineOf script None
long_is_not_bad script number long n is = absurd (cc)

pub bad_line_is : (script : List ℕ) (held : Held) (number : ℕ) (cause : Cause) → RefusesScript script (fault.BadLine number)
    → HoldsCause script held (fault.BadLine number) → Some cause ≡ held_cause held → IsBadLineOf script (Some (record { number = number; cause = cause }))
bad_line_is script held number cause stops holds is = (stops, holds.0 ∙ sym is)
