-- What may come of the last bytes of a script.
use Rattle.std.proofs.Common.{◌≡◌, ◌≢◌, ℕ, ◌+◌, ◌≤◌, ◌<◌, ◌==◌, List, [], ◌∷◌, length, Bool, true, false, cond, nat_lt, IsFalse, IsTrue, Option, Some, None, option_and_then, Ok, Err, refl, sym, ap, subst, ◌∙◌, arith}
use Rattle.std.specs.Prelude.{⊤}
use Rattle.std.specs.List.{list_all}
use Rattle.std.proofs.lemmas.Bool.{or_parts, ltb-false}
use Rattle.serde_json.specs.Data.{Data}
use Rattle.nav_types.specs.declared.limits.TheConstants.{MAX_INPUT_BYTES}
use Rattle.input_lines.specs.Lines.{full_lines, tail_of}
use Rattle.script_text.specs.declared.faults.ScriptFault.{ScriptFault}
use Rattle.script_text.specs.declared.faults.ScriptFault.TheVariants as met
use Rattle.script_text.specs.declared.items.ScriptItem.{ScriptItem}
use Rattle.script_text.specs.declared.items.ScriptItem.TheVariants as item
use Rattle.script_text.specs.declared.forms.CallerPost.{CallerPost}
use Rattle.script_text.specs.declared.parts.Rules.{Rules}
use Rattle.script_text.specs.declared.parts.Part.{Part}
use Rattle.script_text.specs.declared.parts.Part.TheVariants.{BeforeMap, InBase, InTurns}
use Rattle.script_text.specs.Forms.{post_of, end_of}
use Rattle.script_text.specs.Script.{Item, begins, ends_turn, adds_base, Place, Stop, whole_input, too_long, bad_line, Ends, at_place, stuck_by, Walk, stuck, chain, chain_from, end_line, turn_line, placed_in, placed, is_long, is_empty, counted, accept, reading_of, walk, finish_in, finish, last_line, reading}
use Rattle.script_text.specs.Reader.{Held, rules_at}
use Rattle.script_text.specs.Pushed.{item_of, EndTold, KeepsRules, is_refused}
use Rattle.script_text.specs.inner.Judging.{IsInTurns}
use Rattle.script_text.proofs.ReadWalk.{chain-assoc}
use Rattle.match_play.specs.declared.states.NextItem.{NextItem}
use Rattle.match_play.specs.declared.states.NextItem.TheVariants as next_item
use Rattle.match_play.specs.declared.states.MatchProgress.{MatchProgress}
use Rattle.match_play.specs.declared.states.MatchProgress.TheVariants as progress
use Rattle.match_play.specs.declared.states.MatchState.{MatchState}
use Rattle.match_play.specs.Grounds.{FitsPart, turns_in}
use Rattle.match_play.specs.inner.Fitting.{FitsAhead, FitsLines, IsFit, IsGoing, IsLast, IsStopped, stop_in}
use Rattle.match_play.specs.Playing.{IsTold}
use Rattle.match_play.proofs.Walked.{AreTurns, turns_both}
use Rattle.match_play.proofs.Finishing.{kept_held}
use Rattle.match_play.proofs.Items.{fits_now}

-- ---- items behind a place among turns

abbrev InTurnsAt : Ends → Type 0
InTurnsAt (at_place q) = IsInTurns q.part
InTurnsAt (stuck_by stop) = ⊤

-- every item of a walk is a turn, and where it arrives only turns can follow
record StaysInTurns (w : Walk) : Type 0 where
  items : AreTurns w.items
  ends : InTurnsAt w.ends

stays_stuck : (stop : Stop) → StaysInTurns (stuck stop)
stays_stuck stop = record { items = tt; ends = tt }

stays_cond : (b : Bool) (v w : Walk) → StaysInTurns v → StaysInTurns w → StaysInTurns (cond b v w)
stays_cond true v w k l = k
stays_cond false v w k l = l

stays_from : (items : List Item) (ends : Ends) (go_on : Place → Walk) → AreTurns items → InTurnsAt ends → ((q : Place) → IsInTurns q.part → StaysInTurns (go_on q))
    → StaysInTurns (chain_from items ends go_on)
stays_from items (at_place q) go_on are inside next =
    let n = next q inside in
    record { items = turns_both items (go_on q).items are n.items; ends = n.ends }
stays_from items (stuck_by stop) go_on are inside next = record { items = are; ends = tt }

stays_chain : (w : Walk) (go_on : Place → Walk) → StaysInTurns w → ((q : Place) → IsInTurns q.part → StaysInTurns (go_on q)) → StaysInTurns (chain w go_on)
stays_chain w go_on k next = stays_from w.items w.ends go_on k.items k.ends next

stays_end : (p : Place) (rules : Rules) (number : Option ℕ) → StaysInTurns (end_line p rules number)
stays_end p rules None = stays_stuck (bad_line p.lines)
stays_end p rules (Some number) = stays_cond (number == p.turns + 1) _ _ (record { items = tt; ends = tt }) (stays_stuck (bad_line p.lines))

stays_turn : (p : Place) (rules : Rules) (said : Option CallerPost) (number : Option ℕ) → StaysInTurns (turn_line p rules said number)
stays_turn p rules (Some said) number = record { items = tt; ends = tt }
stays_turn p rules None number = stays_end p rules number

stays_placed : (part : Part) (p : Place) (d : Option Data) → IsInTurns part → StaysInTurns (placed_in part p d)
stays_placed BeforeMap p d inside = absurd inside
stays_placed (InBase rules) p d inside = absurd inside
stays_placed (InTurns rules) p d inside =
    stays_turn p rules (option_and_then (post_of rules.version rules.callers) d) (option_and_then end_of d)

stays_accept : (size : ℕ) (line : List ℕ) (p : Place) → IsInTurns p.part → StaysInTurns (accept size line p)
stays_accept size line p inside =
    stays_cond (is_long p size line) _ _ (stays_stuck (too_long (p.lines + 1))) (stays_placed p.part (counted p size) (reading_of line) inside)

stays_walk : (lines : List (List ℕ)) (p : Place) → IsInTurns p.part → StaysInTurns (walk lines p)
stays_walk [] p inside = record { items = tt; ends = inside }
stays_walk (line ∷ lines) p inside = stays_chain _ _ (stays_accept (length line + 1) line p inside) (λ q i. stays_walk lines q i)

stays_finish : (part : Part) (p : Place) → StaysInTurns (finish_in part p)
stays_finish BeforeMap p = stays_stuck (bad_line (p.lines + 1))
stays_finish (InBase rules) p = stays_stuck whole_input
stays_finish (InTurns rules) p = stays_cond (list_all is_empty p.posts) _ _ (stays_stuck whole_input) (stays_stuck (bad_line (p.lines + 1)))

stays_last : (line : List ℕ) (p : Place) → IsInTurns p.part → StaysInTurns (last_line line p)
stays_last [] p inside = stays_finish p.part p
stays_last (byte ∷ line) p inside =
    stays_chain _ _ (stays_accept (length (byte ∷ line)) (byte ∷ line) p inside) (λ q i. stays_finish q.part q)

stays_reading : (bytes : List ℕ) (p : Place) → IsInTurns p.part → StaysInTurns (reading bytes p)
stays_reading bytes p inside = stays_chain _ _ (stays_walk (full_lines bytes) p inside) (λ q i. stays_last (tail_of bytes) q i)

-- ---- bytes that give an item

none_first : {A : Type 0} (first : Item) (more : List Item) → [] ≡ first ∷ more → A
none_first first more is = absurd (cc)

-- an end gives no item
finish_gives : {A : Type 0} (part : Part) (p : Place) (first : Item) (more : List Item) → (finish_in part p).items ≡ first ∷ more → A
finish_gives BeforeMap p first more is = none_first first more is
finish_gives (InBase rules) p first more is = none_first first more is
finish_gives (InTurns rules) p first more is = by_posts (list_all is_empty p.posts) is
  where
    by_posts : {A : Type 0} (empty : Bool) → (cond empty (stuck whole_input) (stuck (bad_line (p.lines + 1)))).items ≡ first ∷ more → A
    by_posts true is = none_first first more is
    by_posts false is = none_first first more is

-- a line that gives something has room in the input
room_line : (size : ℕ) (line : List ℕ) (p : Place) (go_on : Place → Walk) (long : Bool) (first : Item) (more : List Item) → 1 ≤ size → is_long p size line ≡ long
    → (chain (cond long (stuck (too_long (p.lines + 1))) (placed (counted p size) (reading_of line))) go_on).items ≡ first ∷ more → p.bytes < MAX_INPUT_BYTES
room_line size line p go_on true first more some e is = none_first first more is
room_line size line p go_on false first more some e is =
    let limits = or_parts (nat_lt 8388608 (length line)) (nat_lt 4294967296 (p.bytes + size)) e in
    let few = ltb-false 4294967296 (p.bytes + size) limits.1 in
    omega (arith, some, few)

room_last : (line : List ℕ) (p : Place) (first : Item) (more : List Item) → (last_line line p).items ≡ first ∷ more → p.bytes < MAX_INPUT_BYTES
room_last [] p first more is = finish_gives p.part p first more is
room_last (byte ∷ line) p first more is =
    room_line (length (byte ∷ line)) (byte ∷ line) p finish (is_long p (length (byte ∷ line)) (byte ∷ line)) first more (omega arith) refl is

room_lines : (lines : List (List ℕ)) (line : List ℕ) (p : Place) (first : Item) (more : List Item)
    → (chain (walk lines p) (λ q. last_line line q)).items ≡ first ∷ more → p.bytes < MAX_INPUT_BYTES
room_lines [] line p first more is = room_last line p first more is
room_lines (l ∷ lines) line p first more is =
    let w = accept (length l + 1) l p in
    let on : chain (chain w (λ q. walk lines q)) (λ q. last_line line q) ≡ chain w (λ q. chain (walk lines q) (λ r. last_line line r)) =
    chain-assoc w (λ q. walk lines q) (λ q. last_line line q) in
    room_line (length l + 1) l p (λ q. chain (walk lines q) (λ r. last_line line r)) (is_long p (length l + 1) l) first more (omega arith) refl
    (sym (ap (λ (x : Walk). x.items) on) ∙ is)

room_read : (bytes : List ℕ) (p : Place) (first : Item) (more : List Item) → (reading bytes p).items ≡ first ∷ more → p.bytes < MAX_INPUT_BYTES
room_read bytes p first more is = room_lines (full_lines bytes) (tail_of bytes) p first more is

-- ---- the last item

abbrev pub LastTold : Held → Held → ScriptItem → Type 0
LastTold old new i = EndTold old new (Ok (Some i))

-- the items of what is held
held_items : (old new : Held) (i : ScriptItem) → LastTold old new i → (reading old.bytes old.place).items ≡ item_of i ∷ (finish new.place).items
held_items old new i e = ap (λ (w : Walk). w.items) e.same

-- it came of bytes
pub some_bytes : (old new : Held) (i : ScriptItem) → LastTold old new i → old.bytes ≢ []
some_bytes old new i e none =
    finish_gives old.place.part old.place (item_of i) (finish new.place).items
    (ap (λ (bytes : List ℕ). (reading bytes old.place).items) (sym none) ∙ held_items old new i e)

pub rest_shorter : (old new : Held) (i : ScriptItem) → LastTold old new i → length new.bytes < length old.bytes
rest_shorter old new i e =
    let none : length new.bytes ≡ 0 = ap length e.nothing in
    let some = positive old.bytes (some_bytes old new i e) in
    omega (arith, none, some)
  where
    positive : (bytes : List ℕ) → bytes ≢ [] → 0 < length bytes
    positive [] some = absurd (some refl)
    positive (byte ∷ bytes) some = omega arith

first_turns : (i : Item) (more : List Item) → AreTurns (i ∷ more) → AreTurns (i ∷ [])
first_turns (ends_turn posts) more are = tt
first_turns (adds_base rects) more are = absurd are
first_turns (begins m) more are = absurd are

pub rest_next : (g : MatchProgress) (old new : Held) (i : ScriptItem) → IsLast old (turns_in g) (FitsPart g old.place.part) → LastTold old new i
    → KeepsRules (rules_at old.place.part) (rules_at new.place.part) (Ok (Some i)) → IsFalse new.failed → FitsAhead true g new (next_item.Item i)
rest_next g old new i last e keeps going =
    let some = some_bytes old new i e in
    let items = held_items old new i e in
    let before = last.few some in
    let room = room_read old.bytes old.place (item_of i) (finish new.place).items items in
    let turns : IsInTurns old.place.part → AreTurns (item_of i ∷ []) =
    λ inside. first_turns (item_of i) (finish new.place).items (subst AreTurns items (stays_reading old.bytes old.place inside).items) in (
      fits_now g old.place.part new.place.part i (last.fits some) keeps turns (omega (arith, before, room)),
      λ next is. record { going = going; few = λ more. absurd (more e.nothing); fits = λ more. absurd (more e.nothing) },
    )

may_go_on : (old new : Held) (fault : ScriptFault) → EndTold old new (Err fault) → stop_in fault ≡ None → IsFalse (is_refused (Err fault))
may_go_on old new (met.BadLine n) told none = absurd (cc)
may_go_on old new (met.TooLong n) told none = absurd (cc)
may_go_on old new met.ReadFault told none = absurd told
may_go_on old new met.NoMemory told none = refl

-- there was no memory
pub rest_stays : (g : MatchProgress) (old new : Held) (fault : ScriptFault) → IsLast old (turns_in g) (FitsPart g old.place.part) → EndTold old new (Err fault)
    → stop_in fault ≡ None → new.failed ≡ is_refused (Err fault) → IsLast new (turns_in g) (FitsPart g new.place.part)
rest_stays g old new fault last told none failed =
    let kept = kept_held old new fault told none in
    record {
      going = failed ∙ may_go_on old new fault told none;
      few = λ more. subst (λ (p : Place). turns_in g ≤ p.bytes) (sym kept.0) (last.few (λ is. more (kept.1 ∙ is)));
      fits = λ more. subst (λ (p : Place). FitsPart g p.part) (sym kept.0) (last.fits (λ is. more (kept.1 ∙ is)));
    }

-- ---- what fits a script that ends

lines_ended : (ended : Bool) (g : MatchProgress) (held : Held) → FitsLines ended g held → FitsLines true g held
lines_ended true g held fits = fits
lines_ended false g held (opens, fits) = record { going = opens.going; few = λ some. opens.few; fits = λ some. fits }

pub fits_ended : (ended : Bool) (g : MatchProgress) (held : Held) (next : NextItem) → FitsAhead ended g held next → FitsAhead true g held next
fits_ended ended g held next_item.Lines fits = lines_ended ended g held fits
fits_ended ended g held (next_item.Item i) (fits, then) = (fits, λ next is. lines_ended ended next held (then next is))
fits_ended ended g held (next_item.Stop stop) fits = fits
fits_ended ended g held (next_item.Nothing stop) fits = fits
fits_ended ended g held next_item.Whole fits = refl

-- what fits where lines come next
pub last_lines : (m : MatchState) → IsTrue m.ended → m.next_item ≡ next_item.Lines → IsFit m → IsLast m.script (turns_in m.progress) (FitsPart m.progress m.script.place.part)
last_lines m ended at fit =
    let lines : FitsAhead m.ended m.progress m.script next_item.Lines = subst (FitsAhead m.ended m.progress m.script) at fit in
    subst (λ (e : Bool). FitsAhead e m.progress m.script next_item.Lines) ended lines

pub lines_last : (m : MatchState) (new : Held) → IsTrue m.ended → m.next_item ≡ next_item.Lines → IsLast new (turns_in m.progress) (FitsPart m.progress new.place.part)
    → IsFit (record m { script = new })
lines_last m new ended at last =
    subst (FitsAhead m.ended m.progress new) (sym at) (subst (λ (e : Bool). FitsAhead e m.progress new next_item.Lines) (sym ended) last)

-- a script that has not stopped, of which not all was told, goes on
pub going_on : (ended : Bool) (g : MatchProgress) (held : Held) (next : NextItem) → FitsAhead ended g held next → (IsStopped next → ⊥) → (IsTrue ended → IsTold next → ⊥) → IsGoing next
going_on ended g held next_item.Lines fits stopped over = tt
going_on ended g held (next_item.Item i) fits stopped over = tt
going_on ended g held (next_item.Stop stop) fits stopped over = absurd (stopped tt)
going_on ended g held (next_item.Nothing stop) fits stopped over = absurd (stopped tt)
going_on ended g held next_item.Whole fits stopped over = absurd (over fits tt)

-- and where an item waits
pub item_last : (m : MatchState) (new : Held) (i : ScriptItem) → IsTrue m.ended → FitsAhead true m.progress new (next_item.Item i) → IsFit (record m { script = new; next_item = next_item.Item i })
item_last m new i ended fit = subst (λ (e : Bool). FitsAhead e m.progress new (next_item.Item i)) (sym ended) fit
