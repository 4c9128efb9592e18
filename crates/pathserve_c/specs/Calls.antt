-- What calls make of what a handle holds.
use Rattle.std.specs.Prelude.{ℕ, ◌≡◌, ◌≢◌, ◌<◌, ◌⊎◌, Bool, true, false, List, [], ◌∷◌, ◌++◌, length, drop, slice_get, Option, Some, None, option_map, Result}
use Rattle.std.specs.List.{Contains}
use Rattle.posts.specs.declared.posts.Post.{Post}
use Rattle.posts.specs.Maps.{Map}
use Rattle.posts.specs.declared.notes.Report.{Report}
use Rattle.turn_core.specs.declared.reports.TheConstants.{REPORTS}
use Rattle.match_play.specs.declared.faults.MatchFault.{MatchFault}
use Rattle.match_play.specs.Playing.{said_of}
use Rattle.grid_versions.specs.Versions.{MapState, map_state}
use Rattle.match_play.specs.Posted.{Past, Kept, Unkept, standing_in, turns_of}
use Rattle.match_play.specs.Texts.{Said}
use Rattle.script_text.specs.ReadsBack.{IsWithinLimits, ReadsAs, canon_script}
use Rattle.flat_posts.specs.declared.map_parts.FlatClass.{FlatClass}
use Rattle.flat_posts.specs.declared.map_parts.FlatRect.{FlatRect}
use Rattle.flat_posts.specs.declared.maps.FlatMap.{FlatMap}
use Rattle.flat_posts.specs.declared.posted.FlatPost.{FlatPost}
use Rattle.flat_posts.specs.declared.turns.FlatTurn.{FlatTurn}
use Rattle.flat_posts.specs.Maps.{IsMapOf}
use Rattle.flat_posts.specs.Replies.{flat_turn}
use Rattle.pathserve_c.specs.declared.states.State.{State}
use Rattle.pathserve_c.specs.declared.states.State.TheVariants.{Text, Structs, View, Finder}
use Rattle.pathserve_c.specs.declared.statuses.TheConstants.{DONE, NO_MEMORY, CLOSED, OPEN, NO_MAP, BAD_VALUE, SMALL, PAST_LIMIT, NO_JOURNAL}
use Rattle.pathserve_c.specs.Statuses.{refusal, status_of, status_of_posts}
use Rattle.pathserve_c.specs.Structs.{StructState, Ends, IsNew, has_room, PostsAs}
use Rattle.pathserve_c.specs.declared.statuses.PostFault.{PostFault}
use Rattle.pathserve_c.specs.LineLimits.{fits_limit}
use Rattle.pathserve_c.specs.Texts.{TextState, IsUnread, Feeds, Finishes, Takes}

-- what is told beside the answers, by its number
abbrev pub report_of : ℕ → Option Report
report_of number = slice_get REPORTS number

-- a call that refused changed nothing
abbrev pub IsRefused : ℕ → Option State → Option State → ℕ → Type 0
IsRefused why old new status = (status ≡ why) × (new ≡ old)

-- a closed handle was opened for what it then holds, or there was no memory for it
abbrev pub IsMade : (State → Type 0) → Option State → ℕ → Type 0
IsMade Is None status = status ≡ NO_MEMORY
IsMade Is (Some made) status = (status ≡ DONE) × Is made

-- a match by text that was made, and not fed
abbrev pub IsUnreadText : Report → State → Type 0
IsUnreadText report (Text text) = IsUnread report text
IsUnreadText report (View version) = ⊥
IsUnreadText report (Structs structs) = ⊥
IsUnreadText report (Finder finder) = ⊥

-- a match was opened for this report, if there is such
abbrev pub IsOpenedFor : Option Report → Option State → ℕ → Type 0
IsOpenedFor None new status = IsRefused BAD_VALUE None new status
IsOpenedFor (Some report) new status = IsMade (IsUnreadText report) new status

-- a match was opened, by the number of its report
abbrev pub IsOpened : ℕ → Option State → Option State → ℕ → Type 0
IsOpened number (Some state) new status = IsRefused OPEN (Some state) new status
IsOpened number None new status = IsOpenedFor (report_of number) new status

-- bytes were fed to a match, but what is left of a piece; where a line would have more than it may, none was
abbrev pub IsFedTo : Bool → TextState → Option State → List ℕ → List ℕ → ℕ → Type 0
IsFedTo false old new piece left status = IsRefused PAST_LIMIT (Some (Text old)) new status × (left ≡ piece)
IsFedTo true old new piece left status = (made : TextState) × ((answer : Result (Unit {0}) MatchFault)
    × ((new ≡ Some (Text made)) × ((status ≡ status_of answer) × Feeds old made piece left answer)))

-- bytes came to a match by text; anything else refuses, and all is left
abbrev pub IsFed : Option State → Option State → List ℕ → List ℕ → ℕ → Type 0
IsFed None new piece left status = IsRefused (refusal None) None new status × (left ≡ piece)
IsFed (Some (View version)) new piece left status = IsRefused (refusal (Some (View version))) (Some (View version)) new status × (left ≡ piece)
IsFed (Some (Structs structs)) new piece left status =
    IsRefused (refusal (Some (Structs structs))) (Some (Structs structs)) new status × (left ≡ piece)
IsFed (Some (Finder finder)) new piece left status =
    IsRefused (refusal (Some (Finder finder))) (Some (Finder finder)) new status × (left ≡ piece)
IsFed (Some (Text old)) new piece left status = IsFedTo (fits_limit old.limit piece) old new piece left status

-- the script of a match by text has ended; anything else refuses
abbrev pub IsFinished : Option State → Option State → ℕ → Type 0
IsFinished None new status = IsRefused (refusal None) None new status
IsFinished (Some (View version)) new status = IsRefused (refusal (Some (View version))) (Some (View version)) new status
IsFinished (Some (Structs structs)) new status = IsRefused (refusal (Some (Structs structs))) (Some (Structs structs)) new status
IsFinished (Some (Finder finder)) new status = IsRefused (refusal (Some (Finder finder))) (Some (Finder finder)) new status
IsFinished (Some (Text old)) new status = (made : TextState) × ((answer : Result (Unit {0}) MatchFault)
    × ((new ≡ Some (Text made)) × ((status ≡ status_of answer) × Finishes old made answer)))

-- so many bytes of a match by text wait no longer; of anything else none waited
abbrev pub IsTaken : Option State → Option State → ℕ → Type 0
IsTaken None new count = new ≡ None
IsTaken (Some (View version)) new count = new ≡ Some (View version)
IsTaken (Some (Structs structs)) new count = new ≡ Some (Structs structs)
IsTaken (Some (Finder finder)) new count = new ≡ Some (Finder finder)
IsTaken (Some (Text old)) new count = (made : TextState) × ((new ≡ Some (Text made)) × Takes old made count)

-- what a match tells on, as a version of the map; none where the map has not come
abbrev pub version_said : Said → Option MapState
version_said said = option_map (λ map. map_state map said.standing) said.map

-- what can be looked at beside a state
abbrev pub version_in : State → Option MapState
version_in (Text text) = version_said (said_of text.game.progress)
version_in (Structs structs) = Some (map_state structs.game.map (standing_in structs.game))
version_in (View version) = Some version
version_in (Finder finder) = None

-- a closed view was opened of a version, where there is one
abbrev pub IsShown : Option MapState → Option State → ℕ → Type 0
IsShown None new status = (new ≡ None) × (status ≢ NO_MEMORY → status ≡ NO_MAP)
IsShown (Some version) new status = IsMade (λ made. made ≡ View version) new status

-- a view was opened of what a handle holds
abbrev pub IsViewed : Option State → Option State → Option State → ℕ → Type 0
IsViewed from (Some state) new status = IsRefused OPEN (Some state) new status
IsViewed None None new status = IsRefused CLOSED None new status
IsViewed (Some from) None new status = IsShown (version_in from) new status

-- ---- matches by structs

-- the match is one by structs on this map, before its first turn
abbrev pub IsNewOn : Map → State → Type 0
IsNewOn map (Text text) = ⊥
IsNewOn map (View version) = ⊥
IsNewOn map (Finder finder) = ⊥
IsNewOn map (Structs structs) = IsNew map structs

-- a closed handle was opened for a match on the map that the numbers are; else they are none, or there was no memory
abbrev pub IsMadeOn : FlatMap → List FlatClass → List FlatRect → Option State → ℕ → Type 0
IsMadeOn frame classes base None status = status ≢ NO_MEMORY → (status ≡ BAD_VALUE) × ((map : Map) → ¬ IsMapOf frame classes base map)
IsMadeOn frame classes base (Some made) status = (status ≡ DONE) × ((map : Map) × (IsMapOf frame classes base map × IsNewOn map made))

-- a match was opened on a map
abbrev pub IsOpenedOn : FlatMap → List FlatClass → List FlatRect → Option State → Option State → ℕ → Type 0
IsOpenedOn frame classes base (Some state) new status = IsRefused OPEN (Some state) new status
IsOpenedOn frame classes base None new status = IsMadeOn frame classes base new status

-- posts were taken, or refused for what they are; where more would wait than may, all were refused
abbrev pub IsPostedTo : Bool → StructState → Option State → List FlatPost → ℕ → Type 0
IsPostedTo false old new flats status = IsRefused PAST_LIMIT (Some (Structs old)) new status
IsPostedTo true old new flats status = (made : StructState) × ((answer : Result (Unit {0}) PostFault)
    × ((new ≡ Some (Structs made)) × ((status ≡ status_of_posts answer) × PostsAs old made flats answer)))

-- posts came to a match by structs; anything else refuses
abbrev pub IsPosted : Option State → Option State → List FlatPost → ℕ → Type 0
IsPosted None new flats status = IsRefused (refusal None) None new status
IsPosted (Some (Text text)) new flats status = IsRefused (refusal (Some (Text text))) (Some (Text text)) new status
IsPosted (Some (View version)) new flats status = IsRefused (refusal (Some (View version))) (Some (View version)) new status
IsPosted (Some (Finder finder)) new flats status = IsRefused (refusal (Some (Finder finder))) (Some (Finder finder)) new status
IsPosted (Some (Structs old)) new flats status = IsPostedTo (has_room old (length flats)) old new flats status

-- The turn has ended, and was told.
pub record HasEnded (old new : StructState) (turn : FlatTurn) (status : ℕ) : Type 0 where
  pub done : status ≡ DONE
  pub ends : Ends old new
  pub told : turn ≡ flat_turn (turns_of new.game.past) new.told

-- There was no memory, and all is as it was.
pub record IsUnended (old new : StructState) (before after : FlatTurn) (status : ℕ) : Type 0 where
  pub why : status ≡ NO_MEMORY
  pub same : new ≡ old
  pub untold : after ≡ before

-- a refusal that told nothing
abbrev pub IsRefusedUntold : Option State → Option State → (before after : FlatTurn) → ℕ → Type 0
IsRefusedUntold old new before after status = IsRefused (refusal old) old new status × (after ≡ before)

-- the turn of a match by structs has ended, or there was no memory; anything else refuses
abbrev pub IsEnded : Option State → Option State → (before after : FlatTurn) → ℕ → Type 0
IsEnded None new before after status = IsRefusedUntold None new before after status
IsEnded (Some (Text text)) new before after status = IsRefusedUntold (Some (Text text)) new before after status
IsEnded (Some (View version)) new before after status = IsRefusedUntold (Some (View version)) new before after status
IsEnded (Some (Finder finder)) new before after status = IsRefusedUntold (Some (Finder finder)) new before after status
IsEnded (Some (Structs old)) new before after status = (made : StructState)
    × ((new ≡ Some (Structs made)) × (HasEnded old made after status ⊎ IsUnended old made before after status))

-- Of a match by structs with this map and journal, its script stands at the head of the buffer, or the buffer is too small, or
-- there was no memory. Where the script is within the limits of an input, a match that is fed with it gets the same map and
-- the same turns.
pub record IsScript (map : Map) (journal : List (List (List Post))) (before after : List ℕ) (old new status : ℕ) : Type 0 where
  pub statuses : Contains (DONE ∷ SMALL ∷ NO_MEMORY ∷ []) status
  pub done : status ≡ DONE → after ≡ canon_script map journal ++ drop (length (canon_script map journal)) before
  pub small : status ≡ SMALL → length before < length (canon_script map journal)
  pub kept : status ≢ DONE → after ≡ before
  pub known : status ≢ NO_MEMORY → new ≡ length (canon_script map journal)
  pub unknown : status ≡ NO_MEMORY → new ≡ old
  pub reads_back : status ≡ DONE → IsWithinLimits (canon_script map journal) → ReadsAs map journal (canon_script map journal)

-- the match keeps no journal, and nothing was written
pub record HasNoScript (before after : List ℕ) (old new status : ℕ) : Type 0 where
  pub why : status ≡ NO_JOURNAL
  pub kept : after ≡ before
  pub unknown : new ≡ old

-- the script was written of what a match by structs keeps, where it keeps a journal
abbrev pub IsScriptOf : Map → Past → (before after : List ℕ) → (old new status : ℕ) → Type 0
IsScriptOf map (Kept journal) before after old new status = IsScript map journal before after old new status
IsScriptOf map (Unkept standing turns) before after old new status = HasNoScript before after old new status

-- nothing was written
abbrev pub IsRefusedUnwritten : Option State → (before after : List ℕ) → (old new : ℕ) → ℕ → Type 0
IsRefusedUnwritten state before after old new status = (status ≡ refusal state) × (after ≡ before) × (new ≡ old)

-- the script of a match by structs was written; anything else refuses
abbrev pub IsWritten : Option State → (before after : List ℕ) → (old new : ℕ) → ℕ → Type 0
IsWritten None before after old new status = IsRefusedUnwritten None before after old new status
IsWritten (Some (Text text)) before after old new status = IsRefusedUnwritten (Some (Text text)) before after old new status
IsWritten (Some (View version)) before after old new status = IsRefusedUnwritten (Some (View version)) before after old new status
IsWritten (Some (Finder finder)) before after old new status = IsRefusedUnwritten (Some (Finder finder)) before after old new status
IsWritten (Some (Structs structs)) before after old new status =
    IsScriptOf structs.game.map structs.game.past before after old new status
