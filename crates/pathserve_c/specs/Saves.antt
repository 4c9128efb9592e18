-- Matches by structs that are opened from a script, what stands as a script, and journals that begin anew.
use Rattle.std.specs.Prelude.{ℕ, ◌≡◌, ◌≢◌, ◌⊎◌, ◌<◌, List, [], ◌∷◌, ◌++◌, length, drop, Result, Ok, Err, Option, Some, None}
use Rattle.std.specs.List.{Contains}
use Rattle.posts.specs.declared.posts.Post.{Post}
use Rattle.posts.specs.declared.replies.TurnReplies.{TurnReplies}
use Rattle.posts.specs.Maps.{Map}
use Rattle.grid_versions.specs.Versions.{MapState}
use Rattle.script_text.specs.ReadsBack.{IsWithinLimits, ReadsAs}
use Rattle.match_play.specs.declared.faults.MatchFault.TheVariants as fault
use Rattle.match_play.specs.Posted.{Kept, standing_in, without_journal}
use Rattle.match_play.specs.Saved.{forgetting, in_newest, saved, snapshot_of}
use Rattle.match_play.specs.Replays.{IsLastTold}
use Rattle.match_play.specs.Scripts.{RefusesScript}
use Rattle.pathserve_c.specs.declared.states.State.{State}
use Rattle.pathserve_c.specs.declared.states.State.TheVariants.{Text, Structs, View, Finder}
use Rattle.pathserve_c.specs.declared.statuses.TheConstants.{DONE, NO_MEMORY, OPEN, BAD_VALUE, SMALL}
use Rattle.pathserve_c.specs.declared.openings.OpenFault.{OpenFault}
use Rattle.pathserve_c.specs.declared.openings.OpenFault.TheVariants.{Script, OldVersion}
use Rattle.pathserve_c.specs.Calls.{IsRefused, IsRefusedUnwritten}
use Rattle.pathserve_c.specs.Statuses.{refusal, status_of}
use Rattle.pathserve_c.specs.Structs.{StructState}

-- ---- opened from a script

-- what a match was told last is what the last of its turns is answered; where it has none, nothing
abbrev pub IsToldLast : Map → List (List (List Post)) → TurnReplies → Type 0
IsToldLast map turns told = IsLastTold map turns (Some told) ⊎ (IsLastTold map turns None × (told.replies ≡ []))

-- The match has the map of a whole script and a journal of its turns, and was told what the last of them is answered. None has
-- posts, and as many may wait as there can be.
pub record IsPlayed (script : List ℕ) (state : StructState) : Type 0 where
  pub journal : List (List (List Post))
  pub keeps : state.game.past ≡ Kept journal
  pub reads : ReadsAs state.game.map journal script
  pub newest : state.game.map.version ≡ 3
  pub told : IsToldLast state.game.map journal state.told
  pub posted : state.posted ≡ []
  pub most : state.most ≡ 18446744073709551615

-- why a script opens no match by structs: it says no match, or one of an older version; or there was no memory
abbrev pub RefusesOpening : List ℕ → OpenFault → Type 0
RefusesOpening script (Script why) = RefusesScript script why
RefusesOpening script OldVersion =
    (map : Map) × ((turns : List (List (List Post))) × (ReadsAs map turns script × (map.version ≢ 3)))

-- what an answer says of a script
abbrev pub OpensAs : List ℕ → Result StructState OpenFault → Type 0
OpensAs script (Ok made) = IsPlayed script made
OpensAs script (Err why) = RefusesOpening script why

-- the status of a refusal
abbrev pub status_of_opening : OpenFault → ℕ
status_of_opening (Script why) = status_of (Err why)
status_of_opening OldVersion = BAD_VALUE

-- the number of the line at which a script stops, or else what stood there
abbrev pub line_told : OpenFault → ℕ → ℕ
line_told (Script (fault.BadLine n)) old = n
line_told (Script (fault.TooLong n)) old = n
line_told (Script fault.Ended) old = old
line_told (Script fault.NoMemory) old = old
line_told OldVersion old = old

-- the match is one by structs that a script was played in
abbrev pub IsPlayedIn : List ℕ → State → Type 0
IsPlayedIn script (Text text) = ⊥
IsPlayedIn script (View version) = ⊥
IsPlayedIn script (Finder finder) = ⊥
IsPlayedIn script (Structs structs) = IsPlayed script structs

-- a closed handle was opened for a match that a script was played in; or it was refused, and the line of its stop told
abbrev pub IsMadeBy : List ℕ → Option State → (old new status : ℕ) → Type 0
IsMadeBy script None old new status =
    (why : OpenFault) × ((status ≡ status_of_opening why) × ((new ≡ line_told why old) × RefusesOpening script why))
IsMadeBy script (Some made) old new status = (status ≡ DONE) × ((new ≡ old) × IsPlayedIn script made)

-- a match was opened from a script
abbrev pub IsOpenedBy : List ℕ → Option State → Option State → (old new status : ℕ) → Type 0
IsOpenedBy script (Some state) made old new status = IsRefused OPEN (Some state) made status × (new ≡ old)
IsOpenedBy script None made old new status = IsMadeBy script made old new status

-- ---- what stands as a script

-- Of a version, its snapshot stands at the head of the buffer, or the buffer is too small, or there was no memory. Where it
-- is within the limits of an input, it gives its reader the map in the newest version, and one turn of adds.
pub record IsSnapshot (version : MapState) (before after : List ℕ) (old new status : ℕ) : Type 0 where
  pub statuses : Contains (DONE ∷ SMALL ∷ NO_MEMORY ∷ []) status
  pub done : status ≡ DONE → after ≡ snapshot_of version ++ drop (length (snapshot_of version)) before
  pub small : status ≡ SMALL → length before < length (snapshot_of version)
  pub kept : status ≢ DONE → after ≡ before
  pub known : status ≢ NO_MEMORY → new ≡ length (snapshot_of version)
  pub unknown : status ≡ NO_MEMORY → new ≡ old
  pub reads_back : status ≡ DONE → IsWithinLimits (snapshot_of version)
      → ReadsAs (in_newest version.map) (saved version.map version.standing) (snapshot_of version)

-- the snapshot of a view was written; anything else refuses
abbrev pub IsSnapped : Option State → (before after : List ℕ) → (old new status : ℕ) → Type 0
IsSnapped None before after old new status = IsRefusedUnwritten None before after old new status
IsSnapped (Some (Text text)) before after old new status = IsRefusedUnwritten (Some (Text text)) before after old new status
IsSnapped (Some (Structs structs)) before after old new status =
    IsRefusedUnwritten (Some (Structs structs)) before after old new status
IsSnapped (Some (Finder finder)) before after old new status =
    IsRefusedUnwritten (Some (Finder finder)) before after old new status
IsSnapped (Some (View version)) before after old new status = IsSnapshot version before after old new status

-- ---- a journal that begins anew

-- The journal begins anew, and all else is as it was, also what stands.
pub record HasForgotten (old new : StructState) (status : ℕ) : Type 0 where
  pub done : status ≡ DONE
  pub anew : new ≡ record old { game = forgetting old.game }
  pub stands : standing_in new.game ≡ standing_in old.game

-- There was no memory, and all is as it was.
pub record HasKept (old new : StructState) (status : ℕ) : Type 0 where
  pub why : status ≡ NO_MEMORY
  pub same : new ≡ old

-- the journal of a match by structs begins anew; anything else refuses
abbrev pub IsForgotten : Option State → Option State → ℕ → Type 0
IsForgotten None new status = IsRefused (refusal None) None new status
IsForgotten (Some (Text text)) new status = IsRefused (refusal (Some (Text text))) (Some (Text text)) new status
IsForgotten (Some (View version)) new status = IsRefused (refusal (Some (View version))) (Some (View version)) new status
IsForgotten (Some (Finder finder)) new status = IsRefused (refusal (Some (Finder finder))) (Some (Finder finder)) new status
IsForgotten (Some (Structs old)) new status =
    (made : StructState) × ((new ≡ Some (Structs made)) × (HasForgotten old made status ⊎ HasKept old made status))

-- ---- no journal

-- a match by structs keeps no journal from then on, and all else is as it was; anything else refuses
abbrev pub IsUnkept : Option State → Option State → ℕ → Type 0
IsUnkept None new status = IsRefused (refusal None) None new status
IsUnkept (Some (Text text)) new status = IsRefused (refusal (Some (Text text))) (Some (Text text)) new status
IsUnkept (Some (View version)) new status = IsRefused (refusal (Some (View version))) (Some (View version)) new status
IsUnkept (Some (Finder finder)) new status = IsRefused (refusal (Some (Finder finder))) (Some (Finder finder)) new status
IsUnkept (Some (Structs old)) new status =
    (status ≡ DONE) × (new ≡ Some (Structs (record old { game = without_journal old.game })))
