-- What a match keeps of its turns, and how its state is stored in a ghost field.
use Rattle.std.specs.Prelude.{ℕ, ◌≡◌, ◌++◌, ◌⊎◌, List, [], ◌∷◌, All, length, refl}
use Rattle.std.specs.Coded.{Coded, code_by, coded×, coded⊎, coded_list, coded_ℕ}
use mathlib.Core.Logic.{inl, inr}
use Rattle.obstruction_store.specs.Standing.{Standing}
use Rattle.posts.specs.declared.posts.Post.{Post}
use Rattle.posts.specs.Maps.{Map}
use Rattle.grid_versions.specs.Versions.{MapState, map_state}
use Rattle.script_text.specs.Canon.{HaveLines}
use Rattle.turn_core.specs.Turns.{standing}
use Rattle.turn_core.specs.Words.{bare}
use Rattle.match_play.specs.declared.posted.EndedTurns.{EndedTurns}
use Rattle.match_play.specs.declared.posted.EndedTurns.TheVariants as ended
use Rattle.match_play.specs.Posted.{Past, PostedState, Kept, Unkept, counted}

-- what is kept, with what stands
abbrev pub past_of : Standing → EndedTurns → Past
past_of standing (ended.Kept journal) = Kept journal
past_of standing (ended.Counted turns) = Unkept standing turns

-- turns of a map that lead to what stands on it
pub record LeadTo (version : MapState) (journal : List (List (List Post))) : Type 0 where
  pub stands : version.standing ≡ standing version.map bare journal
  pub lines : All (HaveLines version.map.version) journal
  pub lists : All (λ (turn : List (List Post)). length turn ≡ version.map.callers) journal

-- turns that were not kept have led to what stands; where there was none, they are none
pub record HaveLed (version : MapState) (turns : ℕ) : Type 0 where
  pub journal : List (List (List Post))
  pub stands : version.standing ≡ standing version.map bare journal
  pub none : turns ≡ 0 → journal ≡ []

-- the turns that are kept, or those that are counted, lead to what stands
abbrev pub HoldsTurns : MapState → EndedTurns → Type 0
HoldsTurns version (ended.Kept journal) = LeadTo version journal
HoldsTurns version (ended.Counted turns) = HaveLed version turns

-- what was held, with a turn more
abbrev pub one_more : EndedTurns → List (List Post) → EndedTurns
one_more (ended.Kept journal) posts = ended.Kept (journal ++ posts ∷ [])
one_more (ended.Counted turns) posts = ended.Counted (counted turns)

-- a match is stored as its map with what stands, beside its journal or its count
abbrev pub StoredMatch : Type 0
StoredMatch = MapState × (List (List (List Post)) ⊎ ℕ)

abbrev stored : Map → Past → StoredMatch
stored m (Kept journal) = (map_state m bare, inl journal)
stored m (Unkept standing turns) = (map_state m standing, inr turns)

abbrev again : StoredMatch → PostedState
again (version, inl journal) = record { map = version.map; past = Kept journal }
again (version, inr turns) = record { map = version.map; past = Unkept version.standing turns }

pub again_same : (m : Map) (past : Past) → again (stored m past) ≡ record { map = m; past = past }
again_same m (Kept journal) = refl
again_same m (Unkept standing turns) = refl

abbrev pub posted_code : Coded MapState → Coded Post → Coded PostedState
posted_code version_code post_code =
    code_by StoredMatch (coded× version_code (coded⊎ (coded_list (coded_list (coded_list post_code))) coded_ℕ))
    (λ s. stored s.map s.past) again (λ s. again_same s.map s.past)
