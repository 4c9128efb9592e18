-- Matches that are opened again from a script.
use Rattle.std.specs.Prelude.{ℕ, ◌≡◌, List, [], ◌∷◌, ◌++◌, Option, Some, None, option_map, Result, Ok, Err}
use Rattle.posts.specs.declared.posts.Post.{Post}
use Rattle.posts.specs.declared.replies.TurnReplies.{TurnReplies}
use Rattle.posts.specs.Maps.{Map}
use Rattle.script_text.specs.ReadsBack.{ReadsAs, canon_script}
use Rattle.turn_core.specs.Turns.{IsTurnTold, standing}
use Rattle.turn_core.specs.Words.{bare}
use Rattle.match_play.specs.declared.faults.MatchFault.{MatchFault}
use Rattle.match_play.specs.declared.replayed.OpenedMatch.{OpenedMatch}
use Rattle.match_play.specs.Posted.{PostedState, Kept, journal_of}
use Rattle.match_play.specs.Scripts.{RefusesScript}

-- what the last turn of a journal was answered; nothing where it has none
abbrev pub IsLastTold : Map → List (List (List Post)) → Option TurnReplies → Type 0
IsLastTold m journal None = journal ≡ []
IsLastTold m journal (Some told) = (earlier : List (List (List Post))) × ((turn : List (List Post))
    × ((journal ≡ earlier ++ turn ∷ []) × IsTurnTold m (standing m bare earlier) turn told))

-- a whole script was played: the match has its map and a journal of its turns, and was told what the last of them is answered
pub record PlaysScript (script : List ℕ) (opened : OpenedMatch) : Type 0 where
  pub journal : List (List (List Post))
  pub keeps : opened.game.past ≡ Kept journal
  pub reads : ReadsAs opened.game.map journal script
  pub told : IsLastTold opened.game.map journal opened.told

-- what an answer says of a script that is to be played
abbrev pub PlaysAs : List ℕ → Result OpenedMatch MatchFault → Type 0
PlaysAs script (Ok opened) = PlaysScript script opened
PlaysAs script (Err why) = RefusesScript script why

-- the match as a script: the canonical one of its map and its turns, where it keeps a journal
abbrev pub script_of : PostedState → Option (List ℕ)
script_of game = option_map (canon_script game.map) (journal_of game.past)
