-- Matches by text, whose text is taken piece by piece.
use Rattle.std.specs.Prelude.{ℕ, ◌≡◌, ◌≢◌, ◌↔◌, List, [], ◌++◌, drop, IsFalse, IsTrue, Option, None, Result, Err}
use Rattle.posts.specs.declared.notes.Report.{Report}
use Rattle.match_play.specs.declared.states.MatchState.{MatchState}
use Rattle.match_play.specs.declared.faults.MatchFault.{MatchFault}
use Rattle.match_play.specs.declared.faults.MatchFault.TheVariants.{Ended, NoMemory}
use Rattle.pathserve_c.specs.declared.line_limits.LineLimit.{LineLimit}
use Rattle.pathserve_c.specs.LineLimits.{IsLimitAfter}
use Rattle.match_play.specs.Playing.{FeedPlays, FinishPlays, HasPlayed, IsOver, TakesAll, TellsWhy, bad_cause}

-- the match, the text that was told and not taken yet, and the limit of its lines, where one was set
pub record TextState : Type 0 where
  pub game : MatchState
  pub waiting : List ℕ
  pub limit : Option LineLimit

-- no byte has come, nothing waits, and no limit was set
pub record IsUnread (asked : Report) (state : TextState) : Type 0 where
  pub played : HasPlayed state.game [] []
  pub unended : IsFalse state.game.ended
  pub report : state.game.report ≡ asked
  pub waiting : state.waiting ≡ []
  pub limit : state.limit ≡ None

-- Of a piece, what is left of it was not fed. What was told waits behind what waited. A script that has ended takes nothing, and a
-- bad line has its cause. What was fed counts in the limit.
pub record Feeds (old new : TextState) (piece left : List ℕ) (answer : Result (Unit {0}) MatchFault) : Type 0 where
  pub plays : FeedPlays old.game new.game piece left answer
  pub all : TakesAll left answer
  pub waits : new.waiting ≡ old.waiting ++ plays.plays.text
  pub ended : (answer ≡ Err Ended) ↔ IsTrue old.game.ended
  pub kept : answer ≡ Err Ended → (new.game ≡ old.game) × (left ≡ piece)
  pub stays : new.game.ended ≡ old.game.ended
  pub why : TellsWhy answer (bad_cause new.game)
  pub limit : IsLimitAfter old.limit plays.plays.taken new.limit

-- The script has ended. What was told of what was left waits behind what waited.
pub record Finishes (old new : TextState) (answer : Result (Unit {0}) MatchFault) : Type 0 where
  pub plays : FinishPlays old.game new.game answer
  pub waits : new.waiting ≡ old.waiting ++ plays.text
  pub ended : IsTrue new.game.ended
  pub over : answer ≢ Err NoMemory → IsOver new.game
  pub again : (answer ≡ Err Ended) ↔ IsOver old.game
  pub kept : answer ≡ Err Ended → new.game ≡ old.game
  pub why : TellsWhy answer (bad_cause new.game)
  pub limit : new.limit ≡ old.limit

-- So many bytes that waited wait no longer, and but for what waits the match is as it was.
pub record Takes (old new : TextState) (count : ℕ) : Type 0 where
  pub waits : new.waiting ≡ drop count old.waiting
  pub same : new.game ≡ record old.game { waiting = new.game.waiting }
  pub limit : new.limit ≡ old.limit
