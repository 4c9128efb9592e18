-- The states of the turn machine.
use Rattle.std.specs.Prelude.{ℕ, Option, None, List, [], replicate}
use Rattle.posts.specs.declared.posts.Post.{Post}
use Rattle.posts.specs.declared.replies.Answer.{Answer}
use Rattle.posts.specs.declared.replies.Reply.{Reply}
use Rattle.posts.specs.Maps.{Map}
use Rattle.turn_core.specs.Words.{Standing, bare}
use Rattle.turn_core.specs.Turns.{standing, after_turn}

-- a running turn: its posts by caller, how many of its jobs are claimed, and the answer to each job, where there is one
pub record Run : Type 0 where
  pub turn : List (List Post)
  pub claimed : ℕ
  pub answers : List (Option Answer)

-- A state of the machine on a map. The lists `posted`, `taken`, `replies` and `collected` have one item for each caller:
-- all that it posted, how many of these were taken into a turn, all replies to it, and how many of these it collected.
-- Besides there are the staged turn and the running turn, where there is one, and the turns that are done.
pub record State : Type 0 where
  pub map : Map
  pub posted : List (List Post)
  pub taken : List ℕ
  pub staged : Option (List (List Post))
  pub running : Option Run
  pub done : List (List (List Post))
  pub replies : List (List Reply)
  pub collected : List ℕ

-- the state in which the machine opens
abbrev pub opening : Map → State
opening m = record {
  map = m;
  posted = replicate m.callers [];
  taken = replicate m.callers 0;
  staged = None;
  running = None;
  done = [];
  replies = replicate m.callers [];
  collected = replicate m.callers 0;
}

-- what stands after the turns that are done
abbrev pub stands_after_done : State → Standing
stands_after_done s = standing s.map bare s.done

-- what stands after the turns that are done and then the running turn
abbrev pub stands_in_run : State → Run → Standing
stands_in_run s run = after_turn s.map (stands_after_done s) run.turn
