-- Which answers, notes and numbers fit the program's words.
use Rattle.std.specs.Prelude.{◌<◌, ◌^◌, All}
use Rattle.nav_types.specs.declared.cells.Size.{Size}
use Rattle.nav_types.specs.Cells.{IsInside}
use Rattle.posts.specs.declared.notes.Note.{Note}
use Rattle.posts.specs.declared.notes.Note.TheVariants.{Nothing, Opened, Flow, Smoothed}
use Rattle.posts.specs.declared.replies.TurnReplies.{TurnReplies}
use Rattle.posts.specs.declared.replies.PathAnswer.{PathAnswer}
use Rattle.posts.specs.declared.replies.RegionAnswer.{RegionAnswer}
use Rattle.posts.specs.declared.replies.Answer.{Answer}
use Rattle.posts.specs.declared.replies.Answer.TheVariants.{Refused, Nowhere, Path as IsPath, Region as IsRegion}

-- the path's cells lie on a map of this size, and its cost has 64 bits
pub record PathFits (size : Size) (path : PathAnswer) : Type 0 where
  pub start : IsInside size path.start
  pub end : IsInside size path.end
  pub points : All (IsInside size) path.waypoints
  pub cost : path.cost.0 < 2 ^ 64

-- the numbers of the chunk and of the region have 16 bits, that of the area has 32
pub record RegionFits (answer : RegionAnswer) : Type 0 where
  pub column : answer.ci < 2 ^ 16
  pub row : answer.cj < 2 ^ 16
  pub region : answer.region < 2 ^ 16
  pub area : answer.area < 2 ^ 32

-- the answer fits the program's words
abbrev pub AnswerFits : Size → Answer → Type 0
AnswerFits size (Refused refusal) = Unit {0}
AnswerFits size Nowhere = Unit {0}
AnswerFits size (IsPath path) = PathFits size path
AnswerFits size (IsRegion region) = RegionFits region

-- a number has 64 bits, and points lie on a map of this size
abbrev pub NoteFits : Size → Note → Type 0
NoteFits size Nothing = Unit {0}
NoteFits size (Opened opened) = opened < 2 ^ 64
NoteFits size (Flow line) =
    (line.summary.cells < 2 ^ 64) × ((line.summary.farthest < 2 ^ 64) × (line.summary.sum < 2 ^ 64))
NoteFits size (Smoothed points) = All (IsInside size) points

-- the numbers of regions, edges and areas have 64 bits, and that of changed pairs of class and chunk has 32
pub record NumbersFit (told : TurnReplies) : Type 0 where
  pub regions : told.tallies.regions < 2 ^ 64
  pub edges : told.tallies.edges < 2 ^ 64
  pub areas : told.tallies.areas < 2 ^ 64
  pub relabelled : told.relabelled < 2 ^ 32
