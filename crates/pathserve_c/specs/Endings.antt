-- How a path would end, which a view says without a search.
use Rattle.std.specs.Prelude.{ℕ, ◌≡◌, ◌⊎◌, Option, Some, None, if◌then◌else◌}
use Rattle.goal_reach.specs.declared.targets.Target.{Target}
use Rattle.goal_reach.specs.declared.targets.Target.TheVariants as target
use Rattle.posts.specs.declared.posts.Post.TheVariants.{Ask}
use Rattle.posts.specs.declared.posts.PathRequest.{PathRequest}
use Rattle.posts.specs.declared.posts.Request.TheVariants.{Path as AsksPath}
use Rattle.posts.specs.declared.replies.Answer.{Answer}
use Rattle.posts.specs.declared.replies.Answer.TheVariants as answer
use Rattle.grid_versions.specs.Versions.{MapState}
use Rattle.turn_core.specs.Solving.{IsAnswerTo}
use Rattle.flat_posts.specs.declared.cells.FlatCell.{FlatCell}
use Rattle.flat_posts.specs.declared.posted.FlatPost.{FlatPost}
use Rattle.flat_posts.specs.declared.reply_kinds.TheConstants.{REFUSED, NOWHERE, AT_GOAL, NEAR_GOAL}
use Rattle.flat_posts.specs.Cells.{flat_cell}
use Rattle.flat_posts.specs.Posts.{IsPost}
use Rattle.pathserve_c.specs.declared.endings.PathEnd.{PathEnd}
use Rattle.pathserve_c.specs.declared.endings.PathEnd.TheVariants as end
use Rattle.pathserve_c.specs.declared.states.State.{State}
use Rattle.pathserve_c.specs.declared.states.State.TheVariants.{Text, Structs, View, Finder}
use Rattle.pathserve_c.specs.Questions.{IsUnsaid}

-- the path of an answer ends so: at its goal, or near it in a cell
abbrev pub EndsAs : Answer → PathEnd → Type 0
EndsAs (answer.Refused why) how = how ≡ end.Refused
EndsAs answer.Nowhere how = how ≡ end.Nowhere
EndsAs (answer.Path path) how = how ≡ (if path.near then end.Near path.end else end.AtGoal)
EndsAs (answer.Region region) how = ⊥

-- The post asks for a path, and whatever the answer is, the path ends so.
pub record EndsSo (version : MapState) (post : FlatPost) (how : PathEnd) : Type 0 where
  pub caller : ℕ
  pub request : PathRequest
  pub asks : IsPost version.map post caller (Ask (AsksPath request))
  pub ends : (told : Answer) → IsAnswerTo version.map version.standing (AsksPath request) told → EndsAs told how

-- the post asks for no path
abbrev pub IsNoPath : MapState → FlatPost → Type 0
IsNoPath version post = (caller : ℕ) (request : PathRequest) → ¬ IsPost version.map post caller (Ask (AsksPath request))

-- the kind of the reply to a path that ends so
abbrev pub kind_of : PathEnd → ℕ
kind_of end.Refused = REFUSED
kind_of end.Nowhere = NOWHERE
kind_of end.AtGoal = AT_GOAL
kind_of (end.Near cell) = NEAR_GOAL

-- the cell in which a path ends near its goal, and else what was there
abbrev pub cell_told : PathEnd → FlatCell → FlatCell
cell_told end.Refused old = old
cell_told end.Nowhere old = old
cell_told end.AtGoal old = old
cell_told (end.Near cell) old = flat_cell cell

-- how a path to the targets of its goal ends
abbrev pub end_to : Target → PathEnd
end_to (target.Goal goal) = end.AtGoal
end_to (target.Near cell) = end.Near cell

-- it was told how the path of a post ends; of what asks for no path nothing
abbrev pub IsEndSaid : MapState → FlatPost → (old new : FlatCell) → ℕ → Type 0
IsEndSaid version post old new said = (IsNoPath version post × IsUnsaid old new said)
    ⊎ ((how : PathEnd) × (EndsSo version post how × ((said ≡ kind_of how) × (new ≡ cell_told how old))))

-- the same of what a handle shows; anything else than a view says nothing
abbrev pub IsEndTold : Option State → FlatPost → (old new : FlatCell) → ℕ → Type 0
IsEndTold None post old new said = IsUnsaid old new said
IsEndTold (Some (Text text)) post old new said = IsUnsaid old new said
IsEndTold (Some (Structs structs)) post old new said = IsUnsaid old new said
IsEndTold (Some (Finder finder)) post old new said = IsUnsaid old new said
IsEndTold (Some (View version)) post old new said = IsEndSaid version post old new said
