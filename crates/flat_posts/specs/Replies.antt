-- The flat form of each reply, by its kind, and the flat replies of a turn or to posts one after another.
use Rattle.std.specs.Prelude.{ℕ, ◌+◌, ◌-◌, ◌^◌, List, [], ◌∷◌, ◌++◌, length, map, min, flat_map, sum_by, if◌then◌else◌}
use Rattle.posts.specs.declared.edits.EditReply.{EditReply}
use Rattle.posts.specs.declared.edits.EditReply.TheVariants.{Added, Removed, Moved, Refused}
use Rattle.posts.specs.declared.edits.Refusal.{Refusal}
use Rattle.posts.specs.declared.edits.Refusal.TheVariants.{BadShape, DuplicateId, StoreFull, UnknownId, UnknownClass, StartOutside, GoalOutside}
use Rattle.posts.specs.declared.replies.Answer.{Answer}
use Rattle.posts.specs.declared.replies.Answer.TheVariants.{Refused as Denied, Nowhere, Path, Region}
use Rattle.posts.specs.declared.replies.PathAnswer.{PathAnswer}
use Rattle.posts.specs.declared.replies.RegionAnswer.{RegionAnswer}
use Rattle.posts.specs.declared.replies.Reply.{Reply}
use Rattle.posts.specs.declared.replies.Reply.TheVariants.{Edit as Edited, Answer as Answered}
use Rattle.posts.specs.declared.replies.TurnReplies.{TurnReplies}
use Rattle.nav_types.specs.declared.cells.Cell.{Cell}
use Rattle.flat_posts.specs.declared.cells.FlatCell.{FlatCell}
use Rattle.flat_posts.specs.declared.posted.FlatPost.{FlatPost}
use Rattle.flat_posts.specs.declared.refusals.TheConstants.{BAD_SHAPE, DUPLICATE_ID, STORE_FULL, UNKNOWN_ID, UNKNOWN_CLASS, START_OUTSIDE, GOAL_OUTSIDE}
use Rattle.flat_posts.specs.declared.replied.FlatReply.{FlatReply}
use Rattle.flat_posts.specs.declared.reply_kinds.TheConstants.{ADDED, REMOVED, MOVED, REFUSED, NOWHERE, AT_GOAL, NEAR_GOAL, IN_REGION}
use Rattle.flat_posts.specs.declared.turns.FlatTurn.{FlatTurn}
use Rattle.flat_posts.specs.Cells.{flat_cell}

-- a number in a field of so many bits: the field's greatest number stands for all that are greater
abbrev pub in_bits : ℕ → ℕ → ℕ
in_bits bits n = min n (2 ^ bits - 1)

-- a flat reply to the post of a number of a caller whose other fields are 0
abbrev pub bare_reply : ℕ → ℕ → ℕ → FlatReply
bare_reply kind caller post = record {
  kind = kind;
  caller = in_bits 8 caller;
  why = 0;
  zero = 0;
  post = in_bits 32 post;
  id = 0;
  start = record { i = 0; j = 0 };
  end = record { i = 0; j = 0 };
  chunk = record { i = 0; j = 0 };
  region = 0;
  zero_too = 0;
  area = 0;
  waypoints = 0;
  first_waypoint = 0;
  cost = 0;
}

-- the number of a refusal
abbrev pub why : Refusal → ℕ
why BadShape = BAD_SHAPE
why DuplicateId = DUPLICATE_ID
why StoreFull = STORE_FULL
why UnknownId = UNKNOWN_ID
why UnknownClass = UNKNOWN_CLASS
why StartOutside = START_OUTSIDE
why GoalOutside = GOAL_OUTSIDE

abbrev pub flat_refusal : ℕ → ℕ → Refusal → FlatReply
flat_refusal caller post refusal = record (bare_reply REFUSED caller post) { why = why refusal }

-- the reply to an edit
abbrev pub flat_edit_reply : ℕ → ℕ → EditReply → FlatReply
flat_edit_reply caller post (Added id) = record (bare_reply ADDED caller post) { id = id }
flat_edit_reply caller post (Removed id) = record (bare_reply REMOVED caller post) { id = id }
flat_edit_reply caller post (Moved id) = record (bare_reply MOVED caller post) { id = id }
flat_edit_reply caller post (Refused refusal) = flat_refusal caller post refusal

-- a path, whose waypoints begin at a place among those of the turn
abbrev pub flat_path : ℕ → ℕ → ℕ → PathAnswer → FlatReply
flat_path caller post first path =
    record (bare_reply (if path.near then NEAR_GOAL else AT_GOAL) caller post) {
      start = flat_cell path.start;
      end = flat_cell path.end;
      waypoints = length path.waypoints;
      first_waypoint = first;
      cost = path.cost.0;
    }

-- a region and an area
abbrev pub flat_region : ℕ → ℕ → RegionAnswer → FlatReply
flat_region caller post answer =
    record (bare_reply IN_REGION caller post) {
      chunk = record { i = answer.ci; j = answer.cj };
      region = answer.region;
      area = answer.area;
    }

-- the answer to a request
abbrev pub flat_answer : ℕ → ℕ → ℕ → Answer → FlatReply
flat_answer caller post first (Denied refusal) = flat_refusal caller post refusal
flat_answer caller post first Nowhere = bare_reply NOWHERE caller post
flat_answer caller post first (Path path) = flat_path caller post first path
flat_answer caller post first (Region answer) = flat_region caller post answer

-- the reply to the post of a number of a caller
abbrev pub flat_reply : ℕ → ℕ → ℕ → Reply → FlatReply
flat_reply caller post first (Edited reply) = flat_edit_reply caller post reply
flat_reply caller post first (Answered answer) = flat_answer caller post first answer

-- ---- the waypoints of a turn

-- the waypoints of a reply: those of a path
abbrev pub answer_waypoints : Answer → List Cell
answer_waypoints (Denied refusal) = []
answer_waypoints Nowhere = []
answer_waypoints (Path path) = path.waypoints
answer_waypoints (Region answer) = []

abbrev pub reply_waypoints : Reply → List Cell
reply_waypoints (Edited reply) = []
reply_waypoints (Answered answer) = answer_waypoints answer

abbrev pub waypoint_count : Reply → ℕ
waypoint_count reply = length (reply_waypoints reply)

-- the waypoints of a turn's replies: those of each reply together, caller by caller, in the order of the replies
abbrev pub waypoints_of : List Reply → List FlatCell
waypoints_of replies = flat_map (λ reply. map flat_cell (reply_waypoints reply)) replies

abbrev pub turn_waypoints : List (List Reply) → List FlatCell
turn_waypoints lists = flat_map waypoints_of lists

-- ---- the replies of a turn

-- the replies to a caller, from the post of a number on, where so many waypoints come before theirs
abbrev pub caller_replies : ℕ → ℕ → ℕ → List Reply → List FlatReply
caller_replies caller post before [] = []
caller_replies caller post before (reply ∷ replies) =
    flat_reply caller post (in_bits 64 before) reply ∷ caller_replies caller (post + 1) (before + waypoint_count reply) replies

-- the replies to each caller, from the one of a number on
abbrev pub replies_from : ℕ → ℕ → List (List Reply) → List FlatReply
replies_from caller before [] = []
replies_from caller before (replies ∷ lists) =
    caller_replies caller 0 before replies ++ replies_from (caller + 1) (before + sum_by waypoint_count replies) lists

-- the flat replies of a turn: caller by caller, in the order of their posts
abbrev pub turn_replies : List (List Reply) → List FlatReply
turn_replies lists = replies_from 0 0 lists

-- what a turn comes to
abbrev pub flat_turn : ℕ → TurnReplies → FlatTurn
flat_turn turn ended = record {
  turn = turn;
  regions = ended.tallies.regions;
  edges = ended.tallies.edges;
  areas = ended.tallies.areas;
  replies = in_bits 64 (sum_by length ended.replies);
  waypoints = in_bits 64 (sum_by (λ replies. sum_by waypoint_count replies) ended.replies);
  relabelled = ended.relabelled;
  zero = 0;
}

-- ---- the replies to posts that are answered one after another

-- the replies to posts, each with the caller and the place of its post, from a place on, where so many waypoints come before
abbrev pub replies_at : ℕ → ℕ → List FlatPost → List Reply → List FlatReply
replies_at place before [] replies = []
replies_at place before (flat ∷ flats) [] = []
replies_at place before (flat ∷ flats) (reply ∷ replies) =
    flat_reply flat.caller place (in_bits 64 before) reply ∷ replies_at (place + 1) (before + waypoint_count reply) flats replies

-- the flat replies to posts, one for each in their order
abbrev pub replies_to : List FlatPost → List Reply → List FlatReply
replies_to flats replies = replies_at 0 0 flats replies
