-- What is counted of replies, one field for each number of the summary's first line but the number of turns.
use Rattle.std.specs.Prelude.{◌+◌, ◌<◌, ◌^◌, List, length, count_by, sum_by}
use Rattle.posts.specs.declared.replies.Reply.{Reply}
use Rattle.answer_text.specs.declared.counting.ReplyCounts.{ReplyCounts}
use Rattle.answer_text.specs.Summaries.{is_added, is_removed, is_refused, is_at_goal, is_near_goal, is_nowhere, path_cost, waypoint_count}

-- the counts of replies
abbrev pub counts_of : List Reply → ReplyCounts
counts_of replies = record {
  posts = length replies;
  added = count_by is_added replies;
  removed = count_by is_removed replies;
  refused = count_by is_refused replies;
  goal = count_by is_at_goal replies;
  near = count_by is_near_goal replies;
  nowhere = count_by is_nowhere replies;
  cost = sum_by path_cost replies;
  waypoints = sum_by waypoint_count replies;
}

-- two counts together
abbrev pub together : ReplyCounts → ReplyCounts → ReplyCounts
together a b = record {
  posts = a.posts + b.posts;
  added = a.added + b.added;
  removed = a.removed + b.removed;
  refused = a.refused + b.refused;
  goal = a.goal + b.goal;
  near = a.near + b.near;
  nowhere = a.nowhere + b.nowhere;
  cost = a.cost + b.cost;
  waypoints = a.waypoints + b.waypoints;
}

-- each number is below 2^64
pub record IsCountable (c : ReplyCounts) : Type 0 where
  pub posts : c.posts < 2 ^ 64
  pub added : c.added < 2 ^ 64
  pub removed : c.removed < 2 ^ 64
  pub refused : c.refused < 2 ^ 64
  pub goal : c.goal < 2 ^ 64
  pub near : c.near < 2 ^ 64
  pub nowhere : c.nowhere < 2 ^ 64
  pub cost : c.cost < 2 ^ 64
  pub waypoints : c.waypoints < 2 ^ 64
