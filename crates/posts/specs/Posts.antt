-- What posts are, and the requests among them.
use Rattle.std.specs.Prelude.{ℕ, List, length, Option, None, Some, filter_map, flat_map, sum_by}
use Rattle.posts.specs.declared.edits.Edit.{Edit}
use Rattle.posts.specs.declared.posts.Post.{Post}
use Rattle.posts.specs.declared.posts.Post.TheVariants.{Edit as Editing, Ask as Asking}
use Rattle.posts.specs.declared.posts.Request.{Request}

-- the edit that a post is, where it is one
abbrev pub edit_of : Post → Option Edit
edit_of (Editing edit) = Some edit
edit_of (Asking request) = None

-- the request that a post is, where it is one
abbrev pub request_of : Post → Option Request
request_of (Editing edit) = None
request_of (Asking request) = Some request

-- the requests among posts, in their order
abbrev pub requests : List Post → List Request
requests posts = filter_map request_of posts

-- the jobs of a turn: its requests caller by caller, in the order of the posts. A job's number is its place
abbrev pub jobs : List (List Post) → List Request
jobs turn = flat_map requests turn

-- how many posts a turn has, over all callers
abbrev pub post_count : List (List Post) → ℕ
post_count turn = sum_by length turn
