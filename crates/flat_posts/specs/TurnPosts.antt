-- The posts of a turn, read from flat ones.
use Rattle.std.specs.Prelude.{ℕ, ◌==◌, List, filter, map}
use Rattle.std.specs.List.{AllZip, range_with_len}
use Rattle.posts.specs.declared.posts.Post.{Post}
use Rattle.posts.specs.Maps.{Map}
use Rattle.flat_posts.specs.declared.posted.FlatPost.{FlatPost}
use Rattle.flat_posts.specs.Posts.{IsPost}

-- flat posts are these posts of the map, each with its caller, in order
abbrev pub ArePosts : Map → List FlatPost → List (ℕ × Post) → Type 0
ArePosts map flats entries = AllZip (λ flat entry. IsPost map flat entry.0 entry.1) flats entries

-- the posts of one caller among those of many, in order
abbrev pub posts_by : List (ℕ × Post) → ℕ → List Post
posts_by entries caller = map (λ entry. entry.1) (filter (λ entry. entry.0 == caller) entries)

-- the turn of these posts: those of each caller, by the callers' numbers
abbrev pub turn_of : ℕ → List (ℕ × Post) → List (List Post)
turn_of callers entries = map (posts_by entries) (range_with_len 0 callers)
