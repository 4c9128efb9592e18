-- A flat post that is an edit is no request, and one reply is told as a turn of it is.
use Rattle.std.proofs.Common.{◌≡◌, ℕ, List, [], ◌∷◌, append-nil, ap, length, refl, subst, sym, ◌∙◌}
use Rattle.std.proofs.Math.Nat.{min-zero}
use Rattle.std.specs.Prelude.{⊤}
use Rattle.posts.specs.declared.edits.Edit.{Edit}
use Rattle.posts.specs.declared.posts.Post.{Post}
use Rattle.posts.specs.declared.posts.Post.TheVariants.{Edit as Editing, Ask as Asking}
use Rattle.posts.specs.declared.posts.Request.{Request}
use Rattle.posts.specs.declared.replies.Reply.{Reply}
use Rattle.posts.specs.Maps.{Map}
use Rattle.flat_posts.specs.declared.cells.FlatCell.{FlatCell}
use Rattle.flat_posts.specs.declared.posted.FlatPost.{FlatPost}
use Rattle.flat_posts.specs.Pages.{IsPage}
use Rattle.flat_posts.specs.Posts.{IsPost}
use Rattle.flat_posts.specs.Replies.{turn_waypoints, waypoints_of}
use Rattle.flat_posts.proofs.FlatForms.{one_post-IsPost}

abbrev IsEdit : Post → Type 0
IsEdit (Editing edit) = ⊤
IsEdit (Asking request) = ⊥

pub edit_asks_nothing : (map : Map) (flat : FlatPost) (caller other : ℕ) (edit : Edit) (request : Request)
    → IsPost map flat caller (Editing edit) → IsPost map flat other (Asking request) → ⊥
edit_asks_nothing map flat caller other edit request is asks =
    subst IsEdit (one_post-IsPost map flat caller other (Editing edit) (Asking request) is asks).1 tt

-- the waypoints of one reply are those of a turn of it alone
pub page_of_one : (told : Reply) (replies : List Reply) (before after : List FlatCell) (count : ℕ) → replies ≡ told ∷ []
    → IsPage 0 (waypoints_of replies) before after count → IsPage 0 (turn_waypoints ((told ∷ []) ∷ [])) before after count
page_of_one told replies before after count only page =
    subst (λ (all : List FlatCell). IsPage 0 all before after count) (ap waypoints_of only ∙ sym (append-nil (waypoints_of (told ∷ [])))) page

-- the same of a list of it alone
pub page_of_told : (told : Reply) (replies : List Reply) (before after : List FlatCell) (count : ℕ) → replies ≡ told ∷ []
    → IsPage 0 (waypoints_of replies) before after count → IsPage 0 (waypoints_of (told ∷ [])) before after count
page_of_told told replies before after count only page =
    subst (λ (all : List Reply). IsPage 0 (waypoints_of all) before after count) only page

-- no replies have no waypoints
pub page_of_none : (before : List FlatCell) → IsPage 0 (waypoints_of []) before before 0
page_of_none before = record { many = sym (min-zero (length before)); items = refl }
