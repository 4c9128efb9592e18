-- The lists of replies to a turn: before its requests are answered, and with the answers.
use Rattle.std.specs.Prelude.{◌<◌, List, [], ◌∷◌, ◌++◌, drop, length}
use Rattle.posts.specs.declared.edits.EditReply.{EditReply}
use Rattle.posts.specs.declared.edits.EditReply.TheVariants.{Removed}
use Rattle.posts.specs.declared.posts.Post.{Post}
use Rattle.posts.specs.declared.posts.Post.TheVariants.{Edit as Editing, Ask as Asking}
use Rattle.posts.specs.declared.replies.Answer.{Answer}
use Rattle.posts.specs.declared.replies.Answer.TheVariants.{Nowhere}
use Rattle.posts.specs.declared.replies.Reply.{Reply}
use Rattle.posts.specs.declared.replies.Reply.TheVariants.{Edit as Edited, Answer as Answered}
use Rattle.posts.specs.Maps.{Map}
use Rattle.grid_versions.specs.Editing.{edit_reply}
use Rattle.turn_core.specs.Words.{Standing, edited}
use Rattle.turn_core.specs.Turns.{after}
use Rattle.turn_core.specs.Given.{first_answer}
use Rattle.turn_core.specs.inner.Sweeps.{swept, left, EachHas}

-- the replies to the edits among posts
abbrev pub edits_told : Map → Standing → List Post → List EditReply
edits_told m s [] = []
edits_told m s (Editing edit ∷ posts) = edit_reply m s edit ∷ edits_told m (edited m s (Editing edit)) posts
edits_told m s (Asking request ∷ posts) = edits_told m (edited m s (Asking request)) posts

-- the replies to the edits of a turn, caller by caller
abbrev pub edits_told_in : Map → Standing → List (List Post) → List EditReply
edits_told_in m s [] = []
edits_told_in m s (posts ∷ turn) = edits_told m s posts ++ edits_told_in m (after m s posts) turn

-- the first reply to an edit
abbrev pub first_edit : List EditReply → EditReply
first_edit [] = Removed 0
first_edit (reply ∷ edits) = reply

-- the reply to a post before its turn's requests are answered: to an edit the first of `edits`, to a request a stand-in
abbrev pub ahead : Post → List EditReply → Reply
ahead (Editing edit) edits = Edited (first_edit edits)
ahead (Asking request) edits = Answered Nowhere

-- the replies to edits that are left after a post: an edit takes one
abbrev pub edits_past : Post → List EditReply → List EditReply
edits_past (Editing edit) edits = drop 1 edits
edits_past (Asking request) edits = edits

-- there is a reply for the post, where it is an edit
abbrev pub HasEdit : Post → List EditReply → Type 0
HasEdit (Editing edit) edits = 0 < length edits
HasEdit (Asking request) edits = Unit {0}

-- the same for the posts of one caller
abbrev pub list_ahead : List Post → List EditReply → List Reply
list_ahead posts edits = swept ahead edits_past posts edits

abbrev pub edits_past_list : List Post → List EditReply → List EditReply
edits_past_list posts edits = left edits_past posts edits

abbrev pub HaveEdits : List Post → List EditReply → Type 0
HaveEdits posts edits = EachHas HasEdit edits_past posts edits

-- the same for the posts of a turn, caller by caller
abbrev pub lists_ahead : List (List Post) → List EditReply → List (List Reply)
lists_ahead turn edits = swept list_ahead edits_past_list turn edits

abbrev pub AllHaveEdits : List (List Post) → List EditReply → Type 0
AllHaveEdits turn edits = EachHas HaveEdits edits_past_list turn edits

-- a reply with the first of the answers in the place of its own, where it has one
abbrev pub filled : Reply → List Answer → Reply
filled (Edited reply) answers = Edited reply
filled (Answered old) answers = Answered (first_answer answers)

-- the answers that are left after a reply: one with an answer takes one
abbrev pub answers_past : Reply → List Answer → List Answer
answers_past (Edited reply) answers = answers
answers_past (Answered old) answers = drop 1 answers

-- there is an answer for the reply, where it has one
abbrev pub HasAnswer : Reply → List Answer → Type 0
HasAnswer (Edited reply) answers = Unit {0}
HasAnswer (Answered old) answers = 0 < length answers

-- the same for the replies to one caller
abbrev pub list_filled : List Reply → List Answer → List Reply
list_filled replies answers = swept filled answers_past replies answers

abbrev pub answers_past_list : List Reply → List Answer → List Answer
answers_past_list replies answers = left answers_past replies answers

abbrev pub HaveAnswers : List Reply → List Answer → Type 0
HaveAnswers replies answers = EachHas HasAnswer answers_past replies answers

-- the same for the replies to a turn, caller by caller
abbrev pub lists_filled : List (List Reply) → List Answer → List (List Reply)
lists_filled lists answers = swept list_filled answers_past_list lists answers

abbrev pub AllHaveAnswers : List (List Reply) → List Answer → Type 0
AllHaveAnswers lists answers = EachHas HaveAnswers answers_past_list lists answers
