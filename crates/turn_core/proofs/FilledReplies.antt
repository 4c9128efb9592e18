-- The replies to a turn: those made before its requests are answered, filled with the answers.
use Rattle.std.proofs.Common.{◌≡◌, ℕ, zero, suc, List, [], ◌∷◌, ◌++◌, length, drop, refl, sym, ap, ◌∙◌, subst, arith}
use Rattle.posts.specs.declared.edits.EditReply.{EditReply}
use Rattle.posts.specs.declared.posts.Post.{Post}
use Rattle.posts.specs.declared.posts.Post.TheVariants.{Edit as Editing, Ask as Asking}
use Rattle.posts.specs.declared.posts.Request.{Request}
use Rattle.posts.specs.declared.replies.Answer.{Answer}
use Rattle.posts.specs.declared.replies.Reply.{Reply}
use Rattle.posts.specs.declared.replies.Reply.TheVariants.{Edit as Edited, Answer as Answered}
use Rattle.posts.specs.Maps.{Map}
use Rattle.posts.specs.Posts.{requests, jobs}
use Rattle.grid_versions.specs.Editing.{edit_reply}
use Rattle.turn_core.specs.Solving.{AreAnswersTo}
use Rattle.turn_core.specs.Words.{Standing, edited}
use Rattle.turn_core.specs.Turns.{after, after_turn, AreTurnReplies}
use Rattle.turn_core.specs.Given.{first_answer, given, given_turn}
use Rattle.turn_core.specs.inner.ReplyLists.{edits_told, edits_told_in, list_ahead, edits_past_list, HaveEdits, lists_ahead, AllHaveEdits, list_filled, answers_past_list, HaveAnswers, lists_filled, AllHaveAnswers}
use Rattle.turn_core.proofs.Answering.{given_turn_are}

-- ---- the edits of a turn have their replies

have_edits : (m : Map) (s : Standing) (ps : List Post) (more : List EditReply) → HaveEdits ps (edits_told m s ps ++ more)
have_edits m s [] more = tt
have_edits m s (Editing e ∷ ps) more = (omega arith, have_edits m (edited m s (Editing e)) ps more)
have_edits m s (Asking q ∷ ps) more = (tt, have_edits m (edited m s (Asking q)) ps more)

edits_left : (m : Map) (s : Standing) (ps : List Post) (more : List EditReply) → edits_past_list ps (edits_told m s ps ++ more) ≡ more
edits_left m s [] more = refl
edits_left m s (Editing e ∷ ps) more = edits_left m (edited m s (Editing e)) ps more
edits_left m s (Asking q ∷ ps) more = edits_left m (edited m s (Asking q)) ps more

pub all_have_edits : (m : Map) (s : Standing) (turn : List (List Post)) → AllHaveEdits turn (edits_told_in m s turn)
all_have_edits m s [] = tt
all_have_edits m s (ps ∷ turn) =
    let rest : List EditReply = edits_told_in m (after m s ps) turn in
    (have_edits m s ps rest, subst (AllHaveEdits turn) (sym (edits_left m s ps rest)) (all_have_edits m (after m s ps) turn))

-- ---- filled with answers they are the replies to the turn

list_given : (m : Map) (s : Standing) (ps : List Post) (more : List EditReply) (rs : List Answer) → list_filled (list_ahead ps (edits_told m s ps ++ more)) rs ≡ given m s ps rs
list_given m s [] more rs = refl
list_given m s (Editing e ∷ ps) more rs = ap (λ (l : List Reply). Edited (edit_reply m s e) ∷ l) (list_given m (edited m s (Editing e)) ps more rs)
list_given m s (Asking q ∷ ps) more rs = ap (λ (l : List Reply). Answered (first_answer rs) ∷ l) (list_given m (edited m s (Asking q)) ps more (drop 1 rs))

abbrev no_answers : List Answer
no_answers = []

none_left : (n : ℕ) → drop n (no_answers) ≡ drop (suc n) (no_answers)
none_left zero = refl
none_left (suc n) = refl

answers_left : (m : Map) (s : Standing) (ps : List Post) (more : List EditReply) (rs : List Answer) → answers_past_list (list_ahead ps (edits_told m s ps ++ more)) rs ≡ drop (length (requests ps)) rs
answers_left m s [] more rs = refl
answers_left m s (Editing e ∷ ps) more rs = answers_left m (edited m s (Editing e)) ps more rs
answers_left m s (Asking q ∷ ps) more [] = answers_left m (edited m s (Asking q)) ps more [] ∙ none_left (length (requests ps))
answers_left m s (Asking q ∷ ps) more (r ∷ rs) = answers_left m (edited m s (Asking q)) ps more rs

pub lists_given : (m : Map) (s : Standing) (turn : List (List Post)) (rs : List Answer) → lists_filled (lists_ahead turn (edits_told_in m s turn)) rs ≡ given_turn m s turn rs
lists_given m s [] rs = refl
lists_given m s (ps ∷ turn) rs =
    let rest : List EditReply = edits_told_in m (after m s ps) turn in
    let one : List Reply = list_ahead ps (edits_told m s ps ++ rest) in
    ap (λ (es : List EditReply). list_filled one rs ∷ lists_filled (lists_ahead turn es) (answers_past_list one rs)) (edits_left m s ps rest)
    ∙ ap (λ (l : List Reply). l ∷ lists_filled (lists_ahead turn rest) (answers_past_list one rs)) (list_given m s ps rest rs)
    ∙ ap (λ (a : List Answer). given m s ps rs ∷ lists_filled (lists_ahead turn rest) a) (answers_left m s ps rest rs)
    ∙ ap (λ (l : List (List Reply)). given m s ps rs ∷ l) (lists_given m (after m s ps) turn (drop (length (requests ps)) rs))

-- ---- the requests of a turn have their answers

have_answers : (m : Map) (final s : Standing) (ps : List Post) (more : List EditReply) (qs : List Request) (rs : List Answer) → AreAnswersTo m final (requests ps ++ qs) rs
    → HaveAnswers (list_ahead ps (edits_told m s ps ++ more)) rs × AreAnswersTo m final qs (drop (length (requests ps)) rs)
have_answers m final s [] more qs rs are = (tt, are)
have_answers m final s (Editing e ∷ ps) more qs rs are =
    let rest = have_answers m final (edited m s (Editing e)) ps more qs rs are in
    ((tt, rest.0), rest.1)
have_answers m final s (Asking q ∷ ps) more qs [] are = absurd are
have_answers m final s (Asking q ∷ ps) more qs (r ∷ rs) are =
    let rest = have_answers m final (edited m s (Asking q)) ps more qs rs are.1 in
    ((omega arith, rest.0), rest.1)

pub all_have_answers : (m : Map) (final s : Standing) (turn : List (List Post)) (rs : List Answer) → AreAnswersTo m final (jobs turn) rs
    → AllHaveAnswers (lists_ahead turn (edits_told_in m s turn)) rs
all_have_answers m final s [] rs are = tt
all_have_answers m final s (ps ∷ turn) rs are =
    let rest : List EditReply = edits_told_in m (after m s ps) turn in
    let one : List Reply = list_ahead ps (edits_told m s ps ++ rest) in
    let have = have_answers m final s ps rest (jobs turn) rs are in (
      have.0,
      subst (λ (es : List EditReply). AllHaveAnswers (lists_ahead turn es) (answers_past_list one rs)) (sym (edits_left m s ps rest))
          (subst (AllHaveAnswers (lists_ahead turn rest)) (sym (answers_left m s ps rest rs))
          (all_have_answers m final (after m s ps) turn (drop (length (requests ps)) rs) have.1)),
    )

-- the replies that answers fill are those of one thread
pub filled_are : (m : Map) (s : Standing) (turn : List (List Post)) (ahead : List (List Reply)) (answers : List Answer)
    → ahead ≡ lists_ahead turn (edits_told_in m s turn) → AreAnswersTo m (after_turn m s turn) (jobs turn) answers
    → AreTurnReplies m (after_turn m s turn) s turn (lists_filled ahead answers)
filled_are m s turn ahead answers told are =
    let final = after_turn m s turn in
    subst (λ (rs : List (List Reply)). AreTurnReplies m final s turn rs)
    (sym (lists_given m s turn answers) ∙ ap (λ (l : List (List Reply)). lists_filled l answers) (sym told))
    (given_turn_are m final s turn answers are)
