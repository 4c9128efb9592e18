-- Where the notes tell nothing, a text with them is that without them.
use Rattle.std.proofs.Common.{◌≡◌, ℕ, ◌+◌, List, [], ◌∷◌, ◌++◌, All, refl, ap, ◌∙◌}
use Rattle.std.proofs.lemmas.List.Elements.{All-head, All-tail}
use Rattle.posts.specs.declared.notes.Note.{Note}
use Rattle.posts.specs.declared.notes.Note.TheVariants.{Nothing}
use Rattle.posts.specs.declared.replies.Reply.{Reply}
use Rattle.posts.specs.declared.replies.Reply.TheVariants.{Edit as Edited, Answer as Answered}
use Rattle.posts.specs.declared.replies.TurnReplies.{TurnReplies}
use Rattle.answer_text.specs.Answers.{reply_line, reply_lines, caller_lines, turn_line, turn_text}
use Rattle.answer_text.specs.Noted.{note_text, next_text, notes_after, notes_left, behind_reply, noted_lines, noted_callers, noted_text}

abbrev TellNothing : List Note → Type 0
TellNothing notes = All (λ (note : Note). note ≡ Nothing) notes

next_of_nothing : (caller post : ℕ) (notes : List Note) → TellNothing notes → next_text caller post notes ≡ []
next_of_nothing caller post [] none = refl
next_of_nothing caller post (note ∷ notes) none =
    ap (λ (n : Note). note_text caller post n) (All-head (λ (n : Note). n ≡ Nothing) note notes none)

after_of_nothing : (reply : Reply) (notes : List Note) → TellNothing notes → TellNothing (notes_after reply notes)
after_of_nothing (Edited reply) notes none = none
after_of_nothing (Answered answer) [] none = none
after_of_nothing (Answered answer) (note ∷ notes) none = All-tail (λ (n : Note). n ≡ Nothing) note notes none

left_of_nothing : (replies : List Reply) (notes : List Note) → TellNothing notes → TellNothing (notes_left replies notes)
left_of_nothing [] notes none = none
left_of_nothing (reply ∷ replies) notes none = left_of_nothing replies (notes_after reply notes) (after_of_nothing reply notes none)

behind_of_nothing : (caller post : ℕ) (reply : Reply) (notes : List Note) → TellNothing notes → behind_reply caller post reply notes ≡ []
behind_of_nothing caller post (Edited reply) notes none = refl
behind_of_nothing caller post (Answered answer) notes none = next_of_nothing caller post notes none

lines_of_nothing : (caller post : ℕ) (replies : List Reply) (notes : List Note) → TellNothing notes
    → noted_lines caller post replies notes ≡ reply_lines caller post replies
lines_of_nothing caller post [] notes none = refl
lines_of_nothing caller post (reply ∷ replies) notes none =
    let rest : List ℕ = noted_lines caller (post + 1) replies (notes_after reply notes) in
    ap (λ (behind : List ℕ). reply_line caller post reply ++ (behind ++ rest)) (behind_of_nothing caller post reply notes none)
    ∙ ap (λ (more : List ℕ). reply_line caller post reply ++ more)
    (lines_of_nothing caller (post + 1) replies (notes_after reply notes) (after_of_nothing reply notes none))

callers_of_nothing : (caller : ℕ) (lists : List (List Reply)) (notes : List Note) → TellNothing notes
    → noted_callers caller lists notes ≡ caller_lines caller lists
callers_of_nothing caller [] notes none = refl
callers_of_nothing caller (replies ∷ rest) notes none =
    ap (λ (lines : List ℕ). lines ++ noted_callers (caller + 1) rest (notes_left replies notes)) (lines_of_nothing caller 0 replies notes none)
    ∙ ap (λ (more : List ℕ). reply_lines caller 0 replies ++ more)
    (callers_of_nothing (caller + 1) rest (notes_left replies notes) (left_of_nothing replies notes none))

-- the text of a turn
pub text_of_nothing : (turn : ℕ) (told : TurnReplies) (notes : List Note) → TellNothing notes → noted_text turn told notes ≡ turn_text turn told
text_of_nothing turn told notes none =
    ap (λ (lines : List ℕ). turn_line turn told.tallies told.relabelled ++ lines) (callers_of_nothing 0 told.replies notes none)
