use Rattle.std.proofs.Common.{◌+◌, ◌++◌, ℕ, List, ap, refl, ◌∙◌}
use Rattle.posts.specs.declared.notes.Note.{Note}
use Rattle.answer_text.specs.Noted.{noted_text}
use Rattle.match_play.proofs.Items.{turn_told, turn_becomes}
use Rattle.match_play.proofs.match_progress.play_turn.Goals as goal

pub returns-in-Ok-clause-told : goal.returns-in-Ok-clause-told
returns-in-Ok-clause-told g c =
    let stands = c.args.progress.now in
    let view = rw c.in-Ok-Some.field-0-is at c.in-Ok-Some.ensures in
    let told = c.in_ok-posts.field-0 in
    let is = c.in_ok-posts.ensures in
    let turn = c.turns_in-turn.result + 1 in
    let waited = c.in-Ok.ensures.ok ∙ ap (λ (notes : List Note). c.args.waiting.now ++ noted_text turn told.replies notes) c.as_slice.ensures in
    turn_told c.args.report stands c.in-Ok-Some.version told.after turn c.args.posts (noted_text turn told.replies told.notes) c.args.waiting.now c.push_noted_text.new.text
    view is.map is.standing (ap (λ (k : ℕ). k + 1) c.turns_in-turn.ensures) (told.replies, (told.notes, (is.told, (is.notes, refl)))) waited

pub returns-in-Ok-clause-progress : goal.returns-in-Ok-clause-progress
returns-in-Ok-clause-progress g c =
    let view = rw c.in-Ok-Some.field-0-is at c.in-Ok-Some.ensures in
    let told = c.in_ok-posts.field-0 in
    turn_becomes c.args.progress.now c.in-Ok-Some.version told.after (c.turns_in-turn.result + 1) view c.in_ok-posts.ensures.map
    (ap (λ (k : ℕ). k + 1) c.turns_in-turn.ensures)
