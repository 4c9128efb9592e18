-- Answers and notes in the places of their jobs.
use Rattle.std.specs.Prelude.{ℕ, ◌<◌, [], ◌∷◌, List, slice_set}
use Rattle.posts.specs.declared.replies.Answer.{Answer}
use Rattle.posts.specs.declared.notes.Note.{Note}
use Rattle.path_workers.specs.declared.placing.Answered.{Answered}

-- the number of its job is below the bound
abbrev pub IsBelow : ℕ → Answered → Type 0
IsBelow bound one = one.job < bound

-- the answer to a job
abbrev pub answer_of : Answered → Answer
answer_of one = one.noted.answer

-- its note
abbrev pub note_of : Answered → Note
note_of one = one.noted.note

-- the places with what is told of each job in that of the job; of several for one place the first stands there
abbrev pub placed : {T : Type 0} → (Answered → T) → List T → List Answered → List T
placed {T} told_of places [] = places
placed {T} told_of places (one ∷ rest) = slice_set (placed told_of places rest) one.job (told_of one)
