-- What workers hand back.
use Rattle.std.specs.Prelude.{ℕ, ◌≡◌, ◌++◌, ◌∷◌, [], true, List, map, All, Some, slice_get, IfOk, OnOk}
use Rattle.posts.specs.declared.posts.Request.{Request}
use Rattle.posts.specs.Maps.{Map}
use Rattle.claim_board.specs.Boards.{SeatState}
use Rattle.posts.specs.declared.notes.Report.{Report}
use Rattle.turn_core.specs.Words.{Standing}
use Rattle.turn_core.specs.Notes.{IsNotedTo}
use Rattle.path_workers.specs.declared.placing.Answered.{Answered}
use Rattle.path_workers.specs.declared.drawing.Worked.{Worked}
use Rattle.path_workers.specs.inner.Ranking.{jobs_at}

-- the numbers of the jobs that were answered
abbrev pub job_numbers : List Answered → List ℕ
job_numbers answered = map (λ (one : Answered). one.job) answered

-- the answer and the note are those of the request of the job
abbrev pub AnswersItsJob : Map → Standing → Report → List Request → Answered → Type 0
AnswersItsJob map standing report jobs one =
    (request : Request) × ((slice_get jobs one.job ≡ Some request) × IsNotedTo map standing report request one.noted)

-- and so it is with each
abbrev pub AnswerTheirJobs : Map → Standing → Report → List Request → List Answered → Type 0
AnswerTheirJobs map standing report jobs answered = All (AnswersItsJob map standing report jobs) answered

-- one more job is answered, behind those before
abbrev pub HasOneMore : Map → Standing → Report → List Request → ℕ → List Answered → List Answered → Type 0
HasOneMore map standing report jobs job before after =
    (one : Answered) × ((after ≡ before ++ one ∷ []) × ((one.job ≡ job) × AnswersItsJob map standing report jobs one))

-- Workers have drawn places of the order on a seat: it is of the same board with the same share. Where memory was not short
-- it has ended, and the jobs at the places that it drew were answered.
pub record HasWorked (map : Map) (standing : Standing) (report : Report) (jobs : List Request) (order : List ℕ) (seat : SeatState)
    (worked : Worked) : Type 0 where
  pub board : worked.seat.board ≡ seat.board
  pub share : worked.seat.share ≡ seat.share
  pub ended : OnOk worked.answered (worked.seat.ended ≡ true)
  pub numbers : IfOk worked.answered (λ answered. job_numbers answered ≡ jobs_at order worked.seat.drawn)
  pub answers : IfOk worked.answered (AnswerTheirJobs map standing report jobs)
