-- Answers and notes that are put in the places of their jobs.
use Rattle.std.proofs.Common.{◌≡◌, ℕ, ◌<◌, List, [], ◌∷◌, ◌++◌, length, get_or, set, Some, refl, sym, ap, ◌∙◌, subst, inl, inr, arith}
use Rattle.std.specs.List.{All, Contains, slice_get}
use Rattle.std.proofs.lemmas.Bool.{cases_eq}
use Rattle.std.proofs.lemmas.Grind.{get_or-set_at}
use Rattle.std.proofs.lemmas.List.{length-set, get_or-set_other}
use Rattle.std.proofs.lemmas.List.Elements.{All-head, All-tail, All-pop, Contains-get_or}
use Rattle.std.proofs.lemmas.Option.{get_or_from_slice_get, slice_get_within}
use Rattle.nav_types.specs.Counting.{Lists}
use Rattle.nav_types.proofs.Items.{Contains-none, Contains-cons_cases, Contains-map}
use Rattle.posts.specs.declared.posts.Request.{Request}
use Rattle.posts.specs.declared.replies.Answer.{Answer}
use Rattle.posts.specs.Maps.{Map}
use Rattle.posts.specs.declared.notes.Note.{Note}
use Rattle.posts.specs.declared.notes.Report.{Report}
use Rattle.turn_core.specs.Words.{Standing}
use Rattle.turn_core.specs.Solving.{IsAnswerTo, AreAnswersTo}
use Rattle.turn_core.specs.Notes.{IsNote, AreNotes}
use Rattle.turn_core.proofs.TurnByTurn.{by_place}
use Rattle.turn_core.proofs.OneNote.{notes_by_place}
use Rattle.path_workers.specs.declared.placing.Answered.{Answered}
use Rattle.path_workers.specs.inner.Working.{job_numbers, AnswerTheirJobs}
use Rattle.path_workers.specs.inner.Placing.{IsBelow, answer_of, note_of, placed}

-- what is told of the last job is put in its place first
pub placed-push : {T : Type 0} (told_of : Answered → T) (places : List T) (front : List Answered) (last : Answered)
    → placed told_of places (front ++ last ∷ []) ≡ placed told_of (set places last.job (told_of last)) front
placed-push told_of places [] last = refl
placed-push {T} told_of places (one ∷ front) last = ap (λ (ps : List T). set ps one.job (told_of one)) (placed-push told_of places front last)

-- what is told of one job is put in its place, and the others wait
pub one_placed : {T : Type 0} (told_of : Answered → T) (count : ℕ) (places after : List T) (whole front : List Answered) (last : Answered) (end : List T)
    → whole ≡ front ++ last ∷ [] → after ≡ set places last.job (told_of last) → length places ≡ count → All (IsBelow count) whole → placed told_of places whole ≡ end
    → (length after ≡ count) × (All (IsBelow count) front × (placed told_of after front ≡ end))
one_placed {T} told_of count places after whole front last end split put wide inside same = (
  ap (λ (l : List T). length l) put ∙ length-set places last.job (told_of last) ∙ wide,
  (
    (All-pop (IsBelow count) whole front (Some last) split inside).0,
    ap (λ (l : List T). placed told_of l front) put ∙ sym (placed-push told_of places front last) ∙ ap (placed told_of places) (sym split) ∙ same,
  ),
)

pub last_below : {T : Type 0} (count : ℕ) (places : List T) (whole front : List Answered) (last : Answered)
    → whole ≡ front ++ last ∷ [] → length places ≡ count → All (IsBelow count) whole → IsBelow (length places) last
last_below count places whole front last split wide inside =
    let below : last.job < count = (All-pop (IsBelow count) whole front (Some last) split inside).1 in
    omega (arith, below, wide)

length-placed : {T : Type 0} (told_of : Answered → T) (places : List T) (answered : List Answered) → length (placed told_of places answered) ≡ length places
length-placed told_of places [] = refl
length-placed told_of places (one ∷ rest) = length-set (placed told_of places rest) one.job (told_of one) ∙ length-placed told_of places rest

-- what holds of each job with what is told of it holds of what stands in the place of a job that was answered
placed_at : {T : Type 0} (told_of : Answered → T) (P : ℕ → T → Type 0) (places : List T) (answered : List Answered) (job : ℕ) (d : T) → job < length places
    → All (λ (one : Answered). P one.job (told_of one)) answered → Contains (job_numbers answered) job → P job (get_or (placed told_of places answered) job d)
placed_at told_of P places [] job d inside all has = absurd (Contains-none job has)
placed_at {T} told_of P places (one ∷ rest) job d inside all has =
    let others : List T = placed told_of places rest in
    let wide = length-placed told_of places rest in
    elim (cases_eq one.job job) [
      | inl same ↦
          let stands : get_or (set others one.job (told_of one)) job d ≡ told_of one = get_or-set_at others one.job job (told_of one) d (sym same) (omega (arith, wide)) in
          subst (P job) (sym stands)
          (subst (λ (n : ℕ). P n (told_of one)) same (All-head (λ (a : Answered). P a.job (told_of a)) one rest all))
      | inr differ ↦
          let stays : get_or (set others one.job (told_of one)) job d ≡ get_or others job d = get_or-set_other others one.job job (told_of one) d (λ e. differ (sym e)) in
          let later : Contains (job_numbers rest) job = elim (Contains-cons_cases one.job (job_numbers rest) job has) [
            | inl same ↦ absurd (differ same)
            | inr later ↦ later
          ] in
          subst (P job) (sym stays)
          (placed_at told_of P places rest job d inside (All-tail (λ (a : Answered). P a.job (told_of a)) one rest all) later)
    ]

-- what is told of a job is right of its request
abbrev IsToldOf : {T : Type 0} → (Request → T → Type 0) → List Request → ℕ → T → Type 0
IsToldOf {T} Is jobs job told = (request : Request) × ((slice_get jobs job ≡ Some request) × Is request told)

same_request : {T : Type 0} (Is : Request → T → Type 0) (jobs : List Request) (job : ℕ) (request : Request) (told : T)
    → slice_get jobs job ≡ Some request → IsToldOf Is jobs job told → Is request told
same_request {T} Is jobs job request told at has =
    let asked : slice_get jobs job ≡ Some has.0 = has.1.0 in
    let same : has.0 ≡ request = cc in
    subst (λ (q : Request). Is q told) same has.1.1

-- where the answered jobs are those below the count, each once, each place has what is told of its job
placed_right : {T : Type 0} (told_of : Answered → T) (Is : Request → T → Type 0) (blank : List T) (answered : List Answered) (count : ℕ) (jobs : List Request)
    → length blank ≡ count → Lists (λ job. job < count) (job_numbers answered) → length jobs ≡ count
    → All (λ (one : Answered). IsToldOf Is jobs one.job (told_of one)) answered
    → (length (placed told_of blank answered) ≡ length jobs)
    × ((job : ℕ) (request : Request) (told : T) → slice_get jobs job ≡ Some request → slice_get (placed told_of blank answered) job ≡ Some told → Is request told)
placed_right {T} told_of Is blank answered count jobs wide lists many right = (
  length-placed told_of blank answered ∙ wide ∙ sym many,
  λ job request told asked found.
      let inside = slice_get_within jobs job request asked in
      let has : IsToldOf Is jobs job (get_or (placed told_of blank answered) job told) = placed_at told_of (IsToldOf Is jobs) blank answered job told
      (omega (arith, inside, wide, many)) right (lists.all job (omega (arith, inside, many))) in
      let here : get_or (placed told_of blank answered) job told ≡ told = get_or_from_slice_get (placed told_of blank answered) job told told found in
      same_request Is jobs job request told asked (subst (λ (t : T). IsToldOf Is jobs job t) here has),
)

-- so each place has the answer to its job
pub placed_are : (blank : List Answer) (answered : List Answered) (count : ℕ) → length blank ≡ count → Lists (λ job. job < count) (job_numbers answered)
    → (map : Map) (standing : Standing) (report : Report) (jobs : List Request) → length jobs ≡ count → AnswerTheirJobs map standing report jobs answered
    → AreAnswersTo map standing jobs (placed answer_of blank answered)
placed_are blank answered count wide lists map standing report jobs many answers =
    (by_place map standing jobs (placed answer_of blank answered)).1
    (placed_right answer_of (IsAnswerTo map standing) blank answered count jobs wide lists many
    (λ k d inside. let one = answers k d inside in (one.0, (one.1.0, one.1.1.answered))))

-- and its note
pub placed_notes : (blank : List Note) (answered : List Answered) (count : ℕ) → length blank ≡ count → Lists (λ job. job < count) (job_numbers answered)
    → (map : Map) (standing : Standing) (report : Report) (jobs : List Request) → length jobs ≡ count → AnswerTheirJobs map standing report jobs answered
    → AreNotes map standing report jobs (placed note_of blank answered)
unfolding IsNote
placed_notes blank answered count wide lists map standing report jobs many answers =
    (notes_by_place map standing report jobs (placed note_of blank answered)).1
    (placed_right note_of (IsNote map standing report) blank answered count jobs wide lists many
    (λ k d inside. let one = answers k d inside in
    (one.0, (one.1.0, ((get_or answered k d).noted.answer, (one.1.1.answered, one.1.1.told))))))

-- and nothing goes out of the places
pub below_all : {T : Type 0} (blank : List T) (answered : List Answered) (count : ℕ) → length blank ≡ count → Lists (λ job. job < count) (job_numbers answered)
    → All (IsBelow (length blank)) answered
below_all blank answered count wide lists k d inside =
    let at : Answered = get_or answered k d in
    let below : at.job < count = lists.each at.job (Contains-map (λ (one : Answered). one.job) answered at (Contains-get_or answered k d inside)) in
    omega (arith, below, wide)
