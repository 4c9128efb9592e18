-- A request has one note under a report on a map with what stands on it.
use Rattle.std.proofs.Common.{◌≡◌, ℕ, ℤ, Bool, true, false, List, [], ◌∷◌, Option, Some, None, Result, Ok, Err, All, inl, inr, refl, ap, sym, ◌∙◌, subst}
use Rattle.std.specs.Prelude.{◌↔◌, length, slice_get}
use Rattle.std.proofs.lemmas.List.Elements.{All-cons, All-nil}
use Rattle.nav_types.specs.declared.cells.Cell.{Cell}
use Rattle.nav_types.specs.declared.cells.Rect.{Rect}
use Rattle.nav_types.specs.declared.cells.Size.{Size}
use Rattle.nav_types.specs.Counting.{Counts}
use Rattle.nav_types.proofs.Counting.{Counts-unique}
use Rattle.goal_shapes.specs.declared.goals.Goal.{Goal}
use Rattle.goal_reach.specs.declared.targets.Target.{Target}
use Rattle.goal_reach.specs.Targets.{hit_by, framed_by, AreTargets}
use Rattle.goal_reach.proofs.Targeting.{one_target}
use Rattle.jump_search.specs.JumpStates.{IsOpened}
use Rattle.jump_search.proofs.Framing.{one_frame}
use Rattle.flow_field.proofs.SameFields.{one_next, one_summary}
use Rattle.line_smooth.proofs.BestPlaces.{one_smoothing}
use Rattle.posts.specs.Maps.{Map}
use Rattle.posts.specs.declared.edits.Refusal.{Refusal}
use Rattle.posts.specs.declared.edits.Refusal.TheVariants.{UnknownClass, StartOutside}
use Rattle.grid_versions.specs.Passing.{passable_at}
use Rattle.posts.specs.declared.notes.Note.{Note}
use Rattle.posts.specs.declared.notes.FlowLine.{FlowLine}
use Rattle.posts.specs.declared.notes.Note.TheVariants.{Nothing, Opened, Flow, Smoothed}
use Rattle.posts.specs.declared.notes.Report.{Report}
use Rattle.posts.specs.declared.notes.Report.TheVariants.{Answers, OpenedNumbers, Flows, Smoothed as SmoothedPaths}
use Rattle.posts.specs.declared.posts.PathRequest.{PathRequest}
use Rattle.posts.specs.declared.posts.Request.{Request}
use Rattle.posts.specs.declared.posts.Request.TheVariants.{Path as AsksPath, Region as AsksRegion}
use Rattle.posts.specs.declared.replies.PathAnswer.{PathAnswer}
use Rattle.posts.specs.declared.replies.Answer.{Answer}
use Rattle.posts.specs.declared.replies.Answer.TheVariants.{Refused, Nowhere, Path as IsPath, Region as IsRegion}
use Rattle.turn_core.specs.Words.{Standing}
use Rattle.turn_core.specs.Solving.{IsPathAnswer, IsPathFound, IsAnswerAt, IsAnswerTo, AreAnswersTo}
use Rattle.turn_core.specs.NamedGoals.{class_named, is_on_map, goal_found}
use Rattle.turn_core.specs.Notes.{IsOpenedNumber, IsFlowLine, IsTold, tells, says, IsNoteTo, IsPathNote, IsNoteOf, IsNote, AreNotes}
use Rattle.turn_core.proofs.Itemwise.{IsItemwise, itemwise_by_place, itemwise_unique}
use Rattle.turn_core.proofs.OneAnswer.{one_answer_to}

one_opened : (passes : Cell → Bool) (size : Size) (target : Target) (path : PathAnswer) (m n : ℕ)
    → IsOpenedNumber passes size target path m → IsOpenedNumber passes size target path n → m ≡ n
one_opened passes size target path m n p q =
    let box : p.box ≡ q.box = one_frame (framed_by target) size p.box q.box p.frame q.frame in
    Counts-unique (IsOpened passes (hit_by target) path.start q.box path.cost.0) m n
    (subst (λ (r : Rect). Counts (IsOpened passes (hit_by target) path.start r path.cost.0) m) box p.counted) q.counted

same_line : (a b : FlowLine) → a.first ≡ b.first → a.summary ≡ b.summary → a ≡ b
same_line a b first summary =
    ap (λ f. record { first = f; summary = a.summary }) first ∙ ap (λ s. record { first = b.first; summary = s }) summary

one_line : (passes hit : Cell → Bool) (start : Cell) (a b : FlowLine) → IsFlowLine passes hit start a → IsFlowLine passes hit start b → a ≡ b
one_line passes hit start a b p q =
    same_line a b (one_next passes hit start start a.first b.first p.first q.first) (one_summary passes hit start a.summary b.summary p.summary q.summary)

one_told : (report : Report) (passes : Cell → Bool) (size : Size) (target : Target) (path : PathAnswer) (m n : Note)
    → IsTold report passes size target path m → IsTold report passes size target path n → m ≡ n
one_told Answers passes size target path m n p q = p ∙ sym q
one_told OpenedNumbers passes size target path m n p q =
    p.1.0 ∙ (ap (λ (opened : ℕ). Opened opened) (one_opened passes size target path p.0 q.0 p.1.1 q.1.1) ∙ sym q.1.0)
one_told Flows passes size target path m n p q =
    p.1.0 ∙ (ap (λ (line : FlowLine). Flow line) (one_line passes (hit_by target) path.start p.0 q.0 p.1.1 q.1.1) ∙ sym q.1.0)
one_told SmoothedPaths passes size target path m n p q =
    p.1.0 ∙ (ap (λ (points : List Cell). Smoothed points) (one_smoothing passes path.start path.waypoints p.0 q.0 p.1.1 q.1.1) ∙ sym q.1.0)

-- a note tells something of a path exactly where its report does
pub told_says : (report : Report) (passes : Cell → Bool) (size : Size) (target : Target) (path : PathAnswer) (note : Note)
    → IsTold report passes size target path note → tells report ≡ says note
told_says Answers passes size target path note told = ap says (sym told)
told_says OpenedNumbers passes size target path note told = ap says (sym told.1.0)
told_says Flows passes size target path note told = ap says (sym told.1.0)
told_says SmoothedPaths passes size target path note told = ap says (sym told.1.0)

one_to : (report : Report) (passes : Cell → Bool) (size : Size) (goal : Goal) (path : PathAnswer) (m n : Note)
    → IsNoteTo report passes size goal path m → IsNoteTo report passes size goal path n → m ≡ n
one_to report passes size goal path m n p q =
    let target : p.target ≡ q.target = one_target passes path.start goal p.target q.target p.targets q.targets in
    one_told report passes size q.target path m n (subst (λ (t : Target). IsTold report passes size t path m) target p.told) q.told

one_for : (map : Map) (standing : Standing) (report : Report) (request : PathRequest) (path : PathAnswer) (m n : Note)
    → IsPathNote map standing report request path m → IsPathNote map standing report request path n → m ≡ n
one_for map standing report request path m n p q =
    let one_class : class_named map request.class ≡ Some p.class = p.named in
    let other_class : class_named map request.class ≡ Some q.class = q.named in
    let class : p.class ≡ q.class = cc in
    let one_goal : goal_found map standing request.goal ≡ Ok p.goal = p.found in
    let other_goal : goal_found map standing request.goal ≡ Ok q.goal = q.found in
    let goal : p.goal ≡ q.goal = cc in
    let noted : IsNoteTo report (passable_at map standing q.class) map.size p.goal path m =
    subst (λ (c : ℕ). IsNoteTo report (passable_at map standing c) map.size p.goal path m) class p.noted in
    one_to report (passable_at map standing q.class) map.size q.goal path m n
    (subst (λ (g : Goal). IsNoteTo report (passable_at map standing q.class) map.size g path m) goal noted) q.noted

one_of : (map : Map) (standing : Standing) (report : Report) (request : Request) (answer : Answer) (m n : Note)
    → IsNoteOf map standing report request answer m → IsNoteOf map standing report request answer n → m ≡ n
one_of map standing report (AsksPath request) (IsPath path) m n p q = one_for map standing report request path m n p q
one_of map standing report (AsksPath request) (IsRegion region) m n p q = p ∙ sym q
one_of map standing report (AsksPath request) (Refused refusal) m n p q = p ∙ sym q
one_of map standing report (AsksPath request) Nowhere m n p q = p ∙ sym q
one_of map standing report (AsksRegion query) answer m n p q = p ∙ sym q

-- a request has one note
pub one_note_of : (map : Map) (standing : Standing) (report : Report) (request : Request) (a b : Note)
    → IsNote map standing report request a → IsNote map standing report request b → a ≡ b
unfolding IsNote
one_note_of map standing report request a b p q =
    let same : p.0 ≡ q.0 = one_answer_to map standing request p.0 q.0 p.1.0 q.1.0 in
    one_of map standing report request q.0 a b (subst (λ (answer : Answer). IsNoteOf map standing report request answer a) same p.1.1) q.1.1

notes_itemwise : (map : Map) (standing : Standing) (report : Report) → IsItemwise (IsNote map standing report) (AreNotes map standing report)
notes_itemwise map standing report = record {
  none = tt;
  fewer = λ x xs are. are;
  further = λ y ys are. are;
  both = λ x xs y ys. (λ are. are, λ are. are);
}

-- requests have one list of notes
pub one_list_of_notes : (map : Map) (standing : Standing) (report : Report) (requests : List Request) (a b : List Note)
    → AreNotes map standing report requests a → AreNotes map standing report requests b → a ≡ b
one_list_of_notes map standing report =
    itemwise_unique (IsNote map standing report) (AreNotes map standing report) (notes_itemwise map standing report) (one_note_of map standing report)

-- the notes of requests by place
pub notes_by_place : (map : Map) (standing : Standing) (report : Report) (requests : List Request) (notes : List Note)
    → AreNotes map standing report requests notes
    ↔ ((length notes ≡ length requests)
    × ((place : ℕ) (request : Request) (note : Note) → slice_get requests place ≡ Some request → slice_get notes place ≡ Some note
    → IsNote map standing report request note))
notes_by_place map standing report =
    itemwise_by_place (IsNote map standing report) (AreNotes map standing report) (notes_itemwise map standing report)

-- ---- the report of answers

nothing_told_of : (map : Map) (standing : Standing) (request : Request) (answer : Answer) (note : Note) → IsNoteOf map standing Answers request answer note → note ≡ Nothing
nothing_told_of map standing (AsksPath request) (IsPath path) note is = is.noted.told
nothing_told_of map standing (AsksPath request) (IsRegion region) note is = is
nothing_told_of map standing (AsksPath request) (Refused refusal) note is = is
nothing_told_of map standing (AsksPath request) Nowhere note is = is
nothing_told_of map standing (AsksRegion query) answer note is = is

-- a path that answers goes to a goal that is found, for a class of the map
path_asked : (passes : ℕ → Cell → Bool) (x z : ℤ) (named : Option ℕ) (on_map : Bool) (found : Result Goal Refusal) (path : PathAnswer)
    → IsAnswerAt named on_map (λ class. IsPathFound (passes class) x z found) (IsPath path)
    → (class : ℕ) × ((goal : Goal) × ((target : Target) × ((named ≡ Some class) × ((found ≡ Ok goal) × AreTargets (passes class) path.start goal target))))
path_asked passes x z None on_map found path is = let refused : IsPath path ≡ Refused UnknownClass = is in absurd (cc)
path_asked passes x z (Some class) false found path is = let refused : IsPath path ≡ Refused StartOutside = is in absurd (cc)
path_asked passes x z (Some class) true (Err refusal) path is = let refused : IsPath path ≡ Refused refusal = is in absurd (cc)
path_asked passes x z (Some class) true (Ok goal) path (inl nowhere) = let other : IsPath path ≡ Nowhere = nowhere.1 in absurd (cc)
path_asked passes x z (Some class) true (Ok goal) path (inr some_path) =
    let found : IsPath path ≡ IsPath some_path.0 = some_path.1.0 in
    let same : path ≡ some_path.0 = cc in
    let answer : IsPathAnswer (passes class) x z goal path = subst (λ (p : PathAnswer). IsPathAnswer (passes class) x z goal p) (sym same) some_path.1.1 in
    (class, (goal, (answer.target, (refl, (refl, answer.targets)))))

-- under the report of answers there is such a note
note_of_answer : (map : Map) (standing : Standing) (request : Request) (answer : Answer) → IsAnswerTo map standing request answer → IsNoteOf map standing Answers request answer Nothing
unfolding IsAnswerTo
note_of_answer map standing (AsksPath request) (IsPath path) is =
    let asked = path_asked (passable_at map standing) request.x request.z (class_named map request.class) (is_on_map map.size request.x request.z)
    (goal_found map standing request.goal) path is in
    record {
      class = asked.0;
      named = asked.1.1.1.0;
      goal = asked.1.0;
      found = asked.1.1.1.1.0;
      noted = record { target = asked.1.1.0; targets = asked.1.1.1.1.1; told = refl };
    }
note_of_answer map standing (AsksPath request) (IsRegion region) is = refl
note_of_answer map standing (AsksPath request) (Refused refusal) is = refl
note_of_answer map standing (AsksPath request) Nowhere is = refl
note_of_answer map standing (AsksRegion query) answer is = refl

-- answers alone have notes that tell nothing
pub answers_tell_nothing : (map : Map) (standing : Standing) (requests : List Request) (notes : List Note)
    → AreNotes map standing Answers requests notes → All (λ note. note ≡ Nothing) notes
unfolding IsNote
answers_tell_nothing map standing [] [] are = All-nil (λ (n : Note). n ≡ Nothing)
answers_tell_nothing map standing [] (note ∷ notes) are = absurd are
answers_tell_nothing map standing (request ∷ requests) [] are = absurd are
answers_tell_nothing map standing (request ∷ requests) (note ∷ notes) are =
    All-cons (λ (n : Note). n ≡ Nothing) note notes (nothing_told_of map standing request are.0.0 note are.0.1.1) (answers_tell_nothing map standing requests notes are.1)

-- and there are such notes
pub notes_of_answers : (map : Map) (standing : Standing) (requests : List Request) (answers : List Answer)
    → AreAnswersTo map standing requests answers → (notes : List Note) × AreNotes map standing Answers requests notes
unfolding IsNote
notes_of_answers map standing [] [] are = ([], tt)
notes_of_answers map standing [] (answer ∷ answers) are = absurd are
notes_of_answers map standing (request ∷ requests) [] are = absurd are
notes_of_answers map standing (request ∷ requests) (answer ∷ answers) are =
    let more = notes_of_answers map standing requests answers are.1 in
    (Nothing ∷ more.0, ((answer, (are.0, note_of_answer map standing request answer are.0)), more.1))
