-- Replies that answer a request, with their notes.
use Rattle.std.proofs.Common.{◌≡◌, ◌<◌, ℕ, ℤ, Bool, true, false, List, Option, Some, None, Result, Ok, Err, IfOk, is_some, length, refl, sym, ap, ◌∙◌, subst}
use Rattle.std.specs.Prelude.{◌↔◌, IsSome, position, bytes_eq}
use Rattle.std.proofs.lemmas.Bool.{false_from_ne_true}
use Rattle.nav_types.specs.declared.cells.Cell.{Cell}
use Rattle.nav_types.specs.declared.cells.Size.{Size}
use Rattle.nav_types.specs.declared.sequences.NoMemory.{NoMemory}
use Rattle.nav_types.specs.Cells.{IsInside}
use Rattle.fixed_point.specs.Plane.{IsOnAxis}
use Rattle.class_config.specs.declared.table.PassabilityClass.{PassabilityClass}
use Rattle.goal_shapes.specs.Goals.{HoldsPoint}
use Rattle.goal_shapes.specs.declared.goals.Goal.{Goal}
use Rattle.posts.specs.declared.edits.Refusal.{Refusal}
use Rattle.posts.specs.declared.edits.Refusal.TheVariants.{StartOutside}
use Rattle.posts.specs.declared.posts.PathRequest.{PathRequest}
use Rattle.posts.specs.declared.posts.Request.{Request}
use Rattle.posts.specs.declared.replies.Answer.{Answer}
use Rattle.posts.specs.declared.replies.Answer.TheVariants.{Refused}
use Rattle.posts.specs.Maps.{Map}
use Rattle.grid_versions.specs.Passing.{passable_at}
use Rattle.posts.specs.declared.notes.Note.{Note}
use Rattle.posts.specs.declared.notes.Noted.{Noted}
use Rattle.posts.specs.declared.notes.Report.{Report}
use Rattle.posts.specs.declared.replies.PathAnswer.{PathAnswer}
use Rattle.posts.specs.declared.replies.Answer.TheVariants.{Refused, Nowhere, Path as IsPath, Region as IsRegion}
use Rattle.turn_core.specs.Words.{Standing}
use Rattle.turn_core.specs.NamedGoals.{class_named, is_on_map, goal_found}
use Rattle.turn_core.specs.Solving.{IsPathTo, IsPathFound, IsAnswerAt, IsAnswerTo}
use Rattle.turn_core.specs.Notes.{IsNoteTo, IsPathNote, IsNoteBy, IsNoteOf, IsNotedTo}
use Rattle.turn_core.specs.inner.Asked.{IsAskedAt}
use Rattle.turn_core.proofs.FoundGoals.{on_map_decides}

-- a point lies on the map exactly where some cell of it holds the point
on_map_held : (size : Size) (x z : ℤ) (holder : Option Cell) → (IsSome holder ↔ (IsOnAxis size.w x × IsOnAxis size.h z)) → is_on_map size x z ≡ is_some holder
on_map_held size x z (Some cell) holds = (on_map_decides size x z).1 (holds.0 refl)
on_map_held size x z None holds =
    false_from_ne_true (is_on_map size x z) (λ on. let both : false ≡ true = holds.1 ((on_map_decides size x z).0 on) in cc)

-- the same, by the size of the map as it is read
pub on_map_seen : (size seen : Size) (x z : ℤ) (holder : Option Cell) (held : Bool) → seen ≡ size → (IsSome holder ↔ (IsOnAxis seen.w x × IsOnAxis seen.h z))
    → is_some holder ≡ held → is_on_map size x z ≡ held
on_map_seen size seen x z holder held same holds is = ap (λ (s : Size). is_on_map s x z) (sym same) ∙ on_map_held seen x z holder holds ∙ is

-- the answer at a class that the map has and a point that lies on it
pub answered_at : (named : Option ℕ) (on_map : Bool) (Answers : ℕ → Answer → Type 0) (answer : Answer) (class : ℕ)
    → named ≡ Some class → on_map ≡ true → Answers class answer → IsAnswerAt named on_map Answers answer
answered_at named on_map Answers answer class has on is =
    subst (λ (n : Option ℕ). IsAnswerAt n on_map Answers answer) (sym has)
    (subst (λ (o : Bool). IsAnswerAt (Some class) o Answers answer) (sym on) is)

-- the same, where it comes with memory
pub answered_ok : (named : Option ℕ) (on_map : Bool) (Answers : ℕ → Answer → Type 0) (result : Result Noted NoMemory) (class : ℕ)
    → named ≡ Some class → on_map ≡ true → IfOk result (λ (noted : Noted). Answers class noted.answer)
    → IfOk result (λ (noted : Noted). IsAnswerAt named on_map Answers noted.answer)
answered_ok named on_map Answers (Ok noted) class has on is = answered_at named on_map Answers noted.answer class has on is
answered_ok named on_map Answers (Err refused) class has on is = tt

-- what is asked at a point of the map
pub asked_on_map : (map : Map) (name : List ℕ) (x z : ℤ) (class : ℕ) (cell : Cell) → IsAskedAt map name x z class cell → is_on_map map.size x z ≡ true
asked_on_map map name x z class cell asked = (on_map_decides map.size x z).1 (asked.column, asked.row)

-- the class of a name, by the classes as they are read
pub class_seen : (map : Map) (name : List ℕ) (classes : List PassabilityClass) (class : ℕ) → classes ≡ map.classes
    → Some class ≡ position (λ known. bytes_eq known.name name) classes → class_named map name ≡ Some class
class_seen map name classes class same found = sym (found ∙ ap (λ (cs : List PassabilityClass). position (λ known. bytes_eq known.name name) cs) same)

-- what is named on a map, as it is read
pub asked_seen : (map : Map) (name : List ℕ) (x z : ℤ) (classes : List PassabilityClass) (size : Size) (class : ℕ) (cell : Cell)
    → classes ≡ map.classes → size ≡ map.size → Some class ≡ position (λ known. bytes_eq known.name name) classes → class < length classes
    → IsOnAxis size.w x × IsOnAxis size.h z → HoldsPoint x z cell → IsInside size cell → IsAskedAt map name x z class cell
asked_seen map name x z classes size class cell same side found known on holder inside = record {
  named = class_seen map name classes class same found;
  known = subst (λ (cs : List PassabilityClass). class < length cs) same known;
  column = subst (λ (s : Size). IsOnAxis s.w x) side on.0;
  row = subst (λ (s : Size). IsOnAxis s.h z) side on.1;
  holder = holder;
  inside = subst (λ (s : Size). IsInside s cell) side inside;
}

-- the refusal at a point that does not lie on the map
pub outside_at : (named : Option ℕ) (on_map : Bool) (Answers : ℕ → Answer → Type 0) (class : ℕ)
    → named ≡ Some class → on_map ≡ false → IsAnswerAt named on_map Answers (Refused StartOutside)
outside_at named on_map Answers class has off =
    let answer : Answer = Refused StartOutside in
    subst (λ (n : Option ℕ). IsAnswerAt n on_map Answers answer) (sym has)
    (subst (λ (o : Bool). IsAnswerAt (Some class) o Answers answer) (sym off) refl)

-- the answer to a path to a goal that is found
pub found_ok : (passes : Cell → Bool) (x z : ℤ) (goal : Goal) (found : Result Goal Refusal) (result : Result Noted NoMemory)
    → Ok goal ≡ found → IfOk result (λ (noted : Noted). IsPathTo passes x z goal noted.answer)
    → IfOk result (λ (noted : Noted). IsPathFound passes x z found noted.answer)
found_ok passes x z goal found result is answers =
    subst (λ (f : Result Goal Refusal). IfOk result (λ (noted : Noted). IsPathFound passes x z f noted.answer)) is answers

-- the answer to a path to a goal that is refused
pub found_err : (passes : Cell → Bool) (x z : ℤ) (refusal : Refusal) (found : Result Goal Refusal) → Err refusal ≡ found → IsPathFound passes x z found (Refused refusal)
found_err passes x z refusal found is =
    let answer : Answer = Refused refusal in
    subst (λ (f : Result Goal Refusal). IsPathFound passes x z f answer) is refl

-- ---- notes

-- a note of an answer by another relation to its path
note_by : (IsOne IsOther : PathAnswer → Note → Type 0) (answer : Answer) (note : Note)
    → ((path : PathAnswer) → IsOne path note → IsOther path note) → IsNoteBy IsOne answer note → IsNoteBy IsOther answer note
note_by IsOne IsOther (IsPath path) note other is = other path is
note_by IsOne IsOther (IsRegion region) note other is = is
note_by IsOne IsOther (Refused refusal) note other is = is
note_by IsOne IsOther Nowhere note other is = is

-- the note of a path of the class and to the goal that a request names
pub note_for : (map : Map) (standing : Standing) (report : Report) (request : PathRequest) (class : ℕ) (goal : Goal) (result : Result Noted NoMemory)
    → class_named map request.class ≡ Some class → Ok goal ≡ goal_found map standing request.goal
    → IfOk result (λ (noted : Noted). IsNoteBy (IsNoteTo report (passable_at map standing class) map.size goal) noted.answer noted.note)
    → IfOk result (λ (noted : Noted). IsNoteBy (IsPathNote map standing report request) noted.answer noted.note)
note_for map standing report request class goal (Err refused) named found is = tt
note_for map standing report request class goal (Ok noted) named found is =
    note_by (IsNoteTo report (passable_at map standing class) map.size goal) (IsPathNote map standing report request) noted.answer noted.note
    (λ path told. record { class = class; named = named; goal = goal; found = sym found; noted = told }) is

-- an answer with its note
pub noted_ok : (map : Map) (standing : Standing) (report : Report) (request : Request) (result : Result Noted NoMemory)
    → IfOk result (λ (noted : Noted). IsAnswerTo map standing request noted.answer)
    → IfOk result (λ (noted : Noted). IsNoteOf map standing report request noted.answer noted.note)
    → IfOk result (IsNotedTo map standing report request)
noted_ok map standing report request (Ok noted) answer note = record { answered = answer; told = note }
noted_ok map standing report request (Err refused) answer note = tt
