-- The notes of a turn's requests, one after another.
use Rattle.std.proofs.Common.{ℕ, ◌+◌, ◌<◌, List, [], ◌∷◌, ◌++◌, length, take, get_or, sym, subst}
use Rattle.std.proofs.lemmas.List.{take_more}
use Rattle.posts.specs.Maps.{Map}
use Rattle.posts.specs.declared.posts.Request.{Request}
use Rattle.posts.specs.declared.notes.Note.{Note}
use Rattle.posts.specs.declared.notes.Report.{Report}
use Rattle.turn_core.specs.Words.{Standing}
use Rattle.posts.specs.declared.notes.Noted.{Noted}
use Rattle.turn_core.specs.Notes.{IsNote, IsNotedTo, AreNotes}

-- one note more
notes_end : (m : Map) (s : Standing) (report : Report) (requests : List Request) (notes : List Note) (request : Request) (note : Note)
    → AreNotes m s report requests notes → IsNote m s report request note → AreNotes m s report (requests ++ request ∷ []) (notes ++ note ∷ [])
notes_end m s report [] [] request note are is = (is, tt)
notes_end m s report [] (other ∷ notes) request note are is = absurd are
notes_end m s report (first ∷ requests) [] request note are is = absurd are
notes_end m s report (first ∷ requests) (other ∷ notes) request note are is = (are.0, notes_end m s report requests notes request note are.1 is)

-- the notes of the first of the requests, and one more
pub notes_next : (m : Map) (s : Standing) (report : Report) (requests : List Request) (notes : List Note) (i : ℕ) (request : Request) (note : Note) → i < length requests
    → AreNotes m s report (take i requests) notes → IsNote m s report (get_or requests i request) note
    → AreNotes m s report (take (i + 1) requests) (notes ++ note ∷ [])
notes_next m s report requests notes i request note lt are is =
    subst (λ (rs : List Request). AreNotes m s report rs (notes ++ note ∷ [])) (sym (take_more requests i request lt))
    (notes_end m s report (take i requests) notes (get_or requests i request) note are is)

-- the note of an answer with its note
pub note_of : (m : Map) (s : Standing) (report : Report) (request : Request) (noted : Noted) → IsNotedTo m s report request noted → IsNote m s report request noted.note
unfolding IsNote
note_of m s report request noted is = (noted.answer, (is.answered, is.told))
