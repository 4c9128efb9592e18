-- All shapes fit after edits.
use Rattle.std.proofs.Common.{◌≡◌, ◌==◌, ℕ, ℤ, Bool, true, false, not, cond, List, [], ◌∷◌, Option, None, Some, IsSomeAnd, refl, ap}
use Rattle.std.proofs.lemmas.Bool.{false_from_ne_true}
use Rattle.std.specs.FinMap as fin_map
use Rattle.obstruction_shapes.specs.declared.shapes.Obstruction.{Obstruction}
use Rattle.obstruction_shapes.specs.Shapes.{FitsMap, moved_to}
use Rattle.obstruction_store.specs.Standing.{Standing, AllFit, moved, with_placed}
use Rattle.obstruction_store.proofs.Fitting.{AllFit-insert, AllFit-remove, AllFit-moved}
use Rattle.posts.specs.declared.edits.Edit.{Edit}
use Rattle.posts.specs.declared.edits.Edit.TheVariants.{Add, Remove, Move}
use Rattle.posts.specs.declared.edits.EditReply.{EditReply}
use Rattle.posts.specs.declared.edits.EditReply.TheVariants.{Added, Removed, Moved, Refused}
use Rattle.posts.specs.declared.edits.Refusal.TheVariants.{BadShape, DuplicateId, StoreFull, UnknownId}
use Rattle.posts.specs.Maps.{Map}
use Rattle.posts.specs.Edits.{is_refused}
use Rattle.grid_versions.specs.Fitting.{fits}
use Rattle.grid_versions.specs.Editing.{edit_reply, after_edit, after_edits, move_reply}
use Rattle.grid_versions.proofs.FittingLemmas.{fits_decides}

-- what an add leaves is what stood, or what stands with a shape that fits
pub after_add : (P : Standing → Type 0) (id : ℕ) (old new : Standing) (fit known full : Bool) → P old → (fit ≡ true → P new)
    → P (cond (is_refused (cond (not fit) (Refused BadShape) (cond known (Refused DuplicateId) (cond full (Refused StoreFull) (Added id))))) old new)
after_add P id old new false known full kept added = kept
after_add P id old new true true full kept added = kept
after_add P id old new true false true kept added = kept
after_add P id old new true false false kept added = added refl

pub after_remove : (P : Standing → Type 0) (id : ℕ) (old new : Standing) (known : Bool) → P old → P new
    → P (cond (is_refused (cond known (Removed id) (Refused UnknownId))) old new)
after_remove P id old new true kept removed = removed
after_remove P id old new false kept removed = kept

after_fit_move : (P : Standing → Type 0) (id : ℕ) (old new : Standing) (fit : Bool) → P old → (fit ≡ true → P new)
    → P (cond (is_refused (cond fit (Moved id) (Refused BadShape))) old new)
after_fit_move P id old new true kept placed = placed refl
after_fit_move P id old new false kept placed = kept

pub after_move : (P : Standing → Type 0) (map : Map) (old : Standing) (id : ℕ) (x z : ℤ) (found : Option Obstruction) → P old
    → (IsSomeAnd found (λ obstruction. FitsMap map.size (moved_to obstruction.shape x z)) → P (with_placed old id x z found))
    → P (cond (is_refused (move_reply map found id x z)) old (with_placed old id x z found))
after_move P map old id x z None kept placed = kept
after_move P map old id x z (Some found) kept placed =
    after_fit_move P id old (with_placed old id x z (Some found)) (fits map.size (moved_to found.shape x z)) kept
    (λ fit. placed ((fits_decides map.size (moved_to found.shape x z)).0 fit))

pub AllFit-after_edit : (map : Map) (standing : Standing) (edit : Edit) → AllFit map.size standing → AllFit map.size (after_edit map standing edit)
AllFit-after_edit map standing (Add id obstruction) all =
    after_add (AllFit map.size) id standing (fin_map.insert standing id obstruction)
    (fits map.size obstruction.shape) (fin_map.contains_key standing id) (fin_map.len standing == 65536) all
    (λ fit. AllFit-insert map.size standing id obstruction all ((fits_decides map.size obstruction.shape).0 fit))
AllFit-after_edit map standing (Remove id) all =
    after_remove (AllFit map.size) id standing (fin_map.remove standing id) (fin_map.contains_key standing id) all (AllFit-remove map.size standing id all)
AllFit-after_edit map standing (Move id x z) all =
    after_move (AllFit map.size) map standing id x z (fin_map.get standing id) all (AllFit-moved map.size standing id x z all)

pub AllFit-after_edits : (map : Map) (standing : Standing) (edits : List Edit) → AllFit map.size standing → AllFit map.size (after_edits map standing edits)
AllFit-after_edits map standing [] all = all
AllFit-after_edits map standing (edit ∷ edits) all = AllFit-after_edits map (after_edit map standing edit) edits (AllFit-after_edit map standing edit all)

-- ---- the reply to a move

move_fits : (map : Map) (found : Option Obstruction) (id : ℕ) (x z : ℤ) → IsSomeAnd found (λ obstruction. FitsMap map.size (moved_to obstruction.shape x z))
    → move_reply map found id x z ≡ Moved id
move_fits map None id x z is = absurd is
move_fits map (Some found) id x z is =
    let shape = moved_to found.shape x z in
    ap (λ b. let r : EditReply = cond b (Moved id) (Refused BadShape) in r) ((fits_decides map.size shape).1 is)

move_does_not_fit : (map : Map) (found : Option Obstruction) (id : ℕ) (x z : ℤ) → IsSomeAnd found (λ obstruction. ¬ FitsMap map.size (moved_to obstruction.shape x z))
    → move_reply map found id x z ≡ Refused BadShape
move_does_not_fit map None id x z is = absurd is
move_does_not_fit map (Some found) id x z is =
    let shape = moved_to found.shape x z in
    ap (λ b. let r : EditReply = cond b (Moved id) (Refused BadShape) in r) (false_from_ne_true (fits map.size shape) (λ yes. is ((fits_decides map.size shape).0 yes)))

module _ (map : Map) (standing : Standing) (id : ℕ) (x z : ℤ) where
  pub reply_to_move : IsSomeAnd (fin_map.get standing id) (λ obstruction. FitsMap map.size (moved_to obstruction.shape x z))
      → edit_reply map standing (Move id x z) ≡ Moved id
  reply_to_move is = move_fits map (fin_map.get standing id) id x z is

  pub edited_by_move : IsSomeAnd (fin_map.get standing id) (λ obstruction. FitsMap map.size (moved_to obstruction.shape x z))
      → after_edit map standing (Move id x z) ≡ moved standing id x z
  edited_by_move is = ap (λ r. cond (is_refused r) standing (moved standing id x z)) (reply_to_move is)

  pub reply_to_bad_move : IsSomeAnd (fin_map.get standing id) (λ obstruction. ¬ FitsMap map.size (moved_to obstruction.shape x z))
      → edit_reply map standing (Move id x z) ≡ Refused BadShape
  reply_to_bad_move is = move_does_not_fit map (fin_map.get standing id) id x z is

  pub edited_by_bad_move : IsSomeAnd (fin_map.get standing id) (λ obstruction. ¬ FitsMap map.size (moved_to obstruction.shape x z))
      → after_edit map standing (Move id x z) ≡ standing
  edited_by_bad_move is = ap (λ r. cond (is_refused r) standing (moved standing id x z)) (reply_to_bad_move is)
