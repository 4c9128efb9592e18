-- The replies in delivered turns, caller by caller.
use Rattle.std.proofs.Common.{◌≡◌, ℕ, zero, suc, List, [], ◌∷◌, ◌++◌, None}
use Rattle.std.proofs.Common.{refl, sym, ap, ◌∙◌, append_assoc, append-nil}
use Rattle.std.specs.Prelude.{slice_get}
use Rattle.posts.specs.declared.replies.Reply.{Reply}
use Rattle.posts.specs.Callers.{list_of}
use Rattle.turn_model.specs.declared.machines.delivered.DeliveredTurn.{DeliveredTurn}
use Rattle.path_service.specs.machine.Effects.{joined_up}
use Rattle.turn_model.specs.inner.Runs.{gathered, replies_to}
use Rattle.path_service.proofs.machine.CallerLists.{joined_up_at}

-- no list stands at a place past the end
pub no_list : {A : Type 0} (xs : List (List A)) (c : ℕ) → slice_get xs c ≡ None → [] ≡ list_of xs c
no_list [] c e = refl
no_list (x ∷ xs) zero e = cc
no_list (x ∷ xs) (suc c) e = no_list xs c e

-- the lists of a caller with what delivered turns add to it
pub gathered_at : (lists : List (List Reply)) (ds : List DeliveredTurn) (c : ℕ) → list_of (gathered lists ds) c ≡ list_of lists c ++ replies_to c ds
gathered_at lists [] c = sym (append-nil (list_of lists c))
gathered_at lists (d ∷ ds) c =
    gathered_at (joined_up lists d.replies) ds c
    ∙ ap (λ (l : List Reply). l ++ replies_to c ds) (joined_up_at lists d.replies c)
    ∙ append_assoc (list_of lists c) (list_of d.replies c) (replies_to c ds)

pub gathered_push : (lists : List (List Reply)) (ds : List DeliveredTurn) (d : DeliveredTurn) → gathered lists (ds ++ d ∷ []) ≡ joined_up (gathered lists ds) d.replies
gathered_push lists [] d = refl
gathered_push lists (e ∷ ds) d = gathered_push (joined_up lists e.replies) ds d
