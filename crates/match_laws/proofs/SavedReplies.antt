-- What the adds of a saved match are answered.
use Rattle.std.proofs.Common.{◌≡◌, ℕ, zero, suc, ◌≤◌, ◌==◌, Bool, true, false, not, cond, List, [], ◌∷◌, ◌++◌, map, refl, sym, ap, subst, ◌∙◌, arith, append_assoc, append-nil}
use Rattle.std.specs.FinMap as fin_map
use Rattle.obstruction_store.specs.Standing.{Standing, AllFit}
use Rattle.posts.specs.declared.edits.EditReply.TheVariants.{Added, Refused}
use Rattle.posts.specs.declared.edits.Refusal.TheVariants.{BadShape, DuplicateId, StoreFull}
use Rattle.posts.specs.declared.posts.Post.{Post}
use Rattle.posts.specs.declared.replies.Reply.{Reply}
use Rattle.posts.specs.declared.replies.Reply.TheVariants.{Edit as Edited}
use Rattle.posts.specs.declared.replies.TurnReplies.{TurnReplies}
use Rattle.posts.specs.Maps.{Map}
use Rattle.posts.specs.Callers.{of_caller}
use Rattle.grid_versions.specs.Fitting.{fits}
use Rattle.turn_core.specs.Words.{bare}
use Rattle.turn_core.specs.Turns.{standing, after_turn, AreReplies, AreTurnReplies, OneThread, replies_in, IsOneThread}
use Rattle.match_play.specs.Saved.{add_of, adds_of, turn_by_first, saved}
use Rattle.match_laws.specs.SavedMatches.{added_to}
use Rattle.match_play.proofs.SavedMaps.{Entry, next_goes, entry_added, entries_next, no_entries}
use Rattle.match_play.proofs.WhatStands.{all_fit, few_stand}

add_told : (id : ℕ) (fit known full : Bool) → fit ≡ true → known ≡ false → full ≡ false
    → cond (not fit) (Refused BadShape) (cond known (Refused DuplicateId) (cond full (Refused StoreFull) (Added id))) ≡ Added id
add_told id true true full p q r = absurd (cc)
add_told id true false true p q r = absurd (cc)
add_told id true false false p q r = refl
add_told id false known full p q r = absurd (cc)

one_more : (reply first : Reply) (replies rest : List Reply) → reply ≡ first → replies ≡ rest → reply ∷ replies ≡ first ∷ rest
one_more reply first replies rest p q = cc

module _ (m : Map) (whole final : Standing) (all : AllFit m.size whole) (few : fin_map.len whole ≤ 65536) where
  adds_told : (front back : List Entry) (s : Standing) (replies : List Reply) → fin_map.entries whole ≡ front ++ back → fin_map.entries s ≡ front
      → AreReplies m final s (map add_of back) replies → replies ≡ map added_to back
  adds_told front [] s [] w is are = refl
  adds_told front [] s (reply ∷ replies) w is are = absurd are
  adds_told front (e ∷ back) s [] w is are = absurd are
  adds_told front (e ∷ back) s (reply ∷ replies) w is are =
      let goes = next_goes m whole all few front e back s w is in
      let told = add_told e.0 (fits m.size e.1.shape) (fin_map.contains_key s e.0) (fin_map.len s == 65536) goes.fit goes.free goes.room in
      let rest = subst (λ (t : Standing). AreReplies m final t (map add_of back) replies) (entry_added m whole all few front e back s w is) are.1 in
      one_more reply (added_to e) replies (map added_to back) (are.0 ∙ ap Edited told)
      (adds_told (front ++ e ∷ []) back (fin_map.insert s e.0 e.1) replies (w ∙ sym (append_assoc front (e ∷ []) back))
      (entries_next m whole all few front e back s w is) rest)

first_told : (m : Map) (whole : Standing) (callers : ℕ) (all : AllFit m.size whole) (few : fin_map.len whole ≤ 65536) (told : List TurnReplies) → 1 ≤ callers
    → OneThread m fin_map.empty (turn_by_first callers (adds_of whole) ∷ []) (replies_in told)
    → of_caller 0 (replies_in told) ≡ map added_to (fin_map.entries whole)
first_told m whole zero all few told some thread = absurd (omega (arith, some))
first_told m whole (suc others) all few [] some thread = absurd thread
first_told m whole (suc others) all few (turn ∷ next ∷ more) some thread = absurd thread.1
first_told m whole (suc others) all few (turn ∷ []) some thread = by_replies turn.replies thread.0
  where
    by_replies : (replies : List (List Reply))
        → AreTurnReplies m (after_turn m fin_map.empty (turn_by_first (suc others) (adds_of whole))) fin_map.empty (turn_by_first (suc others) (adds_of whole)) replies
        → of_caller 0 (replies ∷ []) ≡ map added_to (fin_map.entries whole)
    by_replies [] are = absurd are
    by_replies (own ∷ replies) are =
        append-nil own
        ∙ adds_told m whole (after_turn m fin_map.empty (turn_by_first (suc others) (adds_of whole))) all few [] (fin_map.entries whole) fin_map.empty own refl no_entries are.0

pub saved_told : (m : Map) (journal : List (List (List Post))) (again : List TurnReplies) → 1 ≤ m.callers
    → IsOneThread m (saved m (standing m bare journal)) again
    → of_caller 0 (replies_in again) ≡ map added_to (fin_map.entries (standing m bare journal))
unfolding bare
saved_told m journal again some thread =
    first_told m (standing m bare journal) m.callers (all_fit m journal) (few_stand m journal) again some thread.replies
