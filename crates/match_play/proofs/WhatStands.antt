-- What every journal leaves: shapes that fit, no more obstructions than may stand, and adds that have lines.
use Rattle.std.proofs.Common.{◌≡◌, ◌≢◌, ℕ, ℤ, ◌+◌, ◌-◌, ◌≤◌, ◌==◌, Bool, true, false, not, cond, List, [], ◌∷◌, Option, None, Some, is_some, refl, ap, ◌∙◌, arith}
use Rattle.std.proofs.lemmas.Bool.{eqb-false}
use Rattle.std.specs.Cmp.{nat_cmp_total}
use Rattle.std.specs.Ordering.{nat_cmp}
use Rattle.std.specs.FinMap as fin_map
use Rattle.obstruction_shapes.specs.declared.shapes.Obstruction.{Obstruction}
use Rattle.obstruction_shapes.specs.Shapes.{moved_to}
use Rattle.obstruction_store.specs.Standing.{Standing, AllFit, with_placed}
use Rattle.obstruction_store.proofs.Fitting.{AllFit-empty}
use Rattle.posts.specs.declared.edits.Edit.{Edit}
use Rattle.posts.specs.declared.edits.Edit.TheVariants.{Add, Remove, Move}
use Rattle.posts.specs.declared.edits.EditReply.TheVariants.{Added, Refused}
use Rattle.posts.specs.declared.edits.Refusal.TheVariants.{BadShape, DuplicateId, StoreFull}
use Rattle.posts.specs.declared.posts.Post.{Post}
use Rattle.posts.specs.declared.posts.Post.TheVariants.{Edit as Edits, Ask as Asks}
use Rattle.posts.specs.Maps.{Map}
use Rattle.posts.specs.Edits.{is_refused}
use Rattle.grid_versions.specs.Fitting.{fits}
use Rattle.grid_versions.specs.Editing.{after_edit}
use Rattle.grid_versions.proofs.EditingLemmas.{AllFit-after_edit, after_remove, after_move}
use Rattle.turn_core.specs.Words.{edited, bare}
use Rattle.turn_core.specs.Turns.{after, after_turn, standing}
use Rattle.match_play.specs.Saved.{saved}
use Rattle.match_play.proofs.SavedMaps.{after_first, adds_make}

-- what an add leaves: what stood, or one more where there was room
pub after_add : (P : Standing → Type 0) (id : ℕ) (old new : Standing) (fit known full : Bool) → P old → (full ≡ false → P new)
    → P (cond (is_refused (cond (not fit) (Refused BadShape) (cond known (Refused DuplicateId) (cond full (Refused StoreFull) (Added id))))) old new)
after_add P id old new false known full kept added = kept
after_add P id old new true true full kept added = kept
after_add P id old new true false true kept added = kept
after_add P id old new true false false kept added = added refl

at_most_one_more : (known : Bool) (n : ℕ) → cond known n (n + 1) ≤ n + 1
at_most_one_more true n = omega arith
at_most_one_more false n = omega arith

no_more : (known : Bool) (n : ℕ) → cond known (n - 1) n ≤ n
no_more true n = omega arith
no_more false n = omega arith

few_placed : (s : Standing) (id : ℕ) (x z : ℤ) (found : Option Obstruction) → fin_map.get s id ≡ found → fin_map.len s ≤ 65536
    → fin_map.len (with_placed s id x z found) ≤ 65536
few_placed s id x z None is few = few
few_placed s id x z (Some found) is few =
    let size = fin_map.len-insert nat_cmp_total s id (record found { shape = moved_to found.shape x z }) ∙ ap (λ o. cond (is_some o) (fin_map.len s) (fin_map.len s + 1)) is in
    omega (arith, size, few)

few_edited : (m : Map) (s : Standing) (edit : Edit) → fin_map.len s ≤ 65536 → fin_map.len (after_edit m s edit) ≤ 65536
few_edited m s (Add id o) few =
    after_add (λ t. fin_map.len t ≤ 65536) id s (fin_map.insert s id o) (fits m.size o.shape) (fin_map.contains_key s id) (fin_map.len s == 65536) few
    (λ free.
    let apart : fin_map.len s ≢ 65536 = eqb-false (fin_map.len s) 65536 free in
    let size = fin_map.len-insert nat_cmp_total s id o in
    let most = at_most_one_more (fin_map.contains_key s id) (fin_map.len s) in
    omega (arith, apart, size, most, few))
few_edited m s (Remove id) few =
    let size = fin_map.len-remove nat_cmp_total s id in
    let most = no_more (fin_map.contains_key s id) (fin_map.len s) in
    after_remove (λ t. fin_map.len t ≤ 65536) id s (fin_map.remove s id) (fin_map.contains_key s id) few (omega (arith, size, most, few))
few_edited m s (Move id x z) few =
    after_move (λ t. fin_map.len t ≤ 65536) m s id x z (fin_map.get s id) few (λ is. few_placed s id x z (fin_map.get s id) refl few)

-- ---- all journals

-- what an edit keeps, posts, turns and journals keep
module _ (P : Standing → Type 0) (m : Map) (keeps : (s : Standing) (edit : Edit) → P s → P (after_edit m s edit)) where
  post_keeps : (s : Standing) (post : Post) → P s → P (edited m s post)
  unfolding edited
  post_keeps s (Edits edit) is = keeps s edit is
  post_keeps s (Asks request) is = is

  posts_keep : (s : Standing) (posts : List Post) → P s → P (after m s posts)
  posts_keep s [] is = is
  posts_keep s (post ∷ posts) is = posts_keep (edited m s post) posts (post_keeps s post is)

  turn_keeps : (s : Standing) (turn : List (List Post)) → P s → P (after_turn m s turn)
  turn_keeps s [] is = is
  turn_keeps s (posts ∷ turn) is = turn_keeps (after m s posts) turn (posts_keep s posts is)

  journal_keeps : (s : Standing) (journal : List (List (List Post))) → P s → P (standing m s journal)
  journal_keeps s [] is = is
  journal_keeps s (turn ∷ journal) is = journal_keeps (after_turn m s turn) journal (turn_keeps s turn is)

pub all_fit : (m : Map) (journal : List (List (List Post))) → AllFit m.size (standing m bare journal)
unfolding bare
all_fit m journal = journal_keeps (AllFit m.size) m (λ s edit is. AllFit-after_edit m s edit is) fin_map.empty journal (AllFit-empty m.size)

pub few_stand : (m : Map) (journal : List (List (List Post))) → fin_map.len (standing m bare journal) ≤ 65536
unfolding bare
few_stand m journal =
    let none = fin_map.len-empty nat_cmp Obstruction in
    journal_keeps (λ s. fin_map.len s ≤ 65536) m (λ s edit is. few_edited m s edit is) fin_map.empty journal (omega (arith, none))

-- one turn of adds leaves what stands
pub saved_stands : (m : Map) (journal : List (List (List Post))) → 1 ≤ m.callers
    → standing m bare (saved m (standing m bare journal)) ≡ standing m bare journal
unfolding bare
saved_stands m journal some =
    let whole : Standing = standing m bare journal in
    after_first m fin_map.empty m.callers _ some ∙ adds_make m whole (all_fit m journal) (few_stand m journal)
