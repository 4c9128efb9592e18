-- The adds of what stands have lines, and their numbers fit their types, where the posts that led there did.
use Rattle.std.proofs.Common.{◌≡◌, ℕ, ℤ, zero, suc, ◌≤◌, ◌==◌, Bool, true, false, T, cond, All, IsTrue, List, [], ◌∷◌, ◌++◌, length, map, replicate, Option, None, Some, FitsSigned, refl, sym, ap, subst, ◌∙◌, arith, append_assoc}
use Rattle.std.specs.Int.{w32}
use Rattle.std.specs.List.{list_all}
use Rattle.std.proofs.lemmas.Bool.{and_from, and_parts, eqb-true}
use Rattle.std.proofs.lemmas.List.Elements.{All-nil, All-cons, All-head, All-tail, All-replicate}
use Rattle.std.proofs.lemmas.Option.{same_Some}
use Rattle.std.specs.Cmp.{nat_cmp_total, unsigned_tied}
use Rattle.std.specs.Ordering.{nat_cmp, eq_by_cmp}
use Rattle.std.specs.FinMap as fin_map
use Rattle.std.specs.FinMap.Entries.{find, is_sorted}
use Rattle.obstruction_shapes.specs.declared.shapes.Obstruction.{Obstruction}
use Rattle.obstruction_shapes.specs.declared.shapes.Shape.{Shape}
use Rattle.obstruction_shapes.specs.declared.shapes.Shape.TheVariants.{Unit as UnitShape, Square}
use Rattle.obstruction_shapes.specs.Shapes.{moved_to}
use Rattle.obstruction_store.specs.Standing.{Standing, with_placed}
use Rattle.posts.specs.declared.edits.Edit.{Edit}
use Rattle.posts.specs.declared.edits.Edit.TheVariants.{Add, Remove, Move}
use Rattle.posts.specs.declared.posts.Post.{Post}
use Rattle.posts.specs.declared.posts.Post.TheVariants.{Edit as Edits, Ask as Asks}
use Rattle.posts.specs.Maps.{Map}
use Rattle.grid_versions.specs.Fitting.{fits}
use Rattle.grid_versions.specs.Editing.{after_edit}
use Rattle.grid_versions.proofs.EditingLemmas.{after_remove, after_move}
use Rattle.turn_core.specs.Words.{edited, bare}
use Rattle.turn_core.specs.Turns.{after, after_turn, standing}
use Rattle.script_text.specs.Grammar.{shape_decimals}
use Rattle.script_text.specs.Canon.{is_post_of, HaveLines}
use Rattle.script_text.specs.Script.{no_posts}
use Rattle.script_text.specs.ReadsBack.{AreFixed, IsPostValue, ArePostValues, AreTurns}
use Rattle.match_play.specs.Saved.{add_of, adds_of, turn_by_first, saved}
use Rattle.match_play.proofs.SavedMaps.{found_there}
use Rattle.match_play.proofs.WhatStands.{after_add}

-- the post has a line in the version, and its numbers fit
abbrev IsWritable : ℕ → Post → Type 0
IsWritable version post = IsPostValue post × IsTrue (is_post_of version post)

-- all that stands can be written as adds
record AreWritable (version : ℕ) (s : Standing) : Type 0 where
  each : (number : ℕ) (o : Obstruction) → fin_map.get s number ≡ Some o → IsWritable version (Edits (Add number o))

-- ---- edits keep it

found_after_insert : {A : Type 0} (here : Bool) (value found : Obstruction) (before : Option Obstruction)
    → cond here (Some value) before ≡ Some found → (here ≡ true → value ≡ found → A) → (before ≡ Some found → A) → A
found_after_insert true value found before is now was = now refl (same_Some value found is)
found_after_insert false value found before is now was = was is

found_after_remove : (here : Bool) (found : Obstruction) (before : Option Obstruction)
    → cond here None before ≡ Some found → before ≡ Some found
found_after_remove true found before is = absurd (cc)
found_after_remove false found before is = is

writable_insert : (version : ℕ) (s : Standing) (id : ℕ) (o : Obstruction) → AreWritable version s
    → IsWritable version (Edits (Add id o)) → AreWritable version (fin_map.insert s id o)
writable_insert version s id o all is = record {
  each = λ number found e.
      found_after_insert {A = IsWritable version (Edits (Add number found))} (eq_by_cmp nat_cmp number id) o found (fin_map.get s number)
      (sym (fin_map.get-insert nat_cmp_total s id o number) ∙ e)
      (λ here same.
      let at : number ≡ id = eqb-true number id (sym (unsigned_tied number id) ∙ here) in
      subst (λ (n : ℕ). IsWritable version (Edits (Add n found))) (sym at)
      (subst (λ (p : Obstruction). IsWritable version (Edits (Add id p))) same is))
      (all.each number found);
}

writable_remove : (version : ℕ) (s : Standing) (id : ℕ) → AreWritable version s → AreWritable version (fin_map.remove s id)
writable_remove version s id all = record {
  each = λ number found e.
      all.each number found (found_after_remove (eq_by_cmp nat_cmp number id) found (fin_map.get s number) (sym (fin_map.get-remove nat_cmp_total s id number) ∙ e));
}

-- a shape at another place has other coordinates and the rest
moved_decimals : (shape : Shape) (x z : ℤ) → AreFixed (shape_decimals shape) → AreFixed (x ∷ z ∷ []) → AreFixed (shape_decimals (moved_to shape x z))
moved_decimals (UnitShape a b half) x z old new =
    let Fixed : ℤ → Type 0 = λ raw. FitsSigned w32 raw in
    All-cons Fixed x (z ∷ half ∷ []) (All-head Fixed x (z ∷ []) new)
    (All-cons Fixed z (half ∷ []) (All-head Fixed z [] (All-tail Fixed x (z ∷ []) new))
    (All-tail Fixed b (half ∷ []) (All-tail Fixed a (b ∷ half ∷ []) old)))
moved_decimals (Square r) x z old new =
    let Fixed : ℤ → Type 0 = λ raw. FitsSigned w32 raw in
    let rest : List ℤ = r.ux ∷ r.uz ∷ r.hw ∷ r.hh ∷ [] in
    All-cons Fixed x (z ∷ rest) (All-head Fixed x (z ∷ []) new)
    (All-cons Fixed z rest (All-head Fixed z [] (All-tail Fixed x (z ∷ []) new))
    (All-tail Fixed r.z rest (All-tail Fixed r.x (r.z ∷ rest) old)))

writable_placed : (version : ℕ) (s : Standing) (id : ℕ) (x z : ℤ) (found : Option Obstruction) → fin_map.get s id ≡ found
    → AreWritable version s → IsWritable version (Edits (Move id x z)) → AreWritable version (with_placed s id x z found)
writable_placed version s id x z None e all is = all
writable_placed version s id x z (Some o) e all is =
    let ((number, raws, mask), line) = all.each id o e in
    writable_insert version s id (record o { shape = moved_to o.shape x z }) all ((number, moved_decimals o.shape x z raws is.0.1, mask), line)

writable_edited : (m : Map) (version : ℕ) (s : Standing) (edit : Edit) → IsWritable version (Edits edit) → AreWritable version s
    → AreWritable version (after_edit m s edit)
writable_edited m version s (Add id o) is all =
    after_add (AreWritable version) id s (fin_map.insert s id o) (fits m.size o.shape) (fin_map.contains_key s id) (fin_map.len s == 65536) all
    (λ free. writable_insert version s id o all is)
writable_edited m version s (Remove id) is all =
    after_remove (AreWritable version) id s (fin_map.remove s id) (fin_map.contains_key s id) all (writable_remove version s id all)
writable_edited m version s (Move id x z) is all =
    after_move (AreWritable version) m s id x z (fin_map.get s id) all
    (λ fit. writable_placed version s id x z (fin_map.get s id) refl all is)

-- ---- and so do journals

module _ (m : Map) where
  writable_post : (s : Standing) (post : Post) → IsWritable m.version post → AreWritable m.version s → AreWritable m.version (edited m s post)
  unfolding edited
  writable_post s (Edits edit) is all = writable_edited m m.version s edit is all
  writable_post s (Asks request) is all = all

  writable_posts : (s : Standing) (posts : List Post) → All IsPostValue posts → list_all (is_post_of m.version) posts ≡ true
      → AreWritable m.version s → AreWritable m.version (after m s posts)
  writable_posts s [] values lines all = all
  writable_posts s (post ∷ posts) values lines all =
      let has = and_parts (is_post_of m.version post) (list_all (is_post_of m.version) posts) lines in
      writable_posts (edited m s post) posts (All-tail IsPostValue post posts values) has.1
      (writable_post s post (All-head IsPostValue post posts values, has.0) all)

  writable_turn : (s : Standing) (turn : List (List Post)) → ArePostValues turn → HaveLines m.version turn
      → AreWritable m.version s → AreWritable m.version (after_turn m s turn)
  writable_turn s [] values lines all = all
  writable_turn s (posts ∷ turn) values lines all =
      let Values : List Post → Type 0 = λ own. All IsPostValue own in
      let has = and_parts (list_all (is_post_of m.version) posts) (list_all (λ own. list_all (is_post_of m.version) own) turn) lines in
      writable_turn (after m s posts) turn (All-tail Values posts turn values) has.1
      (writable_posts s posts (All-head Values posts turn values) has.0 all)

  writable_journal : (s : Standing) (journal : List (List (List Post))) → All ArePostValues journal → All (HaveLines m.version) journal
      → AreWritable m.version s → AreWritable m.version (standing m s journal)
  writable_journal s [] values lines all = all
  writable_journal s (turn ∷ journal) values lines all =
      writable_journal (after_turn m s turn) journal (All-tail ArePostValues turn journal values) (All-tail (HaveLines m.version) turn journal lines)
      (writable_turn s turn (All-head ArePostValues turn journal values) (All-head (HaveLines m.version) turn journal lines) all)

none_writable : (version : ℕ) → AreWritable version fin_map.empty
none_writable version = record {
  each = λ number o e.
      let none = fin_map.get-empty {X = Obstruction} nat_cmp number in absurd (cc);
}

-- ---- the saved turn

record AreAdds (version : ℕ) (posts : List Post) : Type 0 where
  values : All IsPostValue posts
  lines : list_all (is_post_of version) posts ≡ true

adds_writable : (version : ℕ) (whole : Standing) → AreWritable version whole → (front back : List (ℕ × Obstruction))
    → fin_map.entries whole ≡ front ++ back → AreAdds version (map add_of back)
adds_writable version whole all front [] w = record { values = All-nil IsPostValue; lines = refl }
adds_writable version whole all front (e ∷ back) w =
    let sorted : T (is_sorted nat_cmp (front ++ e ∷ back)) = subst (λ (es : List (ℕ × Obstruction)). T (is_sorted nat_cmp es)) w (fin_map.entries_sorted whole) in
    let there : fin_map.get whole e.0 ≡ Some e.1 = fin_map.get-entries whole e.0 ∙ ap (find nat_cmp e.0) w ∙ found_there front e back sorted in
    let is = all.each e.0 e.1 there in
    let rest = adds_writable version whole all (front ++ e ∷ []) back (w ∙ sym (append_assoc front (e ∷ []) back)) in
    record {
      values = All-cons IsPostValue (add_of e) (map add_of back) is.0 rest.values;
      lines = and_from (is_post_of version (add_of e)) (list_all (is_post_of version) (map add_of back)) is.1 rest.lines;
    }

record IsWritableTurn (version callers : ℕ) (turn : List (List Post)) : Type 0 where
  long : length turn ≡ callers
  values : ArePostValues turn
  lines : HaveLines version turn

nobody_long : (n : ℕ) → length (no_posts n) ≡ n
nobody_long zero = refl
nobody_long (suc n) = ap suc (nobody_long n)

nobody_lines : (version n : ℕ) → HaveLines version (no_posts n)
nobody_lines version zero = refl
nobody_lines version (suc n) = nobody_lines version n

first_writable : (version callers : ℕ) (posts : List Post) → 1 ≤ callers → AreAdds version posts
    → IsWritableTurn version callers (turn_by_first callers posts)
first_writable version zero posts some are = absurd (omega (arith, some))
first_writable version (suc others) posts some are =
    let Values : List Post → Type 0 = λ own. All IsPostValue own in record {
      long = ap suc (nobody_long others);
      values = All-cons Values posts (replicate others []) are.values (All-replicate Values others [] (All-nil IsPostValue));
      lines = and_from (list_all (is_post_of version) posts) (list_all (λ own. list_all (is_post_of version) own) (replicate others [])) are.lines (nobody_lines version others);
    }

pub saved_written : (m : Map) (journal : List (List (List Post))) → 1 ≤ m.callers → AreTurns m journal
    → AreTurns m (saved m (standing m bare journal))
unfolding bare
saved_written m journal some are =
    let whole : Standing = standing m bare journal in
    let all : AreWritable m.version whole = writable_journal m fin_map.empty journal are.values are.lines (none_writable m.version) in
    let turn : List (List Post) = turn_by_first m.callers (adds_of whole) in
    let is = first_writable m.version m.callers (adds_of whole) some (adds_writable m.version whole all [] (fin_map.entries whole) refl) in
    let Long : List (List Post) → Type 0 = λ lists. length lists ≡ m.callers in record {
      lists = All-cons Long turn [] is.long (All-nil Long);
      lines = All-cons (HaveLines m.version) turn [] is.lines (All-nil (HaveLines m.version));
      values = All-cons ArePostValues turn [] is.values (All-nil ArePostValues);
    }
