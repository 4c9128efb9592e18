-- What stands is made again by its entries, added one after another in the order of their numbers.
use Rattle.std.proofs.Common.{◌≡◌, ℕ, zero, suc, ◌+◌, ◌≤◌, ◌==◌, ◌&&◌, Bool, true, false, T, not, cond, List, [], ◌∷◌, ◌++◌, length, map, replicate, None, Some, is_some, Ordering, refl, sym, ap, subst, ◌∙◌, arith, append_assoc, append-nil, length-append}
use Rattle.std.proofs.lemmas.Bool.{ne_eqb}
use Rattle.std.proofs.Common.{Less, Equal, Greater}
use Rattle.std.specs.Cmp.{nat_cmp_total, tied_itself}
use Rattle.std.specs.Ordering.{nat_cmp, is_lt, is_eq, ordering_reverse}
use Rattle.std.specs.FinMap as fin_map
use Rattle.std.specs.FinMap.Entries.{find, put, is_sorted, below_all, by_order}
use Rattle.obstruction_shapes.specs.declared.shapes.Obstruction.{Obstruction}
use Rattle.obstruction_store.specs.Standing.{Standing, AllFit}
use Rattle.posts.specs.declared.edits.EditReply.TheVariants.{Added, Refused}
use Rattle.posts.specs.declared.edits.Refusal.TheVariants.{BadShape, DuplicateId, StoreFull}
use Rattle.posts.specs.declared.posts.Post.{Post}
use Rattle.posts.specs.Maps.{Map}
use Rattle.posts.specs.Edits.{is_refused}
use Rattle.grid_versions.specs.Fitting.{fits}
use Rattle.grid_versions.proofs.FittingLemmas.{fits_decides}
use Rattle.turn_core.specs.Words.{edited}
use Rattle.turn_core.specs.Turns.{after, after_turn}
use Rattle.match_play.specs.Saved.{add_of, adds_of, turn_by_first}

-- ---- entries in rising order

abbrev pub Entry : Type 0
Entry = ℕ × Obstruction

left : (a b : Bool) → T (a && b) → T a
left true b h = tt
left false b h = absurd h

right : (a b : Bool) → T (a && b) → T b
right true b h = h
right false b h = absurd h

is_less : (o : Ordering) → T (is_lt o) → o ≡ Less
is_less Less h = refl
is_less Equal h = absurd h
is_less Greater h = absurd h

-- an entry behind others is above them
below_entry : (number : ℕ) (front : List Entry) (e : Entry) (back : List Entry)
    → T (below_all nat_cmp number (front ++ e ∷ back)) → nat_cmp e.0 number ≡ Greater
below_entry number [] e back h = nat_cmp_total.antisymm e.0 number ∙ ap ordering_reverse (is_less _ (left _ _ h))
below_entry number (f ∷ front) e back h = below_entry number front e back (right _ _ h)

put_last : (front : List Entry) (e : Entry) (back : List Entry) → T (is_sorted nat_cmp (front ++ e ∷ back))
    → put nat_cmp e.0 e.1 front ≡ front ++ e ∷ []
put_last [] e back h = refl
put_last (f ∷ front) e back h =
    ap (λ o. by_order o (e ∷ f ∷ front) ((f.0, e.1) ∷ front) (f ∷ put nat_cmp e.0 e.1 front))
    (below_entry f.0 front e back (left _ _ h))
    ∙ ap (λ (es : List Entry). f ∷ es) (put_last front e back (right _ _ h))

none_before : (front : List Entry) (e : Entry) (back : List Entry) → T (is_sorted nat_cmp (front ++ e ∷ back))
    → find nat_cmp e.0 front ≡ None
none_before [] e back h = refl
none_before (f ∷ front) e back h =
    ap (λ o. cond (is_eq o) (Some f.1) (find nat_cmp e.0 front)) (below_entry f.0 front e back (left _ _ h))
    ∙ none_before front e back (right _ _ h)

pub found_there : (front : List Entry) (e : Entry) (back : List Entry) → T (is_sorted nat_cmp (front ++ e ∷ back))
    → find nat_cmp e.0 (front ++ e ∷ back) ≡ Some e.1
found_there [] e back h =
    ap (λ o. cond (is_eq o) (Some e.1) (find nat_cmp e.0 back)) (tied e.0)
  where
    tied : (n : ℕ) → nat_cmp n n ≡ Equal
    tied n = tied_itself nat_cmp_total n
found_there (f ∷ front) e back h =
    ap (λ o. cond (is_eq o) (Some f.1) (find nat_cmp e.0 (front ++ e ∷ back))) (below_entry f.0 front e back (left _ _ h))
    ∙ found_there front e back (right _ _ h)

-- ---- adds

-- an add whose shape fits, whose number is free and for which there is room is made
add_made : (id : ℕ) (old new : Standing) (fit known full : Bool) → fit ≡ true → known ≡ false → full ≡ false
    → cond (is_refused (cond (not fit) (Refused BadShape) (cond known (Refused DuplicateId) (cond full (Refused StoreFull) (Added id))))) old new ≡ new
add_made id old new true true full p q r = absurd (cc)
add_made id old new true false true p q r = absurd (cc)
add_made id old new true false false p q r = refl
add_made id old new false known full p q r = absurd (cc)

pub record GoesThrough (m : Map) (s : Standing) (e : Entry) : Type 0 where
  pub fit : fits m.size e.1.shape ≡ true
  pub free : fin_map.contains_key s e.0 ≡ false
  pub room : (fin_map.len s == 65536) ≡ false

module _ (m : Map) (whole : Standing) (all : AllFit m.size whole) (few : fin_map.len whole ≤ 65536) where
  -- an add of the next entry goes through
  pub next_goes : (front : List Entry) (e : Entry) (back : List Entry) (s : Standing)
      → fin_map.entries whole ≡ front ++ e ∷ back → fin_map.entries s ≡ front → GoesThrough m s e
  next_goes front e back s w is =
      let sorted : T (is_sorted nat_cmp (front ++ e ∷ back)) = subst (λ (es : List Entry). T (is_sorted nat_cmp es)) w (fin_map.entries_sorted whole) in
      let there : fin_map.get whole e.0 ≡ Some e.1 = fin_map.get-entries whole e.0 ∙ ap (find nat_cmp e.0) w ∙ found_there front e back sorted in
      let size : fin_map.len whole ≡ length front + length (e ∷ back) =
      fin_map.len-entries whole ∙ ap length w ∙ length-append front (e ∷ back) in
      let now : fin_map.len s ≡ length front = fin_map.len-entries s ∙ ap length is in
      let more : length (e ∷ back) ≡ length back + 1 = omega arith in record {
        fit = (fits_decides m.size e.1.shape).1 (all.each e.0 e.1 there);
        free = ap is_some (fin_map.get-entries s e.0 ∙ ap (find nat_cmp e.0) is ∙ none_before front e back sorted);
        room = ne_eqb (fin_map.len s) 65536 (λ full. omega (arith, size, now, more, few, full));
      }

  -- the next entry is added
  pub entry_added : (front : List Entry) (e : Entry) (back : List Entry) (s : Standing)
      → fin_map.entries whole ≡ front ++ e ∷ back → fin_map.entries s ≡ front
      → edited m s (add_of e) ≡ fin_map.insert s e.0 e.1
  unfolding edited
  entry_added front e back s w is =
      let goes = next_goes front e back s w is in
      add_made e.0 s (fin_map.insert s e.0 e.1) (fits m.size e.1.shape) (fin_map.contains_key s e.0) (fin_map.len s == 65536) goes.fit goes.free goes.room

  -- the entries so far, with one more
  pub entries_next : (front : List Entry) (e : Entry) (back : List Entry) (s : Standing)
      → fin_map.entries whole ≡ front ++ e ∷ back → fin_map.entries s ≡ front
      → fin_map.entries (fin_map.insert s e.0 e.1) ≡ front ++ e ∷ []
  entries_next front e back s w is =
      let sorted : T (is_sorted nat_cmp (front ++ e ∷ back)) = subst (λ (es : List Entry). T (is_sorted nat_cmp es)) w (fin_map.entries_sorted whole) in
      fin_map.entries-insert nat_cmp_total s e.0 e.1 ∙ ap (put nat_cmp e.0 e.1) is ∙ put_last front e back sorted

  entries_added : (front back : List Entry) (s : Standing) → fin_map.entries whole ≡ front ++ back
      → fin_map.entries s ≡ front → after m s (map add_of back) ≡ whole
  entries_added front [] s w is = fin_map.same_entries_map s whole (is ∙ sym (append-nil front) ∙ sym w)
  entries_added front (e ∷ back) s w is =
      ap (λ (t : Standing). after m t (map add_of back)) (entry_added front e back s w is)
      ∙ entries_added (front ++ e ∷ []) back (fin_map.insert s e.0 e.1) (w ∙ sym (append_assoc front (e ∷ []) back)) (entries_next front e back s w is)

-- nobody posts
after_nobody : (m : Map) (s : Standing) (callers : ℕ) → after_turn m s (replicate callers []) ≡ s
after_nobody m s zero = refl
after_nobody m s (suc callers) = after_nobody m s callers

pub after_first : (m : Map) (s : Standing) (callers : ℕ) (posts : List Post) → 1 ≤ callers
    → after_turn m s (turn_by_first callers posts) ≡ after m s posts
after_first m s zero posts some = absurd (omega (arith, some))
after_first m s (suc others) posts some = after_nobody m (after m s posts) others

pub no_entries : fin_map.entries (fin_map.empty {X = Obstruction} {R = nat_cmp}) ≡ []
no_entries = nothing (fin_map.entries (fin_map.empty {X = Obstruction} {R = nat_cmp})) (sym (fin_map.len-entries (fin_map.empty {X = Obstruction} {R = nat_cmp})) ∙ fin_map.len-empty nat_cmp Obstruction)
  where
    nothing : (es : List Entry) → length es ≡ 0 → es ≡ []
    nothing [] h = refl
    nothing (e ∷ es) h = absurd (omega (arith, h))

-- the adds of all that stands make it from nothing
pub adds_make : (m : Map) (whole : Standing) → AllFit m.size whole → fin_map.len whole ≤ 65536
    → after m fin_map.empty (adds_of whole) ≡ whole
adds_make m whole all few = entries_added m whole all few [] (fin_map.entries whole) fin_map.empty refl no_entries
