-- Lines of sight from cells and to cells that are impassable, and how many waypoints are kept.
use Rattle.std.proofs.Common.{ℕ, ◌≡◌, ◌+◌, ◌<◌, ◌≤◌, ◌↔◌, inl, inr, Bool, true, false, IsTrue, List, [], ◌∷◌, ◌++◌, length, map, take, get_or, refl, sym, ap, ◌∙◌, arith}
use Rattle.std.specs.Prelude.{Err, Some, drop, slice_get, slice_set}
use Rattle.std.proofs.lemmas.Bool.{both_ways}
use Rattle.std.proofs.lemmas.List.{drop-set-lt, length-map, length-set, map-append, take-append-drop, take_all, take_more, take_more_set}
use Rattle.nav_types.specs.declared.cells.Cell.{Cell}
use Rattle.nav_types.specs.Cells.{IsInside}
use Rattle.line_smooth.specs.Segments.{IsClear}
use Rattle.line_smooth.specs.Smoothed.{IsSmoothing, IsSublist}
use Rattle.line_smooth.proofs.Sights.{touches_from, touches_to}
use Rattle.flat_posts.specs.Cells.{flat_cell}
use Rattle.flat_posts.specs.declared.cells.FlatCell.{FlatCell}
use Rattle.grid_versions.specs.inner.PassingLaws.{passes_within}
use Rattle.grid_versions.specs.Versions.{MapState, passes_of}
use Rattle.pathserve_c.specs.declared.statuses.PostFault.{PostFault}
use Rattle.pathserve_c.specs.declared.statuses.PostFault.TheVariants.{BadValue, NoMemory}
use Rattle.pathserve_c.specs.Sights.{IsHeldWalk, IsOneWhere, Smooths, SmoothsAs, WalkRoom, cell_held, cells_held}
use Rattle.pathserve_c.specs.inner.Smoothings.{IsSmoothedAs, IsSmoothedWalk}
use Rattle.pathserve_c.proofs.Places.{passes_class}

-- nothing is seen where nothing is passable
pub blind : (from to : Cell) → IsClear (λ _. false) from to → ⊥
blind from to clear = let yes = clear from (touches_from from to) in absurd cc

pub unseen : (from to : Cell) → IsOneWhere (IsClear (λ _. false) from to) 0
unseen from to = inr (blind from to, refl)

pub said_yes : {Is : Type 0} (tested : Bool) → IsTrue tested ↔ Is → tested ≡ true → IsOneWhere Is 1
said_yes tested is so = inl (is.0 so, refl)

pub said_no : {Is : Type 0} (tested : Bool) → IsTrue tested ↔ Is → tested ≡ false → IsOneWhere Is 0
said_no tested is none = inr (λ so. both_ways tested none (is.1 so), refl)

-- where it is not so, no is right
pub refused : {P : Type 0} → (P → ⊥) → IsTrue false ↔ P
refused none = (λ no. absurd cc, λ is. absurd (none is))

pub classless : (version : MapState) (k : ℕ) (from to : Cell) → (k < length version.map.classes → ⊥) → IsClear (passes_of version k) from to → ⊥
classless version k from to none clear = none (passes_class version k from (clear from (touches_from from to)))

pub hidden_from : (version : MapState) (k : ℕ) (from to : Cell) → (IsInside version.map.size from → ⊥) → IsClear (passes_of version k) from to → ⊥
hidden_from version k from to outside clear = outside (passes_within version k from (clear from (touches_from from to)))

pub hidden_to : (version : MapState) (k : ℕ) (from to : Cell) → (IsInside version.map.size to → ⊥) → IsClear (passes_of version k) from to → ⊥
hidden_to version k from to outside clear = outside (passes_within version k to (clear to (touches_to from to)))

-- each kept place lies further on than the one before, so they are no more than there are
rising : (passes : Cell → Bool) (places : List Cell) (from : ℕ) (kept : List ℕ) → IsSublist passes places from kept → length kept + from + 1 ≤ length places
rising passes places from [] is = omega arith
rising passes places from (next ∷ rest) is = let rises = is.0.rises in let on = rising passes places next rest is.1 in omega arith

pub few_kept : (passes : Cell → Bool) (start : Cell) (corners points : List Cell) → IsSmoothing passes start corners points → length points ≤ length corners
few_kept passes start corners points is =
    let count : length is.kept ≡ length points =
    sym (length-map is.kept (λ (place : ℕ). slice_get (start ∷ corners) place)) ∙ ap length is.placed ∙ length-map points (λ (point : Cell). Some point) in
    let few = rising passes (start ∷ corners) 0 is.kept is.smoothed.sublist in
    omega arith

-- ---- flat cells, one by one

-- so many cells were read
pub held_more : (flats : List FlatCell) (k : ℕ) (other : FlatCell) (cells new : List Cell) (cell : Cell) → k < length flats → cell ≡ cell_held (get_or flats k other)
    → cells ≡ cells_held (take k flats) → new ≡ cells ++ cell ∷ [] → new ≡ cells_held (take (k + 1) flats)
held_more flats k other cells new cell within is before after =
    after ∙ ap (λ (l : List Cell). l ++ cell ∷ []) before ∙ ap (λ (c : Cell). cells_held (take k flats) ++ c ∷ []) is
    ∙ sym (map-append cell_held (take k flats) (get_or flats k other ∷ [])) ∙ ap cells_held (sym (take_more flats k other within))

pub held_all : (flats : List FlatCell) (k : ℕ) (cells : List Cell) → length flats ≤ k → cells ≡ cells_held (take k flats) → cells ≡ cells_held flats
held_all flats k cells past before = before ∙ ap cells_held (take_all k flats past)

-- so many cells were written
pub record AreCopied (cells : List Cell) (count : ℕ) (old now : List FlatCell) : Type 0 where
  pub long : length now ≡ length old
  pub front : take count now ≡ map flat_cell (take count cells)
  pub behind : (place : ℕ) → count ≤ place → drop place now ≡ drop place old

pub copied_none : (cells : List Cell) (old : List FlatCell) → AreCopied cells 0 old old
copied_none cells old = record { long = refl; front = refl; behind = λ place low. refl }

pub copied_more : (cells : List Cell) (count : ℕ) (other : Cell) (old now : List FlatCell) (flat : FlatCell) → length cells ≤ length old → count < length cells
    → AreCopied cells count old now → flat ≡ flat_cell (get_or cells count other) → AreCopied cells (count + 1) old (slice_set now count flat)
copied_more cells count other old now flat room less copied is =
    let within : count < length now = omega (arith, less, room, copied.long) in record {
      long = length-set now count flat ∙ copied.long;
      front = take_more_set now count flat within ∙ ap (λ (l : List FlatCell). l ++ flat ∷ []) copied.front
          ∙ ap (λ (f : FlatCell). map flat_cell (take count cells) ++ f ∷ []) is
          ∙ sym (map-append flat_cell (take count cells) (get_or cells count other ∷ [])) ∙ ap (map flat_cell) (sym (take_more cells count other less));
      behind = λ place low. drop-set-lt place now count flat (omega (arith, low)) ∙ copied.behind place (omega (arith, low));
    }

pub copied_all : (cells : List Cell) (count : ℕ) (old now : List FlatCell) → count ≡ length cells → AreCopied cells count old now
    → now ≡ map flat_cell cells ++ drop (length cells) old
copied_all cells count old now all copied =
    let past : length cells ≤ count = omega (arith, all) in
    sym (take-append-drop count now) ∙ ap (λ (l : List FlatCell). l ++ drop count now) (copied.front ∙ ap (map flat_cell) (take_all count cells past))
    ∙ ap (λ (l : List FlatCell). map flat_cell cells ++ l) (copied.behind count (omega arith)) ∙ ap (λ (n : ℕ). map flat_cell cells ++ drop n old) all

-- ---- walks that are held, and what they are smoothed to

pub classless_walk : (version : MapState) (k : ℕ) (start : Cell) (corners : List Cell) → (k < length version.map.classes → ⊥) → IsHeldWalk version k start corners → ⊥
classless_walk version k start corners none held = none (passes_class version k start held.passable)

pub start_outside : (version : MapState) (k : ℕ) (start : Cell) (corners : List Cell) → (IsInside version.map.size start → ⊥) → IsHeldWalk version k start corners → ⊥
start_outside version k start corners outside held = outside (passes_within version k start held.passable)

-- what refuses to give points has written nothing
pub smooths_not : (version : MapState) (k : ℕ) (start : Cell) (before : WalkRoom) (fault : PostFault)
    → IsSmoothedAs version k start (cells_held before.waypoints) (Err fault) → SmoothsAs version k start before before (Err fault)
smooths_not version k start before BadValue none = (refl, none)
smooths_not version k start before NoMemory none = refl

pub smooths : (version : MapState) (k : ℕ) (start : Cell) (points : List Cell) (before after : WalkRoom)
    → IsSmoothedWalk version k start (cells_held before.waypoints) points → after.kept ≡ length points
    → after.waypoints ≡ map flat_cell points ++ drop (length points) before.waypoints → Smooths version k start before after
smooths version k start points before after made kept written =
    record { walk = made.walk; points = points; smoothing = made.smoothing; kept = kept; written = written }

pub smoothed_walk : (version : MapState) (k : ℕ) (start : Cell) (corners points : List Cell) → IsHeldWalk version k start corners
    → IsSmoothing (passes_of version k) start corners points → IsSmoothedWalk version k start corners points
smoothed_walk version k start corners points held is = record { walk = held; smoothing = is; few = few_kept (passes_of version k) start corners points is }
