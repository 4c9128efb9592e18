-- The waypoints of a walk that is traced back run by run.
use Rattle.std.proofs.Common.{ℕ, zero, suc, ◌≡◌, ◌≢◌, ◌-◌, ◌*◌, ◌<◌, Bool, true, false, not}
use Rattle.std.proofs.Common.{List, [], ◌∷◌, ◌++◌, Option, Some, None, refl, sym, subst, ap, ◌∙◌, arith}
use Rattle.std.proofs.Common.{replicate, reverse, option_to_list, if◌then◌else◌}
use Rattle.std.specs.Prelude.{slice_get}
use Rattle.std.proofs.lemmas.List.{reverse-append, reverse-reverse}
use Rattle.nav_types.specs.declared.cells.Cell.{Cell}
use Rattle.nav_types.specs.declared.directions.Dir.{Dir}
use Rattle.nav_types.specs.declared.directions.Dir.TheVariants.{N, E, S, W, NE, SE, SW, NW}
use Rattle.nav_types.specs.Directions.{Leads, step_cost}
use Rattle.nav_types.proofs.CellOrder.{same_cell}
use Rattle.walks.specs.Chosen.{IsPicked, IsChosenBack}
use Rattle.walks.specs.Waypoints.{cell_after, is_same_way, is_corner, waypoints}
use Rattle.jump_scan.specs.Stops.{IsRun}
use Rattle.jump_search.specs.declared.nodes.Node.{Node}
use Rattle.jump_search.specs.inner.Traced.{Moves, HasRun, IsExact, IsTraceable, HasCorners, HasWaypoints}
use Rattle.jump_search.proofs.GoingBack.{traceable_at_end, traceable_more, traceable_whole, traceable_run, reverse_more}

same_way_self : (dir : Dir) → is_same_way dir dir ≡ true
same_way_self N = refl
same_way_self E = refl
same_way_self S = refl
same_way_self W = refl
same_way_self NE = refl
same_way_self SE = refl
same_way_self SW = refl
same_way_self NW = refl

-- a corner is told by the step that follows
corner_first : (dir : Dir) (rest : List Dir) → is_corner dir (option_to_list (slice_get rest 0)) ≡ is_corner dir rest
corner_first dir [] = refl
corner_first dir (next ∷ rest) = refl

after_is : (dir : Dir) (from next : Cell) → Leads dir from next → cell_after dir from ≡ next
after_is dir from next leads =
    let columns = leads.columns in let rows = leads.rows in
    same_cell (cell_after dir from) next (omega arith) (omega arith)

-- a run has no waypoint but its end, where the walk goes another way from there
waypoints_run : (passes : Cell → Bool) (dir : Dir) (run : ℕ) (from cell : Cell) (rest : List Dir)
    → IsRun passes dir (suc run) from cell
    → waypoints from (replicate (suc run) dir ++ rest)
    ≡ (if is_corner dir rest then cell ∷ [] else []) ++ waypoints cell rest
waypoints_run passes dir zero from cell rest steps =
    let is : cell_after dir from ≡ cell = after_is dir from steps.0 steps.1.0.leads ∙ steps.1.1 in
    ap (λ (c : Cell). (if is_corner dir rest then c ∷ [] else []) ++ waypoints c rest) is
waypoints_run passes dir (suc run) from cell rest steps =
    let is = after_is dir from steps.0 steps.1.0.leads in
    let more = replicate (suc run) dir ++ rest in
    ap (λ (b : Bool). (if not b then cell_after dir from ∷ [] else []) ++ waypoints (cell_after dir from) more)
    (same_way_self dir)
    ∙ ap (λ (c : Cell). waypoints c more) is
    ∙ waypoints_run passes dir run steps.0 cell rest steps.1.1

reverse_corner : (points : List Cell) (cell : Cell) (is : Bool)
    → reverse (points ++ (if is then cell ∷ [] else [])) ≡ (if is then cell ∷ [] else []) ++ reverse points
reverse_corner points cell true = reverse-append points (cell ∷ [])
reverse_corner points cell false = reverse-append points []

first_of_run : (dir : Dir) (run : ℕ) (rest : List Dir) → 0 < run → slice_get (replicate run dir ++ rest) 0 ≡ Some dir
first_of_run dir zero rest some = absurd (omega (arith, some))
first_of_run dir (suc run) rest some = refl

-- ---- the walk that is traced back
pub corners_at_end : (all : Bool) (passes hit : Cell → Bool) (start : Cell) (ahead : Cell → ℕ) (end : Cell) (bound : ℕ)
    (nodes : List Node)
    → IsTraceable all passes hit start ahead end bound nodes → (corners : List Cell) → corners ≡ []
    → HasCorners passes hit start nodes end bound end bound None corners
corners_at_end all passes hit start ahead end bound nodes able corners none = record {
  back = [];
  traced = traceable_at_end all passes hit start ahead end bound nodes able [] refl;
  first = refl;
  points = ap (λ (cells : List Cell). reverse cells) none;
}

points_more : (passes : Cell → Bool) (dir : Dir) (run : ℕ) (from cell : Cell) (rest : List Dir) (corners longer : List Cell)
    (next : Option Dir)
    → IsRun passes dir run from cell → 0 < run → slice_get rest 0 ≡ next → reverse corners ≡ waypoints cell rest
    → longer ≡ corners ++ (if is_corner dir (option_to_list next) then cell ∷ [] else [])
    → reverse longer ≡ waypoints from (replicate run dir ++ rest)
points_more passes dir zero from cell rest corners longer next steps some first points is = absurd (omega (arith, some))
points_more passes dir (suc run) from cell rest corners longer next steps some first points is =
    let told : is_corner dir (option_to_list next) ≡ is_corner dir rest =
    ap (λ (n : Option Dir). is_corner dir (option_to_list n)) (sym first) ∙ corner_first dir rest in
    ap reverse is
    ∙ reverse_corner corners cell (is_corner dir (option_to_list next))
    ∙ ap (λ (b : Bool). (if b then cell ∷ [] else []) ++ reverse corners) told
    ∙ ap (λ (cells : List Cell). (if is_corner dir rest then cell ∷ [] else []) ++ cells) points
    ∙ sym (waypoints_run passes dir run from cell rest steps)

-- one run more
pub corners_more : (all : Bool) (passes hit : Cell → Bool) (start : Cell) (ahead : Cell → ℕ) (end : Cell) (bound : ℕ)
    (nodes : List Node)
    → IsTraceable all passes hit start ahead end bound nodes
    → (cell : Cell) (cost : ℕ) (next : Option Dir) (corners : List Cell)
    → HasCorners passes hit start nodes end bound cell cost next corners → start ≢ cell → (dir : Dir) (run each : ℕ)
    → IsPicked (IsExact nodes cell cost) next dir → HasRun nodes cell cost dir run → (from : Cell)
    → Moves dir run from cell
    → each ≡ step_cost dir → (longer : List Cell)
    → longer ≡ corners ++ (if is_corner dir (option_to_list next) then cell ∷ [] else [])
    → HasCorners passes hit start nodes end bound from (cost - run * each) (Some dir) longer
corners_more all passes hit start ahead end bound nodes able cell cost next corners has away dir run each picked runs from
    moves is longer more =
    let back = has.back in
    let gone = traceable_run all passes hit start ahead end bound nodes able cell cost next back has.traced dir run runs
    from moves in
    let turned = reverse_more back dir run in
    record {
      back = back ++ replicate run dir;
      traced = traceable_more all passes hit start ahead end bound nodes able cell cost next back has.traced away dir run
          each picked runs from moves is (back ++ replicate run dir) refl;
      first = ap (λ (dirs : List Dir). slice_get dirs 0) turned ∙ first_of_run dir run (reverse back) gone.1;
      points = points_more passes dir run from cell (reverse back) corners longer next gone.0 gone.1 has.first has.points
          more
          ∙ ap (λ (dirs : List Dir). waypoints from dirs) (sym turned);
    }

-- at the start the waypoints are those of the chosen walk
pub corners_whole : (all : Bool) (passes hit : Cell → Bool) (start : Cell) (ahead : Cell → ℕ) (end : Cell) (bound : ℕ)
    (nodes : List Node)
    → IsTraceable all passes hit start ahead end bound nodes
    → (cell : Cell) (cost : ℕ) (next : Option Dir) (corners : List Cell)
    → HasCorners passes hit start nodes end bound cell cost next corners → start ≡ cell
    → HasWaypoints passes start end (reverse corners)
corners_whole all passes hit start ahead end bound nodes able cell cost next corners has at =
    let back = has.back in
    let chosen = traceable_whole all passes hit start ahead end bound nodes able cell cost next back has.traced at in (
      reverse back,
      (
        subst (λ (dirs : List Dir). IsChosenBack passes start None dirs end) (sym (reverse-reverse back)) chosen,
        has.points ∙ ap (λ (c : Cell). waypoints c (reverse back)) (sym at),
      ),
    )
