-- What a search on a version asks for, and what is said of it.
use Rattle.std.proofs.Common.{◌≡◌, ◌<◌, ℕ, Bool, IsTrue, length, sym, subst, ap, ◌∙◌, arith}
use Rattle.nav_types.specs.declared.cells.Cell.{Cell}
use Rattle.nav_types.specs.declared.cells.Rect.{Rect}
use Rattle.nav_types.specs.declared.cells.Size.{Size}
use Rattle.nav_types.specs.Cells.{IsInside, IsInRect, cell_at}
use Rattle.nav_types.specs.Frames.{IsFrame}
use Rattle.fixed_point.specs.declared.plane.Rectangle.{Rectangle}
use Rattle.fixed_point.specs.Plane.{IsUnitVector}
use Rattle.goal_shapes.specs.declared.goals.Goal.TheVariants.{NotCircle, NotSquare}
use Rattle.goal_shapes.specs.Goals.{contains, framed}
use Rattle.goal_shapes.specs.inner.Framing.{contains_framed}
use Rattle.goal_reach.specs.declared.targets.Target.{Target}
use Rattle.goal_reach.specs.declared.targets.Target.TheVariants.{Goal as GoalTarget, Near}
use Rattle.goal_reach.specs.Targets.{hit_by, framed_by, IsSoundTarget}
use Rattle.landmarks.specs.declared.spans.NumberSpan.{NumberSpan}
use Rattle.landmarks.specs.Landmarks.{Tables}
use Rattle.landmarks.specs.Spans.{IsSpanned, IsSpanOf}
use Rattle.landmarks.proofs.Spanning.{span_of_spans}
use Rattle.jump_search.specs.declared.estimates.Marked.{Marked}
use Rattle.jump_search.specs.declared.estimates.CostlyEstimate.{CostlyEstimate}
use Rattle.jump_search.specs.declared.estimates.CostlyEstimate.TheVariants.{Past, OutOfDisc, OutOfTurned}
use Rattle.jump_search.specs.Estimates.{IsEstimate, cost_out, cost_past, cost_to_rim, cost_to_side, least_costly}
use Rattle.jump_search.specs.JumpStates.{CanSearch}
use Rattle.jump_search.proofs.PastWalls.{past_estimate}
use Rattle.jump_search.proofs.Rims.{rim_estimate}
use Rattle.jump_search.proofs.Sides.{side_estimate}
use Rattle.jump_search.proofs.WaysOut.{leaving_estimate}
use Rattle.grid_versions.specs.inner.PassingLaws.{passes_within}
use Rattle.grid_versions.specs.Versions.{MapState, passes_of}
use Rattle.turn_core.specs.inner.Searching.{CanFind, IsMarkedFor, IsOnlyCell, IsRoomFor, IsWayOut}
use Rattle.turn_core.proofs.OutOfShapes.{circle_framed, square_framed, off_disc, off_square}

-- what is said of a search is said of a search that asks the same
pub same_search : (Said : MapState → ℕ → Cell → Target → Type 0) {state other : MapState} {class k : ℕ} {start from : Cell} {target aim : Target}
    → state ≡ other → class ≡ k → start ≡ from → target ≡ aim → Said state class start target → Said other k from aim
same_search Said {state} {other} {class} {k} {start} {from} {target} {aim} same_state same_class same_start same_target said =
    subst (λ (t : Target). Said other k from t) same_target
    (subst (λ (c : Cell). Said other k c target) same_start
    (subst (λ (n : ℕ). Said other n start target) same_class
    (subst (λ (s : MapState). Said s class start target) same_state said)))

-- where a search can be made on a version, it can be made by a question that asks the same
pub can_search : {state runs : MapState} {class k : ℕ} {start from : Cell} {target aim : Target}
    → runs ≡ state → k ≡ class → from ≡ start → aim ≡ target → CanFind state class start target
    → (k < length runs.map.classes) × CanSearch (passes_of runs k) (hit_by aim) (IsSoundTarget runs.map.size aim) from
can_search same_state same_class same_start same_target can =
    same_search (λ s n c t. (n < length s.map.classes) × CanSearch (passes_of s n) (hit_by t) (IsSoundTarget s.map.size t) c)
    (sym same_state) (sym same_class) (sym same_start) (sym same_target)
    (can.known, record { free = can.passes; sound = can.sound; reach = can.reach })

-- the way out of the room in a goal is an estimate for a search for its cells
room_estimate : (passes : Cell → Bool) (size : Size) (target : Target) (rect : Rect)
    → ((cell : Cell) → IsTrue (passes cell) → IsInside size cell) → IsRoomFor target rect
    → IsEstimate passes (hit_by target) (framed_by target) size (cost_out rect)
room_estimate passes size (GoalTarget goal) rect within room =
    leaving_estimate passes (contains goal) (framed goal) size rect within room.everywhere (λ cell _ inside hit. room.clear cell inside hit)
room_estimate passes size (Near cell) rect within never = absurd never

-- the way out of the room about the start is an estimate for a search on a version
pub can_leave : (state : MapState) (class : ℕ) (target : Target) (rect : Rect) → IsRoomFor target rect
    → IsEstimate (passes_of state class) (hit_by target) (framed_by target) state.map.size (cost_out rect)
can_leave state class target rect room = room_estimate (passes_of state class) state.map.size target rect (passes_within state class) room

-- a square that is a sound target turned inside out lies along a unit vector
pub unit_of : (size : Size) (target : Target) (s : Rectangle) → IsSoundTarget size target → target ≡ GoalTarget (NotSquare s)
    → IsUnitVector s.ux s.uz
unit_of size target s sound is = let goal = subst (λ (t : Target). IsSoundTarget size t) is sound in goal.well_formed.unit_vector

-- the way out of a circle or a square is an estimate for a search for what lies outside
pub can_lead_out : (state : MapState) (class : ℕ) (target : Target) (out : CostlyEstimate) → IsWayOut target out
    → IsEstimate (passes_of state class) (hit_by target) (framed_by target) state.map.size (least_costly out)
can_lead_out state class target (Past marked) never = absurd never
can_lead_out state class target (OutOfDisc disc) is = let passes = passes_of state class in let size = state.map.size in
    let goal = NotCircle disc.x disc.z disc.r in
    subst (λ (t : Target). IsEstimate passes (hit_by t) (framed_by t) size (cost_to_rim disc)) (sym is)
    (rim_estimate passes (contains goal) (framed goal) size disc (passes_within state class)
    (circle_framed disc.x disc.z disc.r) (off_disc disc))
can_lead_out state class target (OutOfTurned room) is = let passes = passes_of state class in let size = state.map.size in
    let goal = NotSquare room.rectangle in
    subst (λ (t : Target). IsEstimate passes (hit_by t) (framed_by t) size (cost_to_side room)) (sym is)
    (side_estimate passes (contains goal) (framed goal) size room (passes_within state class)
    (square_framed room.rectangle) (off_square room.rectangle))

-- the cells that a target hits are in its rectangle
hits_framed : (target : Target) (cell : Cell) → IsTrue (hit_by target cell) → IsTrue (framed_by target cell)
hits_framed (GoalTarget goal) cell hit = contains_framed goal cell hit
hits_framed (Near near) cell hit = hit

-- what tables of landmarks tell is an estimate for a search on a version
pub can_pass : (state : MapState) (class : ℕ) (target : Target) (marked : Marked)
    → IsMarkedFor (passes_of state class) state.map.size target marked
    → IsEstimate (passes_of state class) (hit_by target) (framed_by target) state.map.size (cost_past marked)
can_pass state class target marked told =
    past_estimate (passes_of state class) (hit_by target) (framed_by target) state.map.size marked (passes_within state class)
    (λ cell inside hit. hits_framed target cell hit) told.frame told.gentle told.spanned

-- a cell of a rectangle that has but one is that one
one_cell : (rect : Rect) (only cell : Cell) → IsOnlyCell rect only → IsInRect rect cell → only ≡ cell
one_cell rect only cell is within =
    let a = is.west in let b = is.east in let c = is.south in let d = is.north in
    let west = within.west in let east = within.east in let south = within.south in let north = within.north in
    let i : only.i ≡ cell.i = omega (arith, a, b, west, east) in
    let j : only.j ≡ cell.j = omega (arith, c, d, south, north) in
    ap (λ (n : ℕ). cell_at n only.j) i ∙ ap (λ (n : ℕ). cell_at cell.i n) j

-- where a target's rectangle has but one cell, the span of that cell spans what the target hits
pub spans_hits : (state : MapState) (class : ℕ) (target : Target) (rect : Rect) (tables : Tables) (span : NumberSpan) (only : Cell)
    → IsFrame (framed_by target) state.map.size rect → IsOnlyCell rect only → IsSpanOf tables only span
    → (cell : Cell) → IsTrue (passes_of state class cell) → IsTrue (hit_by target cell) → IsSpanned tables span cell
spans_hits state class target rect tables span only frame is of cell passing hit =
    let inside = passes_within state class cell passing in
    let within = (frame.exact cell inside).1 (hits_framed target cell hit) in
    subst (λ (c : Cell). IsSpanned tables span c) (one_cell rect only cell is within) (span_of_spans tables only span of)

-- what is an estimate for a search on a version is one for a question that asks the same
pub can_go : {state runs : MapState} {class k : ℕ} {start from : Cell} {target aim : Target}
    → runs ≡ state → k ≡ class → from ≡ start → aim ≡ target → (least : Cell → ℕ)
    → IsEstimate (passes_of state class) (hit_by target) (framed_by target) state.map.size least
    → IsEstimate (passes_of runs k) (hit_by aim) (framed_by aim) runs.map.size least
can_go same_state same_class same_start same_target least estimate =
    same_search (λ s n _ t. IsEstimate (passes_of s n) (hit_by t) (framed_by t) s.map.size least)
    (sym same_state) (sym same_class) (sym same_start) (sym same_target) estimate
