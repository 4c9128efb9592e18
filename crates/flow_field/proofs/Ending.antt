-- Marks that spread until none waits are a field.
use Rattle.std.proofs.Common.{ℕ, ◌≡◌, ◌+◌, ◌-◌, ◌<◌, ◌≤◌, inl, inr, Bool, ltb, List, [], ◌∷◌, ◌++◌, IsTrue, count_by, Option, sym, subst, arith}
use Rattle.std.proofs.lemmas.List.Sums.{sum_by-cons, count_by-le-length}
use Rattle.nav_types.specs.declared.cells.Cell.{Cell}
use Rattle.nav_types.specs.declared.cells.Size.{Size}
use Rattle.nav_types.specs.declared.directions.Dir.{Dir}
use Rattle.nav_types.specs.Cells.{IsInside}
use Rattle.nav_types.specs.Directions.{step_cost, opposite}
use Rattle.nav_types.specs.Walks.{IsWalk, Joined, CanReach, walk_cost}
use Rattle.nav_types.proofs.Walking.{IsWalk-push, Step-opposite, Joined-passes, Joined-sym, Joined-trans, step_cost_most}
use Rattle.flow_field.specs.Flows.{IsNearest, IsFar, IsFieldOf}
use Rattle.flow_field.specs.inner.Marks.{free, spot_of, mark_of, far_of, cells_of, IsTable, IsSound, IsSettledAlong, IsSpreading, Every, NoStep}
use Rattle.flow_field.proofs.Spots.{few_spots, spot_of-inj, IsCellSpot-of}
use Rattle.flow_field.proofs.Relaxing.{cost_back}
use Rattle.flow_field.proofs.Reading.{mark_cases, far_of-reached, far_of-none, far_in_is, cells_cover}

-- marks that spread, where none waits
pub record IsSpread (passes hit : Cell → Bool) (start : Cell) (size : Size) (marks : List ℕ) : Type 0 where
  pub sound : IsSound passes hit start size marks
  pub ends : (target : Cell) → IsTrue (hit target) → Joined passes start target → mark_of size marks target ≡ 1
  pub settled : (cell : Cell) (dir : Dir) → IsTrue (passes cell) → mark_of size marks cell < free → IsSettledAlong passes size marks cell dir

pub spread_out : (passes hit : Cell → Bool) (start : Cell) (size : Size) (marks : List ℕ) (Waiting : ℕ → Type 0) → IsSpreading passes hit start size Every NoStep marks Waiting → ((spot : ℕ) → Waiting spot → ⊥)
    → IsSpread passes hit start size marks
spread_out passes hit start size marks Waiting spreads none = record {
  sound = spreads.sound;
  ends = λ target is_hit joined. spreads.ends target tt is_hit joined;
  settled = λ cell dir passable below. elim (spreads.settled cell dir passable below) [
    | inl settled ↦ settled
    | inr rest ↦ elim rest [
      | inl waits ↦ absurd (none (spot_of size cell) waits)
      | inr out ↦ absurd out
    ]
  ];
}

-- no walk to a target costs less than the mark says
walk_most : (passes hit : Cell → Bool) (start : Cell) (size : Size) (marks : List ℕ) → IsSpread passes hit start size marks → (dirs : List Dir) (cell target : Cell) → IsTrue (passes cell) → Joined passes start cell
    → IsTrue (hit target) → IsWalk passes cell dirs target → (mark_of size marks cell ≤ 1 + walk_cost dirs) × (mark_of size marks cell < free)
walk_most passes hit start size marks spread [] cell target passable joined is_hit walk =
    let there = spread.ends cell (subst (λ (c : Cell). IsTrue (hit c)) (sym walk) is_hit) joined in
    (omega (arith, there), omega (arith, there))
walk_most passes hit start size marks spread (dir ∷ dirs) cell target passable joined is_hit walk =
    let next = walk.0 in
    let step = walk.1.0 in
    let rest = walk_most passes hit start size marks spread dirs next target step.next (joined.0 ++ dir ∷ [], IsWalk-push passes joined.0 start cell next dir joined.1 step) is_hit walk.1.1 in
    let back = spread.settled next (opposite dir) step.next rest.1 cell (Step-opposite passes dir cell next step) in
    let sound = spread.sound in
    let few = sound.few (spot_of size next) rest.1 in
    let count : count_by (λ x. ltb x free) marks ≤ 4202500 = omega (arith, count_by-le-length (λ (x : ℕ). ltb x free) marks, sound.long, few_spots size) in
    (omega (arith, rest.0, back, cost_back dir, sum_by-cons step_cost dir dirs), omega (arith, back, few, cost_back dir, step_cost_most dir))

far_of_mark : (passes hit : Cell → Bool) (start : Cell) (size : Size) (marks : List ℕ) → IsSpread passes hit start size marks → IsTrue (passes start) → CanReach passes start hit
    → (cell : Cell) → IsInside size cell → IsFar passes hit start cell (far_of (mark_of size marks cell))
far_of_mark passes hit start size marks spread begins reach cell inside =
    let sound = spread.sound in
    elim (mark_cases (mark_of size marks cell)) [
      | inl known ↦
          let found = sound.cells (spot_of size cell) known.0.0 in
          let same : found.0 ≡ cell = spot_of-inj size found.0 cell (sound.inside found.0 found.1.0) inside (sym found.1.1) in
          let passable : IsTrue (passes cell) = subst (λ (c : Cell). IsTrue (passes c)) same found.1.0 in
          let joined = sound.joined cell passable known.0.1 in
          let nearest : IsNearest passes hit cell (mark_of size marks cell - 1) = record {
            walk = sound.walks cell passable known.0.1;
            least = λ target dirs is_hit walk. omega (arith, (walk_most passes hit start size marks spread dirs cell target passable joined is_hit walk).0);
          } in
          subst (λ (far : Option ℕ). IsFar passes hit start cell far) (sym (far_of-reached (mark_of size marks cell) known.1)) (joined, nearest)
      | inr none ↦
          let apart : Joined passes start cell → ⊥ = λ joined.
          let passable = Joined-passes passes start cell begins joined in
          let way = Joined-trans passes cell start reach.0 (Joined-sym passes start cell joined) reach.1.1 in
          none.0 (sound.passable cell passable) (walk_most passes hit start size marks spread way.0 cell reach.0 passable joined reach.1.0 way.1).1 in
          subst (λ (far : Option ℕ). IsFar passes hit start cell far) (sym (far_of-none (mark_of size marks cell) none.1)) apart
    ]

pub field_of_spread : (passes hit : Cell → Bool) (start : Cell) (size : Size) (marks : List ℕ) → IsSpread passes hit start size marks → IsTrue (passes start) → CanReach passes start hit
    → IsFieldOf passes hit start (cells_of size marks)
field_of_spread passes hit start size marks spread begins reach =
    let sound = spread.sound in
    record {
      covers = cells_cover size marks;
      begins = begins;
      inside = sound.inside;
      fars = λ cell inside. subst (λ (far : Option ℕ). IsFar passes hit start cell far) (sym (far_in_is size marks cell inside)) (far_of_mark passes hit start size marks spread begins reach cell inside);
    }

pub table_of_sound : (passes hit : Cell → Bool) (start : Cell) (size : Size) (marks : List ℕ) → IsSound passes hit start size marks → IsTable size marks
table_of_sound passes hit start size marks sound = record {
  long = sound.long;
  most = sound.most;
  cells = λ spot some. let found = sound.cells spot some in IsCellSpot-of size found.0 spot (sound.inside found.0 found.1.0) found.1.1;
}
