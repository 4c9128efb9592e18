-- Following a jump: where it leads, what it costs, and that all jumps in its direction are followed by it.
use Rattle.std.proofs.Common.{ℕ, zero, suc, ◌≡◌, ◌+◌, ◌-◌, ◌*◌, ◌/◌, ◌<◌, ◌≤◌, Bool, false, IsTrue, IsFalse, List, Option, Some, min, max}
use Rattle.std.proofs.Common.{inl, inr, ◌⊎◌, refl, ap, sym, subst, ◌∙◌, arith}
use Rattle.std.proofs.lemmas.Bool.{both_ways, cases_lt}
use Rattle.std.proofs.lemmas.Option.{same_Some}
use Rattle.nav_types.specs.declared.cells.Cell.{Cell}
use Rattle.nav_types.specs.declared.cells.Size.{Size}
use Rattle.nav_types.specs.declared.directions.Dir.{Dir}
use Rattle.nav_types.specs.declared.directions.Dir.TheVariants.{N, E, S, W, NE, SE, SW, NW}
use Rattle.nav_types.specs.Cells.{IsInside}
use Rattle.nav_types.specs.Directions.{is_straight}
use Rattle.open_heap.specs.Queue.{Queue}
use Rattle.jump_scan.specs.Stops.{IsRun, HaltsStraight, HaltsDiagonal, IsDiagonalStopWithin}
use Rattle.jump_scan.specs.Successors.{IsSuccessor}
use Rattle.jump_scan.proofs.Running.{one_stop_only}
use Rattle.jump_search.specs.declared.nodes.Node.{Node}
use Rattle.jump_search.specs.declared.states.JumpState.{JumpState}
use Rattle.jump_search.specs.Estimates.{IsConsistent}
use Rattle.jump_search.specs.JumpStates.{IsStopOf, IsJump, octile_between}
use Rattle.jump_search.specs.inner.Numbered.{HasCheaper}
use Rattle.jump_search.specs.inner.Searched.{IsCostToHit, IsLastRun, HasNearer, HasOpenedParent, IsNoted}
use Rattle.jump_search.specs.inner.Underway.{steps_over, estimate_of, IsOpenNode, IsFollowedAlong}
use Rattle.jump_search.specs.inner.Underway.{IsFollowable, Settles, Notes, Follows}
use Rattle.jump_search.specs.inner.Traced.{Moves}
use Rattle.jump_search.proofs.Measuring.{run_moves, octile_run, falls_along}
use Rattle.jump_search.proofs.Turns.{diagonal_cost}
use Rattle.jump_search.proofs.Dropping.{going_dropped}
use Rattle.jump_search.proofs.Lasting.{all_later_self, all_later_through, along_later, open_later}

-- how many steps a run has
pub steps_moved : (dir : Dir) (count : ℕ) (from to : Cell) → Moves dir count from to → count ≡ steps_over from to
steps_moved N count from to moves = let c = moves.columns in let r = moves.rows in omega (arith, c, r)
steps_moved E count from to moves = let c = moves.columns in let r = moves.rows in omega (arith, c, r)
steps_moved S count from to moves = let c = moves.columns in let r = moves.rows in omega (arith, c, r)
steps_moved W count from to moves = let c = moves.columns in let r = moves.rows in omega (arith, c, r)
steps_moved NE count from to moves = let c = moves.columns in let r = moves.rows in omega (arith, c, r)
steps_moved SE count from to moves = let c = moves.columns in let r = moves.rows in omega (arith, c, r)
steps_moved SW count from to moves = let c = moves.columns in let r = moves.rows in omega (arith, c, r)
steps_moved NW count from to moves = let c = moves.columns in let r = moves.rows in omega (arith, c, r)

pub steps_run : (passes : Cell → Bool) (dir : Dir) (count : ℕ) (from to : Cell) → IsRun passes dir count from to
    → count ≡ steps_over from to
steps_run passes dir count from to run = steps_moved dir count from to (run_moves passes dir count from to run)

-- a stop is reached by a run
run_to_stop : (passes hit : Cell → Bool) (dir : Dir) (from stop : Cell) → IsStopOf passes hit dir from stop
    → IsRun passes dir (steps_over from stop) from stop
run_to_stop passes hit dir from stop is = elim is [
  | inl straight ↦ let end = straight.1 in
      subst (λ (n : ℕ). IsRun passes dir n from stop) (steps_run passes dir end.count from stop end.run) end.run
  | inr diagonal ↦ let end = diagonal.1 in
      subst (λ (n : ℕ). IsRun passes dir n from stop) (steps_run passes dir end.count from stop end.run) end.run
]

-- a run leads to a stop
pub moves_to_stop : (passes hit : Cell → Bool) (dir : Dir) (from stop : Cell) → IsStopOf passes hit dir from stop
    → (count : ℕ) × Moves dir count from stop
moves_to_stop passes hit dir from stop is =
    let steps = steps_over from stop in
    (steps, run_moves passes dir steps from stop (run_to_stop passes hit dir from stop is))

run_free : (passes : Cell → Bool) (dir : Dir) (count : ℕ) (from to : Cell) → IsTrue (passes from)
    → IsRun passes dir count from to → IsTrue (passes to)
run_free passes dir zero from to free run = subst (λ (c : Cell). IsTrue (passes c)) run free
run_free passes dir (suc count) from to free run = run_free passes dir count run.0 to run.1.0.next run.1.1

-- a stop is passable
pub stop_free : (passes hit : Cell → Bool) (dir : Dir) (from stop : Cell) → IsTrue (passes from)
    → IsStopOf passes hit dir from stop → IsTrue (passes stop)
stop_free passes hit dir from stop free is =
    run_free passes dir (steps_over from stop) from stop free (run_to_stop passes hit dir from stop is)

one_stop_of : (passes hit : Cell → Bool) (dir : Dir) (from a b : Cell) → IsStopOf passes hit dir from a
    → IsStopOf passes hit dir from b → a ≡ b
one_stop_of passes hit dir from a b one two = elim one [
  | inl p ↦ elim two [
    | inl q ↦ one_stop_only passes (HaltsStraight passes hit dir) dir from a b p.1 q.1
    | inr q ↦ absurd (both_ways (is_straight dir) q.0 p.0)
  ]
  | inr p ↦ elim two [
    | inl q ↦ absurd (both_ways (is_straight dir) p.0 q.0)
    | inr q ↦ one_stop_only passes (HaltsDiagonal passes hit dir) dir from a b p.1 q.1
  ]
]

-- what a landed node is
pub record HasLanded (from : JumpState) (cost : ℕ) (dir : Dir) (stop : Cell) (node : Node) : Type 0 where
  pub cell : node.state.cell ≡ stop
  pub arrived : node.state.arrived ≡ Some dir
  pub costs : node.cost ≡ cost + octile_between from.cell stop
  pub run : node.run ≡ steps_over from.cell stop

jump_landed : (passes hit : Cell → Bool) (from : JumpState) (cost : ℕ) (dir : Dir) (stop : Cell) (node : Node)
    → IsSuccessor passes from.cell from.arrived dir → IsStopOf passes hit dir from.cell stop
    → HasLanded from cost dir stop node
    → IsJump passes hit from node.state
jump_landed passes hit from cost dir stop node successor is landed = record {
  dir = dir;
  arrived = landed.arrived;
  successor = successor;
  stop = subst (λ (c : Cell). IsStopOf passes hit dir from.cell c) (sym landed.cell) is;
}

pub parent_landed : (passes hit : Cell → Bool) (nodes : List Node) (from : JumpState) (cost : ℕ) (dir : Dir)
    (stop : Cell) (node : Node)
    → IsSuccessor passes from.cell from.arrived dir → IsStopOf passes hit dir from.cell stop
    → HasLanded from cost dir stop node
    → IsOpenNode nodes from cost → HasOpenedParent passes hit nodes node
parent_landed passes hit nodes from cost dir stop node successor is landed has =
    let jump = jump_landed passes hit from cost dir stop node successor is landed in
    let run = subst (λ (c : Cell). IsRun passes dir (steps_over from.cell c) from.cell c) (sym landed.cell)
    (run_to_stop passes hit dir from.cell stop is) in
    let same = sym has.same in
    record {
      place = has.number;
      parent = has.node;
      known = has.known;
      opened = has.opened;
      jump = subst (λ (s : JumpState). IsJump passes hit s node.state) same jump;
      cost = landed.costs ∙ ap (λ (c : Cell). cost + octile_between from.cell c) (sym landed.cell)
          ∙ ap (λ (n : ℕ). n + octile_between from.cell node.state.cell) (sym has.costs)
          ∙ ap (λ (s : JumpState). has.node.cost + octile_between s.cell node.state.cell) same;
      last = subst (λ (s : JumpState). IsLastRun passes s.cell node.state node.run) same (
        dir,
        (
          landed.arrived,
          subst (λ (n : ℕ). IsRun passes dir n from.cell node.state.cell)
              (ap (λ (c : Cell). steps_over from.cell c) landed.cell ∙ sym landed.run) run,
        ),
      );
    }

same_state : (a b : JumpState) → a.cell ≡ b.cell → a.arrived ≡ b.arrived → a ≡ b
same_state a b cells arrivals =
    let one : a ≡ record { cell = b.cell; arrived = a.arrived } =
    ap (λ (c : Cell). record { cell = c; arrived = a.arrived }) cells in
    one ∙ ap (λ (d : Option Dir). record { cell = b.cell; arrived = d }) arrivals

-- each jump in the direction leads to the landed node's state
pub along_landed : (all : Bool) (passes hit : Cell → Bool) (start : Cell) (nodes : List Node) (from : JumpState) (cost : ℕ) (dir : Dir) (stop : Cell)
    (node : Node)
    → IsStopOf passes hit dir from.cell stop → HasLanded from cost dir stop node
    → IsNoted all passes hit start nodes node.state node.cost node.run → IsFollowedAlong all passes hit start nodes from cost dir
along_landed all passes hit start nodes from cost dir stop node is landed noted = λ state run jump arrived last.
    let dir_jump : jump.dir ≡ dir = same_Some jump.dir dir (sym jump.arrived ∙ arrived) in
    let stop_jump = subst (λ (d : Dir). IsStopOf passes hit d from.cell state.cell) dir_jump jump.stop in
    let cells : state.cell ≡ stop = one_stop_of passes hit dir from.cell state.cell stop stop_jump is in
    let one : state ≡ node.state = same_state state node.state (cells ∙ sym landed.cell)
    (arrived ∙ sym landed.arrived) in
    let steps : run ≡ node.run = steps_run passes last.0 run from.cell state.cell last.1.1
    ∙ ap (λ (c : Cell). steps_over from.cell c) cells ∙ sym landed.run in
    let costs : cost + octile_between from.cell state.cell ≡ node.cost =
    ap (λ (c : Cell). cost + octile_between from.cell c) cells ∙ sym landed.costs in
    subst (λ (s : JumpState). IsNoted all passes hit start nodes s (cost + octile_between from.cell state.cell) run) (sym one)
    (subst (λ (n : ℕ). IsNoted all passes hit start nodes node.state n run) (sym costs)
    (subst (λ (n : ℕ). IsNoted all passes hit start nodes node.state node.cost n) (sym steps) noted))

-- an estimate does not fall along a jump
pub estimate_landed : (passes hit : Cell → Bool) (ahead : Cell → ℕ) (from : JumpState) (cost floor : ℕ) (dir : Dir)
    (stop : Cell) (node : Node)
    → IsConsistent passes hit ahead → IsStopOf passes hit dir from.cell stop → HasLanded from cost dir stop node
    → floor ≤ cost + ahead from.cell → floor ≤ estimate_of ahead node
estimate_landed passes hit ahead from cost floor dir stop node consistent is landed early =
    let through = falls_along passes hit ahead consistent dir (steps_over from.cell stop) from.cell stop
    (run_to_stop passes hit dir from.cell stop is) in
    let costs = landed.costs in
    let ends : ahead node.state.cell ≡ ahead stop = ap ahead landed.cell in
    omega (arith, through, costs, ends, early)

octile_most : (c r : ℕ) → c < 2048 → r < 2048 → 92682 * min c r + 65536 * (max c r - min c r) ≤ 189812736
octile_most c r low_c low_r = omega (arith, low_c, low_r)

apart_most : (a b : ℕ) → a < 2048 → b < 2048 → (a - b) + (b - a) < 2048
apart_most a b low_a low_b = omega (arith, low_a, low_b)

pub between_most : (a b : Cell) → a.i < 2048 → a.j < 2048 → b.i < 2048 → b.j < 2048 → octile_between a b ≤ 189812736
between_most a b ai aj bi bj = octile_most _ _ (apart_most a.i b.i ai bi) (apart_most a.j b.j aj bj)

pub low_cell : (size : Size) (cell : Cell) → IsInside size cell → (cell.i < 2048) × (cell.j < 2048)
low_cell size cell inside =
    let wide = size.wide in let high = size.high in
    let few = wide.few in let low = high.few in
    let column = inside.column in let row = inside.row in
    (omega (arith, few, column), omega (arith, low, row))

-- following the one jump in a direction
follows_landed : (all : Bool) (passes hit : Cell → Bool) (start : Cell) (ahead : Cell → ℕ) (from : JumpState) (cost : ℕ) (dir : Dir) (stop : Cell)
    (node : Node)
    (old new : List Node) (before after : Queue)
    → IsSuccessor passes from.cell from.arrived dir → IsStopOf passes hit dir from.cell stop
    → HasLanded from cost dir stop node
    → octile_between from.cell stop ≤ 189812736 → IsConsistent passes hit ahead
    → Settles all ahead node old new before after
    → Follows all passes hit start ahead from cost (λ other. other ≡ dir) old new before after
follows_landed all passes hit start ahead from cost dir stop node old new before after successor is landed most consistent
    noted =
    let relaxes = noted.1.0 in
    record {
      later = relaxes.later;
      along = λ other same. subst (λ (d : Dir). IsFollowedAlong all passes hit start new from cost d) (sym same)
          (along_landed all passes hit start new from cost dir stop node is landed (inl relaxes.relaxed));
      going = λ origin floor top going has early room.
          let costs = landed.costs in
          going_dropped all passes hit origin ahead floor top new noted.0 after noted.1.1
          (relaxes.going all passes hit origin floor top going
          (estimate_landed passes hit ahead from cost floor dir stop node consistent is landed early)
          (omega (arith, costs, room, most)) (parent_landed passes hit old from cost dir stop node successor is landed has));
    }

-- the one jump in a direction is left
follows_left : (all : Bool) (passes hit : Cell → Bool) (start : Cell) (ahead : Cell → ℕ) (from : JumpState) (cost : ℕ) (dir : Dir)
    (stop : Cell) (node : Node) (nodes : List Node) (queue : Queue)
    → IsStopOf passes hit dir from.cell stop → HasLanded from cost dir stop node → IsFalse all
    → HasCheaper nodes node.state.cell node.cost
    → Follows all passes hit start ahead from cost (λ other. other ≡ dir) nodes nodes queue queue
follows_left all passes hit start ahead from cost dir stop node nodes queue is landed some cheaper = record {
  later = all_later_self nodes;
  along = λ other same. subst (λ (d : Dir). IsFollowedAlong all passes hit start nodes from cost d) (sym same)
      (along_landed all passes hit start nodes from cost dir stop node is landed (inr (inl (some, cheaper))));
  going = λ origin floor top going has early room. going;
}

-- the one jump in a direction is noted, or left
pub follows_noted : (all : Bool) (passes hit : Cell → Bool) (start : Cell) (ahead : Cell → ℕ) (from : JumpState) (cost : ℕ) (dir : Dir) (stop : Cell)
    (node : Node)
    (old new : List Node) (before after : Queue)
    → IsSuccessor passes from.cell from.arrived dir → IsStopOf passes hit dir from.cell stop
    → HasLanded from cost dir stop node
    → octile_between from.cell stop ≤ 189812736 → IsConsistent passes hit ahead → Notes all ahead node old new before after
    → Follows all passes hit start ahead from cost (λ other. other ≡ dir) old new before after
follows_noted all passes hit start ahead from cost dir stop node old new before after successor is landed most consistent notes = elim notes [
  | inl noted ↦
      follows_landed all passes hit start ahead from cost dir stop node old new before after successor is landed most consistent noted
  | inr left ↦
      subst (λ (ns : List Node). Follows all passes hit start ahead from cost (λ other. other ≡ dir) old ns before after)
      (sym left.1.0)
      (subst (λ (q : Queue). Follows all passes hit start ahead from cost (λ other. other ≡ dir) old old before q) (sym left.1.1)
      (follows_left all passes hit start ahead from cost dir stop node old before is landed left.0.0 left.0.1))
]

-- where there is a jump in the direction, a hit is nearer
pub follows_none : (all : Bool) (passes hit : Cell → Bool) (start : Cell) (ahead : Cell → ℕ) (from : JumpState) (cost : ℕ)
    (dir : Dir) (nodes : List Node) (queue : Queue)
    → ((stop : Cell) → IsStopOf passes hit dir from.cell stop
    → HasNearer passes hit start (cost + octile_between from.cell stop))
    → Follows all passes hit start ahead from cost (λ other. other ≡ dir) nodes nodes queue queue
follows_none all passes hit start ahead from cost dir nodes queue none = record {
  later = all_later_self nodes;
  along = λ other same state run jump arrived last.
      let dir_jump : jump.dir ≡ dir = same_Some jump.dir dir
      (sym jump.arrived ∙ arrived ∙ ap (λ (d : Dir). Some d) same) in
      inr (inr (none state.cell (subst (λ (d : Dir). IsStopOf passes hit d from.cell state.cell) dir_jump jump.stop)));
  going = λ origin floor top going has early room. going;
}

-- the direction is no successor
pub follows_pruned : (all : Bool) (passes hit : Cell → Bool) (start : Cell) (ahead : Cell → ℕ) (from : JumpState) (cost : ℕ) (dir : Dir)
    (nodes : List Node) (queue : Queue)
    → (IsSuccessor passes from.cell from.arrived dir → ⊥)
    → Follows all passes hit start ahead from cost (λ other. other ≡ dir) nodes nodes queue queue
follows_pruned all passes hit start ahead from cost dir nodes queue not = record {
  later = all_later_self nodes;
  along = λ other same state run jump arrived last.
      let dir_jump : jump.dir ≡ dir = same_Some jump.dir dir
      (sym jump.arrived ∙ arrived ∙ ap (λ (d : Dir). Some d) same) in
      absurd (not (subst (λ (d : Dir). IsSuccessor passes from.cell from.arrived d) dir_jump jump.successor));
  going = λ origin floor top going has early room. going;
}

-- a jump costs little enough
pub jump_most : (passes hit : Cell → Bool) (size : Size) (dir : Dir) (from stop : Cell)
    → ((cell : Cell) → IsTrue (passes cell) → IsInside size cell)
    → IsTrue (passes from) → IsStopOf passes hit dir from stop → octile_between from stop ≤ 189812736
jump_most passes hit size dir from stop within free is =
    let a = low_cell size from (within from free) in
    let b = low_cell size stop (within stop (stop_free passes hit dir from stop free is)) in
    between_most from stop a.0 a.1 b.0 b.1

-- a search that has followed some jumps can follow others
pub followable_later : {all : Bool} {passes hit : Cell → Bool} {start : Cell} {ahead : Cell → ℕ} {from : JumpState} {cost : ℕ}
    {Within : Dir → Type 0} {old new : List Node} {before after : Queue}
    → Follows all passes hit start ahead from cost Within old new before after
    → IsFollowable all passes hit ahead from cost old before
    → IsFollowable all passes hit ahead from cost new after
followable_later follows f = record {
  start = f.start;
  floor = f.floor;
  most = f.most;
  going = follows.going f.start f.floor f.most f.going f.opened f.early f.room;
  opened = open_later _ _ _ _ follows.later f.opened;
  early = f.early;
  consistent = f.consistent;
  room = f.room;
  low = f.low;
}

-- following jumps in some directions, and then in others
pub follows_both : {all : Bool} {passes hit : Cell → Bool} {start : Cell} {ahead : Cell → ℕ} {from : JumpState} {cost : ℕ}
    {One Two : Dir → Type 0} {a b c : List Node} {p q r : Queue}
    → Follows all passes hit start ahead from cost One a b p q → Follows all passes hit start ahead from cost Two b c q r
    → Follows all passes hit start ahead from cost (λ dir. One dir ⊎ Two dir) a c p r
follows_both one two = record {
  later = all_later_through _ _ _ one.later two.later;
  along = λ dir within. elim within [
    | inl first ↦ along_later _ _ _ _ _ _ _ _ dir two.later (one.along dir first)
    | inr last ↦ two.along dir last
  ];
  going = λ origin floor top going has early room.
      two.going origin floor top (one.going origin floor top going has early room)
      (open_later _ _ _ _ one.later has) early room;
}

-- each direction is one of the eight
pub each_of_eight : (dir : Dir) → (dir ≡ N) ⊎ ((dir ≡ E) ⊎ ((dir ≡ S) ⊎ ((dir ≡ W) ⊎ ((dir ≡ NE) ⊎ ((dir ≡ SE)
    ⊎ ((dir ≡ SW) ⊎ (dir ≡ NW)))))))
each_of_eight N = inl refl
each_of_eight E = inr (inl refl)
each_of_eight S = inr (inr (inl refl))
each_of_eight W = inr (inr (inr (inl refl)))
each_of_eight NE = inr (inr (inr (inr (inl refl))))
each_of_eight SE = inr (inr (inr (inr (inr (inl refl)))))
each_of_eight SW = inr (inr (inr (inr (inr (inr (inl refl))))))
each_of_eight NW = inr (inr (inr (inr (inr (inr (inr refl))))))

-- a diagonal run that has no stop within the steps that a walk to a hit leaves has none that costs no more than the walk
pub nearer_than_stop : (passes hit : Cell → Bool) (start : Cell) (limit cost most : ℕ) (dir : Dir) (from stop : Cell)
    → IsCostToHit passes hit start limit → most ≡ (limit - cost) / 92682 → is_straight dir ≡ false
    → (IsDiagonalStopWithin passes hit dir most from stop → ⊥) → IsStopOf passes hit dir from stop
    → HasNearer passes hit start (cost + octile_between from stop)
nearer_than_stop passes hit start limit cost most dir from stop costs steps diagonal none is = elim is [
  | inl straight ↦ absurd (both_ways (is_straight dir) diagonal straight.0)
  | inr end ↦
      let count = end.1.count in
      let whole = octile_run passes dir count from stop end.1.run in
      let each = diagonal_cost dir diagonal in
      let total : octile_between from stop ≡ count * 92682 = whole ∙ ap (λ (n : ℕ). count * n) each in
      elim (cases_lt most count) [
        | inl more ↦ (limit, (costs, omega (arith, more, steps, total)))
        | inr within ↦ absurd (none (end.1, within))
      ]
]
