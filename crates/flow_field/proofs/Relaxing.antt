-- The steps from a place, each looked at once.
use Rattle.std.proofs.Common.{ℕ, ◌≡◌, ◌+◌, ◌-◌, ◌<◌, ◌≤◌, inl, inr, Bool, List, [], ◌∷◌, ◌++◌, IsTrue, length, get_or, set, sum, refl, sym, ap, ◌∙◌, subst, arith}
use Rattle.std.proofs.lemmas.Bool.{cases_eq}
use Rattle.std.proofs.lemmas.List.{length-set, get_or-set_same, get_or-set_other}
use Rattle.std.proofs.lemmas.List.Sums.{sum_by-set, sum_by-cons}
use Rattle.nav_types.specs.declared.cells.Cell.{Cell}
use Rattle.nav_types.specs.declared.cells.Size.{Size}
use Rattle.nav_types.specs.declared.directions.Dir.{Dir}
use Rattle.nav_types.specs.declared.directions.Dir.TheVariants.{N, E, S, W, NE, SE, SW, NW}
use Rattle.nav_types.specs.Beside.{IsFreeBeside}
use Rattle.nav_types.specs.Directions.{step_cost, opposite, row_part, column_part}
use Rattle.nav_types.specs.Walks.{Step}
use Rattle.nav_types.proofs.Walking.{IsWalk-push, Step-opposite, step_cost_most, step_cost_some, free_is_legal, legal_is_free}
use Rattle.walks.specs.Chosen.{preference}
use Rattle.flow_field.specs.declared.spreading.FieldSpread.{FieldSpread}
use Rattle.flow_field.specs.inner.Marks.{free, spot_of, mark_of, IsBesideSpot, IsSound, IsSettledAlong, IsSpreading, Waits, Every}
use Rattle.flow_field.specs.inner.Spreads.{WaitsIn, weight, IsLowered, rank, StepsFrom, Relaxes, RelaxesAll, IsInner}
use Rattle.flow_field.proofs.Spots.{spot_of-lt, leads_beside, beside_leads, beside_same}
use Rattle.flow_field.proofs.Lowering.{IsFall, IsQueued, known_is, spreading_fallen}

pub cost_back : (dir : Dir) → step_cost (opposite dir) ≡ step_cost dir
cost_back N = refl
cost_back E = refl
cost_back S = refl
cost_back W = refl
cost_back NE = refl
cost_back SE = refl
cost_back SW = refl
cost_back NW = refl

ranked : (dir : Dir) → get_or preference (rank dir) N ≡ dir
ranked N = refl
ranked E = refl
ranked S = refl
ranked W = refl
ranked NE = refl
ranked SE = refl
ranked SW = refl
ranked NW = refl

same_rank : (a b : Dir) → rank a ≡ rank b → a ≡ b
same_rank a b same = sym (ranked a) ∙ (ap (λ (k : ℕ). get_or preference k N) same ∙ ranked b)

rank_most : (dir : Dir) → rank dir < 8
rank_most N = omega arith
rank_most E = omega arith
rank_most S = omega arith
rank_most W = omega arith
rank_most NE = omega arith
rank_most SE = omega arith
rank_most SW = omega arith
rank_most NW = omega arith

-- a settled step need no longer be left out
steps_fewer : (passes hit : Cell → Bool) (start : Cell) (size : Size) (here : Cell) (dir : Dir) (marks : List ℕ) (Waiting : ℕ → Type 0)
    → IsSettledAlong passes size marks here dir
    → IsSpreading passes hit start size Every (StepsFrom here (rank dir)) marks Waiting
    → IsSpreading passes hit start size Every (StepsFrom here (rank dir + 1)) marks Waiting
steps_fewer passes hit start size here dir marks Waiting done spreads = record {
  sound = spreads.sound;
  reached = spreads.reached;
  ends = spreads.ends;
  settled = λ cell way pass below. elim (spreads.settled cell way pass below) [
    | inl settled ↦ inl settled
    | inr rest ↦ elim rest [
      | inl waits ↦ inr (inl waits)
      | inr out ↦ elim (cases_eq (rank dir) (rank way)) [
        | inl same ↦
            let P = λ (c : Cell). IsSettledAlong passes size marks c way in
            let Q = λ (d : Dir). IsSettledAlong passes size marks here d in
            inl (subst P (sym out.0) (subst Q (same_rank dir way same) done))
        | inr other ↦ inr (inr (out.0, omega (arith, out.1, other)))
      ]
    ]
  ];
}

-- what a step from a cell gives
pub record IsStepFrom (passes hit : Cell → Bool) (start : Cell) (size : Size) (here : Cell) (dir : Dir) (at to row column mark : ℕ) (marks : List ℕ) : Type 0 where
  pub is_here : spot_of size here ≡ at
  pub passable : IsTrue (passes here)
  pub below : get_or marks at 0 < free
  pub to_next : IsBesideSpot (size.w + 2) dir at to
  pub to_row : IsBesideSpot (size.w + 2) (row_part dir) at row
  pub to_column : IsBesideSpot (size.w + 2) (column_part dir) at column
  pub is : mark ≡ get_or marks at 0 + step_cost dir

-- the cell of the place beside, where it has a mark
cell_beside : (passes hit : Cell → Bool) (start : Cell) (size : Size) (here : Cell) (dir : Dir) (at to : ℕ) (marks : List ℕ) → IsSound passes hit start size marks
    → spot_of size here ≡ at → IsTrue (passes here) → IsBesideSpot (size.w + 2) dir at to → 0 < get_or marks to 0 → IsFreeBeside passes here dir
cell_beside passes hit start size here dir at to marks sound is_here passable beside some =
    let found = sound.cells to some in
    (found.0, (leads_beside size dir here found.0 at to (sound.inside here passable) (sound.inside found.0 found.1.0) (sym is_here) found.1.1 beside, found.1.0))

-- the place of the cell that a step leads to
place_beside : (size : Size) (here next : Cell) (passes : Cell → Bool) (dir : Dir) (at to : ℕ) → spot_of size here ≡ at → IsBesideSpot (size.w + 2) dir at to → Step passes dir here next → spot_of size next ≡ to
place_beside size here next passes dir at to is_here beside step =
    let P = λ (k : ℕ). IsBesideSpot (size.w + 2) dir k (spot_of size next) in
    beside_same (size.w + 2) dir at (spot_of size next) to (subst P is_here (beside_leads size dir here next step.leads)) beside

mark_beside : (passes hit : Cell → Bool) (start : Cell) (size : Size) (here : Cell) (dir : Dir) (at to : ℕ) (marks : List ℕ) → IsSound passes hit start size marks
    → spot_of size here ≡ at → IsBesideSpot (size.w + 2) dir at to → IsFreeBeside passes here dir → 0 < get_or marks to 0
mark_beside passes hit start size here dir at to marks sound is_here beside (next, way) =
    let P = λ (k : ℕ). IsBesideSpot (size.w + 2) dir k (spot_of size next) in
    let same : spot_of size next ≡ to = beside_same (size.w + 2) dir at (spot_of size next) to (subst P is_here (beside_leads size dir here next way.0)) beside in
    omega (arith, sound.passable next way.1, ap (λ (k : ℕ). get_or marks k 0) same)

-- the mark of the next cell falls
fall_of : (passes hit : Cell → Bool) (start : Cell) (size : Size) (here next : Cell) (dir : Dir) (at to row column mark : ℕ) (marks : List ℕ)
    → IsStepFrom passes hit start size here dir at to row column mark marks → IsSound passes hit start size marks
    → Step passes dir here next → mark < get_or marks to 0 → IsFall passes hit start size marks next mark
fall_of passes hit start size here next dir at to row column mark marks from sound step less =
    let is_next = place_beside size here next passes dir at to from.is_here from.to_next step in
    let is = from.is in
    let same_here : mark_of size marks here ≡ get_or marks at 0 = ap (λ (k : ℕ). get_or marks k 0) from.is_here in
    let same_next : mark_of size marks next ≡ get_or marks to 0 = ap (λ (k : ℕ). get_or marks k 0) is_next in
    let below : mark_of size marks here < free = omega (arith, from.below) in
    let positive = sound.passable here from.passable in
    let joined = sound.joined here from.passable below in
    let walk = sound.walks here from.passable below in
    let led = walk.1 in
    let costs = led.costs in
    let few_here = sound.few (spot_of size here) below in
    record {
      passable = step.next;
      some = omega (arith, step_cost_some dir);
      less = omega arith;
      joined = (joined.0 ++ dir ∷ [], IsWalk-push passes joined.0 start here next dir joined.1 step);
      walk = (
        opposite dir ∷ walk.0,
        record {
          target = led.target;
          is_hit = led.is_hit;
          walk = (here, (Step-opposite passes dir here next step, led.walk));
          costs = omega (arith, sum_by-cons step_cost (opposite dir) walk.0, cost_back dir);
        },
      );
      most = elim (known_is (mark_of size marks next)) [
        | inl w ↦ omega (arith, w.1, sound.few (spot_of size next) w.0)
        | inr w ↦ omega (arith, w.1, step_cost_most dir)
      ];
    }

pub relax_step : (passes hit : Cell → Bool) (start : Cell) (size : Size) (here : Cell) (dir : Dir) (at to row column mark : ℕ) (old new : FieldSpread)
    → IsStepFrom passes hit start size here dir at to row column mark old.marks.items → IsLowered to row column mark old new
    → IsSpreading passes hit start size Every (StepsFrom here (rank dir)) old.marks.items (WaitsIn old)
    → IsSpreading passes hit start size Every (StepsFrom here (rank dir + 1)) new.marks.items (WaitsIn new)
relax_step passes hit start size here dir at to row column mark old new from (inl (pair, falls)) spreads =
    let marks = old.marks.items in
    let sound = spreads.sound in
    let less = falls.less in
    let legal = free_is_legal passes dir here from.passable
    (cell_beside passes hit start size here dir at to marks sound from.is_here from.passable from.to_next (omega arith))
    (cell_beside passes hit start size here (row_part dir) at row marks sound from.is_here from.passable from.to_row pair.0)
    (cell_beside passes hit start size here (column_part dir) at column marks sound from.is_here from.passable from.to_column pair.1) in
    let next = legal.0 in
    let step = legal.1 in
    let is_next = place_beside size here next passes dir at to from.is_here from.to_next step in
    let fall = fall_of passes hit start size here next dir at to row column mark marks from sound step less in
    let queued : IsQueued (spot_of size next) (WaitsIn old) (WaitsIn new) = subst (λ (k : ℕ). IsQueued k (WaitsIn old) (WaitsIn new)) (sym is_next)
    (record { kept = falls.kept; added = falls.added; only = falls.only }) in
    let fallen = spreading_fallen passes hit start size Every (StepsFrom here (rank dir)) marks (WaitsIn old) (WaitsIn new) next mark fall queued spreads in
    let same : set marks (spot_of size next) mark ≡ new.marks.items = ap (λ (k : ℕ). set marks k mark) is_next ∙ sym falls.marks in
    let now = subst (λ (m : List ℕ). IsSpreading passes hit start size Every (StepsFrom here (rank dir)) m (WaitsIn new)) same fallen in
    let within : to < length marks = omega (arith, spot_of-lt size next (sound.inside next step.next), sound.long, is_next) in
    let value : get_or new.marks.items to 0 ≡ mark = ap (λ (m : List ℕ). get_or m to 0) falls.marks ∙ get_or-set_same marks to mark 0 within in
    let apart : at ≡ to → ⊥ = λ e. omega (arith, less, from.is, ap (λ (k : ℕ). get_or marks k 0) e) in
    let kept : get_or new.marks.items at 0 ≡ get_or marks at 0 = ap (λ (m : List ℕ). get_or m at 0) falls.marks ∙ get_or-set_other marks to at mark 0 apart in
    let done : IsSettledAlong passes size new.marks.items here dir = λ other taken.
    let is_other = place_beside size here other passes dir at to from.is_here from.to_next taken in
    omega (arith, ap (λ (k : ℕ). get_or new.marks.items k 0) is_other, ap (λ (k : ℕ). get_or new.marks.items k 0) from.is_here, value, kept, from.is) in
    steps_fewer passes hit start size here dir new.marks.items (WaitsIn new) done now
relax_step passes hit start size here dir at to row column mark old new from (inr (none, stays)) spreads =
    let marks = old.marks.items in
    let sound = spreads.sound in
    let done : IsSettledAlong passes size marks here dir = λ other taken.
    let is_other = place_beside size here other passes dir at to from.is_here from.to_next taken in
    let parts = legal_is_free passes dir here (other, taken) in
    let least = none (
      mark_beside passes hit start size here (row_part dir) at row marks sound from.is_here from.to_row parts.1.0,
      mark_beside passes hit start size here (column_part dir) at column marks sound from.is_here from.to_column parts.1.1,
    ) in
    omega (arith, least, ap (λ (k : ℕ). get_or marks k 0) is_other, ap (λ (k : ℕ). get_or marks k 0) from.is_here, from.is) in
    let now = steps_fewer passes hit start size here dir marks (WaitsIn old) done spreads in
    let first = subst (λ (m : List ℕ). IsSpreading passes hit start size Every (StepsFrom here (rank dir + 1)) m (Waits old.straight old.diagonal)) (sym stays.marks) now in
    let second = subst (λ (q : List ℕ). IsSpreading passes hit start size Every (StepsFrom here (rank dir + 1)) new.marks.items (Waits q old.diagonal)) (sym stays.straight) first in
    subst (λ (q : List ℕ). IsSpreading passes hit start size Every (StepsFrom here (rank dir + 1)) new.marks.items (Waits new.straight q)) (sym stays.diagonal) second

-- what else a fall leaves
pub record IsTame (at to : ℕ) (old new : FieldSpread) : Type 0 where
  pub long : length new.marks.items ≡ length old.marks.items
  pub same : get_or new.marks.items at 0 ≡ get_or old.marks.items at 0
  pub less : weight new ≤ weight old

pub tame : (at to row column mark : ℕ) (old new : FieldSpread) → (at ≡ to → ⊥) → to < length old.marks.items → IsLowered to row column mark old new → IsTame at to old new
tame at to row column mark old new apart within (inl (pair, falls)) =
    let less = falls.less in
    let count = falls.left in
    record {
      long = ap length falls.marks ∙ length-set old.marks.items to mark;
      same = ap (λ (m : List ℕ). get_or m at 0) falls.marks ∙ get_or-set_other old.marks.items to at mark 0 apart;
      less = omega (arith, ap sum falls.marks, sum_by-set (λ (x : ℕ). x) old.marks.items to mark 0 within);
    }
tame at to row column mark old new apart within (inr (none, stays)) = record {
  long = ap length stays.marks;
  same = ap (λ (m : List ℕ). get_or m at 0) stays.marks;
  less = omega (arith, ap sum stays.marks, ap length stays.straight, ap length stays.diagonal);
}

-- one step of four
pub relax_more : (dir : Dir) (w at to row column mark cost first : ℕ) (a b c : FieldSpread) → Relaxes w at mark cost first (rank dir) a b
    → IsBesideSpot w dir at to → IsBesideSpot w (row_part dir) at row → IsBesideSpot w (column_part dir) at column → cost ≡ step_cost dir
    → (at ≡ to → ⊥) → to < length a.marks.items → IsLowered to row column mark b c → Relaxes w at mark cost first (rank dir + 1) a c
relax_more dir w at to row column mark cost first a b c so_far to_next to_row to_column costs apart within lowered =
    let long = so_far.long in
    let calm = tame at to row column mark b c apart (omega arith) lowered in
    let same = so_far.same in
    record {
      long = calm.long ∙ so_far.long;
      same = calm.same ∙ so_far.same;
      less = omega (arith, calm.less, so_far.less);
      spreads = λ passes hit start size here wide is_here passable below is spreads.
          let P = λ (k : ℕ). IsBesideSpot k dir at to in
          let Q = λ (k : ℕ). IsBesideSpot k (row_part dir) at row in
          let R = λ (k : ℕ). IsBesideSpot k (column_part dir) at column in
          relax_step passes hit start size here dir at to row column mark b c
          (record {
            is_here = is_here;
            passable = passable;
            below = omega (arith, below, same);
            to_next = subst P (sym wide) to_next;
            to_row = subst Q (sym wide) to_row;
            to_column = subst R (sym wide) to_column;
            is = omega (arith, is, same, costs);
          })
          lowered (so_far.spreads passes hit start size here wide is_here passable below is spreads);
    }

pub relax_none : (w at mark cost first : ℕ) (a : FieldSpread) → Relaxes w at mark cost first first a a
relax_none w at mark cost first a = record {
  long = refl;
  same = refl;
  less = omega arith;
  spreads = λ passes hit start size here wide is_here passable below is spreads. spreads;
}

pub relax_four_straight : (w at mark : ℕ) (a b c d e : FieldSpread) → IsInner w at a → IsLowered (at + w) (at + w) (at + w) mark a b → IsLowered (at + 1) (at + 1) (at + 1) mark b c
    → IsLowered (at - w) (at - w) (at - w) mark c d → IsLowered (at - 1) (at - 1) (at - 1) mark d e → Relaxes w at mark 65536 0 4 a e
relax_four_straight w at mark a b c d e inner p q r s =
    let low = inner.below in let high = inner.above in let wide = inner.wide in
    let north = relax_more N w at (at + w) (at + w) (at + w) mark 65536 0 a a b (relax_none w at mark 65536 0 a) (omega arith) (omega arith) (omega arith) refl (λ x. omega arith) (omega arith) p in
    let east = relax_more E w at (at + 1) (at + 1) (at + 1) mark 65536 0 a b c north (omega arith) (omega arith) (omega arith) refl (λ x. omega arith) (omega arith) q in
    let south = relax_more S w at (at - w) (at - w) (at - w) mark 65536 0 a c d east (omega arith) (omega arith) (omega arith) refl (λ x. omega arith) (omega arith) r in
    relax_more W w at (at - 1) (at - 1) (at - 1) mark 65536 0 a d e south (omega arith) (omega arith) (omega arith) refl (λ x. omega arith) (omega arith) s

pub relax_four_diagonal : (w at mark : ℕ) (a b c d e : FieldSpread) → IsInner w at a → IsLowered (at + w + 1) (at + 1) (at + w) mark a b → IsLowered (at - w + 1) (at + 1) (at - w) mark b c
    → IsLowered (at - w - 1) (at - 1) (at - w) mark c d → IsLowered (at + w - 1) (at - 1) (at + w) mark d e → Relaxes w at mark 92682 4 8 a e
relax_four_diagonal w at mark a b c d e inner p q r s =
    let low = inner.below in let high = inner.above in let wide = inner.wide in
    let ne = relax_more NE w at (at + w + 1) (at + 1) (at + w) mark 92682 4 a a b (relax_none w at mark 92682 4 a) (omega arith) (omega arith) (omega arith) refl (λ x. omega arith) (omega arith) p in
    let se = relax_more SE w at (at - w + 1) (at + 1) (at - w) mark 92682 4 a b c ne (omega arith) (omega arith) (omega arith) refl (λ x. omega arith) (omega arith) q in
    let sw = relax_more SW w at (at - w - 1) (at - 1) (at - w) mark 92682 4 a c d se (omega arith) (omega arith) (omega arith) refl (λ x. omega arith) (omega arith) r in
    relax_more NW w at (at + w - 1) (at - 1) (at + w) mark 92682 4 a d e sw (omega arith) (omega arith) (omega arith) refl (λ x. omega arith) (omega arith) s

pub relax_all : (w at mark more : ℕ) (a b c : FieldSpread) → mark ≡ get_or a.marks.items at 0 + 65536 → more ≡ get_or a.marks.items at 0 + 92682
    → Relaxes w at mark 65536 0 4 a b → Relaxes w at more 92682 4 8 b c → RelaxesAll w at a c
relax_all w at mark more a b c is is_more straight diagonal =
    let same = straight.same in
    record {
      less = omega (arith, straight.less, diagonal.less);
      spreads = λ passes hit start size here wide is_here passable below spreads.
          let first = straight.spreads passes hit start size here wide is_here passable below is spreads in
          let all = diagonal.spreads passes hit start size here wide is_here passable (omega (arith, below, same)) (omega (arith, is_more, same)) first in
          record {
            sound = all.sound;
            reached = all.reached;
            ends = all.ends;
            settled = λ cell dir here_too known. elim (all.settled cell dir here_too known) [
              | inl settled ↦ inl settled
              | inr rest ↦ elim rest [
                | inl waits ↦ inr (inl waits)
                | inr out ↦ absurd (omega (arith, out.1, rank_most dir))
              ]
            ];
          };
    }
