-- Room within a goal that is turned inside out: a rectangle of which it has none of the four corner cells.
use Rattle.std.proofs.Common.{refl, inl, inr, IsTrue}
use Rattle.std.proofs.lemmas.Bool.{false≢true}
use Rattle.nav_types.specs.declared.cells.Cell.{Cell}
use Rattle.nav_types.specs.declared.cells.Rect.{Rect}
use Rattle.nav_types.specs.Cells.{cell_at}
use Rattle.goal_shapes.specs.declared.goals.Goal.{Goal}
use Rattle.goal_shapes.specs.declared.goals.Goal.TheVariants.{Point, Circle, NotCircle, Square, NotSquare}
use Rattle.goal_shapes.specs.Goals.{contains, framed}
use Rattle.goal_reach.specs.Rooms.{IsRoomIn}
use Rattle.goal_reach.specs.inner.Stretches.{is_inside_out}
use Rattle.goal_reach.proofs.InsideOut.{ends_decide}
use Rattle.goal_reach.proofs.Upright.{ends_decide_up}

framed_everywhere : (goal : Goal) (cell : Cell) → IsTrue (is_inside_out goal) → IsTrue (framed goal cell)
unfolding framed
framed_everywhere (Point x z) cell never = absurd (false≢true never)
framed_everywhere (Circle x z r) cell never = absurd (false≢true never)
framed_everywhere (NotCircle x z r) cell out = refl
framed_everywhere (Square s) cell never = absurd (false≢true never)
framed_everywhere (NotSquare s) cell out = refl

pub room_between : (goal : Goal) (rect : Rect) → IsTrue (is_inside_out goal)
    → (IsTrue (contains goal (cell_at rect.i0 rect.j0)) → ⊥) → (IsTrue (contains goal (cell_at rect.i1 rect.j0)) → ⊥)
    → (IsTrue (contains goal (cell_at rect.i0 rect.j1)) → ⊥) → (IsTrue (contains goal (cell_at rect.i1 rect.j1)) → ⊥)
    → IsRoomIn goal rect
room_between goal rect out sw se nw ne = record {
  clear = λ cell within hit.
      elim (ends_decide goal cell.j rect.i0 cell.i rect.i1 out within.west within.east hit) [
        | inl west ↦ elim (ends_decide_up goal rect.i0 rect.j0 cell.j rect.j1 out within.south within.north west) [ inl h ↦ sw h | inr h ↦ nw h ]
        | inr east ↦ elim (ends_decide_up goal rect.i1 rect.j0 cell.j rect.j1 out within.south within.north east) [ inl h ↦ se h | inr h ↦ ne h ]
      ];
  everywhere = λ cell. framed_everywhere goal cell out;
}
