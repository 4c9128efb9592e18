use Rattle.std.proofs.Common.{ℕ, ◌≡◌, ◌+◌, ◌-◌, ◌*◌, sym, ap, ◌∙◌, arith}
use Rattle.nav_types.specs.declared.cells.Size.{Size}
use Rattle.nav_types.specs.Cells.{cell_at}
use Rattle.flow_field.specs.inner.Marks.{spot_of}
use Rattle.flow_field.proofs.Spots.{rows_in_all}
use Rattle.flow_field.proofs.Fills.{cleared_more, none_last, filled_of_cleared}
use Rattle.flow_field.proofs.filling.free_marks.Goals as goal

pub returns : goal.returns
returns g c =
    let size = g.M.View.extent c.args.map.now in
    let passes = g.M.View.passes c.args.map.now c.args.class in
    let within = g.met.M.View.within c.args.map.now c.args.class in
    let new = c.clear_run-2.new.marks.items in
    let s = c.size-size.result in
    let count = (s.w + 2) * (s.h + 2) in
    let from = count - (s.w + 2) + 1 in
    let at = spot_of size (cell_at 0 c.loop-j.j) in
    let high : c.loop-j.j ≡ size.h = omega (arith, c.loop-j.auto.j-end, c.loop-j-test.false, ap (λ (t : Size). t.h) c.size-size.ensures) in
    let last : at ≡ spot_of size (cell_at 0 size.h) = ap (λ (j : ℕ). spot_of size (cell_at 0 j)) high in
    let all : count ≡ (size.w + 2) * (size.h + 2) = ap (λ (t : Size). (t.w + 2) * (t.h + 2)) c.size-size.ensures in
    let wide : s.w ≡ size.w = ap (λ (t : Size). t.w) c.size-size.ensures in
    let begins : from ≡ spot_of size (cell_at 0 size.h) = omega (arith, all, wide, rows_in_all size) in
    let cleared = cleared_more passes size at from count c.loop-j.marks.items new
    (λ k above below. absurd (omega (arith, above, below, last, begins)))
    (λ k above below. none_last passes size k within (omega (arith, above, begins)))
    c.clear_run-2.ensures c.loop-j.invariant in
    filled_of_cleared passes size count new within (all ∙ sym cleared.long) cleared
