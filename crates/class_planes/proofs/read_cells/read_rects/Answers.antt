use Rattle.std.proofs.Common.{ℕ, ◌≡◌, [], ◌∷◌, ◌++◌, List, sym, subst, arith}
use Rattle.std.specs.Prelude.{All}
use Rattle.std.proofs.lemmas.List.{take_all}
use Rattle.std.proofs.lemmas.List.Elements.{All-more, All-push}
use Rattle.nav_types.specs.declared.cells.Rect.{Rect}
use Rattle.nav_types.specs.Cells.{IsInRect}
use Rattle.nav_types.proofs.Items.{all_front, all_last}
use Rattle.class_planes.specs.Planes.{IsOutside}
use Rattle.class_planes.specs.inner.Reading.{ReadCells, AreRead, IsUnread}
use Rattle.class_planes.proofs.read_cells.read_rects.Goals as goal

pub loop-rect-preserved : goal.loop-rect-preserved
loop-rect-preserved g c =
    let view = c.args.view.now in
    let rects = c.args.rects.now in
    let at : ℕ = c.loop-rect.rect-index in
    let none : Rect = record { i0 = 0; j0 = 0; i1 = 0; j1 = 0 } in
    let Right = AreRead (g.V.View.extent view) (g.V.View.class_count view) (g.V.View.passes view) in
    let before : List ReadCells = c.loop-rect.reads.items in
    let read : ReadCells = c.in_ok-read.read in
    let appended : c.push.new.self.items ≡ before ++ read ∷ [] = c.in_ok-push.ensures.items in
    record {
      read = subst (λ (rs : List ReadCells). All Right rs) (sym appended)
          (All-push Right before read c.loop-rect.invariant.read c.in_ok-read.ensures.read);
      covered = λ cell out.
          let all : IsUnread (before ++ read ∷ []) cell = subst (λ (rs : List ReadCells). IsUnread rs cell) appended out in
          All-more (λ (rect : Rect). IsInRect rect cell → ⊥) rects at none c.loop-rect-test.true
          (c.loop-rect.invariant.covered cell
          (all_front (λ (r : ReadCells). IsInRect r.rect cell → ⊥) before read all))
          (λ inside. all_last (λ (r : ReadCells). IsInRect r.rect cell → ⊥) before read all
          (c.in_ok-read.ensures.covered cell inside));
    }

pub returns-clause-covered : goal.returns-clause-covered
returns-clause-covered g c cell out =
    subst (λ (rects : List Rect). IsOutside rects cell)
    (take_all c.loop-rect.rect-index c.args.rects.now (omega arith)) (c.loop-rect.invariant.covered cell out)
