use Rattle.std.proofs.Common.{ℕ, List, get_or, sym, subst, arith}
use Rattle.std.specs.Prelude.{All}
use Rattle.std.proofs.lemmas.List.{get_or_default}
use Rattle.std.proofs.lemmas.List.Elements.{All-push, All-nil}
use Rattle.nav_types.specs.declared.cells.Rect.{Rect}
use Rattle.class_planes.specs.inner.StopLines.{IsRectOf, map_lines}
use Rattle.class_planes.proofs.TightLemmas.{tight_more}
use Rattle.class_planes.proofs.tight_rects.tight_rects.Goals as goal

pub loop-rect-init : goal.loop-rect-init
loop-rect-init c = record {
  inside = subst (All (IsRectOf c.args.count c.args.lines.now.words)) (sym c.in_ok-tight.ensures.items)
      (All-nil (IsRectOf c.args.count c.args.lines.now.words));
  same = λ n i within out rest. c.requires.same n i within (λ k d below at. rest k d (omega arith) below at);
}

pub tight_rect-changed-requires-clause-rect : goal.tight_rect-changed-requires-clause-rect
tight_rect-changed-requires-clause-rect c =
    let none : Rect = record { i0 = 0; j0 = 0; i1 = 0; j1 = 0 } in
    c.requires.inside c.loop-rect.rect-index none c.loop-rect-test.true

pub loop-rect-preserved : goal.loop-rect-preserved
loop-rect-preserved c =
    let none : Rect = record { i0 = 0; j0 = 0; i1 = 0; j1 = 0 } in
    let rects : List Rect = c.args.rects.now in
    let at : ℕ = c.loop-rect.rect-index in
    let changed : Rect = c.tight_rect-changed.result in
    record {
      inside = subst (All (IsRectOf c.args.count c.args.lines.now.words)) (sym c.in_ok-push.ensures.items)
          (All-push (IsRectOf c.args.count c.args.lines.now.words) c.loop-rect.tight.items changed
          c.loop-rect.invariant.inside c.tight_rect-changed.ensures.inside);
      same = tight_more c.args.count (map_lines c.args.before.now) (map_lines c.args.lines.now) rects at (get_or rects at none) changed
          c.loop-rect.tight.items c.push.new.self.items (λ d. get_or_default rects at d none c.loop-rect-test.true)
          c.in_ok-push.ensures.items c.tight_rect-changed.ensures.west c.tight_rect-changed.ensures.east
          c.tight_rect-changed.ensures.south c.tight_rect-changed.ensures.north c.loop-rect.invariant.same;
    }

pub returns-clause-same : goal.returns-clause-same
returns-clause-same c n i within out =
    c.loop-rect.invariant.same n i within out
    (λ k d least below at. absurd (omega (arith, least, below, c.loop-rect-test.false)))
