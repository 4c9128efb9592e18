use Rattle.std.proofs.Common.{ℕ, ◌≡◌, ◌+◌, ◌-◌, subst, arith}
use Rattle.class_planes.specs.inner.StopLines.{AreSameIn, map_lines}
use Rattle.class_planes.proofs.TightLemmas.{more_same}
use Rattle.class_planes.proofs.tight_rects.last_changed.Goals as goal

pub lines-init : goal.lines-init
lines-init c = record {
  low = c.requires.first;
  high = omega arith;
  same = λ n i low below west east. absurd (omega (arith, low, below));
}

pub lines-preserved : goal.lines-preserved
lines-preserved c =
    let n : ℕ = c.lines.n in
    let some = c.lines-test.true in
    let high = c.lines.invariant.high in
    let there : n ≡ n - 1 + 1 = omega (arith, some) in
    record {
      low = omega (arith, some);
      high = omega (arith, high);
      same = subst (λ (m : ℕ). AreSameIn (map_lines c.args.before.now) (map_lines c.args.lines.now) c.args.rect m (c.args.rect.j1 + 1)) there
          (more_same (map_lines c.args.before.now) (map_lines c.args.lines.now) c.args.rect n (c.args.rect.j1 + 1) c.lines.invariant.same
          (c.is_same.ensures c.if-not-is_same.false));
    }
