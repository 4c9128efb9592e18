use Rattle.std.proofs.Common.{ℕ, ◌≤◌}
use Rattle.nav_types.specs.declared.cells.Rect.{Rect}
use Rattle.script_text.proofs.CanonTexts.{base-more, all-cut}
use Rattle.script_text.proofs.canon.maps.push_base_lines.Goals as goal

pub loop-rest-preserved : goal.loop-rest-preserved
loop-rest-preserved c = (
  base-more c.loop-rest.rest.now c.split_at.result.0.now c.split_at.result.1.now c.loop-rest.text c.push_base.new.text c.push.new.self _ c.min.result
      c.is_empty.result c.is_empty.ensures c.loop-rest-test.true c.min.ensures c.split_at.ensures.front c.split_at.ensures.back c.in_ok-push_base.ensures.text
      c.in_ok-push.ensures.ok c.loop-rest.invariant.0,
  λ more. c.loop-rest.invariant.1
      (all-cut (λ (entry : Rect × ℕ). entry.1 ≤ 65535) c.loop-rest.rest.now c.split_at.result.0.now c.split_at.result.1.now _ c.split_at.ensures.front c.split_at.ensures.back c.in_ok-push_base.ensures.values more),
)
