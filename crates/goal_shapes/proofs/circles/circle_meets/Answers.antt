use Rattle.std.proofs.Common.{refl}
use Rattle.goal_shapes.proofs.circles.circle_meets.Goals as goal

pub returns : goal.returns
returns c =
    rw (c.squared.ensures.value, c.squared-2.ensures.value, c.squared-3.ensures.value, c.gap_of.ensures.value, c.gap_of-2.ensures.value, c.magnitude.ensures.value)
    refl
