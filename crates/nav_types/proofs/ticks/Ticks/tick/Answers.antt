use Rattle.std.proofs.Common.{ℕ, ◌+◌, ◌∙◌, ap}
use Rattle.nav_types.proofs.ticks.Ticks.tick.Goals as goal

pub returns : goal.returns
returns g c = c.add.ensures.total ∙ ap (λ (ticks : ℕ). ticks + 1) c.self.view_is
