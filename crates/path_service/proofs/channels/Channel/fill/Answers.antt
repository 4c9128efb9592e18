use Rattle.std.proofs.Common.{ℕ, [], Result, sym, subst}
use Rattle.nav_types.specs.declared.sequences.NoMemory.{NoMemory}
use Rattle.path_service.specs.inner.Channels.{FillsPort}
use Rattle.path_service.proofs.LaneSteps.{fills_refused}
use Rattle.path_service.proofs.channels.Channel.fill.Goals as goal

pub returns-in-Ok : goal.returns-in-Ok
returns-in-Ok g c = (
  c.fill_to.ensures.0,
  subst (λ (r : Result ℕ NoMemory). FillsPort c.args.self.now c.fill_to.new.self c.args.pending.now c.fill_to.new.pending r c.fill_to.result c.fill_to.ensures.0) (sym c.in-Ok.is) c.fill_to.ensures.1,
)

pub returns-in-Err : goal.returns-in-Err
returns-in-Err g c = ([], fills_refused c.args.self.now c.args.pending.now c.args.room _ _ c.in-Err.is)
