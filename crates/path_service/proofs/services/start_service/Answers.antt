use Rattle.std.proofs.Common.{◌∙◌, length, sym, ap, subst}
use Rattle.path_service.specs.Callers.{AreNumbered}
use Rattle.path_service.specs.Services.{DriverState}
use Rattle.path_service.proofs.NewDrivers.{numbered, length-ids}
use Rattle.path_service.proofs.services.start_service.Goals as goal

pub returns-clause-count : goal.returns-clause-count
returns-clause-count g c =
    ap (λ (d : DriverState). length d.callers) c.new-driver.ensures
    ∙ length-ids 0 _
    ∙ c.in_ok-channels.ensures.count
    ∙ c.callers-2.ensures.callers

pub returns-clause-numbers : goal.returns-clause-numbers
returns-clause-numbers g c =
    subst (AreNumbered 0) (sym (ap (λ (d : DriverState). d.callers) c.new-driver.ensures)) (numbered 0 _)
