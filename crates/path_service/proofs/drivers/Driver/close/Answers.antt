use Rattle.std.proofs.Common.{◌≡◌, ◌∙◌, map, sym, ap, subst}
use Rattle.path_service.specs.Callers.{ended_id}
use Rattle.path_service.specs.Services.{DriverState}
use Rattle.path_service.specs.Closings.{IsClosedBy}
use Rattle.path_service.specs.inner.Channels.{ids_from}
use Rattle.path_service.specs.inner.Holding.{driver_of}
use Rattle.path_service.proofs.ClosedLanes.{ports_of, is_closed}
use Rattle.path_service.proofs.drivers.Driver.close.Goals as goal

pub close_all-callers-requires-clause-lanes : goal.close_all-callers-requires-clause-lanes
close_all-callers-requires-clause-lanes g c =
    let a = c.self.inside in
    ports_of 0 a.channels.items c.args.ended (c.requires.callers ∙ ap (λ (d : DriverState). d.callers) (sym c.self.view_is))

pub returns-clause-ok : goal.returns-clause-ok
returns-clause-ok g c =
    let a = c.self.inside in
    let ids : map ended_id c.args.ended ≡ ids_from 0 a.channels.items = c.requires.callers ∙ ap (λ (d : DriverState). d.callers) (sym c.self.view_is) in
    let journal = c.from.ensures in
    let replies = c.from-2.ensures in
    let callers = c.close_all-callers.result in
    let closed : c.new.result ≡ record { map = a.map; journal = a.journal.items; replies = a.replies.items; callers = callers } =
    c.new.ensures ∙ (λ i. record { map = a.map; journal = journal i; replies = replies i; callers = callers }) in
    subst (λ (d : DriverState). IsClosedBy d c.args.ended c.new.result) c.self.view_is
    (subst (IsClosedBy (driver_of a) c.args.ended) (sym closed) (is_closed a c.args.ended callers c.self.invariant ids c.close_all-callers.ensures))
