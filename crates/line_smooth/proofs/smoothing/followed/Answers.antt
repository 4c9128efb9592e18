use Rattle.std.proofs.Common.{◌≡◌, ◌+◌, ◌<◌, length, arith, ap}
use Rattle.std.specs.Prelude.{slice_index}
use Rattle.std.proofs.lemmas.Option.{slice_get-get_or}
use Rattle.line_smooth.proofs.Followed.{leads_first, leads_on, leads_last}
use Rattle.line_smooth.proofs.smoothing.followed.Goals as goal

pub rises-init : goal.rises-init
rises-init c = record { within = c.requires.some; leads = leads_first c.args.places.now c.args.rises.now c.new-points.result c.new-points.ensures }

pub rises-preserved : goal.rises-preserved
rises-preserved c =
    let at = c.rises.at in
    let next = at + c.from-at.result in
    let rise : c.from-at.result ≡ slice_index c.args.rises.now at = c.from-at.ensures in
    let within : next < length c.args.places.now = omega (arith, c.requires.within at c.rises-test.true) in
    record {
      within = within;
      leads = leads_on c.args.places.now c.args.rises.now at next _ c.rises.points c.push.new.self c.rises.invariant.leads c.rises-test.true (ap (λ k. at + k) rise)
          (slice_get-get_or c.args.places.now next _ within) c.in_ok-push.ensures.ok;
    }

pub returns : goal.returns
returns c = leads_last c.args.places.now c.args.rises.now c.rises.at c.rises.points c.rises.invariant.leads (let within = c.rises.invariant.within in omega (arith, c.rises-test.false))
