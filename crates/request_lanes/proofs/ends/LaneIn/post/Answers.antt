use Rattle.std.proofs.Common.{◌≡◌, ◌^◌, ◌<◌, length, ap, arith}
use Rattle.request_lanes.specs.Ends.{Posting}
use Rattle.request_lanes.proofs.Steps.{posts}
use Rattle.request_lanes.proofs.ends.LaneIn.post.Goals as goal

pub push_as-requires-clause-rule : goal.push_as-requires-clause-rule
push_as-requires-clause-rule g c n =
    let same : length c.self.inside.pass.me.view.client.posted ≡ length c.args.self.now.posted = ap (λ (p : Posting g.row.T.Denot). length p.posted) c.self.view_is in
    let room : length c.args.self.now.posted < 2 ^ 62 = c.requires.room in
    posts n _ _ _ c.self.invariant.1.may (omega arith)
