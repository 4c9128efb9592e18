use Rattle.turn_core.proofs.Searchable.{can_lead_out, can_leave, can_pass}
use Rattle.turn_core.proofs.searches.TargetSearch.ahead.Goals as goal

pub returns-in-Some : goal.returns-in-Some
returns-in-Some c =
    let search = c.args.self.now in
    can_leave search.version.now search.class search.target.now c.in-Some.rect c.in-Some.ensures

pub returns-in-Some-way_out : goal.returns-in-Some-way_out
returns-in-Some-way_out c =
    let search = c.args.self.now in
    can_lead_out search.version.now search.class search.target.now c.in-Some-way_out.out c.in-Some-way_out.ensures

pub returns : goal.returns
returns c =
    let search = c.args.self.now in
    can_pass search.version.now search.class search.target.now c.in_ok-marked.marked c.in_ok-marked.ensures
