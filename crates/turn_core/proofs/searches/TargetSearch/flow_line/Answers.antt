use Rattle.turn_core.proofs.searches.TargetSearch.flow_line.Goals as goal

pub returns-clause-line : goal.returns-clause-line
returns-clause-line c =
    let search = c.args.self.now in
    c.line-line.ensures search.version.now search.class search.target.now c.in_ok-last.ensures.serves
