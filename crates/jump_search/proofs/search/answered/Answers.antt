use Rattle.std.proofs.Common.{not, eqb}
use Rattle.jump_search.proofs.Answering.{counts_of, ended_able, ended_some, ended_ticks, halted_ticks}
use Rattle.jump_search.proofs.search.answered.Goals as goal

pub returns-in_err-search-clause-most : goal.returns-in_err-search-clause-most
returns-in_err-search-clause-most g c =
    let q = c.args.question.now in
    halted_ticks (not (eqb g.row.ALL 0)) _ _ _ q.start _ (g.E.Estimate.least c.args.ahead.now) c.args.ticks.now
    c.searched.new.ticks c.requires.search.free c.requires.ahead c.in_err-search.ensures.halted

pub unreachable-requires : goal.unreachable-requires
unreachable-requires g c =
    let q = c.args.question.now in
    let can = c.requires.search in
    ended_some (not (eqb g.row.ALL 0)) _ _ q.start (g.E.Estimate.least c.args.ahead.now) c.searched.new.frontier.nodes
    c.in_ok-search.search.best can.free c.requires.ahead.consistent can.reach c.in_ok-search.ensures.ended
    c.in_default.is

pub found-requires : goal.found-requires
found-requires g c =
    let q = c.args.question.now in
    let ahead = g.E.Estimate.least c.args.ahead.now in
    let able = ended_able (not (eqb g.row.ALL 0)) _ _ q.start _ ahead c.searched.new.frontier.nodes c.in_ok-search.search.best
    c.in-Some.best (g.met.R.View.within q.runs.now q.class) c.requires.search.free c.requires.ahead.consistent
    c.in_ok-search.ensures.ended c.in-Some.is in
    let hit = g.A.Aim.hit q.aim.now (g.R.View.extent q.runs.now) in
    ((not (eqb g.row.ALL 0)), (g.R.View.passes q.runs.now q.class, (hit, (ahead, able))))

pub returns-in_err-found-clause-most : goal.returns-in_err-found-clause-most
returns-in_err-found-clause-most g c =
    let q = c.args.question.now in
    let ahead = g.E.Estimate.least c.args.ahead.now in
    let best = c.in-Some.best in
    let able = ended_able (not (eqb g.row.ALL 0)) _ _ q.start _ ahead c.searched.new.frontier.nodes c.in_ok-search.search.best best
    (g.met.R.View.within q.runs.now q.class) c.requires.search.free c.requires.ahead.consistent
    c.in_ok-search.ensures.ended c.in-Some.is in
    ended_ticks (not (eqb g.row.ALL 0)) _ _ _ q.start _ ahead best.cell best.cost c.searched.new.frontier.nodes c.args.ticks.now
    c.searched.new.ticks c.in_ok-search.search.opened c.requires.ahead able c.in_ok-search.ensures.opened
    c.in_ok-search.ensures.ticks

pub returns : goal.returns
returns g c =
    let q = c.args.question.now in
    let ahead = g.E.Estimate.least c.args.ahead.now in
    let best = c.in-Some.best in
    let passes = g.R.View.passes q.runs.now q.class in
    let hit = g.A.Aim.hit q.aim.now (g.R.View.extent q.runs.now) in
    let search = c.in_ok-search.search in
    let ended = c.in_ok-search.ensures in
    let able = ended_able (not (eqb g.row.ALL 0)) passes hit q.start _ ahead c.searched.new.frontier.nodes search.best best
    (g.met.R.View.within q.runs.now q.class) c.requires.search.free c.requires.ahead.consistent
    ended.ended c.in-Some.is in
    record {
      answer = c.in_ok-found.ensures.answer (not (eqb g.row.ALL 0)) passes hit ahead able;
      opened = λ is rect same. rw c.in_ok-found.ensures.cost (counts_of (not (eqb g.row.ALL 0)) passes hit q.start ahead rect
          best.cell best.cost c.searched.new.frontier.nodes able is same search.opened ended.opened);
      ticks = ended.ticks;
      most = ended_ticks (not (eqb g.row.ALL 0)) passes hit _ q.start _ ahead best.cell best.cost c.searched.new.frontier.nodes
          c.args.ticks.now c.searched.new.ticks search.opened c.requires.ahead able ended.opened ended.ticks;
    }
