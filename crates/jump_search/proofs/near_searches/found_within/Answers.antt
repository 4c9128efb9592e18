use Rattle.std.proofs.Common.{rules, arith}
use Rattle.jump_search.proofs.Within.{able_within, near_within, ticks_within, too_far}
use Rattle.jump_search.proofs.near_searches.found_within.Goals as goal

pub returns-in_err-search : goal.returns-in_err-search
returns-in_err-search g c =
    let q = c.args.question.now in
    let ahead = g.E.Estimate.least c.args.ahead.now in
    let halts = c.searched_within.ensures.halted in
    record {
      answer = search rules;
      opened = ticks_within _ _ _ _ q.start _ ahead c.args.most _ _ c.requires.search.free c.requires.ahead halts;
      near = near_within _ _ _ _ q.start _ ahead c.args.most _ _ c.requires.search.free c.requires.ahead halts;
    }

pub returns-in_default-best : goal.returns-in_default-best
returns-in_default-best g c =
    let q = c.args.question.now in
    let ahead = g.E.Estimate.least c.args.ahead.now in
    let halts = c.searched_within.ensures.halted in
    record {
      answer = too_far _ _ _ q.start ahead c.args.most _ _ c.requires.search.free c.requires.ahead.consistent
          c.in_ok-search.ensures.ended c.in_default-best.is;
      opened = ticks_within _ _ _ _ q.start _ ahead c.args.most _ _ c.requires.search.free c.requires.ahead halts;
      near = near_within _ _ _ _ q.start _ ahead c.args.most _ _ c.requires.search.free c.requires.ahead halts;
    }

pub returns-in_err-found : goal.returns-in_err-found
returns-in_err-found g c =
    let q = c.args.question.now in
    let ahead = g.E.Estimate.least c.args.ahead.now in
    let halts = c.searched_within.ensures.halted in
    record {
      answer = search rules;
      opened = ticks_within _ _ _ _ q.start _ ahead c.args.most _ _ c.requires.search.free c.requires.ahead halts;
      near = near_within _ _ _ _ q.start _ ahead c.args.most _ _ c.requires.search.free c.requires.ahead halts;
    }

pub returns : goal.returns
returns g c =
    let q = c.args.question.now in
    let ahead = g.E.Estimate.least c.args.ahead.now in
    let passes = g.R.View.passes q.runs.now q.class in
    let hit = g.A.Aim.hit q.aim.now (g.R.View.extent q.runs.now) in
    let halts = c.searched_within.ensures.halted in
    let able = able_within _ passes hit q.start _ ahead c.args.most _ c.in_ok-search.search.best c.in-Some-best.best
    (g.met.R.View.within q.runs.now q.class) c.requires.search.free c.requires.ahead.consistent
    c.in_ok-search.ensures.ended c.in-Some-best.is in
    let cost = c.in_ok-found.ensures.cost in
    let low = able.1 in
    record {
      answer = (c.in_ok-found.ensures.answer _ passes hit ahead able.0, omega (arith, cost, low));
      opened = ticks_within _ _ _ _ q.start _ ahead c.args.most _ _ c.requires.search.free c.requires.ahead halts;
      near = near_within _ _ _ _ q.start _ ahead c.args.most _ _ c.requires.search.free c.requires.ahead halts;
    }
