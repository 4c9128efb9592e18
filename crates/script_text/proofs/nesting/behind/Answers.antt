use Rattle.script_text.proofs.BlockLooks.{over_plain, over_quotes}
use Rattle.script_text.proofs.nesting.behind.Goals as goal

pub returns-then-counts-eq0 : goal.returns-then-counts-eq0
returns-then-counts-eq0 c = λ rest h.
    let most = c.in_ok-most.ensures {u = tt} in
    over_plain c.args.block.now rest c.args.place.in_string c.args.place.depth c.counts_of-counts.result.opened c.counts_of-counts.result.closed c.counts_of-counts.result.quotes
    c.saturating_sub.result c.in_ok-most.most c.if-not-place.true c.counts_of-counts.ensures.opened c.counts_of-counts.ensures.closed c.counts_of-counts.ensures.quotes
    c.if-counts-eq0.true most.0 most.1 c.saturating_sub.ensures h

pub returns : goal.returns
returns c = λ rest h.
    let most = c.in_ok-most.ensures {u = tt} in
    over_quotes c.args.block.now rest c.args.place.in_string c.args.place.depth c.counts_of-counts.result.opened c.counts_of-counts.result.quotes c.counts_of-counts.result.backslashes
    c.in_ok-most.most c.turned.result c.counts_of-counts.ensures.opened c.counts_of-counts.ensures.quotes c.counts_of-counts.ensures.backslashes
    c.if-counts-gt0.false most.0 most.1 c.turned.ensures h
