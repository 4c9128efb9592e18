use Rattle.std.proofs.Common.{◌+◌, length, arith, ap}
use Rattle.std.proofs.lemmas.List.Sums.{sum_by-take-le}
use Rattle.posts.proofs.PostCounts.{count_next}
use Rattle.posts.proofs.posts.count_posts.Goals as goal

pub overflow_add-count : goal.overflow_add-count
overflow_add-count c =
    let turn = c.args.turn.now in
    let i = c.loop-posts.posts-index in
    omega (arith, c.loop-posts.invariant, count_next turn i c.posts-item.result c.loop-posts-test.true, sum_by-take-le length turn (i + 1), c.requires, ap length c.posts-item.is, c.len.ensures)

pub loop-posts-preserved : goal.loop-posts-preserved
loop-posts-preserved c =
    let turn = c.args.turn.now in
    let i = c.loop-posts.posts-index in
    omega (arith, c.loop-posts.invariant, count_next turn i c.posts-item.result c.loop-posts-test.true, ap length c.posts-item.is, c.len.ensures)
