use Rattle.std.proofs.Common.{ℕ, ◌*◌, ap, sym, arith}
use Rattle.walks.proofs.CellTests.{same_tested, other_tested}
use Rattle.jump_search.proofs.GoingBack.{traced_exact, traceable_back, traceable_from, less_by}
use Rattle.jump_search.proofs.Corners.{corners_at_end, corners_more, corners_whole}
use Rattle.jump_search.proofs.tracing.corners_back.Goals as goal

pub runs-init : goal.runs-init
runs-init c = λ all passes hit ahead able.
    corners_at_end all passes hit c.args.start ahead c.args.best.cell c.args.best.cost c.args.nodes.now able
    c.new-corners.result.items c.new-corners.ensures.items

pub picked-last-requires : goal.picked-last-requires
picked-last-requires c =
    let all = c.requires.0 in let passes = c.requires.1.0 in let hit = c.requires.1.1.0 in let ahead =
    c.requires.1.1.1.0 in let able = c.requires.1.1.1.1 in
    let known = c.runs.invariant all passes hit ahead able in
    traced_exact all passes hit c.args.start ahead c.args.best.cell c.args.best.cost c.args.nodes.now able.searched
    c.runs.cell c.runs.cost c.runs.next known.back known.traced
    (other_tested c.runs.cell c.args.start _ c.ne.ensures c.runs-test.true)

pub cell_before-cell-requires : goal.cell_before-cell-requires
cell_before-cell-requires c =
    let all = c.requires.0 in let passes = c.requires.1.0 in let hit = c.requires.1.1.0 in let ahead =
    c.requires.1.1.1.0 in let able = c.requires.1.1.1.1 in
    let known = c.runs.invariant all passes hit ahead able in
    traceable_from all passes hit c.args.start ahead c.args.best.cell c.args.best.cost c.args.nodes.now able c.runs.cell
    c.runs.cost c.runs.next known.back known.traced c.picked-last.result.dir c.picked-last.result.run
    c.picked-last.ensures.some

pub overflow_sub-cost : goal.overflow_sub-cost
overflow_sub-cost c =
    let all = c.requires.0 in let passes = c.requires.1.0 in let hit = c.requires.1.1.0 in let ahead =
    c.requires.1.1.1.0 in let able = c.requires.1.1.1.1 in
    let known = c.runs.invariant all passes hit ahead able in
    let goes = traceable_back all passes hit c.args.start ahead c.args.best.cell c.args.best.cost c.args.nodes.now able
    c.runs.cell c.runs.cost c.runs.next known.back known.traced c.picked-last.result.dir c.picked-last.result.run
    c.picked-last.ensures.some in
    let covers = goes.covers in
    omega (arith, covers, ap (λ (n : ℕ). c.picked-last.result.run * n) c.cost.ensures.value)

pub runs-smaller : goal.runs-smaller
runs-smaller c =
    let all = c.requires.0 in let passes = c.requires.1.0 in let hit = c.requires.1.1.0 in let ahead =
    c.requires.1.1.1.0 in let able = c.requires.1.1.1.1 in
    let known = c.runs.invariant all passes hit ahead able in
    let goes = traceable_back all passes hit c.args.start ahead c.args.best.cell c.args.best.cost c.args.nodes.now able
    c.runs.cell c.runs.cost c.runs.next known.back known.traced c.picked-last.result.dir c.picked-last.result.run
    c.picked-last.ensures.some in
    less_by c.runs.cost c.picked-last.result.run c.cost.result _ c.cost.ensures.value goes.some goes.covers
    (omega (arith, c.cost.ensures.least))

pub runs-preserved : goal.runs-preserved
runs-preserved c = λ all passes hit ahead able.
    corners_more all passes hit c.args.start ahead c.args.best.cell c.args.best.cost c.args.nodes.now able c.runs.cell
    c.runs.cost c.runs.next c.runs.corners.items
    (c.runs.invariant all passes hit ahead able) (other_tested c.runs.cell c.args.start _ c.ne.ensures c.runs-test.true)
    c.picked-last.result.dir c.picked-last.result.run
    c.cost.result c.picked-last.ensures.picked c.picked-last.ensures.some c.cell_before-cell.result
    c.cell_before-cell.ensures c.cost.ensures.value
    c.push_corner.new.corners.items c.in_ok-push_corner.ensures

pub returns : goal.returns
returns c = λ all passes hit ahead able.
    corners_whole all passes hit c.args.start ahead c.args.best.cell c.args.best.cost c.args.nodes.now able c.runs.cell
    c.runs.cost c.runs.next c.runs.corners.items
    (c.runs.invariant all passes hit ahead able) (sym
    (same_tested c.runs.cell c.args.start _ c.ne.ensures c.runs-test.false))
