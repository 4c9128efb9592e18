use Rattle.std.proofs.Common.{◌≡◌, get_or, sum, ap, arith}
use Rattle.std.proofs.lemmas.List.{get_or_read}
use Rattle.reach_sets.proofs.RowLemmas.{place_in_row, row_of}
use Rattle.reach_sets.proofs.offsets.Offsets.place_of.Goals as goal

pub index-requires : goal.index-requires
index-requires c =
    let xs = c.self.inside.starts.items in
    let at = place_in_row xs c.args.self.now c.args.id (row_of xs c.args.self.now c.self.invariant.0 c.self.view_is) c.requires in
    omega (arith, at.0, c.self.inside.starts.ok.0)

pub overflow_add-result : goal.overflow_add-result
overflow_add-result c =
    let xs = c.self.inside.starts.items in
    let at = place_in_row xs c.args.self.now c.args.id (row_of xs c.args.self.now c.self.invariant.0 c.self.view_is) c.requires in
    let read : c.index.result.now ≡ get_or xs c.args.id.chunk 0 =
    get_or_read xs c.args.id.chunk c.index.result.now at.0 c.index.ensures 0 in
    omega (arith, at.1.0, at.1.1, ap sum c.self.view_is, c.self.invariant.1, c.from.ensures)

pub returns-clause-place : goal.returns-clause-place
returns-clause-place c =
    let xs = c.self.inside.starts.items in
    let at = place_in_row xs c.args.self.now c.args.id (row_of xs c.args.self.now c.self.invariant.0 c.self.view_is) c.requires in
    let read : c.index.result.now ≡ get_or xs c.args.id.chunk 0 =
    get_or_read xs c.args.id.chunk c.index.result.now at.0 c.index.ensures 0 in
    omega (arith, at.1.0, c.from.ensures)

pub returns-clause-inside : goal.returns-clause-inside
returns-clause-inside c =
    let xs = c.self.inside.starts.items in
    let at = place_in_row xs c.args.self.now c.args.id (row_of xs c.args.self.now c.self.invariant.0 c.self.view_is) c.requires in
    let read : c.index.result.now ≡ get_or xs c.args.id.chunk 0 =
    get_or_read xs c.args.id.chunk c.index.result.now at.0 c.index.ensures 0 in
    omega (arith, at.1.0, at.1.1, c.from.ensures)
