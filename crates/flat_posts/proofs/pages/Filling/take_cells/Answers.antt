use Rattle.std.proofs.Common.{◌≡◌, ◌-◌, ◌≤◌, List, ◌++◌, length, ap, sym, ◌∙◌, subst, append_assoc, arith}
use Rattle.std.specs.Prelude.{map}
use Rattle.std.proofs.lemmas.List.{length-map, map-append}
use Rattle.flat_posts.specs.Cells.{flat_cell}
use Rattle.flat_posts.specs.declared.cells.FlatCell.{FlatCell}
use Rattle.flat_posts.specs.inner.Filling.{IsFilling}
use Rattle.flat_posts.proofs.Filled.{filling-passed}
use Rattle.flat_posts.proofs.pages.Filling.take_cells.Goals as goal

pub returns : goal.returns
returns c = λ first all old filling.
    let ahead = c.args.self.now.ahead in
    let count = c.args.self.now.count in
    let front = c.split_at.result.0.now in
    let back = c.split_at.result.1.now in
    let many = length-map front flat_cell in
    let some = c.split_at.ensures.front_len in
    let passed = c.pass.ensures.passed in
    let few : length (map flat_cell front) ≤ ahead = omega (arith, many, some, passed) in
    let over = filling-passed first all (map flat_cell front) old c.args.buffer.now ahead count few filling in
    let left : ahead - length (map flat_cell front) ≡ c.pass.new.self.ahead = let e = c.pass.ensures.ahead in omega (arith, e, many, some, passed) in
    let here = subst (λ n. IsFilling first (all ++ map flat_cell front) old n count c.args.buffer.now) left over in
    let there = subst (λ n. IsFilling first (all ++ map flat_cell front) old c.pass.new.self.ahead n c.args.buffer.now) (sym c.pass.ensures.count) here in
    let whole : (all ++ map flat_cell front) ++ map flat_cell back ≡ all ++ map flat_cell c.args.cells.now =
    append_assoc all (map flat_cell front) (map flat_cell back)
    ∙ ap (λ (l : List FlatCell). all ++ l) (sym (map-append flat_cell front back) ∙ ap (map flat_cell) (sym c.split_at.ensures.by_index.0)) in
    subst (λ (l : List FlatCell). IsFilling first l old c.take_each.new.self.ahead c.take_each.new.self.count c.take_each.new.buffer) whole
    (c.take_each.ensures first (all ++ map flat_cell front) old there)
