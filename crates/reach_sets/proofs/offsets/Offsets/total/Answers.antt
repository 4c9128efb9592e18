use Rattle.std.proofs.Common.{◌≡◌, ◌-◌, get_or, length, ap, ◌∙◌, arith}
use Rattle.std.proofs.lemmas.List.{get_or_read}
use Rattle.reach_sets.proofs.RowLemmas.{row_end, row_of}
use Rattle.reach_sets.proofs.offsets.Offsets.total.Goals as goal

pub returns : goal.returns
returns c =
    let xs = c.self.inside.starts.items in
    let end = row_end xs c.args.self.now (row_of xs c.args.self.now c.self.invariant.0 c.self.view_is) in
    let long : c.len.result ≡ length xs = omega (arith, c.len.ensures, c.self.inside.starts.ok.0) in
    record {
      total = get_or_read xs (c.len.result - 1) c.index.result.now (omega (arith, end.0)) c.index.ensures 0
          ∙ ap (λ n. get_or xs (n - 1) 0) long ∙ end.1;
    }
