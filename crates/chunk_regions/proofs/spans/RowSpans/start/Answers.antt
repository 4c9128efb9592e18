use Rattle.std.proofs.Common.{◌≡◌, ◌∙◌, ap, arith, length}
use Rattle.std.specs.Prelude.{slice_index}
use Rattle.std.proofs.lemmas.Grind.{get_or_default_zero}
use Rattle.chunk_regions.specs.inner.Spans.{Runs}
use Rattle.chunk_regions.proofs.SpanLemmas.{starts_to_end}
use Rattle.chunk_regions.proofs.spans.RowSpans.start.Goals as goal

pub returns-clause-within : goal.returns-clause-within
returns-clause-within c =
    let are = c.self.invariant in
    let starts = c.self.inside.starts.items in
    let runs : Runs = record { starts = starts; spans = c.self.inside.spans.items } in
    let row = c.args.row in
    let here = c.requires in
    let rows = are.rows in
    let value : c.index.result.now ≡ slice_index starts row = c.index.ensures ∙ get_or_default_zero starts row c.index.result.now (omega arith) in
    let last = ap (λ (r : Runs). length r.spans) c.self.view_is in
    let to_end = starts_to_end runs are row (omega arith) in
    omega arith
