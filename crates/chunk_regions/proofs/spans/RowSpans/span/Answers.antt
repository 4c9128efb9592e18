use Rattle.std.proofs.Common.{length, ap, refl, arith}
use Rattle.std.proofs.lemmas.Option.{slice_get_read}
use Rattle.chunk_regions.specs.inner.Spans.{Runs}
use Rattle.chunk_regions.proofs.spans.RowSpans.span.Goals as goal

pub returns-clause-ordered : goal.returns-clause-ordered
returns-clause-ordered c =
    let spans = c.self.inside.spans.items in
    let here = c.requires in
    let same = ap (λ (r : Runs). length r.spans) c.self.view_is in
    (c.self.invariant.ordered c.args.at c.index.result.now
    (slice_get_read spans (length spans) c.args.at c.index.result.now refl (omega arith) c.index.ensures)).0

pub returns-clause-within : goal.returns-clause-within
returns-clause-within c =
    let spans = c.self.inside.spans.items in
    let here = c.requires in
    let same = ap (λ (r : Runs). length r.spans) c.self.view_is in
    (c.self.invariant.ordered c.args.at c.index.result.now
    (slice_get_read spans (length spans) c.args.at c.index.result.now refl (omega arith) c.index.ensures)).1
