use Rattle.grid_versions.proofs.MarkLemmas.{mark_kept, span_marked, mark_from}
use Rattle.grid_versions.proofs.base_grids.mark_row.Goals as goal

pub returns-clause-kept : goal.returns-clause-kept
returns-clause-kept c =
    mark_kept c.args.grid.now c.or_span.new.self c.args.j c.args.rect c.args.mask c.args.run
    c.or_span.ensures.span c.or_span.ensures.others

pub returns-clause-marked : goal.returns-clause-marked
returns-clause-marked c =
    span_marked c.args.grid.now c.or_span.new.self c.args.j c.args.rect c.args.mask c.args.run
    c.or_span.ensures.span c.or_span.ensures.others

pub returns-clause-within : goal.returns-clause-within
returns-clause-within c =
    mark_from c.args.grid.now c.or_span.new.self c.args.j c.args.rect c.args.mask c.args.run
    c.or_span.ensures.span c.or_span.ensures.others c.requires.south c.requires.north
