use Rattle.grid_versions.proofs.PassedLemmas.{unmarked_at}
use Rattle.grid_versions.proofs.relabelling.next_marked.Goals as goal

pub returns-clause-none : goal.returns-clause-none
returns-clause-none c k from below within =
    unmarked_at c.args.changed.now.class c.args.changed.now.bits.now k within (c.next.ensures.none k from below within)
