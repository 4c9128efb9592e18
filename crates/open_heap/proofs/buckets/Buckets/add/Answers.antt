use Rattle.open_heap.proofs.buckets.Buckets.add.Goals as goal

pub returns-then-bucket-self-clause-kept : goal.returns-then-bucket-self-clause-kept
returns-then-bucket-self-clause-kept c = λ other held. c.add_here.ensures.kept other (c.rebase.ensures.kept other held)

pub returns-else-bucket-self-clause-kept : goal.returns-else-bucket-self-clause-kept
returns-else-bucket-self-clause-kept c = λ other held. c.add_later.ensures.kept other (c.rebase.ensures.kept other held)
