use Rattle.std.proofs.Common.{length}
use Rattle.jump_search.proofs.Paging.{zero_in}
use Rattle.jump_search.proofs.pages.blank.Goals as goal

pub returns-clause-blank : goal.returns-clause-blank
returns-clause-blank c = zero_in c.fill.new.self (length c.args.numbers.now) (c.fill.ensures.after (λ y e. e))
