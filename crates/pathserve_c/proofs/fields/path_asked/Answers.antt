use Rattle.posts.specs.declared.posts.Request.TheVariants.{Path as AsksPath}
use Rattle.pathserve_c.proofs.fields.path_asked.Goals as goal

pub returns-in-None-clause-none : goal.returns-in-None-clause-none
returns-in-None-clause-none c = λ none caller request is. c.in-None.ensures.none none caller (AsksPath request) is
