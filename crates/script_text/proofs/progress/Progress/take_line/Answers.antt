use Rattle.script_text.proofs.PostVersions.{none_have_at}
use Rattle.script_text.proofs.progress.Progress.take_line.Goals as goal

-- the map line has no post
pub returns-in-Ok-clause-have : goal.returns-in-Ok-clause-have
returns-in-Ok-clause-have c = none_have_at c.map_line.new.self.part c.map_line.new.self.posts c.in-Ok.ensures.posts
