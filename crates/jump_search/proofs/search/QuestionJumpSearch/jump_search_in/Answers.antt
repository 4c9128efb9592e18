use Rattle.std.proofs.Common.{rules}
use Rattle.jump_search.proofs.search.QuestionJumpSearch.jump_search_in.Goals as goal

pub returns : goal.returns
returns g c = let e = c.by_octile.ensures in record { answer = e.answer; opened = search rules; ticks = e.ticks; most = e.most }
