use Rattle.std.proofs.Common.{rules}
use Rattle.jump_search.proofs.search.QuestionJumpSearch.jump_find_in.Goals as goal

pub returns-in_err-traced : goal.returns-in_err-traced
returns-in_err-traced g c = record { answer = search rules; most = c.by_octile.ensures.most }

pub returns : goal.returns
returns g c = record { answer = c.in_ok-traced.ensures.answer; most = c.by_octile.ensures.most }
