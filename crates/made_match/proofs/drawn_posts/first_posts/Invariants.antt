use Rattle.std.proofs.Common.{◌≡◌}
use Rattle.made_match.specs.Making.{drawn, draw_each, draw_first_post}
use Rattle.made_match.proofs.drawn_posts.first_posts.Given as goal

abbrev pub invariant-loop-number : goal.invariant-loop-number
invariant-loop-number l = draw_each (draw_first_post l.caller) l.number l.fn.draws ≡ drawn l.posts l.draws
