use Rattle.jump_search.proofs.Landing.{follows_both, each_of_eight}
use Rattle.jump_search.proofs.frontier.Frontier.follow.Goals as goal

pub returns : goal.returns
returns g c =
    let from_sw = follows_both c.in_ok-follow_along-7.ensures.follows c.in_ok-follow_along-8.ensures.follows in
    let from_se = follows_both c.in_ok-follow_along-6.ensures.follows from_sw in
    let from_ne = follows_both c.in_ok-follow_along-5.ensures.follows from_se in
    let from_w = follows_both c.in_ok-follow_along-4.ensures.follows from_ne in
    let from_s = follows_both c.in_ok-follow_along-3.ensures.follows from_w in
    let from_e = follows_both c.in_ok-follow_along-2.ensures.follows from_s in
    let all = follows_both c.in_ok-follow_along.ensures.follows from_e in
    record { later = all.later; along = λ dir within. all.along dir (each_of_eight dir); going = all.going }
