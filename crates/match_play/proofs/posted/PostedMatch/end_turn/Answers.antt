use Rattle.std.proofs.Common.{◌≡◌, length, sym, subst}
use Rattle.script_text.specs.Canon.{HaveLines}
use Rattle.match_play.specs.Posted.{PostedState}
use Rattle.match_play.proofs.Posting.{holds_more}
use Rattle.match_play.proofs.posted.PostedMatch.end_turn.Goals as goal

pub invariant_of-self-2 : goal.invariant_of-self-2
invariant_of-self-2 c =
    let a = c.self.inside in
    let made = c.in_ok-posts.field-0 in
    let is = c.in_ok-posts.ensures in
    let line = subst (λ (s : PostedState). HaveLines s.map.version c.args.posts) (sym c.self.view_is) c.requires.lines in
    let list = subst (λ (s : PostedState). length c.args.posts ≡ s.map.callers) (sym c.self.view_is) c.requires.lists in
    holds_more a.version a.ended c.args.posts made.posts made.after c.push.new.self c.self.invariant line list is.map is.standing is.posts
    c.in_ok-push.ensures.ok
