use Rattle.std.proofs.Common.{◌≡◌, ◌≤◌, List, All, length, sym, ap, ◌∙◌, subst, vec_items}
use Rattle.nav_types.specs.declared.limits.TheConstants.{MAX_STAGED_POSTS}
use Rattle.posts.specs.declared.posts.Post.{Post}
use Rattle.posts.specs.Posts.{post_count}
use Rattle.path_service.specs.inner.Channels.{IsInRoom}
use Rattle.path_service.proofs.NextTurns.{holds_taken, wide_hands}
use Rattle.path_service.proofs.StartedTurns.{known_of, staged_ok, staged_refused, staged_rest}
use Rattle.path_service.proofs.drivers.Driver.stage.Goals as goal

pub next_turn-intake-requires : goal.next_turn-intake-requires
next_turn-intake-requires g c =
    let a = c.self.inside in
    let channels : c.replace-channels.result.items ≡ a.channels.items = ap vec_items c.replace-channels.ensures.value in
    let all_pending : c.replace-all_pending.result.items ≡ a.all_pending.items = ap vec_items c.replace-all_pending.ensures.value in
    record {
      wide = ap length all_pending ∙ wide_hands a c.self.invariant ∙ sym (ap length channels);
      room = subst (All IsInRoom) (sym channels) c.self.invariant.room;
      few = subst (λ (h : List (List Post)). post_count h ≤ MAX_STAGED_POSTS) (sym all_pending) c.self.invariant.few;
    }

pub invariant_of-self : goal.invariant_of-self
invariant_of-self g c =
    let a = c.self.inside in let base = c.version_for_next-base.result.now in let intake = c.next_turn-intake.result in
    holds_taken a base.map base.standing intake (known_of a _ base c.replace-channels.result.items c.replace-all_pending.result.items intake c.self.view_is c.requires.none c.self.invariant c.version_for_next-base.ensures.map c.version_for_next-base.ensures.standing
    (ap vec_items c.replace-channels.ensures.value) (ap vec_items c.replace-all_pending.ensures.value) c.next_turn-intake.ensures)

pub returns : goal.returns
returns g c =
    let a = c.self.inside in let base = c.version_for_next-base.result.now in let intake = c.next_turn-intake.result in
    let k = known_of a _ base c.replace-channels.result.items c.replace-all_pending.result.items intake c.self.view_is c.requires.none c.self.invariant c.version_for_next-base.ensures.map c.version_for_next-base.ensures.standing
    (ap vec_items c.replace-channels.ensures.value) (ap vec_items c.replace-all_pending.ensures.value) c.next_turn-intake.ensures in
    record {
      ok = staged_ok a _ base.map base.standing intake c.self.view_is k;
      refused = staged_refused a _ base.map base.standing intake c.self.view_is k;
      rest = staged_rest a _ base.map base.standing intake c.self.view_is k;
    }
