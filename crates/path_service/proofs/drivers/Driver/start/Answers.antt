use Rattle.std.proofs.Common.{◌≡◌, ◌≤◌, ◌<◌, ◌^◌, ◌∙◌, List, All, None, false, length, sym, ap, subst, vec_items, arith}
use Rattle.nav_types.specs.declared.limits.TheConstants.{MAX_STAGED_POSTS}
use Rattle.posts.specs.declared.posts.Post.{Post}
use Rattle.posts.specs.Posts.{jobs, post_count}
use Rattle.posts.proofs.PostCounts.{few_jobs}
use Rattle.turn_core.specs.ReadyTurns.{Ready, after_edits_of}
use Rattle.path_service.specs.Services.{DriverState}
use Rattle.path_service.specs.inner.Holding.{run_of}
use Rattle.path_service.specs.inner.Channels.{IsInRoom}
use Rattle.path_service.proofs.RunStarts.{no_run, ready_on}
use Rattle.path_service.proofs.NextTurns.{holds_taken, wide_hands}
use Rattle.path_service.proofs.StartedTurns.{with_run, with_broken, begins_of, started_known, has_started, started_rest, broken_known, has_broken_off, broken_rest}
use Rattle.path_service.proofs.drivers.Driver.start.Goals as goal

pub run_beside-answers-requires : goal.run_beside-answers-requires
run_beside-answers-requires g c =
    let a = c.self.inside in
    let ready : Ready = c.in-Some.ready in
    let sound : a.failed ≡ false = subst (λ (d : DriverState). d.failed ≡ false) (sym c.self.view_is) c.requires.sound in
    let none : run_of a.running a.broken ≡ None = subst (λ (d : DriverState). d.machine.running ≡ None) (sym c.self.view_is) c.requires.none_runs in
    let channels : c.replace-channels.result.items ≡ a.channels.items = ap vec_items c.replace-channels.ensures.value in
    let all_pending : c.replace-all_pending.result.items ≡ a.all_pending.items = ap vec_items c.replace-all_pending.ensures.value in
    let on = ready_on a ready c.self.invariant sound (sym c.in-Some.ensures.value) (no_run a.running a.broken none).0 in
    let few : post_count ready.turn ≤ MAX_STAGED_POSTS = on.few in
    let asked : length (jobs ready.turn) < 2 ^ 32 = omega (arith, few, few_jobs ready.turn) in
    let wide : length c.replace-all_pending.result.items ≡ length c.replace-channels.result.items = ap length all_pending ∙ wide_hands a c.self.invariant ∙ sym (ap length channels) in
    let room : All IsInRoom c.replace-channels.result.items = subst (All IsInRoom) (sym channels) c.self.invariant.room in
    let held : post_count c.replace-all_pending.result.items ≤ MAX_STAGED_POSTS = subst (λ (h : List (List Post)). post_count h ≤ MAX_STAGED_POSTS) (sym all_pending) c.self.invariant.few in
    (c.type_bounds.send-A, (c.type_bounds.sync-R, (c.requires.takes (length (jobs ready.turn)) asked, (wide, (room, held)))))

pub invariant_of-self : goal.invariant_of-self
invariant_of-self g c =
    let a = c.self.inside in let ready : Ready = c.in-Some.ready in let intake = c.run_beside-answers.result.intake in
    let turn = c.into_parts-posts.result.0 in
    let begins = begins_of a _ ready intake c.replace-channels.result.items c.replace-all_pending.result.items c.self.view_is c.requires.sound c.requires.none_runs c.self.invariant c.in-Some.ensures.value
    (ap vec_items c.replace-channels.ensures.value) (ap vec_items c.replace-all_pending.ensures.value) c.run_beside-answers.ensures.intake in
    holds_taken (with_broken a turn) ready.map (after_edits_of ready) intake (broken_known a ready turn intake begins c.into_parts-posts.ensures.posts)

pub invariant_of-self-2 : goal.invariant_of-self-2
invariant_of-self-2 g c =
    let a = c.self.inside in let ready : Ready = c.in-Some.ready in let intake = c.run_beside-answers.result.intake in
    let run = c.new-3.result in
    let begins = begins_of a _ ready intake c.replace-channels.result.items c.replace-all_pending.result.items c.self.view_is c.requires.sound c.requires.none_runs c.self.invariant c.in-Some.ensures.value
    (ap vec_items c.replace-channels.ensures.value) (ap vec_items c.replace-all_pending.ensures.value) c.run_beside-answers.ensures.intake in
    holds_taken (with_run a run) ready.map (after_edits_of ready) intake (started_known a ready run intake begins c.new-3.ensures.posts c.new-3.ensures.holds)

pub returns : goal.returns
returns g c =
    let a = c.self.inside in let ready : Ready = c.in-Some.ready in let intake = c.run_beside-answers.result.intake in
    let begins = begins_of a _ ready intake c.replace-channels.result.items c.replace-all_pending.result.items c.self.view_is c.requires.sound c.requires.none_runs c.self.invariant c.in-Some.ensures.value
    (ap vec_items c.replace-channels.ensures.value) (ap vec_items c.replace-all_pending.ensures.value) c.run_beside-answers.ensures.intake in
    record {
      ok = has_started a _ ready c.new-3.result intake c.in-Ok.done.count c.self.view_is begins c.new-3.ensures.posts c.new-3.ensures.holds c.in-Ok.ensures.count;
      rest = started_rest a _ ready c.new-3.result intake c.self.view_is begins c.new-3.ensures.posts c.new-3.ensures.holds;
      refused = tt;
      failed = tt;
      takes = c.run_beside-answers.ensures.takes;
    }

pub returns-in_default-both : goal.returns-in_default-both
returns-in_default-both g c =
    let a = c.self.inside in let ready : Ready = c.in-Some.ready in let intake = c.run_beside-answers.result.intake in
    let begins = begins_of a _ ready intake c.replace-channels.result.items c.replace-all_pending.result.items c.self.view_is c.requires.sound c.requires.none_runs c.self.invariant c.in-Some.ensures.value
    (ap vec_items c.replace-channels.ensures.value) (ap vec_items c.replace-all_pending.ensures.value) c.run_beside-answers.ensures.intake in
    record {
      ok = tt;
      rest = tt;
      refused = has_broken_off a _ ready c.into_parts-posts.result.0 intake c.self.view_is begins c.into_parts-posts.ensures.posts;
      failed = broken_rest a _ ready c.into_parts-posts.result.0 intake c.self.view_is begins c.into_parts-posts.ensures.posts;
      takes = c.run_beside-answers.ensures.takes;
    }
