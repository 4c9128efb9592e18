use Rattle.std.proofs.Common.{◌≡◌, List, Result, Ok, Err, ap, ◌∙◌, subst, sym}
use Rattle.std.specs.Prelude.{IfOk, OnOk}
use Rattle.posts.specs.declared.posts.Post.{Post}
use Rattle.posts.specs.Posts.{post_count}
use Rattle.path_service.specs.Callers.{AreNumbered, CallerId, CallerState, EndedState}
use Rattle.path_service.specs.Services.{DriverState}
use Rattle.pathserve.specs.inner.Begun.{BeginAll}
use Rattle.pathserve.specs.inner.Sessions.{HasServed, IsDriven}
use Rattle.pathserve.specs.inner.Works.{AllEndWith, HaveAllPosted}
use Rattle.pathserve.proofs.EndedCallers.{ids_of_callers}
use Rattle.pathserve.proofs.sessions.run_beside.Goals as goal

pub end_all-requires-clause-callers : goal.end_all-requires-clause-callers
end_all-requires-clause-callers g c =
    let start = c.args.driver.now in
    let posts = c.args.posts.now in
    let works = c.in_ok-works.works.items in
    let all = c.in_ok-callers.ensures start.callers posts (subst (λ (ids : List CallerId). BeginAll ids posts works) c.requires.callers c.in_ok-works.ensures) in
    ids_of_callers start.callers posts c.in_ok-callers.callers all ∙ sym c.in_ok-drive.ensures.now.callers

pub end_all-requires-clause-numbers : goal.end_all-requires-clause-numbers
end_all-requires-clause-numbers g c = subst (AreNumbered 0) (sym c.in_ok-drive.ensures.now.callers) c.requires.numbers

-- the callers have ended, and the driver is as it was
driven_so : {E : Type 0} (start mid new : DriverState) (posts : List (List Post)) (callers : List CallerState) (result : Result (List EndedState) E)
    → HasServed start mid (post_count posts) → HaveAllPosted start.callers posts callers → OnOk result (new ≡ mid)
    → IfOk result (AllEndWith mid.sent callers) → IfOk result (IsDriven start new posts)
driven_so start mid new posts callers (Err refused) served all same ends = tt
driven_so start mid new posts callers (Ok ended) served all same ends = record {
  served = subst (λ (d : DriverState). HasServed start d (post_count posts)) (sym same) served;
  callers = callers;
  posted = all;
  collected = subst (λ (d : DriverState). AllEndWith d.sent callers ended) (sym same) ends;
}

pub returns : goal.returns
returns g c =
    let start = c.args.driver.now in
    let posts = c.args.posts.now in
    let works = c.in_ok-works.works.items in
    let all = c.in_ok-callers.ensures start.callers posts (subst (λ (ids : List CallerId). BeginAll ids posts works) c.requires.callers c.in_ok-works.ensures) in
    let served : HasServed start c.drive.new.driver (post_count posts) =
    rw (c.count_posts.ensures ∙ ap post_count c.as_slice.ensures) at c.in_ok-drive.ensures in
    driven_so start c.drive.new.driver c.end_all.new.driver posts c.in_ok-callers.callers c.end_all.result served all c.end_all.ensures.driver c.end_all.ensures.ended
