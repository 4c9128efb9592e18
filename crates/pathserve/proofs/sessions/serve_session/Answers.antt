use Rattle.std.proofs.Common.{◌≡◌, ℕ, List, All, Result, map, refl, sym, ap, ◌∙◌, subst}
use Rattle.std.specs.Prelude.{IfOk}
use Rattle.std.proofs.lemmas.List.Elements.{All-map}
use Rattle.std.proofs.lemmas.Result.{IfOk-weaker}
use Rattle.posts.specs.declared.posts.Post.{Post}
use Rattle.posts.specs.Callers.{list_of, of_caller}
use Rattle.posts.specs.Maps.{Map}
use Rattle.turn_core.specs.Turns.{replies_in, IsOneThread}
use Rattle.path_service.specs.Callers.{EndedState, caller_id, fresh}
use Rattle.path_service.specs.Services.{DriverState, started_on}
use Rattle.path_service.specs.Closings.{ClosedState, IsClosedBy}
use Rattle.path_service.proofs.FreshCallers.{ids_of_fresh}
use Rattle.pathserve.specs.Serving.{IsJournalOf, all_taken, collected_by, post_lane, sent_to}
use Rattle.pathserve.specs.inner.Sessions.{IsDriven}
use Rattle.pathserve.specs.inner.Works.{HasPostedNone}
use Rattle.pathserve.proofs.EndedCallers.{posted_first}
use Rattle.pathserve.proofs.SessionEnds.{HasEnded, ids_of_ended, on_its_map, journal_is, replies_are, all_posted, all_sent, all_collected}
use Rattle.pathserve.proofs.sessions.serve_session.Goals as goal

pub run_works-requires-clause-callers : goal.run_works-requires-clause-callers
run_works-requires-clause-callers g c κs within = ap (map caller_id) c.in_ok-driver.ensures.callers ∙ ids_of_fresh c.in_ok-driver.driver.callers

pub run_works-requires-clause-first : goal.run_works-requires-clause-first
run_works-requires-clause-first g c κs within =
    subst (All HasPostedNone) (sym c.in_ok-driver.ensures.callers) (All-map HasPostedNone fresh c.in_ok-driver.driver.callers (λ k d less. refl))

pub close-requires : goal.close-requires
close-requires g c =
    let driven = c.in_ok-driver-2.ensures in
    let first = posted_first c.in_ok-driver-2.field-0.driver.sent c.in_ok-driver.driver.callers c.args.posts.now driven.callers c.in_ok-driver-2.field-0.ended
    driven.posted driven.collected in
    record { callers = ids_of_ended c.in_ok-driver.driver.callers c.args.posts.now c.in_ok-driver-2.field-0.ended first ∙ sym driven.served.now.callers }

-- a session on a copy of the map, where there was memory to close it
ended_so : {E : Type 0} → (m copy : Map) (start d : DriverState) (posts : List (List Post)) (ended : List EndedState) (closed : Result ClosedState E) → copy ≡ m
    → start ≡ started_on copy start.callers → IsDriven start d posts ended → IfOk closed (IsClosedBy d ended) → IfOk closed (HasEnded m start d posts ended)
ended_so m copy start d posts ended closed same starts driven closes =
    IfOk-weaker closed (IsClosedBy d ended) (HasEnded m start d posts ended) (λ service closed_so. record {
      starts = starts ∙ ap (λ (n : Map). started_on n start.callers) same;
      driven = driven;
      closes = closed_so;
    }) closes

pub returns : goal.returns
returns g c =
    let m = c.args.spec.now in
    let start = c.in_ok-driver.driver in
    let d = c.in_ok-driver-2.field-0.driver in
    let posts = c.args.posts.now in
    let ended = c.in_ok-driver-2.field-0.ended in
    let closed = c.close.result in
    let Is : ClosedState → Type 0 = HasEnded m start d posts ended in
    let has = ended_so m c.in_ok-copy.field-0 start d posts ended closed c.in_ok-copy.ensures c.in_ok-driver.ensures.driver c.in_ok-driver-2.ensures c.close.ensures in
    record {
      map = IfOk-weaker closed Is (λ service. service.map ≡ m) (on_its_map m start d posts ended) has;
      journal = IfOk-weaker closed Is (λ service. IsJournalOf m.callers (list_of posts) service.journal) (journal_is m start d posts ended) has;
      replies = IfOk-weaker closed Is (λ service. IsOneThread m service.journal service.replies) (replies_are m start d posts ended) has;
      posted = IfOk-weaker closed Is (λ service. map post_lane service.callers ≡ map all_taken posts) (all_posted m start d posts ended) has;
      sent = IfOk-weaker closed Is (λ service. (caller : ℕ) → list_of (map sent_to service.callers) caller ≡ of_caller caller (replies_in service.replies))
          (all_sent m start d posts ended) has;
      collected = IfOk-weaker closed Is (λ service. (caller : ℕ) → list_of (map collected_by service.callers) caller ≡ of_caller caller (replies_in service.replies))
          (all_collected m start d posts ended) has;
    }
