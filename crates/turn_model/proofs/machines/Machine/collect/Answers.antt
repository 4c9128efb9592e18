use Rattle.std.proofs.Common.{◌≡◌, ℕ, ◌+◌, List, None, Some, set, slice_index, sym, ap, ◌∙◌, subst}
use Rattle.std.specs.Prelude.{slice_get}
use Rattle.posts.specs.declared.replies.Reply.{Reply}
use Rattle.posts.specs.Callers.{list_of}
use Rattle.path_service.specs.declared.events.Event.TheVariants.{Collect}
use Rattle.turn_model.specs.declared.machines.delivered.DeliveredTurn.{DeliveredTurn}
use Rattle.path_service.specs.machine.States.{State}
use Rattle.path_service.specs.machine.Table.{why_not}
use Rattle.path_service.specs.machine.Effects.{collected}
use Rattle.path_service.specs.machine.Facts.{Facts}
use Rattle.turn_model.specs.inner.Runs.{HasCome, replies_to}
use Rattle.turn_model.specs.inner.Machines.{state_of}
use Rattle.turn_model.proofs.MachineSteps.{caller_replies, place_within, reply_left}
use Rattle.turn_model.proofs.ReplyPlaces.{come_at, come_next}
use Rattle.turn_model.proofs.machines.Machine.collect.Goals as goal

pub returns-in_default-clause-ok : goal.returns-in_default-clause-ok
returns-in_default-clause-ok c =
    let a = c.self.inside in
    let caller : ℕ = c.args.caller in
    let s : State = state_of a in
    let i : ℕ = c.from-at.result in
    let k : ℕ = slice_index a.collected.items i in
    let come : HasCome c.as_slice-2.result.now i k c.place_of-place.result =
    come_at a.delivered.items c.as_slice-2.result.now a.collected.items a.places.items c.as_slice.result.now i
    c.place_of-place.result c.as_slice-2.ensures.value c.as_slice.ensures.value c.place_of-place.ensures
    c.self.invariant.come in
    let found : slice_get (list_of s.replies caller) (slice_index s.collected caller) ≡ None =
    ap (λ (l : List Reply). slice_get l (slice_index s.collected caller)) (caller_replies s.map.callers a.delivered.items caller)
    ∙ sym (ap (λ (j : ℕ). slice_get (replies_to j c.as_slice-2.result.now) (slice_index a.collected.items j)) c.from-at.ensures
    ∙ ap (λ (ds : List DeliveredTurn). slice_get (replies_to caller ds) (slice_index s.collected caller)) c.as_slice-2.ensures.value)
    ∙ c.in_default.ensures.none k come in
    absurd (reply_left c.args.self.now caller c.requires.enabled
    (ap (λ (t : State). slice_get (list_of t.replies caller) (slice_index t.collected caller)) (sym c.self.view_is) ∙ found))

pub put_place-requires : goal.put_place-requires
put_place-requires c =
    place_within c.self.inside c.args.caller c.from-at.result c.self.invariant (subst Facts (sym c.self.view_is) c.requires.facts)
    (subst (λ (s : State). why_not s (Collect c.args.caller) ≡ None) (sym c.self.view_is) c.requires.enabled) c.from-at.ensures

pub invariant_of-self : goal.invariant_of-self
invariant_of-self c =
    let a = c.self.inside in
    let i : ℕ = c.from-at.result in
    let k : ℕ = slice_index a.collected.items i in
    let held = c.self.invariant in
    let come : HasCome c.as_slice-2.result.now i k c.place_of-place.result =
    come_at a.delivered.items c.as_slice-2.result.now a.collected.items a.places.items c.as_slice.result.now i
    c.place_of-place.result c.as_slice-2.ensures.value c.as_slice.ensures.value c.place_of-place.ensures held.come in
    let count : c.number_at-count.result ≡ k =
    c.number_at-count.ensures.value ∙ ap (λ (ns : List ℕ). slice_index ns i) c.as_slice-3.ensures.value in
    let within = place_within a c.args.caller i held (subst Facts (sym c.self.view_is) c.requires.facts)
    (subst (λ (s : State). why_not s (Collect c.args.caller) ≡ None) (sym c.self.view_is) c.requires.enabled) c.from-at.ensures in
    record {
      standing = held.standing;
      running = held.running;
      staged = held.staged;
      come = come_next a.delivered.items c.as_slice-2.result.now a.collected.items c.put_number.new.numbers.items
          a.places.items c.put_place.new.places.items i c.in-Some-checked_add.next c.in-Some.behind
          c.as_slice-2.ensures.value c.put_number.ensures (c.in-Some-checked_add.ensures.1 ∙ ap (λ (j : ℕ). j + 1) count)
          c.put_place.ensures within (c.in-Some.ensures.place k come) held.come;
    }

pub returns-clause-ok : goal.returns-clause-ok
returns-clause-ok c =
    let a = c.self.inside in
    let caller : ℕ = c.args.caller in
    let s : State = state_of a in
    let i : ℕ = c.from-at.result in
    let k : ℕ = slice_index a.collected.items i in
    let come : HasCome c.as_slice-2.result.now i k c.place_of-place.result =
    come_at a.delivered.items c.as_slice-2.result.now a.collected.items a.places.items c.as_slice.result.now i
    c.place_of-place.result c.as_slice-2.ensures.value c.as_slice.ensures.value c.place_of-place.ensures
    c.self.invariant.come in
    let count : c.number_at-count.result ≡ slice_index s.collected caller =
    c.number_at-count.ensures.value
    ∙ ap (λ (j : ℕ). slice_index c.as_slice-3.result.now j) c.from-at.ensures
    ∙ ap (λ (ns : List ℕ). slice_index ns caller) c.as_slice-3.ensures.value in
    let found : Some c.in-Some.reply.now ≡ slice_get (list_of s.replies caller) (slice_index s.collected caller) =
    c.in-Some.ensures.reply k come
    ∙ ap (λ (j : ℕ). slice_get (replies_to j c.as_slice-2.result.now) (slice_index a.collected.items j)) c.from-at.ensures
    ∙ ap (λ (ds : List DeliveredTurn). slice_get (replies_to caller ds) (slice_index s.collected caller)) c.as_slice-2.ensures.value
    ∙ ap (λ (l : List Reply). slice_get l (slice_index s.collected caller)) (sym (caller_replies s.map.callers a.delivered.items caller)) in (
      ap (λ (r : Reply). Some r) c.in_ok-reply.ensures ∙ found
          ∙ ap (λ (t : State). slice_get (list_of t.replies caller) (slice_index t.collected caller)) c.self.view_is,
      ap (λ (ns : List ℕ). record s { collected = ns })
          (c.put_number.ensures
          ∙ ap (λ (j : ℕ). set a.collected.items j c.in-Some-checked_add.next) c.from-at.ensures
          ∙ ap (set a.collected.items caller) (c.in-Some-checked_add.ensures.1 ∙ ap (λ (j : ℕ). j + 1) count))
          ∙ ap (λ (t : State). collected t caller) c.self.view_is,
    )
