use Rattle.std.proofs.Common.{ℕ, ◌≡◌, ◌+◌, List, [], ◌∷◌, ◌++◌, length, set, slice_index, refl, sym, subst, arith}
use Rattle.std.specs.Vec.{vec_capacity}
use Rattle.std.proofs.lemmas.List.{get_or_read}
use Rattle.open_heap.specs.declared.buckets.Waiting.{Waiting}
use Rattle.open_heap.specs.inner.Buckets.{AreBuckets, IsHeld}
use Rattle.open_heap.proofs.Chains.{buckets_later, held_later, held_now}
use Rattle.open_heap.proofs.buckets.Buckets.link.Goals as goal

pub invariant_of-self : goal.invariant_of-self
invariant_of-self c =
    let b = c.args.self.now in
    let entry = c.args.entry in
    let bucket = c.args.bucket in
    let later = b.later.items in
    let room = vec_capacity b.here in
    let more : Waiting = record { estimate = entry.estimate; key = entry.key; next = c.index-next.result.now } in
    let size = b.later.ok.0 in
    let len = c.len.ensures in
    let after : length later + 1 ≡ c.len.result + 1 = omega (arith, len, size) in
    let enough = c.requires.room.here in
    let known = c.requires.room.known in
    let read : more.next ≡ slice_index b.heads.items bucket = get_or_read b.heads.items bucket c.index-next.result.now known
    c.index-next.ensures 0 in
    let added = buckets_later b.start b.reached b.heads.items b.heads.items later b.here.items _ room bucket more b.sound (λ other. refl)
    (sym c.requires.bucket) known read (omega (arith, enough, size)) in
    let one = subst (λ (n : ℕ). AreBuckets b.start b.reached (set b.heads.items bucket n) (later ++ more ∷ []) b.here.items room) after added in
    record {
      sound = subst (λ (l : List Waiting). AreBuckets b.start b.reached (set b.heads.items bucket (c.len.result + 1)) l b.here.items room)
          (sym c.push_reserved.ensures.items) one;
    }

pub returns-clause-added : goal.returns-clause-added
returns-clause-added c =
    let b = c.args.self.now in
    let entry = c.args.entry in
    let later = b.later.items in
    let more : Waiting = record { estimate = entry.estimate; key = entry.key; next = c.index-next.result.now } in
    let is = c.requires.bucket in
    let past = c.requires.later in
    subst (λ (l : List Waiting). IsHeld b.start b.reached l b.here.items entry) (sym c.push_reserved.ensures.items)
    (held_now b.start b.reached later b.here.items more (omega (arith, is, past)))

pub returns-clause-kept : goal.returns-clause-kept
returns-clause-kept c = λ other held.
    let b = c.args.self.now in
    let entry = c.args.entry in
    let later = b.later.items in
    let more : Waiting = record { estimate = entry.estimate; key = entry.key; next = c.index-next.result.now } in
    subst (λ (l : List Waiting). IsHeld b.start b.reached l b.here.items other) (sym c.push_reserved.ensures.items)
    (held_later b.start b.reached later b.here.items more other held)
