use Rattle.std.proofs.Common.{ℕ, ◌≡◌, List, slice_index, sym, subst, ◌∙◌}
use Rattle.std.proofs.lemmas.List.{get_or_read}
use Rattle.open_heap.specs.declared.buckets.Waiting.{Waiting}
use Rattle.open_heap.specs.inner.Buckets.{IsChain, AreGathered}
use Rattle.open_heap.proofs.Chains.{buckets_taken, held_taken}
use Rattle.open_heap.proofs.buckets.Buckets.take_bucket.Goals as goal

pub invariant_of-self : goal.invariant_of-self
invariant_of-self c =
    let b = c.args.self.now in
    let bucket = c.args.bucket in
    let later = b.later.items in
    let here = c.gather.new.here.items in
    let list : c.deref.result.now ≡ later = c.deref.ensures.value in
    let end : c.index.result.now ≡ slice_index b.heads.items bucket =
    get_or_read b.heads.items bucket c.index.result.now c.requires.known c.index.ensures 0 in
    let chain : IsChain b.start later bucket (slice_index b.heads.items bucket) =
    record { last = b.sound.lasts bucket; links = b.sound.links } in
    let gathered = subst (λ (l : List Waiting). AreGathered b.start l bucket b.here.items here) list
    (c.gather.ensures.gathered b.start bucket (subst (λ (l : List Waiting). IsChain b.start l bucket c.index.result.now) (sym list)
    (subst (λ (n : ℕ). IsChain b.start later bucket n) (sym end) chain))) in
    record {
      sound = buckets_taken b.start b.reached b.heads.items later b.here.items here c.sort_falling.new.entries.items _ _ bucket b.sound
          c.requires.done gathered c.sort_falling.ensures.falling c.sort_falling.ensures.same
          (c.sort_falling.ensures.capacity ∙ c.gather.ensures.capacity);
    }

pub returns-clause-kept : goal.returns-clause-kept
returns-clause-kept c = λ other held.
    let b = c.args.self.now in
    let bucket = c.args.bucket in
    let later = b.later.items in
    let here = c.gather.new.here.items in
    let list : c.deref.result.now ≡ later = c.deref.ensures.value in
    let end : c.index.result.now ≡ slice_index b.heads.items bucket =
    get_or_read b.heads.items bucket c.index.result.now c.requires.known c.index.ensures 0 in
    let chain : IsChain b.start later bucket (slice_index b.heads.items bucket) =
    record { last = b.sound.lasts bucket; links = b.sound.links } in
    let gathered = subst (λ (l : List Waiting). AreGathered b.start l bucket b.here.items here) list
    (c.gather.ensures.gathered b.start bucket (subst (λ (l : List Waiting). IsChain b.start l bucket c.index.result.now) (sym list)
    (subst (λ (n : ℕ). IsChain b.start later bucket n) (sym end) chain))) in
    held_taken b.start b.reached b.heads.items later b.here.items here c.sort_falling.new.entries.items _ bucket b.sound c.requires.done
    gathered c.sort_falling.ensures.same c.requires.first other held
