-- What waits in later buckets, linked by bucket.
use Rattle.std.proofs.Common.{ℕ, Bool, true, false, if◌then◌else◌, ◌≡◌, ◌≢◌, ◌<◌, ◌≤◌, ◌⊎◌, ◌↔◌, ◌+◌, ◌-◌, List, [], ◌∷◌, ◌++◌, length, length-append, get_or, set, slice_index, take, drop, Option, Some, Contains, refl, ap, inl, inr, sym, subst, ◌∙◌, arith}
use Rattle.std.specs.List.{slice_get, insert}
use Rattle.std.specs.Option.{option_to_list}
use Rattle.std.proofs.lemmas.Bool.{cases_eq, cases_lt}
use Rattle.std.proofs.lemmas.Option.{slice_get_within, same_Some}
use Rattle.std.proofs.lemmas.List.{get_or-set_same, get_or-set_other, take-append-drop}
use Rattle.std.proofs.lemmas.List.Elements.{Contains-append_left, Contains-append_right, Contains-append_cases, Contains-push, Contains-push_cases}
use Rattle.nav_types.proofs.Items.{Contains-from_slice_get, Contains-none, slice_get-before, slice_get-push_last}
use Rattle.open_heap.specs.declared.buckets.Waiting.{Waiting}
use Rattle.open_heap.specs.declared.entries.Entry.{Entry}
use Rattle.open_heap.specs.inner.Buckets.{bucket_of, entry_of, AreFalling, IsLastOf, AreLinked, AreBuckets, IsWaiting, IsHeld, IsChain, AreGathered}
use Rattle.open_heap.proofs.Falling.{falling_left, falling_more, falling_push, last_is_least, taken_or_there}

abbrev pub blank : Waiting
blank = record { estimate = 0; key = 0; next = 0 }

-- ---- one more that waits
pub last_before : (start : ℕ) (later : List Waiting) (more : Waiting) (bucket bound end : ℕ) → bound ≤ length later
    → IsLastOf start later bucket bound end → IsLastOf start (later ++ more ∷ []) bucket bound end
last_before start later more bucket bound end short is = record {
  within = is.within;
  here = λ number waiting last known.
      let within = is.within in
      is.here number waiting last (sym (slice_get-before later (more ∷ []) number (omega (arith, short, within, last))) ∙ known);
  past = λ number waiting from to known.
      is.past number waiting from to (sym (slice_get-before later (more ∷ []) number (omega (arith, short, to))) ∙ known);
}

-- what stands at the end is the one that was put there
at_end : (later : List Waiting) (more waiting : Waiting) (number : ℕ) → number ≡ length later
    → slice_get (later ++ more ∷ []) number ≡ Some waiting → more ≡ waiting
at_end later more waiting number end known = same_Some more waiting (sym (slice_get-push_last later more)
    ∙ ap (λ (k : ℕ). slice_get (later ++ more ∷ []) k) (sym end) ∙ known)

pub last_other : (start : ℕ) (later : List Waiting) (more : Waiting) (bucket end : ℕ) → bucket_of start more.estimate ≢ bucket
    → IsLastOf start later bucket (length later) end → IsLastOf start (later ++ more ∷ []) bucket (length later + 1) end
last_other start later more bucket end apart is =
    let before = last_before start later more bucket (length later) end (omega arith) is in
    let within = is.within in
    record {
      within = omega (arith, within);
      here = before.here;
      past = λ number waiting from to known. elim (cases_lt number (length later)) [
        | inl less ↦ before.past number waiting from less known
        | inr past ↦
            let end = at_end later more waiting number (omega (arith, to, past)) known in
            subst (λ (w : Waiting). bucket_of start w.estimate ≢ bucket) end apart
      ];
    }

pub last_same : (start : ℕ) (later : List Waiting) (more : Waiting) (bucket : ℕ) → bucket_of start more.estimate ≡ bucket
    → IsLastOf start (later ++ more ∷ []) bucket (length later + 1) (length later + 1)
last_same start later more bucket is = record {
  within = omega arith;
  here = λ number waiting last known.
      let end = at_end later more waiting number (omega (arith, last)) known in
      subst (λ (w : Waiting). bucket_of start w.estimate ≡ bucket) end is;
  past = λ number waiting from to known same. omega (arith, from, to);
}

pub linked_more : (start : ℕ) (later : List Waiting) (more : Waiting) → AreLinked start later
    → IsLastOf start later (bucket_of start more.estimate) (length later) more.next → AreLinked start (later ++ more ∷ [])
linked_more start later more links last number waiting known =
    let all = later ++ more ∷ [] in
    let size : length all ≡ length later + 1 = length-append later (more ∷ []) in
    let within = slice_get_within all number waiting known in
    elim (cases_lt number (length later)) [
      | inl less ↦
          let was = sym (slice_get-before later (more ∷ []) number less) ∙ known in
          last_before start later more (bucket_of start waiting.estimate) number waiting.next (omega (arith, less)) (links number waiting was)
      | inr past ↦
          let end : number ≡ length later = omega (arith, size, within, past) in
          let same = at_end later more waiting number end known in
          let is = last_before start later more (bucket_of start more.estimate) (length later) more.next (omega arith) last in
          let P = λ (w : Waiting). IsLastOf start all (bucket_of start w.estimate) number w.next in
          let Q = λ (k : ℕ). IsLastOf start all (bucket_of start more.estimate) k more.next in
          subst P same (subst Q (sym end) is)
    ]

-- the heads where one more is put into its bucket
pub heads_more : (start : ℕ) (heads : List ℕ) (later : List Waiting) (more : Waiting) (bucket : ℕ) → bucket_of start more.estimate ≡ bucket
    → bucket < length heads → ((b : ℕ) → IsLastOf start later b (length later) (slice_index heads b))
    → (b : ℕ) → IsLastOf start (later ++ more ∷ []) b (length later + 1) (slice_index (set heads bucket (length later + 1)) b)
heads_more start heads later more bucket is known lasts b =
    let P = λ (end : ℕ). IsLastOf start (later ++ more ∷ []) b (length later + 1) end in
    elim (cases_eq b bucket) [
      | inl same ↦
          let at : slice_index (set heads bucket (length later + 1)) b ≡ length later + 1 =
          ap (λ (k : ℕ). slice_index (set heads bucket (length later + 1)) k) same ∙ get_or-set_same heads bucket (length later + 1) 0 known in
          subst P (sym at) (last_same start later more b (is ∙ sym same))
      | inr other ↦
          let at : slice_index (set heads bucket (length later + 1)) b ≡ slice_index heads b = get_or-set_other heads bucket b (length later + 1) 0 other in
          subst P (sym at) (last_other start later more b (slice_index heads b) (λ same. other (sym same ∙ is)) (lasts b))
    ]

pub waiting_still : (start reached : ℕ) (later : List Waiting) (more : Waiting) (entry : Entry) → IsWaiting start reached later entry
    → IsWaiting start reached (later ++ more ∷ []) entry
waiting_still start reached later more entry is = record {
  number = is.number;
  waiting = is.waiting;
  known = slice_get-before later (more ∷ []) is.number (slice_get_within later is.number is.waiting is.known) ∙ is.known;
  same = is.same;
  ahead = is.ahead;
}

-- ---- a bucket that is gathered
pub record IsGathering (start : ℕ) (later : List Waiting) (bucket : ℕ) (old new : List Entry) (after : ℕ) : Type 0 where
  pub within : after ≤ length later
  pub top : (number : ℕ) (waiting : Waiting) → number + 1 ≡ after → slice_get later number ≡ Some waiting
      → bucket_of start waiting.estimate ≡ bucket
  pub done : (number : ℕ) (waiting : Waiting) → after ≤ number → slice_get later number ≡ Some waiting
      → bucket_of start waiting.estimate ≡ bucket → Contains new (entry_of waiting)
  pub only : (entry : Entry) → Contains new entry → Contains old entry ⊎ (bucket_of start entry.estimate ≡ bucket)

pub gathering_goes_on : (start : ℕ) (later : List Waiting) (bucket end : ℕ) (old new : List Entry) (after number : ℕ) (waiting : Waiting)
    → IsChain start later bucket end → IsGathering start later bucket old new after → number + 1 ≡ after
    → slice_get later number ≡ Some waiting → IsGathering start later bucket old (new ++ entry_of waiting ∷ []) waiting.next
gathering_goes_on start later bucket end old new after number waiting chain going last known =
    let link = chain.links number waiting known in
    let here : bucket_of start waiting.estimate ≡ bucket = going.top number waiting last known in
    let low = slice_get_within later number waiting known in
    let next = link.within in
    record {
      within = omega (arith, low, next);
      top = λ other w is at. link.here other w is at ∙ here;
      done = λ other w from at is. elim (cases_lt other number) [
        | inl less ↦ absurd (link.past other w from less at (is ∙ sym here))
        | inr more ↦ elim (cases_eq other number) [
          | inl same ↦
              let one : waiting ≡ w = same_Some waiting w (sym known ∙ ap (λ (k : ℕ). slice_get later k) (sym same) ∙ at) in
              subst (λ (x : Waiting). Contains (new ++ entry_of waiting ∷ []) (entry_of x)) one (Contains-push new (entry_of waiting))
          | inr differ ↦ Contains-append_left new (entry_of waiting ∷ []) (entry_of w)
              (going.done other w (omega (arith, last, more, differ)) at is)
        ]
      ];
      only = λ entry has. elim (Contains-push_cases new (entry_of waiting) entry has) [
        | inl was ↦ going.only entry was
        | inr is ↦ inr (subst (λ (e : Entry). bucket_of start e.estimate ≡ bucket) is here)
      ];
    }

pub gathering_ends : (start : ℕ) (later : List Waiting) (bucket : ℕ) (old new : List Entry) (after : ℕ) → after ≤ 0
    → IsGathering start later bucket old new after → AreGathered start later bucket old new
gathering_ends start later bucket old new after none going = record {
  all = λ number waiting known is. going.done number waiting (omega (arith, none)) known is;
  only = going.only;
}

-- ---- a bucket that becomes the current one
pub nothing_waits : (start : ℕ) (later : List Waiting) (bucket end : ℕ) → IsLastOf start later bucket (length later) end → end ≡ 0
    → (number : ℕ) (waiting : Waiting) → slice_get later number ≡ Some waiting → bucket_of start waiting.estimate ≢ bucket
nothing_waits start later bucket end last none number waiting known =
    last.past number waiting (omega (arith, none)) (slice_get_within later number waiting known) known

-- what waits stands in the bucket of its estimate
pub waits_there : (start reached : ℕ) (later : List Waiting) (entry : Entry) (is : IsWaiting start reached later entry)
    → bucket_of start is.waiting.estimate ≡ bucket_of start entry.estimate
waits_there start reached later entry is = ap (λ (e : Entry). bucket_of start e.estimate) is.same

pub none_held : (start reached : ℕ) (heads : List ℕ) (later : List Waiting) (here : List Entry) (most : ℕ)
    → AreBuckets start reached heads later here most → here ≡ []
    → ((other : ℕ) → reached ≤ other → slice_index heads other ≡ 0) → (entry : Entry) → IsHeld start reached later here entry → ⊥
none_held start reached heads later here most sound none empty entry (inl has) =
    Contains-none entry (subst (λ (entries : List Entry). Contains entries entry) none has)
none_held start reached heads later here most sound none empty entry (inr waits) =
    let bucket = bucket_of start entry.estimate in
    nothing_waits start later bucket (slice_index heads bucket) (sound.lasts bucket) (empty bucket waits.ahead) waits.number waits.waiting
    waits.known (waits_there start reached later entry waits)

pub buckets_taken : (start reached : ℕ) (heads : List ℕ) (later : List Waiting) (old gathered sorted : List Entry) (most more bucket : ℕ)
    → AreBuckets start reached heads later old most → old ≡ [] → AreGathered start later bucket old gathered → AreFalling sorted
    → ((entry : Entry) → Contains sorted entry ↔ Contains gathered entry) → more ≡ most
    → AreBuckets start (bucket + 1) heads later sorted more
buckets_taken start reached heads later old gathered sorted most more bucket sound none gather falling same room = record {
  room = let was = sound.room in omega (arith, was, room);
  falling = falling;
  low = λ entry has. elim (gather.only entry ((same entry).0 has)) [
    | inl was ↦ absurd (Contains-none entry (subst (λ (entries : List Entry). Contains entries entry) none was))
    | inr is ↦ omega (arith, is)
  ];
  lasts = sound.lasts;
  links = sound.links;
}

pub held_taken : (start reached : ℕ) (heads : List ℕ) (later : List Waiting) (old gathered sorted : List Entry) (most bucket : ℕ)
    → AreBuckets start reached heads later old most → old ≡ [] → AreGathered start later bucket old gathered
    → ((entry : Entry) → Contains sorted entry ↔ Contains gathered entry)
    → ((other : ℕ) → reached ≤ other → other < bucket → slice_index heads other ≡ 0)
    → (entry : Entry) → IsHeld start reached later old entry → IsHeld start (bucket + 1) later sorted entry
held_taken start reached heads later old gathered sorted most bucket sound none gather same empty entry (inl has) =
    absurd (Contains-none entry (subst (λ (entries : List Entry). Contains entries entry) none has))
held_taken start reached heads later old gathered sorted most bucket sound none gather same empty entry (inr waits) =
    let its = bucket_of start entry.estimate in
    let there = waits_there start reached later entry waits in
    elim (cases_eq its bucket) [
      | inl here ↦ inl ((same entry).1 (subst (λ (e : Entry). Contains gathered e) waits.same
          (gather.all waits.number waits.waiting waits.known (there ∙ here))))
      | inr apart ↦ elim (cases_lt its bucket) [
        | inl less ↦ absurd (nothing_waits start later its (slice_index heads its) (sound.lasts its) (empty its waits.ahead less)
            waits.number waits.waiting waits.known there)
        | inr more ↦ inr (record {
          number = waits.number;
          waiting = waits.waiting;
          known = waits.known;
          same = waits.same;
          ahead = omega (arith, apart, more);
        })
      ]
    ]

-- ---- an entry of a later bucket
pub buckets_later : (start reached : ℕ) (heads places : List ℕ) (later : List Waiting) (here : List Entry) (most room bucket : ℕ) (more : Waiting)
    → AreBuckets start reached heads later here most → ((other : ℕ) → slice_index places other ≡ slice_index heads other)
    → bucket_of start more.estimate ≡ bucket → bucket < length places → more.next ≡ slice_index places bucket → length later + 1 ≤ room
    → AreBuckets start reached (set places bucket (length later + 1)) (later ++ more ∷ []) here room
buckets_later start reached heads places later here most room bucket more sound same is known next enough =
    let size : length (later ++ more ∷ []) ≡ length later + 1 = length-append later (more ∷ []) in
    let lasts : (b : ℕ) → IsLastOf start later b (length later) (slice_index places b) = λ b.
    subst (λ (end : ℕ). IsLastOf start later b (length later) end) (sym (same b)) (sound.lasts b) in
    let heads = heads_more start places later more bucket is known lasts in
    record {
      room = omega (arith, size, enough);
      falling = sound.falling;
      low = sound.low;
      lasts = λ b. subst (λ (bound : ℕ). IsLastOf start (later ++ more ∷ []) b bound (slice_index (set places bucket (length later + 1)) b))
          (sym size) (heads b);
      links = linked_more start later more sound.links
          (subst (λ (b : ℕ). IsLastOf start later b (length later) more.next) (sym is)
          (subst (λ (end : ℕ). IsLastOf start later bucket (length later) end) (sym next) (lasts bucket)));
    }

pub held_later : (start reached : ℕ) (later : List Waiting) (here : List Entry) (more : Waiting) (entry : Entry)
    → IsHeld start reached later here entry → IsHeld start reached (later ++ more ∷ []) here entry
held_later start reached later here more entry (inl has) = inl has
held_later start reached later here more entry (inr waits) = inr (waiting_still start reached later more entry waits)

pub held_now : (start reached : ℕ) (later : List Waiting) (here : List Entry) (more : Waiting) → reached ≤ bucket_of start more.estimate
    → IsHeld start reached (later ++ more ∷ []) here (entry_of more)
held_now start reached later here more ahead = inr (record {
  number = length later;
  waiting = more;
  known = slice_get-push_last later more;
  same = refl;
  ahead = ahead;
})

-- ---- an entry behind those of the current bucket
pub buckets_pushed : (start reached : ℕ) (heads : List ℕ) (later : List Waiting) (here : List Entry) (most more : ℕ) (entry : Entry)
    → AreBuckets start reached heads later here most → bucket_of start entry.estimate < reached
    → ((place : ℕ) (d : Entry) → place + 1 ≡ length here → entry.estimate ≤ (get_or here place d).estimate) → more ≡ most
    → AreBuckets start reached heads later (here ++ entry ∷ []) more
buckets_pushed start reached heads later here most more entry sound low last room = record {
  room = let was = sound.room in omega (arith, was, room);
  falling = falling_push here entry sound.falling last;
  low = λ other has. elim (Contains-push_cases here entry other has) [
    | inl was ↦ sound.low other was
    | inr is ↦ subst (λ (e : Entry). bucket_of start e.estimate < reached) is low
  ];
  lasts = sound.lasts;
  links = sound.links;
}

pub held_pushed : (start reached : ℕ) (later : List Waiting) (here : List Entry) (entry other : Entry)
    → IsHeld start reached later here other → IsHeld start reached later (here ++ entry ∷ []) other
held_pushed start reached later here entry other (inl has) = inl (Contains-append_left here (entry ∷ []) other has)
held_pushed start reached later here entry other (inr waits) = inr waits

-- ---- an entry among those of the current bucket
there_still : (here : List Entry) (entry other : Entry) (place : ℕ) → Contains here other → Contains (insert here place entry) other
there_still here entry other place has =
    let front : List Entry = take place here in
    let rest : List Entry = drop place here in
    elim (Contains-append_cases front rest other (subst (λ (es : List Entry). Contains es other) (sym (take-append-drop place here)) has)) [
      | inl early ↦ Contains-append_left front (entry ∷ rest) other early
      | inr late ↦ Contains-append_right front (entry ∷ rest) other (Contains-append_right (entry ∷ []) rest other late)
    ]

was_or_new : (here : List Entry) (entry other : Entry) (place : ℕ) → Contains (insert here place entry) other
    → Contains here other ⊎ (entry ≡ other)
was_or_new here entry other place has =
    let front : List Entry = take place here in
    let rest : List Entry = drop place here in
    let all : front ++ rest ≡ here = take-append-drop place here in
    elim (Contains-append_cases front (entry ∷ rest) other has) [
      | inl early ↦ inl (subst (λ (es : List Entry). Contains es other) all (Contains-append_left front rest other early))
      | inr late ↦ elim (Contains-append_cases (entry ∷ []) rest other late) [
        | inl one ↦ elim (Contains-push_cases [] entry other one) [
          | inl none ↦ absurd (Contains-none other none)
          | inr is ↦ inr is
        ]
        | inr after ↦ inl (subst (λ (es : List Entry). Contains es other) all (Contains-append_right front rest other after))
      ]
    ]

pub buckets_inserted : (start reached : ℕ) (heads : List ℕ) (later : List Waiting) (here : List Entry) (most more place : ℕ) (entry : Entry)
    → AreBuckets start reached heads later here most → bucket_of start entry.estimate < reached → place ≤ length here
    → ((at : ℕ) (d : Entry) → at < place → entry.estimate ≤ (get_or here at d).estimate)
    → ((at : ℕ) (d : Entry) → place ≤ at → at < length here → (get_or here at d).estimate ≤ entry.estimate)
    → most ≤ more → AreBuckets start reached heads later (insert here place entry) more
buckets_inserted start reached heads later here most more place entry sound low inside before behind room = record {
  room = let was = sound.room in omega (arith, was, room);
  falling = falling_more here entry place sound.falling inside before behind;
  low = λ other has. elim (was_or_new here entry other place has) [
    | inl was ↦ sound.low other was
    | inr is ↦ subst (λ (e : Entry). bucket_of start e.estimate < reached) is low
  ];
  lasts = sound.lasts;
  links = sound.links;
}

pub buckets_maybe_inserted : (done : Bool) (start reached : ℕ) (heads : List ℕ) (later : List Waiting) (here new : List Entry)
    (most more place : ℕ) (entry : Entry)
    → AreBuckets start reached heads later here most → bucket_of start entry.estimate < reached → place ≤ length here
    → ((at : ℕ) (d : Entry) → at < place → entry.estimate ≤ (get_or here at d).estimate)
    → ((at : ℕ) (d : Entry) → place ≤ at → at < length here → (get_or here at d).estimate ≤ entry.estimate)
    → most ≤ more → new ≡ (if done then insert here place entry else here) → AreBuckets start reached heads later new more
buckets_maybe_inserted true start reached heads later here new most more place entry sound low inside before behind room is =
    subst (λ (es : List Entry). AreBuckets start reached heads later es more) (sym is)
    (buckets_inserted start reached heads later here most more place entry sound low inside before behind room)
buckets_maybe_inserted false start reached heads later here new most more place entry sound low inside before behind room is = record {
  room = let was = sound.room in omega (arith, was, room);
  falling = subst AreFalling (sym is) sound.falling;
  low = λ other has. sound.low other (subst (λ (es : List Entry). Contains es other) is has);
  lasts = sound.lasts;
  links = sound.links;
}

pub held_inserted : (start reached : ℕ) (later : List Waiting) (here : List Entry) (place : ℕ) (entry other : Entry)
    → IsHeld start reached later here other → IsHeld start reached later (insert here place entry) other
held_inserted start reached later here place entry other (inl has) = inl (there_still here entry other place has)
held_inserted start reached later here place entry other (inr waits) = inr waits

pub inserted_there : (here : List Entry) (place : ℕ) (entry : Entry) → Contains (insert here place entry) entry
inserted_there here place entry =
    Contains-append_right (take place here) (entry ∷ drop place here) entry
    (Contains-append_left (entry ∷ []) (drop place here) entry (Contains-push [] entry))

-- ---- the last entry of the current bucket is taken out
pub buckets_popped : (start reached : ℕ) (heads : List ℕ) (later : List Waiting) (old new : List Entry) (taken : Option Entry) (most more : ℕ)
    → AreBuckets start reached heads later old most → old ≡ new ++ option_to_list taken → more ≡ most
    → AreBuckets start reached heads later new more
buckets_popped start reached heads later old new taken most more sound items room = record {
  room = let was = sound.room in omega (arith, was, room);
  falling = falling_left new taken (subst AreFalling items sound.falling);
  low = λ other has. sound.low other
      (subst (λ (es : List Entry). Contains es other) (sym items) (Contains-append_left new (option_to_list taken) other has));
  lasts = sound.lasts;
  links = sound.links;
}

pub held_popped : (start reached : ℕ) (later : List Waiting) (old new : List Entry) (taken : Option Entry) (last other : Entry)
    → old ≡ new ++ option_to_list taken → slice_get old (length old - 1) ≡ Some last → IsHeld start reached later old other
    → (last ≡ other) ⊎ IsHeld start reached later new other
held_popped start reached later old new taken last other items known (inl has) =
    elim (taken_or_there old new taken items last other known has) [
      | inl is ↦ inl is
      | inr there ↦ inr (inl there)
    ]
held_popped start reached later old new taken last other items known (inr waits) = inr (inr waits)

-- ---- what is held
pub held_still : (start reached : ℕ) (later : List Waiting) (here : List Entry) (from now : ℕ) (waits : List Waiting) (there : List Entry)
    (entry : Entry) → from ≡ start → now ≡ reached → waits ≡ later → (Contains here entry → Contains there entry)
    → IsHeld start reached later here entry → IsHeld from now waits there entry
held_still start reached later here from now waits there entry starts same list keeps (inl has) = inl (keeps has)
held_still start reached later here from now waits there entry starts same list keeps (inr is) =
    inr (subst (λ (s : ℕ). IsWaiting s now waits entry) (sym starts) (subst (λ (r : ℕ). IsWaiting start r waits entry) (sym same)
    (subst (λ (l : List Waiting). IsWaiting start reached l entry) (sym list) is)))

pub least_held : (start reached : ℕ) (heads : List ℕ) (later : List Waiting) (here : List Entry) (most : ℕ)
    → AreBuckets start reached heads later here most → (entry : Entry) → slice_get here (length here - 1) ≡ Some entry
    → (other : Entry) → IsHeld start reached later here other → entry.estimate ≤ other.estimate
least_held start reached heads later here most sound entry known other (inl has) =
    last_is_least here entry sound.falling known other has
least_held start reached heads later here most sound entry known other (inr waits) =
    let low = sound.low entry (Contains-from_slice_get here (length here - 1) entry known) in
    let ahead = waits.ahead in
    omega (arith, low, ahead)
