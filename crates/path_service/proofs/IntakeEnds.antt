-- How an intake ends.
use Rattle.std.proofs.Common.{◌≡◌, ℕ, ◌+◌, ◌-◌, ◌<◌, ◌≤◌, List, [], ◌∷◌, ◌++◌, Option, None, Some, Result, Ok, Err, length, replicate, refl, sym, ap, ◌∙◌, subst, arith, IfOk, length-append}
use Rattle.std.proofs.lemmas.List.Sums.{sum_by-cons}
use Rattle.nav_types.specs.declared.limits.TheConstants.{MAX_STAGED_POSTS}
use Rattle.nav_types.specs.declared.sequences.NoMemory.{NoMemory}
use Rattle.posts.specs.declared.posts.Post.{Post}
use Rattle.posts.specs.Maps.{Map}
use Rattle.posts.specs.Posts.{post_count}
use Rattle.turn_core.specs.Words.{Standing}
use Rattle.turn_core.specs.ReadyTurns.{Ready}
use Rattle.path_service.specs.declared.channels.Channel.{Channel}
use Rattle.path_service.specs.declared.intakes.TurnIntake.{TurnIntake}
use Rattle.path_service.specs.inner.Zips.{zipped, AllPaired}
use Rattle.path_service.specs.inner.Channels.{joins, PortHasLooked, FillsPorts}
use Rattle.path_service.specs.inner.Intakes.{Becomes, HasTakenIn}

count_joined : (all_pending got : List (List Post)) → length got ≡ length all_pending → post_count (zipped joins all_pending got) ≡ post_count all_pending + post_count got
count_joined [] [] e = refl
count_joined [] (g ∷ got) e = absurd (omega (arith, e))
count_joined (h ∷ all_pending) [] e = absurd (omega (arith, e))
count_joined (h ∷ all_pending) (g ∷ got) e =
    let first : post_count (zipped joins (h ∷ all_pending) (g ∷ got)) ≡ length (h ++ g) + post_count (zipped joins all_pending got) = sum_by-cons length (h ++ g) (zipped joins all_pending got) in
    omega (arith, first, length-append h g, count_joined all_pending got (omega (arith, e)), sum_by-cons length h all_pending, sum_by-cons length g got)

-- what is known once all lanes were looked at
pub record Looked (channels new : List Channel) (all_pending more : List (List Post)) (left : Result ℕ NoMemory) (got : List (List Post)) : Type 0 where
  pub wide : length all_pending ≡ length channels
  pub few : post_count all_pending ≤ MAX_STAGED_POSTS
  pub filled : FillsPorts channels new all_pending more (MAX_STAGED_POSTS - post_count all_pending) left got

all_counted : (channels new : List Channel) (all_pending more : List (List Post)) (left : Result ℕ NoMemory) (got : List (List Post)) → Looked channels new all_pending more left got → post_count (zipped joins all_pending got) ≡ post_count all_pending + post_count got
all_counted channels new all_pending more left got k = count_joined all_pending got (k.filled.wide ∙ sym k.wide)

few_counted : (channels new : List Channel) (all_pending more : List (List Post)) (left : Result ℕ NoMemory) (got : List (List Post)) → Looked channels new all_pending more left got → post_count (zipped joins all_pending got) ≤ MAX_STAGED_POSTS
few_counted channels new all_pending more (Ok left) got k = omega (arith, all_counted channels new all_pending more (Ok left) got k, k.filled.fills.0, k.few)
few_counted channels new all_pending more (Err refused) got k = omega (arith, all_counted channels new all_pending more (Err refused) got k, k.filled.fills, k.few)

-- no turn is ready, for want of memory
pub ends_short : (m : Map) (s : Standing) (channels new : List Channel) (all_pending more : List (List Post)) (left : Result ℕ NoMemory) (got : List (List Post)) (intake : TurnIntake) (refused : NoMemory) → Looked channels new all_pending more left got
    → intake.channels.items ≡ new → intake.all_pending.items ≡ more → intake.staged ≡ None → intake.count ≡ Err refused → HasTakenIn m s channels all_pending intake
ends_short m s channels new all_pending more left got intake refused k p h o r = record {
  got = got;
  wide = k.filled.wide;
  gains = p ∙ k.filled.channels;
  room = k.filled.few;
  few = few_counted channels new all_pending more left got k;
  becomes = becomes_short m s (zipped joins all_pending got) intake.all_pending.items intake.staged intake.count refused o r (h ∙ k.filled.all_pending);
  looked = subst (λ (c : Result ℕ NoMemory). IfOk c (λ n. n < MAX_STAGED_POSTS → AllPaired PortHasLooked channels got)) (sym r) tt;
}
  where
    becomes_short : (m : Map) (s : Standing) (all_pending new : List (List Post)) (o : Option Ready) (r : Result ℕ NoMemory) (refused : NoMemory) → o ≡ None → r ≡ Err refused → new ≡ all_pending → Becomes m s all_pending new o r
    becomes_short m s all_pending new None (Err again) refused e f is = is
    becomes_short m s all_pending new None (Ok count) refused e f is = cc
    becomes_short m s all_pending new (Some ready) r refused e f is = cc

-- there is no post
pub ends_empty : (m : Map) (s : Standing) (channels new : List Channel) (all_pending more : List (List Post)) (left : ℕ) (got : List (List Post)) (intake : TurnIntake) → Looked channels new all_pending more (Ok left) got → left ≡ MAX_STAGED_POSTS
    → intake.channels.items ≡ new → intake.all_pending.items ≡ more → intake.staged ≡ None → intake.count ≡ Ok 0 → HasTakenIn m s channels all_pending intake
ends_empty m s channels new all_pending more left got intake k whole p h o r =
    let none : post_count (zipped joins all_pending got) ≡ 0 = omega (arith, all_counted channels new all_pending more (Ok left) got k, k.filled.fills.0, k.few, whole) in
    record {
      got = got;
      wide = k.filled.wide;
      gains = p ∙ k.filled.channels;
      room = k.filled.few;
      few = few_counted channels new all_pending more (Ok left) got k;
      becomes = becomes_empty m s (zipped joins all_pending got) intake.all_pending.items intake.staged intake.count o r (h ∙ k.filled.all_pending) none;
      looked = subst (λ (c : Result ℕ NoMemory). IfOk c (λ n. n < MAX_STAGED_POSTS → AllPaired PortHasLooked channels got)) (sym r) (λ less. k.filled.fills.1 (omega (arith, whole)));
    }
  where
    becomes_empty : (m : Map) (s : Standing) (all_pending new : List (List Post)) (o : Option Ready) (r : Result ℕ NoMemory) → o ≡ None → r ≡ Ok 0 → new ≡ all_pending → post_count all_pending ≡ 0 → Becomes m s all_pending new o r
    becomes_empty m s all_pending new None (Ok count) e f is none =
        let counted : count ≡ 0 = cc in
        (is, (counted, none))
    becomes_empty m s all_pending new None (Err refused) e f is none = cc
    becomes_empty m s all_pending new (Some ready) r e f is none = cc

-- a turn is ready
pub ends_ready : (m : Map) (s : Standing) (channels new : List Channel) (all_pending more : List (List Post)) (left : ℕ) (got : List (List Post)) (intake : TurnIntake) (ready : Ready) → Looked channels new all_pending more (Ok left) got
    → (left ≡ MAX_STAGED_POSTS → ⊥) → intake.channels.items ≡ new → intake.all_pending.items ≡ replicate (length more) [] → intake.staged ≡ Some ready → ready ≡ record { map = m; before = s; turn = more }
    → intake.count ≡ Ok (MAX_STAGED_POSTS - left) → HasTakenIn m s channels all_pending intake
ends_ready m s channels new all_pending more left got intake ready k not_all p h o is r =
    let all : List (List Post) = zipped joins all_pending got in
    let counted : MAX_STAGED_POSTS - left ≡ post_count all = omega (arith, all_counted channels new all_pending more (Ok left) got k, k.filled.fills.0, k.few) in
    let any : 0 < MAX_STAGED_POSTS - left = omega (arith, not_all, k.filled.fills.0) in
    record {
      got = got;
      wide = k.filled.wide;
      gains = p ∙ k.filled.channels;
      room = k.filled.few;
      few = few_counted channels new all_pending more (Ok left) got k;
      becomes = becomes_ready m s all intake.all_pending.items intake.staged intake.count ready (MAX_STAGED_POSTS - left) o r
          (h ∙ ap (λ (l : List (List Post)). replicate (length l) []) k.filled.all_pending) (is ∙ ap (λ (l : List (List Post)). record { map = m; before = s; turn = l }) k.filled.all_pending) counted any;
      looked = subst (λ (c : Result ℕ NoMemory). IfOk c (λ n. n < MAX_STAGED_POSTS → AllPaired PortHasLooked channels got)) (sym r) (λ less. k.filled.fills.1 (omega (arith, less)));
    }
  where
    becomes_ready : (m : Map) (s : Standing) (all_pending new : List (List Post)) (o : Option Ready) (r : Result ℕ NoMemory) (ready : Ready) (n : ℕ) → o ≡ Some ready → r ≡ Ok n → new ≡ replicate (length all_pending) []
        → ready ≡ record { map = m; before = s; turn = all_pending } → n ≡ post_count all_pending → 0 < n → Becomes m s all_pending new o r
    becomes_ready m s all_pending new None r ready n e f is same counted any = cc
    becomes_ready m s all_pending new (Some other) (Err refused) ready n e f is same counted any = cc
    becomes_ready m s all_pending new (Some other) (Ok count) ready n e f is same counted any =
        let one : other ≡ ready = cc in
        let number : count ≡ n = cc in
        (is, (one ∙ same, (number ∙ counted, omega (arith, number, any))))

pub looked_of : (channels new : List Channel) (all_pending more : List (List Post)) (left : Result ℕ NoMemory) (got : List (List Post)) (held : ℕ) → length all_pending ≡ length channels → post_count all_pending ≤ MAX_STAGED_POSTS → held ≡ post_count all_pending
    → FillsPorts channels new all_pending more (MAX_STAGED_POSTS - held) left got → Looked channels new all_pending more left got
looked_of channels new all_pending more left got held wide few is filled = record {
  wide = wide;
  few = few;
  filled = subst (λ (n : ℕ). FillsPorts channels new all_pending more (MAX_STAGED_POSTS - n) left got) is filled;
}
