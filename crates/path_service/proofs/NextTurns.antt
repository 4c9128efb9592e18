-- Drivers that take in the next turn.
use Rattle.std.proofs.Common.{◌≡◌, ℕ, ◌<◌, ◌≤◌, false, List, [], ◌∷◌, ◌++◌, Option, None, Some, Result, Ok, Err, length, map, replicate, slice_index, refl, sym, ap, ◌∙◌, subst, arith, append-nil, IfOk, All}
use Rattle.std.specs.Prelude.{IsSome, ◌↔◌}
use Rattle.std.proofs.lemmas.List.{length-map}
use Rattle.nav_types.specs.declared.limits.TheConstants.{MAX_STAGED_POSTS}
use Rattle.nav_types.specs.declared.sequences.NoMemory.{NoMemory}
use Rattle.posts.specs.declared.posts.Post.{Post}
use Rattle.posts.specs.declared.replies.Reply.{Reply}
use Rattle.posts.specs.Maps.{Map}
use Rattle.posts.specs.Callers.{list_of}
use Rattle.posts.specs.Posts.{post_count}
use Rattle.posts.proofs.PostCounts.{count_none}
use Rattle.path_service.specs.declared.events.Event.{Event}
use Rattle.path_service.specs.declared.events.Event.TheVariants.{Stage}
use Rattle.turn_core.specs.Words.{Standing, MapState}
use Rattle.turn_core.specs.ReadyTurns.{Ready}
use Rattle.path_service.specs.machine.States.{State}
use Rattle.path_service.specs.machine.Effects.{joined_up, Reaches}
use Rattle.path_service.specs.machine.Facts.{Facts}
use Rattle.path_service.specs.machine.Arrival.{post_events}
use Rattle.path_service.proofs.machine.Reaching.{reach-append}
use Rattle.path_service.proofs.machine.CallerLists.{none_at}
use Rattle.path_service.specs.declared.channels.Channel.{Channel}
use Rattle.path_service.specs.declared.intakes.TurnIntake.{TurnIntake}
use Rattle.path_service.specs.declared.drivers.Driver.TheInside.{Inside}
use Rattle.path_service.specs.Services.{in_hand, with_machine}
use Rattle.path_service.specs.Steps.{staging, HasReceived, HasStaged}
use Rattle.path_service.specs.inner.Zips.{zipped, AllPaired}
use Rattle.path_service.specs.inner.Channels.{gained, joins, posted_in, told_in, sent_in, ids_from, IsInRoom, PortHasLooked}
use Rattle.path_service.specs.inner.Intakes.{Becomes, HasTakenIn}
use Rattle.path_service.specs.inner.Running.{version_for_next}
use Rattle.path_service.specs.inner.Holding.{AreLast, turn_of, run_of, state_with, machine_of, driver_of, HoldsStaged, HoldsDriver}
use Rattle.path_service.proofs.PortLists.{posted_gained, told_gained, sent_gained, ids_gained, room_gained, looked_at, joins_are}
use Rattle.path_service.proofs.HandLists.{last_joined, last_wide, hands_are, last_staged, none_counted, no_posts}
use Rattle.std.proofs.lemmas.Bool.{both_ways}
use Rattle.path_service.proofs.HeldStates.{received, facts_after, staged_hands, staging_some, staging_none}

-- the driver with what was taken in
abbrev pub taken_in : Inside → TurnIntake → Inside
taken_in a intake = record a { channels = intake.channels; all_pending = intake.all_pending; staged = intake.staged }

-- the base on which a turn is made ready, where that matters
abbrev pub IsBase : Inside → Map → Standing → Type 0
IsBase a m s = a.failed ≡ false → ((version_for_next a.version a.running).map ≡ m) × ((version_for_next a.version a.running).standing ≡ s)

-- what the machine did, by what became of the pending posts
abbrev pub Went : List ℕ → State → State → Result ℕ NoMemory → Type 0
Went told old new (Ok count) = HasStaged told old new count
Went told old new (Err refused) = HasReceived old new

abbrev pub after_got : Inside → List (List Post) → State
after_got a got = state_with a.map (joined_up (posted_in a.channels.items) got) (joined_up a.all_pending.items got) None (run_of a.running a.broken) a.journal.items a.replies.items

-- the parts of a driver's machine that intake changes
abbrev pub machine_at : Inside → List (List Post) → List (List Post) → Option (List (List Post)) → State
machine_at a posted all_pending staged = state_with a.map posted all_pending staged (run_of a.running a.broken) a.journal.items a.replies.items

pub wide_ports : (a : Inside) → HoldsDriver a → length a.channels.items ≡ a.map.callers
wide_ports a holds = sym (length-map a.channels.items (λ (p : Channel). p.posts.taken)) ∙ holds.facts.wide.posted

pub wide_hands : (a : Inside) → HoldsDriver a → length a.all_pending.items ≡ length a.channels.items
wide_hands a holds = last_wide (posted_in a.channels.items) a.all_pending.items holds.last ∙ length-map a.channels.items (λ (p : Channel). p.posts.taken)

-- what is known of an intake at a driver at which nothing is staged
pub record Known (a : Inside) (m : Map) (s : Standing) (intake : TurnIntake) : Type 0 where
  pub holds : HoldsDriver a
  pub none : turn_of a.staged ≡ None
  pub base : IsBase a m s
  pub taken : HasTakenIn m s a.channels.items a.all_pending.items intake

-- the state after the posts were taken, and that it is reached
pub got_wide : (a : Inside) (m : Map) (s : Standing) (intake : TurnIntake) (k : Known a m s intake) → length k.taken.got ≡ a.map.callers
got_wide a m s intake k = k.taken.wide ∙ wide_ports a k.holds

old_is : (a : Inside) (m : Map) (s : Standing) (intake : TurnIntake) → Known a m s intake → machine_of a ≡ machine_at a (posted_in a.channels.items) a.all_pending.items None
old_is a m s intake k = ap (λ (o : Option (List (List Post))). machine_at a (posted_in a.channels.items) a.all_pending.items o) k.none

reached : (a : Inside) (m : Map) (s : Standing) (intake : TurnIntake) (k : Known a m s intake) → Reaches (machine_of a) (post_events 0 k.taken.got) (after_got a k.taken.got)
reached a m s intake k =
    let old : State = machine_at a (posted_in a.channels.items) a.all_pending.items None in
    let is : machine_of a ≡ old = old_is a m s intake k in
    subst (λ (t : State). Reaches t (post_events 0 k.taken.got) (after_got a k.taken.got)) (sym is)
    (received a.map (posted_in a.channels.items) a.all_pending.items k.taken.got None (run_of a.running a.broken) a.journal.items a.replies.items (subst Facts is k.holds.facts) k.holds.last (got_wide a m s intake k))

got_hands : (a : Inside) (m : Map) (s : Standing) (intake : TurnIntake) (k : Known a m s intake) → length k.taken.got ≡ length a.all_pending.items
got_hands a m s intake k = k.taken.wide ∙ sym (wide_hands a k.holds)

last_got : (a : Inside) (m : Map) (s : Standing) (intake : TurnIntake) (k : Known a m s intake) → AreLast (joined_up (posted_in a.channels.items) k.taken.got) (joined_up a.all_pending.items k.taken.got)
last_got a m s intake k = last_joined (posted_in a.channels.items) a.all_pending.items k.taken.got (got_hands a m s intake k) k.holds.last

-- what was taken off the lanes, once they gave it
posted_now : (a : Inside) (m : Map) (s : Standing) (intake : TurnIntake) (k : Known a m s intake) → posted_in intake.channels.items ≡ joined_up (posted_in a.channels.items) k.taken.got
posted_now a m s intake k = ap posted_in k.taken.gains ∙ posted_gained a.channels.items k.taken.got k.taken.wide

hands_were : (a : Inside) (m : Map) (s : Standing) (intake : TurnIntake) (k : Known a m s intake) → in_hand (machine_of a) ≡ a.all_pending.items
hands_were a m s intake k = hands_are (posted_in a.channels.items) a.all_pending.items k.holds.last

-- the pending posts, once all is taken
hands_got : (a : Inside) (m : Map) (s : Standing) (intake : TurnIntake) (k : Known a m s intake) → zipped joins a.all_pending.items k.taken.got ≡ joined_up (in_hand (machine_of a)) k.taken.got
hands_got a m s intake k =
    joins_are a.all_pending.items k.taken.got (got_hands a m s intake k)
    ∙ ap (λ (h : List (List Post)). joined_up h k.taken.got) (sym (hands_were a m s intake k))

kept_hands : (a : Inside) (m : Map) (s : Standing) (intake : TurnIntake) (k : Known a m s intake) → turn_of intake.staged ≡ None → intake.all_pending.items ≡ zipped joins a.all_pending.items k.taken.got
    → machine_of (taken_in a intake) ≡ after_got a k.taken.got
kept_hands a m s intake k none is =
    ap (λ (p : List (List Post)). machine_at a p intake.all_pending.items (turn_of intake.staged)) (posted_now a m s intake k)
    ∙ ap (λ (h : List (List Post)). machine_at a (joined_up (posted_in a.channels.items) k.taken.got) h (turn_of intake.staged)) (is ∙ joins_are a.all_pending.items k.taken.got (got_hands a m s intake k))
    ∙ ap (λ (o : Option (List (List Post))). machine_at a (joined_up (posted_in a.channels.items) k.taken.got) (joined_up a.all_pending.items k.taken.got) o) none

last_kept : (a : Inside) (m : Map) (s : Standing) (intake : TurnIntake) (k : Known a m s intake) → intake.all_pending.items ≡ zipped joins a.all_pending.items k.taken.got
    → AreLast (posted_in intake.channels.items) intake.all_pending.items
last_kept a m s intake k is =
    subst (λ (p : List (List Post)). AreLast p intake.all_pending.items) (sym (posted_now a m s intake k))
    (subst (λ (h : List (List Post)). AreLast (joined_up (posted_in a.channels.items) k.taken.got) h) (sym (is ∙ joins_are a.all_pending.items k.taken.got (got_hands a m s intake k)))
    (last_got a m s intake k))

-- what an intake leaves
pub record LeftBy (a : Inside) (intake : TurnIntake) (count : Result ℕ NoMemory) : Type 0 where
  pub went : Went (told_in a.channels.items) (machine_of a) (machine_of (taken_in a intake)) count
  pub last : AreLast (posted_in intake.channels.items) intake.all_pending.items
  pub few : post_count intake.all_pending.items ≤ MAX_STAGED_POSTS
  pub staged : a.failed ≡ false → HoldsStaged (version_for_next a.version a.running) intake.staged

few_kept : (a : Inside) (m : Map) (s : Standing) (intake : TurnIntake) (k : Known a m s intake) → intake.all_pending.items ≡ zipped joins a.all_pending.items k.taken.got → post_count intake.all_pending.items ≤ MAX_STAGED_POSTS
few_kept a m s intake k is = subst (λ (h : List (List Post)). post_count h ≤ MAX_STAGED_POSTS) (sym is) k.taken.few

no_turn : (version : MapState) (o : Option Ready) → o ≡ None → HoldsStaged version o
no_turn version o e = subst (HoldsStaged version) (sym e) tt

looked_now : (a : Inside) (m : Map) (s : Standing) (intake : TurnIntake) (k : Known a m s intake) (count : ℕ) → intake.count ≡ Ok count → count < MAX_STAGED_POSTS → (c : ℕ)
    → slice_index (told_in a.channels.items) c ≤ length (list_of (posted_in intake.channels.items) c)
looked_now a m s intake k count f less c =
    let looked : count < MAX_STAGED_POSTS → AllPaired PortHasLooked a.channels.items k.taken.got =
    subst (λ (r : Result ℕ NoMemory). IfOk r (λ n. n < MAX_STAGED_POSTS → AllPaired PortHasLooked a.channels.items k.taken.got)) f k.taken.looked in
    subst (λ (channels : List Channel). slice_index (told_in a.channels.items) c ≤ length (list_of (posted_in channels) c)) (sym k.taken.gains)
    (looked_at a.channels.items k.taken.got c k.taken.wide (looked less))

not_staged : (count : ℕ) (o : Option (List (List Post))) → o ≡ None → count ≡ 0 → IsSome o ↔ (0 < count)
not_staged count None e zero_count = (λ x. absurd (both_ways false refl x), λ less. absurd (omega (arith, zero_count, less)))
not_staged count (Some turn) e zero_count = cc

is_staged : (count : ℕ) (o : Option (List (List Post))) (turn : List (List Post)) → o ≡ Some turn → 0 < count → IsSome o ↔ (0 < count)
is_staged count None turn e less = cc
is_staged count (Some other) turn e less = (λ x. less, λ x. refl)

ends : (a : Inside) (m : Map) (s : Standing) (intake : TurnIntake) (k : Known a m s intake) (o : Option Ready) (r : Result ℕ NoMemory) → intake.staged ≡ o → intake.count ≡ r
    → Becomes m s (zipped joins a.all_pending.items k.taken.got) intake.all_pending.items o r → LeftBy a intake r
ends a m s intake k None (Err refused) e f becomes =
    let none : turn_of intake.staged ≡ None = ap turn_of e in
    record {
      went = record {
        got = k.taken.got;
        wide = got_wide a m s intake k;
        run = subst (λ (t : State). Reaches (machine_of a) (post_events 0 k.taken.got) t) (sym (kept_hands a m s intake k none becomes)) (reached a m s intake k);
        pending = hands_are (posted_in intake.channels.items) intake.all_pending.items (last_kept a m s intake k becomes) ∙ becomes ∙ hands_got a m s intake k;
        staged = none;
      };
      last = last_kept a m s intake k becomes;
      few = few_kept a m s intake k becomes;
      staged = λ sound. no_turn (version_for_next a.version a.running) intake.staged e;
    }
ends a m s intake k None (Ok count) e f becomes =
    let none : turn_of intake.staged ≡ None = ap turn_of e in
    let turn : List (List Post) = joined_up (in_hand (machine_of a)) k.taken.got in
    let all : zipped joins a.all_pending.items k.taken.got ≡ turn = hands_got a m s intake k in
    let last : AreLast (posted_in intake.channels.items) intake.all_pending.items = last_kept a m s intake k becomes.0 in
    let no_events : post_events 0 k.taken.got ++ staging count turn ≡ post_events 0 k.taken.got =
    ap (λ (es : List Event). post_events 0 k.taken.got ++ es) (staging_none count turn becomes.1.0) ∙ append-nil (post_events 0 k.taken.got) in
    let way : Reaches (machine_of a) (post_events 0 k.taken.got) (machine_of (taken_in a intake)) =
    subst (λ (t : State). Reaches (machine_of a) (post_events 0 k.taken.got) t) (sym (kept_hands a m s intake k none becomes.0)) (reached a m s intake k) in
    record {
      went = record {
        got = k.taken.got;
        wide = got_wide a m s intake k;
        number = becomes.1.0 ∙ sym becomes.1.1 ∙ ap post_count all;
        most = omega (arith, becomes.1.0);
        run = subst (λ (es : List Event). Reaches (machine_of a) es (machine_of (taken_in a intake))) (sym no_events) way;
        all = λ c. ap (λ (h : List (List Post)). list_of h c) (hands_are (posted_in intake.channels.items) intake.all_pending.items last ∙ becomes.0)
            ∙ none_counted (zipped joins a.all_pending.items k.taken.got) c becomes.1.1;
        staged = not_staged count (turn_of intake.staged) none becomes.1.0;
        turn = λ less. absurd (omega (arith, becomes.1.0, less));
        running = refl;
        looked = looked_now a m s intake k count f;
      };
      last = last;
      few = few_kept a m s intake k becomes.0;
      staged = λ sound. no_turn (version_for_next a.version a.running) intake.staged e;
    }
ends a m s intake k (Some ready) (Err refused) e f becomes = absurd becomes
ends a m s intake k (Some ready) (Ok count) e f becomes =
    let all_pending : List (List Post) = zipped joins a.all_pending.items k.taken.got in
    let turn : List (List Post) = joined_up (in_hand (machine_of a)) k.taken.got in
    let all : all_pending ≡ turn = hands_got a m s intake k in
    let joined : all_pending ≡ joined_up a.all_pending.items k.taken.got = joins_are a.all_pending.items k.taken.got (got_hands a m s intake k) in
    let got : List (List Post) = joined_up a.all_pending.items k.taken.got in
    let posted : List (List Post) = joined_up (posted_in a.channels.items) k.taken.got in
    let empty : intake.all_pending.items ≡ replicate (length got) no_posts = becomes.0 ∙ ap (λ (h : List (List Post)). replicate (length h) no_posts) joined in
    let is : ready ≡ record { map = m; before = s; turn = all_pending } = becomes.1.0 in
    let ready_turn : turn_of intake.staged ≡ Some got = ap turn_of e ∙ ap (λ (r : Ready). Some r.turn) is ∙ ap (λ (h : List (List Post)). Some h) joined in
    let new_is : machine_of (taken_in a intake) ≡ machine_at a posted (replicate (length got) no_posts) (Some got) =
    ap (λ (p : List (List Post)). machine_at a p intake.all_pending.items (turn_of intake.staged)) (posted_now a m s intake k)
    ∙ ap (λ (h : List (List Post)). machine_at a posted h (turn_of intake.staged)) empty
    ∙ ap (λ (o : Option (List (List Post))). machine_at a posted (replicate (length got) no_posts) o) ready_turn in
    let lasts : AreLast posted got = last_got a m s intake k in
    let arrived = reached a m s intake k in
    let second = staged_hands a.map posted got (run_of a.running a.broken) a.journal.items a.replies.items (facts_after (machine_of a) (post_events 0 k.taken.got) (after_got a k.taken.got) k.holds.facts arrived) lasts in
    let both : Reaches (machine_of a) (post_events 0 k.taken.got ++ staging count turn) (machine_at a posted (replicate (length got) no_posts) (Some got)) =
    subst (λ (es : List Event). Reaches (machine_of a) (post_events 0 k.taken.got ++ es) (machine_at a posted (replicate (length got) no_posts) (Some got)))
    (sym (staging_some count turn becomes.1.1.1 ∙ ap (λ (t : List (List Post)). Stage (map length t) ∷ []) (sym all ∙ joined)))
    (reach-append (machine_of a) (post_events 0 k.taken.got) (after_got a k.taken.got) (Stage (map length got) ∷ []) (machine_at a posted (replicate (length got) no_posts) (Some got)) arrived second) in
    let last : AreLast (posted_in intake.channels.items) intake.all_pending.items =
    subst (λ (p : List (List Post)). AreLast p intake.all_pending.items) (sym (posted_now a m s intake k))
    (subst (AreLast posted) (sym empty) (last_staged posted got lasts)) in
    record {
      went = record {
        got = k.taken.got;
        wide = got_wide a m s intake k;
        number = becomes.1.1.0 ∙ ap post_count all;
        most = omega (arith, becomes.1.1.0, k.taken.few);
        run = subst (λ (t : State). Reaches (machine_of a) (post_events 0 k.taken.got ++ staging count turn) t) (sym new_is) both;
        all = λ c. ap (λ (h : List (List Post)). list_of h c) (hands_are (posted_in intake.channels.items) intake.all_pending.items last ∙ empty) ∙ none_at Post (length got) c;
        staged = is_staged count (turn_of intake.staged) got ready_turn becomes.1.1.1;
        turn = λ less. ready_turn ∙ ap (λ (t : List (List Post)). Some t) (sym joined ∙ all);
        running = refl;
        looked = looked_now a m s intake k count f;
      };
      last = last;
      few = omega (arith, ap post_count empty, count_none (length got));
      staged = λ sound. subst (HoldsStaged (version_for_next a.version a.running)) (sym e) (record {
        map = ap (λ (r : Ready). r.map) is ∙ sym (k.base sound).0;
        before = ap (λ (r : Ready). r.before) is ∙ sym (k.base sound).1;
        few = subst (λ (r : Ready). post_count r.turn ≤ MAX_STAGED_POSTS) (sym is) k.taken.few;
      });
    }

-- what an intake leaves, whatever became of it
pub leaves : (a : Inside) (m : Map) (s : Standing) (intake : TurnIntake) → Known a m s intake → LeftBy a intake intake.count
leaves a m s intake k = ends a m s intake k intake.staged intake.count refl refl k.taken.becomes

facts_went : (told : List ℕ) (old new : State) (r : Result ℕ NoMemory) → Facts old → Went told old new r → Facts new
facts_went told old new (Ok count) facts went = facts_after old _ new facts went.run
facts_went told old new (Err refused) facts went = facts_after old _ new facts went.run

-- all but the machine is as it was
pub same_rest : (a : Inside) (m : Map) (s : Standing) (intake : TurnIntake) → Known a m s intake → driver_of (taken_in a intake) ≡ with_machine (driver_of a) (machine_of (taken_in a intake))
same_rest a m s intake k =
    let channels : List Channel = intake.channels.items in
    let got : List (List Post) = k.taken.got in
    let is : channels ≡ zipped gained a.channels.items got = k.taken.gains in
    let ids : ids_from 0 channels ≡ ids_from 0 a.channels.items = ap (ids_from 0) is ∙ ids_gained 0 a.channels.items got in
    let told : told_in channels ≡ told_in a.channels.items = ap told_in is ∙ told_gained a.channels.items got in
    let sent : sent_in channels ≡ sent_in a.channels.items = ap sent_in is ∙ sent_gained a.channels.items got in
    λ i. record { machine = machine_of (taken_in a intake); callers = ids i; told = told i; sent = sent i; failed = a.failed }

-- the driver holds what it holds
pub holds_taken : (a : Inside) (m : Map) (s : Standing) (intake : TurnIntake) → Known a m s intake → HoldsDriver (taken_in a intake)
holds_taken a m s intake k =
    let left : LeftBy a intake intake.count = leaves a m s intake k in
    let is : intake.channels.items ≡ zipped gained a.channels.items k.taken.got = k.taken.gains in
    let sent : sent_in intake.channels.items ≡ sent_in a.channels.items = ap sent_in is ∙ sent_gained a.channels.items k.taken.got in
    let was = k.holds.sent in
    record {
      facts = facts_went (told_in a.channels.items) (machine_of a) (machine_of (taken_in a intake)) intake.count k.holds.facts left.went;
      map = k.holds.map;
      standing = k.holds.standing;
      answered = k.holds.answered;
      running = k.holds.running;
      broken = k.holds.broken;
      staged = left.staged;
      last = left.last;
      few = left.few;
      room = subst (All IsInRoom) (sym is) (room_gained a.channels.items k.taken.got k.taken.wide k.taken.room);
      sent = record {
        more = was.more;
        sent = λ c. ap (λ (l : List (List Reply)). list_of l c) sent ∙ was.sent c;
        begins = was.begins;
      };
    }
