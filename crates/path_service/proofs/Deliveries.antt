-- Drivers that deliver the running turn.
use Rattle.std.proofs.Common.{◌≡◌, ℕ, zero, suc, ◌≤◌, ◌^◌, Bool, true, false, List, [], ◌∷◌, ◌++◌, Option, None, Some, Ok, Err, All, length, replicate, refl, sym, ap, ◌∙◌, subst, inl, inr, arith, append-nil, length-append}
use Rattle.std.specs.Prelude.{slice_get}
use Rattle.std.proofs.lemmas.List.{length-map}
use Rattle.nav_types.specs.declared.limits.TheConstants.{MAX_STAGED_POSTS}
use Rattle.posts.specs.declared.posts.Post.{Post}
use Rattle.posts.specs.declared.replies.Reply.{Reply}
use Rattle.posts.specs.declared.replies.TurnReplies.{TurnReplies}
use Rattle.posts.specs.Maps.{Map}
use Rattle.posts.specs.Posts.{jobs, post_count}
use Rattle.posts.specs.Callers.{of_caller, list_of}
use Rattle.path_service.specs.declared.events.Event.TheVariants.{Deliver}
use Rattle.turn_core.specs.Solving.{AreAnswersTo}
use Rattle.turn_core.specs.Words.{Standing, MapState, bare}
use Rattle.turn_core.specs.Turns.{after, after_turn, standing, replies_in, AreTurnReplies, IsTurnTold, IsOneThread}
use Rattle.turn_core.specs.ReadyTurns.{Ready}
use Rattle.path_service.specs.machine.States.{State, Run}
use Rattle.path_service.specs.machine.Effects.{IsStep, joined_up}
use Rattle.path_service.specs.machine.Facts.{running_turns, staged_turns, HaveLists, Facts}
use Rattle.path_service.specs.machine.Arrival.{answered_run, at_end}
use Rattle.path_service.proofs.machine.Reaching.{deliver_step}
use Rattle.path_service.proofs.machine.Keeping.{kept, lists_front, lists_back}
use Rattle.path_service.proofs.machine.CallerLists.{joined_up_at, of_caller_push}
use Rattle.turn_core.proofs.ReplyCounts.{as_many}
use Rattle.path_service.proofs.machine.Settling.{replies_counted}
use Rattle.turn_core.proofs.Threads.{standing_more}
use Rattle.turn_core.proofs.TurnByTurn.{told_more, replies_end}
use Rattle.path_service.specs.declared.channels.Channel.{Channel}
use Rattle.path_service.specs.declared.runs.AnsweredRun.{AnsweredRun}
use Rattle.path_service.specs.declared.drivers.Driver.TheInside.{Inside}
use Rattle.path_service.specs.Services.{DriverState}
use Rattle.path_service.specs.Steps.{AreRepliesTo, AreDue, BeginEach, HasDelivered, HasSentSome}
use Rattle.path_service.specs.inner.Zips.{zipped, AllPaired}
use Rattle.path_service.specs.inner.Channels.{sends, posted_in, told_in, sent_in, ids_from, IsInRoom, HasRoomOn, SendsParts}
use Rattle.nav_types.specs.declared.sequences.NoMemory.{NoMemory}
use Rattle.path_service.specs.inner.Running.{version_for_next, HoldsRun, HoldsRunning}
use Rattle.path_service.specs.inner.Holding.{told_up, turn_of, run_of, AreLast, state_with, machine_of, driver_of, HoldsStaged, HoldsBroken, HoldsDriver}
use Rattle.path_service.proofs.Zips.{paired_from}
use Rattle.std.proofs.lemmas.List.Elements.{All-head, All-tail}
use Rattle.path_service.proofs.PortLists.{posted_sends, told_sends, sent_sends, ids_sends, room_sends}
use Rattle.path_service.proofs.RunStarts.{sent_all, version_is}
use Rattle.std.proofs.lemmas.Bool.{both_ways}

told_up_push : (lists : List (List Reply)) (all : List TurnReplies) (told : TurnReplies) → told_up lists (all ++ told ∷ []) ≡ joined_up (told_up lists all) told.replies
told_up_push lists [] told = refl
told_up_push lists (t ∷ all) told = told_up_push (joined_up lists t.replies) all told

no_broken : (b : Bool) (o : Option (List (List Post))) → HoldsBroken b o → b ≡ false → o ≡ None
no_broken b None held sound = refl
no_broken b (Some turn) held sound = absurd (both_ways b sound held)

-- the running turn is this one
pub runs : (a : Inside) (run : AnsweredRun) → a.running ≡ Some run → (machine_of a).running ≡ Some (answered_run run.posts run.answers.value)
runs a run is = ap (λ (o : Option AnsweredRun). run_of o a.broken) is

held_is : (a : Inside) (run : AnsweredRun) → HoldsDriver a → a.running ≡ Some run → HoldsRun a.version run
held_is a run holds is = subst (HoldsRunning a.version) is holds.running

-- the replies that are held are those that are due
replies_held : (a : Inside) (run : AnsweredRun) → HoldsDriver a → a.running ≡ Some run
    → AreTurnReplies a.map (after_turn a.map (standing a.map bare a.journal.items) run.posts) (standing a.map bare a.journal.items) run.posts run.replies.replies
replies_held a run holds is =
    subst (λ (v : MapState). AreTurnReplies v.map (after_turn v.map v.standing run.posts) v.standing run.posts run.replies.replies) (version_is a holds) (held_is a run holds is).told.replies

pub due_held : (a : Inside) (run : AnsweredRun) → HoldsDriver a → a.running ≡ Some run → AreDue (machine_of a) run.replies.replies
due_held a run holds is =
    subst (λ (o : Option Run). AreRepliesTo a.map (standing a.map bare a.journal.items) o run.replies.replies) (sym (runs a run is)) (replies_held a run holds is)

length_replies : (m : Map) (final s : Standing) (turn : List (List Post)) (rss : List (List Reply)) → AreTurnReplies m final s turn rss → length rss ≡ length turn
length_replies m final s [] [] x = refl
length_replies m final s [] (rs ∷ rss) x = absurd x
length_replies m final s (ps ∷ turn) [] x = absurd x
length_replies m final s (ps ∷ turn) (rs ∷ rss) x = ap suc (length_replies m final (after m s ps) turn rss x.1)

-- the running turn has one list for each caller
turn_wide : (s : State) (run : Run) → Facts s → s.running ≡ Some run → length run.turn ≡ s.map.callers
turn_wide s run facts is =
    (lists_back s.map.callers s.done (run.turn ∷ []) (lists_front s.map.callers (s.done ++ run.turn ∷ []) (staged_turns s.staged)
    (subst (λ (o : Option Run). HaveLists s.map.callers (s.done ++ running_turns o ++ staged_turns s.staged)) is facts.wide.turns))).0

pub wide_replies : (a : Inside) (run : AnsweredRun) → HoldsDriver a → a.running ≡ Some run → length run.replies.replies ≡ length a.channels.items
wide_replies a run holds is =
    length_replies a.map (after_turn a.map (standing a.map bare a.journal.items) run.posts) (standing a.map bare a.journal.items) run.posts run.replies.replies (replies_held a run holds is)
    ∙ turn_wide (machine_of a) (answered_run run.posts run.answers.value) holds.facts (runs a run is)
    ∙ sym holds.facts.wide.posted
    ∙ length-map a.channels.items (λ (p : Channel). p.posts.taken)

-- ---- the lanes have room for the replies

room_at : (channels : List Channel) (c : ℕ) (channel : Channel) → slice_get channels c ≡ Some channel → All IsInRoom channels → length (list_of (posted_in channels) c) ≤ 2 ^ 62
room_at [] zero channel is all = cc
room_at [] (suc c) channel is all = cc
room_at (p ∷ channels) zero channel is all = All-head IsInRoom p channels all
room_at (p ∷ channels) (suc c) channel is all = room_at channels c channel is (All-tail IsInRoom p channels all)

pub sent_at : (channels : List Channel) (c : ℕ) (channel : Channel) → slice_get channels c ≡ Some channel → channel.replies.posted ≡ list_of (sent_in channels) c
sent_at [] zero channel is = cc
sent_at [] (suc c) channel is = cc
sent_at (p ∷ channels) zero channel is =
    let same : p ≡ channel = cc in
    ap (λ (q : Channel). q.replies.posted) (sym same)
sent_at (p ∷ channels) (suc c) channel is = sent_at channels c channel is

pub room_for : (a : Inside) (run : AnsweredRun) → HoldsDriver a → a.failed ≡ false → a.running ≡ Some run → AllPaired HasRoomOn a.channels.items run.replies.replies
room_for a run holds sound is =
    paired_from HasRoomOn a.channels.items run.replies.replies (λ c channel at.
    let m : Map = a.map in
    let s : State = machine_of a in
    let journal : List (List (List Post)) = a.journal.items in
    let all : List (List (List Reply)) = replies_in a.replies.items in
    let due : List (List Reply) = run.replies.replies in
    let before : Standing = standing m bare journal in
    let sent : length (list_of (sent_in a.channels.items) c) ≡ length (of_caller c all) = ap length (sent_all (driver_of a) a.replies.items holds.sent sound c ∙ append-nil (of_caller c all)) in
    let answered : length (of_caller c all) ≡ length (of_caller c journal) = as_many m bare journal all c holds.answered.replies in
    let counted : length (list_of s.replies c) ≡ length (of_caller c journal) = ap length (holds.facts.replies.each c) ∙ as_many m bare journal holds.facts.replies.all c holds.facts.replies.one_thread in
    let given : length (list_of due c ++ []) ≡ length (list_of run.posts c ++ []) = as_many m before (run.posts ∷ []) (due ∷ []) c (replies_held a run holds is, tt) in
    let running : of_caller c (running_turns s.running) ≡ list_of run.posts c ++ [] = ap (λ (o : Option Run). of_caller c (running_turns o)) (runs a run is) in
    omega (
      arith,
      sent,
      answered,
      counted,
      given,
      ap length running,
      ap length (append-nil (list_of due c)),
      replies_counted s c holds.facts,
      holds.facts.taken c,
      room_at a.channels.items c channel at holds.room,
      ap length (sent_at a.channels.items c channel at),
      length-append channel.replies.posted (list_of due c),
    ))

-- ---- the turn is delivered

-- what is new of a driver that has delivered a turn
pub record Delivers (a b : Inside) (run : AnsweredRun) : Type 0 where
  pub map : b.map ≡ a.map
  pub version : b.version ≡ run.after
  pub channels : b.channels.items ≡ zipped sends a.channels.items run.replies.replies
  pub all_pending : b.all_pending.items ≡ a.all_pending.items
  pub staged : b.staged ≡ a.staged
  pub running : b.running ≡ None
  pub broken : b.broken ≡ a.broken
  pub journal : b.journal.items ≡ a.journal.items ++ run.posts ∷ []
  pub replies : b.replies.items ≡ a.replies.items ++ run.replies ∷ []
  pub failed : b.failed ≡ a.failed

delivered_is : (a b : Inside) (run : AnsweredRun) → HoldsDriver a → a.failed ≡ false → a.running ≡ Some run → Delivers a b run
    → machine_of b ≡ at_end (machine_of a) run.posts run.replies.replies
delivered_is a b run holds sound is new =
    let posted : posted_in b.channels.items ≡ posted_in a.channels.items = ap posted_in new.channels ∙ posted_sends a.channels.items run.replies.replies in
    let none : run_of b.running b.broken ≡ None = ap (λ (o : Option AnsweredRun). run_of o b.broken) new.running ∙ ap (λ (o : Option (List (List Post))). run_of None o) (new.broken ∙ no_broken a.failed a.broken holds.broken sound) in
    let told : told_up (replicate a.map.callers []) b.replies.items ≡ joined_up (told_up (replicate a.map.callers []) a.replies.items) run.replies.replies =
    ap (told_up (replicate a.map.callers [])) new.replies ∙ told_up_push (replicate a.map.callers []) a.replies.items run.replies in
    ap (λ (m : Map). state_with m (posted_in b.channels.items) b.all_pending.items (turn_of b.staged) (run_of b.running b.broken) b.journal.items b.replies.items) new.map
    ∙ ap (λ (p : List (List Post)). state_with a.map p b.all_pending.items (turn_of b.staged) (run_of b.running b.broken) b.journal.items b.replies.items) posted
    ∙ ap (λ (h : List (List Post)). state_with a.map (posted_in a.channels.items) h (turn_of b.staged) (run_of b.running b.broken) b.journal.items b.replies.items) new.all_pending
    ∙ ap (λ (o : Option Ready). state_with a.map (posted_in a.channels.items) a.all_pending.items (turn_of o) (run_of b.running b.broken) b.journal.items b.replies.items) new.staged
    ∙ ap (λ (o : Option Run). state_with a.map (posted_in a.channels.items) a.all_pending.items (turn_of a.staged) o b.journal.items b.replies.items) none
    ∙ ap (λ (j : List (List (List Post))). state_with a.map (posted_in a.channels.items) a.all_pending.items (turn_of a.staged) None j b.replies.items) new.journal
    ∙ ap (λ (r : List (List Reply)). record (machine_of a) { running = None; done = a.journal.items ++ run.posts ∷ []; replies = r }) told

pub delivered_step : (a b : Inside) (run : AnsweredRun) → HoldsDriver a → a.failed ≡ false → a.running ≡ Some run → Delivers a b run → IsStep (machine_of a) Deliver None (machine_of b)
delivered_step a b run holds sound is new =
    subst (IsStep (machine_of a) Deliver None) (sym (delivered_is a b run holds sound is new))
    (deliver_step (machine_of a) run.posts run.answers.value run.replies.replies (runs a run is)
    (subst (λ (v : MapState). AreAnswersTo v.map (after_turn v.map v.standing run.posts) (jobs run.posts) run.answers.value) (version_is a holds) (held_is a run holds is).answers)
    (replies_held a run holds is))

sent_more : (a b : Inside) (run : AnsweredRun) → HoldsDriver a → a.failed ≡ false → a.running ≡ Some run → Delivers a b run → sent_in b.channels.items ≡ joined_up (sent_in a.channels.items) run.replies.replies
sent_more a b run holds sound is new = ap sent_in new.channels ∙ sent_sends a.channels.items run.replies.replies (omega (arith, wide_replies a run holds is))

pub delivered_holds : (a b : Inside) (run : AnsweredRun) → HoldsDriver a → a.failed ≡ false → a.running ≡ Some run → Delivers a b run → HoldsDriver b
delivered_holds a b run holds sound is new =
    let m : Map = a.map in
    let before : Standing = standing m bare a.journal.items in
    let held : HoldsRun a.version run = held_is a run holds is in
    let told : IsTurnTold m before run.posts run.replies = subst (λ (v : MapState). IsTurnTold v.map v.standing run.posts run.replies) (version_is a holds) held.told in
    let stands : run.after.standing ≡ after_turn m before run.posts = held.standing ∙ ap (λ (v : MapState). after_turn v.map v.standing run.posts) (version_is a holds) in
    let posted : posted_in b.channels.items ≡ posted_in a.channels.items = ap posted_in new.channels ∙ posted_sends a.channels.items run.replies.replies in
    let sent : sent_in b.channels.items ≡ joined_up (sent_in a.channels.items) run.replies.replies = sent_more a b run holds sound is new in
    let longer : IsOneThread m (a.journal.items ++ run.posts ∷ []) (a.replies.items ++ run.replies ∷ []) = told_more m a.journal.items run.posts a.replies.items run.replies holds.answered told in
    record {
      facts = kept (machine_of a) Deliver None (machine_of b) holds.facts (delivered_step a b run holds sound is new);
      map = ap (λ (v : MapState). v.map) new.version ∙ held.map ∙ holds.map ∙ sym new.map;
      standing = ap (λ (v : MapState). v.standing) new.version ∙ stands
          ∙ sym (standing_more m bare a.journal.items run.posts)
          ∙ ap (standing m bare) (sym new.journal)
          ∙ ap (λ (n : Map). standing n bare b.journal.items) (sym new.map);
      answered = subst (λ (n : Map). IsOneThread n b.journal.items b.replies.items) (sym new.map)
          (subst (λ (j : List (List (List Post))). IsOneThread m j b.replies.items) (sym new.journal)
          (subst (IsOneThread m (a.journal.items ++ run.posts ∷ [])) (sym new.replies) longer));
      running = subst (HoldsRunning b.version) (sym new.running) tt;
      broken = subst (λ (f : Bool). HoldsBroken f b.broken) (sym new.failed) (subst (HoldsBroken a.failed) (sym new.broken) holds.broken);
      staged = λ e. subst (λ (o : Option AnsweredRun). HoldsStaged (version_for_next b.version o) b.staged) (sym new.running)
          (subst (λ (v : MapState). HoldsStaged v b.staged) (sym new.version)
          (subst (HoldsStaged run.after) (sym new.staged)
          (subst (λ (o : Option AnsweredRun). HoldsStaged (version_for_next a.version o) a.staged) is (holds.staged sound))));
      last = subst (λ (p : List (List Post)). AreLast p b.all_pending.items) (sym posted) (subst (AreLast (posted_in a.channels.items)) (sym new.all_pending) holds.last);
      few = subst (λ (h : List (List Post)). post_count h ≤ MAX_STAGED_POSTS) (sym new.all_pending) holds.few;
      room = subst (All IsInRoom) (sym new.channels) (room_sends a.channels.items run.replies.replies holds.room);
      sent = record {
        more = [];
        sent = λ c. ap (λ (l : List (List Reply)). list_of l c) sent
            ∙ joined_up_at (sent_in a.channels.items) run.replies.replies c
            ∙ ap (λ (l : List Reply). l ++ list_of run.replies.replies c) (sent_all (driver_of a) a.replies.items holds.sent sound c ∙ append-nil (of_caller c (replies_in a.replies.items)))
            ∙ sym (of_caller_push c (replies_in a.replies.items) run.replies.replies)
            ∙ ap (of_caller c) (sym (replies_end a.replies.items run.replies) ∙ ap replies_in (sym new.replies))
            ∙ sym (append-nil (of_caller c (replies_in b.replies.items)));
        begins = inl refl;
      };
    }

pub has_delivered : (a b : Inside) (run : AnsweredRun) → HoldsDriver a → a.failed ≡ false → a.running ≡ Some run → Delivers a b run → HasDelivered (driver_of a) (driver_of b)
has_delivered a b run holds sound is new =
    let due : List (List Reply) = run.replies.replies in
    let ids : ids_from 0 b.channels.items ≡ ids_from 0 a.channels.items = ap (ids_from 0) new.channels ∙ ids_sends 0 a.channels.items due in
    let told : told_in b.channels.items ≡ told_in a.channels.items = ap told_in new.channels ∙ told_sends a.channels.items due in
    let sent : sent_in b.channels.items ≡ joined_up (sent_in a.channels.items) due = sent_more a b run holds sound is new in
    record {
      step = delivered_step a b run holds sound is new;
      due = due;
      are_due = due_held a run holds is;
      sent = λ i. record { machine = machine_of b; callers = ids i; told = told i; sent = sent i; failed = new.failed i };
    }

-- ---- the turn is not delivered

-- what is new of a driver that has not
pub record SendsSome (a b : Inside) (parts : List (List Reply)) : Type 0 where
  pub channels : b.channels.items ≡ zipped sends a.channels.items parts
  pub few : length parts ≤ length a.channels.items
  pub journal : b.journal.items ≡ a.journal.items
  pub replies : b.replies.items ≡ a.replies.items
  pub failed : b.failed ≡ true
  pub rest : (b.map ≡ a.map) × ((b.version ≡ a.version) × ((b.all_pending.items ≡ a.all_pending.items) × ((b.staged ≡ a.staged) × ((b.running ≡ a.running) × (b.broken ≡ a.broken)))))

stays : (a b : Inside) (parts : List (List Reply)) → SendsSome a b parts → machine_of b ≡ machine_of a
stays a b parts new =
    let posted : posted_in b.channels.items ≡ posted_in a.channels.items = ap posted_in new.channels ∙ posted_sends a.channels.items parts in
    let r = new.rest in
    λ i. state_with (r.0 i) (posted i) (r.1.1.0 i) (turn_of (r.1.1.1.0 i)) (run_of (r.1.1.1.1.0 i) (r.1.1.1.1.1 i)) (new.journal i) (new.replies i)

pub unsent_holds : (a b : Inside) (run : AnsweredRun) (parts : List (List Reply)) → HoldsDriver a → a.failed ≡ false → a.running ≡ Some run → BeginEach parts run.replies.replies → SendsSome a b parts → HoldsDriver b
unsent_holds a b run parts holds sound is begins new =
    let r = new.rest in
    let posted : posted_in b.channels.items ≡ posted_in a.channels.items = ap posted_in new.channels ∙ posted_sends a.channels.items parts in
    let sent : sent_in b.channels.items ≡ joined_up (sent_in a.channels.items) parts = ap sent_in new.channels ∙ sent_sends a.channels.items parts new.few in
    let same : machine_of b ≡ machine_of a = stays a b parts new in
    record {
      facts = subst Facts (sym same) holds.facts;
      map = ap (λ (v : MapState). v.map) r.1.0 ∙ holds.map ∙ sym r.0;
      standing = ap (λ (v : MapState). v.standing) r.1.0 ∙ holds.standing ∙ ap (λ (s : State). standing s.map bare s.done) (sym same);
      answered = subst (λ (n : Map). IsOneThread n b.journal.items b.replies.items) (sym r.0)
          (subst (λ (j : List (List (List Post))). IsOneThread a.map j b.replies.items) (sym new.journal)
          (subst (IsOneThread a.map a.journal.items) (sym new.replies) holds.answered));
      running = subst (λ (v : MapState). HoldsRunning v b.running) (sym r.1.0) (subst (HoldsRunning a.version) (sym r.1.1.1.1.0) holds.running);
      broken = subst (λ (f : Bool). HoldsBroken f b.broken) (sym new.failed) (subst (HoldsBroken true) (sym (r.1.1.1.1.1 ∙ no_broken a.failed a.broken holds.broken sound)) tt);
      staged = λ e. absurd (both_ways b.failed e new.failed);
      last = subst (λ (p : List (List Post)). AreLast p b.all_pending.items) (sym posted) (subst (AreLast (posted_in a.channels.items)) (sym r.1.1.0) holds.last);
      few = subst (λ (h : List (List Post)). post_count h ≤ MAX_STAGED_POSTS) (sym r.1.1.0) holds.few;
      room = subst (All IsInRoom) (sym new.channels) (room_sends a.channels.items parts holds.room);
      sent = record {
        more = parts;
        sent = λ c. ap (λ (l : List (List Reply)). list_of l c) sent
            ∙ joined_up_at (sent_in a.channels.items) parts c
            ∙ ap (λ (l : List Reply). l ++ list_of parts c) (sent_all (driver_of a) a.replies.items holds.sent sound c ∙ append-nil (of_caller c (replies_in a.replies.items)))
            ∙ ap (λ (l : List TurnReplies). of_caller c (replies_in l) ++ list_of parts c) (sym new.replies);
        begins = inr (new.failed, (run.replies.replies, (subst (λ (s : State). AreDue s run.replies.replies) (sym same) (due_held a run holds is), begins)));
      };
    }

pub has_sent_some : (a b : Inside) (run : AnsweredRun) (parts : List (List Reply)) → HoldsDriver a → a.running ≡ Some run → BeginEach parts run.replies.replies → SendsSome a b parts → HasSentSome (driver_of a) (driver_of b)
has_sent_some a b run parts holds is begins new =
    let ids : ids_from 0 b.channels.items ≡ ids_from 0 a.channels.items = ap (ids_from 0) new.channels ∙ ids_sends 0 a.channels.items parts in
    let told : told_in b.channels.items ≡ told_in a.channels.items = ap told_in new.channels ∙ told_sends a.channels.items parts in
    let sent : sent_in b.channels.items ≡ joined_up (sent_in a.channels.items) parts = ap sent_in new.channels ∙ sent_sends a.channels.items parts new.few in
    let same : machine_of b ≡ machine_of a = stays a b parts new in
    record {
      due = run.replies.replies;
      are_due = due_held a run holds is;
      part = parts;
      begins = begins;
      sent = λ i. record { machine = same i; callers = ids i; told = told i; sent = sent i; failed = new.failed i };
    }

-- ---- what becomes of a driver, by what was sent

-- what is known where a running turn is delivered
pub record Sends (a : Inside) (run : AnsweredRun) : Type 0 where
  pub holds : HoldsDriver a
  pub sound : a.failed ≡ false
  pub is : a.running ≡ Some run

pub sends_of : (a : Inside) (d : DriverState) (run : AnsweredRun) → driver_of a ≡ d → d.failed ≡ false → HoldsDriver a → Some run ≡ a.running → Sends a run
sends_of a d run view sound holds is = record {
  holds = holds;
  sound = subst (λ (e : DriverState). e.failed ≡ false) (sym view) sound;
  is = sym is;
}

-- all replies were sent, and the turn is behind those that are delivered
pub delivers_of : (a b : Inside) (run : AnsweredRun) (parts : List (List Reply)) → SendsParts a.channels.items b.channels.items run.replies.replies (Ok tt) parts
    → b ≡ record a { version = run.after; channels = b.channels; running = None; journal = b.journal; replies = b.replies } → b.journal.items ≡ a.journal.items ++ run.posts ∷ []
    → b.replies.items ≡ a.replies.items ++ run.replies ∷ [] → Delivers a b run
delivers_of a b run parts sent same journal replies = record {
  map = ap (λ (x : Inside). x.map) same;
  version = ap (λ (x : Inside). x.version) same;
  channels = sent.channels ∙ ap (zipped sends a.channels.items) sent.are_parts;
  all_pending = ap (λ (x : Inside). x.all_pending.items) same;
  staged = ap (λ (x : Inside). x.staged) same;
  running = ap (λ (x : Inside). x.running) same;
  broken = ap (λ (x : Inside). x.broken) same;
  journal = journal;
  replies = replies;
  failed = ap (λ (x : Inside). x.failed) same;
}

-- the same, where room for the turn was taken before it was put there
pub delivers_by : (a b : Inside) (run : AnsweredRun) (parts : List (List Reply)) (journal : List (List (List Post))) (replies : List TurnReplies) → SendsParts a.channels.items b.channels.items run.replies.replies (Ok tt) parts
    → b ≡ record a { version = run.after; channels = b.channels; running = b.running; journal = b.journal; replies = b.replies } → b.running ≡ None → journal ≡ a.journal.items → b.journal.items ≡ journal ++ run.posts ∷ []
    → replies ≡ a.replies.items → b.replies.items ≡ replies ++ run.replies ∷ [] → Delivers a b run
delivers_by a b run parts journal replies sent same none kept pushed held told =
    delivers_of a b run parts sent
    (same ∙ ap (λ (o : Option AnsweredRun). record a { version = run.after; channels = b.channels; running = o; journal = b.journal; replies = b.replies }) none)
    (pushed ∙ ap (λ (l : List (List (List Post))). l ++ run.posts ∷ []) kept) (told ∙ ap (λ (l : List TurnReplies). l ++ run.replies ∷ []) held)

-- some were sent, and the driver has failed
pub sends_some_of : (a b : Inside) (run : AnsweredRun) (refused : NoMemory) (parts : List (List Reply)) → SendsParts a.channels.items b.channels.items run.replies.replies (Err refused) parts → a.running ≡ Some run
    → b ≡ record a { channels = b.channels; running = Some run; journal = b.journal; replies = b.replies; failed = true } → b.journal.items ≡ a.journal.items → b.replies.items ≡ a.replies.items → SendsSome a b parts
sends_some_of a b run refused parts sent is same journal replies = record {
  channels = sent.channels;
  few = sent.few;
  journal = journal;
  replies = replies;
  failed = ap (λ (x : Inside). x.failed) same;
  rest = (
    ap (λ (x : Inside). x.map) same,
    (
      ap (λ (x : Inside). x.version) same,
      (
        ap (λ (x : Inside). x.all_pending.items) same,
        (
          ap (λ (x : Inside). x.staged) same,
          (ap (λ (x : Inside). x.running) same ∙ sym is, ap (λ (x : Inside). x.broken) same),
        ),
      ),
    ),
  );
}
