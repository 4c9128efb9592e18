-- The channels of all callers, once posts were taken off their lanes or replies were sent.
use Rattle.std.proofs.Common.{◌≡◌, ℕ, zero, suc, ◌+◌, ◌≤◌, List, [], ◌∷◌, ◌++◌, Some, Ok, Err, Result, All, length, slice_index, refl, sym, ap, arith}
use Rattle.std.specs.Prelude.{slice_get}
use Rattle.nav_types.specs.declared.sequences.NoMemory.{NoMemory}
use Rattle.posts.specs.declared.posts.Post.{Post}
use Rattle.posts.specs.declared.replies.Reply.{Reply}
use Rattle.posts.specs.Callers.{list_of}
use Rattle.posts.proofs.PostCounts.{count_more}
use Rattle.path_service.specs.machine.Effects.{joined_up}
use Rattle.path_service.proofs.machine.CallerLists.{joined_nothing}
use Rattle.path_service.specs.declared.channels.Channel.{Channel}
use Rattle.path_service.specs.inner.Zips.{zipped, AllPaired}
use Rattle.path_service.specs.inner.Channels.{gained, sends, joins, posted_in, told_in, sent_in, ids_from, id_of, HasRoom, IsInRoom, PortHasLooked, Fills, FillAll}
use Rattle.path_service.proofs.Zips.{paired_more}
use Rattle.std.proofs.lemmas.List.Elements.{All-nil, All-cons, All-head, All-tail}

-- ---- posts were taken

pub posted_gained : (channels : List Channel) (got : List (List Post)) → length got ≡ length channels → posted_in (zipped gained channels got) ≡ joined_up (posted_in channels) got
posted_gained [] [] e = refl
posted_gained [] (g ∷ got) e = absurd (omega (arith, e))
posted_gained (p ∷ channels) [] e = absurd (omega (arith, e))
posted_gained (p ∷ channels) (g ∷ got) e = ap (λ (l : List (List Post)). (p.posts.taken ++ g) ∷ l) (posted_gained channels got (omega (arith, e)))

pub told_gained : (channels : List Channel) (got : List (List Post)) → told_in (zipped gained channels got) ≡ told_in channels
told_gained [] got = refl
told_gained (p ∷ channels) [] = refl
told_gained (p ∷ channels) (g ∷ got) = ap (λ (l : List ℕ). p.posts.told ∷ l) (told_gained channels got)

pub sent_gained : (channels : List Channel) (got : List (List Post)) → sent_in (zipped gained channels got) ≡ sent_in channels
sent_gained [] got = refl
sent_gained (p ∷ channels) [] = refl
sent_gained (p ∷ channels) (g ∷ got) = ap (λ (l : List (List Reply)). p.replies.posted ∷ l) (sent_gained channels got)

pub ids_gained : (number : ℕ) (channels : List Channel) (got : List (List Post)) → ids_from number (zipped gained channels got) ≡ ids_from number channels
ids_gained number [] got = refl
ids_gained number (p ∷ channels) [] = refl
ids_gained number (p ∷ channels) (g ∷ got) = ap (λ (l : List _). id_of number p ∷ l) (ids_gained (number + 1) channels got)

pub room_gained : (channels : List Channel) (got : List (List Post)) → length got ≡ length channels → AllPaired HasRoom channels got → All IsInRoom (zipped gained channels got)
room_gained [] [] e all = All-nil IsInRoom
room_gained [] (g ∷ got) e all = absurd (omega (arith, e))
room_gained (p ∷ channels) [] e all = absurd (omega (arith, e))
room_gained (p ∷ channels) (g ∷ got) e all = All-cons IsInRoom (gained p g) (zipped gained channels got) all.0 (room_gained channels got (omega (arith, e)) all.1)

-- the posts of which each was told are taken
pub looked_at : (channels : List Channel) (got : List (List Post)) (c : ℕ) → length got ≡ length channels → AllPaired PortHasLooked channels got
    → slice_index (told_in channels) c ≤ length (list_of (posted_in (zipped gained channels got)) c)
looked_at [] [] c e all = omega arith
looked_at [] (g ∷ got) c e all = absurd (omega (arith, e))
looked_at (p ∷ channels) [] c e all = absurd (omega (arith, e))
looked_at (p ∷ channels) (g ∷ got) zero e all = all.0
looked_at (p ∷ channels) (g ∷ got) (suc c) e all = looked_at channels got c (omega (arith, e)) all.1

pub joins_are : (all_pending got : List (List Post)) → length got ≡ length all_pending → zipped joins all_pending got ≡ joined_up all_pending got
joins_are [] [] e = refl
joins_are [] (g ∷ got) e = absurd (omega (arith, e))
joins_are (h ∷ all_pending) [] e = absurd (omega (arith, e))
joins_are (h ∷ all_pending) (g ∷ got) e = ap (λ (l : List (List Post)). (h ++ g) ∷ l) (joins_are all_pending got (omega (arith, e)))

-- ---- replies were sent

pub posted_sends : (channels : List Channel) (parts : List (List Reply)) → posted_in (zipped sends channels parts) ≡ posted_in channels
posted_sends [] parts = refl
posted_sends (p ∷ channels) [] = refl
posted_sends (p ∷ channels) (r ∷ parts) = ap (λ (l : List (List Post)). p.posts.taken ∷ l) (posted_sends channels parts)

pub told_sends : (channels : List Channel) (parts : List (List Reply)) → told_in (zipped sends channels parts) ≡ told_in channels
told_sends [] parts = refl
told_sends (p ∷ channels) [] = refl
told_sends (p ∷ channels) (r ∷ parts) = ap (λ (l : List ℕ). p.posts.told ∷ l) (told_sends channels parts)

pub ids_sends : (number : ℕ) (channels : List Channel) (parts : List (List Reply)) → ids_from number (zipped sends channels parts) ≡ ids_from number channels
ids_sends number [] parts = refl
ids_sends number (p ∷ channels) [] = refl
ids_sends number (p ∷ channels) (r ∷ parts) = ap (λ (l : List _). id_of number p ∷ l) (ids_sends (number + 1) channels parts)

pub sent_sends : (channels : List Channel) (parts : List (List Reply)) → length parts ≤ length channels → sent_in (zipped sends channels parts) ≡ joined_up (sent_in channels) parts
sent_sends [] [] e = refl
sent_sends [] (r ∷ parts) e = absurd (omega (arith, e))
sent_sends (p ∷ channels) [] e = sym (joined_nothing (sent_in (p ∷ channels)))
sent_sends (p ∷ channels) (r ∷ parts) e = ap (λ (l : List (List Reply)). (p.replies.posted ++ r) ∷ l) (sent_sends channels parts (omega (arith, e)))

pub room_sends : (channels : List Channel) (parts : List (List Reply)) → All IsInRoom channels → All IsInRoom (zipped sends channels parts)
room_sends [] parts all = all
room_sends (p ∷ channels) [] all = all
room_sends (p ∷ channels) (r ∷ parts) all =
    All-cons IsInRoom (sends p r) (zipped sends channels parts) (All-head IsInRoom p channels all) (room_sends channels parts (All-tail IsInRoom p channels all))

-- ---- one channel more

pub fill_more : (all : ℕ) (channels : List Channel) (got : List (List Post)) (channel : Channel) (g : List Post) (room left : Result ℕ NoMemory) → slice_get channels (length got) ≡ Some channel
    → FillAll all channels got room → Fills channel.posts g room left → FillAll all channels (got ++ g ∷ []) left
fill_more all channels got channel g (Ok room) (Ok left) at filled fills = (
  omega (arith, count_more got g, filled.0, fills.0),
  λ more. paired_more PortHasLooked channels got channel g at (filled.1 (omega (arith, fills.0, more))) (fills.1 more),
)
fill_more all channels got channel g (Ok room) (Err refused) at filled fills = omega (arith, count_more got g, filled.0, fills)
fill_more all channels got channel g (Err refused) (Ok left) at filled fills = absurd fills
fill_more all channels got channel g (Err refused) (Err again) at filled fills = omega (arith, count_more got g, filled, ap length fills)
