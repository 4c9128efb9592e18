-- Posts that are taken off one lane, and replies that are sent on one.
use Rattle.std.proofs.Common.{◌≡◌, ℕ, zero, suc, ◌+◌, ◌-◌, ◌<◌, ◌≤◌, ◌^◌, List, [], ◌∷◌, ◌++◌, Some, Result, Ok, Err, All, length, set, take, drop, get_or, refl, sym, ap, ◌∙◌, subst, arith, append-nil, append_assoc, length-append, length-take-le}
use Rattle.std.specs.Prelude.{slice_get}
use Rattle.std.proofs.lemmas.List.{take_more, take_all, take-append-drop, get_or_default}
use Rattle.nav_types.specs.declared.sequences.NoMemory.{NoMemory}
use Rattle.posts.specs.declared.posts.Post.{Post}
use Rattle.posts.specs.declared.replies.Reply.{Reply}
use Rattle.posts.specs.Callers.{list_of}
use Rattle.request_lanes.specs.Ends.{Posting, Taking}
use Rattle.path_service.specs.declared.channels.Channel.{Channel}
use Rattle.path_service.specs.inner.Zips.{zipped, AllPaired}
use Rattle.path_service.specs.inner.Channels.{takes, gained, puts, sends, joins, PortHasLooked, FillAll, HasRoom, IsInRoom, Took, TakesPosts, FillsPort, FillsAt, FillsPorts, HasRoomOn, HasRoomFor, SendsPart, SendsAt, SendsParts}
use Rattle.path_service.proofs.Zips.{zipped_none, zipped_at, zipped_more, paired_none, paired_more, paired_at}
use Rattle.std.proofs.lemmas.List.Elements.{All-head, All-tail}
use Rattle.path_service.proofs.PortLists.{fill_more}

lane_is : (lane other : Taking Post) → lane.lane ≡ other.lane → lane.taken ≡ other.taken → lane.told ≡ other.told → lane ≡ other
lane_is lane other p q r = λ i. record { lane = p i; taken = q i; told = r i }

out_is : (lane other : Posting Reply) → lane.lane ≡ other.lane → lane.posted ≡ other.posted → lane ≡ other
out_is lane other p q = λ i. record { lane = p i; posted = q i }

-- ---- posts

pub took_none : (lane : Taking Post) (pending : List Post) (room : ℕ) → Took lane lane pending pending room room []
took_none lane pending room = record {
  lane = lane_is lane (takes lane []) refl (sym (append-nil lane.taken)) refl;
  pending = sym (append-nil pending);
  count = omega arith;
  few = λ few. subst (λ (l : List Post). length l ≤ 2 ^ 62) (sym (append-nil lane.taken)) few;
}

pub took_more : (old lane new : Taking Post) (pending mid more : List Post) (room left : ℕ) (got : List Post) (post : Post) → Took old lane pending mid room left got → 0 < left
    → new.lane ≡ lane.lane → new.told ≡ lane.told → new.taken ≡ lane.taken ++ post ∷ [] → length new.taken ≤ 2 ^ 62 → more ≡ mid ++ post ∷ []
    → Took old new pending more room (left - 1) (got ++ post ∷ [])
took_more old lane new pending mid more room left got post took room_left same told taken few is =
    let longer : new.taken ≡ old.taken ++ (got ++ post ∷ []) =
    taken ∙ ap (λ (l : Taking Post). l.taken ++ post ∷ []) took.lane ∙ append_assoc old.taken got (post ∷ []) in
    record {
      lane = lane_is new (takes old (got ++ post ∷ [])) (same ∙ ap (λ (l : Taking Post). l.lane) took.lane) longer (told ∙ ap (λ (l : Taking Post). l.told) took.lane);
      pending = is ∙ ap (λ (l : List Post). l ++ post ∷ []) took.pending ∙ append_assoc pending got (post ∷ []);
      count = omega (arith, took.count, length-append got (post ∷ []));
      few = λ before. subst (λ (l : List Post). length l ≤ 2 ^ 62) longer few;
    }

pub took_same : (old lane : Taking Post) (pending mid more : List Post) (room left : ℕ) (got : List Post) → Took old lane pending mid room left got → more ≡ mid → Took old lane pending more room left got
took_same old lane pending mid more room left got took same = record {
  lane = took.lane;
  pending = same ∙ took.pending;
  count = took.count;
  few = took.few;
}

-- there is no room for more
pub took_full : (old new : Taking Post) (pending more : List Post) (room left : ℕ) (got : List Post) → Took old new pending more room left got → left ≡ 0 → TakesPosts old new pending more room (Ok left) got
took_full old new pending more room left got took none = record {
  lane = took.lane;
  pending = took.pending;
  fills = (took.count, λ more_room. absurd (omega (arith, none, more_room)));
  few = took.few;
}

-- the lane was found empty
pub took_all : (old lane new : Taking Post) (pending more : List Post) (room left : ℕ) (got : List Post) → Took old lane pending more room left got → new ≡ lane → lane.told ≤ length lane.taken
    → TakesPosts old new pending more room (Ok left) got
took_all old lane new pending more room left got took same empty =
    let now : new ≡ takes old got = same ∙ took.lane in
    record {
      lane = now;
      pending = took.pending;
      fills = (took.count, λ more_room. subst (λ (l : Taking Post). l.told ≤ length l.taken) took.lane empty);
      few = took.few;
    }

-- memory was short
pub took_short : (old new : Taking Post) (pending mid more : List Post) (room left : ℕ) (got : List Post) (refused : NoMemory) → Took old new pending mid room left got → more ≡ mid
    → TakesPosts old new pending more room (Err refused) got
took_short old new pending mid more room left got refused took same = record {
  lane = took.lane;
  pending = same ∙ took.pending;
  fills = omega (arith, took.count);
  few = took.few;
}

port_same : (channel : Channel) → gained channel [] ≡ channel
port_same channel = ap (λ (l : Taking Post). record channel { posts = l }) (lane_is (takes channel.posts []) channel.posts refl (append-nil channel.posts.taken) refl)

-- a channel was left as it was
pub fills_none : (channel : Channel) (pending : List Post) (a b : NoMemory) → FillsPort channel channel pending pending (Err a) (Err b) []
fills_none channel pending a b = record {
  channel = sym (port_same channel);
  pending = sym (append-nil pending);
  fills = refl;
  few = λ few. subst (λ (l : List Post). length l ≤ 2 ^ 62) (sym (append-nil channel.posts.taken)) few;
}

-- a channel was filled, through a vector of the pending posts
pub fills_some : (old new : Channel) (pending more from to : List Post) (room : ℕ) (left : Result ℕ NoMemory) (got : List Post) → from ≡ pending → more ≡ to → TakesPosts old.posts new.posts from to room left got
    → new.replies ≡ old.replies → FillsPort old new pending more (Ok room) left got
fills_some old new pending more from to room left got p q taken same = record {
  channel = λ i. record { posts = taken.lane i; replies = same i };
  pending = q ∙ taken.pending ∙ ap (λ (l : List Post). l ++ got) p;
  fills = taken.fills;
  few = taken.few;
}

-- a channel that has no room to fill is left as it is
pub fills_refused : (channel : Channel) (pending : List Post) (room : Result ℕ NoMemory) (a b : NoMemory) → room ≡ Err a → FillsPort channel channel pending pending room (Err b) []
fills_refused channel pending room a b is = subst (λ (r : Result ℕ NoMemory). FillsPort channel channel pending pending r (Err b) []) (sym is) (fills_none channel pending a b)

pub fills_at : (channels new : List Channel) (all_pending more : List (List Post)) (caller : ℕ) (room left : Result ℕ NoMemory) (old channel : Channel) (pending grown : List Post) (got : List Post) → slice_get channels caller ≡ Some old
    → pending ≡ list_of all_pending caller → FillsPort old channel pending grown room left got → new ≡ set channels caller channel → more ≡ set all_pending caller grown
    → FillsAt channels new all_pending more caller room left got
fills_at channels new all_pending more caller room left old channel pending grown got at is fills p h = record {
  channel = old;
  at = at;
  channels = p ∙ ap (set channels caller) fills.channel;
  all_pending = h ∙ ap (set all_pending caller) (fills.pending ∙ ap (λ (l : List Post). l ++ got) is);
  fills = fills.fills;
  few = fills.few;
}

-- ---- all channels, one after another

pub record FilledFirst (old new : List Channel) (held more : List (List Post)) (room caller : ℕ) (left : Result ℕ NoMemory) (got : List (List Post)) : Type 0 where
  pub count : length got ≡ caller
  pub channels : new ≡ zipped gained old got
  pub all_pending : more ≡ zipped joins held got
  pub fills : FillAll room old got left
  pub few : AllPaired HasRoom old got

joins_at : (all_pending got : List (List Post)) → list_of (zipped joins all_pending got) (length got) ≡ list_of all_pending (length got)
joins_at [] got = refl
joins_at (h ∷ all_pending) [] = refl
joins_at (h ∷ all_pending) (g ∷ got) = joins_at all_pending got

hand_at : (all_pending : List (List Post)) (k : ℕ) → k < length all_pending → slice_get all_pending k ≡ Some (list_of all_pending k)
hand_at [] k less = absurd (omega (arith, less))
hand_at (h ∷ all_pending) zero less = refl
hand_at (h ∷ all_pending) (suc k) less = hand_at all_pending k (omega (arith, less))

pub filled_none : (channels : List Channel) (all_pending : List (List Post)) (room : ℕ) → FilledFirst channels channels all_pending all_pending room 0 (Ok room) []
filled_none channels all_pending room = record {
  count = refl;
  channels = sym (zipped_none gained channels);
  all_pending = sym (zipped_none joins all_pending);
  fills = (omega arith, λ more. paired_none PortHasLooked channels);
  few = paired_none HasRoom channels;
}

pub filled_more : (old now new : List Channel) (all_pending held more : List (List Post)) (room caller : ℕ) (left next_left : Result ℕ NoMemory) (got : List (List Post)) (g : List Post)
    → FilledFirst old now all_pending held room caller left got → length all_pending ≡ length old → caller < length old → All IsInRoom old → FillsAt now new held more caller left next_left g
    → FilledFirst old new all_pending more room (caller + 1) next_left (got ++ g ∷ [])
filled_more old now new all_pending held more room caller left next_left got g before wide less fit fills =
    let channel : Channel = fills.channel in
    let at : slice_get old (length got) ≡ Some channel =
    sym (zipped_at gained old got) ∙ ap (λ (ps : List Channel). slice_get ps (length got)) (sym before.channels) ∙ ap (slice_get now) before.count ∙ fills.at in
    let pending : List Post = list_of all_pending (length got) in
    let held_at : list_of held caller ≡ pending =
    ap (λ (hs : List (List Post)). list_of hs caller) before.all_pending ∙ ap (list_of (zipped joins all_pending got)) (sym before.count) ∙ joins_at all_pending got in
    let in_room : IsInRoom channel = room_here old (length got) channel at fit in
    record {
      count = length-append got (g ∷ []) ∙ ap (λ (k : ℕ). k + 1) before.count;
      channels = fills.channels
          ∙ ap (λ (ps : List Channel). set ps caller (gained channel g)) before.channels
          ∙ ap (λ (k : ℕ). set (zipped gained old got) k (gained channel g)) (sym before.count)
          ∙ zipped_more gained old got channel g at;
      all_pending = fills.all_pending
          ∙ ap (λ (l : List Post). set held caller (l ++ g)) held_at
          ∙ ap (λ (hs : List (List Post)). set hs caller (pending ++ g)) before.all_pending
          ∙ ap (λ (k : ℕ). set (zipped joins all_pending got) k (pending ++ g)) (sym before.count)
          ∙ zipped_more joins all_pending got pending g (hand_at all_pending (length got) (omega (arith, before.count, wide, less)));
      fills = fill_more room old got channel g left next_left at before.fills fills.fills;
      few = paired_more HasRoom old got channel g at before.few (fills.few in_room);
    }
  where
    room_here : (channels : List Channel) (c : ℕ) (channel : Channel) → slice_get channels c ≡ Some channel → All IsInRoom channels → IsInRoom channel
    room_here [] zero channel is all = cc
    room_here [] (suc c) channel is all = cc
    room_here (p ∷ channels) zero channel is all =
        let same : p ≡ channel = cc in
        subst IsInRoom same (All-head IsInRoom p channels all)
    room_here (p ∷ channels) (suc c) channel is all = room_here channels c channel is (All-tail IsInRoom p channels all)

pub filled_all : (old new : List Channel) (all_pending more : List (List Post)) (room caller : ℕ) (left : Result ℕ NoMemory) (got : List (List Post)) → FilledFirst old new all_pending more room caller left got → caller ≡ length old
    → FillsPorts old new all_pending more room left got
filled_all old new all_pending more room caller left got filled whole = record {
  wide = filled.count ∙ whole;
  channels = filled.channels;
  all_pending = filled.all_pending;
  fills = filled.fills;
  few = filled.few;
}

-- ---- replies

-- the first replies are sent
pub record Sent (old new : Posting Reply) (replies : List Reply) (count : ℕ) : Type 0 where
  pub lane : new ≡ puts old (take count replies)

pub sent_none : (lane : Posting Reply) (replies : List Reply) → Sent lane lane replies 0
sent_none lane replies = record { lane = out_is lane (puts lane []) refl (sym (append-nil lane.posted)) }

pub sent_more : (old lane new : Posting Reply) (replies : List Reply) (count : ℕ) (reply d : Reply) → Sent old lane replies count → count < length replies → reply ≡ get_or replies count d
    → new.lane ≡ lane.lane → new.posted ≡ lane.posted ++ reply ∷ [] → Sent old new replies (count + 1)
sent_more old lane new replies count reply d sent less is same posted = record {
  lane = out_is new (puts old (take (count + 1) replies)) (same ∙ ap (λ (l : Posting Reply). l.lane) sent.lane)
      (posted
      ∙ ap (λ (l : Posting Reply). l.posted ++ reply ∷ []) sent.lane
      ∙ append_assoc old.posted (take count replies) (reply ∷ [])
      ∙ ap (λ (r : Reply). old.posted ++ (take count replies ++ r ∷ [])) is
      ∙ ap (λ (l : List Reply). old.posted ++ l) (sym (take_more replies count d less)));
}

-- while replies are left to send, the lane has room for one
pub sent_room : (old lane : Posting Reply) (replies : List Reply) (count : ℕ) → Sent old lane replies count → count < length replies → length (old.posted ++ replies) ≤ 2 ^ 62 → length lane.posted < 2 ^ 62
sent_room old lane replies count sent less room =
    omega (arith, ap (λ (l : Posting Reply). length l.posted) sent.lane, length-append old.posted (take count replies), length-take-le count replies (omega (arith, less)), length-append old.posted replies)

pub sends_part : (old new : Posting Reply) (replies : List Reply) (count : ℕ) (refused : NoMemory) → Sent old new replies count → SendsPart old new replies (Err refused) (take count replies)
sends_part old new replies count refused sent = record {
  lane = sent.lane;
  is_part = (drop count replies, take-append-drop count replies);
}

pub sends_whole : (old new : Posting Reply) (replies : List Reply) (count : ℕ) → Sent old new replies count → count ≡ length replies → SendsPart old new replies (Ok tt) replies
sends_whole old new replies count sent whole = record {
  lane = sent.lane ∙ ap (puts old) (take_all count replies (omega (arith, whole)));
  is_part = refl;
}

pub sends_at : (channels new : List Channel) (caller : ℕ) (replies : List Reply) (result : Result (Unit {0}) NoMemory) (old channel : Channel) (part : List Reply) → slice_get channels caller ≡ Some old
    → SendsPart old.replies channel.replies replies result part → channel.posts ≡ old.posts → new ≡ set channels caller channel → SendsAt channels new caller replies result part
sends_at channels new caller replies result old channel part at sends_it same p = record {
  channel = old;
  at = at;
  channels = p ∙ ap (set channels caller) (let is : channel ≡ sends old part = λ i. record { posts = same i; replies = sends_it.lane i } in is);
  is_part = sends_it.is_part;
}

-- the channel in the place of the list that is next is as it was
next_port : (old now : List Channel) (lists : List (List Reply)) (caller : ℕ) (channel : Channel) → caller < length lists → now ≡ zipped sends old (take caller lists) → slice_get now caller ≡ Some channel
    → slice_get old (length (take caller lists)) ≡ Some channel
next_port old now lists caller channel less before at =
    let first : List (List Reply) = take caller lists in
    let long : length first ≡ caller = length-take-le caller lists (omega (arith, less)) in
    sym (zipped_at sends old first) ∙ ap (λ (ps : List Channel). slice_get ps (length first)) (sym before) ∙ ap (slice_get now) long ∙ at

-- it has room for its replies
pub next_room : (old now : List Channel) (lists : List (List Reply)) (caller : ℕ) (list d : List Reply) → length lists ≡ length old → caller < length lists → list ≡ get_or lists caller d
    → now ≡ zipped sends old (take caller lists) → AllPaired HasRoomOn old lists → HasRoomFor now caller list
next_room old now lists caller list d wide less is before room = λ channel at.
    let long : length (take caller lists) ≡ caller = length-take-le caller lists (omega (arith, less)) in
    let here : slice_get old caller ≡ Some channel = ap (slice_get old) (sym long) ∙ next_port old now lists caller channel less before at in
    subst (HasRoomOn channel) (sym (is ∙ get_or_default lists caller d [] less)) (paired_at HasRoomOn old lists caller channel wide room here)

-- the channels once a part of the next list is sent
sent_ports : (old now new : List Channel) (lists : List (List Reply)) (caller : ℕ) (list : List Reply) (result : Result (Unit {0}) NoMemory) (part : List Reply) → caller < length lists
    → now ≡ zipped sends old (take caller lists) → SendsAt now new caller list result part → new ≡ zipped sends old (take caller lists ++ part ∷ [])
sent_ports old now new lists caller list result part less before at =
    let first : List (List Reply) = take caller lists in
    let long : length first ≡ caller = length-take-le caller lists (omega (arith, less)) in
    at.channels
    ∙ ap (λ (ps : List Channel). set ps caller (sends at.channel part)) before
    ∙ ap (λ (k : ℕ). set (zipped sends old first) k (sends at.channel part)) (sym long)
    ∙ zipped_more sends old first at.channel part (next_port old now lists caller at.channel less before at.at)

-- the first lists are sent
pub sends_all_more : (old now new : List Channel) (lists : List (List Reply)) (caller : ℕ) (list d part : List Reply) → caller < length lists → list ≡ get_or lists caller d
    → now ≡ zipped sends old (take caller lists) → SendsAt now new caller list (Ok tt) part → new ≡ zipped sends old (take (caller + 1) lists)
sends_all_more old now new lists caller list d part less is before at =
    sent_ports old now new lists caller list (Ok tt) part less before at
    ∙ ap (λ (l : List Reply). zipped sends old (take caller lists ++ l ∷ [])) (at.is_part ∙ is)
    ∙ ap (zipped sends old) (sym (take_more lists caller d less))

parts_begin : (lists : List (List Reply)) (i : ℕ) (part rest : List Reply) → i < length lists → part ++ rest ≡ list_of lists i
    → (c : ℕ) → (more : List Reply) × (list_of (take i lists ++ part ∷ []) c ++ more ≡ list_of lists c)
parts_begin [] i part rest less e c = absurd (omega (arith, less))
parts_begin (l ∷ lists) zero part rest less e zero = (rest, e)
parts_begin (l ∷ lists) zero part rest less e (suc c) = (list_of lists c, refl)
parts_begin (l ∷ lists) (suc i) part rest less e zero = ([], append-nil l)
parts_begin (l ∷ lists) (suc i) part rest less e (suc c) = parts_begin lists i part rest (omega (arith, less)) e c

-- memory was short for the rest of a list, or for those behind it
pub sends_some : (old now new : List Channel) (lists : List (List Reply)) (caller : ℕ) (list d part : List Reply) (refused : NoMemory) → length lists ≡ length old → caller < length lists
    → list ≡ get_or lists caller d → now ≡ zipped sends old (take caller lists) → SendsAt now new caller list (Err refused) part
    → SendsParts old new lists (Err refused) (take caller lists ++ part ∷ [])
sends_some old now new lists caller list d part refused wide less is before at = record {
  few = omega (arith, length-append (take caller lists) (part ∷ []), length-take-le caller lists (omega (arith, less)), wide, less);
  channels = sent_ports old now new lists caller list (Err refused) part less before at;
  are_parts = parts_begin lists caller part at.is_part.0 less (at.is_part.1 ∙ is ∙ get_or_default lists caller d [] less);
}

-- nothing was sent
pub sends_none : (channels : List Channel) (lists : List (List Reply)) (refused : NoMemory) → SendsParts channels channels lists (Err refused) []
sends_none channels lists refused = record {
  few = omega arith;
  channels = sym (zipped_none sends channels);
  are_parts = λ c. (list_of lists c, refl);
}

pub sends_every : (old new : List Channel) (lists : List (List Reply)) (caller : ℕ) → length lists ≡ length old → caller ≡ length lists → new ≡ zipped sends old (take caller lists)
    → SendsParts old new lists (Ok tt) lists
sends_every old new lists caller wide whole sent = record {
  few = omega (arith, wide);
  channels = sent ∙ ap (zipped sends old) (take_all caller lists (omega (arith, whole)));
  are_parts = refl;
}
