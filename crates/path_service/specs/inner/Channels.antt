-- The driver's ends of the lanes of each caller.
use Rattle.std.specs.Prelude.{ℕ, ◌≡◌, ◌+◌, ◌<◌, ◌≤◌, ◌^◌, Some, Result, Ok, Err, List, [], ◌∷◌, ◌++◌, length, map, slice_get, slice_set}
use Rattle.nav_types.specs.declared.sequences.NoMemory.{NoMemory}
use Rattle.posts.specs.declared.posts.Post.{Post}
use Rattle.posts.specs.declared.replies.Reply.{Reply}
use Rattle.posts.specs.Callers.{list_of}
use Rattle.posts.specs.Posts.{post_count}
use Rattle.request_lanes.specs.Ends.{Posting, Taking}
use Rattle.path_service.specs.declared.channels.Channel.{Channel}
use Rattle.path_service.specs.Callers.{CallerId}
use Rattle.path_service.specs.inner.Zips.{zipped, AllPaired}

-- posts were taken off the lane
abbrev pub takes : Taking Post → List Post → Taking Post
takes lane got = record lane { taken = lane.taken ++ got }

abbrev pub gained : Channel → List Post → Channel
gained channel got = record channel { posts = takes channel.posts got }

-- replies were sent on the lane
abbrev pub puts : Posting Reply → List Reply → Posting Reply
puts lane replies = record lane { posted = lane.posted ++ replies }

abbrev pub sends : Channel → List Reply → Channel
sends channel replies = record channel { replies = puts channel.replies replies }

-- what was taken off each lane of posts
abbrev pub posted_in : List Channel → List (List Post)
posted_in channels = map (λ (channel : Channel). channel.posts.taken) channels

-- of how many posts each was told
abbrev pub told_in : List Channel → List ℕ
told_in channels = map (λ (channel : Channel). channel.posts.told) channels

-- what was sent on each lane of replies
abbrev pub sent_in : List Channel → List (List Reply)
sent_in channels = map (λ (channel : Channel). channel.replies.posted) channels

-- the caller of a channel, by its number
abbrev pub id_of : ℕ → Channel → CallerId
id_of number channel = record { number = number; posts = channel.posts.lane; replies = channel.replies.lane }

-- the callers, from this number on
abbrev pub ids_from : ℕ → List Channel → List CallerId
ids_from number [] = []
ids_from number (channel ∷ channels) = id_of number channel ∷ ids_from (number + 1) channels

-- no more posts came off the lane than a lane takes
abbrev pub IsInRoom : Channel → Type 0
IsInRoom channel = length channel.posts.taken ≤ 2 ^ 62

-- the lane has room for so many posts more
abbrev pub HasRoom : Channel → List Post → Type 0
HasRoom channel got = length (channel.posts.taken ++ got) ≤ 2 ^ 62

-- with these posts all that the lane was told of are taken
abbrev pub HasLooked : Taking Post → List Post → Type 0
HasLooked lane got = lane.told ≤ length (lane.taken ++ got)

abbrev pub PortHasLooked : Channel → List Post → Type 0
PortHasLooked channel got = HasLooked channel.posts got

-- Posts were taken, where there was room left for so many, and then there is room for so many. Where memory is short
-- there is no room.
abbrev pub Fills : Taking Post → List Post → Result ℕ NoMemory → Result ℕ NoMemory → Type 0
Fills lane got (Ok room) (Ok left) = (room ≡ length got + left) × (0 < left → HasLooked lane got)
Fills lane got (Ok room) (Err refused) = length got ≤ room
Fills lane got (Err refused) (Ok left) = ⊥
Fills lane got (Err refused) (Err again) = got ≡ []

-- the same for the first channels, which took these
abbrev pub FillAll : ℕ → List Channel → List (List Post) → Result ℕ NoMemory → Type 0
FillAll room channels got (Ok left) = (room ≡ post_count got + left) × (0 < left → AllPaired PortHasLooked channels got)
FillAll room channels got (Err refused) = post_count got ≤ room

-- so many posts were taken off a lane, behind the pending ones, and there is room for so many more
pub record Took (old new : Taking Post) (held more : List Post) (room left : ℕ) (got : List Post) : Type 0 where
  pub lane : new ≡ takes old got
  pub pending : more ≡ held ++ got
  pub count : room ≡ length got + left
  pub few : length old.taken ≤ 2 ^ 62 → length (old.taken ++ got) ≤ 2 ^ 62

-- posts were taken off a lane, behind the pending ones
pub record TakesPosts (old new : Taking Post) (held more : List Post) (room : ℕ) (left : Result ℕ NoMemory) (got : List Post) : Type 0 where
  pub lane : new ≡ takes old got
  pub pending : more ≡ held ++ got
  pub fills : Fills old got (Ok room) left
  pub few : length old.taken ≤ 2 ^ 62 → length (old.taken ++ got) ≤ 2 ^ 62

-- the same for a channel
pub record FillsPort (old new : Channel) (held more : List Post) (room left : Result ℕ NoMemory) (got : List Post) : Type 0 where
  pub channel : new ≡ gained old got
  pub pending : more ≡ held ++ got
  pub fills : Fills old.posts got room left
  pub few : IsInRoom old → HasRoom old got

-- the same for the channel of one caller
pub record FillsAt (old new : List Channel) (held more : List (List Post)) (caller : ℕ) (room left : Result ℕ NoMemory) (got : List Post) : Type 0 where
  pub channel : Channel
  pub at : slice_get old caller ≡ Some channel
  pub channels : new ≡ slice_set old caller (gained channel got)
  pub all_pending : more ≡ slice_set held caller (list_of held caller ++ got)
  pub fills : Fills channel.posts got room left
  pub few : IsInRoom channel → HasRoom channel got

-- the posts of two lists, one after the other
abbrev pub joins : List Post → List Post → List Post
joins posts more = posts ++ more

-- the same for all channels
pub record FillsPorts (old new : List Channel) (held more : List (List Post)) (room : ℕ) (left : Result ℕ NoMemory) (got : List (List Post)) : Type 0 where
  pub wide : length got ≡ length old
  pub channels : new ≡ zipped gained old got
  pub all_pending : more ≡ zipped joins held got
  pub fills : FillAll room old got left
  pub few : AllPaired HasRoom old got

-- the lane has room for so many replies more
abbrev pub HasRoomOn : Channel → List Reply → Type 0
HasRoomOn channel replies = length (channel.replies.posted ++ replies) ≤ 2 ^ 62

-- so has that of a caller, where there is one
abbrev pub HasRoomFor : List Channel → ℕ → List Reply → Type 0
HasRoomFor channels caller replies = (channel : Channel) → slice_get channels caller ≡ Some channel → HasRoomOn channel replies

-- all replies are sent, or where memory is short the first of them
abbrev pub IsPart : List Reply → Result (Unit {0}) NoMemory → List Reply → Type 0
IsPart replies (Ok done) part = part ≡ replies
IsPart replies (Err refused) part = (rest : List Reply) × (part ++ rest ≡ replies)

-- replies were sent on a lane
pub record SendsPart (old new : Posting Reply) (replies : List Reply) (result : Result (Unit {0}) NoMemory) (part : List Reply) : Type 0 where
  pub lane : new ≡ puts old part
  pub is_part : IsPart replies result part

-- the same on the lane of one caller
pub record SendsAt (old new : List Channel) (caller : ℕ) (replies : List Reply) (result : Result (Unit {0}) NoMemory) (part : List Reply) : Type 0 where
  pub channel : Channel
  pub at : slice_get old caller ≡ Some channel
  pub channels : new ≡ slice_set old caller (sends channel part)
  pub is_part : IsPart replies result part

-- each list is that in its place, or where memory is short the lists are the first of them, and the last may be cut off
abbrev pub AreParts : List (List Reply) → Result (Unit {0}) NoMemory → List (List Reply) → Type 0
AreParts lists (Ok done) parts = parts ≡ lists
AreParts lists (Err refused) parts = (caller : ℕ) → (rest : List Reply) × (list_of parts caller ++ rest ≡ list_of lists caller)

-- the same on all lanes
pub record SendsParts (old new : List Channel) (lists : List (List Reply)) (result : Result (Unit {0}) NoMemory) (parts : List (List Reply)) : Type 0 where
  pub few : length parts ≤ length old
  pub channels : new ≡ zipped sends old parts
  pub are_parts : AreParts lists result parts
