-- The lanes of callers that have ended.
use Rattle.std.specs.Prelude.{◌≡◌, List, [], ◌∷◌}
use Rattle.path_service.specs.declared.channels.Channel.{Channel}
use Rattle.path_service.specs.declared.closing.ClosedCaller.{ClosedCaller}
use Rattle.path_service.specs.Callers.{EndedState}
use Rattle.path_service.specs.Closings.{HasLeft}

-- the channel and the caller have the two ends of the same lanes
pub record IsPortOf (channel : Channel) (ended : EndedState) : Type 0 where
  pub posts : channel.posts.lane ≡ ended.id.posts
  pub replies : channel.replies.lane ≡ ended.id.replies

-- so have each channel and the caller in its place
abbrev pub ArePortsOf : List Channel → List EndedState → Type 0
ArePortsOf [] [] = Unit {0}
ArePortsOf [] (ended ∷ rest) = ⊥
ArePortsOf (channel ∷ channels) [] = ⊥
ArePortsOf (channel ∷ channels) (ended ∷ rest) = IsPortOf channel ended × ArePortsOf channels rest

-- the two lanes are closed, with all that went over them
pub record ClosesPort (channel : Channel) (ended : EndedState) (closed : ClosedCaller) : Type 0 where
  pub posts : closed.posts_left ≡ record { posted = ended.posted; taken = channel.posts.taken }
  pub replies : closed.replies_left ≡ record { posted = channel.replies.posted; taken = ended.collected }
  pub left : HasLeft closed

-- the same of all channels
abbrev pub ClosePorts : List Channel → List EndedState → List ClosedCaller → Type 0
ClosePorts [] [] [] = Unit {0}
ClosePorts [] [] (closed ∷ more) = ⊥
ClosePorts [] (ended ∷ rest) more = ⊥
ClosePorts (channel ∷ channels) [] more = ⊥
ClosePorts (channel ∷ channels) (ended ∷ rest) [] = ⊥
ClosePorts (channel ∷ channels) (ended ∷ rest) (closed ∷ more) = ClosesPort channel ended closed × ClosePorts channels rest more
