-- Lanes that are new.
use Rattle.std.specs.Prelude.{◌≡◌, []}
use Rattle.path_service.specs.declared.channels.Channel.{Channel}

-- nothing was taken, told or sent
pub record IsNew (channel : Channel) : Type 0 where
  pub taken : channel.posts.taken ≡ []
  pub told : channel.posts.told ≡ 0
  pub sent : channel.replies.posted ≡ []
