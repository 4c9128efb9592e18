-- Digests of what was told last, and of what stands.
use Rattle.std.specs.Prelude.{ℕ, zero, suc, ◌≡◌, ◌⊎◌, Option, Some, None}
use Rattle.posts.specs.declared.replies.TurnReplies.{TurnReplies}
use Rattle.match_play.specs.Digests.{digest_of, turn_digest}
use Rattle.match_play.specs.Posted.{turns_of}
use Rattle.match_play.specs.Saved.{snapshot_of}
use Rattle.pathserve_c.specs.declared.states.State.{State}
use Rattle.pathserve_c.specs.declared.states.State.TheVariants.{Text, Structs, View, Finder}
use Rattle.pathserve_c.specs.declared.statuses.TheConstants.{DONE, NO_MEMORY}
use Rattle.pathserve_c.specs.Statuses.{refusal}

-- the digest of the turn that ended last; where none has ended, that of no bytes
abbrev pub digest_told : ℕ → TurnReplies → ℕ
digest_told zero told = 0
digest_told (suc turns) told = turn_digest told

-- the number was told, or there was no memory and nothing was told
abbrev pub IsTold : ℕ → (old new status : ℕ) → Type 0
IsTold digest old new status = ((status ≡ DONE) × (new ≡ digest)) ⊎ ((status ≡ NO_MEMORY) × (new ≡ old))

-- a refusal that told nothing
abbrev pub IsUntold : Option State → (old new status : ℕ) → Type 0
IsUntold state old new status = (status ≡ refusal state) × (new ≡ old)

-- the digest of the last turn of a match by structs; anything else refuses
abbrev pub IsTurnDigest : Option State → (old new status : ℕ) → Type 0
IsTurnDigest None old new status = IsUntold None old new status
IsTurnDigest (Some (Text text)) old new status = IsUntold (Some (Text text)) old new status
IsTurnDigest (Some (View version)) old new status = IsUntold (Some (View version)) old new status
IsTurnDigest (Some (Finder finder)) old new status = IsUntold (Some (Finder finder)) old new status
IsTurnDigest (Some (Structs state)) old new status = IsTold (digest_told (turns_of state.game.past) state.told) old new status

-- the digest of what a view shows, which is that of its snapshot; anything else refuses
abbrev pub IsViewDigest : Option State → (old new status : ℕ) → Type 0
IsViewDigest None old new status = IsUntold None old new status
IsViewDigest (Some (Text text)) old new status = IsUntold (Some (Text text)) old new status
IsViewDigest (Some (Structs structs)) old new status = IsUntold (Some (Structs structs)) old new status
IsViewDigest (Some (Finder finder)) old new status = IsUntold (Some (Finder finder)) old new status
IsViewDigest (Some (View version)) old new status = IsTold (digest_of (snapshot_of version)) old new status
