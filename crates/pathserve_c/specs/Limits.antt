-- How many posts may wait for the end of a turn, and how many bytes a line may have.
use Rattle.std.specs.Prelude.{ℕ, ◌≡◌, Option, Some, None}
use Rattle.pathserve_c.specs.declared.states.State.{State}
use Rattle.pathserve_c.specs.declared.states.State.TheVariants.{Text, Structs, View, Finder}
use Rattle.pathserve_c.specs.declared.statuses.TheConstants.{DONE}
use Rattle.pathserve_c.specs.Calls.{IsRefused}
use Rattle.pathserve_c.specs.LineLimits.{limit_to}
use Rattle.pathserve_c.specs.Statuses.{refusal}

-- a match by structs has another limit, and else is as it was; anything else refuses
abbrev pub IsLimited : ℕ → Option State → Option State → ℕ → Type 0
IsLimited most None new status = IsRefused (refusal None) None new status
IsLimited most (Some (Text text)) new status = IsRefused (refusal (Some (Text text))) (Some (Text text)) new status
IsLimited most (Some (View version)) new status = IsRefused (refusal (Some (View version))) (Some (View version)) new status
IsLimited most (Some (Finder finder)) new status = IsRefused (refusal (Some (Finder finder))) (Some (Finder finder)) new status
IsLimited most (Some (Structs structs)) new status = (status ≡ DONE) × (new ≡ Some (Structs (record structs { most = most })))

-- the lines of a match by text have another limit, and else it is as it was; anything else refuses
abbrev pub IsLineLimited : ℕ → Option State → Option State → ℕ → Type 0
IsLineLimited most None new status = IsRefused (refusal None) None new status
IsLineLimited most (Some (Structs structs)) new status = IsRefused (refusal (Some (Structs structs))) (Some (Structs structs)) new status
IsLineLimited most (Some (View version)) new status = IsRefused (refusal (Some (View version))) (Some (View version)) new status
IsLineLimited most (Some (Finder finder)) new status = IsRefused (refusal (Some (Finder finder))) (Some (Finder finder)) new status
IsLineLimited most (Some (Text text)) new status =
    (status ≡ DONE) × (new ≡ Some (Text (record text { limit = Some (limit_to most text.limit) })))
