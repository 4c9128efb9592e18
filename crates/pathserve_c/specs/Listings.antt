-- All that stands, by number.
use Rattle.std.specs.Prelude.{ℕ, ◌≡◌, List, length, map, Result, Ok, Err, Option, Some, None}
use Rattle.std.specs.FinMap as fin_map
use Rattle.obstruction_shapes.specs.declared.shapes.Obstruction.{Obstruction}
use Rattle.obstruction_store.specs.Standing.{Standing}
use Rattle.posts.specs.declared.edits.Edit.TheVariants.{Add}
use Rattle.grid_versions.specs.Versions.{MapState}
use Rattle.flat_posts.specs.declared.posted.FlatPost.{FlatPost}
use Rattle.flat_posts.specs.Pages.{IsPage}
use Rattle.flat_posts.specs.Posts.{flat_edit}
use Rattle.pathserve_c.specs.declared.statuses.PostFault.{PostFault}
use Rattle.pathserve_c.specs.declared.statuses.PostFault.TheVariants as fault
use Rattle.pathserve_c.specs.declared.states.State.{State}
use Rattle.pathserve_c.specs.declared.states.State.TheVariants.{Text, Structs, View, Finder}
use Rattle.pathserve_c.specs.Statuses.{refusal, status_of_posts}

-- the post by which caller 0 adds an obstruction under its number
abbrev pub add_of : ℕ × Obstruction → FlatPost
add_of entry = flat_edit 0 (Add entry.0 entry.1)

-- what stands, as the posts by which caller 0 adds it, by rising number
abbrev pub adds_of : Standing → List FlatPost
adds_of standing = map add_of (fin_map.entries standing)

-- Those from the one of a place on stand at the head of the buffer, and it was told how many there are in all.
pub record Lists (version : MapState) (first : ℕ) (before after : List FlatPost) (whole : ℕ) : Type 0 where
  pub count : ℕ
  pub page : IsPage first (adds_of version.standing) before after count
  pub all : whole ≡ length (adds_of version.standing)

-- nothing was written
abbrev pub IsUnlisted : (before after : List FlatPost) → (old new : ℕ) → Type 0
IsUnlisted before after old new = (after ≡ before) × (new ≡ old)

-- what an answer says of what stands: it refuses for want of memory alone
abbrev pub ListsAs : MapState → ℕ → (before after : List FlatPost) → (old new : ℕ) → Result (Unit {0}) PostFault → Type 0
ListsAs version first before after old new (Ok done) = Lists version first before after new
ListsAs version first before after old new (Err fault.BadValue) = ⊥
ListsAs version first before after old new (Err fault.NoMemory) = IsUnlisted before after old new

-- the same of what a handle shows; anything else than a view refuses
abbrev pub AreListed : Option State → ℕ → (before after : List FlatPost) → (old new : ℕ) → ℕ → Type 0
AreListed None first before after old new status = (status ≡ refusal None) × IsUnlisted before after old new
AreListed (Some (Text text)) first before after old new status =
    (status ≡ refusal (Some (Text text))) × IsUnlisted before after old new
AreListed (Some (Structs structs)) first before after old new status =
    (status ≡ refusal (Some (Structs structs))) × IsUnlisted before after old new
AreListed (Some (Finder finder)) first before after old new status =
    (status ≡ refusal (Some (Finder finder))) × IsUnlisted before after old new
AreListed (Some (View version)) first before after old new status = (answer : Result (Unit {0}) PostFault)
    × ((status ≡ status_of_posts answer) × ListsAs version first before after old new answer)
