-- Questions to a view that are answered without a search.
use Rattle.std.specs.Prelude.{ℕ, ℤ, ◌≡◌, ◌≢◌, Option, Some, None}
use Rattle.std.specs.FinMap as fin_map
use Rattle.fixed_point.specs.Plane.{IsOnAxis}
use Rattle.nav_types.specs.declared.cells.Cell.{Cell}
use Rattle.obstruction_shapes.specs.declared.shapes.Obstruction.{Obstruction}
use Rattle.posts.specs.declared.edits.Edit.TheVariants.{Add}
use Rattle.posts.specs.declared.posts.Post.TheVariants.{Edit}
use Rattle.goal_reach.specs.Starts.{IsStartCell}
use Rattle.grid_versions.specs.Versions.{MapState, passes_of}
use Rattle.flat_posts.specs.declared.cells.FlatCell.{FlatCell}
use Rattle.flat_posts.specs.declared.posted.FlatPost.{FlatPost}
use Rattle.flat_posts.specs.Cells.{flat_cell}
use Rattle.flat_posts.specs.Posts.{IsPost}
use Rattle.pathserve_c.specs.declared.states.State.{State}
use Rattle.pathserve_c.specs.declared.states.State.TheVariants.{Text, Structs, View, Finder}

-- The point (x, z) lies on the map, and a path of class k from there starts in the cell.
pub record StartsAt (version : MapState) (k : ℕ) (x z : ℤ) (cell : Cell) : Type 0 where
  pub column : IsOnAxis version.map.size.w x
  pub row : IsOnAxis version.map.size.h z
  pub start : IsStartCell (passes_of version k) x z cell

-- the same of a cell's flat form
abbrev pub StartsIn : MapState → ℕ → (x z : ℤ) → FlatCell → Type 0
StartsIn version k x z flat = (cell : Cell) × ((flat ≡ flat_cell cell) × StartsAt version k x z cell)

-- The post is the one by which caller 0 adds what stands under the number.
pub record AddsStanding (version : MapState) (id : ℕ) (post : FlatPost) : Type 0 where
  pub obstruction : Obstruction
  pub stands : fin_map.get version.standing id ≡ Some obstruction
  pub adds : IsPost version.map post 0 (Edit (Add id obstruction))

-- how many columns and rows the map has
abbrev pub IsSizeOf : MapState → FlatCell → Type 0
IsSizeOf version flat = (flat.i ≡ version.map.size.w) × (flat.j ≡ version.map.size.h)

-- What is so was said by 1, and written. Else nothing is so, 0 was said, and what was there stays.
pub record SaysAs {A : Type 0} (Is : A → Type 0) (old new : A) (said : ℕ) : Type 0 where
  pub yes : said ≢ 0 → (said ≡ 1) × Is new
  pub no : said ≡ 0 → (new ≡ old) × ((value : A) → Is value → ⊥)

-- nothing was said or written
abbrev pub IsUnsaid : {A : Type 0} → (old new : A) → ℕ → Type 0
IsUnsaid old new said = (said ≡ 0) × (new ≡ old)

-- the same of what a handle shows; anything else than a view says nothing
abbrev pub IsSaid : {A : Type 0} → (MapState → A → Type 0) → Option State → (old new : A) → ℕ → Type 0
IsSaid Is None old new said = IsUnsaid old new said
IsSaid Is (Some (Text text)) old new said = IsUnsaid old new said
IsSaid Is (Some (Structs structs)) old new said = IsUnsaid old new said
IsSaid Is (Some (Finder finder)) old new said = IsUnsaid old new said
IsSaid Is (Some (View version)) old new said = SaysAs (Is version) old new said
