-- Tables of landmarks that serve all versions of a map.
use Rattle.std.specs.Prelude.{ℕ, ◌≡◌, ◌<◌, List, Option, None, Some, IfSome, length, slice_get, ⊤}
use Rattle.std.specs.FinMap as fin_map
use Rattle.landmarks.specs.Landmarks.{Tables, AreGentle}
use Rattle.landmarks.specs.HalfTables.{Half, IsBegun}
use Rattle.posts.specs.Maps.{Map}
use Rattle.grid_versions.specs.Passing.{passable_at}

-- the tables are of the map's size, and gentle for class k where nothing stands
pub record AreGuides (map : Map) (k : ℕ) (tables : Tables) : Type 0 where
  pub size : tables.size ≡ map.size
  pub gentle : AreGentle (passable_at map fin_map.empty k) tables

-- there are none, or they are such
abbrev pub MayGuide : Map → ℕ → Option Tables → Type 0
MayGuide map k None = ⊤
MayGuide map k (Some tables) = AreGuides map k tables

-- the table on its way is of the map's size and one of its classes, and right so far where nothing stands
pub record IsOnItsWay (map : Map) (half : Half) : Type 0 where
  pub size : half.size ≡ map.size
  pub class : half.class < length map.classes
  pub begun : IsBegun (passable_at map fin_map.empty half.class) half

-- the tables of each class, if it has some, and a table on its way, if there is one
pub record Guiding : Type 0 where
  pub classes : List (Option Tables)
  pub half : Option Half

-- each class has its own, if any
pub record AreAllGuides (map : Map) (all : Guiding) : Type 0 where
  pub each : length all.classes ≡ length map.classes
  pub are : (k : ℕ) (tables : Option Tables) → slice_get all.classes k ≡ Some tables → MayGuide map k tables
  pub half : IfSome all.half (IsOnItsWay map)
