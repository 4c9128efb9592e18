-- How a table holds the areas of all regions.
use Rattle.std.specs.Prelude.{ℕ, List}
use Rattle.reach_sets.specs.declared.tables.AreaLists.{AreaLists}
use Rattle.reach_sets.specs.declared.tables.AreaLists.TheVariants.{Each, Linked}

-- the area of each region in the order of regions
abbrev pub areas_held : AreaLists → List ℕ
areas_held (Each areas) = areas.items
areas_held (Linked areas) = areas
