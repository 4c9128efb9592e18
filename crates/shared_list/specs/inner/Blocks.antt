-- Lists in blocks of 32 items.
use Rattle.std.specs.Prelude.{◌≡◌, ◌++◌, ◌<◌, ◌≤◌, ◌^◌, List, length, flat_map, All}

-- the items of all blocks, and those behind them
abbrev pub in_blocks : {A : Type 0} → List (List A) → List A → List A
in_blocks blocks rest = flat_map (λ block. block) blocks ++ rest

-- each block has 32 items, fewer stand behind the blocks, and there are few enough blocks to count all items
pub record AreBlocks {A : Type 0} (blocks : List (List A)) (rest : List A) : Type 0 where
  pub whole : All (λ block. length block ≡ 32) blocks
  pub behind : length rest < 32
  pub few : length blocks ≤ 2 ^ 27
