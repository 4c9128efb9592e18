-- Buffers that are filled item by item.
use Rattle.std.specs.Prelude.{ℕ, ◌-◌, ◌≡◌, List, length}
use Rattle.flat_posts.specs.Pages.{IsPage}

-- so many items are to be passed over yet, and the others of the list so far are on the page
pub record IsFilling {A : Type 0} (first : ℕ) (all old : List A) (ahead count : ℕ) (new : List A) : Type 0 where
  pub passed : ahead ≡ first - length all
  pub page : IsPage first all old new count
