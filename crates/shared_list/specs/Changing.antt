-- An item of a list that a function changes.
use Rattle.std.specs.Prelude.{ℕ, ◌≡◌, List, slice_get, slice_set, Some}
use Rattle.std.specs.Fn.{FnOnceReturnsAtMut, Once}
use Rattle.std.specs.Borrow.{MutBor}

-- At the item of a place the function may give this and leave another item there. That stands at the place in the list
-- after, which is that of before elsewhere.
pub record IsChangedBy {F T R : Type 0} (function : Once F (MutBor T × Unit {0}) (R × (MutBor T × Unit {0}))) (f : F) (place : ℕ)
    (given : R) (before after : List T) : Type 0 where
  pub old : T
  pub new : T
  pub here : slice_get before place ≡ Some old
  pub gives : FnOnceReturnsAtMut function f old given new
  pub set : after ≡ slice_set before place new
