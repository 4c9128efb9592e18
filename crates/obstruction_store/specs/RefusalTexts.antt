-- The texts of refusals.
use Rattle.std.specs.Prelude.{ℕ, List, codes}
use Rattle.obstruction_store.specs.declared.refusals.AddRefusal.{AddRefusal}
use Rattle.obstruction_store.specs.declared.refusals.AddRefusal.TheVariants.{DuplicateId, StoreFull, NoMemory}
use Rattle.obstruction_store.specs.declared.refusals.MoveRefusal.{MoveRefusal}
use Rattle.obstruction_store.specs.declared.refusals.MoveRefusal.TheVariants.{UnknownId, BadShape, NoMemory}
use Rattle.obstruction_store.specs.declared.refusals.RemoveRefusal.{RemoveRefusal}
use Rattle.obstruction_store.specs.declared.refusals.RemoveRefusal.TheVariants.{UnknownId, NoMemory}

-- what the refusal of an add says
abbrev pub add_refusal_text : AddRefusal → List ℕ
add_refusal_text DuplicateId = codes "an obstruction stands under this number"
add_refusal_text StoreFull = codes "too many obstructions stand"
add_refusal_text NoMemory = codes "out of memory"

-- what the refusal of a move says
abbrev pub move_refusal_text : MoveRefusal → List ℕ
move_refusal_text UnknownId = codes "no obstruction stands under this number"
move_refusal_text BadShape = codes "the shape does not fit the map at its new place"
move_refusal_text NoMemory = codes "out of memory"

-- what the refusal of a removal says
abbrev pub remove_refusal_text : RemoveRefusal → List ℕ
remove_refusal_text UnknownId = codes "no obstruction stands under this number"
remove_refusal_text NoMemory = codes "out of memory"
