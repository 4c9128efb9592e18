-- The box of a handle's state: what a `RawBox` and a `Held` own is what it owns.
use mir.Syntax.{impl, tnil, dnil}
use mathlib.Core.List.{[]}
use denote.Signature.{Slot, plain}
use Rattle.std_alloc.proofs.BoxSteps.Form.{Bx}
use Rattle.std_heap.specs.contracts.Global as Heap
use Rattle.std_heap.specs.contracts.GlobalAllocator.TheImpl.{ghosts, dict}
use Rattle.std_heap.proofs.Global.TheLaws as heap
use Rattle.pathserve_c.specs.contracts.states.State as state
use Rattle.pathserve_c.proofs.states.State.TheLaws as laws
use Rattle.pathserve_c.specs.contracts.raw_box.RawBox as raw_box
use Rattle.pathserve_c.specs.contracts.held.Held as held

abbrev pub E : Bx
E = record { row = state.the_row; laws = laws.the_row_laws; al = record { row = Heap.the_row; laws = heap.the_row_laws; g = ghosts; d = dict; drops = impl [] tnil dnil } }

abbrev pub FromRaw : Slot 0
FromRaw = plain (λ _. raw_box.the_row state.the_row Heap.the_row ghosts)

abbrev pub FromHeld : Slot 0
FromHeld = plain (λ _. held.the_row)
