-- A state in its box may go to another thread, since the state and the allocator's handle may. With none, nothing goes.
use mir.Raw.{raw}
use base.Shift.{Keyless}
use denote.Memory.{lone}
use denote.RawPtr.{Ptr}
use denote.Struct.Struct.{exits_of}
use denote.Struct.Owning.{shape, fields, to}
use denote.Param.Send.{IsSend, AllSend, owning_send, struct_send, sendable}
use Rattle.std.proofs.Common.{Option, Some, None}
use Rattle.std.proofs.Crossing as heap
use Rattle.std.specs.Global.{Global}
use Rattle.std_alloc.proofs.SendSync.{quiet, lies}
use Rattle.std_heap.proofs.Global.TheSendSync as handle
use Rattle.pathserve_c.specs.inner.Owned.{held_owns}
use Rattle.pathserve_c.specs.contracts.states.State as state
use Rattle.pathserve_c.proofs.states.State.TheSendSync.{the_send as state_send}
use Rattle.pathserve_c.specs.contracts.held.Held.{the_row, the_type}

crosses : (alloc : Global) (at : Ptr) (value : Option state.the_row.Denot) → Keyless (held_owns alloc at value)
crosses alloc at None = tt
crosses alloc at (Some held) = (lies state.the_row state_send at held, heap.frees.frees alloc (raw (lone state.the_row.mir)) at)

pub send : IsSend the_row
send =
    let all : AllSend (fields the_type) = (search sendable, (handle.the_field_send, tt)) in
    owning_send the_type all (λ d. crosses d.alloc d.at d.value)
    (λ k. quiet (to the_type) (exits_of k (fields the_type)) ((struct_send (shape the_type) all).leaving k))
