use Rattle.std.proofs.Common.{subst, sym}
use Rattle.landmarks.specs.inner.Fields.{HasRoom}
use Rattle.landmarks.proofs.Marking.{room_after}
use Rattle.landmarks.proofs.fields.TableSpread.run.Goals as goal

pub relax-requires-clause-room : goal.relax-requires-clause-room
relax-requires-clause-room c =
    subst HasRoom (sym c.take.ensures) (room_after c.args.self.now.marks.items c.loop-done.self.marks.items c.requires.room c.loop-done.invariant)
