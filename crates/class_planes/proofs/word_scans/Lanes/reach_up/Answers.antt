use Rattle.std.proofs.Common.{◌-◌, refl}
use Rattle.class_planes.specs.inner.Runs.{bit_in}
use Rattle.class_planes.proofs.FarLemmas.{up_forced, up_free, is_set, is_clear}
use Rattle.class_planes.proofs.word_scans.Lanes.reach_up.Goals as goal

pub returns-then-free : goal.returns-then-free
returns-then-free c =
    let end = c.next_up-place.result in
    up_forced c.args.self.now c.args.from end.place (end.place - c.args.from) c.requires.free c.next_up-place.ensures.next
    (is_set (bit_in c.args.self.now.mid end.place) end.free c.next_up-place.ensures.free c.if-free.true) refl

pub returns-else-free : goal.returns-else-free
returns-else-free c =
    let end = c.next_up-place.result in
    up_free c.args.self.now c.args.from end.place (end.place - c.args.from - 1) c.requires.free
    c.next_up-place.ensures.next
    (is_clear c.args.self.now.mid end.place end.free c.next_up-place.ensures.free c.if-free.false) refl
