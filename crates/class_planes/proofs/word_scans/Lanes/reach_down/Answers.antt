use Rattle.std.proofs.Common.{◌-◌, refl}
use Rattle.class_planes.specs.inner.Runs.{bit_in}
use Rattle.class_planes.proofs.FarLemmas.{down_forced, down_free, down_whole, is_set, is_clear}
use Rattle.class_planes.proofs.word_scans.Lanes.reach_down.Goals as goal

pub returns-in_default : goal.returns-in_default
returns-in_default c = down_whole c.args.self.now c.args.from c.requires.free c.in_default.ensures.none

pub returns-then-end : goal.returns-then-end
returns-then-end c =
    down_forced c.args.self.now c.args.from c.in-Some.end.place (c.args.from - c.in-Some.end.place) c.requires.free
    c.in-Some.ensures.some
    (is_set (bit_in c.args.self.now.mid c.in-Some.end.place) c.in-Some.end.free c.in-Some.ensures.free c.if-end.true) refl

pub returns : goal.returns
returns c =
    down_free c.args.self.now c.args.from c.in-Some.end.place (c.args.from - c.in-Some.end.place - 1) c.requires.free
    c.in-Some.ensures.some
    (is_clear c.args.self.now.mid c.in-Some.end.place c.in-Some.end.free c.in-Some.ensures.free c.if-end.false) refl
