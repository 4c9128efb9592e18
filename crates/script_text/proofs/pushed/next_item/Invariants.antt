-- The lines used so far gave nothing.
use Rattle.std.proofs.Common.{◌≡◌, ◌+◌, ◌-◌, [], length}
use Rattle.script_text.specs.Reader.{HaveLinesAt, rules_at, taken_bytes}
use Rattle.script_text.specs.inner.Judging.{HasFewerPosts, held_at}
use Rattle.script_text.proofs.PushedReads.{Pushes, nothing_behind}
use Rattle.script_text.proofs.pushed.next_item.Given as goal

abbrev pub invariant-lines : goal.invariant-lines
invariant-lines l = record {
  told : Pushes (held_at l.initial.progress l.initial.line) (held_at l.progress l.line) l.initial.bytes.now l.bytes.now [];
  behind : l.line.rest ≡ nothing_behind;
  rules : rules_at l.progress.part ≡ rules_at l.initial.progress.part;
  have : HaveLinesAt l.progress.part l.progress.posts;
  few : HasFewerPosts l.progress;
  count : taken_bytes (held_at l.progress l.line) + length l.bytes.now ≡ taken_bytes (held_at l.initial.progress l.initial.line) + length l.initial.bytes.now;
}

abbrev pub decreases-lines : goal.decreases-lines
decreases-lines l = 4294967297 - l.progress.bytes
