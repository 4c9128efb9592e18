-- The items so far were read, and this is what they give. Each post took a byte.
use Rattle.std.proofs.Common.{◌≤◌, ◌+◌, ◌-◌}
use Rattle.std.specs.Prelude.{IsFalse}
use Rattle.io_edges.specs.Passing.{HasGiven}
use Rattle.posts.specs.Posts.{post_count}
use Rattle.script_text.specs.Reader.{rules_at}
use Rattle.pathserve.proofs.WholeReadings.{KeepsScript, ReadTold, count_read}
use Rattle.pathserve.proofs.serving.read_script.Given as goal

abbrev pub invariant-items : goal.invariant-items
invariant-items g l = record {
  told : ReadTold l.reader (g.S.Source.left l.fn.source) (g.S.Source.left l.source) l.read;
  given : HasGiven (g.S.Source.left l.fn.source) (g.S.Source.left l.source);
  going : IsFalse l.reader.over;
  keeps : KeepsScript l.read (rules_at l.reader.place.part);
  count : count_read l.read + post_count l.reader.place.posts ≤ l.reader.place.bytes;
  limit : l.reader.place.bytes ≤ 4294967296;
  later : g.S.Source.faults l.fn.source ≤ g.S.Source.faults l.source;
}

abbrev pub decreases-items : goal.decreases-items
decreases-items g l = 4294967296 - l.reader.place.bytes
