-- The counts so far are those of the bytes so far.
use Rattle.std.proofs.Common.{◌≡◌, ◌≤◌, ◌==◌, take}
use Rattle.std.specs.List.{count_by}
use Rattle.script_text.specs.Nesting as nest
use Rattle.script_text.proofs.nesting.counts_of.Given as goal

abbrev pub invariant-loop-byte : goal.invariant-loop-byte
invariant-loop-byte l = record {
  opened : l.opened ≡ count_by nest.opens (take l.byte-index l.block);
  closed : l.closed ≡ count_by nest.closes (take l.byte-index l.block);
  quotes : l.quotes ≡ count_by (λ byte. byte == 34) (take l.byte-index l.block);
  backslashes : l.backslashes ≡ count_by (λ byte. byte == 92) (take l.byte-index l.block);
  few_opened : l.opened ≤ l.byte-index;
  few_closed : l.closed ≤ l.byte-index;
  few_quotes : l.quotes ≤ l.byte-index;
  few_backslashes : l.backslashes ≤ l.byte-index;
}
