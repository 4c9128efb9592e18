use Rattle.jump_scan.specs.Stops.{HaltsStraight, HaltsDiagonal}
use Rattle.jump_scan.proofs.Running.{one_stop_only}
use Rattle.jump_scan.proofs.laws.one_stop.Goals as goal

pub returns : goal.returns
returns c = record {
  straight = λ passes hit dir from first second one two. one_stop_only passes (HaltsStraight passes hit dir) dir from first second one two;
  diagonal = λ passes hit dir from first second one two. one_stop_only passes (HaltsDiagonal passes hit dir) dir from first second one two;
}
