use Rattle.match_play.proofs.ScriptsSaid.{has_map, says_match}
use Rattle.match_play.proofs.scripts.read_script.Goals as goal

pub returns : goal.returns
returns c =
    let said = c.in_ok-map.ensures in
    says_match c.args.script.now c.read_all.new.lines c.in_ok-map.field-0 c.in-Some.map said.ok said.keeps c.in-Some.is

pub unreachable-requires : goal.unreachable-requires
unreachable-requires c = has_map c.args.script.now c.in_ok-map.field-0 c.in_ok-map.ensures.ok c.in-None.is
