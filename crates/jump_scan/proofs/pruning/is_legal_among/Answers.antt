use Rattle.std.proofs.Common.{◌∙◌, sym}
use Rattle.nav_types.proofs.DirSetLemmas.{legal_of_free}
use Rattle.jump_scan.proofs.pruning.is_legal_among.Goals as goal

pub returns : goal.returns
returns c = λ passes cell here are.
    let legal = legal_of_free passes cell c.args.free c.args.dir here are in
    ((λ held. legal.0 (sym c.has_parts.ensures ∙ held)), (λ step. c.has_parts.ensures ∙ legal.1 step))
