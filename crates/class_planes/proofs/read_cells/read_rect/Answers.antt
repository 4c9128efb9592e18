use Rattle.class_planes.proofs.ReadLemmas.{cells_met}
use Rattle.class_planes.proofs.read_cells.read_rect.Goals as goal

pub returns-clause-covered : goal.returns-clause-covered
returns-clause-covered g c cell inside =
    let words = c.whole_words-words.ensures in
    cells_met c.args.rect c.whole_words-words.result cell words.first words.last words.low words.high inside
