use Rattle.match_laws.proofs.TextsGoOn.{texts_go_on}
use Rattle.match_laws.proofs.texts.further_texts.Goals as goal

pub returns : goal.returns
returns c = texts_go_on
