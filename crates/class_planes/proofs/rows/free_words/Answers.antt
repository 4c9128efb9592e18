use Rattle.std.proofs.Common.{length}
use Rattle.class_planes.proofs.BitLemmas.{words_bit}
use Rattle.class_planes.proofs.rows.free_words.Goals as goal

pub returns-clause-bits : goal.returns-clause-bits
returns-clause-bits c i within =
    words_bit c.args.row.now c.plane_words.new.out c.turn_words.new.words c.args.class (length c.args.line.now) i
    c.requires.words within
    c.plane_words.auto.out c.plane_words.ensures c.turn_words.ensures
