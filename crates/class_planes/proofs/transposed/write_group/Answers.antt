use Rattle.std.proofs.Common.{ℕ, ◌<◌, ◌+◌, ◌-◌, ◌*◌, ◌/◌, ◌%◌, List, ◌∙◌, arith}
use Rattle.class_planes.specs.inner.Lines.{RowTable}
use Rattle.class_planes.specs.inner.Reading.{IsColumnBit}
use Rattle.class_planes.specs.inner.StopLines.{map_lines}
use Rattle.class_planes.proofs.BitLemmas.{zero_at}
use Rattle.class_planes.proofs.ColumnLemmas.{group_bit, in_group_or_not}
use Rattle.class_planes.proofs.transposed.write_group.Goals as goal

pub read_columns-requires-clause-blank : goal.read_columns-requires-clause-blank
read_columns-requires-clause-blank c j = zero_at 64 j

pub returns-clause-set : goal.returns-clause-set
returns-clause-set c m j low high word =
    let table : RowTable = record { size = c.args.map.now.size; rows = map_lines c.args.map.now.rows.now } in
    let k : ℕ = m - 16 * c.args.half in
    let numbers : List ℕ = c.read_columns.new.numbers in
    let small : k < 16 = omega (arith, low, high, c.requires.span) in
    let read : j % 64 < 64 = omega arith in
    group_bit table c.args.band c.args.half c.args.w m j k numbers c.write_word.new.words (omega (arith, low)) word
    (c.write_word.ensures.set k j (omega (arith, low)) (omega (arith, low, high)) word)
    (c.read_columns.ensures.bits (j % 64) k read small)

pub returns-clause-kept : goal.returns-clause-kept
returns-clause-kept c m j small within was =
    let table : RowTable = record { size = c.args.map.now.size; rows = map_lines c.args.map.now.rows.now } in
    let numbers : List ℕ = c.read_columns.new.numbers in
    in_group_or_not {P = IsColumnBit table c.args.band c.write_word.new.words m j} (16 * c.args.half + c.args.span.from)
    (16 * c.args.half + c.args.span.to) c.args.w m (j / 64)
    (λ low high word.
    let k : ℕ = m - 16 * c.args.half in
    let below : k < 16 = omega (arith, low, high, c.requires.span) in
    let read : j % 64 < 64 = omega arith in
    group_bit table c.args.band c.args.half c.args.w m j k numbers c.write_word.new.words (omega (arith, low)) word
    (c.write_word.ensures.set k j (omega (arith, low)) (omega (arith, low, high)) word)
    (c.read_columns.ensures.bits (j % 64) k read below))
    (λ out. c.write_word.ensures.others m j small within out ∙ was)
