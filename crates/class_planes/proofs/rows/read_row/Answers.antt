use Rattle.std.proofs.Common.{◌≡◌, ◌<◌, ◌≤◌, ◌+◌, ◌-◌, ◌++◌, ℕ, List, length, length-append, take, drop, get_or, replicate, ap, ◌∙◌, min, arith}
use Rattle.std.proofs.lemmas.List.{get_or-append_right, get_or_append_left, get_or-replicate, length-drop, length-take-le}
use Rattle.nav_types.specs.declared.cells.Size.{Size}
use Rattle.nav_types.specs.Cells.{cell_at}
use Rattle.class_planes.proofs.BitLemmas.{padded_bit, joined_long}
use Rattle.class_planes.proofs.CellLemmas.{east_of}
use Rattle.class_planes.proofs.rows.read_row.Goals as goal

pub returns-clause-bits : goal.returns-clause-bits
returns-clause-bits g c class i known small within =
    let view = c.args.view.now in
    let n : ℕ = c.min-within.result in
    let w : ℕ = (g.V.View.extent view).w in
    let from : ℕ = c.args.from in
    let low : from ≤ w = c.requires.from in
    let size_is : c.size.result.w ≡ w = ap (λ (s : Size). s.w) c.size.ensures in
    let room : n ≡ min (length c.args.row.now) (w - from) = omega (arith, c.min-within.ensures, size_is) in
    let count : ℕ = length c.args.row.now - n in
    let dropped : List ℕ = drop n c.args.row.now in
    let past : List ℕ = take count dropped in
    let after : List ℕ = drop count dropped in
    let filled : c.fill.new.self ≡ replicate (length past) 65535 = c.fill.ensures.after (λ y same. same) in
    let rest : List ℕ = take n c.args.row.now ++ (c.fill.new.self ++ after) in
    let front : length (take n c.args.row.now) ≡ n = length-take-le n c.args.row.now (omega (arith, room)) in
    let left : length dropped ≡ count = length-drop n c.args.row.now in
    let back : length past ≡ count = length-take-le count dropped (omega (arith, left)) in
    let none : length after ≡ 0 = length-drop count dropped ∙ omega (arith, left) in
    let all : length c.fill.new.self ≡ length past = c.fill.ensures.len in
    let whole : length rest ≡ length c.args.row.now =
    omega (arith, length-append (take n c.args.row.now) (c.fill.new.self ++ after), length-append c.fill.new.self after, front, all, back, none, room) in
    let cut : length (take n rest) ≡ n = length-take-le n rest (omega (arith, whole, room)) in
    let long : length c.row_bits.new.out ≡ n = c.row_bits.ensures.long ∙ cut in
    let below : i < length c.args.row.now =
    let inside : i < length rest = joined_long c.row_bits.new.out rest n i long (omega (arith, whole, room)) within in
    omega (arith, whole, inside) in
    padded_bit (g.V.View.passes view class (cell_at (from + i) c.args.j)) c.row_bits.new.out rest n class i small long
    (λ left. c.row_bits.ensures.each class i known (omega (arith, cut, left)))
    (λ past. east_of (g.V.View.extent view) (g.V.View.passes view class) (from + i) c.args.j (g.met.V.View.within view class)
    (omega (arith, room, below, past, low)))
    (λ beyond.
    get_or-append_right (take n c.args.row.now) (c.fill.new.self ++ after) n i 0 front beyond
    ∙ get_or_append_left c.fill.new.self after 0 (i - n) (omega (arith, all, back, below, beyond))
    ∙ ap (λ xs. get_or xs (i - n) 0) filled
    ∙ get_or-replicate (length past) (i - n) 65535 0 (omega (arith, back, below, beyond)))
