use Rattle.std.proofs.Common.{◌≡◌, ◌+◌, ◌-◌, ◌*◌, ◌/◌, ◌%◌, ◌<◌, ◌≤◌, ℕ, List, length, get_or, sym, ap, ◌∙◌, arith}
use Rattle.std.specs.Int.{bit_at}
use Rattle.std.specs.Vec.{with_items}
use Rattle.std.proofs.lemmas.List.{with_items_is}
use Rattle.nav_types.specs.declared.cells.Size.{Size}
use Rattle.nav_types.specs.Cells.{cell_at}
use Rattle.nav_types.specs.Rows.{bit_of}
use Rattle.lane_rows.specs.Rows.{one_if}
use Rattle.class_planes.proofs.BitLemmas.{line_bits, no_bits}
use Rattle.class_planes.proofs.CellLemmas.{east_of, north_of}
use Rattle.class_planes.proofs.rows.Scratch.read.Goals as goal

pub returns-then-j-size-clause-bits : goal.returns-then-j-size-clause-bits
returns-then-j-size-clause-bits g c i =
    let view = c.args.view.now in
    let line : List ℕ = c.free_words.new.line in
    let row : List ℕ = c.deref.result.now in
    let read : List ℕ = c.read_row.new.row in
    let kept : (with_items c.self.inside.line line).items ≡ line = with_items_is c.self.inside.line line
    (c.free_words.auto.line ∙ c.deref_mut-then-j-size.ensures.len) in
    let whole : (with_items c.self.inside.row read).items ≡ read = with_items_is c.self.inside.row read
    (c.read_row.auto.row ∙ c.deref_mut.ensures.len) in
    let same : row ≡ read = c.deref.ensures.value ∙ whole in
    let size : Size = g.V.View.extent view in
    let w : ℕ = size.w in
    let lines : length line ≡ w / 64 + 1 =
    c.free_words.ensures.stays ∙ ap length c.deref_mut-then-j-size.ensures.value ∙ ap length c.self.view_is ∙
    c.requires.wide in
    let numbers : length row ≡ 64 * (w / 64 + 1) =
    ap length same ∙ c.read_row.ensures.stays ∙ ap length c.deref_mut.ensures.value ∙ c.self.invariant
    ∙ ap (λ (xs : List ℕ). 64 * length xs) c.self.view_is ∙ ap (λ (n : ℕ). 64 * n) c.requires.wide in
    let long : length row ≡ 64 * length line = omega arith in
    let class_is : c.number.result ≡ c.args.class = c.number.ensures.value in
    let small : c.args.class < 16 = omega (arith, c.number.ensures.small) in
    ap (λ xs. bit_at (get_or xs (i / 64) 0) (i % 64)) kept
    ∙ line_bits (λ i. g.V.View.passes view c.args.class (cell_at i c.args.j)) row line c.args.class i long
    (λ below. let read_there : i < length read = omega (arith, ap length same) in
    let begins : 0 + i ≡ i = omega arith in
    ap (λ xs. bit_at (get_or xs i 0) c.args.class) same ∙ c.read_row.ensures.bits c.args.class i c.requires.class small
    read_there
    ∙ ap (λ n. bit_of (g.V.View.passes view c.args.class (cell_at n c.args.j))) begins)
    (λ past. let east : w ≤ i = omega arith in
    east_of size (g.V.View.passes view c.args.class) i c.args.j (g.met.V.View.within view c.args.class) east)
    (λ below. c.free_words.ensures.bits i below ∙ ap (λ (n : ℕ). 1 - bit_at (get_or row i 0) n) class_is)

pub returns-else-j-size-clause-bits : goal.returns-else-j-size-clause-bits
returns-else-j-size-clause-bits g c i =
    let view = c.args.view.now in
    let size : Size = g.V.View.extent view in
    let past : size.h ≤ c.args.j = omega (arith, ap (λ (s : Size). s.h) c.size.ensures) in
    ap (λ (xs : List ℕ). bit_at (get_or xs (i / 64) 0) (i % 64)) (c.fill.ensures.items (λ y same. same))
    ∙ no_bits _ i
    ∙ sym (ap one_if (north_of size (g.V.View.passes view c.args.class) i c.args.j (g.met.V.View.within view c.args.class) past))
