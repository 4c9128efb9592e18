use Rattle.std.proofs.Common.{◌≡◌, ◌≤◌, ◌+◌, ◌-◌, ◌*◌, ◌/◌, ◌%◌, ℕ, List, length, get_or, sym, ap, ap₂, ◌∙◌, arith}
use Rattle.std.specs.Int.{bit_at}
use Rattle.class_planes.proofs.LineLemmas.{part_long}
use Rattle.class_planes.proofs.TurnLemmas.{put_is, patched_here, patched_elsewhere}
use Rattle.class_planes.proofs.updates.write_words.Goals as goal

pub returns-clause-set : goal.returns-clause-set
returns-clause-set c w k below small =
    let band : List ℕ = c.args.band.now in
    let numbers : List ℕ = c.args.numbers.now in
    let start : ℕ = c.args.start in
    let count : ℕ = length numbers / 64 in
    let out : List ℕ = c.free_words.new.line in
    let fits : start + count ≤ length band = c.requires.within in
    let long : length out ≡ count = c.free_words.ensures.stays ∙ part_long band start (start + count) count (omega arith) fits in
    let here : start + w - start ≡ w = omega arith in
    let word : (64 * w + k) / 64 ≡ w = omega (arith, small) in
    let place : (64 * w + k) % 64 ≡ k = omega (arith, small) in
    ap (λ (xs : List ℕ). bit_at (get_or xs (start + w) 0) k) (put_is band out start count long)
    ∙ ap (λ n. bit_at n k) (patched_here band out start (start + w) (omega (arith, long, fits)) (omega arith)
    (omega (arith, long, below)))
    ∙ ap₂ (λ p b. bit_at (get_or out p 0) b) (here ∙ sym word) (sym place)
    ∙ c.free_words.ensures.bits (64 * w + k) (omega (arith, below, small, c.requires.whole))

pub returns-clause-others : goal.returns-clause-others
returns-clause-others c w out_of =
    let band : List ℕ = c.args.band.now in
    let numbers : List ℕ = c.args.numbers.now in
    let start : ℕ = c.args.start in
    let count : ℕ = length numbers / 64 in
    let out : List ℕ = c.free_words.new.line in
    let fits : start + count ≤ length band = c.requires.within in
    let long : length out ≡ count = c.free_words.ensures.stays ∙ part_long band start (start + count) count (omega arith) fits in
    ap (λ (xs : List ℕ). get_or xs w 0) (put_is band out start count long)
    ∙ patched_elsewhere band out start w (omega (arith, long, fits)) (λ low high. out_of low (omega (arith, high, long)))
