use Rattle.std.proofs.Common.{ℕ, ◌≡◌, ◌+◌, ◌-◌, ◌<◌, ◌≤◌, ◌++◌, List, length, length-append, take, drop, get_or, max, min, ap, ◌∙◌, arith}
use Rattle.std.proofs.lemmas.List.{length-drop, length-take-le}
use Rattle.grid_versions.proofs.RowLemmas.{put_inside}
use Rattle.grid_versions.proofs.painted_map.write_part.Goals as goal

pub returns-clause-inside : goal.returns-clause-inside
returns-clause-inside c k small late near =
    let out : List ℕ = c.args.out.now in
    let numbers : List ℕ = c.args.numbers.now in
    let new : List ℕ = c.copy_from_slice.new.self in
    let from : ℕ = c.from-from.result in
    let west : ℕ = c.from-west.result in
    let first : ℕ = c.max-first.result in
    let end : ℕ = c.min-end.result in
    let start : ℕ = first - from in
    let skip : ℕ = first - west in
    let count : ℕ = end - from - start in
    let rest : List ℕ = drop count (drop start out) in
    let from_is : from ≡ c.args.from = c.from-from.ensures in
    let west_is : west ≡ c.args.west = c.from-west.ensures in
    let first_is : first ≡ max from west = c.max-first.ensures in
    let end_is : end ≡ min (from + length out) (west + length numbers) = c.min-end.ensures in
    let here : c.args.from ≤ c.args.west + length numbers = c.requires.here in
    let there : c.args.west ≤ c.args.from + length out = c.requires.there in
    let begins : start ≤ length out = omega (arith, from_is, west_is, first_is, there) in
    let fits : start + count ≤ length out = omega (arith, from_is, west_is, first_is, end_is, here, there) in
    let given : skip + count ≤ length numbers = omega (arith, from_is, west_is, first_is, end_is, here, there) in
    let same : end - west - skip ≡ count = omega (arith, from_is, west_is, first_is, end_is, here, there) in
    let copied : new ≡ take count (drop skip numbers) =
    c.copy_from_slice.ensures.after ∙ ap (λ n. take n (drop skip numbers)) same in
    let many : length new ≡ count =
    ap (λ (xs : List ℕ). length xs) copied ∙ length-take-le count (drop skip numbers) (omega (arith, length-drop skip numbers, given)) in
    let within : k < length out =
    omega (arith, small, length-append (take start out) (new ++ rest), length-append new rest, length-take-le start out begins, many, length-drop count (drop start out), length-drop start out, fits) in
    let place : skip + (k - start) ≡ c.args.from + k - c.args.west = omega (arith, from_is, west_is, first_is, late) in
    ap (λ (xs : List ℕ). get_or (take start out ++ (xs ++ rest)) k 0) copied
    ∙ put_inside out numbers rest start count skip k begins given (omega (arith, from_is, west_is, first_is, late))
    (omega (arith, from_is, west_is, first_is, end_is, late, near, within))
    ∙ ap (λ p. get_or numbers p 0) place
