use Rattle.std.proofs.Common.{ℕ, List, ◌≡◌, ◌++◌, take, drop, ap, ap₂, ◌∙◌, append_assoc}
use Rattle.std.proofs.lemmas.List.{take-append-drop}
use Rattle.navcell_grid.proofs.grids.copied.Goals as goal

-- one piece more is copied
piece_more : (copy rest all piece others now : List ℕ) (n : ℕ) → piece ≡ take n rest → others ≡ drop n rest
    → now ≡ copy ++ piece → copy ++ rest ≡ all → now ++ others ≡ all
piece_more copy rest all piece others now n front back appended so_far =
    ap₂ (λ (xs ys : List ℕ). xs ++ ys) appended back
    ∙ append_assoc copy piece (drop n rest)
    ∙ ap (λ (xs : List ℕ). copy ++ (xs ++ drop n rest)) front
    ∙ ap (λ (xs : List ℕ). copy ++ xs) (take-append-drop n rest)
    ∙ so_far

pub loop-rest-preserved : goal.loop-rest-preserved
loop-rest-preserved c =
    piece_more c.loop-rest.copy.items c.loop-rest.rest.now c.args.numbers.now c.split_at.result.0.now c.split_at.result.1.now
    c.extend_from_slice.new.self.items c.min.result c.split_at.ensures.front c.split_at.ensures.back
    c.in_ok-extend_from_slice.ensures.items c.loop-rest.invariant
