-- The digest of one byte more, and the text of a turn behind its number.
use Rattle.std.proofs.Common.{◌≡◌, ℕ, ◌+◌, ◌*◌, ◌-◌, ◌%◌, ◌<◌, ◌≤◌, List, [], ◌∷◌, ◌++◌, length, take, drop, codes, decimal, sym, ap, ◌∙◌, arith}
use Rattle.std.proofs.lemmas.Fmt.{decimal_digit}
use Rattle.std.proofs.lemmas.List.{take_all}
use Rattle.std.proofs.lemmas.Nat.{mod-mul-add}
use Rattle.posts.specs.declared.replies.TurnReplies.{TurnReplies}
use Rattle.answer_text.specs.Answers.{caller_lines, line_of, turn_line, turn_text}
use Rattle.match_play.specs.Digests.{digest_with, numberless_text}

-- a number that is this much above a multiple of the prime
pub over_prime : (digest byte times left : ℕ) → left < 18446744073709551557 → 256 * digest + byte ≡ times * 18446744073709551557 + left
    → left ≡ digest_with digest byte
over_prime digest byte times left below is =
    sym (ap (λ (n : ℕ). n % 18446744073709551557) is ∙ mod-mul-add times 18446744073709551557 left below)

-- the text of a turn of the number 0: `turn 0 `, and what stands behind that
pub numbered : (told : TurnReplies) → turn_text 0 told ≡ 116 ∷ 117 ∷ 114 ∷ 110 ∷ 32 ∷ 48 ∷ 32 ∷ numberless_text told
unfolding turn_line
numbered told =
    ap (λ (number : List ℕ). line_of (codes "turn" ∷ number ∷ codes "regions" ∷ decimal told.tallies.regions
    ∷ codes "edges" ∷ decimal told.tallies.edges ∷ codes "areas" ∷ decimal told.tallies.areas ∷ codes "relabelled" ∷ decimal told.relabelled ∷ [])
    ++ caller_lines 0 told.replies) (decimal_digit 0 (omega arith))

-- what stands behind that
pub behind_number : (told : TurnReplies) (text : List ℕ) → text ≡ turn_text 0 told
    → (7 ≤ length text) × (take (length text - 7) (drop 7 text) ≡ numberless_text told)
behind_number told text is =
    let whole = is ∙ numbered told in
    let size : length text ≡ 7 + length (numberless_text told) = ap length whole ∙ omega arith in (
      omega (arith, size),
      ap (λ (t : List ℕ). take (length t - 7) (drop 7 t)) whole ∙ take_all _ (numberless_text told) (omega arith),
    )
