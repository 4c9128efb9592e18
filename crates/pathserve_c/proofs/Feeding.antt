-- What is told waits behind what waited, also where some of it was taken; what of a piece was fed; and limits of lines.
use Rattle.std.proofs.Common.{◌≡◌, ◌≤◌, ◌+◌, ◌-◌, ℕ, List, [], ◌∷◌, ◌++◌, length, take, Option, Some, None, IsSome, IsTrue, refl, sym, ap, subst, ◌∙◌, arith}
use Rattle.std.specs.Prelude.{drop, fold}
use Rattle.std.proofs.lemmas.Bool.{false≢true}
use Rattle.std.proofs.lemmas.List.{drop-append-le, length-append, take-append-drop}
use Rattle.std.proofs.lemmas.List.Sums.{fold-append}
use Rattle.match_play.specs.declared.states.MatchState.{MatchState}
use Rattle.pathserve_c.specs.declared.line_limits.LineLimit.{LineLimit}
use Rattle.pathserve_c.specs.LineLimits.{fits_limit, limit_after, limit_with}
use Rattle.pathserve_c.specs.Texts.{TextState}

-- the match, of whose text so much was taken
abbrev pub with_taken : ℕ → MatchState → Option LineLimit → TextState
with_taken taken game limit = record { game = game; waiting = drop taken game.waiting; limit = limit }

pub waits_behind : (taken : ℕ) (old new : MatchState) (text : List ℕ) → taken ≤ length old.waiting
    → new.waiting ≡ old.waiting ++ text → drop taken new.waiting ≡ drop taken old.waiting ++ text
waits_behind taken old new text within waits = ap (drop taken) waits ∙ drop-append-le taken old.waiting text within

-- ---- what of a piece was fed

take_front : (fed left : List ℕ) → take (length fed) (fed ++ left) ≡ fed
take_front [] left = refl
take_front (byte ∷ fed) left = ap (λ (l : List ℕ). byte ∷ l) (take_front fed left)

-- by how many bytes are left
pub fed_of_piece : (piece fed left : List ℕ) → piece ≡ fed ++ left → take (length piece - length left) piece ≡ fed
fed_of_piece piece fed left is =
    let whole : length piece ≡ length fed + length left = ap length is ∙ length-append fed left in
    let count : length piece - length left ≡ length fed = omega (arith, whole) in
    ap (λ (n : ℕ). take n piece) count ∙ (ap (take (length fed)) is ∙ take_front fed left)

-- ---- limits of lines

-- behind too long a line there is no limit
pub stays_past : (bytes : List ℕ) → fold limit_with None bytes ≡ None
stays_past [] = refl
stays_past (byte ∷ bytes) = stays_past bytes

-- too long a line makes all of them too long
pub past_at : (limit : LineLimit) (bytes : List ℕ) (count : ℕ) → limit_after limit (take count bytes) ≡ None → limit_after limit bytes ≡ None
past_at limit bytes count past =
    ap (limit_after limit) (sym (take-append-drop count bytes))
    ∙ (fold-append limit_with (Some limit) (take count bytes) (drop count bytes)
    ∙ (ap (λ (l : Option LineLimit). fold limit_with l (drop count bytes)) past ∙ stays_past (drop count bytes)))

was_within : (limit : Option LineLimit) (bytes : List ℕ) → IsSome (fold limit_with limit bytes) → IsSome limit
was_within None bytes some = absurd (false≢true (subst IsSome (stays_past bytes) some))
was_within (Some limit) bytes some = refl

-- the first of some bytes keep a limit that all of them keep
pub front_fits : (limit : Option LineLimit) (piece fed left : List ℕ) → piece ≡ fed ++ left → IsTrue (fits_limit limit piece) → IsTrue (fits_limit limit fed)
front_fits None piece fed left is fits = refl
front_fits (Some limit) piece fed left is fits =
    was_within (limit_after limit fed) left
    (subst IsSome (ap (limit_after limit) is ∙ fold-append limit_with (Some limit) fed left) fits)
