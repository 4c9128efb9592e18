-- Names of classes.
use Rattle.std.proofs.Common.{◌≡◌, ℕ, zero, suc, ◌+◌, ◌<◌, [], ◌∷◌, true, List, refl, ap, arith}
use Rattle.std.proofs.lemmas.Fmt.{decimal_digit}
use Rattle.class_config.specs.Forms.{is_class_name}
use Rattle.made_match.specs.Making.{class_name}

pub one_digit : (class : ℕ) → class < 8 → class_name class ≡ 99 ∷ ((48 + class) ∷ [])
one_digit class below = ap (λ (l : List ℕ). 99 ∷ l) (decimal_digit class (omega arith))

pub is_name : (class : ℕ) → class < 8 → is_class_name (99 ∷ ((48 + class) ∷ [])) ≡ true
is_name zero below = refl
is_name (suc zero) below = refl
is_name (suc (suc zero)) below = refl
is_name (suc (suc (suc zero))) below = refl
is_name (suc (suc (suc (suc zero)))) below = refl
is_name (suc (suc (suc (suc (suc zero))))) below = refl
is_name (suc (suc (suc (suc (suc (suc zero)))))) below = refl
is_name (suc (suc (suc (suc (suc (suc (suc zero))))))) below = refl
is_name (suc (suc (suc (suc (suc (suc (suc (suc n)))))))) below = absurd (omega arith)
