-- The bytes of a class in flat form: its name and zeros behind it.
use Rattle.std.proofs.Common.{◌≡◌, ℕ, ◌+◌, ◌-◌, List, [], ◌∷◌, ◌++◌, length, replicate, refl, ap, ◌∙◌, ℤ, arith}
use Rattle.std.specs.Prelude.{All}
use Rattle.std.proofs.lemmas.List.Elements.{All-head, All-tail}
use Rattle.class_config.specs.declared.table.PassabilityClass.{PassabilityClass}
use Rattle.class_config.specs.Forms.{padded}
use Rattle.flat_posts.specs.declared.map_parts.FlatClass.{FlatClass}
use Rattle.flat_posts.specs.Maps.{flat_class}

zeros : (bytes : List ℕ) → All (λ byte. byte ≡ 0) bytes → bytes ≡ replicate (length bytes) 0
zeros [] each = refl
zeros (byte ∷ bytes) each =
    ap (λ b. b ∷ bytes) (All-head (λ (b : ℕ). b ≡ 0) byte bytes each) ∙ ap (λ l. 0 ∷ l) (zeros bytes (All-tail (λ (b : ℕ). b ≡ 0) byte bytes each))

-- bytes of a name and zeros behind them are the name in flat form
pub padded-zeros : (bytes name behind : List ℕ) → bytes ≡ name ++ behind → length behind + length name ≡ 64 → All (λ byte. byte ≡ 0) behind → bytes ≡ padded name
padded-zeros bytes name behind is many each =
    let n : length behind ≡ 64 - length name = omega (arith, many) in
    is ∙ ap (λ l. name ++ l) (zeros behind each) ∙ ap (λ k. name ++ replicate k 0) n

pub same_flat_class : (flat : FlatClass) (class : PassabilityClass) → flat.name ≡ padded class.name → flat.name_length ≡ length class.name → flat.clearance ≡ class.clearance
    → flat ≡ flat_class class
same_flat_class flat class name many clearance =
    ap (λ v. record flat { name = v }) name ∙ ap (λ v. record flat { name = padded class.name; name_length = v }) many
    ∙ ap (λ (v : ℤ). record flat { name = padded class.name; name_length = length class.name; clearance = v }) clearance
