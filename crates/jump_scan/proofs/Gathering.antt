-- Successors by the directions in which the cell beside is passable.
use Rattle.std.proofs.Common.{◌≡◌, ◌↔◌, ◌⊎◌, ◌&&◌, Bool, true, false, not, inl, inr, IsTrue, refl, sym, subst, ◌∙◌}
use Rattle.std.proofs.lemmas.Bool.{both_ways}
use Rattle.nav_types.specs.declared.cells.Cell.{Cell}
use Rattle.nav_types.specs.declared.directions.Dir.{Dir}
use Rattle.nav_types.specs.declared.directions.DirSet.{DirSet}
use Rattle.nav_types.specs.Directions.{is_straight}
use Rattle.nav_types.specs.DirSets.{holds}
use Rattle.nav_types.specs.Beside.{IsFreeBeside, IsLegalFrom}
use Rattle.nav_types.proofs.Walking.{straight_step}
use Rattle.jump_scan.specs.declared.turns.Side.{Side}
use Rattle.jump_scan.specs.Turns.{ahead_to, aside_to}
use Rattle.jump_scan.specs.Successors.{IsForcing, AreFreeBeside}
use Rattle.jump_scan.specs.inner.Turning.{IsLegalTurn}
use Rattle.jump_scan.proofs.Turning.{behind_to, blocked_from_back, back_from_blocked, aside_straight, free_aside, not_true, true_not}

both_true : (a b : Bool) → IsTrue a → IsTrue b → IsTrue (a && b)
both_true true b is also = also
both_true false b is also = absurd (both_ways false refl is)

true_left : (a b : Bool) → IsTrue (a && b) → IsTrue a
true_left true b both = refl
true_left false b both = absurd (both_ways false refl both)

true_right : (a b : Bool) → IsTrue (a && b) → IsTrue b
true_right true b both = both
true_right false b both = absurd (both_ways false refl both)

-- the legal turns to a side, which are added where they are forced
pub turns_added : (passes : Cell → Bool) (cell : Cell) (arrived ahead aside : Dir) (side : Side) (forced legal : Bool) (set turned all : DirSet)
    → is_straight arrived ≡ true → IsTrue (passes cell) → ahead ≡ ahead_to side arrived → aside ≡ aside_to side arrived
    → IsTrue forced ↔ (IsForcing passes cell arrived side × IsFreeBeside passes cell (aside_to side arrived))
    → IsTrue legal ↔ IsLegalFrom passes cell ahead
    → ((dir : Dir) → IsTrue (holds turned dir) ↔ (IsTrue (holds set dir) ⊎ (IsTrue forced × (dir ≡ aside))))
    → ((dir : Dir) → IsTrue (holds all dir) ↔ (IsTrue (holds turned dir) ⊎ (IsTrue (forced && legal) × (dir ≡ ahead))))
    → (dir : Dir) → IsTrue (holds all dir) ↔ (IsTrue (holds set dir) ⊎ IsLegalTurn passes cell arrived side dir)
turns_added passes cell arrived ahead aside side forced legal set turned all straight here at_ahead at_aside is_forced is_legal with_aside with_ahead dir =
    let Legal = λ (way : Dir). IsLegalFrom passes cell way in (
      (λ has. elim ((with_ahead dir).0 has) [
        | inl had ↦ elim ((with_aside dir).0 had) [
          | inl before ↦ inl before
          | inr turn ↦
              let forcing = is_forced.0 turn.0 in
              let same : dir ≡ aside_to side arrived = turn.1 ∙ at_aside in
              inr (
                forcing.0,
                (
                  inr same,
                  subst Legal (sym same) (
                    forcing.1.0,
                    straight_step passes (aside_to side arrived) cell forcing.1.0 (aside_straight side arrived straight) forcing.1.1.0 here forcing.1.1.1,
                  ),
                ),
              )
        ]
        | inr turn ↦
            let forcing = is_forced.0 (true_left forced legal turn.0) in
            inr (forcing.0, (inl (turn.1 ∙ at_ahead), subst Legal (sym turn.1) (is_legal.0 (true_right forced legal turn.0))))
      ]),
      (λ is. elim is [
        | inl before ↦ (with_ahead dir).1 (inl ((with_aside dir).1 (inl before)))
        | inr turn ↦
            let is_so = is_forced.1 (turn.0, free_aside passes cell arrived dir side straight turn.1.0 turn.1.1) in
            elim turn.1.0 [
              | inl same ↦ (with_ahead dir).1 (inr (both_true forced legal is_so (is_legal.1 (subst Legal (same ∙ sym at_ahead) turn.1.1)), same ∙ sym at_ahead))
              | inr same ↦ (with_ahead dir).1 (inl ((with_aside dir).1 (inr (is_so, same ∙ sym at_aside))))
            ]
      ]),
    )

-- whether the steps to a side are forced and one of them is legal, by the cells back to that side and aside
pub forced_by : (passes : Cell → Bool) (cell : Cell) (arrived : Dir) (side : Side) (free : DirSet) (is_behind is_aside : Bool)
    → is_straight arrived ≡ true → AreFreeBeside passes cell free
    → is_behind ≡ holds free (behind_to side arrived) → is_aside ≡ holds free (aside_to side arrived)
    → IsTrue (not is_behind && is_aside) ↔ (IsForcing passes cell arrived side × IsFreeBeside passes cell (aside_to side arrived))
forced_by passes cell arrived side free is_behind is_aside straight are at_behind at_aside = (
  (λ both. (
    (
      straight,
      blocked_from_back passes cell arrived side straight (λ back. not_true is_behind (true_left (not is_behind) is_aside both)
          (at_behind ∙ (are (behind_to side arrived)).1 back)),
    ),
    (are (aside_to side arrived)).0 (sym at_aside ∙ true_right (not is_behind) is_aside both),
  )),
  (λ forced. both_true (not is_behind) is_aside
      (true_not is_behind (λ back. back_from_blocked passes cell arrived side straight forced.0.1 ((are (behind_to side arrived)).0 (sym at_behind ∙ back))))
      (at_aside ∙ (are (aside_to side arrived)).1 forced.1)),
)
