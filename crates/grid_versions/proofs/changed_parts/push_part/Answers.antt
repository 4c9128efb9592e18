use Rattle.std.proofs.Common.{ℕ, List, inl, inr, sym, subst}
use Rattle.std.specs.Prelude.{All, IsTrue, IsFalse}
use Rattle.std.proofs.lemmas.Bool.{cases_Bool}
use Rattle.std.proofs.lemmas.List.Elements.{All-push}
use Rattle.nav_types.specs.Cells.{IsInRect, IsRectInside}
use Rattle.nav_types.specs.Numbering.{number_of}
use Rattle.nav_types.proofs.Items.{all_front, all_last}
use Rattle.lane_rows.specs.Rows.{has_class}
use Rattle.class_planes.specs.declared.changed_parts.ChangedPart.{ChangedPart}
use Rattle.class_planes.specs.Planes.{IsKept}
use Rattle.grid_versions.proofs.PlanePartLemmas.{no_class, one_number, part_in_map}
use Rattle.grid_versions.proofs.changed_parts.push_part.Goals as goal

pub returns-then-classes-eq0-clause-held : goal.returns-then-classes-eq0-clause-held
returns-then-classes-eq0-clause-held c = λ class cell kept reached.
    inl (subst (λ (n : ℕ). IsFalse (has_class class n)) (sym c.if-classes-eq0.true) (no_class class))

pub returns-in_default-clause-held : goal.returns-in_default-clause-held
returns-in_default-clause-held c = λ class cell kept reached.
    inr (one_number (number_of c.args.before.now cell) (number_of c.args.after.now cell)
    (c.in_default.ensures.held cell reached))

pub returns-clause-inside : goal.returns-clause-inside
returns-clause-inside c = λ size within all.
    let part : ChangedPart = record { rect = c.in-Some.rect; classes = c.args.classes } in
    let Lies = λ (part : ChangedPart). IsRectInside size part.rect in
    subst (λ (parts : List ChangedPart). All Lies parts) (sym c.in_ok-push.ensures.items)
    (All-push Lies c.args.parts.now.items part all
    (part_in_map size c.args.before.now.rect c.in-Some.rect c.in-Some.ensures.part within))

pub returns-clause-before : goal.returns-clause-before
returns-clause-before c = λ class cell kept.
    let part : ChangedPart = record { rect = c.in-Some.rect; classes = c.args.classes } in
    all_front (λ (part : ChangedPart). IsTrue (has_class class part.classes) → IsInRect part.rect cell → ⊥)
    c.args.parts.now.items part (subst (λ (parts : List ChangedPart). IsKept parts class cell) c.in_ok-push.ensures.items kept)

pub returns-clause-held : goal.returns-clause-held
returns-clause-held c = λ class cell kept reached.
    let part : ChangedPart = record { rect = c.in-Some.rect; classes = c.args.classes } in
    let out = all_last (λ (part : ChangedPart). IsTrue (has_class class part.classes) → IsInRect part.rect cell → ⊥)
    c.args.parts.now.items part (subst (λ (parts : List ChangedPart). IsKept parts class cell) c.in_ok-push.ensures.items kept) in
    elim (cases_Bool (has_class class c.args.classes)) [
      | inl set ↦ inr (one_number (number_of c.args.before.now cell) (number_of c.args.after.now cell)
          (λ apart. out set (c.in-Some.ensures.held cell reached apart)))
      | inr clear ↦ inl clear
    ]
