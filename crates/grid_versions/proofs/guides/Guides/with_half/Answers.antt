use Rattle.std.proofs.Common.{◌≡◌, ◌∙◌, ℕ, List, Option, None, set, ap, sym, subst}
use Rattle.landmarks.specs.Landmarks.{Tables}
use Rattle.grid_versions.specs.inner.Guiding.{Guiding, AreAllGuides}
use Rattle.grid_versions.proofs.GuidingLemmas.{others_guide}
use Rattle.grid_versions.proofs.guides.Guides.with_half.Goals as goal

pub returns : goal.returns
returns c =
    let map = c.args.bare.now.map in
    let guide = c.in_ok-guide.guide in
    let before = c.args.self.now.classes in
    let own : c.set.new.self ≡ set before c.args.half.class guide =
    c.in_ok-set.ensures.ok
    ∙ ap (λ (all : List (Option Tables)). set all c.from-place.result guide)
    (c.in_ok-classes.ensures ∙ ap (λ (all : Guiding). all.classes) c.self.view_is)
    ∙ ap (λ (at : ℕ). set before at guide) (c.from-place.ensures ∙ c.number.ensures.value ∙ c.class.ensures) in
    subst (λ (all : List (Option Tables)). AreAllGuides map (record { classes = all; half = None })) (sym own)
    (others_guide map c.args.self.now c.args.half.class guide c.requires.guides c.in_ok-guide.ensures)
