use Rattle.std.proofs.Common.{◌+◌, ℕ, take, refl, sym, subst}
use Rattle.std.specs.Prelude.{⊤}
use Rattle.std.specs.List.{AllZip}
use Rattle.nav_types.specs.declared.cells.Rect.{Rect}
use Rattle.flat_posts.specs.Maps.{IsRectOf}
use Rattle.flat_posts.proofs.ReadLists.{zip_more, zip_none}
use Rattle.flat_posts.proofs.maps.rects_of.Goals as goal

pub returns-in_default-clause-not_map : goal.returns-in_default-clause-not_map
returns-in_default-clause-not_map c = λ _ rects are.
    zip_none IsRectOf (λ (entry : Rect × ℕ). ⊤) c.args.flats.now c.loop-flat.flat-index _ c.loop-flat-test.true (λ entry _. c.in_default.ensures.none refl entry) rects are
    (λ _ _ _. tt)

pub loop-flat-preserved : goal.loop-flat-preserved
loop-flat-preserved c =
    let flats = c.args.flats.now in
    let i = c.loop-flat.flat-index in
    subst (AllZip IsRectOf (take (i + 1) flats)) (sym c.in-Ok.ensures.ok)
    (zip_more IsRectOf flats c.loop-flat.rects i _ c.in-Some.entry c.loop-flat-test.true c.loop-flat.invariant c.in-Some.ensures.rect)
