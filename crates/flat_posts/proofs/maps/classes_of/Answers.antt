use Rattle.std.proofs.Common.{◌+◌, take, refl, sym, subst}
use Rattle.std.specs.Prelude.{IsTrue}
use Rattle.std.specs.List.{AllZip}
use Rattle.class_config.specs.Forms.{is_class_name}
use Rattle.class_config.specs.declared.table.PassabilityClass.{PassabilityClass}
use Rattle.flat_posts.specs.Maps.{IsClassOf}
use Rattle.flat_posts.proofs.OneMap.{names_in}
use Rattle.flat_posts.proofs.ReadLists.{zip_more, zip_none}
use Rattle.flat_posts.proofs.maps.classes_of.Goals as goal

pub returns-in_default-clause-not_map : goal.returns-in_default-clause-not_map
returns-in_default-clause-not_map c = λ _ classes are table.
    zip_none IsClassOf (λ (class : PassabilityClass). IsTrue (is_class_name class.name)) c.args.flats.now c.loop-flat.flat-index _ c.loop-flat-test.true
    (c.in_default.ensures.none refl) classes are (names_in classes table)

pub loop-flat-preserved : goal.loop-flat-preserved
loop-flat-preserved c =
    let flats = c.args.flats.now in
    let i = c.loop-flat.flat-index in
    subst (AllZip IsClassOf (take (i + 1) flats)) (sym c.in-Ok.ensures.ok)
    (zip_more IsClassOf flats c.loop-flat.classes i _ c.in-Some.class c.loop-flat-test.true c.loop-flat.invariant c.in-Some.ensures.class)
