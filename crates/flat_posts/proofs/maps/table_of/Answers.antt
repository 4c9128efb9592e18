use Rattle.std.proofs.Common.{◌≡◌, List, true, Err, ap, sym, subst, ◌∙◌}
use Rattle.std.proofs.lemmas.Bool.{both_ways}
use Rattle.class_config.specs.Classes.{is_table}
use Rattle.class_config.specs.declared.table.PassabilityClass.{PassabilityClass}
use Rattle.flat_posts.proofs.OneMap.{classes_one}
use Rattle.flat_posts.proofs.maps.table_of.Goals as goal

pub returns-in-Err-NotClasses-clause-not_map : goal.returns-in-Err-NotClasses-clause-not_map
returns-in-Err-NotClasses-clause-not_map c = λ _ classes are table.
    let made = c.in_ok-classes.classes in
    let same : classes ≡ made = classes_one c.args.flats.now classes made are c.in_ok-classes.ensures.classes in
    let refused = c.in-Err-NotClasses.ensures.not_classes.0 (ap Err c.in-Err-NotClasses.field-0-is) in
    both_ways (is_table made) (ap is_table (sym c.as_slice.ensures) ∙ refused) (subst (λ (l : List PassabilityClass). is_table l ≡ true) same table)
