use Rattle.std.proofs.Common.{◌≡◌, ℕ, Option, Some, None, rules}
use Rattle.std.specs.Prelude.{position, bytes_eq}
use Rattle.class_config.proofs.ClassLists.{none_found}
use Rattle.class_config.proofs.table.ClassTable.find.Goals as goal

pub returns-in-Some-clause-none : goal.returns-in-Some-clause-none
returns-in-Some-clause-none c =
    let place : Some c.in-Some.at ≡ position (λ class. bytes_eq class.name c.args.name.now) c.args.self.now = search rules in
    none_found c.args.name.now c.args.self.now _ place

pub returns-in-None-clause-none : goal.returns-in-None-clause-none
returns-in-None-clause-none c =
    let none : Option ℕ = None in
    let place : none ≡ position (λ class. bytes_eq class.name c.args.name.now) c.args.self.now = search rules in
    none_found c.args.name.now c.args.self.now none place
