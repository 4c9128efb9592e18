use Rattle.std.proofs.Common.{sym, refl}
use Rattle.serde_json.specs.View.{view}
use Rattle.class_config.proofs.ClassLists.{no_classes-array, table_of-array}
use Rattle.class_config.proofs.table.ClassTable.read.Goals as goal

pub returns-in_default-gathered-clause-not_classes : goal.returns-in_default-gathered-clause-not_classes
returns-in_default-gathered-clause-not_classes c =
    (λ _. no_classes-array (view c.args.value.now) c.in-Some.items.now c.in-Some.ensures (sym c.in_default-gathered.ensures.some), λ _. refl)

pub returns-clause-classes : goal.returns-clause-classes
returns-clause-classes c =
    (table_of-array (view c.args.value.now) c.in-Some.items.now _ c.new.result c.in-Some.ensures (sym c.in-Some-gathered.ensures.some)
    c.in-Some-gathered.ensures.front c.new.ensures.classes c.new.ensures.not_classes).0

pub returns-clause-not_classes : goal.returns-clause-not_classes
returns-clause-not_classes c =
    (table_of-array (view c.args.value.now) c.in-Some.items.now _ c.new.result c.in-Some.ensures (sym c.in-Some-gathered.ensures.some)
    c.in-Some-gathered.ensures.front c.new.ensures.classes c.new.ensures.not_classes).1
