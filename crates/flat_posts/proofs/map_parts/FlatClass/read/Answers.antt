use Rattle.std.proofs.Common.{◌≡◌, ◌∙◌, ap, sym, arith, length}
use Rattle.class_config.specs.Forms.{padded}
use Rattle.class_config.specs.declared.table.PassabilityClass.{PassabilityClass}
use Rattle.flat_posts.proofs.ClassBytes.{padded-zeros, same_flat_class}
use Rattle.flat_posts.proofs.map_parts.FlatClass.read.Goals as goal

pub returns-clause-class : goal.returns-clause-class
returns-clause-class c =
    let class : PassabilityClass = record { name = c.in_ok-name.name; clearance = c.clearance.result } in
    let front = c.split_at.result.0.now in
    let behind = c.split_at.result.1.now in
    let same : class.name ≡ front = c.in_ok-name.ensures.bytes in
    let name : c.args.self.now.name ≡ padded front =
    let many = c.split_at.ensures.front_len in let rest = c.split_at.ensures.back_len in
    padded-zeros c.args.self.now.name front behind c.split_at.ensures.by_index.0 (omega (arith, many, rest)) (c.are_zeros.ensures.0 c.if-not-are_zeros.false) in
    same_flat_class c.args.self.now class (name ∙ ap padded (sym same)) (sym c.split_at.ensures.front_len ∙ ap length (sym same)) (sym c.clearance.ensures)
