use Rattle.std.proofs.Common.{◌∙◌}
use Rattle.script_text.proofs.BrokenLines.{broken-text, deep-text, no-text}
use Rattle.script_text.proofs.causes.text_cause.Goals as goal

pub returns-then-is_shallow : goal.returns-then-is_shallow
returns-then-is_shallow c = c.broken_cause.ensures ∙ broken-text c.args.line.now c.is_shallow.result c.in-Ok.ensures.cases.1 c.is_shallow.ensures c.if-is_shallow.true

pub returns-else-is_shallow : goal.returns-else-is_shallow
returns-else-is_shallow c = deep-text c.args.line.now c.is_shallow.result c.in-Ok.ensures.cases.1 c.is_shallow.ensures c.if-is_shallow.false

pub returns-in-Err : goal.returns-in-Err
returns-in-Err c = no-text c.args.line.now c.valid_up_to.result c.in-Err.ensures.cases.0 (c.valid_up_to.ensures ∙ c.in-Err.ensures.valid_len)
