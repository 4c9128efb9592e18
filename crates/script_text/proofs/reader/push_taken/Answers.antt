use Rattle.std.proofs.Common.{◌-◌, length, ap, arith}
use Rattle.script_text.proofs.ItemReads.{left_of, push_refused, pushes_on}
use Rattle.script_text.proofs.reader.push_taken.Goals as goal

-- the script goes on
pub returns-in-Ok-clause-pushed : goal.returns-in-Ok-clause-pushed
returns-in-Ok-clause-pushed c =
    let told = c.in-Ok.ensures.told in
    let piece = c.held-bytes.ensures in
    let within = left_of c.args.script.now c.next-answer.new.self c.held-bytes.result.now c.next-answer.new.bytes.now c.in-Ok.next told in
    pushes_on c.args.script.now c.next-answer.new.self c.args.taken.now c.use_first.new.self c.held-bytes.result.now c.next-answer.new.bytes.now (c.len-held.result - length c.next-answer.new.bytes.now) c.in-Ok.next
    c.requires.unmet c.next-answer.ensures.more piece (omega (arith, within, ap length piece, c.len-held.ensures.bytes)) c.use_first.ensures told c.in-Ok.ensures.taken c.in-Ok.ensures.count

-- the script was refused
pub returns-in-Err-clause-pushed : goal.returns-in-Err-clause-pushed
returns-in-Err-clause-pushed c =
    push_refused c.args.script.now c.next-answer.new.self c.args.taken.now c.use_first-in-Err.new.self c.held-bytes.result.now c.next-answer.new.bytes.now c.len-held.result c.in-Err.fault
    c.requires.unmet c.held-bytes.ensures c.len-held.ensures.bytes c.use_first-in-Err.ensures c.in-Err.ensures.told c.in-Err.ensures.bad

-- what is left is no more than was taken
pub overflow_sub-held : goal.overflow_sub-held
overflow_sub-held c =
    let piece = c.held-bytes.ensures in
    let within = left_of c.args.script.now c.next-answer.new.self c.held-bytes.result.now c.next-answer.new.bytes.now c.in-Ok.next c.in-Ok.ensures.told in
    omega (arith, within, ap length piece, c.len-held.ensures.bytes)
