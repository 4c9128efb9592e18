use Rattle.std.proofs.Common.{sym, arith}
use Rattle.script_text.proofs.BlockLooks.{turned_odd, turned_even}
use Rattle.script_text.proofs.nesting.turned.Goals as goal

pub returns-then-quotes-eq1 : goal.returns-then-quotes-eq1
returns-then-quotes-eq1 c = sym (turned_odd c.args.quotes c.args.in_string (omega arith))

pub returns : goal.returns
returns c = sym (turned_even c.args.quotes c.args.in_string (λ odd. omega (arith, odd)))
