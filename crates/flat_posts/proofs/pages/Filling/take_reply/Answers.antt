use Rattle.std.proofs.Common.{arith}
use Rattle.flat_posts.proofs.Filled.{filling-written}
use Rattle.flat_posts.proofs.pages.Filling.take_reply.Goals as goal

pub returns-then-self-buffer : goal.returns-then-self-buffer
returns-then-self-buffer c = λ first all old filling. filling-written first all old c.args.buffer.now c.args.self.now.ahead c.args.self.now.count c.args.reply (omega (arith, c.if-self-gt0.false)) c.if-self-buffer.true filling
