use Rattle.std.proofs.Common.{◌≤◌, arith}
use Rattle.script_text.specs.Values.{size_with, is_side}
use Rattle.script_text.proofs.FormValues.{size_by-is, size_by-none}
use Rattle.script_text.proofs.forms.values.size_with.Goals as goal

pub returns-then-w-most : goal.returns-then-w-most
unfolding size_with
returns-then-w-most c =
    let w = c.args.w in let h = c.args.h in let far = c.then-w-most.either in let side = c.from-most.ensures in
    size_by-none w h (is_side w) (is_side h) (λ wide high. let columns : w ≤ 2048 = wide.few in let rows : h ≤ 2048 = high.few in omega (arith, far, side))

pub returns : goal.returns
unfolding size_with
returns c = size_by-is c.args.w c.args.h (is_side c.args.w) (is_side c.args.h) c.new.result c.new.ensures.some c.new.ensures.columns c.new.ensures.rows
