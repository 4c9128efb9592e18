use Rattle.std.proofs.Common.{None, Some, refl}
use Rattle.flat_ways.proofs.steps.step_number.Goals as goal

pub returns-in-Some-next : goal.returns-in-Some-next
returns-in-Some-next c = λ passes hit start is. record {
  far = Some c.in-Some.field-0.0;
  is_far = c.in-Some.ensures.far passes hit start is;
  next = Some c.in-Some-next.dir;
  is_next = c.in-Some-next.ensures passes hit start is;
  told = c.dir_number.ensures;
}

pub returns-in-None-next : goal.returns-in-None-next
returns-in-None-next c = λ passes hit start is. record {
  far = Some c.in-Some.field-0.0;
  is_far = c.in-Some.ensures.far passes hit start is;
  next = None;
  is_next = c.in-None-next.ensures passes hit start is;
  told = refl;
}
