-- The texts of refused steps.
use Rattle.std.specs.Prelude.{ℕ, List, ◌++◌, codes}
use Rattle.path_service.specs.machine.Refusals.{why_text}
use Rattle.turn_model.specs.declared.refusals.StepRefusal.{StepRefusal}
use Rattle.turn_model.specs.declared.refusals.StepRefusal.TheVariants.{NotEnabled, NoMemory}

-- a refused step
abbrev pub refusal_text : StepRefusal → List ℕ
refusal_text (NotEnabled why) = codes "the event is not enabled: " ++ why_text why
refusal_text NoMemory = codes "there is no memory"
