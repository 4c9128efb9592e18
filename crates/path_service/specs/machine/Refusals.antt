-- The texts of why an event is not enabled.
use Rattle.std.specs.Prelude.{ℕ, List, ◌++◌, codes, decimal}
use Rattle.path_service.specs.declared.events.Why.{Why}
use Rattle.path_service.specs.declared.events.Why.TheVariants.{Callers, Staged, Posted, NoneStaged, Running, NoneRunning, AllClaimed, Claimed, Answered, Unclaimed, Unanswered, Collected}

-- why an event is not enabled
abbrev pub why_text : Why → List ℕ
why_text (Callers count) = codes "there are " ++ decimal count ++ codes " callers"
why_text (Staged turn) = codes "turn " ++ decimal turn ++ codes " is staged"
why_text (Posted caller count) = codes "caller " ++ (decimal caller ++ (codes " has " ++ (decimal count ++ codes " posts left")))
why_text (NoneStaged last) = codes "no turn is staged after turn " ++ decimal last
why_text (Running turn) = codes "turn " ++ decimal turn ++ codes " runs"
why_text (NoneRunning last) = codes "no turn runs after turn " ++ decimal last
why_text (AllClaimed count) = codes "all " ++ decimal count ++ codes " jobs are claimed"
why_text (Claimed count) = decimal count ++ codes " jobs are claimed"
why_text (Answered job) = codes "job " ++ decimal job ++ codes " is answered"
why_text (Unclaimed count) = codes "only " ++ decimal count ++ codes " jobs are claimed"
why_text (Unanswered job) = codes "job " ++ decimal job ++ codes " is not answered"
why_text (Collected count) = codes "all " ++ decimal count ++ codes " replies are collected"
