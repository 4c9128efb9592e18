use Rattle.script_text.proofs.causes.CauseDisplay.fmt.Goals as goal

pub returns-in-LaterVersion-clause-writes : goal.returns-in-LaterVersion-clause-writes
returns-in-LaterVersion-clause-writes g c = rw c.in-LaterVersion.is c.write-in-LaterVersion.ensures.writes
