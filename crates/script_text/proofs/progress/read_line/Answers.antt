use Rattle.std.proofs.Common.{◌∙◌, sym}
use Rattle.std.proofs.lemmas.Bool.{false≢true}
use Rattle.serde_json.specs.View.{view}
use Rattle.script_text.proofs.ReadWalk.{reading_of-text, reading_of-none}
use Rattle.script_text.proofs.progress.read_line.Goals as goal

pub returns-in-Ok : goal.returns-in-Ok
returns-in-Ok c = let read = c.in-Ok.ensures.ok in reading_of-text c.args.line.now (view c.in-Ok.value) (sym c.is_shallow.ensures ∙ c.if-not-is_shallow.false) read.0 read.1

pub returns-else-is_memory : goal.returns-else-is_memory
returns-else-is_memory c = reading_of-none c.args.line.now (λ text. c.in-Err.ensures.err (λ memory. false≢true (sym c.if-is_memory.false ∙ c.is_memory.ensures.1 memory)) text)
