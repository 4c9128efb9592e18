-- What a status says to a person.
use Rattle.std.specs.Prelude.{ℕ, List, codes}
use Rattle.pathserve.specs.declared.status.Status.{Status}
use Rattle.pathserve.specs.declared.status.Status.TheVariants.{Done, Usage, BadLine, ReadFault, WriteFault, NoMemory, TooLong}

-- the text of a status, for the usage that of the words
abbrev pub status_text : Status → List ℕ
status_text Done = codes "the whole input was answered"
status_text Usage = codes "usage: pathserve replay|profile|flow|smooth|serve [--workers N] < SCRIPT > ANSWERS, or pathserve make SEED [--workers N]"
status_text BadLine = codes "a line is bad"
status_text ReadFault = codes "reading the script failed"
status_text WriteFault = codes "writing the answers failed"
status_text NoMemory = codes "there was no memory"
status_text TooLong = codes "a line is longer than 8388608 bytes, or the script longer than 4294967296"
