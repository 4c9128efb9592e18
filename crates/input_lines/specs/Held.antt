-- What is held of an input, and how its next line is found.
use Rattle.std.specs.Prelude.{ℕ, ◌≡◌, ◌≢◌, ◌<◌, ◌≤◌, ◌⊎◌, List, [], ◌∷◌, ◌++◌, length, Bool, IsFalse, IsTrue, Option, Some, None, Result, Ok, Err, ⊤}
use Rattle.nav_types.specs.declared.limits.TheConstants.{MAX_LINE_BYTES}
use Rattle.input_lines.specs.declared.faults.LineFault.{LineFault}
use Rattle.input_lines.specs.declared.faults.LineFault.TheVariants.{TooLong, ReadFault, NoMemory}
use Rattle.input_lines.specs.declared.intake.TheConstants.{READ_SIZE}
use Rattle.input_lines.specs.declared.intake.LineEnd.{LineEnd}
use Rattle.input_lines.specs.declared.intake.LineEnd.TheVariants.{Newline, Input}
use Rattle.input_lines.specs.Lines.{IsPlain, full_lines}

-- what is said of the bytes left in a source before and after, where it tells them
abbrev pub WhereTold : Option (List ℕ) → Option (List ℕ) → (List ℕ → List ℕ → Type 0) → Type 0
WhereTold None after Says = ⊤
WhereTold (Some before) None Says = ⊥
WhereTold (Some before) (Some after) Says = Says before after

-- the bytes taken that no line has used yet, and whether the end of the input was met
pub record Taken : Type 0 where
  pub bytes : List ℕ
  pub ended : Bool

-- a whole line is held, with its newline
abbrev pub HasLine : List ℕ → Type 0
HasLine bytes = full_lines bytes ≢ []

-- ---- one read

-- The last read took a piece, at most as much as one read takes: the end of the input was not met before, and what is held
-- with what was taken earlier has no newline.
pub record ReadsForLine (held : List ℕ) (ended : Bool) (before after : List ℕ) : Type 0 where
  pub earlier : List ℕ
  pub piece : List ℕ
  pub took : before ≡ earlier ++ (piece ++ after)
  pub few : length piece ≤ READ_SIZE
  pub going : IsFalse ended
  pub plain : IsPlain (held ++ earlier)

-- nothing is read, or only where no newline is held
abbrev pub ReadsByNeed : List ℕ → Bool → List ℕ → List ℕ → Type 0
ReadsByNeed held ended before after = (before ≡ after) ⊎ ReadsForLine held ended before after

abbrev pub ReadsByNeedTold : List ℕ → Bool → Option (List ℕ) → Option (List ℕ) → Type 0
ReadsByNeedTold held ended left later = WhereTold left later (λ before after. ReadsByNeed held ended before after)

-- bytes were taken behind those held, and none are held only where the input ended
pub record Refills (old new : Taken) (before after : List ℕ) : Type 0 where
  pub taken : List ℕ
  pub took : before ≡ taken ++ after
  pub bytes : new.bytes ≡ old.bytes ++ taken
  pub at_end : new.bytes ≡ [] → after ≡ []

-- a read failed: there was none before that met the end, no byte was held, and none was taken
pub record FailsToRefill (old new : Taken) (before after : List ℕ) : Type 0 where
  pub going : IsFalse old.ended
  pub held : old.bytes ≡ []
  pub still : new.bytes ≡ []
  pub same : before ≡ after

-- what an answer to a read says; a reader that has met the end finds nothing left
abbrev pub RefillAnswer : Taken → Taken → Result ⊤ LineFault → List ℕ → List ℕ → Type 0
RefillAnswer old new (Ok u) before after = (IsTrue old.ended → before ≡ []) → Refills old new before after
RefillAnswer old new (Err ReadFault) before after = FailsToRefill old new before after
RefillAnswer old new (Err NoMemory) before after = ⊥
RefillAnswer old new (Err TooLong) before after = ⊥

-- ---- the next line

-- What is held of an input: the next line, or the beginning of it; how it ended, once it is whole; and what was taken
-- behind it.
pub record HeldLine : Type 0 where
  pub line : List ℕ
  pub line_end : Option LineEnd
  pub rest : Taken

-- the newline of a line that has one
abbrev pub newline_of : Option LineEnd → List ℕ
newline_of None = []
newline_of (Some Newline) = 10 ∷ []
newline_of (Some Input) = []

-- all bytes that are held
abbrev pub bytes_of : HeldLine → List ℕ
bytes_of h = h.line ++ (newline_of h.line_end ++ h.rest.bytes)

-- the line that is held was used, with its newline
abbrev pub after_line : HeldLine → HeldLine
after_line h = record { line = []; line_end = None; rest = h.rest }

-- a line ends at its newline, or with the input
abbrev pub HasEnd : Option LineEnd → Taken → Type 0
HasEnd None rest = ⊥
HasEnd (Some Newline) rest = ⊤
HasEnd (Some Input) rest = (rest.bytes ≡ []) × IsTrue rest.ended

-- the line that is held is whole; it has so many bytes with its newline, where it has one, and it has some
pub record IsWholeLine (h : HeldLine) (size : ℕ) : Type 0 where
  pub ends : HasEnd h.line_end h.rest
  pub counted : size ≡ length (h.line ++ newline_of h.line_end)
  pub some_byte : 1 ≤ size

-- bytes were taken behind those held
pub record TakesMore (old new : HeldLine) (before after : List ℕ) : Type 0 where
  pub taken : List ℕ
  pub took : before ≡ taken ++ after
  pub bytes : bytes_of old ++ taken ≡ bytes_of new

-- a line was found, or there is none; no bytes are left once the end of the input was met
pub record TakesNext (old new : HeldLine) (before after : List ℕ) : Type 0 where
  pub more : TakesMore old new before after
  pub at_end : IsTrue new.rest.ended → after ≡ []

-- the beginning of a line is longer than a line may be, or than the room that the input has left
abbrev pub IsPastLimit : HeldLine → ℕ → Type 0
IsPastLimit h room = (MAX_LINE_BYTES < length h.line) ⊎ (room < length h.line)
