-- The next line of an input whose bytes are pushed, piece by piece.
use Rattle.std.specs.Prelude.{ℕ, ◌≡◌, ◌<◌, ◌≤◌, ◌⊎◌, List, [], ◌++◌, length, Bool, true, false, Option, Some, None, Result, Ok, Err, ⊤}
use Rattle.nav_types.specs.declared.limits.TheConstants.{MAX_LINE_BYTES}
use Rattle.input_lines.specs.declared.faults.LineFault.{LineFault}
use Rattle.input_lines.specs.declared.faults.LineFault.TheVariants.{TooLong, ReadFault, NoMemory}
use Rattle.input_lines.specs.declared.intake.LineEnd.{LineEnd}
use Rattle.input_lines.specs.declared.intake.LineEnd.TheVariants.{Newline}
use Rattle.input_lines.specs.Lines.{IsPlain}
use Rattle.input_lines.specs.Held.{HeldLine, TakesMore, IsWholeLine}

-- how the line ended, once it is whole: of an input that is pushed, each at its newline
abbrev pub newline_if : Bool → Option LineEnd
newline_if true = Some Newline
newline_if false = None

-- what is held of an input that is pushed: nothing stands behind its next line
abbrev pub pushed_line : List ℕ → Bool → HeldLine
pushed_line line is_whole = record { line = line; line_end = newline_if is_whole; rest = record { bytes = []; ended = false } }

-- the line has no newline in it, and is no longer than a line may be
pub record IsPushedLine (line : List ℕ) : Type 0 where
  pub plain : IsPlain line
  pub few : length line ≤ MAX_LINE_BYTES

-- with what these bytes have of it, the line is longer than a line may be, or than the room that the input has left
pub record GrowsPastLimit (h : HeldLine) (room : ℕ) (bytes : List ℕ) : Type 0 where
  pub part : List ℕ
  pub rest : List ℕ
  pub cut : bytes ≡ part ++ rest
  pub plain : IsPlain part
  pub long : (MAX_LINE_BYTES < length (h.line ++ part)) ⊎ (room < length (h.line ++ part))

-- The answer to bytes that are pushed: the next line is whole, or the bytes are used up and end no line, or the line is too
-- long.
abbrev pub PushAnswer : HeldLine → HeldLine → ℕ → Result (Option ℕ) LineFault → List ℕ → List ℕ → Type 0
PushAnswer old new room (Ok (Some size)) before after = TakesMore old new before after × IsWholeLine new size
PushAnswer old new room (Ok None) before after = TakesMore old new before after × ((after ≡ []) × (new.line_end ≡ None))
PushAnswer old new room (Err TooLong) before after = GrowsPastLimit old room before
PushAnswer old new room (Err ReadFault) before after = ⊥
PushAnswer old new room (Err NoMemory) before after = ⊤
