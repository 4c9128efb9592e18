-- The pieces of canonical lines.
use Rattle.std.specs.Prelude.{ℕ, List, FitsSigned, decimal, ⊤}
use Rattle.std.specs.Int.{w32}
use Rattle.serde_json.specs.Written.{compact_text}
use Rattle.script_text.specs.declared.canon.pieces.Piece.{Piece}
use Rattle.script_text.specs.declared.canon.pieces.Piece.TheVariants.{Bytes, Whole, Decimal}
use Rattle.script_text.specs.Canon.{decimal_json}

-- how a piece is written
abbrev pub piece_text : Piece → List ℕ
piece_text (Bytes bytes) = bytes.now
piece_text (Whole number) = decimal number
piece_text (Decimal raw) = compact_text (decimal_json raw)

-- a fixed-point number of 32 bits
abbrev pub IsPieceValue : Piece → Type 0
IsPieceValue (Bytes bytes) = ⊤
IsPieceValue (Whole number) = ⊤
IsPieceValue (Decimal raw) = FitsSigned w32 raw
