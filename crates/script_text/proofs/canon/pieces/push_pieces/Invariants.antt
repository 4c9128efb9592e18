-- The text so far, and that of the pieces that are left, are the text of all pieces after what stood before.
use Rattle.std.proofs.Common.{◌≡◌, ◌++◌, drop}
use Rattle.std.specs.Prelude.{flat_map}
use Rattle.std.specs.List.{AllWithin}
use Rattle.script_text.specs.inner.Pieces.{IsPieceValue, piece_text}
use Rattle.script_text.proofs.canon.pieces.push_pieces.Given as goal

abbrev pub invariant-loop-piece : goal.invariant-loop-piece
invariant-loop-piece l = (l.text ++ flat_map piece_text (drop l.piece-index l.pieces) ≡ l.fn.text ++ flat_map piece_text l.fn.pieces) × AllWithin IsPieceValue l.pieces 0 l.piece-index
