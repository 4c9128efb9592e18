-- Texts that grow at their end.
use Rattle.std.proofs.Common.{◌≡◌, ℕ, ◌++◌, [], List, sym, ◌∙◌, ap, append-nil, append_assoc}
use Rattle.answer_text.specs.Writing.{GrewFrom}

-- a text grew from itself
pub grew_none : (old new : List ℕ) → new ≡ old → GrewFrom old new
grew_none old new same = record { more = []; whole = same ∙ sym (append-nil old) }

-- a text that grew from one with a piece at its end grew from the one before
pub grew_after : (old mid new piece : List ℕ) → mid ≡ old ++ piece → GrewFrom mid new → GrewFrom old new
grew_after old mid new piece wrote grew =
    record { more = piece ++ grew.more; whole = grew.whole ∙ (ap (λ (t : List ℕ). t ++ grew.more) wrote ∙ append_assoc old piece grew.more) }

-- the same, where nothing came after the piece
pub grew_by : (old mid new piece : List ℕ) → mid ≡ old ++ piece → new ≡ mid → GrewFrom old new
grew_by old mid new piece wrote same = record { more = piece; whole = same ∙ wrote }

-- growing twice is growing
pub grew_twice : (old mid new : List ℕ) → GrewFrom old mid → GrewFrom mid new → GrewFrom old new
grew_twice old mid new first second = grew_after old mid new first.more first.whole second

-- how a text grows, for a search
pub ruleset growing = (grew_none, grew_after, grew_by, grew_twice)
