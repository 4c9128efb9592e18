-- Digests: a number of 64 bits by which two texts can be compared.
use Rattle.std.specs.Prelude.{ℕ, ◌+◌, ◌*◌, ◌%◌, List, ◌∷◌, ◌++◌, [], codes, decimal, fold}
use Rattle.posts.specs.declared.replies.TurnReplies.{TurnReplies}
use Rattle.answer_text.specs.Answers.{line_of, caller_lines}
use Rattle.match_play.specs.declared.digests.TheConstants.{DIGEST_PRIME}

-- the digest of the bytes so far and one more
abbrev pub digest_with : ℕ → ℕ → ℕ
digest_with digest byte = (256 * digest + byte) % DIGEST_PRIME

-- the digest of bytes: the number that they are in base 256, the first being the most significant digit, modulo a prime
abbrev pub digest_of : List ℕ → ℕ
digest_of bytes = fold digest_with 0 bytes

-- the text of a turn from the word behind its number on
abbrev pub numberless_text : TurnReplies → List ℕ
numberless_text told = line_of (codes "regions" ∷ decimal told.tallies.regions ∷ codes "edges" ∷ decimal told.tallies.edges
    ∷ codes "areas" ∷ decimal told.tallies.areas ∷ codes "relabelled" ∷ decimal told.relabelled ∷ []) ++ caller_lines 0 told.replies

-- the digest of a turn
abbrev pub turn_digest : TurnReplies → ℕ
turn_digest told = digest_of (numberless_text told)
