-- A piece that is written in parts.
use Rattle.std.proofs.Common.{◌≡◌, ℕ, ◌-◌, List, [], ◌++◌, length, take, drop, refl, sym, ap, ◌∙◌, subst, Option, Some, None, append_assoc, append-nil, take-append-drop}
use Rattle.std.proofs.lemmas.List.{take_at, take_rest}
use Rattle.std.specs.Io.KnownBytes.{Appends, Keeps}
use Rattle.std.proofs.KnownBytes.{Appends-trans, Appends-nil}

-- what was written of a piece, and what is left of it
pub record HasWritten (kept now : Option (List ℕ)) (piece rest : List ℕ) : Type 0 where
  pub done : List ℕ
  pub parts : piece ≡ done ++ rest
  pub taken : Appends kept now done

pub nothing_written : (kept : Option (List ℕ)) (piece : List ℕ) → HasWritten kept kept piece piece
nothing_written kept piece = record { done = []; parts = refl; taken = Appends-nil kept }

-- one write took the first n bytes of what was left
pub more_written : (kept now next : Option (List ℕ)) (piece rest : List ℕ) (n : ℕ)
    → HasWritten kept now piece rest → Appends now next (take n rest) → HasWritten kept next piece (take (length rest - n) (drop n rest))
more_written kept now next piece rest n w took =
    let done = w.done in
    let left : take (length rest - n) (drop n rest) ≡ drop n rest = take_rest rest n in
    let split : rest ≡ take n rest ++ drop n rest = sym (take-append-drop n rest) in
    let parts : piece ≡ (done ++ take n rest) ++ drop n rest = w.parts ∙ (ap (λ l. done ++ l) split ∙ sym (append_assoc done (take n rest) (drop n rest))) in
    record {
      done = done ++ take n rest;
      parts = parts ∙ ap (λ l. (done ++ take n rest) ++ l) (sym left);
      taken = Appends-trans kept now next done (take n rest) w.taken took;
    }

-- what a sink keeps after bytes that then stay
pub appends_kept : (kept now next : Option (List ℕ)) (done : List ℕ) → Appends kept now done → Keeps now next → Appends kept next done
appends_kept None now next done p q = tt
appends_kept (Some x) None next done p q = absurd p
appends_kept (Some x) (Some y) None done p q = absurd q
appends_kept (Some x) (Some y) (Some z) done p q = q ∙ p

-- what was written is the first bytes of the piece
pub part_written : (kept now : Option (List ℕ)) (piece rest : List ℕ) → HasWritten kept now piece rest → (n : ℕ) × Appends kept now (take n piece)
part_written kept now piece rest w =
    let front : take (length w.done) piece ≡ w.done = ap (take (length w.done)) w.parts ∙ take_at w.done rest (length w.done) refl in
    (length w.done, subst (Appends kept now) (sym front) w.taken)

-- all was written where nothing is left
pub all_written : (kept now : Option (List ℕ)) (piece : List ℕ) → HasWritten kept now piece [] → Appends kept now piece
all_written kept now piece w = subst (Appends kept now) (sym (w.parts ∙ append-nil w.done)) w.taken
