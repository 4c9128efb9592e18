-- Each read is made where no newline is held.
use Rattle.std.proofs.Common.{◌≡◌, ◌≢◌, ℕ, List, [], length, take, Bool, Option, Some, None, IsFalse, refl, sym, subst, inl, inr, ◌∙◌, arith, length-take}
use Rattle.std.specs.Io.KnownBytes.{Consumes, Keeps}
use Rattle.std.proofs.lemmas.List.{append-nil}
use Rattle.std.proofs.lemmas.List.Elements.{All-nil}
use Rattle.input_lines.specs.Lines.{IsPlain}
use Rattle.input_lines.specs.Held.{ReadsByNeed, ReadsByNeedTold}
use Rattle.input_lines.proofs.ToldLines.{told-same}

pub reads-none : (held : List ℕ) (ended : Bool) (left : Option (List ℕ)) → ReadsByNeedTold held ended left left
reads-none held ended left = told-same left (ReadsByNeed held ended) (λ x. inl refl)

pub reads-kept : (held : List ℕ) (ended : Bool) (a b : Option (List ℕ)) → Keeps a b → ReadsByNeedTold held ended a b
reads-kept held ended None b k = tt
reads-kept held ended (Some x) None k = absurd k
reads-kept held ended (Some x) (Some y) k = inl (sym k)

pub reads-piece : (held : List ℕ) (ended : Bool) (a b : Option (List ℕ)) (count : ℕ) (buffer : List ℕ) → IsFalse ended → held ≡ [] → length buffer ≡ 65536 → Consumes a b (take count buffer)
    → ReadsByNeedTold held ended a b
reads-piece held ended None b count buffer going none size c = tt
reads-piece held ended (Some x) None count buffer going none size c = absurd c
reads-piece held ended (Some x) (Some y) count buffer going none size c =
    let P : List ℕ → Type 0 = IsPlain in
    inr (record {
      earlier = [];
      piece = take count buffer;
      took = c;
      few = omega (arith, length-take count buffer);
      going = going;
      plain = subst P (sym (append-nil held ∙ none)) (All-nil (λ byte. byte ≢ 10));
    })
