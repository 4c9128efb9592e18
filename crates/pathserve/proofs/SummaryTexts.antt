-- The summary of a match that a number makes, and what a run that makes one has written.
use Rattle.std.proofs.Common.{◌≡◌, ℕ, inl, inr, List, [], take, Option, Some, None, Result, Ok, Err, refl, sym, subst, ap, ◌∙◌}
use Rattle.std.specs.Prelude.{IfOk, IsErrOf}
use Rattle.io_edges.specs.Faults.{Rose}
use Rattle.io_edges.specs.Passing.{HasTaken}
use Rattle.io_edges.specs.declared.edges.WriteRefusal.{WriteRefusal}
use Rattle.io_edges.specs.declared.edges.WriteRefusal.TheVariants as refusal
use Rattle.nav_types.specs.declared.sequences.NoMemory as memory
use Rattle.turn_core.proofs.Threads.{one_answer_list}
use Rattle.answer_text.specs.Summaries.{summary_text}
use Rattle.pathserve.specs.declared.status.Status.TheVariants.{Done}
use Rattle.pathserve.specs.inner.Writing.{WritesText, status_after}
use Rattle.made_match.specs.Making.{made_map, made_journal}
use Rattle.pathserve.specs.Output.{IsSummary, MakesTold, ComesByMaking}
use Rattle.pathserve.proofs.Passes.{piece_taken}

-- a number has one summary
pub one_summary : (seed : ℕ) (a b : List ℕ) → IsSummary seed a → IsSummary seed b → a ≡ b
one_summary seed a b (told, (is, text)) (other, (also, same)) =
    text ∙ ap summary_text (one_answer_list (made_map seed) (made_journal seed) told other is also) ∙ sym same

-- what was written, whole or in part
pub made_told : (seed : ℕ) (kept now : Option (List ℕ)) (text : Result (List ℕ) memory.NoMemory) (result : Result (Unit {0}) WriteRefusal)
    → IfOk text (IsSummary seed) → WritesText kept now text result → MakesTold seed kept now (status_after result Done)
made_told seed None now text result is wrote = tt
made_told seed (Some kept) None (Ok text) (Ok done) is wrote = absurd wrote
made_told seed (Some kept) None (Ok text) (Err refused) is wrote = absurd wrote.1
made_told seed (Some kept) None (Err none) result is wrote = absurd wrote.1
made_told seed (Some kept) (Some now) (Ok text) (Ok done) is wrote = (text, (wrote, is))
made_told seed (Some kept) (Some now) (Ok text) (Err refusal.Failed) is wrote =
    (take wrote.0 text, (wrote.1, inr (text, (is, (wrote.0, refl)))))
made_told seed (Some kept) (Some now) (Ok text) (Err refusal.NoMemory) is wrote =
    (take wrote.0 text, (wrote.1, inr (text, (is, (wrote.0, refl)))))
made_told seed (Some kept) (Some now) (Err none) result is wrote =
    subst (λ (r : Result (Unit {0}) WriteRefusal). MakesTold seed (Some kept) (Some now) (status_after r Done)) (sym wrote.0)
    ([], (wrote.1, inl refl))

pub made_status : (result : Result (Unit {0}) WriteRefusal) (before now : ℕ) → (IsErrOf result refusal.Failed → Rose before now)
    → ComesByMaking before now (status_after result Done)
made_status (Ok done) before now rose = inl refl
made_status (Err refusal.Failed) before now rose = inr (inr (refl, rose refl))
made_status (Err refusal.NoMemory) before now rose = inr (inl refl)

-- a text or a part of it is what the sink took
pub text_taken : (kept now : Option (List ℕ)) (text : Result (List ℕ) memory.NoMemory) (result : Result (Unit {0}) WriteRefusal)
    → WritesText kept now text result → HasTaken kept now
text_taken kept now (Ok text) result wrote = piece_taken kept now text result wrote
text_taken kept now (Err none) result wrote = record { taken = []; behind = wrote.1 }
