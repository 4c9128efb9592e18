-- Pieces that are written one behind another.
use Rattle.std.proofs.Common.{◌≡◌, ℕ, ◌+◌, ◌<◌, ◌≤◌, List, [], ◌++◌, length, take, drop, get_or, Option, Result, Ok, Err, sym, ap, ◌∙◌, subst, append_assoc, append-nil, take-append-drop}
use Rattle.std.specs.Prelude.{IfOk}
use Rattle.std.specs.Io.KnownBytes.{Appends}
use Rattle.std.proofs.KnownBytes.{Appends-trans}
use Rattle.std.proofs.lemmas.List.{at_drop_all, drop_more}
use Rattle.io_edges.specs.declared.edges.WriteRefusal.{WriteRefusal}
use Rattle.io_edges.specs.declared.edges.WriteRefusal.TheVariants as refusal
use Rattle.nav_types.specs.declared.sequences.NoMemory as memory
use Rattle.posts.specs.declared.posts.Post.{Post}
use Rattle.posts.specs.declared.replies.TurnReplies.{TurnReplies}
use Rattle.posts.specs.Maps.{Map}
use Rattle.script_text.specs.Canon.{canon_journal}
use Rattle.script_text.specs.ReadsBack.{canon_turns}
use Rattle.answer_text.specs.Answers.{turn_text}
use Rattle.pathserve.specs.Output.{turn_texts}
use Rattle.pathserve.specs.inner.Writing.{WritesPiece, WritesText}
use Rattle.pathserve.proofs.Writes.{HasWritten, part_written, all_written}

-- a part of what was left
written_part : (kept now next : Option (List ℕ)) (piece rest part left : List ℕ) (n : ℕ) → HasWritten kept now piece rest → rest ≡ part ++ left
    → Appends now next (take n part) → HasWritten kept next piece (drop n part ++ left)
written_part kept now next piece rest part left n w parts took =
    let done = w.done in
    let cut : part ++ left ≡ take n part ++ (drop n part ++ left) =
    ap (λ (l : List ℕ). l ++ left) (sym (take-append-drop n part)) ∙ append_assoc (take n part) (drop n part) left in
    record {
      done = done ++ take n part;
      parts = w.parts ∙ (ap (λ (l : List ℕ). done ++ l) (parts ∙ cut) ∙ sym (append_assoc done (take n part) (drop n part ++ left)));
      taken = Appends-trans kept now next done (take n part) w.taken took;
    }

-- a refused write leaves a beginning of the whole piece
pub piece_refused : (kept now next : Option (List ℕ)) (piece rest part left : List ℕ) (refused : WriteRefusal) → HasWritten kept now piece rest
    → rest ≡ part ++ left → WritesPiece now next part (Err refused) → WritesPiece kept next piece (Err refused)
piece_refused kept now next piece rest part left refused w parts (n, took) =
    part_written kept next piece (drop n part ++ left) (written_part kept now next piece rest part left n w parts took)

pub piece_written : (kept now next : Option (List ℕ)) (piece rest part left : List ℕ) → HasWritten kept now piece rest
    → rest ≡ part ++ left → Appends now next part → HasWritten kept next piece left
piece_written kept now next piece rest part left w parts took = record {
  done = w.done ++ part;
  parts = w.parts ∙ (ap (λ (l : List ℕ). w.done ++ l) parts ∙ sym (append_assoc w.done part left));
  taken = Appends-trans kept now next w.done part w.taken took;
}

-- the last part
pub last_written : (kept now next : Option (List ℕ)) (piece part : List ℕ) (result : Result (Unit {0}) WriteRefusal) → HasWritten kept now piece part
    → WritesPiece now next part result → WritesPiece kept next piece result
last_written kept now next piece part (Ok done) w wrote =
    all_written kept next piece (piece_written kept now next piece part part [] w (sym (append-nil part)) wrote)
last_written kept now next piece part (Err refused) w wrote =
    piece_refused kept now next piece part part [] refused w (sym (append-nil part)) wrote

-- ---- texts that there may be no memory for

no_refusal : (done : Unit {0}) (refused : WriteRefusal) → (let result : Result (Unit {0}) WriteRefusal = Ok done in result ≡ Err refused) → ⊥
no_refusal done refused is = cc

pub text_written : (kept now next : Option (List ℕ)) (piece rest part left : List ℕ) (text : Result (List ℕ) memory.NoMemory) (done : Unit {0})
    → HasWritten kept now piece rest → rest ≡ part ++ left → IfOk text (λ t. t ≡ part) → WritesText now next text (Ok done) → HasWritten kept next piece left
text_written kept now next piece rest part left (Ok t) done w parts is wrote =
    piece_written kept now next piece rest part left w parts (subst (Appends now next) is wrote)
text_written kept now next piece rest part left (Err none) done w parts is wrote = absurd (no_refusal done refusal.NoMemory wrote.0)

pub text_refused : (kept now next : Option (List ℕ)) (piece rest part left : List ℕ) (text : Result (List ℕ) memory.NoMemory) (refused : WriteRefusal)
    → HasWritten kept now piece rest → rest ≡ part ++ left → IfOk text (λ t. t ≡ part) → WritesText now next text (Err refused)
    → WritesPiece kept next piece (Err refused)
text_refused kept now next piece rest part left (Ok t) refused w parts is wrote =
    piece_refused kept now next piece rest part left refused w parts
    (subst (λ (l : List ℕ). WritesPiece now next l (Err refused)) is wrote)
text_refused kept now next piece rest part left (Err none) refused w parts is wrote =
    piece_refused kept now next piece rest part left refused w parts (0, wrote.1)

-- nothing is left
pub whole_written : (kept now : Option (List ℕ)) (piece rest : List ℕ) → HasWritten kept now piece rest → rest ≡ [] → Appends kept now piece
whole_written kept now piece rest w none = all_written kept now piece (subst (HasWritten kept now piece) none w)

-- ---- the texts of turns that are left

pub next_text : (all : List TurnReplies) (place number : ℕ) (told : TurnReplies) → place < length all → told ≡ get_or all place told → number ≡ place + 1
    → turn_texts (place + 1) (drop place all) ≡ turn_text number told ++ turn_texts ((place + 1) + 1) (drop (place + 1) all)
next_text all place number told below is count =
    let rest : List ℕ = turn_texts ((place + 1) + 1) (drop (place + 1) all) in
    ap (turn_texts (place + 1)) (drop_more all place told below) ∙ ap (λ (t : TurnReplies). turn_text (place + 1) t ++ rest) (sym is)
    ∙ ap (λ (n : ℕ). turn_text n told ++ rest) (sym count)

pub no_text : (all : List TurnReplies) (place : ℕ) → length all ≤ place → turn_texts (place + 1) (drop place all) ≡ []
no_text all place past = at_drop_all (turn_texts (place + 1)) all place past

pub next_lines : (m : Map) (journal : List (List (List Post))) (place number : ℕ) (turn : List (List Post)) → place < length journal
    → turn ≡ get_or journal place turn → number ≡ place + 1
    → canon_turns m (place + 1) (drop place journal) ≡ canon_journal m number turn ++ canon_turns m ((place + 1) + 1) (drop (place + 1) journal)
next_lines m journal place number turn below is count =
    let rest : List ℕ = canon_turns m ((place + 1) + 1) (drop (place + 1) journal) in
    ap (canon_turns m (place + 1)) (drop_more journal place turn below) ∙ ap (λ (t : List (List Post)). canon_journal m (place + 1) t ++ rest) (sym is)
    ∙ ap (λ (n : ℕ). canon_journal m n turn ++ rest) (sym count)

pub no_lines : (m : Map) (journal : List (List (List Post))) (place : ℕ) → length journal ≤ place → canon_turns m (place + 1) (drop place journal) ≡ []
no_lines m journal place past = at_drop_all (canon_turns m (place + 1)) journal place past
