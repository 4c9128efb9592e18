-- The canonical script of a served journal reads back, so it is one, and replaying it gives the answers.
use Rattle.std.proofs.Common.{◌≡◌, ℕ, List, ◌++◌, None, Some, sym, ap, subst, ◌∙◌, append-nil}
use Rattle.posts.specs.declared.notes.Report.TheVariants.{Answers}
use Rattle.posts.specs.declared.posts.Post.{Post}
use Rattle.posts.specs.Maps.{Map}
use Rattle.turn_core.specs.Turns.{IsOneThread}
use Rattle.script_text.specs.Script.{beginning, Item, Walk, map_after, turns_of, reading}
use Rattle.script_text.specs.ReadsBack.{IsWithinLimits, ReadsAs}
use Rattle.script_text.proofs.BackScript.{script-reads}
use Rattle.match_play.specs.Texts.{IsOut, ends_text}
use Rattle.pathserve.specs.Output.{turn_texts}
use Rattle.pathserve.specs.Serving.{IsServed}
use Rattle.pathserve.proofs.OneThread.{one_thread_gives}
use Rattle.match_laws.specs.ToldJournals.{script_lines}
use Rattle.match_laws.proofs.ServedJournals.{map_served, turns_served, journal_told}

-- the script in the output reads as the map and the journal
reads_served : (bytes out : List ℕ) (served : IsServed bytes out) → IsWithinLimits (script_lines out) → ReadsAs served.map served.journal (script_lines out)
reads_served bytes out served limits =
    let same = journal_told bytes out served in
    subst (λ (text : List ℕ). ReadsAs served.map served.journal text) (sym same)
    (script-reads served.map served.journal (map_served bytes out served) (turns_served bytes out served) (subst IsWithinLimits same limits))

-- a text reads as one map and one list of turns
one_reading : (m n : Map) (a b : List (List (List Post))) (text : List ℕ) → ReadsAs m a text → ReadsAs n b text → (m ≡ n) × (a ≡ b)
one_reading m n a b text first second =
    let same : first.items ≡ second.items = ap (λ (w : Walk). w.items) (sym first.whole ∙ second.whole) in
    let maps : Some m ≡ Some n = sym first.says_map ∙ ap (λ (items : List Item). map_after None items) same ∙ second.says_map in
    (cc, sym first.says_turns ∙ ap turns_of same ∙ second.says_turns)

pub one_served : (a b out : List ℕ) (first : IsServed a out) (second : IsServed b out) → IsWithinLimits (script_lines out)
    → (first.map ≡ second.map) × (first.journal ≡ second.journal)
one_served a b out first second limits =
    one_reading first.map second.map first.journal second.journal (script_lines out) (reads_served a out first limits) (reads_served b out second limits)

pub replayed : (bytes out : List ℕ) (served : IsServed bytes out) → IsWithinLimits (script_lines out)
    → IsOut Answers (script_lines out) (turn_texts 1 served.told)
replayed bytes out served limits =
    let text : List ℕ = script_lines out in
    let reads = reads_served bytes out served limits in
    let items : (reading text beginning).items ≡ reads.items = ap (λ (w : Walk). w.items) reads.whole in
    let on_map : map_after None (reading text beginning).items ≡ Some served.map = ap (λ (all : List Item). map_after None all) items ∙ reads.says_map in
    let turns : turns_of (reading text beginning).items ≡ served.journal = ap turns_of items ∙ reads.says_turns in
    let thread = subst (λ (journal : List (List (List Post))). IsOneThread served.map journal served.told) (sym turns) served.one_thread in
    let answers : List ℕ = turn_texts 1 served.told in
    (answers, (one_thread_gives text served.map served.told on_map thread, sym (append-nil answers) ∙ ap (λ (w : Walk). answers ++ ends_text w.ends) (sym reads.whole)))
