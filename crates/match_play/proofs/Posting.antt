-- One turn more of a match whose turns are posts.
use Rattle.std.proofs.Common.{◌≡◌, ℕ, ◌+◌, ◌<◌, List, [], ◌∷◌, ◌++◌, All, length, take, get_or, Some, refl, sym, ap, subst, ◌∙◌, append_assoc, append-nil, arith}
use Rattle.std.proofs.lemmas.List.{take_more, length-take-le}
use Rattle.std.proofs.lemmas.List.Elements.{All-nil, All-cons, All-append}
use Rattle.posts.specs.declared.posts.Post.{Post}
use Rattle.posts.specs.Maps.{Map}
use Rattle.script_text.specs.Canon.{HaveLines, canon_journal}
use Rattle.script_text.specs.ReadsBack.{canon_turns}
use Rattle.turn_core.specs.Turns.{after_turn, standing}
use Rattle.turn_core.specs.Words.{Standing, bare}
use Rattle.match_play.specs.declared.posted.EndedTurns.{EndedTurns}
use Rattle.match_play.specs.declared.posted.EndedTurns.TheVariants as ended
use Rattle.match_play.specs.Posted.{counted}
use Rattle.match_play.specs.inner.Kept.{HoldsTurns, one_more}
use Rattle.grid_versions.specs.Versions.{MapState}
use Rattle.turn_core.proofs.Threads.{standing_more}

one_turn_more : (m : Map) (s : Standing) (journal : List (List (List Post))) (posts item : List (List Post)) (now : Map) (stands : Standing)
    (pushed : List (List (List Post))) → s ≡ standing m bare journal → All (HaveLines m.version) journal → HaveLines m.version posts
    → All (λ turn. length turn ≡ m.callers) journal → length posts ≡ m.callers
    → now ≡ m → stands ≡ after_turn m s posts → item ≡ posts → pushed ≡ journal ++ item ∷ []
    → (stands ≡ standing now bare pushed) × All (HaveLines now.version) pushed × All (λ turn. length turn ≡ now.callers) pushed
one_turn_more m s journal posts item now stands pushed before lines line lists list on after last push =
    let Lists : Map → List (List Post) → Type 0 = λ x t. length t ≡ x.callers in
    let all : pushed ≡ journal ++ posts ∷ [] = push ∙ ap (λ (p : List (List Post)). journal ++ p ∷ []) last in
    let here : stands ≡ standing m bare (journal ++ posts ∷ []) =
    after ∙ (ap (λ (t : Standing). after_turn m t posts) before ∙ sym (standing_more m bare journal posts)) in
    let more : All (HaveLines m.version) (journal ++ posts ∷ []) =
    All-append (HaveLines m.version) journal (posts ∷ []) lines (All-cons (HaveLines m.version) posts [] line (All-nil (HaveLines m.version))) in
    let counts : All (Lists m) (journal ++ posts ∷ []) =
    All-append (Lists m) journal (posts ∷ []) lists (All-cons (Lists m) posts [] list (All-nil (Lists m))) in (
      here ∙ (λ i. standing (sym on i) bare (sym all i)),
      subst (λ (x : Map). All (HaveLines x.version) pushed) (sym on) (subst (All (HaveLines m.version)) (sym all) more),
      subst (λ (x : Map). All (Lists x) pushed) (sym on) (subst (All (Lists m)) (sym all) counts),
    )

-- a turn more is at least one
counted_some : (turns : ℕ) → counted turns ≡ 0 → ⊥
counted_some turns is = absurd (omega (arith, is))

-- what is held after a turn more leads to what stands after it
pub holds_more : (version : MapState) (held : EndedTurns) (posts item : List (List Post)) (now : MapState) (pushed : EndedTurns)
    → HoldsTurns version held → HaveLines version.map.version posts → length posts ≡ version.map.callers
    → now.map ≡ version.map → now.standing ≡ after_turn version.map version.standing posts → item ≡ posts → pushed ≡ one_more held item
    → HoldsTurns now pushed
holds_more version (ended.Kept journal) posts item now pushed before line list on after last push =
    let all = one_turn_more version.map version.standing journal posts item now.map now.standing (journal ++ item ∷ []) before.stands before.lines
    line before.lists list on after last refl in
    subst (HoldsTurns now) (sym push) (record { stands = all.0; lines = all.1; lists = all.2 })
holds_more version (ended.Counted turns) posts item now pushed before line list on after last push =
    subst (HoldsTurns now) (sym push) (record {
      journal = before.journal ++ posts ∷ [];
      stands = after ∙ (ap (λ (t : Standing). after_turn version.map t posts) before.stands
          ∙ (sym (standing_more version.map bare before.journal posts)
          ∙ ap (λ (m : Map). standing m bare (before.journal ++ posts ∷ [])) (sym on)));
      none = λ is. absurd (counted_some turns is);
    })

-- one journal is kept
pub same_journal : (one two : List (List (List Post))) → Some one ≡ Some two → one ≡ two
same_journal one two is = cc

-- ---- the turns as text

turns_end : (m : Map) (n : ℕ) (turns : List (List (List Post))) (turn : List (List Post))
    → canon_turns m n (turns ++ turn ∷ []) ≡ canon_turns m n turns ++ canon_journal m (length turns + n) turn
turns_end m n [] turn =
    let number : n ≡ length {A = List (List Post)} [] + n = omega arith in
    append-nil (canon_journal m n turn) ∙ ap (λ (k : ℕ). canon_journal m k turn) number
turns_end m n (first ∷ turns) turn =
    let number : length turns + (n + 1) ≡ length (first ∷ turns) + n = omega arith in
    ap (λ (l : List ℕ). canon_journal m n first ++ l) (turns_end m (n + 1) turns turn)
    ∙ sym (append_assoc (canon_journal m n first) (canon_turns m (n + 1) turns) (canon_journal m (length turns + (n + 1)) turn))
    ∙ ap (λ (k : ℕ). (canon_journal m n first ++ canon_turns m (n + 1) turns) ++ canon_journal m k turn) number

-- the text of the first turns, and of one more
pub turns_next : (m : Map) (turns : List (List (List Post))) (i : ℕ) (turn : List (List Post)) (before now : List ℕ) → i < length turns
    → now ≡ before ++ canon_journal m (i + 1) (get_or turns i turn) → (start : List ℕ) → before ≡ start ++ canon_turns m 1 (take i turns)
    → now ≡ start ++ canon_turns m 1 (take (i + 1) turns)
turns_next m turns i turn before now lt is start was =
    let count : length (take i turns) ≡ i = length-take-le i turns (omega (arith, lt)) in
    let job = get_or turns i turn in
    let grown : canon_turns m 1 (take (i + 1) turns) ≡ canon_turns m 1 (take i turns) ++ canon_journal m (i + 1) job =
    ap (canon_turns m 1) (take_more turns i turn lt) ∙ (turns_end m 1 (take i turns) job ∙ ap (λ (k : ℕ). canon_turns m 1 (take i turns) ++ canon_journal m (k + 1) job) count) in
    is ∙ (ap (λ (l : List ℕ). l ++ canon_journal m (i + 1) job) was
    ∙ (append_assoc start (canon_turns m 1 (take i turns)) (canon_journal m (i + 1) job) ∙ ap (λ (l : List ℕ). start ++ l) (sym grown)))
