-- What stands as a script of one turn.
use Rattle.std.proofs.Common.{◌≡◌, ℕ, zero, suc, ◌≤◌, ◌≢◌, All, List, [], ◌∷◌, ◌++◌, length, replicate, Option, Some, None, IsSome, refl, sym, ap, subst, ◌∙◌, append-nil, arith}
use Rattle.std.specs.Prelude.{slice_set}
use Rattle.std.proofs.lemmas.List.{length-replicate}
use Rattle.std.proofs.lemmas.List.Elements.{All-nil, All-cons}
use Rattle.posts.specs.declared.posts.Post.{Post}
use Rattle.posts.specs.Maps.{Map}
use Rattle.script_text.specs.Canon.{HaveLines, canon_map, canon_journal}
use Rattle.script_text.specs.ReadsBack.{ArePostValues, AreTurns, canon_script}
use Rattle.turn_core.specs.Turns.{standing}
use Rattle.turn_core.specs.Words.{Standing, bare}
use Rattle.match_play.specs.Saved.{adds_of, begun_anew, saved, turn_by_first}
use Rattle.grid_versions.specs.Versions.{MapState}
use Rattle.match_play.specs.declared.posted.EndedTurns.{EndedTurns}
use Rattle.match_play.specs.declared.posted.EndedTurns.TheVariants as ended
use Rattle.match_play.specs.Posted.{stands_after, turns_of}
use Rattle.match_play.specs.inner.Kept.{HoldsTurns, LeadTo, past_of}
use Rattle.match_play.proofs.NewestLines.{lines_of_3}
use Rattle.match_play.proofs.WhatStands.{saved_stands}

pub not_none : {A : Type 0} (found : Option A) → IsSome found → found ≡ None → ⊥
not_none None some is = absurd (cc)
not_none (Some it) some is = absurd (cc)

-- ---- the turn

pub turn_length : (callers : ℕ) (posts : List Post) → length (turn_by_first callers posts) ≡ callers
turn_length zero posts = refl
turn_length (suc others) posts = ap suc (length-replicate others [])

pub set_first : (callers : ℕ) (posts : List Post) → 1 ≤ callers → slice_set (replicate callers []) 0 posts ≡ turn_by_first callers posts
set_first zero posts some = absurd (omega (arith, some))
set_first (suc others) posts some = refl

-- ---- its text

pub one_turn_text : (m : Map) (turn : List (List Post)) → canon_map m ++ canon_journal m 1 turn ≡ canon_script m (turn ∷ [])
one_turn_text m turn = ap (λ (l : List ℕ). canon_map m ++ l) (sym (append-nil (canon_journal m 1 turn)))

pub one_turn : (m : Map) (turn : List (List Post)) → m.version ≡ 3 → length turn ≡ m.callers → ArePostValues turn → AreTurns m (turn ∷ [])
one_turn m turn newest count values =
    let Lists : List (List Post) → Type 0 = λ t. length t ≡ m.callers in
    let lines : HaveLines m.version turn = subst (λ (v : ℕ). HaveLines v turn) (sym newest) (lines_of_3 turn) in
    record {
      lists = All-cons Lists turn [] count (All-nil Lists);
      lines = All-cons (HaveLines m.version) turn [] lines (All-nil (HaveLines m.version));
      values = All-cons ArePostValues turn [] values (All-nil ArePostValues);
    }

-- ---- a journal that begins anew

-- it leads to what stands
pub anew_stands : (m : Map) (s : Standing) (journal : List (List (List Post))) (turns : ℕ) → (turns ≢ 0 → 1 ≤ m.callers)
    → s ≡ standing m bare journal → (turns ≡ 0 → journal ≡ []) → s ≡ standing m bare (begun_anew m s turns)
anew_stands m s journal zero some before none = before ∙ ap (standing m bare) (none refl)
anew_stands m s journal (suc turns) some before none =
    before ∙ sym (ap (λ (t : Standing). standing m bare (saved m t)) before ∙ saved_stands m journal (some (λ is. omega (arith, is))))

-- its turns have lines of the newest version, and a list for each caller
pub anew_lines : (m : Map) (s : Standing) (turns : ℕ) → m.version ≡ 3 → All (HaveLines m.version) (begun_anew m s turns)
anew_lines m s zero newest = All-nil (HaveLines m.version)
anew_lines m s (suc turns) newest =
    let turn = turn_by_first m.callers (adds_of s) in
    All-cons (HaveLines m.version) turn [] (subst (λ (v : ℕ). HaveLines v turn) (sym newest) (lines_of_3 turn)) (All-nil (HaveLines m.version))

pub anew_lists : (m : Map) (s : Standing) (turns : ℕ) → All (λ (t : List (List Post)). length t ≡ m.callers) (begun_anew m s turns)
anew_lists m s zero = All-nil (λ (t : List (List Post)). length t ≡ m.callers)
anew_lists m s (suc turns) =
    let Lists : List (List Post) → Type 0 = λ t. length t ≡ m.callers in
    All-cons Lists (turn_by_first m.callers (adds_of s)) [] (turn_length m.callers (adds_of s)) (All-nil Lists)

-- a journal of no turns is empty
no_turns : (turns : List (List (List Post))) → length turns ≡ 0 → turns ≡ []
no_turns [] is = refl
no_turns (turn ∷ turns) is = absurd (omega (arith, is))

-- what is held leads to what stands
pub held_stands : (version : MapState) (held : EndedTurns) → HoldsTurns version held
    → version.standing ≡ stands_after version.map (past_of version.standing held)
held_stands version (ended.Kept journal) before = before.stands
held_stands version (ended.Counted turns) before = refl

-- a match that has forgotten how what stands came to stand, with its journal begun anew
pub anew_held : (version : MapState) (held : EndedTurns) (turns : ℕ) (journal : List (List (List Post))) → version.map.version ≡ 3
    → turns ≡ turns_of (past_of version.standing held) → (turns ≢ 0 → 1 ≤ version.map.callers) → HoldsTurns version held
    → journal ≡ begun_anew version.map version.standing turns → LeadTo version journal
anew_held version (ended.Kept all) turns journal newest count some before is =
    let m = version.map in
    let s = version.standing in record {
      stands = anew_stands m s all turns some before.stands (λ none. no_turns all (sym count ∙ none)) ∙ ap (standing m bare) (sym is);
      lines = subst (All (HaveLines m.version)) (sym is) (anew_lines m s turns newest);
      lists = subst (All (λ (t : List (List Post)). length t ≡ m.callers)) (sym is) (anew_lists m s turns);
    }
anew_held version (ended.Counted number) turns journal newest count some before is =
    let m = version.map in
    let s = version.standing in record {
      stands = anew_stands m s before.journal turns some before.stands (λ none. before.none (sym count ∙ none)) ∙ ap (standing m bare) (sym is);
      lines = subst (All (HaveLines m.version)) (sym is) (anew_lines m s turns newest);
      lists = subst (All (λ (t : List (List Post)). length t ≡ m.callers)) (sym is) (anew_lists m s turns);
    }
