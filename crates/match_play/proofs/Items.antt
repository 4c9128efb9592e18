-- How items go with what a match stands on, and with how far its script was read.
use Rattle.std.proofs.Common.{◌≡◌, ℕ, ◌+◌, ◌≤◌, ◌<◌, ◌^◌, List, [], ◌∷◌, ◌++◌, Option, Some, None, Ok, sym, ap, subst, ◌∙◌, arith}
use Rattle.posts.specs.declared.posts.Post.{Post}
use Rattle.posts.specs.declared.notes.Report.{Report}
use Rattle.posts.specs.Maps.{Map}
use Rattle.turn_core.specs.Words.{MapState, Standing}
use Rattle.turn_core.specs.Turns.{after_turn}
use Rattle.script_text.specs.declared.items.ScriptItem.{ScriptItem}
use Rattle.script_text.specs.declared.items.ScriptItem.TheVariants as item
use Rattle.script_text.specs.declared.parts.Rules.{Rules}
use Rattle.script_text.specs.declared.parts.Part.{Part}
use Rattle.script_text.specs.declared.parts.Part.TheVariants.{BeforeMap, InBase, InTurns}
use Rattle.script_text.specs.Script.{ends_turn, rules_of}
use Rattle.script_text.specs.Reader.{rules_at}
use Rattle.script_text.specs.Pushed.{item_of, KeepsRules}
use Rattle.script_text.specs.inner.Judging.{IsInTurns}
use Rattle.match_play.specs.declared.states.MatchProgress.{MatchProgress}
use Rattle.match_play.specs.declared.states.MatchProgress.TheVariants as progress
use Rattle.match_play.specs.Texts.{IsTurnText, with_turn}
use Rattle.match_play.specs.Grounds.{said_of, turns_in, FitsItem, FitsPart, AddsTurn, Becomes, Tells}
use Rattle.match_play.specs.Playing.{IsView}
use Rattle.match_play.proofs.Walked.{AreTurns, HasTurn}

-- ---- parts

rules_same : (a b : Rules) → Some a ≡ Some b → a ≡ b
rules_same a b is = cc

maps_same : (a b : Map) → Some a ≡ Some b → a ≡ b
maps_same a b is = cc

-- the part that has these rules, among the turns
pub turns_rules : (part : Part) (rules : Rules) → IsInTurns part → rules_at part ≡ Some rules → part ≡ InTurns rules
turns_rules BeforeMap rules inside is = absurd inside
turns_rules (InBase other) rules inside is = absurd inside
turns_rules (InTurns other) rules inside is = ap InTurns (rules_same other rules is)

-- what an item keeps to, by the rules before it
keeps : (old now : Part) (rules : Option Rules) (i : ScriptItem) → rules_at old ≡ rules → KeepsRules (rules_at old) (rules_at now) (Ok (Some i)) → KeepsRules rules (rules_at now) (Ok (Some i))
keeps old now rules i is keep = subst (λ (r : Option Rules). KeepsRules r (rules_at now) (Ok (Some i))) is keep

-- ---- the next item

-- the next item fits
pub fits_now : (g : MatchProgress) (old now : Part) (i : ScriptItem) → FitsPart g old → KeepsRules (rules_at old) (rules_at now) (Ok (Some i))
    → (IsInTurns old → AreTurns (item_of i ∷ [])) → turns_in g < 2 ^ 32 → FitsItem g i
fits_now progress.Nothing old now (item.Map m) fits keep turns few = tt
fits_now progress.Nothing old now (item.Base rects) fits keep turns few = absurd (keeps old now None (item.Base rects) (ap rules_at fits) keep)
fits_now progress.Nothing old now (item.Turn posts) fits keep turns few = absurd (keeps old now None (item.Turn posts) (ap rules_at fits) keep)
fits_now (progress.Map m) old now (item.Map other) fits keep turns few = absurd (keeps old now (Some (rules_of m)) (item.Map other) fits keep)
fits_now (progress.Map m) old now (item.Base rects) fits keep turns few = (keeps old now (Some (rules_of m)) (item.Base rects) fits keep).1
fits_now (progress.Map m) old now (item.Turn posts) fits keep turns few = tt
fits_now (progress.Turns v n) old now (item.Map other) fits keep turns few =
    absurd (keeps old now (Some (rules_of v.map)) (item.Map other) (ap rules_at fits) keep)
fits_now (progress.Turns v n) old now (item.Base rects) fits keep turns few =
    let inside : IsInTurns old = subst IsInTurns (sym fits) tt in
    absurd (turns inside)
fits_now (progress.Turns v n) old now (item.Turn posts) fits keep turns few = few

-- what it makes of what stands goes with the part behind it
pub fits_then : (g next : MatchProgress) (old now : Part) (i : ScriptItem) → FitsPart g old → KeepsRules (rules_at old) (rules_at now) (Ok (Some i))
    → (HasTurn (item_of i ∷ []) → IsInTurns now) → Becomes g i next → FitsPart next now
fits_then progress.Nothing next old now (item.Map m) fits keep begun is =
    subst (λ (n : MatchProgress). FitsPart n now) (sym is) (keeps old now None (item.Map m) (ap rules_at fits) keep)
fits_then progress.Nothing next old now (item.Base rects) fits keep begun is = absurd is
fits_then progress.Nothing next old now (item.Turn posts) fits keep begun is = absurd (keeps old now None (item.Turn posts) (ap rules_at fits) keep)
fits_then (progress.Map m) next old now (item.Map other) fits keep begun is = absurd (keeps old now (Some (rules_of m)) (item.Map other) fits keep)
fits_then (progress.Map m) next old now (item.Base rects) fits keep begun is =
    subst (λ (n : MatchProgress). FitsPart n now) (sym is) (keeps old now (Some (rules_of m)) (item.Base rects) fits keep).0
fits_then (progress.Map m) next old now (item.Turn posts) fits keep begun (v, (is, map)) =
    let inside = turns_rules now (rules_of m) (begun tt) (keeps old now (Some (rules_of m)) (item.Turn posts) fits keep).0 in
    subst (λ (n : MatchProgress). FitsPart n now) (sym is) (inside ∙ ap (λ (x : Map). InTurns (rules_of x)) (maps_same m v.map map))
fits_then (progress.Turns w n) next old now (item.Map other) fits keep begun is =
    absurd (keeps old now (Some (rules_of w.map)) (item.Map other) (ap rules_at fits) keep)
fits_then (progress.Turns w n) next old now (item.Base rects) fits keep begun is = absurd is
fits_then (progress.Turns w n) next old now (item.Turn posts) fits keep begun (v, (is, map)) =
    let inside = turns_rules now (rules_of w.map) (begun tt) (keeps old now (Some (rules_of w.map)) (item.Turn posts) (ap rules_at fits) keep).0 in
    subst (λ (n : MatchProgress). FitsPart n now) (sym is) (inside ∙ ap (λ (x : Map). InTurns (rules_of x)) (maps_same w.map v.map map))

-- at most one turn more was told
pub turns_next : (g next : MatchProgress) (i : ScriptItem) → Becomes g i next → turns_in next ≤ turns_in g + 1
turns_next g next (item.Map m) is = let turns = ap turns_in is in omega (arith, turns)
turns_next progress.Nothing next (item.Base rects) is = absurd is
turns_next (progress.Map m) next (item.Base rects) is = let turns = ap turns_in is in omega (arith, turns)
turns_next (progress.Turns v n) next (item.Base rects) is = absurd is
turns_next g next (item.Turn posts) (v, (is, map)) = let turns = ap turns_in is in omega (arith, turns)

-- ---- what is told of an item

-- the text of a turn that was answered on the version that stands
pub turn_told : (report : Report) (g : MatchProgress) (version v : MapState) (n : ℕ) (posts : List (List Post)) (text before waits : List ℕ) → IsView (said_of g) (Some version)
    → v.map ≡ version.map → v.standing ≡ after_turn version.map version.standing posts → n ≡ turns_in g + 1 → IsTurnText report version.map version.standing n posts text
    → waits ≡ before ++ text → Tells report (said_of g) (ends_turn posts) (said_of (progress.Turns v n)) before waits
turn_told report g version v n posts text before waits (at, stands) map standing turns is told =
    let s = said_of g in
    let now : said_of (progress.Turns v n) ≡ with_turn s version.map posts =
    λ j. record { map = (ap (λ (m : Map). Some m) map ∙ sym at) j; standing = (standing ∙ ap (λ (t : Standing). after_turn version.map t posts) stands) j; turns = turns j } in
    let here : IsTurnText report version.map s.standing (turns_in g + 1) posts text =
    subst (λ (t : Standing). IsTurnText report version.map t (turns_in g + 1) posts text) stands
    (subst (λ (k : ℕ). IsTurnText report version.map version.standing k posts text) turns is) in
    (text, ((version.map, (at, (here, now))), told))

-- what stands then
pub turn_becomes : (g : MatchProgress) (version v : MapState) (n : ℕ) → IsView (said_of g) (Some version) → v.map ≡ version.map → n ≡ turns_in g + 1
    → AddsTurn g (progress.Turns v n)
turn_becomes g version v n (at, stands) map turns =
    (v, (ap (λ (k : ℕ). progress.Turns v k) turns, at ∙ ap (λ (m : Map). Some m) (sym map)))
