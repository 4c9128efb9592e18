-- What a match stands on goes with how far its script was read.
use Rattle.std.proofs.Common.{◌≡◌, ℕ, ◌+◌, ◌≤◌, ◌<◌, List, [], ◌∷◌, length, Bool, false, IsFalse, Some, None, Ok, Err, refl, sym, ap, subst, ◌∙◌, ◌++◌, length-append, arith}
use Rattle.nav_types.specs.declared.limits.TheConstants.{MAX_INPUT_BYTES}
use Rattle.script_text.specs.declared.faults.ScriptFault.{ScriptFault}
use Rattle.script_text.specs.declared.faults.ScriptFault.TheVariants as met
use Rattle.script_text.specs.declared.items.ScriptItem.{ScriptItem}
use Rattle.script_text.specs.declared.parts.Part.{Part}
use Rattle.script_text.specs.declared.parts.Part.TheVariants.{BeforeMap, InBase, InTurns}
use Rattle.script_text.specs.Script.{Item, rules_of}
use Rattle.script_text.specs.Reader.{Held, GoesOn, rules_at}
use Rattle.script_text.specs.Pushed.{item_of, EndsLine, PushTold, KeepsRules, is_refused}
use Rattle.script_text.specs.inner.Judging.{IsInTurns}
use Rattle.match_play.specs.declared.states.NextItem.TheVariants as next_item
use Rattle.match_play.specs.declared.states.MatchState.{MatchState}
use Rattle.match_play.specs.declared.states.MatchProgress.{MatchProgress}
use Rattle.match_play.specs.declared.states.MatchProgress.TheVariants as progress
use Rattle.match_play.specs.Grounds.{FitsPart, turns_in}
use Rattle.match_play.specs.inner.Fitting.{FitsAhead, IsFit, IsOpen, stop_in}
use Rattle.match_play.proofs.Items.{fits_now, fits_then, turns_next, turns_rules}
use Rattle.match_play.proofs.Walked.{Led, led}

-- ---- parts

no_rules : (part : Part) → rules_at part ≡ None → part ≡ BeforeMap
no_rules BeforeMap is = refl
no_rules (InBase rules) is = absurd (cc)
no_rules (InTurns rules) is = absurd (cc)

-- ---- the next item

-- what the lines of a call made of the place
led_by : (old new : Held) (piece left : List ℕ) (items : List Item) → GoesOn old new piece left items → IsFalse new.ended → Led old.place items new.place
led_by old new piece left items g going =
    let u = g.used going in
    led u.lines old.place items new.place u.walked

-- the next item fits
pub fits_item : (g : MatchProgress) (old new : Held) (piece left : List ℕ) (i : ScriptItem) → IsOpen old (turns_in g) → FitsPart g old.place.part
    → PushTold old new piece left (Ok (Some i)) → KeepsRules (rules_at old.place.part) (rules_at new.place.part) (Ok (Some i))
    → IsFalse new.failed → IsFalse new.ended → new.place.bytes ≤ MAX_INPUT_BYTES → FitsAhead false g new (next_item.Item i)
fits_item g old new piece left i opens fits told keeps going more limit =
    let l = led_by old new (piece ++ []) (left ++ []) (item_of i ∷ []) (told []) more in
    let few = opens.few in
    let bytes = l.bytes in
    let before = old.place.part in
    let now = new.place.part in (
      fits_now g before now i fits keeps (λ inside. (l.turns inside).1) (omega (arith, few, bytes, limit)),
      λ next is.
          let turns = turns_next g next i is in (
            record { going = going; more = more; few = omega (arith, turns, few, bytes); limit = limit },
            fits_then g next before now i fits keeps l.begun is,
          ),
    )

still_fits : (g : MatchProgress) (old new : Held) → Led old.place [] new.place → FitsPart g old.place.part → rules_at new.place.part ≡ rules_at old.place.part → FitsPart g new.place.part
still_fits progress.Nothing old new l fits same = no_rules new.place.part (same ∙ ap rules_at fits)
still_fits (progress.Map m) old new l fits same = same ∙ fits
still_fits (progress.Turns v n) old new l fits same =
    let inside : IsInTurns old.place.part = subst IsInTurns (sym fits) tt in
    turns_rules new.place.part (rules_of v.map) (l.turns inside).0 (same ∙ ap rules_at fits)

fits_on : (g : MatchProgress) (old new : Held) (piece left : List ℕ) → IsOpen old (turns_in g) → FitsPart g old.place.part → GoesOn old new piece left []
    → rules_at new.place.part ≡ rules_at old.place.part → IsFalse new.failed → IsFalse new.ended → new.place.bytes ≤ MAX_INPUT_BYTES
    → IsOpen new (turns_in g) × FitsPart g new.place.part
fits_on g old new piece left opens fits goes same going more limit =
    let l = led_by old new piece left [] goes more in
    let few = opens.few in
    let bytes = l.bytes in (
      record { going = going; more = more; few = omega (arith, few, bytes); limit = limit },
      still_fits g old new l fits same,
    )

pub fits_lines : (g : MatchProgress) (old new : Held) (piece left : List ℕ) → IsOpen old (turns_in g) → FitsPart g old.place.part
    → PushTold old new piece left (Ok None) → KeepsRules (rules_at old.place.part) (rules_at new.place.part) (Ok None)
    → IsFalse new.failed → IsFalse new.ended → new.place.bytes ≤ MAX_INPUT_BYTES
    → IsOpen new (turns_in g) × FitsPart g new.place.part
fits_lines g old new piece left opens fits told keeps going more limit =
    fits_on g old new (piece ++ []) (left ++ []) opens fits (told []) keeps going more limit

-- and so it does where there was no memory
pub fits_fault : (g : MatchProgress) (old new : Held) (piece left : List ℕ) (fault : ScriptFault) → IsOpen old (turns_in g) → FitsPart g old.place.part
    → stop_in fault ≡ None → PushTold old new piece left (Err fault) → KeepsRules (rules_at old.place.part) (rules_at new.place.part) (Err fault)
    → new.failed ≡ is_refused (Err fault) → IsFalse new.ended → new.place.bytes ≤ MAX_INPUT_BYTES
    → IsOpen new (turns_in g) × FitsPart g new.place.part
fits_fault g old new piece left (met.BadLine n) opens fits none told keeps going more limit = absurd (cc)
fits_fault g old new piece left (met.TooLong n) opens fits none told keeps going more limit = absurd (cc)
fits_fault g old new piece left met.ReadFault opens fits none told keeps going more limit = absurd (told [])
fits_fault g old new piece left met.NoMemory opens fits none told keeps going more limit =
    fits_on g old new (piece ++ []) (left ++ []) opens fits (told []) keeps going more limit

-- what fits where lines come next
pub fit_lines : (m : MatchState) → IsFalse m.ended → m.next_item ≡ next_item.Lines → IsFit m → IsOpen m.script (turns_in m.progress) × FitsPart m.progress m.script.place.part
fit_lines m unended at fit =
    let lines : FitsAhead m.ended m.progress m.script next_item.Lines = subst (FitsAhead m.ended m.progress m.script) at fit in
    subst (λ (e : Bool). FitsAhead e m.progress m.script next_item.Lines) unended lines

pub lines_fit : (m : MatchState) (new : Held) → IsFalse m.ended → m.next_item ≡ next_item.Lines → IsOpen new (turns_in m.progress) × FitsPart m.progress new.place.part
    → IsFit (record m { script = new })
lines_fit m new unended at fit =
    subst (FitsAhead m.ended m.progress new) (sym at) (subst (λ (e : Bool). FitsAhead e m.progress new next_item.Lines) (sym unended) fit)

-- what fits where an item waits
pub item_fits : (m : MatchState) (new : Held) (i : ScriptItem) → IsFalse m.ended → FitsAhead false m.progress new (next_item.Item i)
    → IsFit (record m { script = new; next_item = next_item.Item i })
item_fits m new i unended fit = subst (λ (e : Bool). FitsAhead e m.progress new (next_item.Item i)) (sym unended) fit

-- a line was used up
pub shorter : (old new : Held) (piece left : List ℕ) → EndsLine old new piece left → length new.bytes + length left < length old.bytes + length piece
shorter old new piece left e =
    let before = length-append old.bytes piece in
    let after = length-append e.short (10 ∷ left) in
    let same = ap length e.took in
    let none = ap length e.nothing in
    omega (arith, before, after, same, none)
