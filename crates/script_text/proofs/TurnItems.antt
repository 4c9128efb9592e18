-- What a line of a turn gives, as an item.
use Rattle.std.proofs.Common.{◌≡◌, ℕ, ◌+◌, ◌<◌, ◌≤◌, List, Option, Some, None, Result, Ok, Err, IfErr, IfOk, IfSome, OnOk, length, refl, ap, sym, subst, arith}
use Rattle.std.specs.Prelude.{IsErrOf, IsSome}
use Rattle.posts.specs.declared.posts.Post.{Post}
use Rattle.posts.specs.Posts.{post_count}
use Rattle.script_text.specs.declared.faults.ScriptFault.{ScriptFault}
use Rattle.script_text.specs.declared.faults.ScriptFault.TheVariants.{BadLine, TooLong, ReadFault, NoMemory}
use Rattle.script_text.specs.declared.items.ScriptItem.{ScriptItem}
use Rattle.script_text.specs.declared.parts.Part.{Part}
use Rattle.script_text.specs.declared.parts.Part.TheVariants.{BeforeMap, InBase, InTurns}
use Rattle.script_text.specs.Canon.{HaveLines}
use Rattle.script_text.specs.Script.{Place, Walk, accept}
use Rattle.script_text.specs.Reader.{HaveLinesAt, callers_of, rules_at}
use Rattle.script_text.specs.Pushed.{KeepsRules}
use Rattle.script_text.specs.Items.{HasFewPosts}
use Rattle.script_text.specs.inner.Judging.{CountsPosts, GivesItem, GivesTurn, HasFewerPosts, turn_item}
use Rattle.script_text.proofs.PostVersions.{have_by, have_on, none_have_at}

abbrev pub Turn : Type 0
Turn = Result (Option (List (List Post))) ScriptFault

abbrev pub Given : Type 0
Given = Result (Option ScriptItem) ScriptFault

pub turn_gives : (w : Walk) (place : Place) (turn : Turn) (item : Given) → item ≡ turn_item turn → GivesTurn w place turn → GivesItem w place item
turn_gives w place (Ok (Some posts)) item is gives = subst (GivesItem w place) (sym is) gives
turn_gives w place (Ok None) item is gives = subst (GivesItem w place) (sym is) gives
turn_gives w place (Err fault) item is gives = subst (GivesItem w place) (sym is) gives

-- what is said where a line was taken, and where it was refused
pub turn_ok : (P : Type 0) (turn : Turn) (item : Given) → item ≡ turn_item turn → OnOk turn P → OnOk item P
turn_ok P (Ok (Some posts)) item is holds = subst (λ i. OnOk i P) (sym is) holds
turn_ok P (Ok None) item is holds = subst (λ i. OnOk i P) (sym is) holds
turn_ok P (Err fault) item is holds = subst (λ i. OnOk i P) (sym is) tt

pub turn_bad : (P : ScriptFault → Type 0) (turn : Turn) (item : Given) → item ≡ turn_item turn → IfErr turn P → IfErr item P
turn_bad P (Ok (Some posts)) item is holds = subst (λ i. IfErr i P) (sym is) tt
turn_bad P (Ok None) item is holds = subst (λ i. IfErr i P) (sym is) tt
turn_bad P (Err fault) item is holds = subst (λ i. IfErr i P) (sym is) holds

no_memory : {A B : Type 0} (fault : ScriptFault) → IsErrOf {T = A} (Err fault) NoMemory → IsErrOf {T = B} (Err fault) NoMemory
no_memory (BadLine n) is = absurd (cc)
no_memory (TooLong n) is = absurd (cc)
no_memory ReadFault is = absurd (cc)
no_memory NoMemory is = refl

turn_memory : (turn : Turn) (item : Given) → item ≡ turn_item turn → IsErrOf item NoMemory → IsErrOf turn NoMemory
turn_memory (Ok (Some posts)) item is none = let other : IsErrOf (turn_item (Ok (Some posts))) NoMemory = subst (λ i. IsErrOf i NoMemory) is none in absurd (cc)
turn_memory (Ok None) item is none = let other : IsErrOf (turn_item (Ok None)) NoMemory = subst (λ i. IsErrOf i NoMemory) is none in absurd (cc)
turn_memory (Err fault) item is none = no_memory fault (subst (λ i. IsErrOf i NoMemory) is none)

-- nothing changed where there was no memory
pub turn_kept : (old now : Place) (turn : Turn) (item : Given) → item ≡ turn_item turn → (IsErrOf turn NoMemory → now ≡ old) → IsErrOf item NoMemory → now ≡ old
turn_kept old now turn item is kept none = kept (turn_memory turn item is none)

-- the rules stay, and a turn keeps to them
turn_keeps : (old now : Part) (held posts : List (List Post)) → IsSome (rules_at old) → rules_at now ≡ rules_at old → length posts ≡ callers_of old → posts ≡ held → HaveLinesAt old held
    → KeepsRules (rules_at old) (rules_at now) (turn_item (Ok (Some posts)))
turn_keeps BeforeMap now held posts begun same lists all have = absurd (cc)
turn_keeps (InBase rules) now held posts begun same lists all have = (same, (lists, subst (HaveLines rules.version) (sym all) (have rules refl)))
turn_keeps (InTurns rules) now held posts begun same lists all have = (same, (lists, subst (HaveLines rules.version) (sym all) (have rules refl)))

refused_keeps : (old now : Part) (fault : ScriptFault) → rules_at now ≡ rules_at old → KeepsRules (rules_at old) (rules_at now) (turn_item (Err fault))
refused_keeps old now (BadLine n) same = tt
refused_keeps old now (TooLong n) same = tt
refused_keeps old now ReadFault same = tt
refused_keeps old now NoMemory same = same

pub turn_rules : (old now : Place) (turn : Turn) (item : Given) → item ≡ turn_item turn → IsSome (rules_at old.part) → rules_at now.part ≡ rules_at old.part
    → IfOk turn (λ next. IfSome next (λ posts. length posts ≡ callers_of old.part)) → IfOk turn (CountsPosts old.posts now.posts) → HaveLinesAt old.part old.posts
    → KeepsRules (rules_at old.part) (rules_at now.part) item
turn_rules old now (Ok (Some posts)) item is begun same lists counts have =
    subst (KeepsRules (rules_at old.part) (rules_at now.part)) (sym is) (turn_keeps old.part now.part old.posts posts begun same lists counts.0 have)
turn_rules old now (Ok None) item is begun same lists counts have = subst (KeepsRules (rules_at old.part) (rules_at now.part)) (sym is) same
turn_rules old now (Err fault) item is begun same lists counts have = subst (KeepsRules (rules_at old.part) (rules_at now.part)) (sym is) (refused_keeps old.part now.part fault same)

-- an end line leaves no post, and a post line adds its post
pub turn_have : (old now : Place) (size : ℕ) (line : List ℕ) (turn : Turn) (item : Given) → item ≡ turn_item turn → rules_at now.part ≡ rules_at old.part
    → IfOk turn (CountsPosts old.posts now.posts) → GivesTurn (accept size line old) now turn → HaveLinesAt old.part old.posts → OnOk item (HaveLinesAt now.part now.posts)
turn_have old now size line (Ok (Some posts)) item is same counts gives have =
    subst (λ i. OnOk i (HaveLinesAt now.part now.posts)) (sym is) (none_have_at now.part now.posts counts.1)
turn_have old now size line (Ok None) item is same counts gives have =
    subst (λ i. OnOk i (HaveLinesAt now.part now.posts)) (sym is) (have_by old.part now.part now.posts same (have_on old.part size line old now refl have gives))
turn_have old now size line (Err fault) item is same counts gives have = subst (λ i. OnOk i (HaveLinesAt now.part now.posts)) (sym is) tt

-- there are no more posts than bytes
pub turn_fewer : (old now : Place) (size : ℕ) (turn : Turn) (item : Given) → item ≡ turn_item turn → IfOk turn (CountsPosts old.posts now.posts) → OnOk turn (now.bytes ≡ old.bytes + size) → 1 ≤ size
    → HasFewerPosts old → OnOk item (HasFewerPosts now)
turn_fewer old now size (Ok (Some posts)) item is counts used some few = subst (λ i. OnOk i (HasFewerPosts now)) (sym is) (omega (arith, counts.1))
turn_fewer old now size (Ok None) item is counts used some few = subst (λ i. OnOk i (HasFewerPosts now)) (sym is) (omega (arith, counts, used, some, few))
turn_fewer old now size (Err fault) item is counts used some few = subst (λ i. OnOk i (HasFewerPosts now)) (sym is) tt

-- a turn has fewer posts than an input may have bytes
pub turn_few : (old now : Place) (size : ℕ) (turn : Turn) (item : Given) → item ≡ turn_item turn → IfOk turn (CountsPosts old.posts now.posts) → OnOk turn (now.bytes ≡ old.bytes + size) → 1 ≤ size
    → now.bytes ≤ 4294967296 → HasFewerPosts old → IfOk item (λ next. IfSome next HasFewPosts)
turn_few old now size (Ok (Some posts)) item is counts used some limit few =
    let fewer : post_count posts < 4294967296 = omega (arith, ap post_count counts.0, used, some, limit, few) in
    subst (λ i. IfOk i (λ next. IfSome next HasFewPosts)) (sym is) fewer
turn_few old now size (Ok None) item is counts used some limit few = subst (λ i. IfOk i (λ next. IfSome next HasFewPosts)) (sym is) tt
turn_few old now size (Err fault) item is counts used some limit few = subst (λ i. IfOk i (λ next. IfSome next HasFewPosts)) (sym is) tt
