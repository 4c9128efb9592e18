-- A script that is read to its end, item by item.
use Rattle.std.proofs.Common.{◌≡◌, ℕ, zero, suc, ◌+◌, ◌≤◌, List, [], ◌∷◌, ◌++◌, length, replicate, Bool, true, Option, Some, None, Ok, Err, IsTrue, refl, sym, ap, ◌∙◌, subst, arith, append-nil}
use Rattle.std.specs.List.{list_all}
use Rattle.std.proofs.lemmas.Bool.{and_parts, and_from}
use Rattle.std.proofs.lemmas.List.{length-replicate}
use Rattle.std.proofs.lemmas.List.Folds.{list_all-append}
use Rattle.nav_types.specs.declared.cells.Rect.{Rect}
use Rattle.posts.specs.declared.posts.Post.{Post}
use Rattle.posts.specs.Callers.{of_caller, list_of}
use Rattle.posts.specs.Maps.{Map}
use Rattle.posts.specs.Posts.{post_count}
use Rattle.posts.proofs.PostCounts.{count_none}
use Rattle.path_service.specs.machine.Effects.{joined_up}
use Rattle.path_service.proofs.machine.CallerLists.{joined_nothing, joined_up_at, none_at, of_caller_push}
use Rattle.input_lines.specs.Held.{WhereTold}
use Rattle.input_lines.proofs.ToldLines.{told-same, told-then}
use Rattle.script_text.specs.declared.faults.ScriptFault.{ScriptFault}
use Rattle.script_text.specs.declared.items.ScriptItem.{ScriptItem}
use Rattle.script_text.specs.declared.items.ScriptItem.TheVariants as item
use Rattle.script_text.specs.declared.parts.Rules.{Rules}
use Rattle.script_text.specs.Canon.{HaveLines, is_post_of}
use Rattle.script_text.specs.Items.{ItemTold}
use Rattle.script_text.specs.Led.{posts_in}
use Rattle.script_text.specs.Pushed.{KeepsRules, item_of}
use Rattle.script_text.specs.Reader.{Held, stuck_after, unread}
use Rattle.script_text.specs.Script.{Item, adds_base, begins, ends_turn, map_after, map_after_item, rules_of, turns_of, whole_input}
use Rattle.script_text.specs.declared.faults.ScriptFault.TheVariants as fault
use Rattle.script_text.proofs.ReadCalls.{goes_then, map_after-append, stuck_then, turns_of-append}
use Rattle.pathserve.specs.declared.serving.Script.{Script}
use Rattle.pathserve.specs.inner.WholeScripts.{FitsBehind, ScriptTold, with_item}
use Rattle.pathserve.proofs.JoinedPosts.{length-joined}
use Rattle.pathserve.proofs.JournalSums.{count_joined}
use Rattle.pathserve.proofs.Progress.{Went, went_nowhere}
use Rattle.pathserve.proofs.Refusals.{refuses_then}

-- ---- the items so far

-- what items give of a script, caller by caller
abbrev pub GivesScript : List Item → Option Script → Type 0
GivesScript items None = items ≡ []
GivesScript items (Some s) = (map_after None items ≡ Some s.map) × ((caller : ℕ) → list_of s.posts caller ≡ of_caller caller (turns_of items))

-- the reading has come to what the reader holds, and this is the script so far
pub record HasRead (held : Held) (bytes left : List ℕ) (read : Option Script) : Type 0 where
  pub items : List Item
  pub went : Went bytes left held items
  pub gives : GivesScript items read

-- the same where the source tells its bytes
abbrev pub ReadTold : Held → Option (List ℕ) → Option (List ℕ) → Option Script → Type 0
ReadTold held start now read = WhereTold start now (λ bytes left. HasRead held bytes left read)

pub read_none : (held : Held) (start : Option (List ℕ)) → held ≡ unread → ReadTold held start start None
read_none held start is =
    told-same start _ (λ bytes. record { items = []; went = subst (λ (h : Held). Went bytes bytes h []) (sym is) (went_nowhere bytes); gives = refl })

gives_map : (items : List Item) (m : Map) → items ≡ [] → GivesScript (items ++ begins m ∷ []) (with_item None (item.Map m))
gives_map items m none = subst (λ (first : List Item). GivesScript (first ++ begins m ∷ []) (with_item None (item.Map m))) (sym none) (refl, λ caller. none_at Post m.callers caller)

gives_base : (items : List Item) (s : Script) (rects : List (Rect × ℕ)) → GivesScript items (Some s) → GivesScript (items ++ adds_base rects ∷ []) (with_item (Some s) (item.Base rects))
gives_base items s rects (on_map, posts) = (
  map_after-append None items (adds_base rects ∷ []) ∙ ap (λ (found : Option Map). map_after_item found (adds_base rects)) on_map,
  λ caller. posts caller ∙ ap (λ turns. of_caller caller turns) (sym (turns_of-append items (adds_base rects ∷ []) ∙ append-nil (turns_of items))),
)

gives_turn : (items : List Item) (s : Script) (turn : List (List Post)) → GivesScript items (Some s) → GivesScript (items ++ ends_turn turn ∷ []) (with_item (Some s) (item.Turn turn))
gives_turn items s turn (on_map, posts) = (
  map_after-append None items (ends_turn turn ∷ []) ∙ on_map,
  λ caller. joined_up_at s.posts turn caller ∙ ap (λ (l : List Post). l ++ list_of turn caller) (posts caller) ∙ sym (of_caller_push caller (turns_of items) turn)
      ∙ ap (λ (turns : List (List (List Post))). of_caller caller turns) (sym (turns_of-append items (ends_turn turn ∷ []))),
)

gives_item : (items : List Item) (read : Option Script) (i : ScriptItem) → FitsBehind read i → GivesScript items read → GivesScript (items ++ item_of i ∷ []) (with_item read i)
gives_item items None (item.Map m) fits gives = gives_map items m gives
gives_item items None (item.Base rects) fits gives = absurd fits
gives_item items None (item.Turn turn) fits gives = absurd fits
gives_item items (Some s) (item.Map m) fits gives = absurd fits
gives_item items (Some s) (item.Base rects) fits gives = gives_base items s rects gives
gives_item items (Some s) (item.Turn turn) fits gives = gives_turn items s turn gives

-- an item was read
pub read_item : (held new : Held) (start before now : Option (List ℕ)) (read : Option Script) (i : ScriptItem) (made : Script) → FitsBehind read i → Some made ≡ with_item read i
    → ReadTold held start before read → ItemTold held new before now (Ok (Some i)) → (IsTrue held.ended → IsTrue new.ended) → ReadTold new start now (Some made)
read_item held new start before now read i made fits is so_far next stays =
    told-then start before now _ _ _ (λ bytes left after has said.
    let h : HasRead held bytes left read = has in
    record {
      items = h.items ++ item_of i ∷ [];
      went = goes_then unread held new bytes left after h.items (item_of i ∷ []) stays h.went (said h.went.at_end);
      gives = subst (GivesScript (h.items ++ item_of i ∷ [])) (sym is) (gives_item h.items read i fits h.gives);
    }) so_far next

-- ---- exits

pub read_whole : (held new : Held) (start before now : Option (List ℕ)) (s : Script) → ReadTold held start before (Some s) → ItemTold held new before now (Ok None)
    → ScriptTold new start now (Ok s)
read_whole held new start before now s so_far next =
    told-then start before now _ _ _ (λ bytes left after has said.
    let h : HasRead held bytes left (Some s) = has in
    let end = said h.went.at_end in
    record {
      items = h.items;
      whole = stuck_then unread held bytes left h.items [] whole_input h.went end.whole ∙ ap (λ (items : List Item). stuck_after items whole_input) (append-nil h.items);
      nothing = end.nothing;
      on_map = h.gives.0;
      posts = h.gives.1;
    }) so_far next

pub read_refused : (held new : Held) (start before now : Option (List ℕ)) (read : Option Script) (met : ScriptFault) → ReadTold held start before read
    → ItemTold held new before now (Err met) → ScriptTold new start now (Err met)
read_refused held new start before now read met so_far next =
    told-then start before now _ _ _ (λ bytes left after has said.
    let h : HasRead held bytes left read = has in
    record { items = h.items ++ []; refused = refuses_then held new bytes left after h.items met h.went (said h.went.at_end) }) so_far next

-- there was no memory for an item
pub read_short : (held new : Held) (start before now : Option (List ℕ)) (read : Option Script) (i : ScriptItem) → ReadTold held start before read
    → ItemTold held new before now (Ok (Some i)) → ScriptTold new start now (Err fault.NoMemory)
read_short held new start before now read i so_far next = told-then start before now _ _ _ (λ bytes left after has said. record { items = []; refused = tt }) so_far next

-- ---- what the script keeps to

-- posts that pass a test, behind others that do
joined_pass : (passes : Post → Bool) (lists turn : List (List Post)) → list_all (λ posts. list_all passes posts) lists ≡ true
    → list_all (λ posts. list_all passes posts) turn ≡ true → list_all (λ posts. list_all passes posts) (joined_up lists turn) ≡ true
joined_pass passes [] turn own more = more
joined_pass passes (posts ∷ lists) [] own more =
    ap (λ (ls : List (List Post)). list_all (λ posts. list_all passes posts) ls) (joined_nothing (posts ∷ lists)) ∙ own
joined_pass passes (posts ∷ lists) (next ∷ turn) own more =
    let mine = and_parts (list_all passes posts) (list_all (λ posts. list_all passes posts) lists) own in
    let others = and_parts (list_all passes next) (list_all (λ posts. list_all passes posts) turn) more in
    and_from (list_all passes (posts ++ next)) (list_all (λ posts. list_all passes posts) (joined_up lists turn))
    (list_all-append passes posts next ∙ and_from (list_all passes posts) (list_all passes next) mine.0 others.0)
    (joined_pass passes lists turn mine.1 others.1)

-- no caller has a post yet
none_pass : (passes : Post → Bool) (callers : ℕ) → list_all (λ posts. list_all passes posts) (replicate callers []) ≡ true
none_pass passes zero = refl
none_pass passes (suc callers) = none_pass passes callers

-- a script keeps to the rules of its map, and so do its posts
abbrev pub KeepsScript : Option Script → Option Rules → Type 0
KeepsScript None rules = rules ≡ None
KeepsScript (Some s) rules = (rules ≡ Some (rules_of s.map)) × ((length s.posts ≡ s.map.callers) × HaveLines s.map.version s.posts)

-- how many posts it has, and the map line
abbrev pub count_read : Option Script → ℕ
count_read None = 0
count_read (Some s) = post_count s.posts + 1

-- what an item finds and leaves
pub record Behind (read : Option Script) (i : ScriptItem) (now : Option Rules) : Type 0 where
  pub fits : FitsBehind read i
  pub keeps : KeepsScript (with_item read i) now
  pub count : count_read (with_item read i) ≤ count_read read + posts_in (item_of i ∷ []) + 1

behind_map : (m : Map) (now : Option Rules) → now ≡ Some (rules_of m) → Behind None (item.Map m) now
behind_map m now is = record {
  fits = tt;
  keeps = (is, (length-replicate m.callers _, none_pass (is_post_of m.version) m.callers));
  count = omega (arith, count_none m.callers);
}

behind_base : (s : Script) (rects : List (Rect × ℕ)) (old now : Option Rules) → KeepsScript (Some s) old → KeepsRules old now (Ok (Some (item.Base rects))) → Behind (Some s) (item.Base rects) now
behind_base s rects old now (is, kept) rules =
    let k = subst (λ (r : Option Rules). KeepsRules r now (Ok (Some (item.Base rects)))) is rules in
    record { fits = k.1; keeps = (k.0, kept); count = omega arith }

behind_turn : (s : Script) (turn : List (List Post)) (old now : Option Rules) → KeepsScript (Some s) old → KeepsRules old now (Ok (Some (item.Turn turn))) → Behind (Some s) (item.Turn turn) now
behind_turn s turn old now (is, (wide, lines)) rules =
    let k = subst (λ (r : Option Rules). KeepsRules r now (Ok (Some (item.Turn turn)))) is rules in
    let long : length turn ≡ length s.posts = k.1.0 ∙ sym wide in
    record {
      fits = long;
      keeps = (k.0, (length-joined s.posts turn (omega (arith, long)) ∙ wide, joined_pass (is_post_of s.map.version) s.posts turn lines k.1.1));
      count = omega (arith, count_joined s.posts turn);
    }

pub behind : (read : Option Script) (i : ScriptItem) (old now : Option Rules) → KeepsScript read old → KeepsRules old now (Ok (Some i)) → Behind read i now
behind None (item.Map m) old now none rules = behind_map m now (subst (λ (r : Option Rules). KeepsRules r now (Ok (Some (item.Map m)))) none rules)
behind None (item.Base rects) old now none rules = absurd (subst (λ (r : Option Rules). KeepsRules r now (Ok (Some (item.Base rects)))) none rules)
behind None (item.Turn turn) old now none rules = absurd (subst (λ (r : Option Rules). KeepsRules r now (Ok (Some (item.Turn turn)))) none rules)
behind (Some s) (item.Map m) old now (is, kept) rules = absurd (subst (λ (r : Option Rules). KeepsRules r now (Ok (Some (item.Map m)))) is rules)
behind (Some s) (item.Base rects) old now kept rules = behind_base s rects old now kept rules
behind (Some s) (item.Turn turn) old now kept rules = behind_turn s turn old now kept rules
