-- Where lines lead, whatever they give.
use Rattle.std.proofs.Common.{◌≡◌, ℕ, zero, suc, ◌+◌, ◌≤◌, List, [], ◌∷◌, ◌++◌, length, set, Bool, true, false, Option, Some, None, Result, Ok, Err, IsFalse, refl, sym, ap, subst, arith, length-append}
use Rattle.std.proofs.lemmas.List.Sums.{sum_by-cons}
use Rattle.std.specs.Prelude.{⊤, IsSome, ◌==◌, if◌then◌else◌, option_and_then}
use Rattle.serde_json.specs.Data.{Data}
use Rattle.nav_types.specs.declared.cells.Rect.{Rect}
use Rattle.posts.specs.declared.posts.Post.{Post}
use Rattle.posts.specs.Callers.{list_of}
use Rattle.posts.specs.Maps.{Map}
use Rattle.posts.specs.Posts.{post_count}
use Rattle.posts.proofs.PostCounts.{count_none}
use Rattle.script_text.specs.declared.faults.ScriptFault.{ScriptFault}
use Rattle.script_text.specs.declared.forms.CallerPost.{CallerPost}
use Rattle.script_text.specs.declared.items.ScriptItem.{ScriptItem}
use Rattle.script_text.specs.declared.parts.Rules.{Rules}
use Rattle.script_text.specs.declared.parts.Part.{Part}
use Rattle.script_text.specs.declared.parts.Part.TheVariants.{BeforeMap, InBase, InTurns}
use Rattle.script_text.specs.Forms.{map_of, base_of, post_of, end_of}
use Rattle.script_text.specs.Led.{AreTurns, HasTurn, Led, LedBy, posts_in}
use Rattle.script_text.specs.Pushed.{EndTold, item_of}
use Rattle.input_lines.specs.Lines.{full_lines, tail_of}
use Rattle.script_text.specs.Reader.{Held, GoesOn, rules_at}
use Rattle.script_text.specs.Script.{Item, begins, adds_base, ends_turn, Place, Stop, whole_input, too_long, bad_line, Ends, at_place, stuck_by, Walk, arrived, stuck, chain, chain_from, map_line, bad, no_posts, with_post, rules_of, end_line, turn_line, base_line, placed_in, placed, is_long, counted, accept, reading_of, walk, finish_in, finish, last_line, reading}
use Rattle.script_text.specs.inner.Judging.{EndsHere, IsInTurns}

pub turns_both : (xs ys : List Item) → AreTurns xs → AreTurns ys → AreTurns (xs ++ ys)
turns_both [] ys x y = y
turns_both (begins m ∷ xs) ys x y = absurd x
turns_both (adds_base rects ∷ xs) ys x y = absurd x
turns_both (ends_turn posts ∷ xs) ys x y = turns_both xs ys x y

-- a turn among items is one of the first or of the others
turn_in : (to : Type 0) (xs ys : List Item) → (HasTurn xs → to) → (HasTurn ys → to) → HasTurn (xs ++ ys) → to
turn_in to [] ys first next has = next has
turn_in to (begins m ∷ xs) ys first next has = turn_in to xs ys first next has
turn_in to (adds_base rects ∷ xs) ys first next has = turn_in to xs ys first next has
turn_in to (ends_turn posts ∷ xs) ys first next has = first tt

posts_both : (xs ys : List Item) → posts_in (xs ++ ys) ≡ posts_in xs + posts_in ys
posts_both [] ys = omega arith
posts_both (begins m ∷ xs) ys = posts_both xs ys
posts_both (adds_base rects ∷ xs) ys = posts_both xs ys
posts_both (ends_turn posts ∷ xs) ys = omega (arith, posts_both xs ys)

-- ---- places

place_in : Place → Ends → Place
place_in default (at_place p) = p
place_in default (stuck_by stop) = default

-- a walk that arrives does so once
arrives : (Is : List Item → Place → Type 0) (xs ys : List Item) (p q : Place) → arrived xs p ≡ arrived ys q → Is xs p → Is ys q
unfolding place_in
arrives Is xs ys p q is x = subst (λ (w : Walk). Is w.items (place_in p w.ends)) is x

never : {A : Type 0} (stop : Stop) (items xs : List Item) (q : Place) → record { items = xs; ends = stuck_by stop } ≡ arrived items q → A
never stop items xs q is = let ends : stuck_by stop ≡ at_place q = ap (λ (w : Walk). w.ends) is in absurd (cc)

-- the two walks of a chain that arrives
pub record Both (w : Walk) (go_on : Place → Walk) (items : List Item) (q : Place) : Type 0 where
  pub first : List Item
  pub mid : Place
  pub second : List Item
  pub led : w ≡ arrived first mid
  pub on : go_on mid ≡ arrived second q
  pub all : items ≡ first ++ second

both_from : (xs : List Item) (ends : Ends) (go_on : Place → Walk) (items : List Item) (q : Place) → chain_from xs ends go_on ≡ arrived items q
    → Both (record { items = xs; ends = ends }) go_on items q
both_from xs (at_place p) go_on items q is =
    let ends : (go_on p).ends ≡ at_place q = ap (λ (w : Walk). w.ends) is in
    record {
      first = xs;
      mid = p;
      second = (go_on p).items;
      led = refl;
      on = λ i. record { items = (go_on p).items; ends = ends i };
      all = sym (ap (λ (w : Walk). w.items) is);
    }
both_from xs (stuck_by stop) go_on items q is = never stop items xs q is

-- ---- one line

-- a post more for a caller
count_with : (lists : List (List Post)) (caller : ℕ) (post : Post) → post_count (set lists caller (list_of lists caller ++ post ∷ [])) ≤ post_count lists + 1
count_with [] caller post = omega arith
count_with (own ∷ lists) zero post =
    omega (arith, sum_by-cons length (own ++ post ∷ []) lists, sum_by-cons length own lists, length-append own (post ∷ []))
count_with (own ∷ lists) (suc caller) post =
    omega (arith, sum_by-cons length own (set lists caller (list_of lists caller ++ post ∷ [])), sum_by-cons length own lists, count_with lists caller post)

-- a line led from the place that has counted it
record Line (p : Place) (items : List Item) (q : Place) : Type 0 where
  turns : IsInTurns p.part → IsInTurns q.part × AreTurns items
  begun : HasTurn items → IsInTurns q.part
  bytes : q.bytes ≡ p.bytes
  few : length items ≤ 1
  posts : posts_in items + post_count q.posts + length items ≤ post_count p.posts + 1

stands : (p q : Place) (items : List Item) → (IsInTurns p.part → IsInTurns q.part × AreTurns items) → (HasTurn items → IsInTurns q.part) → q.bytes ≡ p.bytes → length items ≤ 1
    → posts_in items + post_count q.posts + length items ≤ post_count p.posts + 1 → Line p items q
stands p q items turns begun bytes few posts = record { turns = turns; begun = begun; bytes = bytes; few = few; posts = posts }

if_turn : (p to : Place) (posts : List (List Post)) (same : Bool) (items : List Item) (q : Place) → IsInTurns to.part → to.bytes ≡ p.bytes
    → post_count posts + post_count to.posts ≤ post_count p.posts → (if same then arrived (ends_turn posts ∷ []) to else bad p) ≡ arrived items q → Line p items q
if_turn p to posts true items q inside bytes few is =
    arrives (Line p) (ends_turn posts ∷ []) items to q is (stands p to (ends_turn posts ∷ []) (λ _. (inside, tt)) (λ _. inside) bytes (omega arith) (omega (arith, few)))
if_turn p to posts false items q inside bytes few is = never _ items [] q is

line_end : (p : Place) (rules : Rules) (number : Option ℕ) (items : List Item) (q : Place) → end_line p rules number ≡ arrived items q → Line p items q
line_end p rules None items q is = never _ items [] q is
line_end p rules (Some number) items q is =
    if_turn p (record p { part = InTurns rules; turns = p.turns + 1; posts = no_posts rules.callers }) p.posts (number == p.turns + 1) items q tt refl
    (omega (arith, count_none rules.callers)) is

line_turn : (p : Place) (rules : Rules) (said : Option CallerPost) (number : Option ℕ) (items : List Item) (q : Place)
    → turn_line p rules said number ≡ arrived items q → Line p items q
line_turn p rules None number items q is = line_end p rules number items q is
line_turn p rules (Some said) number items q is =
    let to : Place = record p { part = InTurns rules; posts = with_post p.posts said } in
    arrives (Line p) [] items to q is (stands p to [] (λ _. (tt, tt)) (λ has. absurd has) refl (omega arith) (omega (arith, count_with p.posts said.caller said.post)))

line_base : (p : Place) (rules : Rules) (d : Option Data) (rects : Option (List (Rect × ℕ))) (items : List Item) (q : Place) → (IsInTurns p.part → ⊥)
    → base_line p rules d rects ≡ arrived items q → Line p items q
line_base p rules d None items q before is =
    line_turn p rules (option_and_then (post_of rules.version rules.callers) d) (option_and_then end_of d) items q is
line_base p rules d (Some rects) items q before is =
    arrives (Line p) (adds_base rects ∷ []) items p q is (stands p p (adds_base rects ∷ []) (λ inside. absurd (before inside)) (λ has. absurd has) refl (omega arith) (omega arith))

line_map : (p : Place) (found : Option Map) (items : List Item) (q : Place) → (IsInTurns p.part → ⊥) → map_line p found ≡ arrived items q → Line p items q
line_map p None items q before is = never _ items [] q is
line_map p (Some m) items q before is =
    let to : Place = record p { part = InBase (rules_of m); posts = no_posts m.callers } in
    arrives (Line p) (begins m ∷ []) items to q is (stands p to (begins m ∷ []) (λ inside. absurd (before inside)) (λ has. absurd has) refl (omega arith)
    (omega (arith, count_none m.callers)))

line_in : (part : Part) (p : Place) (d : Option Data) (items : List Item) (q : Place) → p.part ≡ part → placed_in part p d ≡ arrived items q → Line p items q
line_in BeforeMap p d items q at is = line_map p (option_and_then map_of d) items q (λ inside. subst IsInTurns at inside) is
line_in (InBase rules) p d items q at is =
    line_base p rules d (option_and_then (base_of rules.size) d) items q (λ inside. subst IsInTurns at inside) is
line_in (InTurns rules) p d items q at is =
    line_turn p rules (option_and_then (post_of rules.version rules.callers) d) (option_and_then end_of d) items q is

line_if : (long : Bool) (p : Place) (d : Option Data) (items : List Item) (q : Place)
    → (if long then stuck (too_long p.lines) else placed p d) ≡ arrived items q → Line p items q
line_if true p d items q is = never _ items [] q is
line_if false p d items q is = line_in p.part p d items q refl is

pub led_line : (size : ℕ) (line : List ℕ) (p : Place) (items : List Item) (q : Place) → 1 ≤ size → accept size line p ≡ arrived items q → Led p items q
led_line size line p items q some is =
    let l = line_if (is_long p size line) (counted p size) (reading_of line) items q is in
    let bytes = l.bytes in
    let few = l.few in
    let posts = l.posts in
    record { turns = l.turns; begun = l.begun; bytes = omega (arith, some, bytes, few); posts = omega (arith, some, bytes, posts) }

-- ---- lines

pub led_nowhere : (p : Place) → Led p [] p
led_nowhere p = record { turns = λ inside. (inside, tt); begun = λ has. absurd has; bytes = omega arith; posts = omega arith }

pub led_both : (p q r : Place) (xs ys : List Item) → Led p xs q → Led q ys r → Led p (xs ++ ys) r
led_both p q r xs ys first next =
    let less = first.bytes in
    let more = next.bytes in
    let all = length-append xs ys in
    let fewer = first.posts in
    let fewest = next.posts in
    record {
      turns = λ inside.
          let mid = first.turns inside in
          let end = next.turns mid.0 in
          (end.0, turns_both xs ys mid.1 end.1);
      begun = turn_in (IsInTurns r.part) xs ys (λ has. (next.turns (first.begun has)).0) next.begun;
      bytes = omega (arith, less, more, all);
      posts = omega (arith, fewer, fewest, all, posts_both xs ys);
    }

pub led : (lines : List (List ℕ)) (p : Place) (items : List Item) (q : Place) → walk lines p ≡ arrived items q → Led p items q
led [] p items q is = arrives (Led p) [] items p q is (led_nowhere p)
led (line ∷ lines) p items q is =
    let w = accept (length line + 1) line p in
    let b = both_from w.items w.ends (λ r. walk lines r) items q is in
    let first = led_line (length line + 1) line p b.first b.mid (omega arith) b.led in
    let next = led lines b.mid b.second q b.on in
    subst (λ (xs : List Item). Led p xs q) (sym b.all) (led_both p b.mid q b.first b.second first next)

-- what a call made of the place, where the end of the input was not met
pub led_on : (old new : Held) (before after : List ℕ) (items : List Item) → GoesOn old new before after items → IsFalse new.ended → Led old.place items new.place
led_on old new before after items g going =
    let u = g.used going in
    led u.lines old.place items new.place u.walked

-- ---- inputs that are whole have a map

-- an item is given, or the walk is stuck at a line
abbrev Opens : List Item → Ends → Type 0
Opens [] (at_place q) = ⊥
Opens [] (stuck_by whole_input) = ⊥
Opens [] (stuck_by (too_long n)) = ⊤
Opens [] (stuck_by (bad_line n)) = ⊤
Opens (item ∷ items) ends = ⊤

opens_map : (p : Place) (found : Option Map) → Opens (map_line p found).items (map_line p found).ends
opens_map p None = tt
opens_map p (Some m) = tt

opens_in : (part : Part) (p : Place) (d : Option Data) → part ≡ BeforeMap → Opens (placed_in part p d).items (placed_in part p d).ends
opens_in BeforeMap p d at = opens_map p (option_and_then map_of d)
opens_in (InBase rules) p d at = absurd (cc)
opens_in (InTurns rules) p d at = absurd (cc)

opens_if : (long : Bool) (n : ℕ) (w : Walk) → Opens w.items w.ends
    → Opens (if long then stuck (too_long n) else w).items (if long then stuck (too_long n) else w).ends
opens_if true n w opens = tt
opens_if false n w opens = opens

opens_line : (size : ℕ) (line : List ℕ) (p : Place) → p.part ≡ BeforeMap → Opens (accept size line p).items (accept size line p).ends
opens_line size line p at = opens_if (is_long p size line) (p.lines + 1) (placed (counted p size) (reading_of line)) (opens_in p.part (counted p size) (reading_of line) at)

opens_chain : (items : List Item) (ends : Ends) (go_on : Place → Walk) → Opens items ends → Opens (chain_from items ends go_on).items (chain_from items ends go_on).ends
opens_chain [] (at_place q) go_on opens = absurd opens
opens_chain [] (stuck_by stop) go_on opens = opens
opens_chain (item ∷ items) (at_place q) go_on opens = tt
opens_chain (item ∷ items) (stuck_by stop) go_on opens = tt

opens_end : (part : Part) (p : Place) → part ≡ BeforeMap → Opens (finish_in part p).items (finish_in part p).ends
opens_end BeforeMap p at = tt
opens_end (InBase rules) p at = absurd (cc)
opens_end (InTurns rules) p at = absurd (cc)

opens_last : (tail : List ℕ) (p : Place) → p.part ≡ BeforeMap → Opens (last_line tail p).items (last_line tail p).ends
opens_last [] p at = opens_end p.part p at
opens_last (byte ∷ bytes) p at =
    let w = accept (length (byte ∷ bytes)) (byte ∷ bytes) p in
    opens_chain w.items w.ends finish (opens_line (length (byte ∷ bytes)) (byte ∷ bytes) p at)

opens_all : (lines : List (List ℕ)) (tail : List ℕ) (p : Place) → p.part ≡ BeforeMap
    → Opens (chain (walk lines p) (λ q. last_line tail q)).items (chain (walk lines p) (λ q. last_line tail q)).ends
opens_all [] tail p at = opens_last tail p at
opens_all (line ∷ lines) tail p at =
    let w = accept (length line + 1) line p in
    let all = walk (line ∷ lines) p in
    opens_chain all.items all.ends (λ q. last_line tail q) (opens_chain w.items w.ends (λ q. walk lines q) (opens_line (length line + 1) line p at))

begun_part : (part : Part) → (part ≡ BeforeMap → ⊥) → IsSome (rules_at part)
begun_part BeforeMap none = absurd (none refl)
begun_part (InBase rules) none = refl
begun_part (InTurns rules) none = refl

-- an input is whole only behind its map line
pub whole_begun : (bytes : List ℕ) (p : Place) → reading bytes p ≡ stuck whole_input → IsSome (rules_at p.part)
whole_begun bytes p is = begun_part p.part (λ at. subst (λ (w : Walk). Opens w.items w.ends) is (opens_all (full_lines bytes) (tail_of bytes) p at))

-- ---- where answers lead

-- an input that ends gives nothing more
pub ends_led : (first last : Held) (w : Walk) (result : Result (Option ScriptItem) ScriptFault) → EndTold first last result → EndsHere w result → LedBy first.place last.place result
ends_led first last w (Ok None) told ends = whole_begun first.bytes first.place told.0
ends_led first last w (Ok (Some item)) told ends = absurd ends
ends_led first last w (Err fault) told ends = tt

-- behind lines that gave nothing
pub led_then : (p q r : Place) (result : Result (Option ScriptItem) ScriptFault) → Led p [] q → rules_at q.part ≡ rules_at p.part → LedBy q r result → LedBy p r result
led_then p q r (Ok (Some item)) first same next = led_both p q r [] (item_of item ∷ []) first next
led_then p q r (Ok None) first same next = subst (λ rules. IsSome rules) same next
led_then p q r (Err fault) first same next = tt
