-- The reading of an input that is whole, in the grammar's words, and the way back.
use Rattle.std.proofs.Common.{◌≡◌, inl, inr, ℕ, ◌+◌, ◌≤◌, ◌==◌, Bool, true, false, cond, nat_lt, All, List, [], ◌∷◌, ◌++◌, length, Option, None, Some, option_and_then, refl, sym, ap, subst, ◌∙◌, arith, eq-eqb, eqb-true}
use Rattle.std.specs.List.{list_all}
use Rattle.std.proofs.lemmas.Bool.{or_parts, or_from, ltb-false, le-ltb}
use Rattle.std.proofs.lemmas.List.Elements.{All-nil, All-cons, All-head, All-tail}
use Rattle.serde_json.specs.Data.{Data}
use Rattle.nav_types.specs.declared.cells.Rect.{Rect}
use Rattle.nav_types.specs.declared.cells.Size.{Size}
use Rattle.posts.specs.declared.posts.Post.{Post}
use Rattle.posts.specs.Maps.{Map, with_base}
use Rattle.script_text.specs.declared.forms.CallerPost.{CallerPost}
use Rattle.script_text.specs.declared.parts.Rules.{Rules}
use Rattle.script_text.specs.declared.parts.Part.{Part}
use Rattle.script_text.specs.declared.parts.Part.TheVariants.{BeforeMap, InBase, InTurns}
use Rattle.script_text.specs.Forms.{map_of, base_of, post_of, end_of}
use Rattle.script_text.specs.Grammar.{IsMapLine, IsPostLine, IsEndLine, base_line as says_base, post_line as says_post, end_line as says_end}
use Rattle.script_text.specs.Script.{rules_of, Place, beginning, Item, begins, adds_base, ends_turn, Ends, at_place, stuck_by, Walk, arrived, stuck, chain_from, chain, map_after, turns_of, reading_of, counted, bad, no_posts, map_line, with_post, end_line, turn_line, placed_in_turn, base_line, placed_in, placed, is_long, too_long, accept, is_empty, whole_input, bad_line}
use Rattle.script_text.specs.Reader.{stuck_after}
use Rattle.script_text.specs.ReadsBack.{ReadsAs}
use Rattle.script_text.proofs.GrammarLines.{map-is, map-from, base-is, base-from, end-is, end-from}
use Rattle.script_text.proofs.GrammarPosts.{post-is, post-from, one_line}
use Rattle.match_laws.specs.Scripts.{AreValues, AreShort, IsScriptText, lines_of}
use Rattle.match_laws.proofs.ScriptLines.{sized, texts, total, passes, texts-lines, total-length, reading-passes, Rest, BaseRest, parts_of, rest_base}

-- ---- a value is a line of one form

pub not_base-post : (version callers : ℕ) (size : Size) (d : Data) (said : CallerPost)
    → post_of version callers d ≡ Some said → base_of size d ≡ None
not_base-post version callers size d said e = by_base (base_of size d) refl
  where
    by_base : (o : Option (List (Rect × ℕ))) → base_of size d ≡ o → base_of size d ≡ None
    by_base None f = f
    by_base (Some rects) f =
        let same : says_base rects ≡ says_post said =
        one_line version callers size d (says_base rects) (says_post said) (base-is size d rects f)
        (post-is version callers d said e) in
        absurd (cc)

pub not_base-end : (size : Size) (d : Data) (turn : ℕ) → end_of d ≡ Some turn → base_of size d ≡ None
not_base-end size d turn e = by_base (base_of size d) refl
  where
    by_base : (o : Option (List (Rect × ℕ))) → base_of size d ≡ o → base_of size d ≡ None
    by_base None f = f
    by_base (Some rects) f =
        let same : says_base rects ≡ says_end turn =
        one_line 1 1 size d (says_base rects) (says_end turn) (base-is size d rects f) (end-is d turn e) in
        absurd (cc)

not_post-end : (version callers : ℕ) (size : Size) (d : Data) (turn : ℕ) → end_of d ≡ Some turn
    → post_of version callers d ≡ None
not_post-end version callers size d turn e = by_post (post_of version callers d) refl
  where
    by_post : (o : Option CallerPost) → post_of version callers d ≡ o → post_of version callers d ≡ None
    by_post None f = f
    by_post (Some said) f =
        let same : says_post said ≡ says_end turn =
        one_line version callers size d (says_post said) (says_end turn) (post-is version callers d said f)
        (end-is d turn e) in
        absurd (cc)

-- ---- stops

is_whole : Ends → Bool
is_whole (at_place p) = false
is_whole (stuck_by whole_input) = true
is_whole (stuck_by (too_long n)) = false
is_whole (stuck_by (bad_line n)) = false

-- what stops otherwise is no whole input
not_whole : {A : Type 0} (e : Ends) → is_whole e ≡ false → e ≡ stuck_by whole_input → A
unfolding is_whole
not_whole e other is = let clash : false ≡ true = sym other ∙ ap is_whole is in absurd (cc)

long_stops : {A : Type 0} {n : ℕ} → stuck_by (too_long n) ≡ stuck_by whole_input → A
unfolding is_whole
long_stops {A} {n} is = not_whole (stuck_by (too_long n)) refl is

bad_stops : {A : Type 0} (n : ℕ) → stuck_by (bad_line n) ≡ stuck_by whole_input → A
unfolding is_whole
bad_stops n is = not_whole (stuck_by (bad_line n)) refl is

-- ---- limits

-- the lines are short, and so is the input with them behind so many bytes
pub record Limits (b : ℕ) (lines : List (ℕ × List ℕ)) : Type 0 where
  pub short : All (λ (line : List ℕ). length line ≤ 8388608) (texts lines)
  pub whole : b ≤ 4294967296 → b + total lines ≤ 4294967296

abbrev KeepsBytes : ℕ → Ends → Type 0
KeepsBytes b (at_place q) = q.bytes ≡ b
KeepsBytes b (stuck_by stop) = Unit {0}

map_keeps : (p : Place) (m : Option Map) → KeepsBytes p.bytes (map_line p m).ends
map_keeps p None = tt
map_keeps p (Some m) = refl

end_keeps : (p : Place) (rules : Rules) (number : Option ℕ) → KeepsBytes p.bytes (end_line p rules number).ends
end_keeps p rules None = tt
end_keeps p rules (Some number) = by_number (number == p.turns + 1)
  where
    by_number : (same : Bool) → KeepsBytes p.bytes (cond same
        (arrived (ends_turn p.posts ∷ []) (record p { part = InTurns rules; turns = p.turns + 1; posts = no_posts rules.callers })) (bad p)).ends
    by_number true = refl
    by_number false = tt

turn_keeps : (p : Place) (rules : Rules) (said : Option CallerPost) (number : Option ℕ) → KeepsBytes p.bytes (turn_line p rules said number).ends
turn_keeps p rules (Some said) number = refl
turn_keeps p rules None number = end_keeps p rules number

in_turn_keeps : (p : Place) (rules : Rules) (d : Option Data) → KeepsBytes p.bytes (placed_in_turn p rules d).ends
in_turn_keeps p rules d = turn_keeps p rules (option_and_then (post_of rules.version rules.callers) d) (option_and_then end_of d)

base_keeps : (p : Place) (rules : Rules) (d : Option Data) (rects : Option (List (Rect × ℕ))) → KeepsBytes p.bytes (base_line p rules d rects).ends
base_keeps p rules d (Some rects) = refl
base_keeps p rules d None = in_turn_keeps p rules d

placed_keeps : (part : Part) (p : Place) (d : Option Data) → KeepsBytes p.bytes (placed_in part p d).ends
placed_keeps BeforeMap p d = map_keeps p (option_and_then map_of d)
placed_keeps (InBase rules) p d = base_keeps p rules d (option_and_then (base_of rules.size) d)
placed_keeps (InTurns rules) p d = in_turn_keeps p rules d

limits_more : (b size : ℕ) (line : List ℕ) (lines : List (ℕ × List ℕ)) → length line ≤ 8388608 → b + size ≤ 4294967296 → Limits (b + size) lines
    → Limits b ((size, line) ∷ lines)
limits_more b size line lines short few rest = record {
  short = All-cons (λ (line : List ℕ). length line ≤ 8388608) line (texts lines) short rest.short;
  whole = λ h. let all = rest.whole few in omega (arith, all);
}

limits_ends : (b size : ℕ) (line : List ℕ) (lines : List (ℕ × List ℕ)) (items : List Item) (e : Ends) → KeepsBytes (b + size) e
    → ((q : Place) → (passes lines q).ends ≡ stuck_by whole_input → Limits q.bytes lines)
    → length line ≤ 8388608 → b + size ≤ 4294967296
    → (chain_from items e (λ q. passes lines q)).ends ≡ stuck_by whole_input → (e ≡ stuck_by whole_input → Limits b ((size, line) ∷ lines))
    → Limits b ((size, line) ∷ lines)
limits_ends b size line lines items (at_place q) keeps more short few is none =
    limits_more b size line lines short few (subst (λ (n : ℕ). Limits n lines) keeps (more q is))
limits_ends b size line lines items (stuck_by stop) keeps more short few is none = none is

-- no line ends an input
map_goes : (p : Place) (m : Option Map) → is_whole (map_line p m).ends ≡ false
unfolding is_whole
map_goes p None = refl
map_goes p (Some m) = refl

end_goes : (p : Place) (rules : Rules) (number : Option ℕ) → is_whole (end_line p rules number).ends ≡ false
unfolding is_whole
end_goes p rules None = refl
end_goes p rules (Some number) = by_number (number == p.turns + 1)
  where
    by_number : (same : Bool) → is_whole (cond same
        (arrived (ends_turn p.posts ∷ []) (record p { part = InTurns rules; turns = p.turns + 1; posts = no_posts rules.callers })) (bad p)).ends ≡ false
    by_number true = refl
    by_number false = refl

turn_goes : (p : Place) (rules : Rules) (said : Option CallerPost) (number : Option ℕ) → is_whole (turn_line p rules said number).ends ≡ false
unfolding is_whole
turn_goes p rules (Some said) number = refl
turn_goes p rules None number = end_goes p rules number

in_turn_goes : (p : Place) (rules : Rules) (d : Option Data) → is_whole (placed_in_turn p rules d).ends ≡ false
in_turn_goes p rules d = turn_goes p rules (option_and_then (post_of rules.version rules.callers) d) (option_and_then end_of d)

base_goes : (p : Place) (rules : Rules) (d : Option Data) (rects : Option (List (Rect × ℕ))) → is_whole (base_line p rules d rects).ends ≡ false
unfolding is_whole
base_goes p rules d (Some rects) = refl
base_goes p rules d None = in_turn_goes p rules d

placed_goes : (part : Part) (p : Place) (d : Option Data) → is_whole (placed_in part p d).ends ≡ false
placed_goes BeforeMap p d = map_goes p (option_and_then map_of d)
placed_goes (InBase rules) p d = base_goes p rules d (option_and_then (base_of rules.size) d)
placed_goes (InTurns rules) p d = in_turn_goes p rules d

limits_line : (lines : List (ℕ × List ℕ)) (size : ℕ) (line : List ℕ) (p : Place) (long : Bool) → is_long p size line ≡ long
    → ((q : Place) → (passes lines q).ends ≡ stuck_by whole_input → Limits q.bytes lines)
    → (chain (cond long (stuck (too_long (p.lines + 1))) (placed (counted p size) (reading_of line))) (λ q. passes lines q)).ends ≡ stuck_by whole_input
    → Limits p.bytes ((size, line) ∷ lines)
limits_line lines size line p true e more is = long_stops is
limits_line lines size line p false e more is =
    let limits = or_parts (nat_lt 8388608 (length line)) (nat_lt 4294967296 (p.bytes + size)) e in
    let w = placed (counted p size) (reading_of line) in
    limits_ends p.bytes size line lines w.items w.ends (placed_keeps p.part (counted p size) (reading_of line)) more
    (ltb-false 8388608 (length line) limits.0) (ltb-false 4294967296 (p.bytes + size) limits.1) is
    (λ whole. not_whole w.ends (placed_goes p.part (counted p size) (reading_of line)) whole)

limits_told : (lines : List (ℕ × List ℕ)) (p : Place) → (passes lines p).ends ≡ stuck_by whole_input → Limits p.bytes lines
limits_told [] p is = record { short = All-nil (λ (line : List ℕ). length line ≤ 8388608); whole = λ h. omega (arith, h) }
limits_told ((size, line) ∷ lines) p is =
    limits_line lines size line p (is_long p size line) refl (λ q more. limits_told lines q more) is

-- ---- what lines say

-- the lines from a place on say the rest of a turn, and turns after it
record Tells (m : Map) (number : ℕ) (posts : List (List Post)) (lines : List (List ℕ)) (items : List Item) : Type 0 where
  values : List Data
  are : AreValues lines values
  rest : Rest m number posts (turns_of items) values
  map : map_after (Some m) items ≡ Some m

abbrev pub place : ℕ → ℕ → Part → ℕ → List (List Post) → Place
place b l part n posts = record { bytes = b; lines = l; part = part; turns = n; posts = posts }

abbrev pub place_in : ℕ → ℕ → Map → ℕ → List (List Post) → Place
place_in b l m n posts = place b l (InTurns (rules_of m)) n posts

abbrev pub go_on : List (ℕ × List ℕ) → Place → Walk
go_on lines q = passes lines q

abbrev TellsAll : Map → List (ℕ × List ℕ) → Type 0
TellsAll m lines = (b l n : ℕ) (posts : List (List Post)) → (passes lines (place_in b l m n posts)).ends ≡ stuck_by whole_input
    → Tells m (n + 1) posts (texts lines) (passes lines (place_in b l m n posts)).items

-- a line of a turn
told_end : (m : Map) (b l n : ℕ) (part : Part) (posts : List (List Post)) (line : List ℕ) (lines : List (ℕ × List ℕ)) (d : Data) (number : Option ℕ)
    → reading_of line ≡ Some d → end_of d ≡ number → TellsAll m lines
    → (chain (end_line (place b l part n posts) (rules_of m) number) (go_on lines)).ends ≡ stuck_by whole_input
    → Tells m (n + 1) posts (line ∷ texts lines) (chain (end_line (place b l part n posts) (rules_of m) number) (go_on lines)).items
told_end m b l n part posts line lines d None reads e more is = bad_stops l is
told_end m b l n part posts line lines d (Some number) reads e more is = by_number (number == n + 1) refl is
  where
    by_number : (same : Bool) → (number == n + 1) ≡ same
        → (chain (cond same (arrived (ends_turn posts ∷ []) (place_in b l m (n + 1) (no_posts m.callers))) (bad (place b l part n posts))) (go_on lines)).ends ≡ stuck_by whole_input
        → Tells m (n + 1) posts (line ∷ texts lines)
        (chain (cond same (arrived (ends_turn posts ∷ []) (place_in b l m (n + 1) (no_posts m.callers))) (bad (place b l part n posts))) (go_on lines)).items
    by_number false same is = bad_stops l is
    by_number true same is =
        let rest = more b l (n + 1) (no_posts m.callers) is in
        let ends : IsEndLine (n + 1) d = end-is d (n + 1) (e ∙ ap (λ (k : ℕ). Some k) (eqb-true number (n + 1) same)) in
        record {
          values = d ∷ rest.values;
          are = (reads, rest.are);
          rest = inr (turns_of (passes lines (place_in b l m (n + 1) (no_posts m.callers))).items, (refl, (ends, rest.rest)));
          map = rest.map;
        }

told_turn : (m : Map) (b l n : ℕ) (part : Part) (posts : List (List Post)) (line : List ℕ) (lines : List (ℕ × List ℕ)) (d : Data) (said : Option CallerPost)
    → reading_of line ≡ Some d → post_of m.version m.callers d ≡ said → TellsAll m lines
    → (chain (turn_line (place b l part n posts) (rules_of m) said (end_of d)) (go_on lines)).ends ≡ stuck_by whole_input
    → Tells m (n + 1) posts (line ∷ texts lines) (chain (turn_line (place b l part n posts) (rules_of m) said (end_of d)) (go_on lines)).items
told_turn m b l n part posts line lines d (Some said) reads e more is =
    let rest = more b l n (with_post posts said) is in record {
      values = d ∷ rest.values;
      are = (reads, rest.are);
      rest = inl (said, (post-is m.version m.callers d said e, rest.rest));
      map = rest.map;
    }
told_turn m b l n part posts line lines d None reads e more is = told_end m b l n part posts line lines d (end_of d) reads refl more is

told_in_turn : (m : Map) (b l n : ℕ) (part : Part) (posts : List (List Post)) (line : List ℕ) (lines : List (ℕ × List ℕ)) (d : Option Data)
    → reading_of line ≡ d → TellsAll m lines
    → (chain (placed_in_turn (place b l part n posts) (rules_of m) d) (go_on lines)).ends ≡ stuck_by whole_input
    → Tells m (n + 1) posts (line ∷ texts lines) (chain (placed_in_turn (place b l part n posts) (rules_of m) d) (go_on lines)).items
told_in_turn m b l n part posts line lines None reads more is = bad_stops l is
told_in_turn m b l n part posts line lines (Some d) reads more is =
    told_turn m b l n part posts line lines d (post_of m.version m.callers d) reads refl more is

told_finish : (m : Map) (b l n : ℕ) (posts : List (List Post)) (empty : Bool) → list_all is_empty posts ≡ empty
    → (cond empty (stuck whole_input) (stuck (bad_line (l + 1)))).ends ≡ stuck_by whole_input
    → Tells m (n + 1) posts [] (cond empty (stuck whole_input) (stuck (bad_line (l + 1)))).items
told_finish m b l n posts true e is = record { values = []; are = tt; rest = (refl, e); map = refl }
told_finish m b l n posts false e is = bad_stops (l + 1) is

turns_told : (m : Map) (lines : List (ℕ × List ℕ)) → TellsAll m lines
turns_told m [] b l n posts is = told_finish m b l n posts (list_all is_empty posts) refl is
turns_told m ((size, line) ∷ lines) b l n posts is = by_long (turns_told m lines) (is_long (place_in b l m n posts) size line) is
  where
    by_long : TellsAll m lines → (long : Bool)
        → (chain (cond long (stuck (too_long (l + 1))) (placed (counted (place_in b l m n posts) size) (reading_of line))) (go_on lines)).ends ≡ stuck_by whole_input
        → Tells m (n + 1) posts (line ∷ texts lines)
        (chain (cond long (stuck (too_long (l + 1))) (placed (counted (place_in b l m n posts) size) (reading_of line))) (go_on lines)).items
    by_long more true is = long_stops is
    by_long more false is =
        told_in_turn m (b + size) (l + 1) n (InTurns (rules_of m)) posts line lines (reading_of line) refl more is

-- the lines behind a map line, or a base line, say base lines, and turns after them
record TellsBase (m : Map) (lines : List (List ℕ)) (items : List Item) : Type 0 where
  whole : Map
  values : List Data
  are : AreValues lines values
  rest : BaseRest m whole (turns_of items) values
  map : map_after (Some m) items ≡ Some whole

abbrev pub place_base : ℕ → ℕ → Map → Place
place_base b l m = place b l (InBase (rules_of m)) 0 (no_posts m.callers)

abbrev TellsAllBase : List (ℕ × List ℕ) → Type 0
TellsAllBase lines = (m : Map) (b l : ℕ) → (passes lines (place_base b l m)).ends ≡ stuck_by whole_input
    → TellsBase m (texts lines) (passes lines (place_base b l m)).items

turn_first : (m : Map) (line : List ℕ) (lines : List (List ℕ)) (items : List Item) → Tells m 1 (no_posts m.callers) (line ∷ lines) items
    → TellsBase m (line ∷ lines) items
turn_first m line lines items tells = by_values tells.values tells.are tells.rest
  where
    by_values : (values : List Data) → AreValues (line ∷ lines) values → Rest m 1 (no_posts m.callers) (turns_of items) values → TellsBase m (line ∷ lines) items
    by_values [] are rest = absurd are
    by_values (d ∷ ds) are rest = record { whole = m; values = d ∷ ds; are = are; rest = inr (refl, rest); map = tells.map }

told_base : (m : Map) (b l : ℕ) (line : List ℕ) (lines : List (ℕ × List ℕ)) (d : Data) (rects : Option (List (Rect × ℕ)))
    → reading_of line ≡ Some d → base_of m.size d ≡ rects → TellsAllBase lines
    → (chain (base_line (place_base b l m) (rules_of m) (Some d) rects) (go_on lines)).ends ≡ stuck_by whole_input
    → TellsBase m (line ∷ texts lines) (chain (base_line (place_base b l m) (rules_of m) (Some d) rects) (go_on lines)).items
told_base m b l line lines d (Some rects) reads e more is =
    let rest = more (with_base m rects) b l is in record {
      whole = rest.whole;
      values = d ∷ rest.values;
      are = (reads, rest.are);
      rest = inl (rects, (base-is m.size d rects e, rest.rest));
      map = rest.map;
    }
told_base m b l line lines d None reads e more is =
    turn_first m line (texts lines) (chain (placed_in_turn (place_base b l m) (rules_of m) (Some d)) (go_on lines)).items
    (told_in_turn m b l 0 (InBase (rules_of m)) (no_posts m.callers) line lines (Some d) reads (turns_told m lines) is)

told_in_base : (m : Map) (b l : ℕ) (line : List ℕ) (lines : List (ℕ × List ℕ)) (d : Option Data)
    → reading_of line ≡ d → TellsAllBase lines
    → (chain (placed_in (InBase (rules_of m)) (place_base b l m) d) (go_on lines)).ends ≡ stuck_by whole_input
    → TellsBase m (line ∷ texts lines) (chain (placed_in (InBase (rules_of m)) (place_base b l m) d) (go_on lines)).items
told_in_base m b l line lines None reads more is = bad_stops l is
told_in_base m b l line lines (Some d) reads more is = told_base m b l line lines d (base_of m.size d) reads refl more is

base_told : (lines : List (ℕ × List ℕ)) → TellsAllBase lines
base_told [] m b l is = record { whole = m; values = []; are = tt; rest = (refl, refl); map = refl }
base_told ((size, line) ∷ lines) m b l is = by_long (base_told lines) (is_long (place_base b l m) size line) is
  where
    by_long : TellsAllBase lines → (long : Bool)
        → (chain (cond long (stuck (too_long (l + 1))) (placed (counted (place_base b l m) size) (reading_of line))) (go_on lines)).ends ≡ stuck_by whole_input
        → TellsBase m (line ∷ texts lines)
        (chain (cond long (stuck (too_long (l + 1))) (placed (counted (place_base b l m) size) (reading_of line))) (go_on lines)).items
    by_long more true is = long_stops is
    by_long more false is = told_in_base m (b + size) (l + 1) line lines (reading_of line) refl more is

-- ---- whole scripts

record TellsScript (lines : List (List ℕ)) (items : List Item) : Type 0 where
  whole : Map
  map : map_after None items ≡ Some whole
  says : IsScriptText whole (turns_of items) lines

told_map : (b l : ℕ) (line : List ℕ) (lines : List (ℕ × List ℕ)) (d : Data) (m : Option Map) → reading_of line ≡ Some d → map_of d ≡ m
    → (chain (map_line (place b l BeforeMap 0 []) m) (go_on lines)).ends ≡ stuck_by whole_input
    → TellsScript (line ∷ texts lines) (chain (map_line (place b l BeforeMap 0 []) m) (go_on lines)).items
told_map b l line lines d None reads e is = bad_stops l is
told_map b l line lines d (Some m) reads e is =
    let rest = base_told lines m b l is in
    let items = (passes lines (place_base b l m)).items in
    let parts = parts_of m rest.whole (turns_of items) rest.values rest.rest in
    record {
      whole = rest.whole;
      map = rest.map;
      says = record {
        values = d ∷ rest.values;
        are = (reads, rest.are);
        script = record {
          first = d;
          base = parts.base;
          rest = parts.rest;
          lines = ap (λ (more : List Data). d ∷ more) parts.all;
          bare = m;
          map = map-is d m e;
          rectangles = parts.rectangles;
          posts = parts.posts;
        };
      };
    }

told_first : (b l : ℕ) (line : List ℕ) (lines : List (ℕ × List ℕ)) (d : Option Data) → reading_of line ≡ d
    → (chain (placed_in BeforeMap (place b l BeforeMap 0 []) d) (go_on lines)).ends ≡ stuck_by whole_input
    → TellsScript (line ∷ texts lines) (chain (placed_in BeforeMap (place b l BeforeMap 0 []) d) (go_on lines)).items
told_first b l line lines None reads is = bad_stops l is
told_first b l line lines (Some d) reads is = told_map b l line lines d (map_of d) reads refl is

script_told : (lines : List (ℕ × List ℕ)) → (passes lines beginning).ends ≡ stuck_by whole_input
    → TellsScript (texts lines) (passes lines beginning).items
script_told [] is = bad_stops 1 is
script_told ((size, line) ∷ lines) is = by_long (is_long beginning size line) is
  where
    by_long : (long : Bool)
        → (chain (cond long (stuck (too_long 1)) (placed (counted beginning size) (reading_of line))) (go_on lines)).ends ≡ stuck_by whole_input
        → TellsScript (line ∷ texts lines) (chain (cond long (stuck (too_long 1)) (placed (counted beginning size) (reading_of line))) (go_on lines)).items
    by_long true is = long_stops is
    by_long false is = told_first (0 + size) 1 line lines (reading_of line) refl is

some_same : {A : Type 0} (a b : A) → Some a ≡ Some b → a ≡ b
some_same a b e = cc

pub read_is_script : (m : Map) (turns : List (List (List Post))) (bytes : List ℕ) → ReadsAs m turns bytes
    → AreShort bytes × IsScriptText m turns (lines_of bytes)
read_is_script m turns bytes reads =
    let whole : passes (sized bytes) beginning ≡ stuck_after reads.items whole_input = sym (reading-passes bytes beginning) ∙ reads.whole in
    let ends : (passes (sized bytes) beginning).ends ≡ stuck_by whole_input = ap (λ (w : Walk). w.ends) whole in
    let items : (passes (sized bytes) beginning).items ≡ reads.items = ap (λ (w : Walk). w.items) whole in
    let limits = limits_told (sized bytes) beginning ends in
    let told = script_told (sized bytes) ends in
    let maps : told.whole ≡ m = some_same told.whole m (sym told.map ∙ ap (λ (all : List Item). map_after None all) items ∙ reads.says_map) in
    let said : turns_of (passes (sized bytes) beginning).items ≡ turns = ap turns_of items ∙ reads.says_turns in
    let few = limits.whole (omega arith) in
    let size = total-length bytes in (
      record {
        lines = subst (λ (all : List (List ℕ)). All (λ (line : List ℕ). length line ≤ 8388608) all) (texts-lines bytes) limits.short;
        whole = omega (arith, few, size);
      },
      subst (λ (t : List (List (List Post))). IsScriptText m t (lines_of bytes)) said
          (subst (λ (now : Map). IsScriptText now (turns_of (passes (sized bytes) beginning).items) (lines_of bytes)) maps
          (subst (λ (all : List (List ℕ)). IsScriptText told.whole (turns_of (passes (sized bytes) beginning).items) all) (texts-lines bytes) told.says)),
    )

-- ---- the way back

-- a walk to the end of an input that is whole, between these maps
record Reads (from to : Map) (turns : List (List (List Post))) (w : Walk) : Type 0 where
  items : List Item
  is : w ≡ stuck_after items whole_input
  says_map : map_after (Some from) items ≡ Some to
  says_turns : turns_of items ≡ turns

line_fits : (size : ℕ) (line : List ℕ) (p : Place) (d : Data) → length line ≤ 8388608 → p.bytes + size ≤ 4294967296
    → reading_of line ≡ Some d → accept size line p ≡ placed (counted p size) (Some d)
line_fits size line p d short few reads =
    let e : is_long p size line ≡ false =
    or_from (nat_lt 8388608 (length line)) (nat_lt 4294967296 (p.bytes + size))
    (le-ltb 8388608 (length line) short) (le-ltb 4294967296 (p.bytes + size) few) in
    ap (λ (b : Bool). cond b (stuck (too_long (p.lines + 1))) (placed (counted p size) (reading_of line))) e ∙ ap (placed (counted p size)) reads

-- what a line gives in its place, and the rest behind it
chain_is : (w : Walk) (items : List Item) (q : Place) (g : Place → Walk) (more : List Item) → w ≡ arrived items q → g q ≡ stuck_after more whole_input
    → chain w g ≡ stuck_after (items ++ more) whole_input
chain_is w items q g more here rest =
    ap (λ (v : Walk). chain v g) here ∙ ap (λ (v : Walk). record { items = items ++ v.items; ends = v.ends }) rest

pub post_gives : (m : Map) (b l n : ℕ) (posts : List (List Post)) (part : Part) (said : CallerPost) (d : Data)
    → IsPostLine m.version m.callers said.caller said.post d
    → placed_in_turn (place b l part n posts) (rules_of m) (Some d) ≡ arrived [] (place_in b l m n (with_post posts said))
post_gives m b l n posts part said d is =
    ap (λ (o : Option CallerPost). turn_line (place b l part n posts) (rules_of m) o (end_of d)) (post-from m.version m.callers d said is)

pub end_gives : (m : Map) (b l n : ℕ) (posts : List (List Post)) (part : Part) (d : Data) → IsEndLine (n + 1) d
    → placed_in_turn (place b l part n posts) (rules_of m) (Some d) ≡ arrived (ends_turn posts ∷ []) (place_in b l m (n + 1) (no_posts m.callers))
end_gives m b l n posts part d is =
    let p = place b l part n posts in
    let says : end_of d ≡ Some (n + 1) = end-from d (n + 1) is in
    ap (λ (o : Option CallerPost). turn_line p (rules_of m) o (end_of d)) (not_post-end m.version m.callers m.size d (n + 1) says)
    ∙ ap (λ (o : Option ℕ). end_line p (rules_of m) o) says
    ∙ ap (λ (same : Bool). cond same (arrived (ends_turn posts ∷ []) (place_in b l m (n + 1) (no_posts m.callers))) (bad p)) (eq-eqb (n + 1) (n + 1) refl)

-- lines keep to the limits behind so many bytes
record Fits (b : ℕ) (lines : List (ℕ × List ℕ)) : Type 0 where
  short : All (λ (line : List ℕ). length line ≤ 8388608) (texts lines)
  whole : b + total lines ≤ 4294967296

fits_first : (b size : ℕ) (line : List ℕ) (lines : List (ℕ × List ℕ)) → Fits b ((size, line) ∷ lines) → (length line ≤ 8388608) × (b + size ≤ 4294967296)
fits_first b size line lines fits =
    let whole = fits.whole in
    (All-head (λ (line : List ℕ). length line ≤ 8388608) line (texts lines) fits.short, omega (arith, whole))

fits_rest : (b size : ℕ) (line : List ℕ) (lines : List (ℕ × List ℕ)) → Fits b ((size, line) ∷ lines) → Fits (b + size) lines
fits_rest b size line lines fits =
    let whole = fits.whole in record {
      short = All-tail (λ (line : List ℕ). length line ≤ 8388608) line (texts lines) fits.short;
      whole = omega (arith, whole);
    }

abbrev ReadAll : Map → List (ℕ × List ℕ) → List Data → Type 0
ReadAll m lines ds = (b l n : ℕ) (posts : List (List Post)) (turns : List (List (List Post))) → Fits b lines → AreValues (texts lines) ds
    → Rest m (n + 1) posts turns ds → Reads m m turns (passes lines (place_in b l m n posts))

-- a line of a turn and the rest, from where it was counted
turn_reads : (m : Map) (b l n : ℕ) (part : Part) (posts : List (List Post)) (turns : List (List (List Post))) (lines : List (ℕ × List ℕ)) (d : Data) (ds : List Data)
    → ReadAll m lines ds → Fits b lines → AreValues (texts lines) ds → Rest m (n + 1) posts turns (d ∷ ds)
    → Reads m m turns (chain (placed_in_turn (place b l part n posts) (rules_of m) (Some d)) (go_on lines))
turn_reads m b l n part posts turns lines d ds more fits are (inl (said, (is, rest))) =
    let reads = more b l n (with_post posts said) turns fits are rest in record {
      items = reads.items;
      is = chain_is (placed_in_turn (place b l part n posts) (rules_of m) (Some d)) [] (place_in b l m n (with_post posts said)) (go_on lines) reads.items
          (post_gives m b l n posts part said d is) reads.is;
      says_map = reads.says_map;
      says_turns = reads.says_turns;
    }
turn_reads m b l n part posts turns lines d ds more fits are (inr (others, (same, (is, rest)))) =
    let reads = more b l (n + 1) (no_posts m.callers) others fits are rest in record {
      items = ends_turn posts ∷ reads.items;
      is = chain_is (placed_in_turn (place b l part n posts) (rules_of m) (Some d)) (ends_turn posts ∷ []) (place_in b l m (n + 1) (no_posts m.callers)) (go_on lines) reads.items
          (end_gives m b l n posts part d is) reads.is;
      says_map = reads.says_map;
      says_turns = ap (λ (t : List (List (List Post))). posts ∷ t) reads.says_turns ∙ sym same;
    }

turns_read : (m : Map) (lines : List (ℕ × List ℕ)) (ds : List Data) → ReadAll m lines ds
turns_read m [] [] b l n posts turns fits are (none, empty) = record {
  items = [];
  is = ap (λ (t : Bool). cond t (stuck whole_input) (stuck (bad_line (l + 1)))) empty;
  says_map = refl;
  says_turns = sym none;
}
turns_read m [] (d ∷ ds) b l n posts turns fits are rest = absurd are
turns_read m ((size, line) ∷ lines) [] b l n posts turns fits are rest = absurd are
turns_read m ((size, line) ∷ lines) (d ∷ ds) b l n posts turns fits (reads, are) rest =
    let first = fits_first b size line lines fits in
    subst (λ (w : Walk). Reads m m turns (chain w (go_on lines))) (sym (line_fits size line (place_in b l m n posts) d first.0 first.1 reads))
    (turn_reads m (b + size) (l + 1) n (InTurns (rules_of m)) posts turns lines d ds (turns_read m lines ds) (fits_rest b size line lines fits) are rest)

base_reads : (lines : List (ℕ × List ℕ)) (ds : List Data) (m whole : Map) (b l : ℕ) (turns : List (List (List Post))) → Fits b lines → AreValues (texts lines) ds
    → BaseRest m whole turns ds → Reads m whole turns (passes lines (place_base b l m))
base_reads [] [] m whole b l turns fits are (same, none) =
    record { items = []; is = refl; says_map = ap (λ (now : Map). Some now) (sym same); says_turns = sym none }
base_reads [] (d ∷ ds) m whole b l turns fits are rest = absurd are
base_reads ((size, line) ∷ lines) [] m whole b l turns fits are rest = absurd are
base_reads ((size, line) ∷ lines) (d ∷ ds) m whole b l turns fits (reads, are) (inl (rects, (is, rest))) =
    let first = fits_first b size line lines fits in
    let p = place_base (b + size) (l + 1) m in
    let more = base_reads lines ds (with_base m rects) whole (b + size) (l + 1) turns (fits_rest b size line lines fits) are rest in
    record {
      items = adds_base rects ∷ more.items;
      is = chain_is (accept size line (place_base b l m)) (adds_base rects ∷ []) p (go_on lines) more.items
          (line_fits size line (place_base b l m) d first.0 first.1 reads
          ∙ ap (λ (o : Option (List (Rect × ℕ))). base_line p (rules_of m) (Some d) o) (base-from m.size d rects is)) more.is;
      says_map = more.says_map;
      says_turns = more.says_turns;
    }
base_reads ((size, line) ∷ lines) (d ∷ ds) m whole b l turns fits (reads, are) (inr (same, rest)) =
    let first = fits_first b size line lines fits in
    let p = place_base (b + size) (l + 1) m in
    subst (λ (w : Walk). Reads m whole turns (chain w (go_on lines)))
    (sym (line_fits size line (place_base b l m) d first.0 first.1 reads
    ∙ ap (λ (o : Option (List (Rect × ℕ))). base_line p (rules_of m) (Some d) o) (no_base rest)))
    (subst (λ (to : Map). Reads m to turns (chain (placed_in_turn p (rules_of m) (Some d)) (go_on lines))) (sym same)
    (turn_reads m (b + size) (l + 1) 0 (InBase (rules_of m)) (no_posts m.callers) turns lines d ds (turns_read m lines ds)
    (fits_rest b size line lines fits) are rest))
  where
    no_base : Rest m 1 (no_posts m.callers) turns (d ∷ ds) → base_of m.size d ≡ None
    no_base (inl (said, (is, rest))) = not_base-post m.version m.callers m.size d said (post-from m.version m.callers d said is)
    no_base (inr (others, (same, (is, rest)))) = not_base-end m.size d 1 (end-from d 1 is)

script_reads : (lines : List (ℕ × List ℕ)) (m : Map) (turns : List (List (List Post))) (ds : List Data) (first : Data) (base rest : List Data) (bare : Map)
    → Fits 0 lines → AreValues (texts lines) ds → ds ≡ first ∷ base ++ rest → IsMapLine bare first → BaseRest bare m turns (base ++ rest)
    → (items : List Item) × ((passes lines beginning ≡ stuck_after items whole_input) × ((map_after None items ≡ Some m) × (turns_of items ≡ turns)))
script_reads [] m turns [] first base rest bare fits are same is more = absurd (cc)
script_reads [] m turns (d ∷ ds) first base rest bare fits are same is more = absurd are
script_reads ((size, line) ∷ lines) m turns [] first base rest bare fits are same is more = absurd are
script_reads ((size, line) ∷ lines) m turns (d ∷ ds) first base rest bare fits (reads, are) same is more =
    let heads : d ≡ first = cc in
    let tails : ds ≡ base ++ rest = cc in
    let all = base_reads lines ds bare m (0 + size) 1 turns (fits_rest 0 size line lines fits) are (subst (λ (l : List Data). BaseRest bare m turns l) (sym tails) more) in
    let limit = fits_first 0 size line lines fits in (
      begins bare ∷ all.items,
      (
        chain_is (accept size line beginning) (begins bare ∷ []) (place_base (0 + size) 1 bare) (go_on lines) all.items
            (line_fits size line beginning d limit.0 limit.1 reads
            ∙ ap (λ (o : Option Map). map_line (place (0 + size) 1 BeforeMap 0 []) o) (map-from d bare (subst (λ (v : Data). IsMapLine bare v) (sym heads) is))) all.is,
        (all.says_map, all.says_turns),
      ),
    )

pub script_is_read : (m : Map) (turns : List (List (List Post))) (bytes : List ℕ) → AreShort bytes × IsScriptText m turns (lines_of bytes)
    → ReadsAs m turns bytes
script_is_read m turns bytes (short, text) =
    let script = text.script in
    let few = short.whole in
    let size = total-length bytes in
    let fits : Fits 0 (sized bytes) = record {
      short = subst (λ (all : List (List ℕ)). All (λ (line : List ℕ). length line ≤ 8388608) all) (sym (texts-lines bytes)) short.lines;
      whole = omega (arith, few, size);
    } in
    let (items, (whole, (says_map, says_turns))) = script_reads (sized bytes) m turns text.values script.first script.base script.rest script.bare fits
    (subst (λ (all : List (List ℕ)). AreValues all text.values) (sym (texts-lines bytes)) text.are) script.lines script.map
    (rest_base script.bare m turns script.base script.rest script.rectangles script.posts) in
    record { items = items; whole = reading-passes bytes beginning ∙ whole; says_map = says_map; says_turns = says_turns }
