-- Where the reading of an input stops at a bad line: the lines before it begin a script, and with it they begin none.
use Rattle.std.proofs.Common.{◌≡◌, inl, inr, ℕ, zero, suc, ◌+◌, ◌<◌, ◌≤◌, ◌==◌, Bool, true, false, cond, nat_lt, List, [], ◌∷◌, ◌++◌, length, take, Option, None, Some, refl, sym, ap, subst, ◌∙◌, arith, eqb-true}
use Rattle.std.specs.Prelude.{codes, pos}
use Rattle.std.specs.List.{list_all}
use Rattle.std.proofs.lemmas.Bool.{or_parts, ltb-false}
use Rattle.std.proofs.lemmas.List.Elements.{All-nil}
use Rattle.serde_json.specs.Data.{Data}
use Rattle.serde_json.specs.Written.{compact_text}
use Rattle.nav_types.specs.declared.cells.Rect.{Rect}
use Rattle.nav_types.specs.Side.{IsSide}
use Rattle.nav_types.specs.Cells.{IsRectInside}
use Rattle.posts.specs.declared.posts.Post.{Post}
use Rattle.posts.specs.Maps.{Map, with_base}
use Rattle.input_lines.specs.Lines.{full_lines, tail_of}
use Rattle.script_text.specs.declared.forms.CallerPost.{CallerPost}
use Rattle.script_text.specs.declared.parts.Part.{Part}
use Rattle.script_text.specs.declared.parts.Part.TheVariants.{BeforeMap, InBase, InTurns}
use Rattle.script_text.specs.Forms.{map_of, base_of, post_of, end_of}
use Rattle.script_text.specs.Grammar.{IsMapLine, IsBaseLine, IsEndLine}
use Rattle.script_text.specs.Script.{rules_of, Place, beginning, Item, begins, adds_base, ends_turn, Ends, at_place, stuck_by, Walk, arrived, stuck, chain, reading_of, counted, bad, no_posts, map_line, with_post, end_line, turn_line, placed_in_turn, base_line, placed_in, placed, is_long, too_long, is_empty, whole_input, bad_line, reading}
use Rattle.script_text.specs.Canon.{map_json, end_json}
use Rattle.script_text.specs.ReadsBack.{IsMapValue}
use Rattle.script_text.proofs.GrammarLines.{map-is, map-from, base-is, base-from, end-is, end-from}
use Rattle.script_text.proofs.GrammarPosts.{post-is, post-from}
use Rattle.script_text.proofs.BackLines.{end_reads}
use Rattle.script_text.proofs.BackMaps.{map_back}
use Rattle.match_laws.specs.Scripts.{AreValues, IsScriptText, BeginScript, lines_of}
use Rattle.match_laws.proofs.ScriptLines.{with_newlines, last_sized, sized, texts, passes, texts-lines, reading-passes, empty-no_posts, Rest, BaseRest, parts_of, rest_base}
use Rattle.match_laws.proofs.ScriptReads.{place, place_in, place_base, go_on, post_gives, end_gives, not_base-post, not_base-end}

-- ---- stops

-- the number of the bad line that a walk stops at, and else 0
bad_number : Ends → ℕ
bad_number (at_place p) = 0
bad_number (stuck_by whole_input) = 0
bad_number (stuck_by (too_long n)) = 0
bad_number (stuck_by (bad_line n)) = n

-- a walk stops at a bad line
abbrev StopsAt : ℕ → Walk → Type 0
StopsAt k w = w.ends ≡ stuck_by (bad_line k)

same_number : (n k : ℕ) → stuck_by (bad_line n) ≡ stuck_by (bad_line k) → k ≡ n
unfolding bad_number
same_number n k is = sym (ap bad_number is)

not_long : {A : Type 0} {n : ℕ} (k : ℕ) → stuck_by (too_long n) ≡ stuck_by (bad_line k) → A
not_long k is = absurd (cc)

not_whole : {A : Type 0} (k : ℕ) → stuck_by whole_input ≡ stuck_by (bad_line k) → A
not_whole k is = absurd (cc)

-- each line takes a byte of the input at least
abbrev TakeBytes : List (ℕ × List ℕ) → Type 0
TakeBytes [] = Unit {0}
TakeBytes (line ∷ lines) = (1 ≤ line.0) × TakeBytes lines

take_sized : (lines : List (List ℕ)) (tail : List ℕ) → TakeBytes (with_newlines lines ++ last_sized tail)
take_sized [] [] = tt
take_sized [] (byte ∷ bytes) = (omega arith, tt)
take_sized (line ∷ lines) tail = (omega arith, take_sized lines tail)

-- no more turns have ended than bytes were used, and these are not too many
abbrev Within : ℕ → ℕ → Type 0
Within n b = (n ≤ b) × (b ≤ 4294967296)

-- ---- what lines begin

-- the first lines of the rest of a turn, and of turns after it
record Begins (m : Map) (number : ℕ) (posts : List (List Post)) (lines : List (List ℕ)) : Type 0 where
  extra : List (List ℕ)
  turns : List (List (List Post))
  values : List Data
  are : AreValues (lines ++ extra) values
  rest : Rest m number posts turns values

record BeginsBase (m : Map) (lines : List (List ℕ)) : Type 0 where
  extra : List (List ℕ)
  whole : Map
  turns : List (List (List Post))
  values : List Data
  are : AreValues (lines ++ extra) values
  rest : BaseRest m whole turns values

-- the line of a number is bad, behind so many lines, and those before it begin something
record BadAt (l k : ℕ) (lines : List (List ℕ)) (BeginsSo : List (List ℕ) → Type 0) : Type 0 where
  before : ℕ
  is : k ≡ l + before + 1
  few : before ≤ length lines
  begin : BeginsSo (take before lines)

bad_here : (l k : ℕ) (lines : List (List ℕ)) (BeginsSo : List (List ℕ) → Type 0) → BeginsSo [] → stuck_by (bad_line (l + 1)) ≡ stuck_by (bad_line k) → BadAt l k lines BeginsSo
bad_here l k lines BeginsSo none is =
    let same = same_number (l + 1) k is in
    record { before = 0; is = omega (arith, same); few = omega arith; begin = none }

bad_later : (l k : ℕ) (line : List ℕ) (lines : List (List ℕ)) (BeginsSo Now : List (List ℕ) → Type 0)
    → ((taken : List (List ℕ)) → BeginsSo taken → Now (line ∷ taken)) → BadAt (l + 1) k lines BeginsSo → BadAt l k (line ∷ lines) Now
bad_later l k line lines BeginsSo Now one at =
    let same = at.is in let few = at.few in
    record { before = suc at.before; is = omega (arith, same); few = omega (arith, few); begin = one (take at.before lines) at.begin }

-- an end line closes a turn
closed : (m : Map) (n b : ℕ) (posts : List (List Post)) → Within n b → Begins m (n + 1) posts []
closed m n b posts within =
    let low = within.0 in let high = within.1 in
    let back = end_reads (n + 1) (omega (arith, low, high)) in record {
      extra = compact_text (end_json (n + 1)) ∷ [];
      turns = posts ∷ [];
      values = back.value ∷ [];
      are = (back.reads, tt);
      rest = inr ([], (refl, (end-is back.value (n + 1) back.says, (refl, empty-no_posts m.callers))));
    }

-- ---- the lines before a bad line

abbrev BadInTurns : Map → List (ℕ × List ℕ) → Type 0
BadInTurns m lines = (b l n k : ℕ) (posts : List (List Post)) → Within n b → TakeBytes lines → StopsAt k (passes lines (place_in b l m n posts))
    → BadAt l k (texts lines) (Begins m (n + 1) posts)

-- at a line that is not too long, which was counted
record AtLine (n b size : ℕ) (lines : List (ℕ × List ℕ)) : Type 0 where
  ended : n + size ≤ b
  some : 1 ≤ size
  high : b ≤ 4294967296
  bytes : TakeBytes lines

bad_end : (m : Map) (b l n k size : ℕ) (part : Part) (posts : List (List Post)) (line : List ℕ) (lines : List (ℕ × List ℕ)) (d : Data) (number : Option ℕ)
    → reading_of line ≡ Some d → end_of d ≡ number → AtLine n b size lines → BadInTurns m lines
    → StopsAt k (chain (end_line (place b (l + 1) part n posts) (rules_of m) number) (go_on lines))
    → BadAt l k (line ∷ texts lines) (Begins m (n + 1) posts)
bad_end m b l n k size part posts line lines d None reads e at more is =
    let ended = at.ended in
    bad_here l k (line ∷ texts lines) (Begins m (n + 1) posts) (closed m n b posts (omega (arith, ended), at.high)) is
bad_end m b l n k size part posts line lines d (Some number) reads e at more is = by_number (number == n + 1) refl is
  where
    by_number : (same : Bool) → (number == n + 1) ≡ same
        → StopsAt k (chain (cond same (arrived (ends_turn posts ∷ []) (place_in b (l + 1) m (n + 1) (no_posts m.callers))) (bad (place b (l + 1) part n posts))) (go_on lines))
        → BadAt l k (line ∷ texts lines) (Begins m (n + 1) posts)
    by_number false same is =
        let ended = at.ended in
        bad_here l k (line ∷ texts lines) (Begins m (n + 1) posts) (closed m n b posts (omega (arith, ended), at.high)) is
    by_number true same is =
        let ended = at.ended in let some = at.some in
        let says : IsEndLine (n + 1) d = end-is d (n + 1) (e ∙ ap (λ (k : ℕ). Some k) (eqb-true number (n + 1) same)) in
        bad_later l k line (texts lines) (Begins m (n + 1 + 1) (no_posts m.callers)) (Begins m (n + 1) posts)
        (λ taken begin. record {
          extra = begin.extra;
          turns = posts ∷ begin.turns;
          values = d ∷ begin.values;
          are = (reads, begin.are);
          rest = inr (begin.turns, (refl, (says, begin.rest)));
        })
        (more b (l + 1) (n + 1) k (no_posts m.callers) (omega (arith, ended, some), at.high) at.bytes is)

bad_turn : (m : Map) (b l n k size : ℕ) (part : Part) (posts : List (List Post)) (line : List ℕ) (lines : List (ℕ × List ℕ)) (d : Data) (said : Option CallerPost)
    → reading_of line ≡ Some d → post_of m.version m.callers d ≡ said → AtLine n b size lines → BadInTurns m lines
    → StopsAt k (chain (turn_line (place b (l + 1) part n posts) (rules_of m) said (end_of d)) (go_on lines))
    → BadAt l k (line ∷ texts lines) (Begins m (n + 1) posts)
bad_turn m b l n k size part posts line lines d (Some said) reads e at more is =
    let ended = at.ended in
    bad_later l k line (texts lines) (Begins m (n + 1) (with_post posts said)) (Begins m (n + 1) posts)
    (λ taken begin. record {
      extra = begin.extra;
      turns = begin.turns;
      values = d ∷ begin.values;
      are = (reads, begin.are);
      rest = inl (said, (post-is m.version m.callers d said e, begin.rest));
    })
    (more b (l + 1) n k (with_post posts said) (omega (arith, ended), at.high) at.bytes is)
bad_turn m b l n k size part posts line lines d None reads e at more is = bad_end m b l n k size part posts line lines d (end_of d) reads refl at more is

bad_in_turn : (m : Map) (b l n k size : ℕ) (part : Part) (posts : List (List Post)) (line : List ℕ) (lines : List (ℕ × List ℕ)) (d : Option Data)
    → reading_of line ≡ d → AtLine n b size lines → BadInTurns m lines
    → StopsAt k (chain (placed_in_turn (place b (l + 1) part n posts) (rules_of m) d) (go_on lines))
    → BadAt l k (line ∷ texts lines) (Begins m (n + 1) posts)
bad_in_turn m b l n k size part posts line lines None reads at more is =
    let ended = at.ended in
    bad_here l k (line ∷ texts lines) (Begins m (n + 1) posts) (closed m n b posts (omega (arith, ended), at.high)) is
bad_in_turn m b l n k size part posts line lines (Some d) reads at more is =
    bad_turn m b l n k size part posts line lines d (post_of m.version m.callers d) reads refl at more is

at_line : (n b size : ℕ) (line : List ℕ) (lines : List (ℕ × List ℕ)) (p : Place) → p.bytes ≡ b → Within n b → TakeBytes ((size, line) ∷ lines)
    → is_long p size line ≡ false → AtLine n (b + size) size lines
at_line n b size line lines p same within bytes e =
    let limits = or_parts (nat_lt 8388608 (length line)) (nat_lt 4294967296 (p.bytes + size)) e in
    let high = ltb-false 4294967296 (p.bytes + size) limits.1 in
    let low = within.0 in
    record { ended = omega (arith, low); some = bytes.0; high = omega (arith, high, same); bytes = bytes.1 }

bad_finish : (m : Map) (b l n k : ℕ) (posts : List (List Post)) (empty : Bool) → Within n b
    → StopsAt k (cond empty (stuck whole_input) (stuck (bad_line (l + 1)))) → BadAt l k [] (Begins m (n + 1) posts)
bad_finish m b l n k posts true within is = not_whole k is
bad_finish m b l n k posts false within is = bad_here l k [] (Begins m (n + 1) posts) (closed m n b posts within) is

bad_turns : (m : Map) (lines : List (ℕ × List ℕ)) → BadInTurns m lines
bad_turns m [] b l n k posts within bytes is = bad_finish m b l n k posts (list_all is_empty posts) within is
bad_turns m ((size, line) ∷ lines) b l n k posts within bytes is = by_long (bad_turns m lines) (is_long (place_in b l m n posts) size line) refl is
  where
    by_long : BadInTurns m lines → (long : Bool) → is_long (place_in b l m n posts) size line ≡ long
        → StopsAt k (chain (cond long (stuck (too_long (l + 1))) (placed (counted (place_in b l m n posts) size) (reading_of line))) (go_on lines))
        → BadAt l k (line ∷ texts lines) (Begins m (n + 1) posts)
    by_long more true long is = not_long k is
    by_long more false long is =
        bad_in_turn m (b + size) l n k size (InTurns (rules_of m)) posts line lines (reading_of line) refl
        (at_line n b size line lines (place_in b l m n posts) refl within bytes long) more is

abbrev BadInBase : List (ℕ × List ℕ) → Type 0
BadInBase lines = (m : Map) (b l k : ℕ) → b ≤ 4294967296 → TakeBytes lines → StopsAt k (passes lines (place_base b l m))
    → BadAt l k (texts lines) (BeginsBase m)

base_alone : (m : Map) → BeginsBase m []
base_alone m = record { extra = []; whole = m; turns = []; values = []; are = tt; rest = (refl, refl) }

base_over : (m : Map) (lines : List (List ℕ)) → Begins m 1 (no_posts m.callers) lines → BeginsBase m lines
base_over m lines begin = by_values begin.values begin.are begin.rest
  where
    by_values : (values : List Data) → AreValues (lines ++ begin.extra) values → Rest m 1 (no_posts m.callers) begin.turns values → BeginsBase m lines
    by_values [] are rest = record { extra = begin.extra; whole = m; turns = begin.turns; values = []; are = are; rest = (refl, rest.0) }
    by_values (d ∷ ds) are rest = record { extra = begin.extra; whole = m; turns = begin.turns; values = d ∷ ds; are = are; rest = inr (refl, rest) }

bad_over : (m : Map) (l k : ℕ) (lines : List (List ℕ)) → BadAt l k lines (Begins m 1 (no_posts m.callers)) → BadAt l k lines (BeginsBase m)
bad_over m l k lines at = record { before = at.before; is = at.is; few = at.few; begin = base_over m (take at.before lines) at.begin }

bad_base : (m : Map) (b l k size : ℕ) (line : List ℕ) (lines : List (ℕ × List ℕ)) (d : Data) (rects : Option (List (Rect × ℕ)))
    → reading_of line ≡ Some d → base_of m.size d ≡ rects → AtLine 0 b size lines → BadInBase lines
    → StopsAt k (chain (base_line (place_base b (l + 1) m) (rules_of m) (Some d) rects) (go_on lines))
    → BadAt l k (line ∷ texts lines) (BeginsBase m)
bad_base m b l k size line lines d (Some rects) reads e at more is =
    bad_later l k line (texts lines) (BeginsBase (with_base m rects)) (BeginsBase m)
    (λ taken begin. record {
      extra = begin.extra;
      whole = begin.whole;
      turns = begin.turns;
      values = d ∷ begin.values;
      are = (reads, begin.are);
      rest = inl (rects, (base-is m.size d rects e, begin.rest));
    })
    (more (with_base m rects) b (l + 1) k at.high at.bytes is)
bad_base m b l k size line lines d None reads e at more is =
    bad_over m l k (line ∷ texts lines)
    (bad_in_turn m b l 0 k size (InBase (rules_of m)) (no_posts m.callers) line lines (Some d) reads at (bad_turns m lines) is)

bad_in_base : (m : Map) (b l k size : ℕ) (line : List ℕ) (lines : List (ℕ × List ℕ)) (d : Option Data)
    → reading_of line ≡ d → AtLine 0 b size lines → BadInBase lines
    → StopsAt k (chain (placed_in (InBase (rules_of m)) (place_base b (l + 1) m) d) (go_on lines))
    → BadAt l k (line ∷ texts lines) (BeginsBase m)
bad_in_base m b l k size line lines None reads at more is = bad_here l k (line ∷ texts lines) (BeginsBase m) (base_alone m) is
bad_in_base m b l k size line lines (Some d) reads at more is = bad_base m b l k size line lines d (base_of m.size d) reads refl at more is

bad_bases : (lines : List (ℕ × List ℕ)) → BadInBase lines
bad_bases [] m b l k high bytes is = not_whole k is
bad_bases ((size, line) ∷ lines) m b l k high bytes is = by_long (bad_bases lines) (is_long (place_base b l m) size line) refl is
  where
    by_long : BadInBase lines → (long : Bool) → is_long (place_base b l m) size line ≡ long
        → StopsAt k (chain (cond long (stuck (too_long (l + 1))) (placed (counted (place_base b l m) size) (reading_of line))) (go_on lines))
        → BadAt l k (line ∷ texts lines) (BeginsBase m)
    by_long more true long is = not_long k is
    by_long more false long is =
        bad_in_base m (b + size) l k size line lines (reading_of line) refl
        (at_line 0 b size line lines (place_base b l m) refl (omega arith, high) bytes long) more is

-- ---- whole inputs

-- a map that a script may say
one_cell : IsSide 1
one_cell = record { some = omega arith; few = omega arith }

abbrev small_map : Map
small_map = record {
  version = 1;
  size = record { w = 1; h = 1; wide = one_cell; high = one_cell };
  callers = 1;
  classes = record { name = codes "a"; clearance = pos 0 } ∷ [];
  base = [];
}

small_value : IsMapValue small_map
small_value = record {
  is = record {
    oldest = omega arith;
    newest = omega arith;
    some_caller = omega arith;
    few_callers = omega arith;
    base_inside = All-nil (λ (entry : Rect × ℕ). IsRectInside small_map.size entry.0);
  };
  classes = refl;
  masks = All-nil (λ (entry : Rect × ℕ). entry.1 ≤ 65535);
}

some_script : BeginScript []
some_script =
    let back = map_back small_map small_value in (
      record small_map { base = [] },
      (
        [],
        (
          compact_text (map_json small_map) ∷ [],
          record {
            values = back.value ∷ [];
            are = (back.reads, tt);
            script = record {
              first = back.value;
              base = [];
              rest = [];
              lines = refl;
              bare = record small_map { base = [] };
              map = map-is back.value (record small_map { base = [] }) back.says;
              rectangles = refl;
              posts = refl;
            };
          },
        ),
      ),
    )

begin_map : (m : Map) (line : List ℕ) (d : Data) (taken : List (List ℕ)) → reading_of line ≡ Some d → map_of d ≡ Some m → BeginsBase m taken → BeginScript (line ∷ taken)
begin_map m line d taken reads e begin =
    let parts = parts_of m begin.whole begin.turns begin.values begin.rest in (
      begin.whole,
      (
        begin.turns,
        (
          begin.extra,
          record {
            values = d ∷ begin.values;
            are = (reads, begin.are);
            script = record {
              first = d;
              base = parts.base;
              rest = parts.rest;
              lines = ap (λ (more : List Data). d ∷ more) parts.all;
              bare = m;
              map = map-is d m e;
              rectangles = parts.rectangles;
              posts = parts.posts;
            };
          },
        ),
      ),
    )

bad_map : (b k size : ℕ) (line : List ℕ) (lines : List (ℕ × List ℕ)) (d : Data) (m : Option Map) → reading_of line ≡ Some d → map_of d ≡ m → AtLine 0 b size lines
    → StopsAt k (chain (map_line (place b (0 + 1) BeforeMap 0 []) m) (go_on lines))
    → BadAt 0 k (line ∷ texts lines) BeginScript
bad_map b k size line lines d None reads e at is = bad_here 0 k (line ∷ texts lines) BeginScript some_script is
bad_map b k size line lines d (Some m) reads e at is =
    bad_later 0 k line (texts lines) (BeginsBase m) BeginScript (λ taken begin. begin_map m line d taken reads e begin)
    (bad_bases lines m b (0 + 1) k at.high at.bytes is)

bad_first : (b k size : ℕ) (line : List ℕ) (lines : List (ℕ × List ℕ)) (d : Option Data) → reading_of line ≡ d → AtLine 0 b size lines
    → StopsAt k (chain (placed_in BeforeMap (place b (0 + 1) BeforeMap 0 []) d) (go_on lines))
    → BadAt 0 k (line ∷ texts lines) BeginScript
bad_first b k size line lines None reads at is = bad_here 0 k (line ∷ texts lines) BeginScript some_script is
bad_first b k size line lines (Some d) reads at is = bad_map b k size line lines d (map_of d) reads refl at is

bad_script : (lines : List (ℕ × List ℕ)) (k : ℕ) → TakeBytes lines → StopsAt k (passes lines beginning) → BadAt 0 k (texts lines) BeginScript
bad_script [] k bytes is = bad_here 0 k [] BeginScript some_script is
bad_script ((size, line) ∷ lines) k bytes is = by_long (is_long beginning size line) refl is
  where
    by_long : (long : Bool) → is_long beginning size line ≡ long
        → StopsAt k (chain (cond long (stuck (too_long 1)) (placed (counted beginning size) (reading_of line))) (go_on lines))
        → BadAt 0 k (line ∷ texts lines) BeginScript
    by_long true long is = not_long k is
    by_long false long is =
        bad_first (0 + size) k size line lines (reading_of line) refl
        (at_line 0 0 size line lines beginning refl (omega arith, omega arith) bytes long) is

stops_passing : (bytes : List ℕ) (k : ℕ) → (reading bytes beginning).ends ≡ stuck_by (bad_line k) → StopsAt k (passes (sized bytes) beginning)
stops_passing bytes k is = ap (λ (w : Walk). w.ends) (sym (reading-passes bytes beginning)) ∙ is

pub lines_before : (bytes : List ℕ) (n : ℕ) → (reading bytes beginning).ends ≡ stuck_by (bad_line (n + 1))
    → (n ≤ length (lines_of bytes)) × BeginScript (take n (lines_of bytes))
lines_before bytes n is =
    let at = bad_script (sized bytes) (n + 1) (take_sized (full_lines bytes) (tail_of bytes)) (stops_passing bytes (n + 1) is) in
    let number = at.is in
    let same : at.before ≡ n = omega (arith, number) in
    let Says : ℕ → List (List ℕ) → Type 0 = λ k lines. (k ≤ length lines) × BeginScript (take k lines) in
    subst (λ (k : ℕ). Says k (lines_of bytes)) same
    (subst (λ (lines : List (List ℕ)). Says at.before lines) (texts-lines bytes) (at.few, at.begin))

-- ---- the bad line

behind : (l k : ℕ) (lines : List (List ℕ)) (BeginsSo : List (List ℕ) → Type 0) → BadAt l k lines BeginsSo → l < k
behind l k lines BeginsSo at = let is = at.is in omega (arith, is)

abbrev GoodInTurns : Map → List (ℕ × List ℕ) → Type 0
GoodInTurns m lines = (b l n k j : ℕ) (posts : List (List Post)) (turns : List (List (List Post))) (more : List (List ℕ)) (values : List Data)
    → Within n b → TakeBytes lines → j ≤ length (texts lines) → AreValues (take j (texts lines) ++ more) values → Rest m (n + 1) posts turns values
    → StopsAt k (passes lines (place_in b l m n posts)) → l + j < k

-- a line that gives its items goes on
stops_on : (w : Walk) (items : List Item) (q : Place) (g : Place → Walk) (k : ℕ) → w ≡ arrived items q → StopsAt k (chain w g) → StopsAt k (g q)
stops_on w items q g k here is = ap (λ (v : Walk). (chain v g).ends) (sym here) ∙ is

good_turn : (m : Map) (b l n k j size : ℕ) (part : Part) (posts : List (List Post)) (turns : List (List (List Post))) (more : List (List ℕ)) (lines : List (ℕ × List ℕ)) (d : Data) (ds : List Data)
    → GoodInTurns m lines → AtLine n b size lines → j ≤ length (texts lines) → AreValues (take j (texts lines) ++ more) ds → Rest m (n + 1) posts turns (d ∷ ds)
    → StopsAt k (chain (placed_in_turn (place b (l + 1) part n posts) (rules_of m) (Some d)) (go_on lines)) → l + 1 + j < k
good_turn m b l n k j size part posts turns more lines d ds good at few are (inl (said, (is, rest))) stops =
    let ended = at.ended in
    good b (l + 1) n k j (with_post posts said) turns more ds (omega (arith, ended), at.high) at.bytes few are rest
    (stops_on (placed_in_turn (place b (l + 1) part n posts) (rules_of m) (Some d)) [] (place_in b (l + 1) m n (with_post posts said)) (go_on lines) k
    (post_gives m b (l + 1) n posts part said d is) stops)
good_turn m b l n k j size part posts turns more lines d ds good at few are (inr (others, (same, (is, rest)))) stops =
    let ended = at.ended in let some = at.some in
    good b (l + 1) (n + 1) k j (no_posts m.callers) others more ds (omega (arith, ended, some), at.high) at.bytes few are rest
    (stops_on (placed_in_turn (place b (l + 1) part n posts) (rules_of m) (Some d)) (ends_turn posts ∷ []) (place_in b (l + 1) m (n + 1) (no_posts m.callers)) (go_on lines) k
    (end_gives m b (l + 1) n posts part d is) stops)

-- the walk behind a line that has a value and is not too long
stops_line : (p : Place) (size : ℕ) (line : List ℕ) (lines : List (ℕ × List ℕ)) (d : Data) (k : ℕ) (long : Bool) → is_long p size line ≡ long → reading_of line ≡ Some d
    → StopsAt k (chain (cond long (stuck (too_long (p.lines + 1))) (placed (counted p size) (reading_of line))) (go_on lines))
    → (is_long p size line ≡ false) × StopsAt k (chain (placed (counted p size) (Some d)) (go_on lines))
stops_line p size line lines d k true e reads is = not_long k is
stops_line p size line lines d k false e reads is = (e, ap (λ (o : Option Data). (chain (placed (counted p size) o) (go_on lines)).ends) (sym reads) ∙ is)

good_turns : (m : Map) (lines : List (ℕ × List ℕ)) → GoodInTurns m lines
good_turns m lines b l n k zero posts turns more values within bytes few are rest stops =
    let low = behind l k (texts lines) (Begins m (n + 1) posts) (bad_turns m lines b l n k posts within bytes stops) in omega (arith, low)
good_turns m [] b l n k (suc j) posts turns more values within bytes few are rest stops = absurd (omega (arith, few))
good_turns m ((size, line) ∷ lines) b l n k (suc j) posts turns more [] within bytes few are rest stops = absurd are
good_turns m ((size, line) ∷ lines) b l n k (suc j) posts turns more (d ∷ ds) within bytes few (reads, are) rest stops =
    let p = place_in b l m n posts in
    let on = stops_line p size line lines d k (is_long p size line) refl reads stops in
    let later = good_turn m (b + size) l n k j size (InTurns (rules_of m)) posts turns more lines d ds (good_turns m lines)
    (at_line n b size line lines p refl within bytes on.0) (omega (arith, few)) are rest on.1 in
    omega (arith, later)

base_gives : (m : Map) (q : Place) (rects : List (Rect × ℕ)) (d : Data) → IsBaseLine m.size rects d
    → base_line q (rules_of m) (Some d) (base_of m.size d) ≡ arrived (adds_base rects ∷ []) q
base_gives m q rects d is = ap (λ (o : Option (List (Rect × ℕ))). base_line q (rules_of m) (Some d) o) (base-from m.size d rects is)

no_base_gives : (m : Map) (q : Place) (number : ℕ) (turns : List (List (List Post))) (d : Data) (ds : List Data) → Rest m number (no_posts m.callers) turns (d ∷ ds)
    → base_line q (rules_of m) (Some d) (base_of m.size d) ≡ placed_in_turn q (rules_of m) (Some d)
no_base_gives m q number turns d ds rest =
    ap (λ (o : Option (List (Rect × ℕ))). base_line q (rules_of m) (Some d) o) (no_base rest)
  where
    no_base : Rest m number (no_posts m.callers) turns (d ∷ ds) → base_of m.size d ≡ None
    no_base (inl (said, (is, rest))) = not_base-post m.version m.callers m.size d said (post-from m.version m.callers d said is)
    no_base (inr (others, (same, (is, rest)))) = not_base-end m.size d number (end-from d number is)

good_bases : (lines : List (ℕ × List ℕ)) (m whole : Map) (b l k j : ℕ) (turns : List (List (List Post))) (more : List (List ℕ)) (values : List Data)
    → b ≤ 4294967296 → TakeBytes lines → j ≤ length (texts lines) → AreValues (take j (texts lines) ++ more) values → BaseRest m whole turns values
    → StopsAt k (passes lines (place_base b l m)) → l + j < k
good_bases lines m whole b l k zero turns more values high bytes few are rest stops =
    let low = behind l k (texts lines) (BeginsBase m) (bad_bases lines m b l k high bytes stops) in omega (arith, low)
good_bases [] m whole b l k (suc j) turns more values high bytes few are rest stops = absurd (omega (arith, few))
good_bases ((size, line) ∷ lines) m whole b l k (suc j) turns more [] high bytes few are rest stops = absurd are
good_bases ((size, line) ∷ lines) m whole b l k (suc j) turns more (d ∷ ds) high bytes few (reads, are) (inl (rects, (is, rest))) stops =
    let p = place_base b l m in
    let q = place_base (b + size) (l + 1) m in
    let on = stops_line p size line lines d k (is_long p size line) refl reads stops in
    let at = at_line 0 b size line lines p refl (omega arith, high) bytes on.0 in
    let later = good_bases lines (with_base m rects) whole (b + size) (l + 1) k j turns more ds at.high at.bytes (omega (arith, few)) are rest
    (stops_on (placed (counted p size) (Some d)) (adds_base rects ∷ []) q (go_on lines) k
    (base_gives m q rects d is) on.1) in
    omega (arith, later)
good_bases ((size, line) ∷ lines) m whole b l k (suc j) turns more (d ∷ ds) high bytes few (reads, are) (inr (same, rest)) stops =
    let p = place_base b l m in
    let q = place_base (b + size) (l + 1) m in
    let on = stops_line p size line lines d k (is_long p size line) refl reads stops in
    let at = at_line 0 b size line lines p refl (omega arith, high) bytes on.0 in
    let later = good_turn m (b + size) l 0 k j size (InBase (rules_of m)) (no_posts m.callers) turns more lines d ds (good_turns m lines) at (omega (arith, few)) are rest
    (ap (λ (w : Walk). (chain w (go_on lines)).ends) (sym (no_base_gives m q 1 turns d ds rest)) ∙ on.1) in
    omega (arith, later)

good_script : (lines : List (ℕ × List ℕ)) (k j : ℕ) (m bare : Map) (turns : List (List (List Post))) (more : List (List ℕ)) (values : List Data) (first : Data) (base rest : List Data)
    → TakeBytes lines → suc j ≤ length (texts lines) → AreValues (take (suc j) (texts lines) ++ more) values → values ≡ first ∷ base ++ rest → IsMapLine bare first
    → BaseRest bare m turns (base ++ rest) → StopsAt k (passes lines beginning) → j + 1 < k
good_script [] k j m bare turns more values first base rest bytes few are same is says stops = absurd (omega (arith, few))
good_script ((size, line) ∷ lines) k j m bare turns more [] first base rest bytes few are same is says stops = absurd are
good_script ((size, line) ∷ lines) k j m bare turns more (d ∷ ds) first base rest bytes few (reads, are) same is says stops =
    let heads : d ≡ first = cc in
    let tails : ds ≡ base ++ rest = cc in
    let on = stops_line beginning size line lines d k (is_long beginning size line) refl reads stops in
    let at = at_line 0 0 size line lines beginning refl (omega arith, omega arith) bytes on.0 in
    let p = place (0 + size) (0 + 1) BeforeMap 0 [] in
    let later = good_bases lines bare m (0 + size) (0 + 1) k j turns more ds at.high at.bytes (omega (arith, few)) are (subst (λ (l : List Data). BaseRest bare m turns l) (sym tails) says)
    (stops_on (placed (counted beginning size) (Some d)) (begins bare ∷ []) (place_base (0 + size) (0 + 1) bare) (go_on lines) k
    (ap (λ (o : Option Map). map_line p o) (map-from d bare (subst (λ (v : Data). IsMapLine bare v) (sym heads) is))) on.1) in
    omega (arith, later)

pub no_lines_with : (bytes : List ℕ) (n : ℕ) → (reading bytes beginning).ends ≡ stuck_by (bad_line (n + 1)) → n < length (lines_of bytes)
    → BeginScript (take (n + 1) (lines_of bytes)) → ⊥
no_lines_with bytes n is low (m, (turns, (more, text))) =
    let script = text.script in
    let same = texts-lines bytes in
    let Says : ℕ → List (List ℕ) → Type 0 = λ k lines. AreValues (take k lines ++ more) text.values in
    let one : n + 1 ≡ suc n = omega arith in
    let are : Says (suc n) (texts (sized bytes)) = subst (λ (k : ℕ). Says k (texts (sized bytes))) one (subst (λ (lines : List (List ℕ)). Says (n + 1) lines) (sym same) text.are) in
    let few : suc n ≤ length (texts (sized bytes)) = subst (λ (lines : List (List ℕ)). suc n ≤ length lines) (sym same) (omega (arith, low)) in
    let later = good_script (sized bytes) (n + 1) n m script.bare turns more text.values script.first script.base script.rest (take_sized (full_lines bytes) (tail_of bytes)) few are
    script.lines script.map (rest_base script.bare m turns script.base script.rest script.rectangles script.posts) (stops_passing bytes (n + 1) is) in
    omega (arith, later)

-- ---- whole scripts stop at no bad line

abbrev WholeTurns : Map → List (ℕ × List ℕ) → Type 0
WholeTurns m lines = (b l n k : ℕ) (posts : List (List Post)) (turns : List (List (List Post))) (values : List Data) → AreValues (texts lines) values
    → Rest m (n + 1) posts turns values → StopsAt k (passes lines (place_in b l m n posts)) → ⊥

whole_turn : (m : Map) (b l n k : ℕ) (part : Part) (posts : List (List Post)) (turns : List (List (List Post))) (lines : List (ℕ × List ℕ)) (d : Data) (ds : List Data)
    → WholeTurns m lines → AreValues (texts lines) ds → Rest m (n + 1) posts turns (d ∷ ds)
    → StopsAt k (chain (placed_in_turn (place b l part n posts) (rules_of m) (Some d)) (go_on lines)) → ⊥
whole_turn m b l n k part posts turns lines d ds more are (inl (said, (is, rest))) stops =
    more b l n k (with_post posts said) turns ds are rest
    (stops_on (placed_in_turn (place b l part n posts) (rules_of m) (Some d)) [] (place_in b l m n (with_post posts said)) (go_on lines) k
    (post_gives m b l n posts part said d is) stops)
whole_turn m b l n k part posts turns lines d ds more are (inr (others, (same, (is, rest)))) stops =
    more b l (n + 1) k (no_posts m.callers) others ds are rest
    (stops_on (placed_in_turn (place b l part n posts) (rules_of m) (Some d)) (ends_turn posts ∷ []) (place_in b l m (n + 1) (no_posts m.callers)) (go_on lines) k
    (end_gives m b l n posts part d is) stops)

whole_turns : (m : Map) (lines : List (ℕ × List ℕ)) → WholeTurns m lines
whole_turns m [] b l n k posts turns [] are (none, empty) stops =
    not_whole k (ap (λ (t : Bool). (cond t (stuck whole_input) (stuck (bad_line (l + 1)))).ends) (sym empty) ∙ stops)
whole_turns m [] b l n k posts turns (d ∷ ds) are rest stops = are
whole_turns m ((size, line) ∷ lines) b l n k posts turns [] are rest stops = are
whole_turns m ((size, line) ∷ lines) b l n k posts turns (d ∷ ds) (reads, are) rest stops =
    let p = place_in b l m n posts in
    let on = stops_line p size line lines d k (is_long p size line) refl reads stops in
    whole_turn m (b + size) (l + 1) n k (InTurns (rules_of m)) posts turns lines d ds (whole_turns m lines) are rest on.1

whole_bases : (lines : List (ℕ × List ℕ)) (m whole : Map) (b l k : ℕ) (turns : List (List (List Post))) (values : List Data) → AreValues (texts lines) values
    → BaseRest m whole turns values → StopsAt k (passes lines (place_base b l m)) → ⊥
whole_bases [] m whole b l k turns [] are rest stops = not_whole k stops
whole_bases [] m whole b l k turns (d ∷ ds) are rest stops = are
whole_bases ((size, line) ∷ lines) m whole b l k turns [] are rest stops = are
whole_bases ((size, line) ∷ lines) m whole b l k turns (d ∷ ds) (reads, are) (inl (rects, (is, rest))) stops =
    let q = place_base (b + size) (l + 1) m in
    let on = stops_line (place_base b l m) size line lines d k (is_long (place_base b l m) size line) refl reads stops in
    whole_bases lines (with_base m rects) whole (b + size) (l + 1) k turns ds are rest
    (stops_on (base_line q (rules_of m) (Some d) (base_of m.size d)) (adds_base rects ∷ []) q (go_on lines) k (base_gives m q rects d is) on.1)
whole_bases ((size, line) ∷ lines) m whole b l k turns (d ∷ ds) (reads, are) (inr (same, rest)) stops =
    let q = place_base (b + size) (l + 1) m in
    let on = stops_line (place_base b l m) size line lines d k (is_long (place_base b l m) size line) refl reads stops in
    whole_turn m (b + size) (l + 1) 0 k (InBase (rules_of m)) (no_posts m.callers) turns lines d ds (whole_turns m lines) are rest
    (ap (λ (w : Walk). (chain w (go_on lines)).ends) (sym (no_base_gives m q 1 turns d ds rest)) ∙ on.1)

pub not_whole_script : (bytes : List ℕ) (n : ℕ) (m : Map) (turns : List (List (List Post))) → (reading bytes beginning).ends ≡ stuck_by (bad_line (n + 1))
    → IsScriptText m turns (lines_of bytes) → ⊥
not_whole_script bytes n m turns is text =
    let script = text.script in
    by_lines (sized bytes) text.values
    (subst (λ (lines : List (List ℕ)). AreValues lines text.values) (sym (texts-lines bytes)) text.are) script.lines
    (rest_base script.bare m turns script.base script.rest script.rectangles script.posts) (stops_passing bytes (n + 1) is)
  where
    by_lines : (lines : List (ℕ × List ℕ)) (values : List Data) → AreValues (texts lines) values → values ≡ text.script.first ∷ text.script.base ++ text.script.rest
        → BaseRest text.script.bare m turns (text.script.base ++ text.script.rest) → StopsAt (n + 1) (passes lines beginning) → ⊥
    by_lines [] [] are same says stops = absurd (cc)
    by_lines [] (d ∷ ds) are same says stops = are
    by_lines ((size, line) ∷ lines) [] are same says stops = are
    by_lines ((size, line) ∷ lines) (d ∷ ds) (reads, are) same says stops =
        let heads : d ≡ text.script.first = cc in
        let tails : ds ≡ text.script.base ++ text.script.rest = cc in
        let on = stops_line beginning size line lines d (n + 1) (is_long beginning size line) refl reads stops in
        whole_bases lines text.script.bare m (0 + size) (0 + 1) (n + 1) turns ds are
        (subst (λ (l : List Data). BaseRest text.script.bare m turns l) (sym tails) says)
        (stops_on (placed (counted beginning size) (Some d)) (begins text.script.bare ∷ []) (place_base (0 + size) (0 + 1) text.script.bare) (go_on lines) (n + 1)
        (ap (λ (o : Option Map). map_line (place (0 + size) (0 + 1) BeforeMap 0 []) o)
        (map-from d text.script.bare (subst (λ (v : Data). IsMapLine text.script.bare v) (sym heads) text.script.map))) on.1)
