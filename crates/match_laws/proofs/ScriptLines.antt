-- The lines of an input, each with the bytes that it takes, and the rest of a script from any place on.
use Rattle.std.proofs.Common.{◌≡◌, ◌⊎◌, inl, inr, ℕ, zero, suc, ◌+◌, ◌<◌, ◌==◌, ◌&&◌, Bool, true, false, cond, List, [], ◌∷◌, ◌++◌, length, set, refl, sym, ap, subst, ◌∙◌, arith}
use Rattle.std.specs.List.{list_all}
use Rattle.std.proofs.lemmas.List.{length-set}
use Rattle.serde_json.specs.Data.{Data}
use Rattle.nav_types.specs.declared.cells.Rect.{Rect}
use Rattle.posts.specs.declared.posts.Post.{Post}
use Rattle.posts.specs.declared.edits.Edit.TheVariants.{Add, Remove, Move}
use Rattle.posts.specs.declared.posts.Post.TheVariants.{Edit as Edits, Ask as Asks}
use Rattle.posts.specs.declared.posts.Request.TheVariants.{Path, Region}
use Rattle.posts.specs.Maps.{Map, with_base}
use Rattle.posts.specs.Callers.{list_of}
use Rattle.input_lines.specs.Lines.{full_lines, tail_of, in_front, tail_with}
use Rattle.script_text.specs.declared.forms.CallerPost.{CallerPost}
use Rattle.script_text.specs.Grammar.{IsBaseLine, IsPostLine, IsEndLine}
use Rattle.script_text.specs.Script.{Place, Walk, accept, chain, walk, is_empty, no_posts, with_post, finish, last_line, reading}
use Rattle.script_text.proofs.ReadWalk.{chain-assoc, chain-same}
use Rattle.match_laws.specs.Scripts.{AreBaseLines, AreTurnLines, AreTurnsLines, lines_of, last_one}

-- ---- lines with the bytes that each takes of the input

abbrev pub with_newlines : List (List ℕ) → List (ℕ × List ℕ)
with_newlines [] = []
with_newlines (line ∷ lines) = (length line + 1, line) ∷ with_newlines lines

abbrev pub last_sized : List ℕ → List (ℕ × List ℕ)
last_sized [] = []
last_sized (byte ∷ bytes) = (length (byte ∷ bytes), byte ∷ bytes) ∷ []

abbrev pub sized : List ℕ → List (ℕ × List ℕ)
sized bytes = with_newlines (full_lines bytes) ++ last_sized (tail_of bytes)

abbrev pub texts : List (ℕ × List ℕ) → List (List ℕ)
texts [] = []
texts (line ∷ lines) = line.1 ∷ texts lines

abbrev pub total : List (ℕ × List ℕ) → ℕ
total [] = 0
total (line ∷ lines) = line.0 + total lines

texts-sized : (lines : List (List ℕ)) (tail : List ℕ) → texts (with_newlines lines ++ last_sized tail) ≡ lines ++ last_one tail
texts-sized [] [] = refl
texts-sized [] (byte ∷ bytes) = refl
texts-sized (line ∷ lines) tail = ap (λ more. line ∷ more) (texts-sized lines tail)

pub texts-lines : (bytes : List ℕ) → texts (sized bytes) ≡ lines_of bytes
texts-lines bytes = texts-sized (full_lines bytes) (tail_of bytes)

total-sized : (lines : List (List ℕ)) (tail : List ℕ) → total (with_newlines lines ++ last_sized tail) ≡ total (with_newlines lines) + length tail
total-sized [] [] = refl
total-sized [] (byte ∷ bytes) = omega arith
total-sized (line ∷ lines) tail = let more = total-sized lines tail in omega (arith, more)

abbrev size_by : List (List ℕ) → List ℕ → ℕ
size_by lines tail = total (with_newlines lines) + length tail

front-size : (byte : ℕ) (lines : List (List ℕ)) (tail : List ℕ) → size_by (in_front byte lines) (tail_with byte lines tail) ≡ size_by lines tail + 1
front-size byte [] tail = omega arith
front-size byte (line ∷ lines) tail = omega arith

size_more : (byte : ℕ) (bytes : List ℕ) (ends : Bool) → size_by (full_lines bytes) (tail_of bytes) ≡ length bytes
    → size_by (cond ends ([] ∷ full_lines bytes) (in_front byte (full_lines bytes))) (cond ends (tail_of bytes) (tail_with byte (full_lines bytes) (tail_of bytes)))
    ≡ length (byte ∷ bytes)
size_more byte bytes true rest = omega (arith, rest)
size_more byte bytes false rest = let more = front-size byte (full_lines bytes) (tail_of bytes) in omega (arith, rest, more)

lines-size : (bytes : List ℕ) → size_by (full_lines bytes) (tail_of bytes) ≡ length bytes
lines-size [] = refl
lines-size (byte ∷ bytes) = size_more byte bytes (byte == 10) (lines-size bytes)

pub total-length : (bytes : List ℕ) → total (sized bytes) ≡ length bytes
total-length bytes = total-sized (full_lines bytes) (tail_of bytes) ∙ lines-size bytes

-- a walk over sized lines to the end of the input
abbrev pub passes : List (ℕ × List ℕ) → Place → Walk
passes [] p = finish p
passes (line ∷ lines) p = chain (accept line.0 line.1 p) (λ q. passes lines q)

passes-lines : (lines : List (List ℕ)) (tail : List ℕ) (p : Place) → chain (walk lines p) (λ q. last_line tail q) ≡ passes (with_newlines lines ++ last_sized tail) p
passes-lines [] [] p = refl
passes-lines [] (byte ∷ bytes) p = refl
passes-lines (line ∷ lines) tail p =
    chain-assoc (accept (length line + 1) line p) (λ q. walk lines q) (λ q. last_line tail q)
    ∙ chain-same (accept (length line + 1) line p) _ _ (λ q. passes-lines lines tail q)

pub reading-passes : (bytes : List ℕ) (p : Place) → reading bytes p ≡ passes (sized bytes) p
reading-passes bytes p = passes-lines (full_lines bytes) (tail_of bytes) p

-- ---- the rest of a script

-- the lines of the rest of a turn with these posts so far, and of turns after it
abbrev pub Rest : Map → ℕ → List (List Post) → List (List (List Post)) → List Data → Type 0
Rest m number posts turns [] = (turns ≡ []) × (list_all is_empty posts ≡ true)
Rest m number posts turns (d ∷ ds) =
    ((said : CallerPost) × (IsPostLine m.version m.callers said.caller said.post d × Rest m number (with_post posts said) turns ds))
    ⊎ ((more : List (List (List Post))) × ((turns ≡ posts ∷ more) × (IsEndLine number d × Rest m (number + 1) (no_posts m.callers) more ds)))

-- base lines from this map on, and turns after them
abbrev pub BaseRest : Map → Map → List (List (List Post)) → List Data → Type 0
BaseRest m whole turns [] = (whole ≡ m) × (turns ≡ [])
BaseRest m whole turns (d ∷ ds) =
    ((rects : List (Rect × ℕ)) × (IsBaseLine m.size rects d × BaseRest (with_base m rects) whole turns ds))
    ⊎ ((whole ≡ m) × Rest m 1 (no_posts m.callers) turns (d ∷ ds))

-- ---- posts

pub few_caller : (version callers caller : ℕ) (post : Post) (d : Data) → IsPostLine version callers caller post d → caller < callers
few_caller version callers caller (Edits (Add id o)) d (c, add, shape, keys, who, number, decimals) = who.1
few_caller version callers caller (Edits (Remove id)) d (c, remove, keys, who, number) = who.1
few_caller version callers caller (Edits (Move id x z)) d (c, move, to, keys, who, number, at, newest) = who.1
few_caller version callers caller (Asks (Path request)) d says = says.says_caller.1
few_caller version callers caller (Asks (Region query)) d says = says.says_caller.1

full_list : (own : List Post) (post : Post) → is_empty (own ++ post ∷ []) ≡ false
full_list [] post = refl
full_list (first ∷ own) post = refl

and_false : (b c : Bool) → c ≡ false → (b && c) ≡ false
and_false true c h = h
and_false false c h = refl

set_full : (posts : List (List Post)) (caller : ℕ) (own : List Post) (post : Post) → caller < length posts
    → list_all is_empty (set posts caller (own ++ post ∷ [])) ≡ false
set_full [] caller own post h = absurd (omega (arith, h))
set_full (first ∷ posts) zero own post h = ap (λ (b : Bool). b && list_all is_empty posts) (full_list own post)
set_full (first ∷ posts) (suc caller) own post h =
    and_false (is_empty first) (list_all is_empty (set posts caller (own ++ post ∷ []))) (set_full posts caller own post (omega (arith, h)))

with_post-full : (posts : List (List Post)) (said : CallerPost) → said.caller < length posts → list_all is_empty (with_post posts said) ≡ false
with_post-full posts said h = set_full posts said.caller (list_of posts said.caller) said.post h

with_post-length : (posts : List (List Post)) (said : CallerPost) → length (with_post posts said) ≡ length posts
with_post-length posts said = length-set posts said.caller (list_of posts said.caller ++ said.post ∷ [])

pub empty-no_posts : (callers : ℕ) → list_all is_empty (no_posts callers) ≡ true
empty-no_posts zero = refl
empty-no_posts (suc callers) = empty-no_posts callers

length-no_posts : (callers : ℕ) → length (no_posts callers) ≡ callers
length-no_posts zero = refl
length-no_posts (suc callers) = ap suc (length-no_posts callers)

-- ---- from the grammar to the rest of a script, and back

rest_turn : (m : Map) (number : ℕ) (posts turn : List (List Post)) (more : List (List (List Post))) (front back : List Data)
    → AreTurnLines m number posts turn front → Rest m (number + 1) (no_posts m.callers) more back → Rest m number posts (turn ∷ more) (front ++ back)
rest_turn m number posts turn more [] back lines rest = absurd lines
rest_turn m number posts turn more (d ∷ []) back (is, same) rest = inr (more, (ap (λ (t : List (List Post)). t ∷ more) same, (is, rest)))
rest_turn m number posts turn more (d ∷ e ∷ front) back (said, (is, lines)) rest =
    inl (said, (is, rest_turn m number (with_post posts said) turn more (e ∷ front) back lines rest))

rest_turns : (m : Map) (number : ℕ) (turns : List (List (List Post))) (ds : List Data) → AreTurnsLines m number turns ds
    → Rest m number (no_posts m.callers) turns ds
rest_turns m number [] ds lines = subst (λ (all : List Data). Rest m number (no_posts m.callers) [] all) (sym lines) (refl, empty-no_posts m.callers)
rest_turns m number (turn ∷ turns) ds (front, (back, (same, (lines, more)))) =
    subst (λ (all : List Data). Rest m number (no_posts m.callers) (turn ∷ turns) all) (sym same)
    (rest_turn m number (no_posts m.callers) turn turns front back lines (rest_turns m (number + 1) turns back more))

no_turns : (m : Map) (number : ℕ) (turns : List (List (List Post))) → AreTurnsLines m number turns [] → turns ≡ []
no_turns m number [] lines = refl
no_turns m number (turn ∷ turns) ([], (back, (same, (lines, more)))) = absurd lines
no_turns m number (turn ∷ turns) (d ∷ front, (back, (same, (lines, more)))) = absurd (cc)

pub rest_base : (m whole : Map) (turns : List (List (List Post))) (base rest : List Data) → AreBaseLines m whole base → AreTurnsLines whole 1 turns rest
    → BaseRest m whole turns (base ++ rest)
rest_base m whole turns [] [] same lines = (same, no_turns whole 1 turns lines)
rest_base m whole turns [] (d ∷ rest) same lines =
    inr (same, rest_turns m 1 turns (d ∷ rest) (subst (λ (now : Map). AreTurnsLines now 1 turns (d ∷ rest)) same lines))
rest_base m whole turns (d ∷ base) rest (rects, (is, more)) lines = inl (rects, (is, rest_base (with_base m rects) whole turns base rest more lines))

-- the rest of a turn and turns after it, or the end of the input
record TurnFirst (m : Map) (number : ℕ) (posts : List (List Post)) (turns : List (List (List Post))) (ds : List Data) : Type 0 where
  turn : List (List Post)
  more : List (List (List Post))
  front : List Data
  back : List Data
  those : turns ≡ turn ∷ more
  all : ds ≡ front ++ back
  lines : AreTurnLines m number posts turn front
  others : AreTurnsLines m (number + 1) more back

record EndsHere (posts : List (List Post)) (turns : List (List (List Post))) (ds : List Data) : Type 0 where
  turn : turns ≡ []
  line : ds ≡ []
  post : list_all is_empty posts ≡ true

abbrev Cut : Map → ℕ → List (List Post) → List (List (List Post)) → List Data → Type 0
Cut m number posts turns ds = EndsHere posts turns ds ⊎ TurnFirst m number posts turns ds

cut_turns : (m : Map) (number : ℕ) (posts : List (List Post)) (turns : List (List (List Post))) (ds : List Data) → Cut m number posts turns ds
    → posts ≡ no_posts m.callers → AreTurnsLines m number turns ds
cut_turns m number posts turns ds (inl h) none = subst (λ (t : List (List (List Post))). AreTurnsLines m number t ds) (sym h.turn) h.line
cut_turns m number posts turns ds (inr h) none =
    subst (λ (t : List (List (List Post))). AreTurnsLines m number t ds) (sym h.those)
    (h.front, (h.back, (h.all, (subst (λ (p : List (List Post)). AreTurnLines m number p h.turn h.front) none h.lines, h.others))))

one_line_more : (m : Map) (number : ℕ) (posts turn : List (List Post)) (said : CallerPost) (d : Data) (front : List Data)
    → IsPostLine m.version m.callers said.caller said.post d → AreTurnLines m number (with_post posts said) turn front → AreTurnLines m number posts turn (d ∷ front)
one_line_more m number posts turn said d [] is lines = absurd lines
one_line_more m number posts turn said d (e ∷ front) is lines = (said, (is, lines))

cut : (m : Map) (number : ℕ) (posts : List (List Post)) (turns : List (List (List Post))) (ds : List Data) → length posts ≡ m.callers
    → Rest m number posts turns ds → Cut m number posts turns ds
cut m number posts turns [] long (none, empty) = inl (record { turn = none; line = refl; post = empty })
cut m number posts turns (d ∷ ds) long (inl (said, (is, rest))) =
    by_cut (cut m number (with_post posts said) turns ds (with_post-length posts said ∙ long) rest)
  where
    low : said.caller < length posts
    low = subst (λ (n : ℕ). said.caller < n) (sym long) (few_caller m.version m.callers said.caller said.post d is)

    by_cut : Cut m number (with_post posts said) turns ds → Cut m number posts turns (d ∷ ds)
    by_cut (inl h) = let clash : true ≡ false = sym h.post ∙ with_post-full posts said low in absurd (cc)
    by_cut (inr h) = inr (record {
      turn = h.turn;
      more = h.more;
      front = d ∷ h.front;
      back = h.back;
      those = h.those;
      all = ap (λ (more : List Data). d ∷ more) h.all;
      lines = one_line_more m number posts h.turn said d h.front is h.lines;
      others = h.others;
    })
cut m number posts turns (d ∷ ds) long (inr (more, (same, (is, rest)))) = inr (record {
  turn = posts;
  more = more;
  front = d ∷ [];
  back = ds;
  those = same;
  all = refl;
  lines = (is, refl);
  others = cut_turns m (number + 1) (no_posts m.callers) more ds (cut m (number + 1) (no_posts m.callers) more ds (length-no_posts m.callers) rest) refl;
})

turns_rest : (m : Map) (number : ℕ) (turns : List (List (List Post))) (ds : List Data) → Rest m number (no_posts m.callers) turns ds
    → AreTurnsLines m number turns ds
turns_rest m number turns ds rest =
    cut_turns m number (no_posts m.callers) turns ds (cut m number (no_posts m.callers) turns ds (length-no_posts m.callers) rest) refl

pub record Parts (m whole : Map) (turns : List (List (List Post))) (ds : List Data) : Type 0 where
  pub base : List Data
  pub rest : List Data
  pub all : ds ≡ base ++ rest
  pub rectangles : AreBaseLines m whole base
  pub posts : AreTurnsLines whole 1 turns rest

pub parts_of : (m whole : Map) (turns : List (List (List Post))) (ds : List Data) → BaseRest m whole turns ds → Parts m whole turns ds
parts_of m whole turns [] (same, none) = record {
  base = [];
  rest = [];
  all = refl;
  rectangles = same;
  posts = subst (λ (t : List (List (List Post))). AreTurnsLines whole 1 t []) (sym none) refl;
}
parts_of m whole turns (d ∷ ds) (inl (rects, (is, rest))) =
    let parts = parts_of (with_base m rects) whole turns ds rest in record {
      base = d ∷ parts.base;
      rest = parts.rest;
      all = ap (λ (more : List Data). d ∷ more) parts.all;
      rectangles = (rects, (is, parts.rectangles));
      posts = parts.posts;
    }
parts_of m whole turns (d ∷ ds) (inr (same, rest)) = record {
  base = [];
  rest = d ∷ ds;
  all = refl;
  rectangles = same;
  posts = subst (λ (now : Map). AreTurnsLines now 1 turns (d ∷ ds)) (sym same) (turns_rest m 1 turns (d ∷ ds) rest);
}
