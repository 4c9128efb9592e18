-- The journal of a served input: what it is made of, and that its output tells it.
use Rattle.std.proofs.Common.{◌≡◌, ℕ, zero, suc, ◌+◌, ◌≤◌, ◌==◌, Bool, true, false, cond, All, IsTrue, List, [], ◌∷◌, ◌++◌, length, get_or, set, Option, None, Some, option_and_then, refl, sym, ap, subst, ◌∙◌}
use Rattle.std.specs.List.{list_all}
use Rattle.std.proofs.lemmas.Bool.{and_from}
use Rattle.std.proofs.lemmas.List.Elements.{All-nil, All-cons, All-append}
use Rattle.serde_json.specs.Data.{Data}
use Rattle.nav_types.specs.declared.cells.Rect.{Rect}
use Rattle.nav_types.specs.Cells.{IsRectInside}
use Rattle.posts.specs.declared.posts.Post.{Post}
use Rattle.posts.specs.Maps.{Map, with_base}
use Rattle.posts.specs.Callers.{of_caller, list_of}
use Rattle.path_service.specs.machine.Facts.{HaveLists}
use Rattle.input_lines.specs.Lines.{full_lines, tail_of}
use Rattle.script_text.specs.declared.forms.CallerPost.{CallerPost}
use Rattle.script_text.specs.declared.parts.Rules.{Rules}
use Rattle.script_text.specs.declared.parts.Part.{Part}
use Rattle.script_text.specs.declared.parts.Part.TheVariants.{BeforeMap, InBase, InTurns}
use Rattle.script_text.specs.Forms.{map_of, base_of, post_of, end_of}
use Rattle.script_text.specs.Script.{rules_of, Place, beginning, Item, begins, adds_base, ends_turn, Stop, Ends, at_place, stuck_by, Walk, arrived, stuck, chain_from, chain, map_after_item, map_after, turns_of, reading_of, counted, bad, no_posts, map_line, with_post, end_line, turn_line, placed_in_turn, base_line, placed_in, placed, is_long, too_long, accept, walk, is_empty, finish_in, finish, whole_input, bad_line, last_line, reading}
use Rattle.script_text.specs.Canon.{is_post_of, HaveLines}
use Rattle.script_text.specs.ReadsBack.{IsMapValue, IsPostValue, ArePostValues, AreTurns, canon_script}
use Rattle.script_text.proofs.GrammarLines.{map-is, base-is}
use Rattle.script_text.proofs.GrammarPosts.{post-is}
use Rattle.pathserve.specs.Serving.{IsServed}
use Rattle.match_laws.specs.ToldJournals.{script_lines}
use Rattle.match_laws.proofs.ReadValues.{map_said, base_said, post_said}
use Rattle.match_laws.proofs.ToldLines.{script_told}

-- ---- posts that can be written

-- each one is so
abbrev Each : {A : Type 0} → (A → Type 0) → List A → Type 0
Each P [] = Unit {0}
Each P (x ∷ xs) = P x × Each P xs

abbrev IsWritable : ℕ → Post → Type 0
IsWritable version post = IsPostValue post × IsTrue (is_post_of version post)

abbrev AreWritable : ℕ → List (List Post) → Type 0
AreWritable version lists = Each (λ posts. Each (IsWritable version) posts) lists

each_push : (version : ℕ) (posts : List Post) (post : Post) → Each (IsWritable version) posts → IsWritable version post → Each (IsWritable version) (posts ++ post ∷ [])
each_push version [] post are is = (is, tt)
each_push version (first ∷ posts) post are is = (are.0, each_push version posts post are.1 is)

each_of : (version : ℕ) (lists : List (List Post)) (caller : ℕ) → AreWritable version lists → Each (IsWritable version) (get_or lists caller [])
each_of version [] caller are = tt
each_of version (posts ∷ lists) zero are = are.0
each_of version (posts ∷ lists) (suc caller) are = each_of version lists caller are.1

each_set : (version : ℕ) (lists : List (List Post)) (caller : ℕ) (own : List Post) → AreWritable version lists → Each (IsWritable version) own
    → AreWritable version (set lists caller own)
each_set version [] caller own are is = tt
each_set version (posts ∷ lists) zero own are is = (is, are.1)
each_set version (posts ∷ lists) (suc caller) own are is = (are.0, each_set version lists caller own are.1 is)

one_more : (version : ℕ) (lists : List (List Post)) (said : CallerPost) → AreWritable version lists → IsWritable version said.post
    → AreWritable version (with_post lists said)
one_more version lists said are is =
    each_set version lists said.caller (list_of lists said.caller ++ said.post ∷ []) are
    (each_push version (list_of lists said.caller) said.post (each_of version lists said.caller are) is)

none_yet : (version callers : ℕ) → AreWritable version (no_posts callers)
none_yet version zero = tt
none_yet version (suc callers) = (tt, none_yet version callers)

-- ---- items

-- what an item may be, behind those that gave this map
abbrev IsSound : Option Map → Item → Type 0
IsSound found (begins m) = (found ≡ None) × IsMapValue m
IsSound None (adds_base rects) = ⊥
IsSound (Some m) (adds_base rects) = IsMapValue (with_base m rects)
IsSound None (ends_turn posts) = ⊥
IsSound (Some m) (ends_turn posts) = AreWritable m.version posts

abbrev AreSound : Option Map → List Item → Type 0
AreSound found [] = Unit {0}
AreSound found (item ∷ items) = IsSound found item × AreSound (map_after_item found item) items

sound_both : (found : Option Map) (xs ys : List Item) → AreSound found xs → AreSound (map_after found xs) ys → AreSound found (xs ++ ys)
sound_both found [] ys first second = second
sound_both found (item ∷ xs) ys first second = (first.0, sound_both (map_after_item found item) xs ys first.1 second)

-- where the map stands and what the posts so far are
record FitsRules (found : Option Map) (rules : Rules) (posts : List (List Post)) : Type 0 where
  map : Map
  is : found ≡ Some map
  value : IsMapValue map
  keeps_to : rules ≡ rules_of map
  writable : AreWritable map.version posts

abbrev FitsPart : Option Map → Part → List (List Post) → Type 0
FitsPart found BeforeMap posts = found ≡ None
FitsPart found (InBase rules) posts = FitsRules found rules posts
FitsPart found (InTurns rules) posts = FitsRules found rules posts

abbrev FitsEnds : Option Map → Ends → Type 0
FitsEnds found (at_place p) = FitsPart found p.part p.posts
FitsEnds found (stuck_by stop) = Unit {0}

record IsSoundWalk (found : Option Map) (items : List Item) (ends : Ends) : Type 0 where
  gives : AreSound found items
  stands : FitsEnds (map_after found items) ends

abbrev Sound : Option Map → Walk → Type 0
Sound found w = IsSoundWalk found w.items w.ends

after_both : (found : Option Map) (xs ys : List Item) → map_after (map_after found xs) ys ≡ map_after found (xs ++ ys)
after_both found [] ys = refl
after_both found (item ∷ xs) ys = after_both (map_after_item found item) xs ys

sound_from : (found : Option Map) (items : List Item) (ends : Ends) (g : Place → Walk) → IsSoundWalk found items ends
    → ((now : Option Map) (p : Place) → FitsPart now p.part p.posts → Sound now (g p)) → Sound found (chain_from items ends g)
sound_from found items (at_place p) g is more =
    let next = more (map_after found items) p is.stands in record {
      gives = sound_both found items (g p).items is.gives next.gives;
      stands = subst (λ (now : Option Map). FitsEnds now (g p).ends) (after_both found items (g p).items) next.stands;
    }
sound_from found items (stuck_by stop) g is more = is

sound_chain : (found : Option Map) (w : Walk) (g : Place → Walk) → Sound found w
    → ((now : Option Map) (p : Place) → FitsPart now p.part p.posts → Sound now (g p)) → Sound found (chain w g)
sound_chain found w g is more = sound_from found w.items w.ends g is more

sound_stuck : (found : Option Map) (stop : Stop) → Sound found (stuck stop)
sound_stuck found stop = record { gives = tt; stands = tt }

-- ---- one line

sound_map : (p : Place) (m : Option Map) (found : Option Map) → found ≡ None → ((map : Map) → m ≡ Some map → IsMapValue map) → Sound found (map_line p m)
sound_map p None found none values = sound_stuck found (bad_line p.lines)
sound_map p (Some m) found none values = record {
  gives = ((none, values m refl), tt);
  stands = record { map = m; is = refl; value = values m refl; keeps_to = refl; writable = none_yet m.version m.callers };
}

sound_end : (found : Option Map) (p : Place) (rules : Rules) (number : Option ℕ) → FitsRules found rules p.posts → Sound found (end_line p rules number)
sound_end found p rules None fits = sound_stuck found (bad_line p.lines)
sound_end found p rules (Some number) fits = by_number (number == p.turns + 1)
  where
    turn_sound : AreSound found (ends_turn p.posts ∷ [])
    turn_sound = (subst (λ (now : Option Map). IsSound now (ends_turn p.posts)) (sym fits.is) fits.writable, tt)

    by_number : (same : Bool) → Sound found (cond same
        (arrived (ends_turn p.posts ∷ []) (record p { part = InTurns rules; turns = p.turns + 1; posts = no_posts rules.callers })) (bad p))
    by_number true = record {
      gives = turn_sound;
      stands = record { map = fits.map; is = fits.is; value = fits.value; keeps_to = fits.keeps_to; writable = none_yet fits.map.version rules.callers };
    }
    by_number false = sound_stuck found (bad_line p.lines)

sound_turn : (found : Option Map) (p : Place) (rules : Rules) (said : Option CallerPost) (number : Option ℕ) → FitsRules found rules p.posts
    → ((one : CallerPost) → said ≡ Some one → IsWritable rules.version one.post) → Sound found (turn_line p rules said number)
sound_turn found p rules (Some said) number fits values = record {
  gives = tt;
  stands = record {
    map = fits.map;
    is = fits.is;
    value = fits.value;
    keeps_to = fits.keeps_to;
    writable = one_more fits.map.version p.posts said fits.writable (subst (λ (r : Rules). IsWritable r.version said.post) fits.keeps_to (values said refl));
  };
}
sound_turn found p rules None number fits values = sound_end found p rules number fits

said_post : (rules : Rules) (d : Option Data) (one : CallerPost) → option_and_then (post_of rules.version rules.callers) d ≡ Some one → IsWritable rules.version one.post
said_post rules None one e = absurd (cc)
said_post rules (Some d) one e = post_said rules.version rules.callers one.caller one.post d (post-is rules.version rules.callers d one e)

sound_in_turn : (found : Option Map) (p : Place) (rules : Rules) (d : Option Data) → FitsRules found rules p.posts → Sound found (placed_in_turn p rules d)
sound_in_turn found p rules d fits =
    sound_turn found p rules (option_and_then (post_of rules.version rules.callers) d) (option_and_then end_of d) fits (said_post rules d)

based : (m : Map) (rects : List (Rect × ℕ)) (d : Data) → IsMapValue m → base_of m.size d ≡ Some rects → IsMapValue (with_base m rects)
based m rects d is e =
    let more = base_said m.size rects d (base-is m.size d rects e) in record {
      is = record {
        oldest = is.is.oldest;
        newest = is.is.newest;
        some_caller = is.is.some_caller;
        few_callers = is.is.few_callers;
        base_inside = All-append (λ (entry : Rect × ℕ). IsRectInside m.size entry.0) m.base rects is.is.base_inside more.inside;
      };
      classes = is.classes;
      masks = All-append (λ (entry : Rect × ℕ). entry.1 ≤ 65535) m.base rects is.masks more.masks;
    }

said_base : (m : Map) (d : Option Data) (rects : List (Rect × ℕ)) → IsMapValue m → option_and_then (base_of m.size) d ≡ Some rects → IsMapValue (with_base m rects)
said_base m None rects is e = absurd (cc)
said_base m (Some d) rects is e = based m rects d is e

sound_base : (found : Option Map) (p : Place) (rules : Rules) (d : Option Data) (read : Option (List (Rect × ℕ))) → p.part ≡ InBase rules
    → FitsRules found rules p.posts
    → ((m : Map) (rects : List (Rect × ℕ)) → rules ≡ rules_of m → IsMapValue m → read ≡ Some rects → IsMapValue (with_base m rects))
    → Sound found (base_line p rules d read)
sound_base found p rules d (Some rects) part fits values =
    let value : IsMapValue (with_base fits.map rects) = values fits.map rects fits.keeps_to fits.value refl in record {
      gives = (subst (λ (now : Option Map). IsSound now (adds_base rects)) (sym fits.is) value, tt);
      stands = subst (λ (q : Part). FitsPart (map_after_item found (adds_base rects)) q p.posts) (sym part) (record {
        map = with_base fits.map rects;
        is = ap (λ (now : Option Map). map_after_item now (adds_base rects)) fits.is;
        value = value;
        keeps_to = fits.keeps_to;
        writable = fits.writable;
      });
    }
sound_base found p rules d None part fits values = sound_in_turn found p rules d fits

said_map : (d : Option Data) (m : Map) → option_and_then map_of d ≡ Some m → IsMapValue m
said_map None m e = absurd (cc)
said_map (Some d) m e = map_said m d (map-is d m e)

sound_placed : (found : Option Map) (part : Part) (p : Place) (d : Option Data) → p.part ≡ part → FitsPart found part p.posts → Sound found (placed_in part p d)
sound_placed found BeforeMap p d at fits = sound_map p (option_and_then map_of d) found fits (said_map d)
sound_placed found (InBase rules) p d at fits =
    sound_base found p rules d (option_and_then (base_of rules.size) d) at fits
    (λ m rects same value e. said_base m d rects value (ap (λ (r : Rules). option_and_then (base_of r.size) d) (sym same) ∙ e))
sound_placed found (InTurns rules) p d at fits = sound_in_turn found p rules d fits

sound_accept : (found : Option Map) (size : ℕ) (l : List ℕ) (p : Place) → FitsPart found p.part p.posts → Sound found (accept size l p)
sound_accept found size l p fits = by_length (is_long p size l)
  where
    by_length : (long : Bool) → Sound found (cond long (stuck (too_long (p.lines + 1))) (placed (counted p size) (reading_of l)))
    by_length true = sound_stuck found (too_long (p.lines + 1))
    by_length false = sound_placed found p.part (counted p size) (reading_of l) refl fits

-- ---- the whole input

sound_walk : (found : Option Map) (lines : List (List ℕ)) (p : Place) → FitsPart found p.part p.posts → Sound found (walk lines p)
sound_walk found [] p fits = record { gives = tt; stands = fits }
sound_walk found (l ∷ lines) p fits =
    sound_chain found (accept (length l + 1) l p) (λ q. walk lines q) (sound_accept found (length l + 1) l p fits)
    (λ now q more. sound_walk now lines q more)

sound_finish : (found : Option Map) (part : Part) (p : Place) → Sound found (finish_in part p)
sound_finish found BeforeMap p = sound_stuck found (bad_line (p.lines + 1))
sound_finish found (InBase rules) p = sound_stuck found whole_input
sound_finish found (InTurns rules) p = by_posts (list_all is_empty p.posts)
  where
    by_posts : (none : Bool) → Sound found (cond none (stuck whole_input) (stuck (bad_line (p.lines + 1))))
    by_posts true = sound_stuck found whole_input
    by_posts false = sound_stuck found (bad_line (p.lines + 1))

sound_last : (found : Option Map) (l : List ℕ) (p : Place) → FitsPart found p.part p.posts → Sound found (last_line l p)
sound_last found [] p fits = sound_finish found p.part p
sound_last found (byte ∷ bytes) p fits =
    sound_chain found (accept (length (byte ∷ bytes)) (byte ∷ bytes) p) finish (sound_accept found (length (byte ∷ bytes)) (byte ∷ bytes) p fits)
    (λ now q more. sound_finish now q.part q)

sound_reading : (bytes : List ℕ) → AreSound None (reading bytes beginning).items
sound_reading bytes =
    (sound_chain None (walk (full_lines bytes) beginning) (λ q. last_line (tail_of bytes) q) (sound_walk None (full_lines bytes) beginning refl)
    (λ now q more. sound_last now (tail_of bytes) q more)).gives

-- ---- what sound items say

record Says (found : Option Map) (items : List Item) (m : Map) : Type 0 where
  value : IsMapValue m
  turns : Each (AreWritable m.version) (turns_of items)

says_from : (m end : Map) (items : List Item) → IsMapValue m → AreSound (Some m) items → map_after (Some m) items ≡ Some end
    → (IsMapValue end × (m.version ≡ end.version)) × Each (AreWritable m.version) (turns_of items)
says_from m end [] is sound e = let same : m ≡ end = cc in ((subst IsMapValue same is, ap (λ (n : Map). n.version) same), tt)
says_from m end (begins n ∷ items) is sound e = let no = sound.0.0 in absurd (cc)
says_from m end (adds_base rects ∷ items) is sound e = says_from (with_base m rects) end items sound.0 sound.1 e
says_from m end (ends_turn posts ∷ items) is sound e =
    let rest = says_from m end items is sound.1 e in (rest.0, (sound.0, rest.1))

says_all : (end : Map) (items : List Item) → AreSound None items → map_after None items ≡ Some end
    → IsMapValue end × Each (AreWritable end.version) (turns_of items)
says_all end [] sound e = absurd (cc)
says_all end (begins m ∷ items) sound e =
    let ((value, same), turns) = says_from m end items sound.0.1 sound.1 e in
    (value, subst (λ (v : ℕ). Each (AreWritable v) (turns_of items)) same turns)
says_all end (adds_base rects ∷ items) sound e = absurd sound.0
says_all end (ends_turn posts ∷ items) sound e = absurd sound.0

-- ---- caller by caller

each_both : (version : ℕ) (xs ys : List Post) → Each (IsWritable version) xs → Each (IsWritable version) ys → Each (IsWritable version) (xs ++ ys)
each_both version [] ys first second = second
each_both version (x ∷ xs) ys first second = (first.0, each_both version xs ys first.1 second)

each_apart : (version : ℕ) (xs ys : List Post) → Each (IsWritable version) (xs ++ ys) → Each (IsWritable version) xs × Each (IsWritable version) ys
each_apart version [] ys all = (tt, all)
each_apart version (x ∷ xs) ys all = let rest = each_apart version xs ys all.1 in ((all.0, rest.0), rest.1)

caller_writable : (version : ℕ) (turns : List (List (List Post))) (caller : ℕ) → Each (AreWritable version) turns → Each (IsWritable version) (of_caller caller turns)
caller_writable version [] caller are = tt
caller_writable version (turn ∷ turns) caller are =
    each_both version (get_or turn caller []) (of_caller caller turns) (each_of version turn caller are.0) (caller_writable version turns caller are.1)

turn_writable : (version : ℕ) (turn : List (List Post)) → ((caller : ℕ) → Each (IsWritable version) (get_or turn caller [])) → AreWritable version turn
turn_writable version [] each = tt
turn_writable version (posts ∷ turn) each = (each 0, turn_writable version turn (λ caller. each (suc caller)))

journal_writable : (version : ℕ) (journal : List (List (List Post))) → ((caller : ℕ) → Each (IsWritable version) (of_caller caller journal)) → Each (AreWritable version) journal
journal_writable version [] each = tt
journal_writable version (turn ∷ journal) each = (
  turn_writable version turn (λ caller. (each_apart version (get_or turn caller []) (of_caller caller journal) (each caller)).0),
  journal_writable version journal (λ caller. (each_apart version (get_or turn caller []) (of_caller caller journal) (each caller)).1),
)

-- ---- turns, as scripts are written from them

record OfPosts (version : ℕ) (posts : List Post) : Type 0 where
  values : All IsPostValue posts
  lines : list_all (is_post_of version) posts ≡ true

of_posts : (version : ℕ) (posts : List Post) → Each (IsWritable version) posts → OfPosts version posts
of_posts version [] are = record { values = All-nil IsPostValue; lines = refl }
of_posts version (post ∷ posts) are =
    let rest = of_posts version posts are.1 in record {
      values = All-cons IsPostValue post posts are.0.0 rest.values;
      lines = and_from (is_post_of version post) (list_all (is_post_of version) posts) are.0.1 rest.lines;
    }

record OfTurn (version : ℕ) (turn : List (List Post)) : Type 0 where
  values : ArePostValues turn
  lines : HaveLines version turn

of_turn : (version : ℕ) (turn : List (List Post)) → AreWritable version turn → OfTurn version turn
of_turn version [] are = record { values = All-nil (λ posts. All IsPostValue posts); lines = refl }
of_turn version (posts ∷ turn) are =
    let first = of_posts version posts are.0 in
    let rest = of_turn version turn are.1 in record {
      values = All-cons (λ own. All IsPostValue own) posts turn first.values rest.values;
      lines = and_from (list_all (is_post_of version) posts) (list_all (λ own. list_all (is_post_of version) own) turn) first.lines rest.lines;
    }

of_turns : (m : Map) (turns : List (List (List Post))) → HaveLists m.callers turns → Each (AreWritable m.version) turns → AreTurns m turns
of_turns m [] wide are = record {
  lists = All-nil (λ (turn : List (List Post)). length turn ≡ m.callers);
  lines = All-nil (HaveLines m.version);
  values = All-nil ArePostValues;
}
of_turns m (turn ∷ turns) wide are =
    let first = of_turn m.version turn are.0 in
    let rest = of_turns m turns wide.1 are.1 in record {
      lists = All-cons (λ (turn : List (List Post)). length turn ≡ m.callers) turn turns wide.0 rest.lists;
      lines = All-cons (HaveLines m.version) turn turns first.lines rest.lines;
      values = All-cons ArePostValues turn turns first.values rest.values;
    }

-- ---- served inputs

pub map_served : (bytes out : List ℕ) (served : IsServed bytes out) → IsMapValue served.map
map_served bytes out served = (says_all served.map (reading bytes beginning).items (sound_reading bytes) served.on_map).0

pub turns_served : (bytes out : List ℕ) (served : IsServed bytes out) → AreTurns served.map served.journal
turns_served bytes out served =
    let items = (reading bytes beginning).items in
    let version = served.map.version in
    let said = (says_all served.map items (sound_reading bytes) served.on_map).1 in
    of_turns served.map served.journal served.of_callers.wide
    (journal_writable version served.journal
    (λ caller. subst (λ (posts : List Post). Each (IsWritable version) posts) (sym (served.of_callers.posts caller)) (caller_writable version (turns_of items) caller said)))

pub journal_told : (bytes out : List ℕ) (served : IsServed bytes out) → script_lines out ≡ canon_script served.map served.journal
journal_told bytes out served =
    ap script_lines served.text ∙ script_told served.map served.journal served.told (map_served bytes out served) (turns_served bytes out served)
