-- The parts of a canonical script, each by the stage where it leads, and the reading of the whole.
use Rattle.std.proofs.Common.{◌≡◌, ℕ, zero, suc, ◌+◌, ◌<◌, ◌≤◌, ◌==◌, List, [], ◌∷◌, ◌++◌, length, take, drop, map, flat_map, slice_set, All, IsTrue, Bool, true, false, Option, Some, None, refl, ap, sym, subst, ◌∙◌, arith, append_assoc, append-nil, length-append, length-drop, eq-eqb, take-append-drop}
use Rattle.std.specs.List.{list_all}
use Rattle.std.proofs.Math.Seq.{get_or-append_seam, set-append_seam}
use Rattle.std.proofs.lemmas.Bool.{and_parts, cond-true}
use Rattle.std.proofs.lemmas.List.Elements.{All-head, All-tail, All-take, All-drop}
use Rattle.posts.specs.declared.posts.Post.{Post}
use Rattle.posts.specs.Maps.{Map, with_base}
use Rattle.posts.specs.Callers.{list_of}
use Rattle.script_text.proofs.ReadCalls.{map_after-append}
use Rattle.serde_json.specs.Data.{Data}
use Rattle.nav_types.specs.declared.cells.Rect.{Rect}
use Rattle.nav_types.specs.declared.cells.Size.{Size}
use Rattle.nav_types.specs.Cells.{IsRectInside}
use Rattle.script_text.specs.declared.forms.CallerPost.{CallerPost}
use Rattle.script_text.specs.Forms.{base_of, post_of, end_of}
use Rattle.script_text.specs.Grammar.{base_line as says_base, post_line as says_post, end_line as says_end}
use Rattle.script_text.specs.declared.parts.Rules.{Rules}
use Rattle.script_text.specs.declared.parts.Part.{Part}
use Rattle.script_text.specs.declared.parts.Part.TheVariants.{BeforeMap, InBase, InTurns}
use Rattle.script_text.specs.Script.{rules_of, Place, beginning, Item, begins, adds_base, ends_turn, whole_input, stuck, map_after, turns_of, no_posts, placed, map_line, with_post, end_line, turn_line, placed_in_turn, base_line, is_empty, finish, reading}
use Rattle.script_text.specs.Reader.{stuck_after}
use Rattle.script_text.specs.Canon.{line, map_json, base_json, pieces, canon_base, canon_map, post_json, canon_posts, canon_callers, end_json, canon_journal, is_post_of, HaveLines}
use Rattle.script_text.specs.ReadsBack.{IsMapValue, IsPostValue, ArePostValues, AreTurns, canon_turns, canon_script, IsWithinLimits, ReadsAs}
use Rattle.script_text.proofs.GrammarLines.{base-is, end-is}
use Rattle.script_text.proofs.GrammarPosts.{post-is, one_line}
use Rattle.script_text.proofs.BackLines.{post_reads, end_reads}
use Rattle.script_text.proofs.BackMaps.{map_back, base_back}
use Rattle.script_text.proofs.BackWalk.{Stage, place_at, after_items, FitsWithin, Goes, goes-nothing, goes-both, Gives, goes-line}

-- ---- stages

abbrev first_stage : Stage
first_stage = record { part = BeforeMap; turns = 0; posts = [] }

-- behind the map line: where base lines may stand, or where a line of a turn stood already
abbrev part_by : Bool → Rules → Part
part_by true rules = InTurns rules
part_by false rules = InBase rules

abbrev stage : Rules → Bool → ℕ → List (List Post) → Stage
stage rules begun turns posts = record { part = part_by begun rules; turns = turns; posts = posts }

-- no post of the turn that comes
abbrev between : Map → Bool → ℕ → Stage
between m begun turns = stage (rules_of m) begun turns (no_posts m.callers)

-- A text of posts leads to a stage with these posts. Whether a line of a turn stood before it, is left open.
record Reaches (rules : Rules) (text : List ℕ) (s : Stage) (turns : ℕ) (posts : List (List Post)) : Type 0 where
  begun : Bool
  goes : Goes text s [] (stage rules begun turns posts)

-- ---- readings of one form are of no other

not_base-post : (version callers : ℕ) (size : Size) (d : Data) (said : CallerPost)
    → post_of version callers d ≡ Some said → base_of size d ≡ None
not_base-post version callers size d said e = by_base (base_of size d) refl
  where
    by_base : (o : Option (List (Rect × ℕ))) → base_of size d ≡ o → base_of size d ≡ None
    by_base None f = f
    by_base (Some rects) f =
        let same : says_base rects ≡ says_post said =
        one_line version callers size d (says_base rects) (says_post said) (base-is size d rects f)
        (post-is version callers d said e) in
        absurd (cc)

not_base-end : (size : Size) (d : Data) (turn : ℕ) → end_of d ≡ Some turn → base_of size d ≡ None
not_base-end size d turn e = by_base (base_of size d) refl
  where
    by_base : (o : Option (List (Rect × ℕ))) → base_of size d ≡ o → base_of size d ≡ None
    by_base None f = f
    by_base (Some rects) f =
        let same : says_base rects ≡ says_end turn =
        one_line 1 1 size d (says_base rects) (says_end turn) (base-is size d rects f) (end-is d turn e) in
        absurd (cc)

not_post-end : (version callers : ℕ) (size : Size) (d : Data) (turn : ℕ) → end_of d ≡ Some turn
    → post_of version callers d ≡ None
not_post-end version callers size d turn e = by_post (post_of version callers d) refl
  where
    by_post : (o : Option CallerPost) → post_of version callers d ≡ o → post_of version callers d ≡ None
    by_post None f = f
    by_post (Some said) f =
        let same : says_post said ≡ says_end turn =
        one_line version callers size d (says_post said) (says_end turn) (post-is version callers d said f)
        (end-is d turn e) in
        absurd (cc)

-- ---- the map and its base

-- the map of the map line
abbrev bare_map : Map → Map
bare_map m = record m { base = [] }

goes-map_line : (m : Map) → IsMapValue m
    → Goes (line (map_json m)) first_stage (begins (bare_map m) ∷ []) (between m false 0)
goes-map_line m is =
    goes-line (map_json m) _ first_stage (between m false 0) (begins (bare_map m) ∷ []) (λ few. map_back m is)
    (omega arith) (λ d says bytes lines. ap (map_line (place_at bytes lines first_stage)) says)

record IsPiece (size : Size) (rects : List (Rect × ℕ)) : Type 0 where
  inside : All (λ (entry : Rect × ℕ). IsRectInside size entry.0) rects
  masks : All (λ (entry : Rect × ℕ). entry.1 ≤ 65535) rects

piece_front : (size : Size) (n : ℕ) (rects : List (Rect × ℕ)) → IsPiece size rects → IsPiece size (take n rects)
piece_front size n rects is = record {
  inside = All-take (λ (entry : Rect × ℕ). IsRectInside size entry.0) n rects is.inside;
  masks = All-take (λ (entry : Rect × ℕ). entry.1 ≤ 65535) n rects is.masks;
}

piece_back : (size : Size) (n : ℕ) (rects : List (Rect × ℕ)) → IsPiece size rects → IsPiece size (drop n rects)
piece_back size n rects is = record {
  inside = All-drop (λ (entry : Rect × ℕ). IsRectInside size entry.0) n rects is.inside;
  masks = All-drop (λ (entry : Rect × ℕ). entry.1 ≤ 65535) n rects is.masks;
}

-- base lines stay at their stage
goes-base_line : (rules : Rules) (turns : ℕ) (posts : List (List Post)) (rects : List (Rect × ℕ))
    → IsPiece rules.size rects
    → let here = stage rules false turns posts in Goes (line (base_json rects)) here (adds_base rects ∷ []) here
goes-base_line rules turns posts rects is =
    let here : Stage = stage rules false turns posts in
    goes-line (base_json rects) _ here here (adds_base rects ∷ [])
    (λ few. base_back rules.size rects is.inside is.masks) (omega arith)
    (λ d says bytes lines. ap (base_line (place_at bytes lines here) rules (Some d)) says)

goes-pieces : (rules : Rules) (turns : ℕ) (posts : List (List Post)) (n size : ℕ) (rects : List (Rect × ℕ))
    → IsPiece rules.size rects
    → Goes (flat_map (λ piece. line (base_json piece)) (pieces n size rects)) (stage rules false turns posts)
    (map adds_base (pieces n size rects)) (stage rules false turns posts)
goes-pieces rules turns posts zero size rects is = goes-nothing (stage rules false turns posts)
goes-pieces rules turns posts (suc n) size [] is = goes-nothing (stage rules false turns posts)
goes-pieces rules turns posts (suc n) size (rect ∷ rects) is =
    let all : List (Rect × ℕ) = rect ∷ rects in
    goes-both (goes-base_line rules turns posts (take size all) (piece_front rules.size size all is))
    (goes-pieces rules turns posts n size (drop size all) (piece_back rules.size size all is))

-- the pieces of the base
abbrev base_pieces : Map → List (List (Rect × ℕ))
base_pieces m = pieces (length m.base) 65536 m.base

goes-map : (m : Map) → IsMapValue m
    → Goes (canon_map m) first_stage (begins (bare_map m) ∷ map adds_base (base_pieces m)) (between m false 0)
unfolding canon_map canon_base
goes-map m is =
    goes-both (goes-map_line m is)
    (goes-pieces (rules_of m) 0 (no_posts m.callers) (length m.base) 65536 m.base
    (record { inside = is.is.base_inside; masks = is.masks }))

-- ---- posts

-- a line that is no base line, where base lines may stand or not
in_turn : (rules : Rules) (begun : Bool) (turns : ℕ) (posts : List (List Post)) (d : Data) (bytes lines : ℕ)
    → base_of rules.size d ≡ None → let p = place_at bytes lines (stage rules begun turns posts) in
    placed p (Some d) ≡ placed_in_turn p rules (Some d)
in_turn rules true turns posts d bytes lines none = refl
in_turn rules false turns posts d bytes lines none =
    ap (base_line (place_at bytes lines (stage rules false turns posts)) rules (Some d)) none

-- one post more of the caller whose list stands behind those of the callers before it
with_post-seam : (before after : List (List Post)) (posts : List Post) (caller : ℕ) (post : Post)
    → length before ≡ caller → with_post (before ++ posts ∷ after) (record { caller = caller; post = post })
    ≡ before ++ (posts ++ post ∷ []) ∷ after
with_post-seam before after posts caller post e =
    let all : List (List Post) = before ++ posts ∷ after in
    ap (λ k. slice_set all k (list_of all k ++ post ∷ [])) (sym e)
    ∙ ap (λ own. slice_set all (length before) (own ++ post ∷ [])) (get_or-append_seam before posts after [])
    ∙ set-append_seam before posts after (posts ++ post ∷ [])

goes-post : (rules : Rules) (begun : Bool) (turns caller : ℕ) (posts : List (List Post)) (post : Post)
    → rules.callers ≤ 64 → caller < rules.callers → IsPostValue post → IsTrue (is_post_of rules.version post)
    → Goes (line (post_json rules.version caller post)) (stage rules begun turns posts) []
    (stage rules true turns (with_post posts (record { caller = caller; post = post })))
goes-post rules begun turns caller posts post few low value has =
    let said : CallerPost = record { caller = caller; post = post } in
    goes-line (post_json rules.version caller post) _ (stage rules begun turns posts)
    (stage rules true turns (with_post posts said)) []
    (λ small. post_reads rules.version rules.callers caller post few low value has) (omega arith)
    (λ d says bytes lines.
    in_turn rules begun turns posts d bytes lines
    (not_base-post rules.version rules.callers rules.size d said says)
    ∙ ap (λ o. turn_line (place_at bytes lines (stage rules begun turns posts)) rules o (end_of d)) says)

-- the posts of a caller, behind those that it has
reaches-posts : (rules : Rules) (begun : Bool) (turns caller : ℕ) (before after : List (List Post))
    (done posts : List Post) → rules.callers ≤ 64 → caller < rules.callers → length before ≡ caller
    → All IsPostValue posts → list_all (is_post_of rules.version) posts ≡ true
    → Reaches rules (flat_map (λ post. line (post_json rules.version caller post)) posts)
    (stage rules begun turns (before ++ done ∷ after)) turns (before ++ (done ++ posts) ∷ after)
reaches-posts rules begun turns caller before after done [] few low at values have =
    let here : Stage = stage rules begun turns (before ++ done ∷ after) in
    let To : List Post → Type 0 = λ own. Goes [] here [] (stage rules begun turns (before ++ own ∷ after)) in
    record { begun = begun; goes = subst To (sym (append-nil done)) (goes-nothing here) }
reaches-posts rules begun turns caller before after done (post ∷ posts) few low at values have =
    let has = and_parts (is_post_of rules.version post) (list_all (is_post_of rules.version) posts) have in
    let text : List ℕ = line (post_json rules.version caller post) in
    let rest : List ℕ = flat_map (λ p. line (post_json rules.version caller p)) posts in
    let here : Stage = stage rules begun turns (before ++ done ∷ after) in
    let To : List (List Post) → Type 0 = λ own. Goes text here [] (stage rules true turns own) in
    let first : To (before ++ (done ++ post ∷ []) ∷ after) =
    subst To (with_post-seam before after done caller post at)
    (goes-post rules begun turns caller (before ++ done ∷ after) post few low
    (All-head IsPostValue post posts values) has.0) in
    let others = reaches-posts rules true turns caller before after (done ++ post ∷ []) posts few low at
    (All-tail IsPostValue post posts values) has.1 in
    let Ends : List Post → Type 0 = λ own.
    Goes (text ++ rest) here [] (stage rules others.begun turns (before ++ own ∷ after)) in
    let both : Ends ((done ++ post ∷ []) ++ posts) = goes-both first others.goes in
    record { begun = others.begun; goes = subst Ends (append_assoc done (post ∷ []) posts) both }

-- the posts of the callers from one on, behind those of the callers before it
reaches-callers : (rules : Rules) (begun : Bool) (turns caller : ℕ) (before lists : List (List Post))
    → rules.callers ≤ 64 → length before ≡ caller → caller + length lists ≤ rules.callers
    → ArePostValues lists → HaveLines rules.version lists
    → Reaches rules (canon_callers rules.version caller lists)
    (stage rules begun turns (before ++ no_posts (length lists))) turns (before ++ lists)
unfolding canon_posts
reaches-callers rules begun turns caller before [] few at low values have =
    record { begun = begun; goes = goes-nothing (stage rules begun turns (before ++ [])) }
reaches-callers rules begun turns caller before (posts ∷ lists) few at low values have =
    let Values : List Post → Type 0 = λ own. All IsPostValue own in
    let has = and_parts (list_all (is_post_of rules.version) posts)
    (list_all (λ own. list_all (is_post_of rules.version) own) lists) have in
    let empty : List (List Post) = no_posts (length lists) in
    let next : List (List Post) = before ++ posts ∷ [] in
    let rest : List ℕ = canon_callers rules.version (caller + 1) lists in
    let first = reaches-posts rules begun turns caller before empty [] posts few (omega (arith, low)) at
    (All-head Values posts lists values) has.0 in
    let long : length next ≡ caller + 1 = length-append before (posts ∷ []) ∙ ap (λ n. n + 1) at in
    let others = reaches-callers rules first.begun turns (caller + 1) next lists few long (omega (arith, low))
    (All-tail Values posts lists values) has.1 in
    let From : List (List Post) → Type 0 = λ own.
    Goes rest (stage rules first.begun turns own) [] (stage rules others.begun turns (next ++ lists)) in
    let To : List (List Post) → Type 0 = λ own.
    Goes rest (stage rules first.begun turns (before ++ posts ∷ empty)) [] (stage rules others.begun turns own) in
    let second : To (before ++ posts ∷ lists) =
    subst To (append_assoc before (posts ∷ []) lists)
    (subst From (append_assoc before (posts ∷ []) empty) others.goes) in
    record { begun = others.begun; goes = goes-both first.goes second }

-- ---- turns

goes-end : (rules : Rules) (begun : Bool) (turns : ℕ) (posts : List (List Post))
    → Goes (line (end_json (turns + 1))) (stage rules begun turns posts) (ends_turn posts ∷ [])
    (stage rules true (turns + 1) (no_posts rules.callers))
goes-end rules begun turns posts =
    goes-line (end_json (turns + 1)) _ (stage rules begun turns posts)
    (stage rules true (turns + 1) (no_posts rules.callers)) (ends_turn posts ∷ [])
    (λ few. end_reads (turns + 1) (omega (arith, few))) (omega arith) by_end
  where
    by_end : (d : Data) → end_of d ≡ Some (turns + 1)
        → Gives d (stage rules begun turns posts) (ends_turn posts ∷ [])
        (stage rules true (turns + 1) (no_posts rules.callers))
    by_end d says bytes lines =
        let p : Place = place_at bytes lines (stage rules begun turns posts) in
        in_turn rules begun turns posts d bytes lines (not_base-end rules.size d (turns + 1) says)
        ∙ ap (λ o. turn_line p rules o (end_of d))
        (not_post-end rules.version rules.callers rules.size d (turns + 1) says)
        ∙ ap (end_line p rules) says ∙ cond-true (turns + 1 == turns + 1) _ _ (eq-eqb (turns + 1) (turns + 1) refl)

goes-turn : (m : Map) (begun : Bool) (turns : ℕ) (turn : List (List Post)) → IsMapValue m → length turn ≡ m.callers
    → HaveLines m.version turn → ArePostValues turn
    → Goes (canon_journal m (turns + 1) turn) (between m begun turns) (ends_turn turn ∷ []) (between m true (turns + 1))
unfolding canon_journal
goes-turn m begun turns turn is lists have values =
    let rules : Rules = rules_of m in
    let posted =
    reaches-callers rules begun turns 0 [] turn is.is.few_callers refl (omega (arith, lists)) values have in
    let text : List ℕ = canon_callers m.version 0 turn in
    let From : ℕ → Type 0 = λ n.
    Goes text (stage rules begun turns (no_posts n)) [] (stage rules posted.begun turns turn) in
    goes-both (subst From lists posted.goes) (goes-end rules posted.begun turns turn)

-- turns lead from the end of one turn to the end of another
record ReachTurns (m : Map) (begun : Bool) (done : ℕ) (turns : List (List (List Post))) : Type 0 where
  begun_after : Bool
  done_after : ℕ
  goes : Goes (canon_turns m (done + 1) turns) (between m begun done) (map ends_turn turns)
      (between m begun_after done_after)

reach_turns : (m : Map) (begun : Bool) (done : ℕ) (turns : List (List (List Post))) → IsMapValue m → AreTurns m turns
    → ReachTurns m begun done turns
reach_turns m begun done [] is are =
    record { begun_after = begun; done_after = done; goes = goes-nothing (between m begun done) }
reach_turns m begun done (turn ∷ turns) is are =
    let Long : List (List Post) → Type 0 = λ lists. length lists ≡ m.callers in
    let first = goes-turn m begun done turn is (All-head Long turn turns are.lists)
    (All-head (HaveLines m.version) turn turns are.lines) (All-head ArePostValues turn turns are.values) in
    let others = reach_turns m true (done + 1) turns is (record {
      lists = All-tail Long turn turns are.lists;
      lines = All-tail (HaveLines m.version) turn turns are.lines;
      values = All-tail ArePostValues turn turns are.values;
    }) in
    record { begun_after = others.begun_after; done_after = others.done_after; goes = goes-both first others.goes }

-- ---- what the items say

map_after-turns : (found : Option Map) (turns : List (List (List Post))) → map_after found (map ends_turn turns) ≡ found
map_after-turns found [] = refl
map_after-turns found (turn ∷ turns) = map_after-turns found turns

-- the map with other base rectangles
abbrev based : Map → List (Rect × ℕ) → Option Map
based m base = Some (record m { base = base })

abbrev joined : List (List (Rect × ℕ)) → List (Rect × ℕ)
joined parts = flat_map (λ part. part) parts

map_after-pieces : (m : Map) (parts : List (List (Rect × ℕ)))
    → map_after (Some m) (map adds_base parts) ≡ based m (m.base ++ joined parts)
map_after-pieces m [] = ap (based m) (sym (append-nil m.base))
map_after-pieces m (part ∷ parts) =
    map_after-pieces (with_base m part) parts ∙ ap (based m) (append_assoc m.base part (joined parts))

joined-pieces : (n : ℕ) (rects : List (Rect × ℕ)) → length rects ≤ n → joined (pieces n 65536 rects) ≡ rects
joined-pieces zero [] h = refl
joined-pieces zero (rect ∷ rects) h = absurd (omega (arith, h))
joined-pieces (suc n) [] h = refl
joined-pieces (suc n) (rect ∷ rects) h =
    let all : List (Rect × ℕ) = rect ∷ rects in
    ap (λ more. take 65536 all ++ more) (joined-pieces n (drop 65536 all) (omega (arith, h, length-drop 65536 all)))
    ∙ take-append-drop 65536 all

turns_of-pieces : (parts : List (List (Rect × ℕ))) (items : List Item)
    → turns_of (map adds_base parts ++ items) ≡ turns_of items
turns_of-pieces [] items = refl
turns_of-pieces (part ∷ parts) items = turns_of-pieces parts items

turns_of-turns : (turns : List (List (List Post))) → turns_of (map ends_turn turns) ≡ turns
turns_of-turns [] = refl
turns_of-turns (turn ∷ turns) = ap (λ others. turn ∷ others) (turns_of-turns turns)

-- the items of a canonical script
abbrev script_items : Map → List (List (List Post)) → List Item
script_items m turns = (begins (bare_map m) ∷ map adds_base (base_pieces m)) ++ map ends_turn turns

items-map : (m : Map) (turns : List (List (List Post))) → map_after None (script_items m turns) ≡ Some m
items-map m turns =
    map_after-append (Some (bare_map m)) (map adds_base (base_pieces m)) (map ends_turn turns)
    ∙ map_after-turns (map_after (Some (bare_map m)) (map adds_base (base_pieces m))) turns
    ∙ map_after-pieces (bare_map m) (base_pieces m) ∙ ap (based m) (joined-pieces (length m.base) m.base (omega arith))

items-turns : (m : Map) (turns : List (List (List Post))) → turns_of (script_items m turns) ≡ turns
items-turns m turns = turns_of-pieces (base_pieces m) (map ends_turn turns) ∙ turns_of-turns turns

-- ---- the whole

empty-no_posts : (callers : ℕ) → list_all is_empty (no_posts callers) ≡ true
empty-no_posts zero = refl
empty-no_posts (suc callers) = empty-no_posts callers

-- where no turn has begun the input may end
finish-whole : (m : Map) (begun : Bool) (turns bytes lines : ℕ)
    → finish (place_at bytes lines (between m begun turns)) ≡ stuck whole_input
finish-whole m false turns bytes lines = refl
finish-whole m true turns bytes lines = cond-true (list_all is_empty (no_posts m.callers)) _ _ (empty-no_posts m.callers)

pub script-reads : (m : Map) (turns : List (List (List Post))) → IsMapValue m → AreTurns m turns
    → IsWithinLimits (canon_script m turns) → ReadsAs m turns (canon_script m turns)
script-reads m turns is are limits =
    let text : List ℕ = canon_script m turns in
    let items : List Item = script_items m turns in
    let posted = reach_turns m false 0 turns is are in
    let all = goes-both (goes-map m is) posted.goes in
    let fits : FitsWithin 0 0 text =
    record { lines = limits.lines; whole = omega (arith, limits.whole); ended = omega arith } in
    let led = all.leads [] 0 0 (subst (FitsWithin 0 0) (sym (append-nil text)) fits) in
    record {
      items = items;
      whole = ap (λ bytes. reading bytes beginning) (sym (append-nil text)) ∙ led.reads
          ∙ ap (after_items items) (finish-whole m posted.begun_after posted.done_after led.bytes led.lines)
          ∙ ap (λ all. stuck_after all whole_input) (append-nil items);
      says_map = items-map m turns;
      says_turns = items-turns m turns;
    }
