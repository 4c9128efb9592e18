-- The lines of an output that begin with `{` are the canonical script.
use Rattle.std.proofs.Common.{◌≡◌, ℕ, zero, suc, ◌+◌, ◌<◌, ◌≤◌, ◌==◌, List, [], ◌∷◌, ◌++◌, length, flat_map, take, drop, Bool, true, false, not, cond, nat_lt, nat_le, ◌&&◌, decimal, All, IsTrue, refl, ap, sym, ◌∙◌, arith, append_assoc, append-nil}
use Rattle.std.specs.Prelude.{codes}
use Rattle.std.specs.List.{list_all}
use Rattle.std.proofs.lemmas.Bool.{and_parts, and_from, ne_eqb, leb-true, ltb-true}
use Rattle.std.proofs.lemmas.List.Elements.{All-head, All-tail, All-take, All-drop}
use Rattle.std.proofs.lemmas.List.Folds.{list_all-append}
use Rattle.nav_types.specs.declared.cells.Rect.{Rect}
use Rattle.nav_types.specs.declared.cells.Size.{Size}
use Rattle.nav_types.specs.Cells.{IsRectInside}
use Rattle.posts.specs.declared.replies.Reply.{Reply}
use Rattle.posts.specs.declared.replies.Tallies.{Tallies}
use Rattle.posts.specs.declared.replies.TurnReplies.{TurnReplies}
use Rattle.posts.specs.declared.edits.Edit.TheVariants.{Add, Remove, Move}
use Rattle.posts.specs.declared.posts.Post.{Post}
use Rattle.posts.specs.declared.posts.Post.TheVariants.{Edit as Edits, Ask as Asks}
use Rattle.posts.specs.declared.posts.Request.TheVariants.{Path as AskPath, Region as AskRegion}
use Rattle.posts.specs.Maps.{Map}
use Rattle.json.specs.Print.{quoted}
use Rattle.serde_json.specs.Written.{compact_text}
use Rattle.serde_json.specs.Data.{object, Members}
use Rattle.input_lines.specs.Lines.{full_lines, in_front, IsPlain}
use Rattle.input_lines.proofs.LineLists.{full_lines-line}
use Rattle.script_text.specs.Canon.{line, map_json, base_json, pieces, canon_base, canon_map, post_json, canon_posts, canon_callers, end_json, canon_journal, is_post_of, HaveLines}
use Rattle.script_text.specs.ReadsBack.{IsMapValue, IsPostValue, ArePostValues, AreTurns, canon_turns, canon_script}
use Rattle.script_text.specs.inner.Plain.{is_plain}
use Rattle.script_text.proofs.CanonTexts.{plain-decimal, quoted-plain}
use Rattle.script_text.proofs.BackLines.{post_reads}
use Rattle.script_text.proofs.BackMaps.{map_back, base_back}
use Rattle.answer_text.specs.Answers.{line_of, reply_words, reply_line, reply_lines, caller_lines, turn_line, turn_text}
use Rattle.pathserve.specs.Output.{turn_texts}
use Rattle.match_laws.specs.ToldJournals.{is_script_line, script_lines}
use Rattle.match_laws.proofs.AnswerWords.{in_word, are_words, all_in_line, goes_on, is_plain_text, reply_line_words, turn_words, turn_line_words}

-- ---- texts without `{`

-- the byte is no `{`
abbrev other : ℕ → Bool
other byte = not (byte == 123)

abbrev has_none : List ℕ → Bool
has_none text = list_all other text

none_in_both : (xs ys : List ℕ) → has_none xs ≡ true → has_none ys ≡ true → has_none (xs ++ ys) ≡ true
none_in_both xs ys h k = list_all-append other xs ys ∙ and_from (has_none xs) (has_none ys) h k

abbrev all_have_none : List (List ℕ) → Bool
all_have_none lines = list_all has_none lines

in_front_none : (byte : ℕ) (lines : List (List ℕ)) → other byte ≡ true → all_have_none lines ≡ true → all_have_none (in_front byte lines) ≡ true
in_front_none byte [] h k = refl
in_front_none byte (first ∷ lines) h k =
    let s = and_parts (has_none first) (all_have_none lines) k in
    and_from (has_none (byte ∷ first)) (all_have_none lines) (and_from (other byte) (has_none first) h s.0) s.1

lines_have_none : (text : List ℕ) → has_none text ≡ true → all_have_none (full_lines text) ≡ true
lines_have_none [] h = refl
lines_have_none (byte ∷ text) h =
    let s = and_parts (other byte) (has_none text) h in
    by_newline (byte == 10) (full_lines text) (lines_have_none text s.1) s.0
  where
    by_newline : (newline : Bool) (lines : List (List ℕ)) → all_have_none lines ≡ true → other byte ≡ true
        → all_have_none (cond newline ([] ∷ lines) (in_front byte lines)) ≡ true
    by_newline true lines k h = k
    by_newline false lines k h = in_front_none byte lines h k

-- the lines that are kept
abbrev kept : List ℕ → List ℕ
kept l = cond (is_script_line l) (l ++ 10 ∷ []) []

not_kept : (l : List ℕ) → has_none l ≡ true → kept l ≡ []
not_kept [] h = refl
not_kept (byte ∷ l) h =
    let s = and_parts (other byte) (has_none l) h in by_byte (byte == 123) s.0
  where
    by_byte : (is : Bool) → not is ≡ true → cond is ((byte ∷ l) ++ 10 ∷ []) [] ≡ []
    by_byte true e = absurd (cc)
    by_byte false e = refl

none_kept : (lines : List (List ℕ)) → all_have_none lines ≡ true → flat_map kept lines ≡ []
none_kept [] h = refl
none_kept (first ∷ lines) h =
    let s = and_parts (has_none first) (all_have_none lines) h in
    ap (λ (text : List ℕ). text ++ flat_map kept lines) (not_kept first s.0) ∙ none_kept lines s.1

no_script_lines : (text : List ℕ) → has_none text ≡ true → script_lines text ≡ []
no_script_lines text h = none_kept (full_lines text) (lines_have_none text h)

-- ---- the texts of answers have none

printed_other : (byte : ℕ) → in_word byte ≡ true → other byte ≡ true
printed_other byte h =
    let high : byte < 123 = ltb-true byte 123 (and_parts (nat_lt 32 byte) (nat_lt byte 123) h).1 in
    ap not (ne_eqb byte 123 (λ e. omega (arith, e, high)))

line_none : (words : List (List ℕ)) → are_words words ≡ true → has_none (line_of words) ≡ true
line_none words h = all_in_line other refl printed_other refl words h

reply_line_none : (caller post : ℕ) (reply : Reply) → has_none (reply_line caller post reply) ≡ true
unfolding reply_line
reply_line_none caller post reply = line_none (decimal caller ∷ decimal post ∷ reply_words reply) (reply_line_words caller post reply)

reply_lines_none : (caller post : ℕ) (replies : List Reply) → has_none (reply_lines caller post replies) ≡ true
reply_lines_none caller post [] = refl
reply_lines_none caller post (reply ∷ replies) =
    none_in_both (reply_line caller post reply) (reply_lines caller (post + 1) replies) (reply_line_none caller post reply) (reply_lines_none caller (post + 1) replies)

caller_lines_none : (caller : ℕ) (lists : List (List Reply)) → has_none (caller_lines caller lists) ≡ true
caller_lines_none caller [] = refl
caller_lines_none caller (replies ∷ lists) =
    none_in_both (reply_lines caller 0 replies) (caller_lines (caller + 1) lists) (reply_lines_none caller 0 replies) (caller_lines_none (caller + 1) lists)

turn_line_none : (turn : ℕ) (tallies : Tallies) (relabelled : ℕ) → has_none (turn_line turn tallies relabelled) ≡ true
unfolding turn_line
turn_line_none turn tallies relabelled = line_none (turn_words turn tallies relabelled) (turn_line_words turn tallies relabelled)

turns_none : (number : ℕ) (all : List TurnReplies) → has_none (turn_texts number all) ≡ true
turns_none number [] = refl
turns_none number (told ∷ all) =
    let first = turn_line number told.tallies told.relabelled in
    none_in_both (turn_text number told) (turn_texts (number + 1) all)
    (none_in_both first (caller_lines 0 told.replies) (turn_line_none number told.tallies told.relabelled) (caller_lines_none 0 told.replies))
    (turns_none (number + 1) all)

-- ---- canonical scripts

-- the text is of script lines alone, whatever comes behind it
record IsTold (text : List ℕ) : Type 0 where
  told : (rest : List ℕ) → script_lines (text ++ rest) ≡ text ++ script_lines rest

told_nothing : IsTold []
told_nothing = record { told = λ rest. refl }

told_both : (a b : List ℕ) → IsTold a → IsTold b → IsTold (a ++ b)
told_both a b first second = record {
  told = λ rest.
      ap script_lines (append_assoc a b rest) ∙ first.told (b ++ rest) ∙ ap (λ more. a ++ more) (second.told rest) ∙ sym (append_assoc a b (script_lines rest));
}

told_line : (ms : Members) → IsPlain (compact_text (object ms)) → IsTold (line (object ms))
unfolding line
told_line ms plain = record {
  told = λ rest.
      let text : List ℕ = compact_text (object ms) in
      ap script_lines (append_assoc text (10 ∷ []) rest)
      ∙ ap (λ lines. flat_map kept lines) (full_lines-line text rest plain);
}

told_map_line : (m : Map) → IsMapValue m → IsTold (line (map_json m))
unfolding map_json
told_map_line m is = told_line _ (map_back m is).plain

told_base_line : (size : Size) (rects : List (Rect × ℕ)) → All (λ (entry : Rect × ℕ). IsRectInside size entry.0) rects
    → All (λ (entry : Rect × ℕ). entry.1 ≤ 65535) rects → IsTold (line (base_json rects))
unfolding base_json
told_base_line size rects inside masks = told_line _ (base_back size rects inside masks).plain

told_pieces : (size : Size) (n many : ℕ) (rects : List (Rect × ℕ)) → All (λ (entry : Rect × ℕ). IsRectInside size entry.0) rects
    → All (λ (entry : Rect × ℕ). entry.1 ≤ 65535) rects → IsTold (flat_map (λ piece. line (base_json piece)) (pieces n many rects))
told_pieces size zero many rects inside masks = told_nothing
told_pieces size (suc n) many [] inside masks = told_nothing
told_pieces size (suc n) many (rect ∷ rects) inside masks =
    let all : List (Rect × ℕ) = rect ∷ rects in
    let Inside : Rect × ℕ → Type 0 = λ entry. IsRectInside size entry.0 in
    let Masked : Rect × ℕ → Type 0 = λ entry. entry.1 ≤ 65535 in
    told_both (line (base_json (take many all))) (flat_map (λ piece. line (base_json piece)) (pieces n many (drop many all)))
    (told_base_line size (take many all) (All-take Inside many all inside) (All-take Masked many all masks))
    (told_pieces size n many (drop many all) (All-drop Inside many all inside) (All-drop Masked many all masks))

told_map : (m : Map) → IsMapValue m → IsTold (canon_map m)
unfolding canon_map canon_base
told_map m is =
    told_both (line (map_json m)) (flat_map (λ piece. line (base_json piece)) (pieces (length m.base) 65536 m.base))
    (told_map_line m is) (told_pieces m.size (length m.base) 65536 m.base is.is.base_inside is.masks)

-- ---- the lines of posts

told_plain : (version caller : ℕ) (post : Post) → IsPlain (compact_text (post_json version caller post)) → IsTold (line (post_json version caller post))
unfolding post_json
told_plain version caller (Edits (Add id o)) plain = told_line _ plain
told_plain version caller (Edits (Remove id)) plain = told_line _ plain
told_plain version caller (Edits (Move id x z)) plain = told_line _ plain
told_plain version caller (Asks (AskPath request)) plain = told_line _ plain
told_plain version caller (Asks (AskRegion query)) plain = told_line _ plain

told_post : (m : Map) (caller : ℕ) (post : Post) → IsMapValue m → caller < m.callers → IsPostValue post → IsTrue (is_post_of m.version post)
    → IsTold (line (post_json m.version caller post))
told_post m caller post is low value has =
    told_plain m.version caller post (post_reads m.version m.callers caller post is.is.few_callers low value has).plain

told_posts : (m : Map) (caller : ℕ) (posts : List Post) → IsMapValue m → caller < m.callers → All IsPostValue posts
    → list_all (is_post_of m.version) posts ≡ true → IsTold (flat_map (λ post. line (post_json m.version caller post)) posts)
told_posts m caller [] is low values lines = told_nothing
told_posts m caller (post ∷ posts) is low values lines =
    let has = and_parts (is_post_of m.version post) (list_all (is_post_of m.version) posts) lines in
    told_both (line (post_json m.version caller post)) (flat_map (λ post. line (post_json m.version caller post)) posts)
    (told_post m caller post is low (All-head IsPostValue post posts values) has.0)
    (told_posts m caller posts is low (All-tail IsPostValue post posts values) has.1)

told_callers : (m : Map) (caller : ℕ) (lists : List (List Post)) → IsMapValue m → caller + length lists ≤ m.callers → ArePostValues lists
    → HaveLines m.version lists → IsTold (canon_callers m.version caller lists)
unfolding canon_posts
told_callers m caller [] is few values lines = told_nothing
told_callers m caller (posts ∷ lists) is few values have =
    let Values : List Post → Type 0 = λ own. All IsPostValue own in
    let has = and_parts (list_all (is_post_of m.version) posts) (list_all (λ own. list_all (is_post_of m.version) own) lists) have in
    told_both (canon_posts m.version caller posts) (canon_callers m.version (caller + 1) lists)
    (told_posts m caller posts is (omega (arith, few)) (All-head Values posts lists values) has.0)
    (told_callers m (caller + 1) lists is (omega (arith, few)) (All-tail Values posts lists values) has.1)

-- ---- end lines

plain_goes_on : (cs : List ℕ) → list_all is_plain cs ≡ true → list_all goes_on cs ≡ true
plain_goes_on [] h = refl
plain_goes_on (c ∷ cs) h =
    let s = and_parts (is_plain c) (list_all is_plain cs) h in
    let low : 32 ≤ c = leb-true 32 c (and_parts (nat_le 32 c) (not (c == 34)) (and_parts (nat_le 32 c && not (c == 34)) (not (c == 92)) s.0).0).0 in
    and_from (goes_on c) (list_all goes_on cs) (ap not (ne_eqb c 10 (λ e. omega (arith, e, low)))) (plain_goes_on cs s.1)

told_end : (turn : ℕ) → IsTold (line (end_json turn))
unfolding end_json
told_end turn =
    let front : List ℕ = 123 ∷ (quoted (codes "end") ++ 58 ∷ []) in
    let text : List ℕ = decimal turn ++ 125 ∷ [] in
    let closed : list_all goes_on text ≡ true =
    list_all-append goes_on (decimal turn) (125 ∷ []) ∙ and_from (list_all goes_on (decimal turn)) true (plain_goes_on (decimal turn) (plain-decimal turn)) refl in
    told_line _ (is_plain_text (compact_text (end_json turn))
    (ap (λ t. list_all goes_on (123 ∷ t)) (sym (append_assoc (quoted (codes "end")) (58 ∷ []) text))
    ∙ list_all-append goes_on front text ∙ and_from (list_all goes_on front) (list_all goes_on text) front_goes closed))
  where
    front_goes : list_all goes_on (123 ∷ (quoted (codes "end") ++ 58 ∷ [])) ≡ true
    front_goes = ap (λ (q : List ℕ). list_all goes_on (123 ∷ (q ++ 58 ∷ []))) (quoted-plain (codes "end") refl)

told_turns : (m : Map) (number : ℕ) (turns : List (List (List Post))) → IsMapValue m → AreTurns m turns → IsTold (canon_turns m number turns)
unfolding canon_journal
told_turns m number [] is are = told_nothing
told_turns m number (turn ∷ turns) is are =
    let Long : List (List Post) → Type 0 = λ lists. length lists ≡ m.callers in
    let long : length turn ≡ m.callers = All-head Long turn turns are.lists in
    told_both (canon_journal m number turn) (canon_turns m (number + 1) turns)
    (told_both (canon_callers m.version 0 turn) (line (end_json number))
    (told_callers m 0 turn is (omega (arith, long)) (All-head ArePostValues turn turns are.values) (All-head (HaveLines m.version) turn turns are.lines))
    (told_end number))
    (told_turns m (number + 1) turns is (record {
      lists = All-tail Long turn turns are.lists;
      lines = All-tail (HaveLines m.version) turn turns are.lines;
      values = All-tail ArePostValues turn turns are.values;
    }))

-- the script and nothing of the answers
pub script_told : (m : Map) (journal : List (List (List Post))) (told : List TurnReplies) → IsMapValue m → AreTurns m journal
    → script_lines (canon_script m journal ++ turn_texts 1 told) ≡ canon_script m journal
script_told m journal told is are =
    let script = told_both (canon_map m) (canon_turns m 1 journal) (told_map m is) (told_turns m 1 journal is are) in
    script.told (turn_texts 1 told)
    ∙ ap (λ (rest : List ℕ). canon_script m journal ++ rest) (no_script_lines (turn_texts 1 told) (turns_none 1 told))
    ∙ append-nil (canon_script m journal)
