-- One call behind another, of a source that tells its bytes.
use Rattle.std.proofs.Common.{◌≡◌, ℕ, List, [], ◌∷◌, ◌++◌, Option, IsTrue, refl, ap, sym, ◌∙◌, append_assoc}
use Rattle.std.proofs.lemmas.List.Elements.{All-append}
use Rattle.posts.specs.Maps.{Map}
use Rattle.input_lines.specs.Lines.{unlines, IsPlain}
use Rattle.script_text.specs.Script.{Item, begins, adds_base, ends_turn, Stop, arrived, chain, map_after, map_after_item, turns_of, walk, reading}
use Rattle.script_text.specs.Reader.{Held, UsesLines, GoesOn, StopsAtFault, stuck_after}
use Rattle.input_lines.specs.Held.{WhereTold}
use Rattle.input_lines.proofs.ToldLines.{told-same}
use Rattle.script_text.proofs.ReadWalk.{walk-append}
use Rattle.script_text.proofs.ReadNext.{not_ended, goes_nowhere, took_more}

-- ---- items

pub map_after-append : (found : Option Map) (xs ys : List Item) → map_after found (xs ++ ys) ≡ map_after (map_after found xs) ys
map_after-append found [] ys = refl
map_after-append found (x ∷ xs) ys = map_after-append (map_after_item found x) xs ys

pub turns_of-append : (xs ys : List Item) → turns_of (xs ++ ys) ≡ turns_of xs ++ turns_of ys
turns_of-append [] ys = refl
turns_of-append (begins m ∷ xs) ys = turns_of-append xs ys
turns_of-append (adds_base rects ∷ xs) ys = turns_of-append xs ys
turns_of-append (ends_turn posts ∷ xs) ys = ap (λ turns. posts ∷ turns) (turns_of-append xs ys)

-- ---- one call behind another

unlines-append : (lines more : List (List ℕ)) (rest : List ℕ) → unlines (lines ++ more) ++ rest ≡ unlines lines ++ (unlines more ++ rest)
unlines-append [] more rest = refl
unlines-append (line ∷ lines) more rest =
    append_assoc line (10 ∷ unlines (lines ++ more)) rest ∙ ap (λ l. line ++ 10 ∷ l) (unlines-append lines more rest)
    ∙ sym (append_assoc line (10 ∷ unlines lines) (unlines more ++ rest))

pub uses_then : (a b c : Held) (taken more : List ℕ) (xs ys : List Item) → UsesLines a b taken xs → UsesLines b c more ys → UsesLines a c (taken ++ more) (xs ++ ys)
uses_then a b c taken more xs ys u v = record {
  lines = u.lines ++ v.lines;
  plain = All-append IsPlain u.lines v.lines u.plain v.plain;
  bytes = sym (append_assoc a.bytes taken more) ∙ ap (λ l. l ++ more) u.bytes ∙ append_assoc (unlines u.lines) b.bytes more ∙ ap (λ l. unlines u.lines ++ l) v.bytes
      ∙ sym (unlines-append u.lines v.lines c.bytes);
  walked = walk-append u.lines v.lines a.place ∙ ap (λ w. chain w (λ q. walk v.lines q)) u.walked ∙ ap (λ w. chain (arrived xs b.place) (λ q. w)) v.walked;
}

pub goes_then : (a b c : Held) (x y z : List ℕ) (xs ys : List Item) → (IsTrue b.ended → IsTrue c.ended) → GoesOn a b x y xs → GoesOn b c y z ys → GoesOn a c x z (xs ++ ys)
goes_then a b c x y z xs ys stays g h = record {
  taken = g.taken ++ h.taken;
  took = took_more x y z g.taken h.taken g.took h.took;
  same = g.same ∙ ap (λ w. chain (arrived xs b.place) (λ q. w)) h.same
      ∙ ap (λ items. record { items = items; ends = (reading (c.bytes ++ z) c.place).ends }) (sym (append_assoc xs ys (reading (c.bytes ++ z) c.place).items));
  cause = g.cause ∙ h.cause;
  at_end = h.at_end;
  used = λ going. uses_then a b c g.taken h.taken xs ys (g.used (not_ended b.ended c.ended stays going)) (h.used going);
}

pub stuck_then : (a b : Held) (x y : List ℕ) (xs ys : List Item) (s : Stop) → GoesOn a b x y xs → reading (b.bytes ++ y) b.place ≡ stuck_after ys s → reading (a.bytes ++ x) a.place ≡ stuck_after (xs ++ ys) s
stuck_then a b x y xs ys s g e = g.same ∙ ap (λ w. chain (arrived xs b.place) (λ q. w)) e

pub fault_then : (a b c : Held) (x y z : List ℕ) (xs ys : List Item) → (IsTrue a.ended → IsTrue b.ended) → GoesOn a b x y xs → StopsAtFault b c y z ys → StopsAtFault a c x z (xs ++ ys)
fault_then a b c x y z xs ys stays g s = record {
  going = not_ended a.ended b.ended stays s.going;
  taken = g.taken ++ s.taken;
  took = took_more x y z g.taken s.taken g.took s.took;
  used = uses_then a b c g.taken s.taken xs ys (g.used s.going) s.used;
  no_line = s.no_line;
}

-- ---- what is told

abbrev pub GoesTold : Held → Held → Option (List ℕ) → Option (List ℕ) → Type 0
GoesTold old new left later = WhereTold left later (λ before after. (IsTrue old.ended → before ≡ []) → GoesOn old new before after [])

pub goes_begun : (old : Held) (left : Option (List ℕ)) → GoesTold old old left left
goes_begun old left = told-same left _ (λ x end. goes_nowhere old x end)
