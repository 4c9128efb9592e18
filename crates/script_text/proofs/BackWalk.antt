-- The reading of a text that goes on: what lines give in front of any rest, and where they lead.
use Rattle.std.proofs.Common.{◌≡◌, ℕ, ◌+◌, ◌≤◌, List, [], ◌∷◌, ◌++◌, length, All, false, cond, nat_lt, Some, refl, ap, sym, subst, ◌∙◌, arith, append_assoc, length-append}
use Rattle.std.proofs.lemmas.List.Elements.{All-head, All-tail}
use Rattle.std.proofs.lemmas.Bool.{le-ltb, or_from}
use Rattle.serde_json.specs.Data.{Data}
use Rattle.serde_json.specs.Written.{compact_text}
use Rattle.posts.specs.declared.posts.Post.{Post}
use Rattle.input_lines.specs.Lines.{full_lines}
use Rattle.script_text.specs.declared.parts.Part.{Part}
use Rattle.script_text.specs.Script.{Place, Item, Walk, too_long, arrived, stuck, chain, reading_of, counted, placed, is_long, accept, reading}
use Rattle.script_text.specs.Canon.{line}
use Rattle.input_lines.proofs.LineLists.{full_lines-line}
use Rattle.script_text.proofs.ReadWalk.{reading-line}
use Rattle.script_text.proofs.BackForms.{ReadsTo}

-- a place without its counts of bytes and lines
pub record Stage : Type 0 where
  pub part : Part
  pub turns : ℕ
  pub posts : List (List Post)

abbrev pub place_at : ℕ → ℕ → Stage → Place
place_at bytes lines s = record { bytes = bytes; lines = lines; part = s.part; turns = s.turns; posts = s.posts }

-- items in front of those of a walk
abbrev pub after_items : List Item → Walk → Walk
after_items items w = record { items = items ++ w.items; ends = w.ends }

-- a text behind so many bytes keeps to the limits, and no more turns have ended than there are bytes
pub record FitsWithin (bytes turns : ℕ) (text : List ℕ) : Type 0 where
  pub lines : All (λ line. length line ≤ 8388608) (full_lines text)
  pub whole : bytes + length text ≤ 4294967296
  pub ended : turns ≤ bytes

-- the reading of a text from a place gives items, and goes on with the rest at another stage
pub record Leads (text rest : List ℕ) (from : Place) (items : List Item) (to : Stage) : Type 0 where
  pub bytes : ℕ
  pub lines : ℕ
  pub reads : reading text from ≡ after_items items (reading rest (place_at bytes lines to))
  pub fits : FitsWithin bytes to.turns rest

-- in front of any rest that keeps to the limits the text leads from the one stage to the other
pub record Goes (text : List ℕ) (s : Stage) (items : List Item) (t : Stage) : Type 0 where
  pub leads : (rest : List ℕ) (bytes lines : ℕ) → FitsWithin bytes s.turns (text ++ rest)
      → Leads (text ++ rest) rest (place_at bytes lines s) items t

pub goes-nothing : (s : Stage) → Goes [] s [] s
goes-nothing s =
    record { leads = λ rest bytes lines fits. record { bytes = bytes; lines = lines; reads = refl; fits = fits } }

after_both : (xs ys : List Item) (w : Walk) → after_items xs (after_items ys w) ≡ after_items (xs ++ ys) w
after_both xs ys w =
    ap (λ items. let made : Walk = record { items = items; ends = w.ends } in made) (sym (append_assoc xs ys w.items))

-- one text behind the other
pub goes-both : {a b : List ℕ} {s t u : Stage} {xs ys : List Item} → Goes a s xs t → Goes b t ys u
    → Goes (a ++ b) s (xs ++ ys) u
goes-both {a} {b} {s} {t} {u} {xs} {ys} first second = record { leads = both }
  where
    both : (rest : List ℕ) (bytes lines : ℕ) → FitsWithin bytes s.turns ((a ++ b) ++ rest)
        → Leads ((a ++ b) ++ rest) rest (place_at bytes lines s) (xs ++ ys) u
    both rest bytes lines fits =
        let same : (a ++ b) ++ rest ≡ a ++ (b ++ rest) = append_assoc a b rest in
        let left = first.leads (b ++ rest) bytes lines (subst (FitsWithin bytes s.turns) same fits) in
        let right = second.leads rest left.bytes left.lines left.fits in
        record {
          bytes = right.bytes;
          lines = right.lines;
          reads = ap (λ text. reading text (place_at bytes lines s)) same ∙ left.reads ∙ ap (after_items xs) right.reads
              ∙ after_both xs ys (reading rest (place_at right.bytes right.lines u));
          fits = right.fits;
        }

-- ---- one line

accept-short : (size : ℕ) (text : List ℕ) (p : Place) (value : Data) → length text ≤ 8388608
    → p.bytes + size ≤ 4294967296 → reading_of text ≡ Some value
    → accept size text p ≡ placed (counted p size) (Some value)
accept-short size text p value short few reads =
    let e : is_long p size text ≡ false =
    or_from (nat_lt 8388608 (length text)) (nat_lt 4294967296 (p.bytes + size))
    (le-ltb 8388608 (length text) short) (le-ltb 4294967296 (p.bytes + size) few) in
    ap (λ b. cond b (stuck (too_long (p.lines + 1))) (placed (counted p size) (reading_of text))) e ∙ ap (placed (counted p size)) reads

-- what a line's reading gives at a stage, however many bytes and lines stand before it
abbrev pub Gives : Data → Stage → List Item → Stage → Type 0
Gives value s items t =
    (bytes lines : ℕ) → placed (place_at bytes lines s) (Some value) ≡ arrived items (place_at bytes lines t)

-- A line leads from the one stage to the other where it reads back as something that does. It ends at most one turn,
-- and no more turns end than bytes may stand in an input.
pub goes-line : (d : Data) (Says : Data → Type 0) (s t : Stage) (items : List Item)
    → (s.turns ≤ 4294967296 → ReadsTo d Says) → t.turns ≤ s.turns + 1
    → ((value : Data) → Says value → Gives value s items t) → Goes (line d) s items t
unfolding line
goes-line d Says s t items reads_back turn gives = record { leads = one }
  where
    one_more : (xs : List ℕ) → length (10 ∷ xs) ≡ length xs + 1
    one_more xs = omega arith

    one : (rest : List ℕ) (bytes lines : ℕ) → FitsWithin bytes s.turns ((compact_text d ++ 10 ∷ []) ++ rest)
        → Leads ((compact_text d ++ 10 ∷ []) ++ rest) rest (place_at bytes lines s) items t
    one rest bytes lines fits =
        let text : List ℕ = compact_text d in
        let back : ReadsTo d Says = reads_back (omega (arith, fits.ended, fits.whole)) in
        let same : (text ++ 10 ∷ []) ++ rest ≡ text ++ 10 ∷ rest = append_assoc text (10 ∷ []) rest in
        let here : FitsWithin bytes s.turns (text ++ 10 ∷ rest) = subst (FitsWithin bytes s.turns) same fits in
        let split : full_lines (text ++ 10 ∷ rest) ≡ text ∷ full_lines rest = full_lines-line text rest back.plain in
        let Short : List ℕ → Type 0 = λ l. length l ≤ 8388608 in
        let all : All Short (text ∷ full_lines rest) = subst (All Short) split here.lines in
        let size : length (text ++ 10 ∷ rest) ≡ length text + (length rest + 1) =
        length-append text (10 ∷ rest) ∙ ap (λ n. length text + n) (one_more rest) in
        let whole : bytes + length (text ++ 10 ∷ rest) ≤ 4294967296 = here.whole in
        let from : Place = place_at bytes lines s in
        let short : length text ≤ 8388608 = All-head Short text (full_lines rest) all in
        let few : bytes + (length text + 1) ≤ 4294967296 = omega (arith, size, whole) in
        let accepted = accept-short (length text + 1) text from back.value short few back.reads in
        let given = gives back.value back.says (bytes + (length text + 1)) (lines + 1) in
        record {
          bytes = bytes + (length text + 1);
          lines = lines + 1;
          reads = ap (λ bytes. reading bytes from) same ∙ reading-line text rest from back.plain
              ∙ ap (λ w. chain w (reading rest)) (accepted ∙ given);
          fits = record {
            lines = All-tail Short text (full_lines rest) all;
            whole = omega (arith, size, whole);
            ended = omega (arith, turn, fits.ended);
          };
        }
