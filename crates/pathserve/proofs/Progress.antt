-- How far a replay has gone through its input, and what it has written until then.
use Rattle.std.proofs.Common.{◌≡◌, ℕ, inl, inr, List, [], ◌∷◌, ◌++◌, take, Option, refl, sym, ap, ◌∙◌, subst, append_assoc, append-nil, IsTrue}
use Rattle.std.proofs.lemmas.Bool.{true≢false}
use Rattle.input_lines.specs.Held.{WhereTold}
use Rattle.input_lines.specs.Lines.{full_lines}
use Rattle.script_text.specs.Script.{Item, beginning, Stop, Walk, arrived, walk, reading}
use Rattle.script_text.specs.Reader.{Held, unread, GoesOn, StopsAtFault, stuck_after}
use Rattle.script_text.proofs.ReadNext.{goes_nowhere}
use Rattle.input_lines.proofs.LineLists.{full_lines-behind}
use Rattle.input_lines.proofs.ToldLines.{told-then}
use Rattle.script_text.proofs.ReadCalls.{fault_then, goes_then}
use Rattle.posts.specs.declared.notes.Report.{Report}
use Rattle.pathserve.specs.Output.{Said, unsaid, Says, Gives, IsText, stop_text, ends_text, IsOut, IsBeginning, IsTakenText}

-- the reading has come, after these items, to what the reader holds and what is left
abbrev pub Went : List ℕ → List ℕ → Held → List Item → Type 0
Went bytes left held items = GoesOn unread held bytes left items

-- the same where the source tells its bytes
abbrev pub WentTold : Option (List ℕ) → Option (List ℕ) → Held → List Item → Type 0
WentTold start now held items = WhereTold start now (λ bytes left. Went bytes left held items)

-- a reader that was not called has not met the end
pub going : {A : Type 0} → IsTrue unread.ended → A
going ended = absurd (true≢false (sym ended))

pub went_nowhere : (bytes : List ℕ) → Went bytes bytes unread []
went_nowhere bytes = goes_nowhere unread bytes going

-- and goes on with more
pub went_on_told : (start before now : Option (List ℕ)) (held new : Held) (items more : List Item)
    → WentTold start before held items → WhereTold before now (λ left after. (IsTrue held.ended → left ≡ []) → GoesOn held new left after more) → (IsTrue held.ended → IsTrue new.ended)
    → WentTold start now new (items ++ more)
went_on_told start before now held new items more w a stays =
    told-then start before now _ _ _ (λ bytes left after went said. goes_then unread held new bytes left after items more stays went (said went.at_end)) w a

-- what is written for items, and then for more
pub gives_on : (report : Report) (s mid t : Said) (items more : List Item) (text piece : List ℕ)
    → Gives report s items text mid → Gives report mid more piece t → Gives report s (items ++ more) (text ++ piece) t
gives_on report s mid t [] more text piece (none, here) gives =
    subst (λ (l : List ℕ). Gives report s more (l ++ piece) t) (sym none) (subst (λ (r : Said). Gives report r more piece t) (sym here) gives)
gives_on report s mid t (first ∷ items) more text piece (one, (next, (rest, (said, (gives, parts))))) goes = (
  one,
  (
    next,
    (
      rest ++ piece,
      (
        said,
        (
          gives_on report next mid t items more rest piece gives goes,
          ap (λ (l : List ℕ). l ++ piece) parts ∙ append_assoc one rest piece,
        ),
      ),
    ),
  ),
)

-- what is written for one item
pub gives_one : (report : Report) (s t : Said) (item : Item) (piece : List ℕ) → Says report s item piece t → Gives report s (item ∷ []) piece t
gives_one report s t item piece says = (piece, (t, ([], (says, ((refl, refl), sym (append-nil piece))))))

-- ---- exits, over the bytes

-- all items so far are a beginning
pub begun_here : (report : Report) (bytes left : List ℕ) (held : Held) (items : List Item) (state : Said) (text : List ℕ)
    → Went bytes left held items → Gives report unsaid items text state → IsBeginning report bytes text
begun_here report bytes left held items state text w gives = record {
  done = items;
  rest = (reading (held.bytes ++ left) held.place).items;
  items = ap (λ (v : Walk). v.items) w.same;
  text = text;
  state = state;
  gives = gives;
  part = inl refl;
}

-- and so is a part of the text of the next item after them
pub begun_item : (report : Report) (bytes left after : List ℕ) (held new : Held) (items : List Item) (item : Item) (state next : Said) (text piece : List ℕ) (n : ℕ)
    → Went bytes left held items → GoesOn held new left after (item ∷ []) → Gives report unsaid items text state → Says report state item piece next
    → IsBeginning report bytes (text ++ take n piece)
begun_item report bytes left after held new items item state next text piece n w g gives says = record {
  done = items;
  rest = item ∷ (reading (new.bytes ++ after) new.place).items;
  items = ap (λ (v : Walk). v.items) w.same ∙ ap (λ (v : Walk). items ++ v.items) g.same;
  text = text;
  state = state;
  gives = gives;
  part = inr (piece, (n, ((next, says), refl)));
}

pub out_here : (report : Report) (bytes : List ℕ) (items : List Item) (stop : Stop) (state : Said) (text : List ℕ)
    → reading bytes beginning ≡ stuck_after items stop → Gives report unsaid items text state → IsOut report bytes (text ++ stop_text stop)
out_here report bytes items stop state text stopped gives =
    subst (λ (v : Walk). (body : List ℕ) × (IsText report v.items body × (text ++ stop_text stop ≡ body ++ ends_text v.ends))) (sym stopped)
    (text, ((state, gives), refl))

-- a part of the text of the stop is a beginning
pub begun_stop : (report : Report) (bytes : List ℕ) (items : List Item) (stop : Stop) (state : Said) (text : List ℕ) (n : ℕ)
    → reading bytes beginning ≡ stuck_after items stop → Gives report unsaid items text state
    → IsBeginning report bytes (text ++ take n (stop_text stop))
begun_stop report bytes items stop state text n stopped gives = record {
  done = items;
  rest = [];
  items = ap (λ (v : Walk). v.items) stopped ∙ sym (append-nil items);
  text = text;
  state = state;
  gives = gives;
  part = inr (stop_text stop, (n, (sym (ap (λ (v : Walk). ends_text v.ends) stopped), refl)));
}

-- at a fault of the source all full lines taken were used
pub walked_taken : (bytes after : List ℕ) (new : Held) (items : List Item) (s : StopsAtFault unread new bytes after items)
    → walk (full_lines s.taken) beginning ≡ arrived items new.place
walked_taken bytes after new items s =
    let used = s.used in
    let lines : full_lines s.taken ≡ used.lines =
    ap full_lines used.bytes ∙ (full_lines-behind used.lines new.bytes used.plain
    ∙ (ap (λ (ls : List (List ℕ)). used.lines ++ ls) s.no_line ∙ append-nil used.lines)) in
    ap (λ (ls : List (List ℕ)). walk ls beginning) lines ∙ used.walked

pub taken_here : (report : Report) (bytes left after : List ℕ) (held new : Held) (items : List Item) (state : Said) (text : List ℕ)
    → Went bytes left held items → StopsAtFault held new left after [] → Gives report unsaid items text state → IsTakenText report bytes after text
taken_here report bytes left after held new items state text w s gives =
    let stopped = fault_then unread held new bytes left after items [] going w s in
    record {
      taken = stopped.taken;
      took = stopped.took;
      items = items;
      place = new.place;
      walked = walked_taken bytes after new (items ++ []) stopped ∙ ap (λ (l : List Item). arrived l new.place) (append-nil items);
      text = (state, gives);
    }
