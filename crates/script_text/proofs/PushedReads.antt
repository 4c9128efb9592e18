-- Lines of an input that is pushed, one after another.
use Rattle.std.proofs.Common.{◌≡◌, ◌≢◌, ℕ, ◌+◌, List, [], ◌∷◌, ◌++◌, length, false, Option, Some, None, Err, IsTrue, refl, ap, sym, subst, ◌∙◌, arith, append_assoc, length-append}
use Rattle.std.proofs.lemmas.Bool.{false≢true}
use Rattle.std.proofs.lemmas.List.{append-nil}
use Rattle.std.proofs.lemmas.List.Elements.{All-append}
use Rattle.input_lines.specs.declared.faults.LineFault.{LineFault}
use Rattle.input_lines.specs.declared.faults.LineFault.TheVariants as no_line
use Rattle.input_lines.specs.declared.intake.LineEnd.{LineEnd}
use Rattle.input_lines.specs.declared.intake.LineEnd.TheVariants.{Newline, Input}
use Rattle.input_lines.specs.Lines.{full_lines, unlines, IsPlain}
use Rattle.input_lines.specs.Held.{HeldLine, HasEnd, IsWholeLine, Taken, TakesMore, after_line, bytes_of, newline_of}
use Rattle.input_lines.specs.Pushed.{GrowsPastLimit, PushAnswer}
use Rattle.input_lines.proofs.LineLists.{full_lines-plain, full_lines-behind}
use Rattle.script_text.specs.declared.faults.ScriptFault.{ScriptFault}
use Rattle.script_text.specs.declared.faults.ScriptFault.TheVariants.{BadLine, TooLong, ReadFault, NoMemory}
use Rattle.script_text.specs.Faults.{script_fault}
use Rattle.script_text.specs.Script.{Place, Item, too_long, arrived, stuck, counted, accept, walk, reading}
use Rattle.script_text.specs.Reader.{Held, GoesOn, taken_bytes}
use Rattle.script_text.specs.Pushed.{EndsLine, PushAnswers, PushTold}
use Rattle.script_text.specs.inner.Judging.{IsBadAt, IsStuckBy, held_at}
use Rattle.script_text.proofs.ReadNext.{goes_line, goes_next, refuses_line, refuses_long}

abbrev pub nothing_behind : Taken
nothing_behind = record { bytes = []; ended = false }

-- a script goes on behind what was taken of a piece, whatever comes behind the piece
abbrev pub Pushes : Held → Held → List ℕ → List ℕ → List Item → Type 0
Pushes old new piece left items = (more : List ℕ) → GoesOn old new (piece ++ more) (left ++ more) items

not_at_end : {P : Type 0} (h : HeldLine) → h.rest ≡ nothing_behind → IsTrue h.rest.ended → P
not_at_end h behind ended = absurd (false≢true (sym (ap (λ (r : Taken). r.ended) behind) ∙ ended))

more_behind : (h now : HeldLine) (y z more : List ℕ) → TakesMore h now y z → TakesMore h now (y ++ more) (z ++ more)
more_behind h now y z more t = record { taken = t.taken; took = ap (λ l. l ++ more) t.took ∙ append_assoc t.taken z more; bytes = t.bytes }

-- more of the next line was taken
pub pushes_more : (first : Held) (p : Place) (h now : HeldLine) (x y z : List ℕ) → h.rest ≡ nothing_behind → now.rest ≡ nothing_behind → TakesMore h now y z → Pushes first (held_at p h) x y []
    → Pushes first (held_at p now) x z []
pushes_more first p h now x y z behind still t g = λ more.
    goes_next first p h now (x ++ more) (y ++ more) (z ++ more) [] (λ ended. not_at_end h behind ended) (g more)
    (record { more = more_behind h now y z more t; at_end = λ ended. not_at_end now still ended })

-- the line that is held was used
pub pushes_line : (first : Held) (p q : Place) (h after : HeldLine) (size : ℕ) (x z : List ℕ) (items : List Item) → after ≡ after_line h → IsWholeLine h size → IsPlain h.line → accept size h.line p ≡ arrived items q
    → Pushes first (held_at p h) x z [] → Pushes first (held_at q after) x z items
pushes_line first p q h after size x z items used w plain e g =
    let Says : HeldLine → Type 0 = λ l. Pushes first (held_at q l) x z items in
    subst Says (sym used) (λ more. goes_line first p q h size (x ++ more) (z ++ more) [] items w plain e (g more))

-- ---- how far the piece was taken

newline_at : (line_end : Option LineEnd) (rest : Taken) → rest ≡ nothing_behind → HasEnd line_end rest → line_end ≡ Some Newline
newline_at None rest behind ends = absurd ends
newline_at (Some Newline) rest behind ends = refl
newline_at (Some Input) rest behind ends = absurd (false≢true (sym (ap (λ (r : Taken). r.ended) behind) ∙ ends.1))

whole_bytes : (h : HeldLine) → h.rest ≡ nothing_behind → h.line_end ≡ Some Newline → bytes_of h ≡ h.line ++ 10 ∷ []
whole_bytes h behind ends = ap (λ end. h.line ++ (newline_of end ++ h.rest.bytes)) ends ∙ ap (λ (r : Taken). h.line ++ 10 ∷ r.bytes) behind

-- up to the newline of a line that gives something
pub ends_line : (first : Held) (p : Place) (h after : HeldLine) (q : Place) (size : ℕ) (x z : List ℕ) → after ≡ after_line h → h.rest ≡ nothing_behind → IsWholeLine h size → IsPlain h.line
    → Pushes first (held_at p h) x z [] → EndsLine first (held_at q after) x z
ends_line first p h after q size x z used behind w plain g =
    let on = g [] in
    let u = on.used (ap (λ (r : Taken). r.ended) behind) in
    let all : bytes_of h ≡ h.line ++ 10 ∷ [] = whole_bytes h behind (newline_at h.line_end h.rest behind w.ends) in
    let took : x ≡ on.taken ++ z = sym (append-nil x) ∙ on.took ∙ ap (λ l. on.taken ++ l) (append-nil z) in
    let lines : full_lines (unlines u.lines ++ h.line) ≡ u.lines =
    full_lines-behind u.lines h.line u.plain ∙ ap (λ more. u.lines ++ more) (full_lines-plain h.line plain) ∙ append-nil u.lines in
    record {
      short = unlines u.lines ++ h.line;
      took = ap (λ l. first.bytes ++ l) took ∙ sym (append_assoc first.bytes on.taken z) ∙ ap (λ l. l ++ z) (u.bytes ∙ ap (λ l. unlines u.lines ++ l) all ∙ sym (append_assoc (unlines u.lines) h.line (10 ∷ [])))
          ∙ append_assoc (unlines u.lines ++ h.line) (10 ∷ []) z;
      place = p;
      quiet = ap (λ some. walk some first.place) lines ∙ u.walked;
      nothing = ap bytes_of used ∙ ap (λ (r : Taken). r.bytes) behind;
    }

-- to the end of the piece
pub no_line_held : (p : Place) (now : HeldLine) → IsPlain now.line → now.line_end ≡ None → now.rest ≡ nothing_behind → full_lines (bytes_of now) ≡ []
no_line_held p now plain open_end behind =
    let bytes : bytes_of now ≡ now.line = ap (λ end. now.line ++ (newline_of end ++ now.rest.bytes)) open_end ∙ ap (λ (r : Taken). now.line ++ r.bytes) behind ∙ append-nil now.line in
    ap full_lines bytes ∙ full_lines-plain now.line plain

-- ---- refusals

refused_by : (first : Held) (p q : Place) (h : HeldLine) (size : ℕ) (x z : List ℕ) (fault : ScriptFault) → IsWholeLine h size → IsPlain h.line
    → IsStuckBy (accept size h.line p) fault → IsBadAt q (counted p size) fault → (fault ≡ NoMemory → q ≡ p) → GoesOn first (held_at p h) x z [] → PushAnswers first (held_at q h) (Err fault) x z
refused_by first p q h size x z (BadLine n) w plain e at kept g = refuses_line first p q h size x z [] (BadLine n) w plain e at g
refused_by first p q h size x z (TooLong n) w plain e at kept g = refuses_line first p q h size x z [] (TooLong n) w plain e at g
refused_by first p q h size x z ReadFault w plain e at kept g = absurd e
refused_by first p q h size x z NoMemory w plain e at kept g = let At : Place → Type 0 = λ r. GoesOn first (held_at r h) x z [] in subst At (sym (kept refl)) g

-- the line that is held is refused
pub line_refused : (first : Held) (p q : Place) (h after : HeldLine) (size : ℕ) (x z : List ℕ) (fault : ScriptFault) → after ≡ h → IsWholeLine h size → IsPlain h.line
    → IsStuckBy (accept size h.line p) fault → IsBadAt q (counted p size) fault → (fault ≡ NoMemory → q ≡ p) → Pushes first (held_at p h) x z [] → PushTold first (held_at q after) x z (Err fault)
line_refused first p q h after size x z fault same w plain e at kept g =
    let Says : HeldLine → Type 0 = λ l. PushTold first (held_at q l) x z (Err fault) in
    subst Says (sym same) (λ more. refused_by first p q h size (x ++ more) (z ++ more) fault w plain e at kept (g more))

pushes_long : (first : Held) (p : Place) (h : HeldLine) (room : ℕ) (x y : List ℕ) → room + p.bytes ≡ 4294967296 → IsPlain h.line → bytes_of h ≡ h.line → h.rest ≡ nothing_behind → GrowsPastLimit h room y
    → Pushes first (held_at p h) x y [] → (more : List ℕ) → reading (first.bytes ++ (x ++ more)) first.place ≡ stuck (too_long (p.lines + 1))
pushes_long first p h room x y e plain begun behind l g more =
    let longer : HeldLine = record { line = h.line ++ l.part; line_end = None; rest = nothing_behind } in
    refuses_long first p h longer room (x ++ more) (y ++ more) (l.rest ++ more) [] e (All-append (λ byte. byte ≢ 10) h.line l.part plain l.plain) (g more)
    (record {
      taken = l.part;
      took = ap (λ bytes. bytes ++ more) l.cut ∙ append_assoc l.part l.rest more;
      bytes = ap (λ bytes. bytes ++ l.part) begun ∙ sym (append-nil (h.line ++ l.part));
    }) l.long

-- the next line is refused
pub next_refused : (first : Held) (p : Place) (h now : HeldLine) (room : ℕ) (x y z : List ℕ) (fault : LineFault) → room + p.bytes ≡ 4294967296 → IsPlain now.line → bytes_of h ≡ h.line → h.rest ≡ nothing_behind
    → now ≡ h → z ≡ y → PushAnswer h now room (Err fault) y z → Pushes first (held_at p h) x y [] → PushTold first (held_at p now) x z (Err (script_fault (p.lines + 1) fault))
next_refused first p h now room x y z no_line.TooLong e plain begun behind same left l g =
    let Plain : HeldLine → Type 0 = λ k. IsPlain k.line in pushes_long first p h room x y e (subst Plain same plain) begun behind l g
next_refused first p h now room x y z no_line.ReadFault e plain begun behind same left l g = absurd l
next_refused first p h now room x y z no_line.NoMemory e plain begun behind same left l g =
    let Line : HeldLine → Type 0 = λ k. Pushes first (held_at p k) x z [] in
    let Left : List ℕ → Type 0 = λ k. Pushes first (held_at p h) x k [] in
    subst Line (sym same) (subst Left (sym left) g)

-- ---- how many bytes were taken

more_bytes : (h now : HeldLine) (y z : List ℕ) → TakesMore h now y z → length (bytes_of now) + length z ≡ length (bytes_of h) + length y
more_bytes h now y z t = omega (arith, ap length t.took, ap length t.bytes, length-append t.taken z, length-append (bytes_of h) t.taken)

line_bytes : (h after : HeldLine) (size : ℕ) → after ≡ after_line h → h.rest ≡ nothing_behind → IsWholeLine h size → length (bytes_of after) + size ≡ length (bytes_of h)
line_bytes h after size used behind w =
    let none : length h.rest.bytes ≡ 0 = ap (λ (r : Taken). length r.bytes) behind in
    let nothing : length (bytes_of after) ≡ length h.rest.bytes = ap (λ l. length (bytes_of l)) used in
    omega (arith, none, nothing, w.counted, length-append h.line (newline_of h.line_end ++ h.rest.bytes), length-append (newline_of h.line_end) h.rest.bytes, length-append h.line (newline_of h.line_end))

-- a line goes on
pub count_more : (first : ℕ) (p : Place) (h now : HeldLine) (y z : List ℕ) → TakesMore h now y z → taken_bytes (held_at p h) + length y ≡ first → taken_bytes (held_at p now) + length z ≡ first
count_more first p h now y z t all = omega (arith, all, more_bytes h now y z t)

-- a line was used
pub count_line : (first : ℕ) (p q : Place) (h now after : HeldLine) (size : ℕ) (y z : List ℕ) → TakesMore h now y z → after ≡ after_line now → now.rest ≡ nothing_behind → IsWholeLine now size → q.bytes ≡ p.bytes + size
    → taken_bytes (held_at p h) + length y ≡ first → taken_bytes (held_at q after) + length z ≡ first
count_line first p q h now after size y z t used behind w counted all = omega (arith, all, counted, more_bytes h now y z t, line_bytes now after size used behind w)
