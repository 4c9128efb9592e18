-- No full line that was taken stops the input, and a bad line comes after them.
use Rattle.std.proofs.Common.{◌≡◌, ◌≢◌, ℕ, ◌+◌, ◌<◌, ◌≤◌, List, [], ◌∷◌, ◌++◌, length, Bool, true, false, Option, Some, None, refl, sym, ap, ◌∙◌, subst, arith}
use Rattle.std.specs.Prelude.{if◌then◌else◌, ⊤, ◌==◌, option_and_then}
use Rattle.std.specs.List.{list_all}
use Rattle.serde_json.specs.Data.{Data}
use Rattle.nav_types.specs.declared.cells.Rect.{Rect}
use Rattle.posts.specs.Maps.{Map}
use Rattle.script_text.specs.declared.forms.CallerPost.{CallerPost}
use Rattle.input_lines.specs.Lines.{full_lines, tail_of}
use Rattle.script_text.specs.Forms.{map_of, base_of, post_of, end_of}
use Rattle.script_text.specs.declared.parts.Rules.{Rules}
use Rattle.script_text.specs.declared.parts.Part.{Part}
use Rattle.script_text.specs.declared.parts.Part.TheVariants.{BeforeMap as before_map, InBase as in_base, InTurns as in_turns}
use Rattle.script_text.specs.Script.{Place, beginning, Item, Stop, whole_input, too_long, bad_line, Ends, at_place, stuck_by, Walk, chain_from, counted, reading_of, map_line, end_line, turn_line, placed_in_turn, base_line, placed_in, is_long, accept, walk, is_empty, finish_in, finish, last_line, reading}
use Rattle.posts.specs.declared.notes.Report.{Report}
use Rattle.pathserve.specs.Output.{IsTakenText}
use Rattle.script_text.proofs.ReadWalk.{walk-append}
use Rattle.pathserve.proofs.OneText.{taken_reading}

-- ---- one line: the place after it has counted it, and a bad line has its number

abbrev IsLine : ℕ → Ends → Type 0
IsLine n (at_place q) = q.lines ≡ n
IsLine n (stuck_by whole_input) = ⊤
IsLine n (stuck_by (too_long k)) = k ≡ n
IsLine n (stuck_by (bad_line k)) = k ≡ n

either_line : (b : Bool) (n : ℕ) (x y : Walk) → IsLine n x.ends → IsLine n y.ends → IsLine n (if b then x else y).ends
either_line true n x y p q = p
either_line false n x y p q = q

line_of_map : (p : Place) (m : Option Map) → IsLine p.lines (map_line p m).ends
line_of_map p None = refl
line_of_map p (Some m) = refl

line_of_end : (p : Place) (rules : Rules) (number : Option ℕ) → IsLine p.lines (end_line p rules number).ends
line_of_end p rules None = refl
line_of_end p rules (Some number) = either_line (number == p.turns + 1) p.lines _ _ refl refl

line_of_turn : (p : Place) (rules : Rules) (said : Option CallerPost) (number : Option ℕ) → IsLine p.lines (turn_line p rules said number).ends
line_of_turn p rules (Some said) number = refl
line_of_turn p rules None number = line_of_end p rules number

line_in_turn : (p : Place) (rules : Rules) (d : Option Data) → IsLine p.lines (placed_in_turn p rules d).ends
line_in_turn p rules d = line_of_turn p rules (option_and_then (post_of rules.version rules.callers) d) (option_and_then end_of d)

line_of_base : (p : Place) (rules : Rules) (d : Option Data) (rects : Option (List (Rect × ℕ))) → IsLine p.lines (base_line p rules d rects).ends
line_of_base p rules d (Some rects) = refl
line_of_base p rules d None = line_in_turn p rules d

line_in : (part : Part) (p : Place) (d : Option Data) → IsLine p.lines (placed_in part p d).ends
line_in before_map p d = line_of_map p (option_and_then map_of d)
line_in (in_base rules) p d = line_of_base p rules d (option_and_then (base_of rules.size) d)
line_in (in_turns rules) p d = line_in_turn p rules d

line_accepted : (size : ℕ) (line : List ℕ) (p : Place) → IsLine (p.lines + 1) (accept size line p).ends
line_accepted size line p = either_line (is_long p size line) (p.lines + 1) _ _ refl (line_in p.part (counted p size) (reading_of line))

-- ---- many lines: a walk that arrives has counted them all, and a bad line of it comes after those before it

abbrev ArrivesPast : ℕ → Ends → Type 0
ArrivesPast n (at_place q) = n ≤ q.lines
ArrivesPast n (stuck_by stop) = ⊤

-- the walk stands after n lines, and a bad line of it comes after them
abbrev IsPast : ℕ → Ends → Type 0
IsPast n (at_place q) = n ≤ q.lines
IsPast n (stuck_by whole_input) = ⊤
IsPast n (stuck_by (too_long k)) = n < k
IsPast n (stuck_by (bad_line k)) = n < k

past_line : (n m : ℕ) (ends : Ends) → n < m → IsLine m ends → IsPast n ends
past_line n m (at_place q) less is = omega arith
past_line n m (stuck_by whole_input) less is = tt
past_line n m (stuck_by (too_long k)) less is = omega arith
past_line n m (stuck_by (bad_line k)) less is = omega arith

arrives_line : (n m : ℕ) (ends : Ends) → n ≤ m → IsLine m ends → ArrivesPast n ends
arrives_line n m (at_place q) less is = omega arith
arrives_line n m (stuck_by stop) less is = tt

arrives_chain : (n m : ℕ) (items : List Item) (ends : Ends) (go_on : Place → Walk) → ArrivesPast n ends
    → ((q : Place) → n ≤ q.lines → ArrivesPast m (go_on q).ends) → ArrivesPast m (chain_from items ends go_on).ends
arrives_chain n m items (at_place q) go_on here on = on q here
arrives_chain n m items (stuck_by stop) go_on here on = tt

past_chain : (n : ℕ) (items : List Item) (ends : Ends) (go_on : Place → Walk) → IsPast n ends
    → ((q : Place) → n ≤ q.lines → IsPast n (go_on q).ends) → IsPast n (chain_from items ends go_on).ends
past_chain n items (at_place q) go_on here on = on q here
past_chain n items (stuck_by stop) go_on here on = here

arrives_walk : (n : ℕ) (lines : List (List ℕ)) (p : Place) → n ≤ p.lines → ArrivesPast (n + length lines) (walk lines p).ends
arrives_walk n [] p less = omega arith
arrives_walk n (line ∷ lines) p less =
    let first : Walk = accept (length line + 1) line p in
    let rest : (q : Place) → n + 1 ≤ q.lines → ArrivesPast ((n + 1) + length lines) (walk lines q).ends = λ q here. arrives_walk (n + 1) lines q here in
    let count : (n + 1) + length lines ≡ n + length (line ∷ lines) = omega arith in
    subst (λ (k : ℕ). ArrivesPast k (walk (line ∷ lines) p).ends) count
    (arrives_chain (n + 1) ((n + 1) + length lines) first.items first.ends (λ q. walk lines q)
    (arrives_line (n + 1) (p.lines + 1) first.ends (omega arith) (line_accepted (length line + 1) line p)) rest)

past_walk : (n : ℕ) (lines : List (List ℕ)) (p : Place) → n ≤ p.lines → IsPast n (walk lines p).ends
past_walk n [] p less = less
past_walk n (line ∷ lines) p less =
    let first : Walk = accept (length line + 1) line p in
    past_chain n first.items first.ends (λ q. walk lines q)
    (past_line n (p.lines + 1) first.ends (omega arith) (line_accepted (length line + 1) line p)) (λ q here. past_walk n lines q here)

line_missing : (part : Part) (p : Place) → IsLine (p.lines + 1) (finish_in part p).ends
line_missing before_map p = refl
line_missing (in_base rules) p = tt
line_missing (in_turns rules) p = either_line (list_all is_empty p.posts) (p.lines + 1) _ _ tt refl

past_finish : (n : ℕ) (p : Place) → n ≤ p.lines → IsPast n (finish p).ends
past_finish n p less = past_line n (p.lines + 1) (finish p).ends (omega arith) (line_missing p.part p)

past_last : (n : ℕ) (line : List ℕ) (p : Place) → n ≤ p.lines → IsPast n (last_line line p).ends
past_last n [] p less = past_finish n p less
past_last n (byte ∷ bytes) p less =
    let last : Walk = accept (length (byte ∷ bytes)) (byte ∷ bytes) p in
    past_chain n last.items last.ends finish
    (past_line n (p.lines + 1) last.ends (omega arith) (line_accepted (length (byte ∷ bytes)) (byte ∷ bytes) p)) (λ q here. past_finish n q here)

-- ---- the lines taken

stuck_stays : (items : List Item) (ends : Ends) (stop : Stop) (go_on : Place → Walk) → ends ≡ stuck_by stop → (chain_from items ends go_on).ends ≡ stuck_by stop
stuck_stays items (at_place q) stop go_on is = cc
stuck_stays items (stuck_by other) stop go_on is = is

-- no beginning of the lines taken stops
pub no_stop : (report : Report) (bytes rest out : List ℕ) (text : IsTakenText report bytes rest out) (front back : List (List ℕ)) (stop : Stop)
    → full_lines text.taken ≡ front ++ back → (walk front beginning).ends ≢ stuck_by stop
no_stop report bytes rest out text front back stop parts is =
    let first = walk front beginning in
    let all : (walk (front ++ back) beginning).ends ≡ stuck_by stop =
    ap (λ (w : Walk). w.ends) (walk-append front back beginning) ∙ stuck_stays first.items first.ends stop (λ q. walk back q) is in
    let here : at_place text.place ≡ stuck_by stop =
    ap (λ (w : Walk). w.ends) (sym text.walked) ∙ (ap (λ (ls : List (List ℕ)). (walk ls beginning).ends) parts ∙ all) in
    cc

-- the line that stops an input comes after the lines taken
stop_later : (report : Report) (bytes rest out : List ℕ) (text : IsTakenText report bytes rest out) (stop : Stop)
    → (reading bytes beginning).ends ≡ stuck_by stop → IsPast (length (full_lines text.taken)) (stuck_by stop)
stop_later report bytes rest out text stop bad =
    let lines = full_lines text.taken in let place = text.place in
    let more = full_lines (tail_of text.taken ++ rest) in
    let goes = ap (λ (l : List ℕ). reading l beginning) text.took ∙ taken_reading text.taken rest text.items place text.walked in
    let arrived_at : ArrivesPast (0 + length lines) (at_place place) =
    subst (λ (w : Walk). ArrivesPast (0 + length lines) w.ends) text.walked (arrives_walk 0 lines beginning (omega arith)) in
    let count : length lines ≤ place.lines = omega arith in
    let on : Walk = walk more place in
    let past : IsPast (length lines) (chain_from on.items on.ends (λ r. last_line (tail_of (text.taken ++ rest)) r)).ends =
    past_chain (length lines) on.items on.ends (λ r. last_line (tail_of (text.taken ++ rest)) r)
    (past_walk (length lines) more place count) (λ q here. past_last (length lines) (tail_of (text.taken ++ rest)) q here) in
    let same : (chain_from on.items on.ends (λ r. last_line (tail_of (text.taken ++ rest)) r)).ends ≡ stuck_by stop =
    sym (ap (λ (w : Walk). w.ends) goes) ∙ bad in
    subst (λ (e : Ends). IsPast (length lines) e) same past

-- a bad line
pub bad_line_later : (report : Report) (bytes rest out : List ℕ) (text : IsTakenText report bytes rest out) (n : ℕ)
    → (reading bytes beginning).ends ≡ stuck_by (bad_line n) → length (full_lines text.taken) < n
bad_line_later report bytes rest out text n bad = stop_later report bytes rest out text (bad_line n) bad

-- and a line that passes a limit
pub too_long_later : (report : Report) (bytes rest out : List ℕ) (text : IsTakenText report bytes rest out) (n : ℕ)
    → (reading bytes beginning).ends ≡ stuck_by (too_long n) → length (full_lines text.taken) < n
too_long_later report bytes rest out text n long = stop_later report bytes rest out text (too_long n) long
