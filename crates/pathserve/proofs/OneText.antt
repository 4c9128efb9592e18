-- There is one text of each report for a turn, for items, and for an input.
use Rattle.std.proofs.Common.{◌≡◌, ℕ, ◌+◌, inl, inr, List, [], ◌∷◌, ◌++◌, take, drop, Option, Some, refl, sym, ap, ◌∙◌, subst, append_assoc, append-nil, take-append-drop}
use Rattle.std.proofs.lemmas.List.{append_cancel_right}
use Rattle.posts.specs.declared.posts.Post.{Post}
use Rattle.posts.specs.declared.replies.TurnReplies.{TurnReplies}
use Rattle.posts.specs.Maps.{Map}
use Rattle.posts.specs.Posts.{jobs}
use Rattle.posts.specs.declared.notes.Note.{Note}
use Rattle.turn_core.specs.Words.{Standing}
use Rattle.turn_core.specs.Turns.{after_turn}
use Rattle.turn_core.proofs.Threads.{one_turn_told}
use Rattle.turn_core.proofs.OneNote.{one_list_of_notes}
use Rattle.input_lines.specs.Lines.{full_lines, tail_of}
use Rattle.script_text.specs.Script.{Item, begins, adds_base, ends_turn, Place, beginning, Ends, Walk, arrived, chain, walk, last_line, reading}
use Rattle.script_text.proofs.ReadWalk.{chain-assoc, walk-append}
use Rattle.pathserve.proofs.Lines.{full_lines-append}
use Rattle.answer_text.specs.Noted.{noted_text}
use Rattle.posts.specs.declared.notes.Report.{Report}
use Rattle.pathserve.specs.Output.{Said, unsaid, IsTurnText, with_turn, Says, Gives, ends_text, IsOut, IsPiece, IsBeginning, IsTakenText}

joined : (a b c d : List ℕ) → a ≡ b → c ≡ d → a ++ c ≡ b ++ d
joined a b c d p q = ap (λ (l : List ℕ). l ++ c) p ∙ ap (λ (l : List ℕ). b ++ l) q

-- ---- items

-- the text of a turn is one
pub one_turn_text : (report : Report) (m : Map) (s : Standing) (turn : ℕ) (posts : List (List Post)) (a b : List ℕ)
    → IsTurnText report m s turn posts a → IsTurnText report m s turn posts b → a ≡ b
one_turn_text report m s turn posts a b (told, (notes, (is, (are, text)))) (told', (notes', (is', (are', text')))) =
    let same : notes ≡ notes' = one_list_of_notes m (after_turn m s posts) report (jobs posts) notes notes' are are' in
    text ∙ (ap (λ (t : TurnReplies). noted_text turn t notes) (one_turn_told m s posts told told' is is')
    ∙ (ap (λ (l : List Note). noted_text turn told' l) same ∙ sym text'))

pub some_same : (m n : Map) (o : Option Map) → o ≡ Some m → o ≡ Some n → m ≡ n
some_same m n o p q = let both : Some m ≡ Some n = sym p ∙ q in cc

-- the text of an item and what is said after it are one
pub one_said : (report : Report) (s : Said) (item : Item) (a b : List ℕ) (t u : Said) → Says report s item a t → Says report s item b u → (a ≡ b) × (t ≡ u)
one_said report s (begins m) a b t u p q = (p.0 ∙ sym q.0, p.1 ∙ sym q.1)
one_said report s (adds_base rects) a b t u p q = (p.0 ∙ sym q.0, p.1 ∙ sym q.1)
one_said report s (ends_turn posts) a b t u (m, (map, (text, after))) (n, (map', (text', after'))) =
    let one : m ≡ n = some_same m n s.map map map' in (
      one_turn_text report m s.standing (s.turns + 1) posts a b text (subst (λ (x : Map). IsTurnText report x s.standing (s.turns + 1) posts b) (sym one) text'),
      after ∙ (ap (λ (x : Map). with_turn s x posts) one ∙ sym after'),
    )

-- the text of items and what is said after them are one
pub one_given : (report : Report) (s : Said) (items : List Item) (a b : List ℕ) (t u : Said) → Gives report s items a t → Gives report s items b u → (a ≡ b) × (t ≡ u)
one_given report s [] a b t u p q = (p.0 ∙ sym q.0, sym p.1 ∙ q.1)
one_given report s (item ∷ items) a b t u (piece, (mid, (more, (says, (gives, parts))))) (piece', (mid', (more', (says', (gives', parts'))))) =
    let here = one_said report s item piece piece' mid mid' says says' in
    let rest = one_given report mid items more more' t u gives (subst (λ (x : Said). Gives report x items more' u) (sym here.1) gives') in
    (parts ∙ (joined piece piece' more more' here.0 rest.0 ∙ sym parts'), rest.1)

-- at most one text is the output text of an input
pub one_out : (report : Report) (bytes a b : List ℕ) → IsOut report bytes a → IsOut report bytes b → a ≡ b
one_out report bytes a b (text, ((t, gives), parts)) (text', ((u, gives'), parts')) =
    let same = one_given report unsaid (reading bytes beginning).items text text' t u gives gives' in
    parts ∙ (ap (λ (l : List ℕ). l ++ ends_text (reading bytes beginning).ends) same.0 ∙ sym parts')

-- ---- beginnings

-- what is written for items and then for more of them
given_parts : (report : Report) (s t : Said) (first more : List Item) (text : List ℕ) → Gives report s (first ++ more) text t
    → (front : List ℕ) × ((mid : Said) × ((back : List ℕ) × (Gives report s first front mid × (Gives report mid more back t × (text ≡ front ++ back)))))
given_parts report s t [] more text gives = ([], (s, (text, ((refl, refl), (gives, refl)))))
given_parts report s t (item ∷ first) more text (piece, (next, (rest, (says, (gives, parts))))) =
    let (front, (mid, (back, (before, (after, split))))) = given_parts report next t first more rest gives in (
      piece ++ front,
      (
        mid,
        (
          back,
          (
            (piece, (next, (front, (says, (before, refl))))),
            (
              after,
              parts ∙ (ap (λ (l : List ℕ). piece ++ l) split ∙ sym (append_assoc piece front back)),
            ),
          ),
        ),
      ),
    )

-- a next piece of a text is a beginning of what follows
piece_first : (report : Report) (s t : Said) (items : List Item) (ends : Ends) (piece back : List ℕ) → IsPiece report s items ends piece → Gives report s items back t
    → (rest : List ℕ) × (back ++ ends_text ends ≡ piece ++ rest)
piece_first report s t [] ends piece back is gives = ([], ap (λ (l : List ℕ). l ++ ends_text ends) gives.0 ∙ (sym is ∙ sym (append-nil piece)))
piece_first report s t (item ∷ items) ends piece back (u, said) (piece', (mid, (more, (says, (gives, parts))))) =
    let same : piece' ≡ piece = (one_said report s item piece' piece mid u says said).0 in
    (more ++ ends_text ends, ap (λ (l : List ℕ). l ++ ends_text ends) (parts ∙ ap (λ (l : List ℕ). l ++ more) same) ∙ append_assoc piece more (ends_text ends))

part_first : (text piece out : List ℕ) (n : ℕ) (after rest : List ℕ) → out ≡ text ++ take n piece → after ≡ piece ++ rest
    → text ++ after ≡ out ++ (drop n piece ++ rest)
part_first text piece out n after rest is follows =
    ap (λ (l : List ℕ). text ++ l) (follows ∙ (ap (λ (l : List ℕ). l ++ rest) (sym (take-append-drop n piece)) ∙ append_assoc (take n piece) (drop n piece) rest))
    ∙ (sym (append_assoc text (take n piece) (drop n piece ++ rest)) ∙ ap (λ (l : List ℕ). l ++ (drop n piece ++ rest)) (sym is))

-- a beginning of the output text is a prefix of it
pub beginning_is_prefix : (report : Report) (bytes out whole : List ℕ) → IsBeginning report bytes out → IsOut report bytes whole → (rest : List ℕ) × (whole ≡ out ++ rest)
beginning_is_prefix report bytes out whole b (text, ((t, gives), parts)) =
    let ends = (reading bytes beginning).ends in
    let split : Gives report unsaid (b.done ++ b.rest) text t = subst (λ (l : List Item). Gives report unsaid l text t) b.items gives in
    let (front, (mid, (back, (before, (after, both))))) = given_parts report unsaid t b.done b.rest text split in
    let same = one_given report unsaid b.done front b.text mid b.state before b.gives in
    let from : Gives report b.state b.rest back t = subst (λ (s : Said). Gives report s b.rest back t) same.1 after in
    let all : whole ≡ b.text ++ (back ++ ends_text ends) =
    parts ∙ (ap (λ (l : List ℕ). l ++ ends_text ends) (both ∙ ap (λ (l : List ℕ). l ++ back) same.0) ∙ append_assoc b.text back (ends_text ends)) in
    elim b.part [
      | inl is ↦ (back ++ ends_text ends, all ∙ ap (λ (l : List ℕ). l ++ (back ++ ends_text ends)) (sym is))
      | inr p ↦
          let piece : List ℕ = p.0 in let n : ℕ = p.1.0 in
          let follows = piece_first report b.state t b.rest ends piece back p.1.1.0 from in
          (drop n piece ++ follows.0, all ∙ part_first b.text piece out n (back ++ ends_text ends) follows.0 p.1.1.1 follows.1)
    ]

-- ---- the turns taken

-- the reading goes on from the lines taken
pub taken_reading : (taken rest : List ℕ) (items : List Item) (place : Place) → walk (full_lines taken) beginning ≡ arrived items place
    → reading (taken ++ rest) beginning
    ≡ chain (arrived items place) (λ q. chain (walk (full_lines (tail_of taken ++ rest)) q) (λ r. last_line (tail_of (taken ++ rest)) r))
taken_reading taken rest items place walked =
    let more = full_lines (tail_of taken ++ rest) in let last : Place → Walk = λ r. last_line (tail_of (taken ++ rest)) r in
    let lines : walk (full_lines (taken ++ rest)) beginning ≡ chain (arrived items place) (λ q. walk more q) =
    ap (λ (ls : List (List ℕ)). walk ls beginning) (full_lines-append taken rest)
    ∙ (walk-append (full_lines taken) more beginning ∙ ap (λ (w : Walk). chain w (λ q. walk more q)) walked) in
    ap (λ (w : Walk). chain w last) lines ∙ chain-assoc (arrived items place) (λ q. walk more q) last

-- the text of the turns taken is a beginning of the output text
pub taken_is_beginning : (report : Report) (bytes rest out : List ℕ) → IsTakenText report bytes rest out → IsBeginning report bytes out
taken_is_beginning report bytes rest out t =
    let goes = ap (λ (l : List ℕ). reading l beginning) t.took ∙ taken_reading t.taken rest t.items t.place t.walked in
    record {
      done = t.items;
      rest = (chain (walk (full_lines (tail_of t.taken ++ rest)) t.place) (λ r. last_line (tail_of (t.taken ++ rest)) r)).items;
      items = ap (λ (w : Walk). w.items) goes;
      text = out;
      state = t.text.0;
      gives = t.text.1;
      part = inl refl;
    }

-- it is one text
pub one_taken_text : (report : Report) (bytes rest a b : List ℕ) → IsTakenText report bytes rest a → IsTakenText report bytes rest b → a ≡ b
one_taken_text report bytes rest a b p q =
    let taken : p.taken ≡ q.taken = append_cancel_right p.taken q.taken rest (sym p.took ∙ q.took) in
    let walked : arrived p.items p.place ≡ arrived q.items q.place = sym p.walked ∙ (ap (λ (l : List ℕ). walk (full_lines l) beginning) taken ∙ q.walked) in
    let items : p.items ≡ q.items = ap (λ (w : Walk). w.items) walked in
    (one_given report unsaid p.items a b p.text.0 q.text.0 p.text.1 (subst (λ (l : List Item). Gives report unsaid l b q.text.0) (sym items) q.text.1)).0
