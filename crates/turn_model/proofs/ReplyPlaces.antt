-- How far callers have collected the replies to them, turn by turn.
use Rattle.std.proofs.Common.{◌≡◌, inl, inr, ℕ, zero, suc, ◌+◌, ◌-◌, ◌<◌, ◌≤◌, List, [], ◌∷◌, ◌++◌, None, Some}
use Rattle.std.proofs.Common.{length, take, drop, set, replicate, get_or, slice_index, slice_index_or, refl, sym, ap}
use Rattle.std.proofs.Common.{◌∙◌, subst, arith, append-nil, length-append}
use Rattle.std.specs.Prelude.{slice_get}
use Rattle.std.proofs.lemmas.List.{take_more, take_all, take-append-le, take-append-drop, drop_more, get_or-set_same}
use Rattle.std.proofs.lemmas.List.{get_or-set_other, length-set, length-replicate}
use Rattle.std.proofs.lemmas.Bool.{cases_eq}
use Rattle.std.proofs.lemmas.Grind.{flat_map-append}
use Rattle.std.proofs.lemmas.Option.{slice_get_past, slice_get_read}
use Rattle.nav_types.proofs.Items.{slice_get-before}
use Rattle.posts.specs.declared.replies.Reply.{Reply}
use Rattle.posts.specs.Callers.{list_of}
use Rattle.turn_model.specs.declared.machines.delivered.DeliveredTurn.{DeliveredTurn}
use Rattle.turn_model.specs.declared.machines.delivered.ReplyPlace.{ReplyPlace}
use Rattle.turn_model.specs.inner.Runs.{replies_to, beginning, HasCome, HaveCome}
use Rattle.path_service.proofs.machine.CallerLists.{zeros_at}

get_back : {A : Type 0} (xs ys : List A) (k : ℕ) → length xs ≤ k → slice_get (xs ++ ys) k ≡ slice_get ys (k - length xs)
get_back [] ys k h = ap (slice_get ys) (let e : k ≡ k - 0 = omega arith in e)
get_back (x ∷ xs) ys zero h = absurd (omega (arith, h))
get_back (x ∷ xs) ys (suc k) h = get_back xs ys k (omega (arith, h)) ∙ ap (slice_get ys) (let e : k - length xs ≡ suc k - suc (length xs) = omega arith in e)

-- the replies in the first turns, and those in the next one
replies_more : (c : ℕ) (ds : List DeliveredTurn) (i : ℕ) (d : DeliveredTurn) → i < length ds → d ≡ get_or ds i d
    → replies_to c (take (i + 1) ds) ≡ replies_to c (take i ds) ++ list_of d.replies c
replies_more c ds i d lt is =
    ap (replies_to c) (take_more ds i d lt ∙ ap (λ (e : DeliveredTurn). take i ds ++ e ∷ []) (sym is))
    ∙ flat_map-append (λ (e : DeliveredTurn). list_of e.replies c) (take i ds) (d ∷ [])
    ∙ ap (λ (l : List Reply). replies_to c (take i ds) ++ l) (append-nil (list_of d.replies c))

-- all replies are those in the first turns, those in the next one and the rest
replies_split : (c : ℕ) (ds : List DeliveredTurn) (i : ℕ) (d : DeliveredTurn) → i < length ds → d ≡ get_or ds i d
    → replies_to c ds ≡ replies_to c (take i ds) ++ (list_of d.replies c ++ replies_to c (drop (i + 1) ds))
replies_split c ds i d lt is =
    ap (replies_to c) (sym (take-append-drop i ds) ∙ ap (λ (l : List DeliveredTurn). take i ds ++ l)
    (drop_more ds i d lt ∙ ap (λ (e : DeliveredTurn). e ∷ drop (i + 1) ds) (sym is)))
    ∙ flat_map-append (λ (e : DeliveredTurn). list_of e.replies c) (take i ds) (d ∷ drop (i + 1) ds)

-- the reply at the place is the next one
pub next_is : (c : ℕ) (ds : List DeliveredTurn) (n : ℕ) (at : ReplyPlace) (d : DeliveredTurn) (rs : List Reply) (x : Reply)
    → at.turn < length ds → d ≡ get_or ds at.turn d → rs ≡ list_of d.replies c → at.place < length rs → x ≡ get_or rs at.place x
    → HasCome ds c n at → Some x ≡ slice_get (replies_to c ds) n
next_is c ds n at d rs x lt is own within read come =
    let first : List Reply = replies_to c (take at.turn ds) in
    let rest : List Reply = replies_to c (drop (at.turn + 1) ds) in
    let k : ℕ = at.place in
    sym (slice_get_read rs (length rs) k x refl within read)
    ∙ sym (slice_get-before rs rest k within)
    ∙ ap (λ (l : List Reply). slice_get (l ++ rest) k) own
    ∙ ap (slice_get (list_of d.replies c ++ rest)) (let count : n ≡ length first + k = come.replies in let e : k ≡ n - length first = omega (arith, count) in e)
    ∙ sym (get_back first (list_of d.replies c ++ rest) n (let count : n ≡ length first + k = come.replies in omega (arith, count)))
    ∙ ap (λ (l : List Reply). slice_get l n) (sym (replies_split c ds at.turn d lt is))

-- past a turn in which no reply is left
pub come_past : (c : ℕ) (ds : List DeliveredTurn) (n : ℕ) (at past : ReplyPlace) (d : DeliveredTurn) (rs : List Reply)
    → at.turn < length ds → d ≡ get_or ds at.turn d → rs ≡ list_of d.replies c → length rs ≤ at.place
    → past.turn ≡ at.turn + 1 → past.place ≡ at.place - length rs → HasCome ds c n at → HasCome ds c n past
come_past c ds n at past d rs lt is own few turn place come =
    let first : List Reply = replies_to c (take at.turn ds) in
    let count : n ≡ length first + at.place = come.replies in
    let more : length (replies_to c (take (at.turn + 1) ds)) ≡ length first + length rs =
    ap length (replies_more c ds at.turn d lt is ∙ ap (λ (l : List Reply). first ++ l) (sym own)) ∙ length-append first rs in
    record {
      turn = omega (arith, turn, lt);
      replies = (let e : n ≡ length (replies_to c (take (at.turn + 1) ds)) + past.place = omega (arith, count, place, few, more) in e)
          ∙ ap (λ (i : ℕ). length (replies_to c (take i ds)) + past.place) (sym turn);
    }

-- past all turns
pub none_next : (c : ℕ) (ds : List DeliveredTurn) (n : ℕ) (at : ReplyPlace) → length ds ≤ at.turn → HasCome ds c n at → slice_get (replies_to c ds) n ≡ None
none_next c ds n at all come =
    let count : n ≡ length (replies_to c (take at.turn ds)) + at.place = come.replies in
    let whole : length (replies_to c (take at.turn ds)) ≡ length (replies_to c ds) = ap (λ (l : List DeliveredTurn). length (replies_to c l)) (take_all at.turn ds all) in
    slice_get_past (replies_to c ds) n (omega (arith, count, whole))

at_beginning : (n c : ℕ) → slice_index_or (replicate n beginning) c beginning ≡ beginning
at_beginning zero c = refl
at_beginning (suc n) zero = refl
at_beginning (suc n) (suc c) = at_beginning n c

-- at the opening
pub come_nowhere : (n : ℕ) (ds : List DeliveredTurn) (ns : List ℕ) (places : List ReplyPlace) → ds ≡ [] → ns ≡ replicate n 0 → places ≡ replicate n beginning → HaveCome ds ns places
come_nowhere n ds ns places none zeros same = record {
  wide = ap length same ∙ length-replicate n beginning ∙ sym (length-replicate n 0) ∙ ap length (sym zeros);
  each = λ c. subst (λ (l : List ReplyPlace). HasCome ds c (slice_index ns c) (slice_index_or l c beginning)) (sym same)
      (subst (λ (at : ReplyPlace). HasCome ds c (slice_index ns c) at) (sym (at_beginning n c))
      (record { turn = omega arith; replies = ap (λ (l : List ℕ). slice_index l c) zeros ∙ zeros_at n c }));
}

-- one turn more
pub come_still : (ds more : List DeliveredTurn) (d : DeliveredTurn) (ns : List ℕ) (places : List ReplyPlace) → more ≡ ds ++ d ∷ [] → HaveCome ds ns places → HaveCome more ns places
come_still ds more d ns places pushed have = subst (λ (l : List DeliveredTurn). HaveCome l ns places) (sym pushed) (record {
  wide = have.wide;
  each = λ c. let at : ReplyPlace = slice_index_or places c beginning in let come : HasCome ds c (slice_index ns c) at = have.each c in record {
    turn = omega (arith, come.turn, length-append ds (d ∷ []));
    replies = come.replies ∙ ap (λ (l : List DeliveredTurn). length (replies_to c l) + at.place) (sym (take-append-le at.turn ds (d ∷ []) come.turn));
  };
})

-- one caller has collected one reply more
pub come_further : (ds : List DeliveredTurn) (ns : List ℕ) (places : List ReplyPlace) (c : ℕ) (at : ReplyPlace) (m : ℕ) → c < length ns → HasCome ds c m at → HaveCome ds ns places
    → HaveCome ds (set ns c m) (set places c at)
come_further ds ns places c at m lt come have = record {
  wide = length-set places c at ∙ have.wide ∙ sym (length-set ns c m);
  each = λ k. elim (cases_eq k c) [
    | inl e ↦ subst (λ (j : ℕ). HasCome ds j (slice_index (set ns c m) j) (slice_index_or (set places c at) j beginning)) (sym e)
        (subst (λ (i : ℕ). HasCome ds c i (slice_index_or (set places c at) c beginning)) (sym (get_or-set_same ns c m 0 lt))
        (subst (HasCome ds c m) (sym (get_or-set_same places c at beginning (omega (arith, lt, have.wide)))) come))
    | inr other ↦ subst (λ (i : ℕ). HasCome ds k i (slice_index_or (set places c at) k beginning)) (sym (get_or-set_other ns c k m 0 other))
        (subst (HasCome ds k (slice_index ns k)) (sym (get_or-set_other places c k at beginning other)) (have.each k))
  ];
}

-- a caller has come to its place, as it is read
pub come_at : (ds es : List DeliveredTurn) (ns : List ℕ) (places seen : List ReplyPlace) (c : ℕ) (at : ReplyPlace)
    → es ≡ ds → seen ≡ places → at ≡ slice_index_or seen c beginning → HaveCome ds ns places → HasCome es c (slice_index ns c) at
come_at ds es ns places seen c at same read is have =
    subst (λ (l : List DeliveredTurn). HasCome l c (slice_index ns c) at) (sym same)
    (subst (HasCome ds c (slice_index ns c)) (sym (is ∙ ap (λ (l : List ReplyPlace). slice_index_or l c beginning) read)) (have.each c))

-- the same once a caller has collected one reply more
pub come_next : (ds es : List DeliveredTurn) (ns ms : List ℕ) (places news : List ReplyPlace) (c m : ℕ) (at : ReplyPlace)
    → es ≡ ds → ms ≡ set ns c m → m ≡ slice_index ns c + 1 → news ≡ set places c at → c < length places
    → HasCome es c (slice_index ns c + 1) at → HaveCome ds ns places → HaveCome ds ms news
come_next ds es ns ms places news c m at same numbers more placed lt come have =
    subst (λ (l : List ℕ). HaveCome ds l news) (sym numbers)
    (subst (HaveCome ds (set ns c m)) (sym placed)
    (come_further ds ns places c at m (omega (arith, lt, have.wide))
    (subst (λ (n : ℕ). HasCome ds c n at) (sym more) (subst (λ (l : List DeliveredTurn). HasCome l c (slice_index ns c + 1) at) same come)) have))
