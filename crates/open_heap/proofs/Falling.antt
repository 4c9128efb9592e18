-- Entries whose estimates fall.
use Rattle.std.proofs.Common.{ℕ, ◌≡◌, ◌<◌, ◌≤◌, ◌⊎◌, ◌+◌, ◌-◌, List, [], ◌∷◌, ◌++◌, length, length-append, get_or, Option, None, Some, Contains, refl, ap, inl, inr, sym, subst, ◌∙◌, arith}
use Rattle.std.specs.List.{slice_get, insert}
use Rattle.std.specs.Option.{option_to_list}
use Rattle.std.proofs.Math.ListN.{get_or-append}
use Rattle.std.proofs.lemmas.Bool.{cases_eq, cases_lt}
use Rattle.std.proofs.lemmas.List.{append-nil}
use Rattle.std.proofs.lemmas.Option.{get_or_from_slice_get, same_Some}
use Rattle.std.proofs.lemmas.List.Edits.{insert_end, length-insert, get_or-insert_below, get_or-insert_at, get_or-insert_above}
use Rattle.std.proofs.lemmas.List.Elements.{Contains-push_cases}
use Rattle.nav_types.proofs.Items.{slice_get-push_last}
use Rattle.open_heap.specs.declared.entries.Entry.{Entry}
use Rattle.open_heap.specs.inner.Buckets.{AreFalling}

pub no_entries : (entries : List Entry) → length entries ≡ 0 → entries ≡ []
no_entries [] none = refl
no_entries (entry ∷ rest) none = absurd (omega (arith, none))

-- without the last
pub falling_front : (entries : List Entry) (last : Entry) → AreFalling (entries ++ last ∷ []) → AreFalling entries
falling_front entries last falling i j d up within =
    let E = λ (entry : Entry). entry.estimate in
    let at_i = ap E (get_or-append entries (last ∷ []) d i (omega arith)) in
    let at_j = ap E (get_or-append entries (last ∷ []) d j within) in
    let is = falling i j d up (omega (arith, length-append entries (last ∷ []), within)) in
    omega (arith, is, at_i, at_j)

pub falling_left : (entries : List Entry) (taken : Option Entry) → AreFalling (entries ++ option_to_list taken) → AreFalling entries
falling_left entries None falling = subst AreFalling (append-nil entries) falling
falling_left entries (Some last) falling = falling_front entries last falling

-- with one more at its place
pub falling_more : (entries : List Entry) (entry : Entry) (place : ℕ) → AreFalling entries → place ≤ length entries
    → ((at : ℕ) (d : Entry) → at < place → entry.estimate ≤ (get_or entries at d).estimate)
    → ((at : ℕ) (d : Entry) → place ≤ at → at < length entries → (get_or entries at d).estimate ≤ entry.estimate)
    → AreFalling (insert entries place entry)
falling_more entries entry place falling inside before behind i j d up within =
    let all = insert entries place entry in
    let size : length all ≡ length entries + 1 = length-insert entries place entry inside in
    let E = λ (e : Entry). e.estimate in
    let at = λ (k : ℕ). (get_or all k d).estimate in
    let was = λ (k : ℕ). (get_or entries k d).estimate in
    let below : (k : ℕ) → k < place → at k ≡ was k = λ k low. ap E (get_or-insert_below entries place entry d k low inside) in
    let here : at place ≡ entry.estimate = ap E (get_or-insert_at entries place entry d inside) in
    let above : (k : ℕ) → place < k → at k ≡ was (k - 1) = λ k high.
    let next : k ≡ k - 1 + 1 = omega (arith, high) in
    ap at next ∙ ap E (get_or-insert_above entries place entry d (k - 1) (omega (arith, high)) inside) in
    elim (cases_lt j place) [
      | inl low ↦
          let one = below i (omega (arith, up, low)) in
          let two = below j low in
          let is = falling i j d up (omega (arith, low, inside)) in
          omega (arith, one, two, is)
      | inr high ↦ elim (cases_eq j place) [
        | inl at_place ↦
            let two : at j ≡ entry.estimate = ap at at_place ∙ here in
            elim (cases_lt i place) [
              | inl less ↦
                  let one = below i less in
                  let is = before i d less in
                  omega (arith, one, two, is)
              | inr more ↦
                  let same : i ≡ j = omega (arith, up, more, at_place) in
                  let one : at i ≡ at j = ap at same in
                  omega (arith, one)
            ]
        | inr not_at ↦
            let past : place < j = omega (arith, high, not_at) in
            let two = above j past in
            let last : j - 1 < length entries = omega (arith, size, within, past) in
            elim (cases_lt i place) [
              | inl less ↦
                  let one = below i less in
                  let is = falling i (j - 1) d (omega (arith, less, past)) last in
                  omega (arith, one, two, is)
              | inr more ↦ elim (cases_eq i place) [
                | inl same ↦
                    let one : at i ≡ entry.estimate = ap at same ∙ here in
                    let is = behind (j - 1) d (omega (arith, past)) last in
                    omega (arith, one, two, is)
                | inr differ ↦
                    let one = above i (omega (arith, more, differ)) in
                    let is = falling (i - 1) (j - 1) d (omega (arith, up)) last in
                    omega (arith, one, two, is)
              ]
            ]
      ]
    ]

-- with one more behind the last, which is not less
pub falling_push : (entries : List Entry) (entry : Entry) → AreFalling entries
    → ((place : ℕ) (d : Entry) → place + 1 ≡ length entries → entry.estimate ≤ (get_or entries place d).estimate)
    → AreFalling (entries ++ entry ∷ [])
falling_push entries entry falling last = subst AreFalling (insert_end entries entry)
    (falling_more entries entry (length entries) falling (omega arith)
    (λ at d low.
    let one = last (length entries - 1) d (omega (arith, low)) in
    let two = falling at (length entries - 1) d (omega (arith, low)) (omega (arith, low)) in
    omega (arith, one, two))
    (λ at d from to. absurd (omega (arith, from, to))))

-- the last is the least
pub last_is_least : (entries : List Entry) (last : Entry) → AreFalling entries → slice_get entries (length entries - 1) ≡ Some last
    → (entry : Entry) → Contains entries entry → last.estimate ≤ entry.estimate
last_is_least entries last falling known entry has =
    let E = λ (e : Entry). e.estimate in
    let some = has.1 in
    let is = falling has.0 (length entries - 1) entry (omega (arith, some)) (omega (arith, some)) in
    let one = ap E (get_or_from_slice_get entries (length entries - 1) last entry known) in
    let two = ap E has.2 in
    omega (arith, is, one, two)

-- where the last was taken out, each is it or is still there
pub taken_or_there : (old new : List Entry) (taken : Option Entry) → old ≡ new ++ option_to_list taken
    → (last other : Entry) → slice_get old (length old - 1) ≡ Some last → Contains old other → (last ≡ other) ⊎ Contains new other
taken_or_there old new None items last other known has =
    let all : old ≡ new = items ∙ append-nil new in
    inr (subst (λ (entries : List Entry). Contains entries other) all has)
taken_or_there old new (Some taken) items last other known has =
    let size : length old ≡ length new + 1 = ap length items ∙ length-append new (taken ∷ []) in
    let at : length new ≡ length old - 1 = omega (arith, size) in
    let end : Some taken ≡ Some last = sym (slice_get-push_last new taken) ∙ ap (λ (entries : List Entry). slice_get entries (length new)) (sym items)
    ∙ ap (λ (k : ℕ). slice_get old k) at ∙ known in
    elim (Contains-push_cases new taken other (subst (λ (entries : List Entry). Contains entries other) items has)) [
      | inl there ↦ inr there
      | inr is ↦ inl (sym (same_Some taken last end) ∙ is)
    ]
