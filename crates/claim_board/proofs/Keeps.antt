-- Each step of the claim word keeps its rule.
use Rattle.std.proofs.Common.{◌≡◌, ◌≢◌, ℕ, zero, suc, ◌+◌, ◌-◌, ◌/◌, ◌%◌, ◌^◌, ◌<◌, ◌≤◌, Bool, true, false, cond, eqb, ltb, leb, ◌||◌, List, [], ◌∷◌, ◌++◌, get_or, set, refl, sym, ap, ◌∙◌, subst, ⊎_elim, arith, length-set, get_or-set_same}
use Rattle.std.proofs.lemmas.Bool.{true≢false, cases_Bool, cond-true, cond-false, leb-true, leb-false, or_cases}
use Rattle.std.proofs.lemmas.List.Elements.{All-filter}
use Rattle.std.proofs.lemmas.List.Sums.{sum_by-append, sum_by_push, sum_by-le-sum_by}
use mathlib.Core.Option.{some, some-injective, some-ne-none}
use lib.ListN.{get_elem?}
use Rattle.atomic_table.specs.Table.{State, Me, keeps, stepped, opening, Allows, Splits, Joins}
use Rattle.atomic_table.proofs.Lists.{at_set}
use Rattle.claim_board.specs.declared.rule.SeatView.{SeatView}
use Rattle.claim_board.specs.inner.ClaimWord.{times, once_below, misses, open_credit, total, first_view, first_half, second_half, after_draw, Draws, joined, spent_view, FitsSeat, KeepsBoard}
use Rattle.claim_board.proofs.Totals.{total-set, total-cut, total-merge, part-le-total, each-set, each-push}
use Rattle.claim_board.proofs.Numbers.{once_below-next, once_below-none, all-below}

abbrev Table : Type 0
Table = State (Unit {0}) SeatView

-- the start
pub starts : (jobs : ℕ) → jobs < 2 ^ 32 → KeepsBoard jobs (opening (0 ∷ []) [] (first_view jobs))
starts jobs few = record {
  one = refl;
  few = few;
  share = refl;
  once = λ n. once_below-none n;
  room = omega arith;
  reach = omega arith;
  fits = each;
}
  where
    each : (place : ℕ) (v : SeatView) → get_elem? (first_view jobs ∷ []) place ≡ some v → FitsSeat jobs 0 v
    each zero v at = subst (FitsSeat jobs 0) (some-injective _ _ at) record { told = λ _. refl; spent = λ _. refl; ended = λ e. absurd (true≢false (sym e)) }
    each (suc place) v at = absurd (some-ne-none v (sym at))

halves : (ended : Bool) (share : ℕ) → cond ended 0 (share - share / 2) + cond ended 0 (share / 2) ≡ cond ended 0 share
halves true share = refl
halves false share = omega arith

-- the split
pub splits : (jobs id : ℕ) (v : SeatView) → 2 ≤ v.share → Splits (KeepsBoard jobs) id v (first_half v) (second_half v)
splits jobs id v enough s h at =
    let cut = λ (f : SeatView → ℕ). total-cut f s.views id v (first_half v) (second_half v) at in
    let f = h.fits id v at in record {
      one = h.one;
      few = h.few;
      share = cut (λ v. v.share) (omega arith) ∙ h.share;
      once = λ n. cut (λ v. times n v.drawn) (omega arith) ∙ h.once n;
      room = subst (λ (n : ℕ). n ≤ 64) (sym (cut (λ v. misses jobs v.drawn + open_credit v) (omega (arith, halves v.ended v.share)))) h.room;
      reach = subst (λ (n : ℕ). get_or s.words 0 0 ≤ jobs + n) (sym (cut (λ v. misses jobs v.drawn) (omega arith))) h.reach;
      fits = each-push (FitsSeat jobs (get_or s.words 0 0)) (set s.views id (first_half v)) (second_half v)
          (each-set (FitsSeat jobs (get_or s.words 0 0)) s.views id (first_half v) h.fits
          record { told = λ _. f.told (omega arith); spent = λ none. absurd (omega arith); ended = f.ended })
          record { told = λ _. f.told (omega arith); spent = λ _. refl; ended = f.ended };
    }

-- the misses are at most the share, so the word is far below its end
word-bound : (jobs : ℕ) (s : Table) → KeepsBoard jobs s → get_or s.words 0 0 ≤ 2 ^ 32 + 64
word-bound jobs s h =
    let most = sum_by-le-sum_by (λ (v : SeatView). misses jobs v.drawn) (λ (v : SeatView). misses jobs v.drawn + open_credit v) s.views (λ v. omega arith) in
    let room = h.room in
    let reach = h.reach in
    let few = h.few in
    omega arith

-- a number more is no miss, or it ends a view that had share
draw-room : (jobs n : ℕ) (v : SeatView) → v.jobs ≡ jobs → v.ended ≡ false → 0 < v.share → misses jobs (v.drawn ++ n ∷ []) + open_credit (after_draw v n) ≤ misses jobs v.drawn + open_credit v
draw-room jobs n v told going live =
    let more = sum_by_push (λ (m : ℕ). cond (leb jobs m) 1 0) v.drawn n in
    let before : open_credit v ≡ v.share = cond-false v.ended 0 v.share going in
    let same : leb v.jobs n ≡ leb jobs n = ap (λ (k : ℕ). leb k n) told in
    ⊎_elim
    (λ (missed : leb jobs n ≡ true).
    let one : cond {A = ℕ} (leb jobs n) 1 0 ≡ 1 = cond-true (leb jobs n) 1 0 missed in
    let after : open_credit (after_draw v n) ≡ 0 = cond-true (leb v.jobs n) 0 v.share (same ∙ missed) in
    omega arith)
    (λ (hit : leb jobs n ≡ false).
    let none : cond {A = ℕ} (leb jobs n) 1 0 ≡ 0 = cond-false (leb jobs n) 1 0 hit in
    let after : open_credit (after_draw v n) ≡ v.share = cond-false (leb v.jobs n) 0 v.share (same ∙ hit) in
    omega arith)
    (cases_Bool (leb jobs n))

draw-reach : (jobs n : ℕ) (drawn : List ℕ) (others : ℕ) → n ≤ jobs + (others + misses jobs drawn) → n + 1 ≤ jobs + (others + misses jobs (drawn ++ n ∷ []))
draw-reach jobs n drawn others reach =
    let more = sum_by_push (λ (m : ℕ). cond (leb jobs m) 1 0) drawn n in
    ⊎_elim
    (λ (missed : leb jobs n ≡ true).
    let one : cond {A = ℕ} (leb jobs n) 1 0 ≡ 1 = cond-true (leb jobs n) 1 0 missed in
    omega arith)
    (λ (hit : leb jobs n ≡ false).
    let below : n < jobs = leb-false jobs n hit in
    omega arith)
    (cases_Bool (leb jobs n))

-- the fetch-add, which leaves the word at one more
draws-at : (jobs id next : ℕ) (me : Me (Unit {0}) SeatView) (s : Table) → KeepsBoard jobs s → get_elem? s.views id ≡ some me.0 → 0 < me.0.share → me.0.ended ≡ false → next ≡ get_or s.words 0 0 + 1
    → KeepsBoard jobs (stepped s 0 next id me.1 (after_draw me.0 (get_or s.words 0 0)) keeps)
draws-at jobs id next me s h at live going is =
    let v : SeatView = me.0 in
    let n : ℕ = get_or s.words 0 0 in
    let w : SeatView = after_draw v n in
    let now : get_or (set s.words 0 next) 0 0 ≡ n + 1 = get_or-set_same s.words 0 next 0 (omega (arith, h.one)) ∙ is in
    let f = h.fits id v at in
    let told : v.jobs ≡ jobs = f.told live in
    let change = λ (g : SeatView → ℕ). total-set g s.views id v w at in record {
      one = length-set s.words 0 next ∙ h.one;
      few = h.few;
      share = omega (arith, change (λ u. u.share), h.share);
      once = λ k.
          let moved = change (λ u. times k u.drawn) in
          let more = sum_by-append (λ (m : ℕ). cond (eqb m k) 1 0) v.drawn (n ∷ []) in
          let step = once_below-next k n in
          let before = h.once k in
          subst (λ (z : ℕ). total (λ u. times k u.drawn) (set s.views id w) ≡ once_below k z) (sym now) (omega arith);
      room = omega (arith, change (λ u. misses jobs u.drawn + open_credit u), draw-room jobs n v told going live, h.room);
      reach =
          let moved = change (λ u. misses jobs u.drawn) in
          let part = part-le-total (λ u. misses jobs u.drawn) s.views id v at in
          let before = h.reach in
          let all : ℕ = total (λ u. misses jobs u.drawn) s.views in
          let mine : ℕ = misses jobs v.drawn in
          let others : ℕ = all - mine in
          let after = draw-reach jobs n v.drawn others (omega arith) in
          subst (λ (z : ℕ). z ≤ jobs + total (λ u. misses jobs u.drawn) (set s.views id w)) (sym now) (omega arith);
      fits = subst (λ (z : ℕ). (place : ℕ) (u : SeatView) → get_elem? (set s.views id w) place ≡ some u → FitsSeat jobs z u) (sym now)
          (each-set (FitsSeat jobs (n + 1)) s.views id w
          (λ place u there. let g = h.fits place u there in record { told = g.told; spent = g.spent; ended = λ e. omega (arith, g.ended e) })
          record {
            told = λ _. told;
            spent = λ none. absurd (omega arith);
            ended = λ e. let past = leb-true v.jobs n e in omega arith;
          });
    }

-- A seat that has not ended may draw. The number is above each job that it had drawn.
pub draws : (jobs slots id : ℕ) (me : Me (Unit {0}) SeatView) → 0 < me.0.share → me.0.ended ≡ false → Allows (KeepsBoard jobs) slots id me 0 (λ n. (n + 1) % 2 ^ 64) (Draws me)
draws jobs slots id me live going s h long at small =
    let v : SeatView = me.0 in
    let n : ℕ = get_or s.words 0 0 in
    let bound : n ≤ 2 ^ 32 + 64 = word-bound jobs s h in
    let next : (n + 1) % 2 ^ 64 ≡ n + 1 = omega arith in (
      after_draw v n,
      keeps,
      tt,
      draws-at jobs id ((n + 1) % 2 ^ 64) me s h at live going next,
      (
        refl,
        All-filter (λ k. ltb k v.jobs) (λ k. k < n) v.drawn
            (all-below v.drawn n (λ k. omega (arith, part-le-total (λ (u : SeatView). times k u.drawn) s.views id v at, h.once k))),
      ),
    )

either-open : (a b : Bool) (m n : ℕ) → cond (a || b) 0 (m + n) ≤ cond a 0 m + cond b 0 n
either-open true b m n = omega arith
either-open false true m n = omega arith
either-open false false m n = omega arith

-- the join
pub joins : (jobs id : ℕ) (v : SeatView) (other : ℕ) (w : SeatView) → 0 < v.share → Joins (KeepsBoard jobs) id v other w (joined v w) spent_view
joins jobs id v other w live s h at apart there =
    let both : SeatView = joined v w in
    let n : ℕ = get_or s.words 0 0 in
    let theirs : get_elem? s.views other ≡ some w =
    ⊎_elim (λ (t : (other ≡ id) × (both ≡ w)). absurd (apart t.0)) (λ (t : (other ≢ id) × (get_elem? s.views other ≡ some w)). t.1) (at_set s.views id other both w there) in
    let f = h.fits id v at in
    let g = h.fits other w theirs in
    let merge = λ (a : SeatView → ℕ) (none : a spent_view ≡ 0). total-merge a s.views id other v w both spent_view at there none in
    let times_both = λ (k : ℕ). sum_by-append (λ (m : ℕ). cond (eqb m k) 1 0) v.drawn w.drawn in
    let misses_both = sum_by-append (λ (m : ℕ). cond (leb jobs m) 1 0) v.drawn w.drawn in record {
      one = h.one;
      few = h.few;
      share = omega (arith, merge (λ u. u.share) refl, h.share);
      once = λ k. omega (arith, merge (λ u. times k u.drawn) refl, times_both k, h.once k);
      room = omega (arith, merge (λ u. misses jobs u.drawn + open_credit u) refl, misses_both, either-open v.ended w.ended v.share w.share, h.room);
      reach = omega (arith, merge (λ u. misses jobs u.drawn) refl, misses_both, h.reach);
      fits = each-set (FitsSeat jobs n) (set s.views id both) other spent_view
          (each-set (FitsSeat jobs n) s.views id both h.fits
          record {
            told = λ _. f.told live;
            spent = λ none. absurd (omega arith);
            ended = λ e. ⊎_elim f.ended g.ended (or_cases v.ended w.ended e);
          })
          record { told = λ some_credit. absurd (omega arith); spent = λ _. refl; ended = λ e. absurd (true≢false (sym e)) };
    }
