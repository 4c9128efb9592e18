-- The seat with the whole share, once it has ended, has drawn the jobs, each once.
use Rattle.std.proofs.Common.{◌≡◌, ◌≢◌, ℕ, ◌<◌, true, ltb, List, get_or, sym, ap, ◌∙◌, subst, arith}
use Rattle.std.proofs.lemmas.Bool.{lt-ltb, ltb-true, cond-true}
use Rattle.std.proofs.lemmas.List.Elements.{All-contains, filter_passes}
use Rattle.std.proofs.lemmas.List.Kept.{AllPairs-filter}
use mathlib.Core.Option.{some}
use lib.ListN.{get_elem?}
use Rattle.atomic_table.specs.Table.{State, Final, Seen}
use Rattle.nav_types.specs.Counting.{Lists}
use Rattle.claim_board.specs.declared.rule.SeatView.{SeatView}
use Rattle.claim_board.specs.inner.ClaimWord.{times, once_below, jobs_among, KeepsBoard}
use Rattle.claim_board.proofs.Totals.{total-alone}
use Rattle.claim_board.proofs.Numbers.{once_below-le, contains-filter, apart}

whole-list : (jobs id : ℕ) (v : SeatView) (s : State (Unit {0}) SeatView) → KeepsBoard jobs s → get_elem? s.views id ≡ some v → v.share ≡ 64 → v.ended ≡ true → Lists (λ job. job < jobs) (jobs_among jobs v.drawn)
whole-list jobs id v s h at all over =
    let word : ℕ = get_or s.words 0 0 in
    let f = h.fits id v at in
    let past : jobs < word = f.ended over in
    let alone : (n : ℕ) → times n v.drawn ≡ once_below n word = λ n.
    sym (total-alone (λ u. times n u.drawn) s.views id v (λ place u there none. ap (times n) ((h.fits place u there).spent none)) at (h.share ∙ sym all)) ∙ h.once n in record {
      each = λ n there. ltb-true n jobs (All-contains (λ m. ltb m jobs ≡ true) (jobs_among jobs v.drawn) n (filter_passes (λ m. ltb m jobs) v.drawn) there);
      all = λ n job.
          let one : once_below n word ≡ 1 = cond-true (ltb n word) 1 0 (lt-ltb n word (omega arith)) in
          contains-filter (λ m. ltb m jobs) n v.drawn (lt-ltb n jobs job) (omega (arith, alone n));
      once = AllPairs-filter (λ m n. m ≢ n) (λ m. ltb m jobs) v.drawn (apart v.drawn (λ n. omega (arith, alone n, once_below-le n word)));
    }

-- the same of the state that the table is left in
pub closes : (jobs id : ℕ) (v : SeatView) (words : List ℕ) (slots : List (Unit {0})) → Final (Seen (KeepsBoard jobs) id v) words slots → v.share ≡ 64 → v.ended ≡ true → Lists (λ job. job < v.jobs) (jobs_among v.jobs v.drawn)
closes jobs id v words slots last all over =
    let s = last.0 in
    let seen = last.1 in
    let h = seen.0 in
    let told : v.jobs ≡ jobs = (h.fits id v seen.1).told (omega arith) in
    subst (λ (n : ℕ). Lists (λ job. job < n) (jobs_among n v.drawn)) (sym told) (whole-list jobs id v s h seen.1 all over)
