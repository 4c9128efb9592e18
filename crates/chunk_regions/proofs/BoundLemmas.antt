-- The numbers of spans' regions stay within the count of regions.
use Rattle.std.proofs.Common.{ℕ, ◌≡◌, ◌<◌, ◌≤◌, ◌+◌, List, [], ◌∷◌, ◌++◌, length, length-append, inl, inr, sym, arith}
use Rattle.std.specs.Prelude.{slice_index}
use Rattle.std.proofs.lemmas.Bool.{cases_lt}
use Rattle.std.proofs.lemmas.List.{get_or_push, get_or_append_left}
use Rattle.nav_types.specs.declared.cells.Cell.{Cell}
use Rattle.chunk_regions.specs.inner.Joining.{AreBounded}

-- the region of the newest span, and those of the spans before
pub newest_region : (regions : List ℕ) (n k : ℕ) → k ≡ length regions → slice_index (regions ++ n ∷ []) k ≡ n
newest_region regions n k same = get_or_push regions n 0 k (sym same)

pub older_region : (regions : List ℕ) (n k : ℕ) → k < length regions → slice_index (regions ++ n ∷ []) k ≡ slice_index regions k
older_region regions n k less = get_or_append_left regions (n ∷ []) 0 k less

-- a span that begins a region has the count of regions as its number
pub AreBounded-begin : (regions : List ℕ) (firsts : List Cell) (cell : Cell) → AreBounded regions firsts
    → AreBounded (regions ++ (length firsts + 1) ∷ []) (firsts ++ cell ∷ [])
AreBounded-begin regions firsts cell bounded =
    let n = length firsts + 1 in
    let longer : length (regions ++ n ∷ []) ≡ length regions + 1 = length-append regions (n ∷ []) in
    let more : length (firsts ++ cell ∷ []) ≡ length firsts + 1 = length-append firsts (cell ∷ []) in
    let few = bounded.few in
    record {
      few = omega arith;
      within = λ k inside. elim (cases_lt k (length regions)) [
        | inl less ↦ let same = older_region regions n k less in let was = bounded.within k less in (omega arith, omega arith)
        | inr last ↦ let same = newest_region regions n k (omega arith) in (omega arith, omega arith)
      ];
    }

-- a span that takes a region has its number
pub AreBounded-next : (regions : List ℕ) (firsts : List Cell) (n : ℕ) → 1 ≤ n → n ≤ length firsts → AreBounded regions firsts
    → AreBounded (regions ++ n ∷ []) firsts
AreBounded-next regions firsts n some known bounded =
    let longer : length (regions ++ n ∷ []) ≡ length regions + 1 = length-append regions (n ∷ []) in
    let few = bounded.few in
    record {
      few = omega arith;
      within = λ k inside. elim (cases_lt k (length regions)) [
        | inl less ↦ let same = older_region regions n k less in let was = bounded.within k less in (omega arith, omega arith)
        | inr last ↦ let same = newest_region regions n k (omega arith) in (omega arith, omega arith)
      ];
    }
