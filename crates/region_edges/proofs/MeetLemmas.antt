-- Collecting the pairs that meet along a border, place by place.
use Rattle.std.proofs.Common.{ℕ, ◌≡◌, ◌≢◌, ◌<◌, ◌≤◌, ◌↔◌, ◌⊎◌, List, inl, inr, sym, subst, ◌∙◌, arith}
use Rattle.std.specs.List.{Contains}
use Rattle.std.proofs.lemmas.Bool.{cases_lt}
use Rattle.chunk_regions.specs.Labelling.{Labelling}
use Rattle.region_edges.specs.declared.neighbours.ChunkSide.{ChunkSide}
use Rattle.region_edges.specs.inner.Borders.{Meets, numbers_at}

-- the list has exactly the pairs that meet at the first places
abbrev pub AreMeetings : ChunkSide → Labelling → Labelling → ℕ → List (ℕ × ℕ) → Type 0
AreMeetings side here there places pairs = (pair : ℕ × ℕ) → Contains pairs pair ↔ Meets side here there places pair

-- what meets at the first places still does with more places
Meets-more : (side : ChunkSide) (here there : Labelling) (places more : ℕ) (pair : ℕ × ℕ) → places ≤ more → Meets side here there places pair
    → Meets side here there more pair
Meets-more side here there places more pair rises meets = let less = meets.within in
    record { at = meets.at; within = omega arith; is = meets.is; near_passable = meets.near_passable; far_passable = meets.far_passable }

-- the pair of the next part of the border, if it is one of two regions, is put to those that meet before
pub AreMeetings-part : (side : ChunkSide) (here there : Labelling) (places end : ℕ) (pairs more : List (ℕ × ℕ)) (next : ℕ × ℕ)
    → AreMeetings side here there places pairs → places < end → ((place : ℕ) → places ≤ place → place < end → numbers_at side here there place ≡ next)
    → ((other : ℕ × ℕ) → Contains more other ↔ (Contains pairs other ⊎ ((other ≡ next) × (next.0 ≢ 0) × (next.1 ≢ 0))))
    → AreMeetings side here there end more
AreMeetings-part side here there places end pairs more next are further along added pair = (
  λ inside. elim ((added pair).0 inside) [
    | inl before ↦ Meets-more side here there places end pair (omega arith) ((are pair).0 before)
    | inr last ↦
        subst (λ (p : ℕ × ℕ). Meets side here there end p) (sym last.0)
        (record { at = places; within = further; is = along places (omega arith) further; near_passable = last.1; far_passable = last.2 })
  ],
  λ meets. elim (cases_lt meets.at places) [
    | inl before ↦ (added pair).1 (inl ((are pair).1
        (record { at = meets.at; within = before; is = meets.is; near_passable = meets.near_passable; far_passable = meets.far_passable })))
    | inr later ↦
        let same : pair ≡ next = sym meets.is ∙ along meets.at (omega arith) meets.within in
        (added pair).1 (inr (
          same,
          subst (λ (p : ℕ × ℕ). p.0 ≢ 0) same meets.near_passable,
          subst (λ (p : ℕ × ℕ). p.1 ≢ 0) same meets.far_passable,
        ))
  ],
)
