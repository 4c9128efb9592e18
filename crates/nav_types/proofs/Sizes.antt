-- A size is its two sides.
use Rattle.std.proofs.Common.{◌≡◌, ℕ, ap, subst, ◌∙◌}
use Rattle.std.proofs.Math.Bridge.{le_prop}
use Rattle.nav_types.specs.declared.cells.Size.{Size}
use Rattle.nav_types.specs.Side.{IsSide}

-- a side's bounds hold in one way
one_side : (side : ℕ) (a b : IsSide side) → a ≡ b
one_side side = hlevel le_prop

same_parts : (w h : ℕ) (a b : IsSide w) (c d : IsSide h)
    → ◌≡◌ {A = Size} (record { w = w; h = h; wide = a; high = c }) (record { w = w; h = h; wide = b; high = d })
same_parts w h a b c d =
    let wides = λ (x : IsSide w). let s : Size = record { w = w; h = h; wide = x; high = c } in s in
    let highs = λ (x : IsSide h). let s : Size = record { w = w; h = h; wide = b; high = x } in s in
    ap wides (one_side w a b) ∙ ap highs (one_side h c d)

-- two sizes with the same sides are one
pub same_size : (a b : Size) → a.w ≡ b.w → a.h ≡ b.h → a ≡ b
same_size a b ew eh =
    let Rows : ℕ → Type 0 = λ h. (high : IsSide h) → a ≡ record { w = a.w; h = h; wide = a.wide; high = high } in
    let rows : Rows b.h = subst Rows eh (λ high. same_parts a.w a.h a.wide a.wide a.high high) in
    let Columns : ℕ → Type 0 = λ w. (wide : IsSide w) → a ≡ record { w = w; h = b.h; wide = wide; high = b.high } in
    let columns : Columns b.w = subst Columns ew (λ wide. rows b.high ∙ same_parts a.w b.h a.wide wide b.high b.high) in
    columns b.wide
