use Rattle.std.proofs.Common.{inl, inr, sym, subst}
use Rattle.nav_types.specs.declared.cells.Size.{Size}
use Rattle.nav_types.specs.Rects.{IsPartOf, chunk_rect}
use Rattle.grid_versions.specs.inner.ChunkLists.{IsChunkInside}
use Rattle.grid_versions.proofs.chunk_bits.changes_one_way.Goals as goal

pub still_pass-requires-2-clause-inside : goal.still_pass-requires-2-clause-inside
still_pass-requires-2-clause-inside c = subst (λ (s : Size). IsChunkInside s c.args.chunk) (sym c.requires.size) c.requires.inside

pub still_pass-requires-2-clause-part : goal.still_pass-requires-2-clause-part
still_pass-requires-2-clause-part c =
    subst (λ (s : Size). IsPartOf (chunk_rect s c.args.chunk) c.args.part) (sym c.requires.size) c.requires.part

pub returns-then-still_pass : goal.returns-then-still_pass
returns-then-still_pass c = λ _. inl (c.still_pass.ensures c.if-still_pass.true)

pub returns : goal.returns
returns c = λ still. inr (c.still_pass-2.ensures still)
