use Rattle.std.proofs.Common.{◌<◌, ◌^◌, sym, subst, arith}
use Rattle.std.proofs.lemmas.List.{get_or-replicate}
use Rattle.chunk_regions.proofs.bits.ChunkBits.new.Goals as goal

pub invariant_of-result : goal.invariant_of-result
invariant_of-result c = λ k d within. subst (λ n. n < 2 ^ 96) (sym (get_or-replicate 96 k 0 d within)) (omega arith)
