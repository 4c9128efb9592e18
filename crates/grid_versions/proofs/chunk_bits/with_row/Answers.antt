use Rattle.std.proofs.Common.{inl, inr, arith}
use Rattle.std.proofs.lemmas.Bool.{cases_lt}
use Rattle.grid_versions.proofs.chunk_bits.with_row.Goals as goal

pub returns-clause-earlier : goal.returns-clause-earlier
returns-clause-earlier c = λ k below other. elim (cases_lt k c.args.rows.to) [
  | inl low ↦ elim other [ inl south ↦ inl (omega arith) | inr north ↦ absurd (omega arith) ]
  | inr high ↦ inr high
]

pub returns-clause-own : goal.returns-clause-own
returns-clause-own c = λ other. elim other [ inl south ↦ absurd (omega arith) | inr north ↦ absurd (omega arith) ]
