use Rattle.std.proofs.Common.{ℕ, List, ◌∙◌, length, ap, sym, subst}
use Rattle.grid_versions.specs.inner.Tables.{AreAllEdges}
use Rattle.grid_versions.proofs.tables.borders.next_edges.Goals as goal

pub reconnect-requires-clause-each : goal.reconnect-requires-clause-each
reconnect-requires-clause-each c = ap (λ (xs : List (List (ℕ × ℕ))). length xs) c.in_ok-all.ensures ∙ c.requires.each

pub returns-clause-edges : goal.returns-clause-edges
returns-clause-edges c = λ old now changes kept labels were.
    c.in_ok-stay.ensures.edges old now changes kept labels
    (subst (λ (all : List (List (ℕ × ℕ))). AreAllEdges c.args.side old c.args.size all) (sym c.in_ok-all.ensures) were)

pub returns-clause-stay : goal.returns-clause-stay
returns-clause-stay c = λ all_stay. c.in_ok-stay.ensures.stay all_stay ∙ c.in_ok-all.ensures
