use Rattle.std.proofs.Common.{List, ◌∙◌, ap, sym, subst}
use Rattle.class_planes.specs.Planes.{is_passable}
use Rattle.chunk_regions.specs.Labelling.{Labelling}
use Rattle.grid_versions.specs.inner.Tables.{AreAllLabels, label_counts}
use Rattle.grid_versions.proofs.tables.labelling.next_labels.Goals as goal

pub relabel-requires : goal.relabel-requires
relabel-requires g c =
    let old = is_passable c.args.changed.now.before.now in
    let were = subst (λ (all : List Labelling). AreAllLabels old c.args.plane.now.size all) (sym c.in_ok-labels.ensures)
    c.requires.before.0 in
    record { size = c.requires.size; dirty = c.requires.dirty; before = (were, c.requires.before.1) }

pub returns-clause-counts : goal.returns-clause-counts
returns-clause-counts g c = λ all_stay.
    c.in_ok-stay.ensures.counts all_stay ∙ ap (λ (all : List Labelling). label_counts all) c.in_ok-labels.ensures
