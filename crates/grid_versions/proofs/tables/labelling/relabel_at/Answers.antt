use Rattle.std.proofs.Common.{length, sym, ◌∙◌, arith}
use Rattle.std.proofs.lemmas.Bool.{eqb-true}
use Rattle.chunk_regions.specs.Labelling.{Labelling, AreLabels}
use Rattle.class_planes.specs.Planes.{is_passable}
use Rattle.grid_versions.specs.inner.ChunkLists.{chunk_numbered}
use Rattle.grid_versions.proofs.ChangeLemmas.{labels_stay, unmarked_agrees}
use Rattle.grid_versions.proofs.RemakeLemmas.{kept_at, counts_kept}
use Rattle.grid_versions.proofs.tables.labelling.relabel_at.Goals as goal

pub returns-then-not-is_marked-clause-labels : goal.returns-then-not-is_marked-clause-labels
returns-then-not-is_marked-clause-labels g c =
    let passes = is_passable c.args.plane.now in
    let size = c.args.plane.now.size in
    let place = c.args.place in
    let chunk = chunk_numbered size place in
    let old = is_passable c.args.changed.now.before.now in
    let changes = c.requires.before.0 in
    let agree = unmarked_agrees old passes size c.args.changed.now.class c.args.changed.now.bits.now place c.is_marked.result changes c.is_marked.ensures c.if-not-is_marked.true in
    kept_at place (λ (one : Labelling). AreLabels passes size chunk one) c.args.labels.now (omega (arith, c.requires.each, c.requires.within))
    (λ item at. labels_stay old passes size chunk item agree (c.requires.before.1 item at))

pub rows_labelled-requires-clause-before : goal.rows_labelled-requires-clause-before
rows_labelled-requires-clause-before g c = c.requires.before.1 c.at.result.now c.at.ensures

pub returns-clause-labels : goal.returns-clause-labels
returns-clause-labels g c = record { item = c.in_ok-made.made; set = c.in_ok-set.ensures.ok; is = c.in_ok-made.ensures.labels }

pub returns-clause-count : goal.returns-clause-count
returns-clause-count g c = λ stays.
    counts_kept (λ (one : Labelling). length one.firsts) c.args.labels.now c.set.new.self c.args.place c.at-2.result.now c.in_ok-made.made
    c.at-2.ensures c.in_ok-set.ensures.ok
    (sym c.count.ensures.value ∙ eqb-true c.count.result c.count-2.result stays ∙ c.count-2.ensures.value)
