use Rattle.std.proofs.Common.{length}
use Rattle.path_workers.specs.inner.Placing.{answer_of, note_of}
use Rattle.path_workers.proofs.Placed.{one_placed, last_below}
use Rattle.path_workers.proofs.placing.placed.Goals as goal

pub place-requires : goal.place-requires
place-requires c =
    let kept = c.loop-next.invariant in
    record {
      answers = last_below (length c.args.places.answers.items) c.loop-next.places.answers.items c.loop-next.answered.items c.pop.new.self.items c.in-Some.next
          c.in-Some.ensures.items kept.answers_wide kept.answers_inside;
      notes = last_below (length c.args.places.notes.items) c.loop-next.places.notes.items c.loop-next.answered.items c.pop.new.self.items c.in-Some.next
          c.in-Some.ensures.items kept.notes_wide kept.notes_inside;
    }

pub loop-next-preserved : goal.loop-next-preserved
loop-next-preserved c =
    let kept = c.loop-next.invariant in
    let answers = one_placed answer_of (length c.args.places.answers.items) c.loop-next.places.answers.items c.place.new.places.answers.items
    c.loop-next.answered.items c.pop.new.self.items c.in-Some.next _
    c.in-Some.ensures.items c.place.ensures.answers kept.answers_wide kept.answers_inside kept.answers in
    let notes = one_placed note_of (length c.args.places.notes.items) c.loop-next.places.notes.items c.place.new.places.notes.items
    c.loop-next.answered.items c.pop.new.self.items c.in-Some.next _
    c.in-Some.ensures.items c.place.ensures.notes kept.notes_wide kept.notes_inside kept.notes in
    record {
      answers_wide = answers.0;
      notes_wide = notes.0;
      answers_inside = answers.1.0;
      notes_inside = notes.1.0;
      answers = answers.1.1;
      notes = notes.1.1;
    }
