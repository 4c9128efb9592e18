use Rattle.std.proofs.Common.{ℕ, List, ◌≡◌, ◌+◌, ◌-◌, ◌<◌, ◌≤◌, ◌∙◌, ◌++◌, ap, sym, subst, arith, length, map, take, drop}
use Rattle.std.specs.Prelude.{slice_index}
use Rattle.std.proofs.lemmas.List.{take_all}
use Rattle.chunk_regions.specs.declared.spans.Span.{Span}
use Rattle.chunk_regions.specs.inner.Spans.{IsCutTo}
use Rattle.chunk_regions.specs.inner.Moving.{moved}
use Rattle.chunk_regions.proofs.CopyLemmas.{ends, taken, taken_to, length-taken, length-ends, are_taken, are_ends, behind_is, put_behind, IsCutTo-copied}
use Rattle.chunk_regions.proofs.spans.copy_rows.Goals as goal

pub between-requires-clause-order : goal.between-requires-clause-order
between-requires-clause-order c =
    let t = are_taken c.args.before.now c.start-first.ensures.are c.args.from c.args.to c.args.to c.requires.order (omega arith) c.requires.within in
    omega (arith, t.low, c.start-first.ensures.value, c.start-end.ensures.value)

pub move_places-requires-clause-low : goal.move_places-requires-clause-low
move_places-requires-clause-low c = λ k less.
    let before = c.args.before.now in
    let are = c.start-first.ensures.are in
    let from = c.args.from in
    let to = c.args.to in
    let piece = behind_is c.args.starts.now.items c.ends.result.now c.extend_from_slice.new.self.items c.deref_mut.result.now c.len-behind.result
    c.in_ok-extend_from_slice.ensures.items c.deref_mut.ensures.value (c.len-behind.ensures ∙ c.args.starts.now.ok.0) ∙ c.ends.ensures in
    let count = ap (λ (ns : List ℕ). length ns) piece in
    let long = length-ends before are from to c.requires.order c.requires.within in
    let e = are_ends before are from to k c.requires.order c.requires.within (omega arith) in
    let low = e.low in
    let value = c.start-first.ensures.value in
    subst (λ (ns : List ℕ). c.start-first.result ≤ slice_index ns k) (sym piece) (omega arith)

pub move_places-requires-clause-high : goal.move_places-requires-clause-high
move_places-requires-clause-high c = λ k less.
    let before = c.args.before.now in
    let are = c.start-first.ensures.are in
    let from = c.args.from in
    let to = c.args.to in
    let piece = behind_is c.args.starts.now.items c.ends.result.now c.extend_from_slice.new.self.items c.deref_mut.result.now c.len-behind.result
    c.in_ok-extend_from_slice.ensures.items c.deref_mut.ensures.value (c.len-behind.ensures ∙ c.args.starts.now.ok.0) ∙ c.ends.ensures in
    let count = ap (λ (ns : List ℕ). length ns) piece in
    let long = length-ends before are from to c.requires.order c.requires.within in
    let e = are_ends before are from to k c.requires.order c.requires.within (omega arith) in
    let few = e.few in
    let value = c.start-first.ensures.value in
    let len : c.len-here.result ≡ length c.args.spans.now.items = c.len-here.ensures ∙ c.args.spans.now.ok.0 in
    let room = c.requires.few in
    let within = c.requires.within in
    let order = c.requires.order in
    subst (λ (ns : List ℕ). c.len-here.result + (slice_index ns k - c.start-first.result) < 65536) (sym piece) (omega arith)

pub returns : goal.returns
returns c = λ on cut same.
    let before = c.args.before.now in
    let old = c.args.spans.now.items in
    let from = c.args.from in
    let to = c.args.to in
    let all = taken before old from to in
    let are = c.start-first.ensures.are in
    let d = to - from in
    let end : from + d ≡ to = omega (arith, c.requires.order) in
    let here = subst (λ (r : ℕ). IsCutTo on (c.args.starts.now.items ++ map (moved (slice_index before.starts from) (length old)) (ends before from d)) (take (taken_to before old from r) all) r) end
    (IsCutTo-copied on before are c.args.starts.now.items old from to c.requires.within same cut d (omega (arith, end))) in
    let long = length-taken before are old from to c.requires.order c.requires.within in
    let whole : take (taken_to before old from to) all ≡ all = take_all (taken_to before old from to) all (omega arith) in
    let first = c.start-first.result in
    let len : c.len-here.result ≡ length old = c.len-here.ensures ∙ c.args.spans.now.ok.0 in
    let starts = c.args.starts.now.items in
    let put = put_behind (moved first c.len-here.result) starts c.ends.result.now c.extend_from_slice.new.self.items c.deref_mut.result.now c.move_places.new.places
    c.len-behind.result c.extend_from_slice.new.self.len c.in_ok-extend_from_slice.ensures.items c.deref_mut.ensures.value
    (c.len-behind.ensures ∙ c.args.starts.now.ok.0) c.extend_from_slice.new.self.ok.0 c.move_places.ensures
    ∙ ap (λ (ns : List ℕ). starts ++ map (moved first c.len-here.result) ns) c.ends.ensures
    ∙ ap (λ (n : ℕ). starts ++ map (moved first n) (ends before from d)) len
    ∙ ap (λ (n : ℕ). starts ++ map (moved n (length old)) (ends before from d)) c.start-first.ensures.value in
    let piece : c.between.result.now ≡ take (slice_index before.starts to - slice_index before.starts from) (drop (slice_index before.starts from) before.spans) =
    c.between.ensures ∙ ap (λ (n : ℕ). take (n - first) (drop first before.spans)) c.start-end.ensures.value
    ∙ ap (λ (n : ℕ). take (slice_index before.starts to - n) (drop n before.spans)) c.start-first.ensures.value in
    let longer : c.extend_from_slice-2.new.self.items ≡ all = c.in_ok-extend_from_slice-2.ensures.items ∙ ap (λ (xs : List Span). old ++ xs) piece in
    subst (λ (ns : List ℕ). IsCutTo on ns c.extend_from_slice-2.new.self.items to) (sym put)
    (subst (λ (spans : List Span). IsCutTo on (starts ++ map (moved (slice_index before.starts from) (length old)) (ends before from d)) spans to) (whole ∙ sym longer) here)
