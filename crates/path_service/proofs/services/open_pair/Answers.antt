use Rattle.std.proofs.Common.{◌≡◌, sym, ◌∙◌}
use Rattle.path_service.specs.Callers.{fresh}
use Rattle.path_service.proofs.services.open_pair.Goals as goal

pub returns-clause-channel : goal.returns-clause-channel
returns-clause-channel g c = record {
  taken = c.in_ok-post_in.ensures.taken.0;
  told = c.in_ok-post_in.ensures.taken.1;
  sent = c.in_ok-reply_in.ensures.posted;
}

pub returns-clause-caller : goal.returns-clause-caller
returns-clause-caller g c =
    let one = c.in_ok-post_in.ensures.one in
    let two : c.in_ok-reply_in.reply_out.lane ≡ c.in_ok-reply_in.reply_in.lane = sym c.in_ok-reply_in.ensures.one in
    c.new.ensures ∙ (λ i. fresh (record { number = c.args.number; posts = one i; replies = two i }))
