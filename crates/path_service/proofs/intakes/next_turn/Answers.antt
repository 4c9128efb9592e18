use Rattle.std.proofs.Common.{Ok, refl, ap, ◌∙◌}
use Rattle.posts.specs.Posts.{post_count}
use Rattle.path_service.proofs.IntakeEnds.{looked_of, ends_short, ends_empty, ends_ready}
use Rattle.path_service.proofs.intakes.next_turn.Goals as goal

pub returns-in_default : goal.returns-in_default
returns-in_default g c =
    let channels = c.args.channels.items in
    let all_pending = c.args.all_pending.items in
    let new = c.fill_all-left.new.channels.items in
    let more = c.fill_all-left.new.all_pending.items in
    let left = c.fill_all-left.result in
    let got = c.fill_all-left.ensures.0 in
    let k = looked_of channels new all_pending more left got c.count_posts-room.result c.requires.wide c.requires.few
    (c.count_posts-room.ensures ∙ ap post_count c.as_slice.ensures.value) c.fill_all-left.ensures.1 in
    ends_short c.args.version.now.map c.args.version.now.standing channels new all_pending more left got _ _ k refl refl refl refl

pub returns-then-left-eq-MAX_STAGED_POSTS : goal.returns-then-left-eq-MAX_STAGED_POSTS
returns-then-left-eq-MAX_STAGED_POSTS g c =
    let channels = c.args.channels.items in
    let all_pending = c.args.all_pending.items in
    let new = c.fill_all-left.new.channels.items in
    let more = c.fill_all-left.new.all_pending.items in
    let left = c.in-Ok.left in
    let got = c.in-Ok.ensures.0 in
    let k = looked_of channels new all_pending more (Ok left) got c.count_posts-room.result c.requires.wide c.requires.few
    (c.count_posts-room.ensures ∙ ap post_count c.as_slice.ensures.value) c.in-Ok.ensures.1 in
    ends_empty c.args.version.now.map c.args.version.now.standing channels new all_pending more left got _ k c.if-left-eq-MAX_STAGED_POSTS.true refl refl refl refl

pub returns-in-Ok-prepare : goal.returns-in-Ok-prepare
returns-in-Ok-prepare g c =
    let channels = c.args.channels.items in
    let all_pending = c.args.all_pending.items in
    let new = c.fill_all-left.new.channels.items in
    let more = c.fill_all-left.new.all_pending.items in
    let left = c.in-Ok.left in
    let got = c.in-Ok.ensures.0 in
    let k = looked_of channels new all_pending more (Ok left) got c.count_posts-room.result c.requires.wide c.requires.few
    (c.count_posts-room.ensures ∙ ap post_count c.as_slice.ensures.value) c.in-Ok.ensures.1 in
    let made = c.in-Ok-prepare.ensures in
    ends_ready c.args.version.now.map c.args.version.now.standing channels new all_pending more left got _ c.in-Ok-prepare.prepared.ready k c.if-left-eq-MAX_STAGED_POSTS.false refl made.empty refl made.ready refl

pub returns-in-Err : goal.returns-in-Err
returns-in-Err g c =
    let channels = c.args.channels.items in
    let all_pending = c.args.all_pending.items in
    let new = c.fill_all-left.new.channels.items in
    let more = c.fill_all-left.new.all_pending.items in
    let left = c.in-Ok.left in
    let got = c.in-Ok.ensures.0 in
    let k = looked_of channels new all_pending more (Ok left) got c.count_posts-room.result c.requires.wide c.requires.few
    (c.count_posts-room.ensures ∙ ap post_count c.as_slice.ensures.value) c.in-Ok.ensures.1 in
    ends_short c.args.version.now.map c.args.version.now.standing channels new all_pending more (Ok left) got _ _ k refl c.in-Err.ensures.kept refl refl
