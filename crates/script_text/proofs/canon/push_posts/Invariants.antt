-- The lines so far, and those of the posts that are left, are all lines after what stood before.
use Rattle.std.proofs.Common.{◌≡◌, ◌++◌, drop}
use Rattle.script_text.specs.Canon.{canon_posts}
use Rattle.script_text.specs.ReadsBack.{IsPostValue}
use Rattle.std.specs.List.{AllWithin}
use Rattle.script_text.proofs.canon.push_posts.Given as goal

abbrev pub invariant-loop-post : goal.invariant-loop-post
invariant-loop-post l = (l.text ++ canon_posts l.version l.caller (drop l.post-index l.posts) ≡ l.fn.text ++ canon_posts l.fn.version l.fn.caller l.fn.posts) × AllWithin IsPostValue l.posts 0 l.post-index
