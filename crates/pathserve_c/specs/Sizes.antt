-- The sizes of the structs of the header.
use Rattle.std.specs.Prelude.{ℕ, ◌==◌, ◌||◌, if◌then◌else◌}

-- of a match, a view and a finder, a word and a pointer each; of a post, a reply and a cell; by their numbers
abbrev pub size_named : ℕ → ℕ
size_named which =
    if which == 1 || which == 2 || which == 10 then 16 else (
    if which == 3 || which == 5 then 12 else (
    if which == 4 then 72 else (
    if which == 6 then 48 else (
    if which == 7 then 56 else (
    if which == 8 then 56 else (
    if which == 9 then 4 else 0))))))
