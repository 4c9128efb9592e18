-- Why a line is not in the grammar in its place.
use Rattle.std.specs.Prelude.{ℕ, ◌≡◌, ◌⊎◌, ◌+◌, ◌&&◌, ◌||◌, ◌==◌, List, [], ◌∷◌, ◌++◌, length, map, All, nat_lt, nat_eq, Bool, true, false, not, if◌then◌else◌, Option, Some, None, is_some, IsSome, option_and_then, bytes_eq}
use Rattle.std.specs.List.{list_all, list_any, find, starts_with}
use Rattle.std.specs.Str.{is_utf8}
use Rattle.std.specs.Str.Lossy.{utf8_valid_len}
use Rattle.serde_json.specs.Data.{Data}
use Rattle.serde_json.specs.Find.{get, as_object, as_array}
use Rattle.nav_types.specs.declared.cells.Rect.{Rect}
use Rattle.nav_types.specs.declared.cells.Size.{Size}
use Rattle.class_config.specs.Forms.{is_class_name, keys_of as names_of}
use Rattle.class_config.specs.Classes.{classes_of}
use Rattle.posts.specs.declared.posts.Post.{Post}
use Rattle.script_text.specs.declared.causes.Cause.{Cause}
use Rattle.script_text.specs.declared.causes.Cause.TheVariants.{BlankLine, ByteOrderMark, TooDeep, NotUtf8, UnknownKey, MissingKey, SurplusKey, ArrayLine, NoSuchForm, WrongValue, WrongRectangle, MissingMask, LaterVersion, NotHere, EndsInsideTurn, NoLine}
use Rattle.script_text.specs.declared.causes.keys.Key.{Key}
use Rattle.script_text.specs.declared.causes.keys.Key.TheVariants as key
use Rattle.script_text.specs.declared.causes.keys.Wanted.{Wanted}
use Rattle.script_text.specs.declared.causes.keys.Wanted.TheVariants.{Whole, Caller, Turn, Sides, Classes, Rectangles, ClassName, TwoDecimals, ThreeDecimals, SixDecimals, NumberAndDecimal, Goal}
use Rattle.script_text.specs.declared.table.Form.{Form}
use Rattle.script_text.specs.declared.table.Form.TheVariants as form
use Rattle.script_text.specs.declared.causes.wrong_values.FormField.{FormField}
use Rattle.script_text.specs.declared.parts.Rules.{Rules}
use Rattle.script_text.specs.declared.parts.Part.{Part}
use Rattle.script_text.specs.declared.parts.Part.TheVariants.{BeforeMap, InBase, InTurns}
use Rattle.script_text.specs.Values.{under, whole_in, whole_below, class_name, array_items, point_of, round_of, rectangle_of, size_of}
use Rattle.script_text.specs.Table.{key_text, line_keys, keys_of, stands_in, form_of, wanted_of, widest}
use Rattle.script_text.specs.Forms.{each, entry_of}
use Rattle.script_text.specs.Goals.{grown_of, goal_of, wrong_goal}
use Rattle.script_text.specs.Grammar.{IsEntry}
use Rattle.script_text.specs.Nesting.{is_shallow}
use Rattle.script_text.specs.LargeNumbers.{broken_cause}
use Rattle.input_lines.specs.Lines.{full_lines, tail_of, first_line}
use Rattle.script_text.specs.Script.{Place, Ends, at_place, stuck_by, is_empty, reading_of, accept}

-- ---- what must stand under keys

-- what is wanted stands under the key
abbrev pub is_wanted : Wanted → List ℕ → Data → Bool
is_wanted (Whole least most) key d = is_some (under (whole_in least most) key d)
is_wanted (Caller callers) key d = is_some (under (whole_below callers) key d)
is_wanted (Turn number) key d = is_some (under (whole_in number number) key d)
is_wanted Sides key d = is_some (under size_of key d)
is_wanted Classes key d = is_some (under classes_of key d)
is_wanted (Rectangles size) key d = is_some (option_and_then (each (entry_of size)) (under array_items key d))
is_wanted ClassName key d = is_some (under class_name key d)
is_wanted TwoDecimals key d = is_some (under point_of key d)
is_wanted ThreeDecimals key d = is_some (under round_of key d)
is_wanted SixDecimals key d = is_some (under rectangle_of key d)
is_wanted NumberAndDecimal key d = is_some (under grown_of key d)
is_wanted (Goal version) key d = is_some (under (goal_of version) key d)

-- ---- the forms of lines

-- a key and what must stand under it, in a script of these rules, among the lines of the turn of this number
abbrev pub field_of : Rules → ℕ → Key → FormField
field_of rules turn k = record { key = k; wanted = wanted_of rules turn k }

-- those of a form, in their order
abbrev pub fields_of : Rules → ℕ → Form → List FormField
fields_of rules turn f = map (field_of rules turn) (keys_of rules.version f)

-- the first version in which a form has the keys of the value
abbrev pub first_version : Data → Option ℕ
first_version d = if is_some (form_of 1 d) then Some 1 else (if is_some (form_of 2 d) then Some 2 else (if is_some (form_of 3 d) then Some 3 else None))

-- ---- wrong values

-- the value is no rectangle of the map with its mask
abbrev pub is_no_entry : Size → Data → Bool
is_no_entry size d = not (is_some (entry_of size d))

-- the cause of items behind so many others, of which one is no rectangle: the first of these, by its number from 1
abbrev pub wrong_items : Size → FormField → ℕ → List Data → Cause
wrong_items size f before [] = WrongValue f.key f.wanted
wrong_items size f before (d ∷ items) = if is_no_entry size d then WrongRectangle (before + 1) size else wrong_items size f (before + 1) items

-- the cause of what is no array of rectangles
abbrev pub wrong_array : Size → Option (List Data) → FormField → Cause
wrong_array size None f = WrongValue f.key f.wanted
wrong_array size (Some items) f = wrong_items size f 0 items

abbrev pub wrong_by : FormField → Wanted → Data → Option Data → Cause
wrong_by f (Goal version) d (Some g) = wrong_goal version f g
wrong_by f (Rectangles size) d found = wrong_array size (under array_items (key_text f.key) d) f
wrong_by f wanted d found = WrongValue f.key f.wanted

abbrev pub wrong_value : FormField → Data → Cause
wrong_value f d = wrong_by f f.wanted d (get (key_text f.key) d)

abbrev pub is_right : FormField → Data → Bool
is_right f d = is_wanted f.wanted (key_text f.key) d

-- the cause that the first field gives whose value is not what is wanted
abbrev pub first_wrong : List FormField → Data → Option Cause
first_wrong [] d = None
first_wrong (f ∷ fs) d = if is_right f d then first_wrong fs d else Some (wrong_value f d)

-- the value under a key is not what is wanted there: in the line, or in a value of it
abbrev pub IsWrongIn : Key → Wanted → Data → Type 0
IsWrongIn key wanted d = (is_wanted wanted (key_text key) d ≡ false)
    ⊎ ((outer : List ℕ) × (inner : Data) × (get outer d ≡ Some inner) × (is_wanted wanted (key_text key) inner ≡ false))

-- An array stands under a key of the line. Its item of this number, from 1, is no rectangle of a map of this size with its
-- mask, and each before it is one.
pub record IsWrongRectangle (number : ℕ) (size : Size) (d : Data) : Type 0 where
  pub key : List ℕ
  pub before : List Data
  pub item : Data
  pub after : List Data
  pub items : under array_items key d ≡ Some (before ++ item ∷ after)
  pub numbered : number ≡ length before + 1
  pub right : All (λ entry. IsSome (entry_of size entry)) before
  pub wrong : (entry : Rect × ℕ) → IsEntry size entry item → ⊥

-- ---- keys of no form

-- a key that no form has, of the form of a name
abbrev pub is_unknown : List ℕ → Bool
is_unknown name = is_class_name name && not (list_any (λ k. bytes_eq name (key_text k)) line_keys)

-- the first key of an object, in the order of their bytes, that no form has
unfoldable pub unknown_key : Data → Option (List ℕ)
unknown_key d = option_and_then (λ ms. find is_unknown (names_of ms)) (as_object d)

-- the first of these keys under which nothing stands
abbrev pub first_missing : List Key → Data → Option Key
first_missing [] d = None
first_missing (k ∷ ks) d = if is_some (get (key_text k) d) then first_missing ks d else Some k

-- something stands under a key
abbrev pub has_key : Key → Data → Bool
has_key k d = is_some (get (key_text k) d)

-- the form that a key of the value names, behind the map line
abbrev pub named_form : ℕ → Data → Option Form
named_form version d = if has_key key.Add d then Some (if has_key key.Square d then form.AddSquare else form.AddUnit)
    else (if has_key key.Remove d then Some form.Remove
    else (if stands_in version form.Move && has_key key.Move d then Some form.Move
    else (if has_key key.Path d then Some form.Path
    else (if has_key key.Region d then Some form.Region
    else (if has_key key.Base d then Some form.Base
    else (if has_key key.End d then Some form.End
    else None))))))

-- something stands under one of the keys
abbrev pub has_any : List Key → Data → Bool
has_any [] d = false
has_any (k ∷ ks) d = if has_key k d then true else has_any ks d

-- the same in any part: before the map line each of its keys names it
abbrev pub named_in : Part → Data → Option Form
named_in BeforeMap d = if has_any (keys_of widest.version form.Map) d then Some form.Map else None
named_in (InBase rules) d = named_form rules.version d
named_in (InTurns rules) d = named_form rules.version d

-- the key is there and not among the others
abbrev pub is_surplus : Key → List Key → Data → Bool
is_surplus k keys d = is_some (get (key_text k) d) && not (list_any (λ one. bytes_eq (key_text k) (key_text one)) keys)

-- the first of these keys that is there and not among the others
abbrev pub first_surplus : List Key → List Key → Data → Option Key
first_surplus [] keys d = None
first_surplus (k ∷ ks) keys d = if is_surplus k keys d then Some k else first_surplus ks keys d

abbrev pub unfit_by : Option Key → Option Key → Cause
unfit_by (Some k) surplus = MissingKey k
unfit_by None (Some k) = SurplusKey k
unfit_by None None = NoSuchForm

-- the value is an array
abbrev pub is_array : Data → Bool
is_array d = is_some (as_array d)

-- a line none of whose keys names a form: an array, or another value
abbrev pub nameless_cause : Data → Cause
nameless_cause d = if is_array d then ArrayLine else NoSuchForm

-- a line that does not fit the form that is named: it lacks a key of it, or has one too many
abbrev pub unfit_cause : ℕ → Option Form → Data → Cause
unfit_cause version None d = nameless_cause d
unfit_cause version (Some f) d = unfit_by (first_missing (keys_of version f) d) (first_surplus line_keys (keys_of version f) d)

-- a line with the keys of no form in any version: it has a key that no form has, or does not fit the form that one names
abbrev pub strange_cause : Option (List ℕ) → ℕ → Option Form → Data → Cause
strange_cause (Some name) version named d = UnknownKey name
strange_cause None version named d = unfit_cause version named d

-- ---- lines in their places

-- the version of the script; before the map line, the newest
abbrev pub version_of : Part → ℕ
version_of BeforeMap = widest.version
version_of (InBase rules) = rules.version
version_of (InTurns rules) = rules.version

abbrev pub is_map : Form → Bool
is_map form.Map = true
is_map other = false

abbrev pub is_base : Form → Bool
is_base form.Base = true
is_base other = false

-- a line that has the keys of a form of the script's version: it may not stand here, or a value is wrong
abbrev pub form_cause : Part → ℕ → Data → Form → Option Cause
form_cause BeforeMap turn d f = if is_map f then first_wrong (fields_of widest turn f) d else Some NotHere
form_cause (InBase rules) turn d f = if is_map f then Some NotHere else first_wrong (fields_of rules turn f) d
form_cause (InTurns rules) turn d f = if is_map f || is_base f then Some NotHere else first_wrong (fields_of rules turn f) d

-- a line with the keys of a form that the script's version lacks: only the add line without a mask is lost later on
abbrev pub other_version : ℕ → ℕ → Cause
other_version version first = if nat_lt version first then LaterVersion first else MissingMask

-- a line that has the keys of no form of the script's version
abbrev pub no_form_cause : Part → Option ℕ → Data → Cause
no_form_cause part None d = strange_cause (unknown_key d) (version_of part) (named_in part d) d
no_form_cause BeforeMap (Some first) d = NotHere
no_form_cause part (Some first) d = other_version (version_of part) first

abbrev pub cause_by : Part → ℕ → Data → Option Form → Option Cause
cause_by part turn d (Some f) = form_cause part turn d f
cause_by part turn d None = Some (no_form_cause part (first_version d) d)

-- why a value is no line of the grammar in this part of a script, among the lines of the turn of this number
abbrev pub value_cause : Part → ℕ → Data → Option Cause
value_cause part turn d = cause_by part turn d (form_of (version_of part) d)

-- white space round a value: spaces, tabs, newlines and carriage returns
abbrev pub is_white : ℕ → Bool
is_white byte = byte == 32 || byte == 9 || byte == 10 || byte == 13

-- a line without a byte but white space
abbrev pub is_blank : List ℕ → Bool
is_blank line = list_all is_white line

-- a line that begins with a byte order mark
abbrev pub has_mark : List ℕ → Bool
has_mark line = starts_with nat_eq line (239 ∷ 187 ∷ 191 ∷ [])

-- a line in UTF-8 whose arrays and objects nest too deep
abbrev pub is_too_deep : List ℕ → Bool
is_too_deep line = is_utf8 line && not (is_shallow line)

-- why a line that has no reading has none: of one that is not in UTF-8 the first byte behind its longest front that is
abbrev pub text_cause : List ℕ → Cause
text_cause line = if is_too_deep line then TooDeep else (if is_utf8 line then broken_cause line else NotUtf8 (utf8_valid_len line + 1))

abbrev pub unread_cause : List ℕ → Cause
unread_cause line = if is_blank line then BlankLine else (if has_mark line then ByteOrderMark else text_cause line)

abbrev pub reading_cause : Part → ℕ → List ℕ → Option Data → Option Cause
reading_cause part turn line None = Some (unread_cause line)
reading_cause part turn line (Some d) = value_cause part turn d

-- why a line is not in the grammar there
abbrev pub cause : Part → ℕ → List ℕ → Option Cause
cause part turn line = reading_cause part turn line (reading_of line)

-- why an input may not end in this part, with these posts of the turn that has begun
abbrev pub end_cause : Part → List (List Post) → Option Cause
end_cause BeforeMap posts = Some NoLine
end_cause (InBase rules) posts = None
end_cause (InTurns rules) posts = if list_all is_empty posts then None else Some EndsInsideTurn

-- why the first line of these bytes is not in the grammar at a place; where there is no byte, why an input may not end there
abbrev pub next_cause : Place → List ℕ → Option Cause
next_cause p [] = end_cause p.part p.posts
next_cause p (byte ∷ bytes) = cause p.part (p.turns + 1) (first_line (byte ∷ bytes))

-- the number of the bad line: a line that is held was counted, and the one that is missing was not
abbrev pub bad_number : Place → List ℕ → ℕ
bad_number p [] = p.lines + 1
bad_number p (byte ∷ bytes) = p.lines

-- ---- inputs that stop at a bad line

-- the cause of a line where a walk is stuck at it, and else that of what goes on behind it
abbrev pub cause_from : Ends → Option Cause → (Place → Option Cause) → Option Cause
cause_from (at_place p) why go_on = go_on p
cause_from (stuck_by stop) why go_on = why

-- the same of a line of so many bytes, with its newline where it has one
abbrev pub line_cause : ℕ → List ℕ → Place → (Place → Option Cause) → Option Cause
line_cause size line p go_on = cause_from (accept size line p).ends (cause p.part (p.turns + 1) line) go_on

abbrev pub lines_cause : List (List ℕ) → Place → (Place → Option Cause) → Option Cause
lines_cause [] p go_on = go_on p
lines_cause (line ∷ lines) p go_on = line_cause (length line + 1) line p (λ q. lines_cause lines q go_on)

-- that of the last line, which may end with the input, and of the end behind it
abbrev pub last_cause : List ℕ → Place → Option Cause
last_cause [] p = end_cause p.part p.posts
last_cause (byte ∷ bytes) p = line_cause (length (byte ∷ bytes)) (byte ∷ bytes) p (λ q. end_cause q.part q.posts)

-- why the line is bad at which an input stops, from a place on
abbrev pub stop_cause : List ℕ → Place → Option Cause
stop_cause bytes p = lines_cause (full_lines bytes) p (λ q. last_cause (tail_of bytes) q)
