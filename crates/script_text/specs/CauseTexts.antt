-- What a cause says.
use Rattle.std.specs.Prelude.{ℕ, List, ◌++◌, codes, decimal}
use Rattle.script_text.specs.declared.causes.Cause.{Cause}
use Rattle.script_text.specs.declared.causes.Cause.TheVariants.{BlankLine, ByteOrderMark, TooDeep, NotUtf8, NoJsonAt, EndsInString, EndsInValue, NumberTooLarge, NotJson, UnknownKey, MissingKey, SurplusKey, ArrayLine, NoSuchForm, WrongValue, WrongRectangle, MissingMask, LaterVersion, NotHere, EndsInsideTurn, NoLine}
use Rattle.script_text.specs.declared.causes.mistakes.Mistake.{Mistake}
use Rattle.script_text.specs.declared.causes.mistakes.Mistake.TheVariants.{Comment, SingleQuote, NoNumber, NumberStart, LeadingZero, WrongNumber, BareWord, Control, Escape, HexDigit, HalfPair, TrailingComma, WrongBracket, MissingComma, NoKey, NumberAsKey, NoColon, StrayColon, NoValue, BehindValue}
use Rattle.script_text.specs.declared.causes.keys.Wanted.{Wanted}
use Rattle.script_text.specs.declared.causes.keys.Wanted.TheVariants.{Whole, Caller, Turn, Sides, Classes, Rectangles, ClassName, TwoDecimals, ThreeDecimals, SixDecimals, NumberAndDecimal, Goal}
use Rattle.script_text.specs.Table.{key_text}
use Rattle.script_text.specs.Goals.{goal_keys_text}

-- what must stand under a key
abbrev pub wanted_text : Wanted → List ℕ
wanted_text (Whole least most) = codes "a whole number from " ++ decimal least ++ codes " to " ++ decimal most
wanted_text (Caller callers) = codes "the number of a caller, which is a whole number below " ++ decimal callers
wanted_text (Turn number) = codes "the number of this turn, " ++ decimal number
wanted_text Sides = codes "an array of two whole numbers from 1 to 2048"
wanted_text Classes = codes "an array of 1 to 16 objects with the keys \"name\" and \"clearance\", each name once, of 1 to 64 ASCII letters, digits, - or _, and each clearance a decimal in quotes from 0 to 64"
wanted_text (Rectangles size) = codes "an array of arrays [i0,j0,i1,j1,mask] with i0 <= i1, j0 <= j1 and mask <= 65535, on a map of "
    ++ decimal size.w ++ codes " by " ++ decimal size.h
wanted_text ClassName = codes "a string of 1 to 64 ASCII letters, digits, - or _"
wanted_text TwoDecimals = codes "an array of two decimals in quotes with at most 16 places, from -32768 to below 32768"
wanted_text ThreeDecimals = codes "an array of three decimals in quotes with at most 16 places, from -32768 to below 32768"
wanted_text SixDecimals = codes "an array of six decimals in quotes with at most 16 places, from -32768 to below 32768"
wanted_text NumberAndDecimal = codes "an array of an obstruction number from 0 to 4294967295 and a decimal in quotes"
wanted_text (Goal version) = codes "an object with exactly one key: " ++ goal_keys_text

-- what is wrong with a byte
abbrev pub mistake_text : Mistake → List ℕ
mistake_text Comment = codes "JSON has no comments"
mistake_text SingleQuote = codes "JSON has strings in double quotes only"
mistake_text NoNumber = codes "JSON has no NaN, no Infinity and no None"
mistake_text NumberStart = codes "a number must begin with a digit or a minus sign"
mistake_text LeadingZero = codes "a number must not have a zero before its other digits"
mistake_text WrongNumber = codes "a number must be written as 0, -1.5 or 2e3"
mistake_text BareWord = codes "only true, false, null and numbers stand without quotes"
mistake_text Control = codes "a control character must be written as \\u and four digits, in a string"
mistake_text Escape = codes "a backslash in a string must stand before one of \" \\ / b f n r t u"
mistake_text HexDigit = codes "four hexadecimal digits must stand behind \\u"
mistake_text HalfPair = codes "a half of a surrogate pair must stand with its other half, as in \\ud83d\\ude00"
mistake_text TrailingComma = codes "no comma may stand before a closing bracket"
mistake_text WrongBracket = codes "a bracket or brace must close what was opened last: ] a [, and } a {"
mistake_text NoKey = codes "a key in double quotes must stand here"
mistake_text NumberAsKey = codes "a key in double quotes must stand here, and a number must have no commas"
mistake_text NoColon = codes "a colon and a value must stand behind a key"
mistake_text MissingComma = codes "a comma or a colon is missing before this"
mistake_text StrayColon = codes "a colon must stand behind a key in double quotes"
mistake_text NoValue = codes "a value must stand here"
mistake_text BehindValue = codes "a line has one value, and this stands behind it"

-- what is to change in a line
abbrev pub cause_text : Cause → List ℕ
cause_text BlankLine = codes "the line must be one JSON value, and is blank"
cause_text ByteOrderMark = codes "the line must be one JSON value, and begins with a byte order mark"
cause_text TooDeep = codes "the line must not have arrays and objects more than 8 deep"
cause_text (NotUtf8 place) = codes "byte " ++ decimal place ++ codes ": the line must be in UTF-8"
cause_text (NoJsonAt place mistake) = codes "byte " ++ decimal place ++ codes ": " ++ mistake_text mistake
cause_text EndsInString = codes "the line must be one JSON value, and ends inside a string"
cause_text EndsInValue = codes "the line must be one JSON value, and ends inside an array or an object"
cause_text (NumberTooLarge place) = codes "byte " ++ decimal place ++ codes ": a number must be within those of 64-bit floats, about 1.8e308"
cause_text NotJson = codes "the line must be one JSON value, with no words but true, false and null, and numbers as 0, -1.5 or 2e3"
cause_text (UnknownKey name) = codes "the line must have the keys of one form, and no form has the key \"" ++ name ++ codes "\""
cause_text (MissingKey key) = codes "the line must have the key \"" ++ key_text key ++ codes "\" too"
cause_text (SurplusKey key) = codes "the line must not have the key \"" ++ key_text key ++ codes "\" beside its others"
cause_text ArrayLine = codes "the line must be an object, and is an array: each object of a script must have a line of its own"
cause_text NoSuchForm = codes "the line must be an object with exactly the keys of one form"
cause_text (WrongValue key wanted) = codes "the key \"" ++ key_text key ++ codes "\" must have " ++ wanted_text wanted
cause_text (WrongRectangle number size) = codes "the key \"base\" must have " ++ wanted_text (Rectangles size) ++ codes "; array " ++ decimal number ++ codes " is wrong"
cause_text MissingMask = codes "an add line must have the key \"mask\" from version 2 on"
cause_text (LaterVersion version) = codes "the map line must name version " ++ decimal version ++ codes " or later for this"
cause_text NotHere = codes "the map line must be line 1 alone, and base lines must stand between it and the turns"
cause_text EndsInsideTurn = codes "the script must not end inside a turn: its end line is missing"
cause_text NoLine = codes "the script must begin with a map line, and has no line"
