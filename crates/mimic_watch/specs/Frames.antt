-- What is drawn below the rows, or in a line of its own: how far the run is.
use Rattle.std.specs.Prelude.{◌≡◌, ℕ, Bool, false, ◌+◌, ◌-◌, ◌/◌, ◌%◌, ◌≤◌, ◌==◌, ◌||◌, max, min, nat_lt, if◌then◌else◌, List, [], ◌∷◌, ◌++◌, length, take, drop, chars, codes, decimal, encode_utf8, Option, Some, None}
use Rattle.std.specs.List.{All, filter_map, flat_map, list_any}
use Rattle.unicode_width.specs.Width.{char_width}
use Rattle.mimic_trial.specs.Text.{kind_part, two_digits}
use Rattle.mimic_printer.specs.Row.{Label}
use Rattle.mimic_printer.specs.Places.{is_control}
use Rattle.mimic_printer.specs.Escapes.{escaped}
use Rattle.mimic_printer.specs.declared.place.Place.TheVariants.{Terminal}
use Rattle.mimic_watch.specs.declared.frame.TheConstants.{SHAPES}
use Rattle.mimic_watch.specs.declared.frame.View.{View}

-- a bar of six cells, of which `cells` are filled
abbrev pub bar : ℕ → List ℕ
bar cells = codes "[" ++ (take (min cells 6) (codes "======") ++ (drop (min cells 6) (codes "      ") ++ codes "] "))

-- the part, if a line has it
abbrev pub part_if : Bool → List ℕ → List ℕ
part_if has part = if has then part else []

-- a colon, and a number below 60 in two digits
abbrev pub sixtieth_text : ℕ → List ℕ
sixtieth_text number = codes ":" ++ two_digits number

-- a time as people say it: `42s`, `5:42`, `1:02:10`
abbrev pub time_text : ℕ → List ℕ
time_text seconds =
    if nat_lt seconds 60 then decimal seconds ++ codes "s"
    else (if nat_lt seconds 3600 then decimal (seconds / 60) ++ sixtieth_text (seconds % 60)
    else decimal (seconds / 3600) ++ (sixtieth_text (seconds / 60 % 60) ++ sixtieth_text (seconds % 60)))

abbrev pub announced_part : Option ℕ → List ℕ
announced_part None = []
announced_part (Some announced) = codes "/" ++ decimal announced

abbrev pub failed_part : ℕ → List ℕ
failed_part failed = if failed == 0 then [] else codes " " ++ (decimal failed ++ codes " failed")

-- a time, if it is known, and what follows it
abbrev pub span : Option ℕ → List ℕ → List ℕ
span None after = []
span (Some seconds) after = codes " " ++ (time_text seconds ++ after)

-- whether a line has a bar, the time that has passed, and the time that is left
abbrev pub Shape : Type 0
Shape = Bool × Bool × Bool

-- a line of this shape: a bar, how many rows have ended of how many, how many failed, the time that has passed and the time that is
-- left
unfoldable pub shaped : View → Shape → List ℕ
shaped v s = part_if s.0 (bar v.cells) ++ (decimal v.ended ++ (announced_part v.announced ++ (failed_part v.failed
    ++ (part_if s.1 (span (Some v.elapsed) []) ++ part_if s.2 (span v.left (codes " left"))))))

-- the line of the first of these shapes that fits into the columns, and an empty one if none does
unfoldable pub first_fitting : ℕ → View → List Shape → List ℕ
first_fitting columns v [] = []
first_fitting columns v (s ∷ shapes) = if nat_lt columns (length (shaped v s)) then first_fitting columns v shapes else shaped v s

-- the first line: all parts, or without the time that has passed, the bar, both, and at last without the time that is left
abbrev pub first_line : ℕ → View → List ℕ
first_line columns v = first_fitting columns v SHAPES

-- a byte of a text in UTF-8, with a question mark for each character that is no printable one of ASCII: how wide others are isn't
-- known. Bytes from 128 to 191 are no character's first.
abbrev pub plain_byte : ℕ → Option ℕ
plain_byte b = if nat_lt b 128 then Some (if nat_lt b 32 || nat_lt 126 b then 63 else b)
    else (if nat_lt b 192 then None else Some 63)

abbrev pub plain_text : List ℕ → List ℕ
plain_text text = filter_map plain_byte text

-- a line's front: as much of a text of ASCII as fits into the columns
abbrev pub front_text : ℕ → List ℕ → List ℕ
front_text columns text = take columns (plain_text text)

-- a character as a terminal gets it: a control character by its number
abbrev pub mark : ℕ → List ℕ
mark c = escaped Terminal (encode_utf8 c)

abbrev pub marks : List ℕ → List ℕ
marks cs = flat_map mark cs

-- how many columns a character of this width has at most: one at least, and six if it has no width, so that its number is shown
abbrev pub columns_by : Option ℕ → ℕ
columns_by None = 6
columns_by (Some width) = max width 1

abbrev pub mark_columns : ℕ → ℕ
mark_columns c = columns_by (char_width false c)

abbrev pub columns_of : List ℕ → ℕ
columns_of [] = 0
columns_of (c ∷ cs) = mark_columns c + columns_of cs

-- the characters, from the first one on, that fit into the columns
abbrev pub fitting : ℕ → List ℕ → List ℕ
fitting columns [] = []
fitting columns (c ∷ cs) = if nat_lt columns (mark_columns c) then [] else c ∷ fitting (columns - mark_columns c) cs

-- two points, or as many as fit
abbrev pub points : ℕ → List ℕ
points columns = take (min columns 2) (codes "..")

-- the characters, or, if they are too wide, as many as leave room for two points, and these
unfoldable pub cut : ℕ → List ℕ → List ℕ
cut columns cs = if nat_lt columns (columns_of cs) then marks (fitting (columns - 2) cs) ++ points columns else marks cs

-- the trial's kind in brackets, if it has one, and its name
abbrev pub label_chars : Label → List ℕ
label_chars label = chars (kind_part label.kind ++ label.name)

-- what a line says before the trial's name
abbrev pub waiting_front : ℕ → ℕ → List ℕ
waiting_front columns quiet = front_text columns (codes "waiting " ++ (time_text quiet ++ codes " for "))

-- for how long no row has ended, and which trial runs, if that is known, cut to the columns
abbrev pub waiting_line : ℕ → Option Label → ℕ → List ℕ
waiting_line columns None quiet = front_text columns (codes "nothing ended for " ++ time_text quiet)
waiting_line columns (Some label) quiet = waiting_front columns quiet
    ++ cut (columns - length (waiting_front columns quiet)) (label_chars label)

-- the second line: nothing in the first two seconds
unfoldable pub second_line : ℕ → Option Label → ℕ → List ℕ
second_line columns running quiet = if nat_lt quiet 2 then [] else waiting_line columns running quiet

-- a text with this before it, and nothing for an empty text
abbrev pub headed : List ℕ → List ℕ → List ℕ
headed head [] = []
headed head (b ∷ text) = head ++ (b ∷ text)

-- a log's line: the first line and the second, if it isn't empty, in one
unfoldable pub log_line : List ℕ → List ℕ → List ℕ
log_line first second = first ++ (headed (codes "; ") second ++ codes "\n")

-- the line has no more than these columns: printable characters of ASCII, marks, and points
pub record FitsLine (columns : ℕ) (line : List ℕ) : Type 0 where
  pub front : List ℕ
  pub characters : List ℕ
  pub points : List ℕ
  pub parts : line ≡ front ++ (marks characters ++ points)
  pub short : length front + (columns_of characters + length points) ≤ columns
  pub printable : All (λ b. (32 ≤ b) × (b ≤ 126)) front
  pub no_control : list_any is_control (marks characters) ≡ false
  pub are_points : All (λ b. b ≡ 46) points

-- two lines with the cursor at the start of the first: line wrap is off while they are written, and what was after the first and
-- below is erased, but never from the first column on
unfoldable pub frame : List ℕ → List ℕ → List ℕ
frame first second = codes "\u{1b}[?7l\r" ++ (first ++ (codes "\u{1b}[J\n" ++ (second ++ codes "\u{1b}[1A\r\u{1b}[?7h")))

-- both lines are erased, with the cursor at the start of the first
abbrev pub erase : List ℕ
erase = codes "\r \u{1b}[J\r\u{1b}[K"

-- ---- laws

-- the law of first lines: none is wider than its columns
abbrev pub FirstLinesFit : Type 0
FirstLinesFit = (columns : ℕ) (v : View) → length (first_line columns v) ≤ columns

-- the law of second lines: none is wider than its columns, or has a control character of ASCII
abbrev pub SecondLinesFit : Type 0
SecondLinesFit = (columns : ℕ) (running : Option Label) (quiet : ℕ) → FitsLine columns (second_line columns running quiet)
