-- What is printed of two reports (our own).
use Rattle.std.specs.Prelude.{ℕ, ◌+◌, ◌*◌, ◌/◌, ◌%◌, ◌==◌, Bool, true, false, not, if◌then◌else◌, List, [], ◌∷◌, ◌++◌, codes, count_by, decimal, Option, None, Some, unwrap_or}
use Rattle.std.specs.List.{concat, flat_map}
use Rattle.mimic_trial.specs.declared.outcome.Outcome.{Outcome}
use Rattle.mimic_trial.specs.declared.outcome.Outcome.TheVariants as outcome
use Rattle.mimic_trial.specs.Text.{grouped, two_digits}
use Rattle.mimic_printer.specs.Row.{Label}
use Rattle.mimic_compare.specs.Changes.{Change, is_slower}
use Rattle.mimic_compare.specs.Classes.{Compared}
use Rattle.mimic_compare.specs.Fates.{Fate}
use Rattle.mimic_printer.specs.Escapes.{escaped}
use Rattle.mimic_printer.specs.Piece.{bracketed, first_line}
use Rattle.mimic_printer.specs.Report.{nearest_thousandths}
use Rattle.mimic_printer.specs.declared.place.Place.TheVariants.{Line}
use Rattle.mimic_compare.specs.declared.change.Quantity.{Quantity}
use Rattle.mimic_compare.specs.declared.change.Quantity.TheVariants.{Average, Time}
use Rattle.mimic_compare.specs.declared.class.Class.{Class}
use Rattle.mimic_compare.specs.declared.class.Class.TheVariants.{NewFailure, Regressed, Missing, NotRun, New, NotRunBefore, NewlyIgnored, NewlyPassing, AnotherMessage, StillFailing, Unchanged}

-- ---- classes

-- all classes, in the order in which they are printed
abbrev pub classes : List Class
classes = NewFailure ∷ Regressed ∷ Missing ∷ NotRun ∷ New ∷ NotRunBefore ∷ NewlyIgnored ∷ NewlyPassing ∷ AnotherMessage ∷ StillFailing
    ∷ Unchanged ∷ []

-- the kinds and names of the class have lines; those that were not run have them if it is asked
abbrev pub is_listed : Bool → Class → Bool
is_listed missing NotRun = missing
is_listed missing NotRunBefore = missing
is_listed missing StillFailing = false
is_listed missing Unchanged = false
is_listed missing other = true

abbrev pub word : Class → List ℕ
word NewFailure = codes "new failure"
word Regressed = codes "regressed"
word Missing = codes "missing"
word NotRun = codes "not run"
word New = codes "new"
word NotRunBefore = codes "not run before"
word NewlyIgnored = codes "newly ignored"
word NewlyPassing = codes "newly passing"
word AnotherMessage = codes "another message"
word StillFailing = codes "still failing"
word Unchanged = codes "unchanged"

abbrev pub place_of : Class → ℕ
place_of NewFailure = 0
place_of Regressed = 1
place_of Missing = 2
place_of NotRun = 3
place_of New = 4
place_of NotRunBefore = 5
place_of NewlyIgnored = 6
place_of NewlyPassing = 7
place_of AnotherMessage = 8
place_of StillFailing = 9
place_of Unchanged = 10

abbrev pub same_class : Class → Class → Bool
same_class a b = place_of a == place_of b

-- how many kinds and names are of this class
abbrev pub count_of : Class → List Compared → ℕ
count_of class found = count_by (λ c. same_class c.class class) found

-- ---- messages

-- the message of this row if it failed, else that of the first failure behind it
abbrev pub message_or : List ℕ → Outcome → List ℕ
message_or rest (outcome.Failed message) = unwrap_or message []
message_or rest other = rest

-- the message of the first failure, empty if there is none
abbrev pub first_message : List Fate → List ℕ
first_message [] = []
first_message (fate ∷ fates) = message_or (first_message fates) fate.outcome

-- the message whose first line is printed behind a name: for some classes that of the first failure in the new report
abbrev pub shown_message : Class → List Fate → List ℕ
shown_message NewFailure new = first_message new
shown_message Regressed new = first_message new
shown_message AnotherMessage new = first_message new
shown_message other new = []

-- what comes before the line of a message: nothing before an empty one
abbrev pub colon_before : List ℕ → List ℕ
colon_before [] = []
colon_before (b ∷ bs) = codes ": "

-- ---- lines

-- the line of a kind and a name, with the first line of a message
unfoldable pub line_text : Class → Label → List ℕ → List ℕ
line_text class label line = concat (word class ∷ codes ": " ∷ bracketed Line label.kind ∷ escaped Line label.name
    ∷ colon_before line ∷ escaped Line line ∷ codes "\n" ∷ [])

-- its line, if they are of this class
abbrev pub line_in : Class → Compared → List ℕ
line_in class c = if same_class c.class class then line_text class c.label (first_line (shown_message class c.new)) else []

-- the lines of this class, if it is listed
abbrev pub listed_lines : Bool → List Compared → Class → List ℕ
listed_lines missing found class = if is_listed missing class then flat_map (line_in class) found else []

-- ---- changes

-- the time in seconds, to the nearest thousandth
abbrev pub rounded_seconds : ℕ → List ℕ
rounded_seconds nanos = let all = nearest_thousandths nanos in
    decimal (all / 1000) ++ (codes "." ++ (decimal (all / 100 % 10) ++ two_digits (all % 100)))

-- the number with its unit, without the unit's second part
abbrev pub amount : Quantity → ℕ → List ℕ
amount Average n = grouped (decimal n)
amount Time n = rounded_seconds n ++ codes "s"

-- the unit's second part
abbrev pub unit_part : Quantity → List ℕ
unit_part Average = codes " ns/iter"
unit_part Time = []

-- the new number divided by the old one, in hundredths, rounded to the nearest; a tie is rounded up
abbrev pub ratio_of : ℕ → ℕ → Option ℕ
ratio_of old new = if old == 0 then None else Some ((200 * new + old) / (2 * old))

-- the ratio with two decimals, or `-` if there is none, and the end of the line
abbrev pub ratio_part : Option ℕ → List (List ℕ)
ratio_part None = codes "-)\n" ∷ []
ratio_part (Some n) = decimal (n / 100) ∷ codes "." ∷ decimal (n / 10 % 10) ∷ decimal (n % 10) ∷ codes ")\n" ∷ []

-- the line up to the numbers
unfoldable pub change_name : Change → List ℕ
change_name c = concat ((if is_slower c then codes "slower: " else codes "faster: ")
    ∷ bracketed Line c.label.kind ∷ escaped Line c.label.name ∷ codes ": " ∷ [])

-- the line: its name, then both numbers and their ratio
abbrev pub change_text : Change → List ℕ
change_text c = change_name c ++ (amount c.quantity c.old ++ (codes " -> " ++ (amount c.quantity c.new
    ++ ((unit_part c.quantity ++ codes " (") ++ concat (ratio_part (ratio_of c.old c.new))))))

-- ---- the whole

-- how many kinds and names are of a class
unfoldable pub number_text : List Compared → Class → List ℕ
number_text found class = concat (decimal (count_of class found) ∷ codes " " ∷ word class ∷ codes "; " ∷ [])

-- how many are slower and how many faster
unfoldable pub speeds_text : List Change → List ℕ
speeds_text changes = concat (decimal (count_by is_slower changes) ∷ codes " slower; "
    ∷ decimal (count_by (λ c. not (is_slower c)) changes) ∷ codes " faster\n" ∷ [])

-- the numbers of all classes and of the changes, in one line
abbrev pub numbers_text : List Compared → List Change → List ℕ
numbers_text found ranked = flat_map (number_text found) classes ++ speeds_text ranked

-- first the lines of each class that is listed, then the changes, and last the numbers
abbrev pub comparison_text : Bool → List Compared → List Change → List ℕ
comparison_text missing found ranked =
    flat_map (listed_lines missing found) classes ++ (flat_map change_text ranked ++ numbers_text found ranked)
