-- How wide the columns of a pretty report are, in characters (the Rust crate's `Printer::new`).
use Rattle.std.specs.Prelude.{ℕ, max, List, [], ◌∷◌, map, length}
use Rattle.std.specs.Str.{chars}
use Rattle.mimic_trial.specs.Text.{kind_part}
use Rattle.mimic_printer.specs.Row.{Label}

-- the greatest of the numbers, and 0 for none
abbrev pub widest : List ℕ → ℕ
widest [] = 0
widest (n ∷ ns) = max n (widest ns)

-- how many characters the name has
abbrev pub name_chars : Label → ℕ
name_chars label = length (chars label.name)

-- how many characters the kind has with its brackets and the space, and 0 for an empty kind
abbrev pub kind_chars : Label → ℕ
kind_chars label = length (chars (kind_part label.kind))

abbrev pub name_width_of : List Label → ℕ
name_width_of labels = widest (map name_chars labels)

abbrev pub kind_width_of : List Label → ℕ
kind_width_of labels = widest (map kind_chars labels)
