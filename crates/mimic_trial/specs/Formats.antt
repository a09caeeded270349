-- The formats of a report and their names.
use Rattle.std.specs.Prelude.{List, [], ◌∷◌, ℕ, Option, codes, find}
use Rattle.std.specs.Str.{bytes_eq}
use Rattle.mimic_trial.specs.declared.formats.FormatSetting.{FormatSetting}
use Rattle.mimic_trial.specs.declared.formats.FormatSetting.TheVariants.{Pretty, Terse, Json}

-- the first of these values whose name the text is
abbrev pub named : {A : Type 0} → (A → List ℕ) → List A → List ℕ → Option A
named name values t = find (λ a. bytes_eq t (name a)) values

-- all formats
abbrev pub formats : List FormatSetting
formats = Pretty ∷ Terse ∷ Json ∷ []

-- their names (the Rust crate's)
abbrev pub format_name : FormatSetting → List ℕ
format_name Pretty = codes "pretty"
format_name Terse = codes "terse"
format_name Json = codes "json"
