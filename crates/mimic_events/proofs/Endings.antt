-- How reports end.
use Rattle.std.proofs.Common.{◌≡◌, inl, inr, ℕ, ◌<◌, ◌^◌, List, [], ◌++◌, Some, None, length, sym, ap, subst, ◌∙◌, append_assoc, append-nil}
use Rattle.std.specs.List.{concat}
use Rattle.std.specs.Prelude.{option_map}
use Rattle.mimic_printer.specs.Json.{Contents, Entry}
use Rattle.mimic_events.specs.Contents.{Spells, label_read}
use Rattle.mimic_events.specs.Feed.{AreEnded}
use Rattle.mimic_events.specs.Readers.{SumsUp}
use Rattle.mimic_events.specs.Reading.{Decodes}
use Rattle.mimic_events.specs.SoFar.{BeginsWithTitle, IsFirstWrong, ShowsRunning}
use Rattle.mimic_events.specs.declared.report.Totals.{Totals}
use Rattle.mimic_events.specs.declared.ending.Ending.TheVariants.{Whole, Cut}
use Rattle.mimic_events.specs.declared.ending.Stop.{Stop}
use Rattle.mimic_events.specs.Readings.{EndsAs}

-- no line of a report is wrong
none_wrong : (bytes : List ℕ) (c : Contents) → Spells c bytes → length c.entries < 2 ^ 64 → (number : ℕ) → IsFirstWrong number bytes → ⊥
none_wrong bytes c spelled few number w = w.wrong (record {
  contents = c;
  rest = w.rest;
  few = few;
  spelled = subst (Spells c) (w.parts ∙ sym (append_assoc (concat w.lines) w.line w.rest)) spelled;
})

-- a whole report was followed
pub whole_read : (bytes : List ℕ) (entries : List Entry) (totals : Totals) → SumsUp bytes entries (Some totals) → totals.rows < 2 ^ 64
    → EndsAs bytes entries (Whole totals.counts.num_filtered_out totals.nanos)
whole_read bytes entries totals sums fits None now gone over = tt
whole_read bytes entries totals sums fits (Some all) None gone over = absurd gone
whole_read bytes entries totals sums fits (Some all) (Some rest) gone over =
    let few : length entries < 2 ^ 64 = subst (λ (n : ℕ). n < 2 ^ 64) (ap (λ (t : Totals). t.rows) sums.1) fits in
    let none : rest ≡ [] = elim over [
      | inl end ↦ end
      | inr w ↦ absurd (none_wrong bytes _ sums.0.0 few w.0 w.1)
    ] in
    subst (Spells _) (sym (gone ∙ ap (λ (l : List ℕ). bytes ++ l) none ∙ append-nil bytes)) sums.0.0

-- a report without its end was followed
pub stop_read : (bytes : List ℕ) (entries : List Entry) (stop : Stop) → AreEnded bytes entries → Decodes BeginsWithTitle bytes stop.announced
    → Decodes ShowsRunning bytes (option_map label_read stop.running) → Decodes IsFirstWrong bytes stop.wrong_line → SumsUp bytes entries None
    → EndsAs bytes entries (Cut stop)
stop_read bytes entries stop ended title running wrong none None now gone over = tt
stop_read bytes entries stop ended title running wrong none (Some all) None gone over = absurd gone
stop_read bytes entries stop ended title running wrong none (Some all) (Some rest) gone over = record {
  front = bytes;
  rest = rest;
  parts = gone;
  all = λ right. elim over [
    | inl end ↦ end
    | inr w ↦ absurd (subst (Decodes IsFirstWrong bytes) right wrong w.0 w.1)
  ];
  none = none;
  ended = ended;
  announced = title;
  running = running;
  wrong = wrong;
}
