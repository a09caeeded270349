use Rattle.std.proofs.Common.{◌∙◌, ap, append_assoc, sym}
use Rattle.std.specs.Option.{option_copied}
use Rattle.mimic_reports.specs.Junit.{case_text}
use Rattle.mimic_reports.proofs.junit_elements.add_case.Goals as goal

pub returns-in-Passed : goal.returns-in-Passed
unfolding case_text
returns-in-Passed g c =
    rw (c.in-Passed.is, ← c.as_str-kind.ensures.value, ← c.as_str.ensures.value, ← c.point.ensures, ← c.time_pieces.ensures, append_assoc, append_assoc, append_assoc, append_assoc) c.add_pieces.ensures

pub returns-in-Ignored : goal.returns-in-Ignored
unfolding case_text
returns-in-Ignored g c =
    rw (c.in-Ignored.is, ← c.as_str-kind-in-Ignored.ensures.value, ← c.as_str-in-Ignored.ensures.value, ← c.point-in-Ignored.ensures, ← c.time_pieces-in-Ignored.ensures, append_assoc, append_assoc, append_assoc, append_assoc)
    c.add_pieces-in-Ignored.ensures

pub returns-in-None : goal.returns-in-None
unfolding case_text
returns-in-None g c =
    let none = sym c.message.ensures ∙ ap option_copied c.in-None.is in
    rw (c.in-Failed.is, none, ← c.as_str-kind-in-None.ensures.value, ← c.as_str-in-None.ensures.value, ← c.point-in-None.ensures, ← c.time_pieces-in-None.ensures, append_assoc, append_assoc, append_assoc, append_assoc)
    c.add_pieces-in-None.ensures

pub returns-in-Some : goal.returns-in-Some
unfolding case_text
returns-in-Some g c =
    let some = sym c.message.ensures ∙ ap option_copied c.in-Some.is in
    rw (c.in-Failed.is, some, ← c.as_str-kind-in-Some.ensures.value, ← c.as_str-in-Some.ensures.value, ← c.point-in-Some.ensures, ← c.time_pieces-in-Some.ensures, append_assoc, append_assoc, append_assoc, append_assoc)
    c.add_pieces-in-Some.ensures

pub returns-in-Measured : goal.returns-in-Measured
unfolding case_text
returns-in-Measured g c =
    rw (c.in-Measured.is, ← c.as_str-kind-in-Measured.ensures.value, ← c.as_str-in-Measured.ensures.value, ← c.point-in-Measured.ensures, ← c.time_pieces-in-Measured.ensures, append_assoc, append_assoc, append_assoc, append_assoc)
    c.add_pieces-in-Measured.ensures
