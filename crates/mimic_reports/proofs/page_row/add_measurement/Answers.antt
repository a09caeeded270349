use Rattle.mimic_reports.proofs.page_row.add_measurement.Goals as goal

pub returns : goal.returns
returns g c = rw (← c.bar_of.ensures) c.add_pieces.ensures
