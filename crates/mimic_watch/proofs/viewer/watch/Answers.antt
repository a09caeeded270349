use Rattle.mimic_watch.proofs.Drawing.{first_lines_fit}
use Rattle.mimic_watch.proofs.Plain.{second_lines_fit}
use Rattle.mimic_watch.proofs.viewer.watch.Goals as goal

pub returns-clause-watched : goal.returns-clause-watched
returns-clause-watched g c = rw c.new-viewer.ensures.screen at c.run.ensures

pub returns-clause-first : goal.returns-clause-first
returns-clause-first g c = first_lines_fit

pub returns-clause-second : goal.returns-clause-second
returns-clause-second g c = second_lines_fit
