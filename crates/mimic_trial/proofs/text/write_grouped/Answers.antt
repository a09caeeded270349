use Rattle.std.proofs.Common.{refl}
use Rattle.mimic_trial.proofs.Grouping.{room_for}
use Rattle.mimic_trial.proofs.text.write_grouped.Goals as goal

pub loop-i-init : goal.loop-i-init
loop-i-init c = record { written = refl; room = room_for c.args.digits.now c.requires }
