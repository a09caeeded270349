use Rattle.std.proofs.Common.{◌<◌, ◌^◌, arith, length, take}
use Rattle.std.specs.Option.{option_copied}
use Rattle.mimic_trial.specs.declared.outcome.Outcome.TheVariants as outcome
use Rattle.mimic_compare.proofs.Counting.{frequency_kept, frequency_more, frequency_small}
use Rattle.mimic_compare.proofs.messages.message_counts.Goals as goal
use Rattle.mimic_compare.proofs.messages.message_counts.Goals.{in-Some+in_ok-insert, in_default}

pub overflow_add-before : goal.overflow_add-before
overflow_add-before g c =
    let small : length c.args.fates.now < 2 ^ 64 = omega arith in
    let is = c.count_of_message-before.ensures (take c.loop-fate.fate-index c.args.fates.now) c.loop-fate.invariant in
    let few = frequency_small c.args.fates.now c.loop-fate.fate-index (outcome.Failed (option_copied c.message.result)) c.count_of_message-before.result c.loop-fate-test.true small is in
    omega (arith, few)

pub loop-fate-preserved : goal.loop-fate-preserved
loop-fate-preserved g c = elim c.match-failed.branch [
  | in-Some+in_ok-insert w ↦
      rw w.counted-is
      (frequency_more c.args.fates.now c.loop-fate.fate-index c.fate-item.result c.loop-fate-test.true c.fate-item.is c.loop-fate.counted c.loop-fate.invariant w.insert.new.self
      w.message.result w.message-in-Some.result w.in-Some.failed.now w.count_of_message-before.result
      w.in-Some.ensures w.message-in-Some.ensures w.in_ok-insert.ensures.updates.0 w.message.ensures
      (w.count_of_message-before.ensures (take c.loop-fate.fate-index c.args.fates.now) c.loop-fate.invariant))
  | in_default w ↦
      rw w.counted-is
      (frequency_kept c.args.fates.now c.loop-fate.fate-index c.fate-item.result c.loop-fate-test.true c.fate-item.is c.loop-fate.counted c.loop-fate.invariant w.in_default.ensures)
]
