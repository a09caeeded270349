-- When a buffered output is written out.
use Rattle.std.specs.Prelude.{◌&&◌, ℕ, Bool, true, false, if◌then◌else◌, nat_lt}
use Rattle.libtest_mimic.specs.Prelude.{Arguments, format_of, FormatSetting}
use Rattle.mimic_trial.specs.declared.formats.FormatSetting.TheVariants.{Pretty, Terse, Json}
use Rattle.mimic_main.specs.declared.policy.FlushPolicy.{FlushPolicy}
use Rattle.mimic_main.specs.declared.policy.FlushPolicy.TheVariants.{Always, OnFlush, OnLineEnd, OnEvenLineEnd, WhenFull}

-- whether a text goes out at once by this policy, by whether it ends a line, and whether an odd number of texts that end one came
-- before it (our own)
abbrev pub goes_out_by : FlushPolicy → Bool → Bool → Bool
goes_out_by Always ends odd = true
goes_out_by OnFlush ends odd = false
goes_out_by OnLineEnd ends odd = ends
goes_out_by OnEvenLineEnd ends odd = ends && odd
goes_out_by WhenFull ends odd = false

-- by this policy what waits goes out at a flush (our own)
abbrev pub acts_on_flush : FlushPolicy → Bool
acts_on_flush Always = false
acts_on_flush OnFlush = true
acts_on_flush OnLineEnd = false
acts_on_flush OnEvenLineEnd = false
acts_on_flush WhenFull = false

-- the policy for a report in this format, by more than one thread or not, to a terminal or not
abbrev pub policy_of : FormatSetting → Bool → Bool → FlushPolicy
policy_of Pretty in_workers on_terminal = if in_workers then OnLineEnd else OnFlush
policy_of Terse in_workers on_terminal = if on_terminal then Always else OnLineEnd
policy_of Json in_workers on_terminal = if in_workers then OnLineEnd else OnEvenLineEnd

-- when the output of a run with these arguments on this number of threads is written out, to a terminal or not (our own). With one
-- thread a pretty report goes out at each flush, and JSON at the end of each second line: both come before a trial runs. With more
-- threads both go out at each text that ends a line, as only the last of a row does. Terse goes out at the end of a line, and on a
-- terminal at each mark. A list goes out when there is no room.
abbrev pub policy_for : Arguments → ℕ → Bool → FlushPolicy
policy_for args threads on_terminal = if args.list then WhenFull else policy_of (format_of args)
    (nat_lt 1 threads) on_terminal
