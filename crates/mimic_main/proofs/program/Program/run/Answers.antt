use Rattle.libtest_mimic.specs.Prelude.{asking}
use Rattle.mimic_main.specs.Ended.{number_of}
use Rattle.mimic_main.proofs.Parts.{ends_whole}
use Rattle.mimic_main.proofs.program.Program.run.Goals as goal

pub returns : goal.returns
returns g c =
    let ask = asking g.R.Task.gives c.args.self.now.threads c.args.self.now.auto_colours in
    let made = rw c.none.ensures at c.run_line.ensures.made in
    (c.from_args-line.result, c.from_args-line.ensures, ends_whole ask c.args.tests.items c.from_args-line.result (number_of c.run_line.result) made)
