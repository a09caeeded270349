use Rattle.std.proofs.lemmas.Result.{IfOk-weaker}
use Rattle.mimic_args.proofs.Declaring.{adds-more, adds-one}
use Rattle.mimic_args.proofs.options.add_valued.Goals as goal

pub returns : goal.returns
returns c =
    let unstable = c.unstable.ensures.declared in
    let colour = c.colour.ensures.declared in
    let format = c.format.ensures.declared in
    let before = adds-more (adds-one c.unstable.result c.in_ok-add.ensures unstable.2 c.unstable.ensures.local)
    (adds-more (adds-one c.test_threads.result c.in_ok-add-2.ensures c.test_threads.ensures.declared c.test_threads.ensures.local)
    (adds-more (adds-one c.logfile.result c.in_ok-add-3.ensures c.logfile.ensures.declared c.logfile.ensures.local)
    (adds-more (adds-one c.skip.result c.in_ok-add-4.ensures c.skip.ensures.declared c.skip.ensures.local)
    (adds-more (adds-one c.colour.result c.in_ok-add-5.ensures colour.2 c.colour.ensures.local)
    (adds-one c.format.result c.in_ok-add-6.ensures format.2 c.format.ensures.local))))) in
    IfOk-weaker c.add-7.result _ _
    (λ _ h. (
      unstable.0,
      colour.0,
      format.0,
      record { unstable = unstable.1; color = colour.1; format = format.1 },
      adds-more before (adds-one c.filter.result h c.filter.ensures.declared c.filter.ensures.local),
    ))
    c.add-7.ensures
