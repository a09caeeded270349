use Rattle.std.proofs.Common.{◌++◌, [], arith, refl, rules}
use Rattle.std.proofs.KnownBytes.{Consumes-nil}
use Rattle.mimic_printer.specs.declared.sink.OutputFault.TheVariants as output
use Rattle.mimic_printer.proofs.Adding.{puts_added}
use Rattle.mimic_printer.proofs.Appending.{Put-Stopped, Put-refl, Put-trans}
use Rattle.mimic_watch.specs.declared.verdict.WatchFault.TheVariants.{Read, Write}
use Rattle.mimic_watch.proofs.Watches.{begin, end_failed, end_put, failed, refused, returned, show_failed, take_on}
use Rattle.mimic_watch.proofs.viewer.run.Goals as goal

pub loop-init : goal.loop-init
loop-init g c = record {
  text = [];
  put = Put-refl _;
  watching = begin _ _ _ c.requires.0 refl;
  room = omega arith;
}

pub returns-in_err-read : goal.returns-in_err-read
returns-in_err-read g c =
    returned _ (Read c.in_err-read.field-0.0) c.from_residual.ensures.1
    (failed c.loop.invariant.watching _ _ c.in_err-read.ensures.fault.1 c.loop.invariant.put)

pub returns-in_err-verdict : goal.returns-in_err-verdict
returns-in_err-verdict g c =
    returned _ (Write output.OutOfMemory) c.from_residual-in_err-verdict.ensures.1
    (refused c.loop.invariant.watching c.in_ok-read.ensures.read (rw c.in_err-verdict.ensures.fault c.loop.invariant.put))

pub returns-in_err-end : goal.returns-in_err-end
returns-in_err-end g c =
    returned _ (Write (output.Write c.in_err-end.field-0.0)) c.from_residual-in_err-end.ensures.1
    (end_failed c.loop.invariant.watching c.in_ok-read.ensures.read (search rules) _ c.in_ok-verdict.ensures.verdict _
    (Put-Stopped _ _ c.loop.invariant.put (puts_added _ _ c.in_ok-verdict.ensures.added c.in_err-end.ensures)))

pub returns-then-branch : goal.returns-then-branch
returns-then-branch g c =
    end_put c.loop.invariant.watching c.in_ok-read.ensures.read (search rules) _ c.in_ok-verdict.ensures.verdict
    (Put-trans _ _ c.loop.invariant.put (puts_added _ _ c.in_ok-verdict.ensures.added c.in_ok-end.ensures))

pub returns-in_err-show : goal.returns-in_err-show
returns-in_err-show g c =
    returned _ (Write output.OutOfMemory) c.from_residual-in_err-show.ensures.1
    (refused c.loop.invariant.watching c.in_ok-read.ensures.read (rw c.in_err-show.ensures.fault c.loop.invariant.put))

pub returns-in_err-end-2 : goal.returns-in_err-end-2
returns-in_err-end-2 g c =
    returned _ (Write (output.Write c.in_err-end-2.field-0.0)) c.from_residual-in_err-end-2.ensures.1
    (show_failed c.loop.invariant.watching c.in_ok-read.ensures.read _ _ c.in_ok-show.ensures.added.2 _
    (Put-Stopped _ _ c.loop.invariant.put (puts_added _ _ c.in_ok-show.ensures.added.1 c.in_err-end-2.ensures)))

pub loop-preserved : goal.loop-preserved
loop-preserved g c = record {
  text = c.loop.invariant.text ++ c.in_ok-show.ensures.added.0;
  put = Put-trans _ _ c.loop.invariant.put (puts_added _ _ c.in_ok-show.ensures.added.1 c.in_ok-end-2.ensures);
  watching = c.in_ok-show.ensures.added.2 _ _ _ _ (take_on c.loop.invariant.watching c.in_ok-read.ensures.read);
  room = search rules;
}

pub returns : goal.returns
returns g c = failed c.loop.invariant.watching _ [] (Consumes-nil _) c.loop.invariant.put
