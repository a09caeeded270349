use Rattle.std.proofs.Common.{◌++◌, ◌∙◌, ap, append-nil, sym}
use Rattle.mimic_printer.specs.Sink.{writer_of}
use Rattle.mimic_watch.proofs.text.text_of.Goals as goal

pub returns : goal.returns
returns c = λ old text added.
    let all = added.whole (sym c.has_fault.ensures ∙ c.if-has_fault.false) in
    rw c.into_inner.ensures (added.appended ∙ ap (λ l. (writer_of old).items ++ l)
    (sym (added.parts ∙ ap (λ l. added.front ++ l) all.1 ∙ append-nil added.front)))
