use Rattle.std.proofs.Common.{◌≡◌, List, ℕ, Some, [], sym, ap, ◌∙◌, arith, refl}
use Rattle.libtest_mimic.specs.Sink.{shown}
use Rattle.mimic_roundtrip.proofs.RunReports.{as_given, run_is_read, same_is_read, some_is_read}
use Rattle.mimic_roundtrip.proofs.run_to_report.Goals as goal

pub unwrap-report-requires : goal.unwrap-report-requires
unwrap-report-requires g c =
    let empty : c.new-sink.result.writer.items ≡ [] = rw c.new-sink.ensures.writer c.new.ensures.items in
    let full : c.run_here.new.sink.writer.items ≡ c.as_slice.result.now = sym (c.as_slice.ensures.value ∙ ap (λ v. v.items) c.into_inner-bytes.ensures) in
    let reported = run_is_read g.R.Task.gives _ c.args.tests.items (shown (λ v. Some v.items) c.new-sink.result) (shown (λ v. Some v.items) c.run_here.new.sink) c.run_here.new.watch c.in_ok-conclusion.conclusion c.as_slice.result.now
    refl (omega arith) (ap (λ (x : List ℕ). Some x) empty) (ap (λ (x : List ℕ). Some x) full) (c.in_ok-conclusion.ensures.reported refl) in
    some_is_read g.R.Task.gives _ c.args.tests.items c.run_here.new.watch c.in_ok-conclusion.conclusion c.as_slice.result.now c.in_ok-read_report.field-0 reported c.in_ok-read_report.ensures

pub returns : goal.returns
returns g c =
    let empty : c.new-sink.result.writer.items ≡ [] = rw c.new-sink.ensures.writer c.new.ensures.items in
    let full : c.run_here.new.sink.writer.items ≡ c.as_slice.result.now = sym (c.as_slice.ensures.value ∙ ap (λ v. v.items) c.into_inner-bytes.ensures) in
    let reported = run_is_read g.R.Task.gives _ c.args.tests.items (shown (λ v. Some v.items) c.new-sink.result) (shown (λ v. Some v.items) c.run_here.new.sink) c.run_here.new.watch c.in_ok-conclusion.conclusion c.as_slice.result.now
    refl (omega arith) (ap (λ (x : List ℕ). Some x) empty) (ap (λ (x : List ℕ). Some x) full) (c.in_ok-conclusion.ensures.reported refl) in
    as_given g.R.Task.gives c.args.args _ c.args.tests.items _ _ _ refl
    (same_is_read g.R.Task.gives _ c.args.tests.items c.run_here.new.watch c.in_ok-conclusion.conclusion c.as_slice.result.now c.in_ok-read_report.field-0 c.unwrap-report.result c.unwrap-report.ensures reported c.in_ok-read_report.ensures)
