use Rattle.std.proofs.Common.{◌-◌, ℕ, List, length, take, sym, subst}
use Rattle.std.specs.Io.KnownBytes.{Appends, append_known}
use Rattle.mimic_main.proofs.TakenBack.{taken-back}
use Rattle.mimic_main.proofs.output.Output.write_together.Goals as goal

pub returns-in_default-clause-bytes : goal.returns-in_default-clause-bytes
returns-in_default-clause-bytes g c =
    let before = g.W.Write.contents c.args.self.now.writer in
    let after = g.W.Write.contents c.hand_on.new.self.writer in
    let waited = c.args.self.now.waiting.items in
    let text = c.args.text.now in
    let left = c.hand_on.new.self.waiting.items in
    let handed = rw c.keep.ensures.kept at c.hand_on.ensures.front in
    let front = rw c.keep.ensures.writer at handed in
    let P : List ℕ → Type 0 = λ l. Appends (append_known before waited) (append_known after l) (take c.take_back-taken.result text) in
    let Q : ℕ → Type 0 = λ n. Appends (append_known before waited) (append_known after (take (length left - length text) left)) (take n text) in
    subst P (sym c.take_back-taken.ensures.waiting) (subst Q (sym c.take_back-taken.ensures.taken) (taken-back before after waited text left front.0 front.1 front.2 front.3))
