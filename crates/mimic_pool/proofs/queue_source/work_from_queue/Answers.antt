use Rattle.std.proofs.Common.{◌∙◌, [], sym}
use Rattle.mimic_pool.specs.Balance.{account_of}
use Rattle.mimic_pool.proofs.Accounts.{fields_of}
use Rattle.mimic_pool.proofs.Sources.{all_returned}
use Rattle.mimic_pool.proofs.queue_source.work_from_queue.Goals as goal

pub returns : goal.returns
returns g c =
    let fresh = c.requires.fresh in
    let first = fields_of (account_of c.args.worker.pass) 1 [] [] fresh.fresh in
    let last = c.work_from-source.result.0 in
    let worked = c.work_from-source.ensures.worked in
    let taken = worked.went_on.taken [] (first.taken_is ∙ sym (c.new-2.ensures ∙ c.new.ensures.items)) in
    record {
      ours = worked.went_on.ours fresh.ours;
      parts = worked.went_on.parts ∙ first.parts_are;
      put = worked.went_on.put ∙ first.put_is;
      answers = all_returned g.T.Task.gives c.args.test_mode (account_of last.pass).taken worked.given last.left worked.rows taken c.work_from-source.ensures.ended worked.answers c.args.worker.rows.items c.work_from-source.result.1.items worked.added fresh.empty;
    }
