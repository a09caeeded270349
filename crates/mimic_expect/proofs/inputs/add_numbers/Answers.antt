use Rattle.mimic_expect.proofs.inputs.add_numbers.Goals as goal

pub returns : goal.returns
returns g c = rw (c.failed.ensures, c.passed.ensures, c.another_message.ensures, c.absent.ensures) at c.add_pieces.ensures
