use Rattle.mp_outside.proofs.tests.copy.Goals as goal

pub returns : goal.returns
returns c = c.read_to_end.ensures c.args.bytes.items c.new.ensures.left
