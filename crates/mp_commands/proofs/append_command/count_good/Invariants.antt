use Rattle.mp_bytes.specs.Fields.{fields_in}
use Rattle.mp_commands.proofs.AppendLemmas.{AreGood}
use Rattle.mp_commands.proofs.append_command.count_good.Given as goal

abbrev pub invariant-loop-item : goal.invariant-loop-item
invariant-loop-item l =
    AreGood l.form.width l.form.scale l.form.channels (fields_in l.items) (fields_in l.item-iterator.text.now) l.count
