use Rattle.std.proofs.Common.{map}
use Rattle.mp_bytes.specs.Fields.{fields_in}
use Rattle.mp_defs.specs.Series.{series_of}
use Rattle.mp_stores.specs.Stores.{lists_in}
use Rattle.mp_commands.proofs.AppendLemmas.{AreRead}
use Rattle.mp_commands.proofs.append_command.read_items.Given as goal

abbrev pub invariant-loop-item : goal.invariant-loop-item
invariant-loop-item l =
    AreRead l.form.width l.form.scale l.form.channels (fields_in l.items) (fields_in l.item-iterator.text.now)
    (map series_of (lists_in l.added.items))
