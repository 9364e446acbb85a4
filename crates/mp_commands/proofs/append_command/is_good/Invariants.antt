use Rattle.std.specs.Prelude.{option_map}
use Rattle.mp_bytes.specs.Values.{values_in, values_left}
use Rattle.mp_commands.proofs.AppendLemmas.{AreSpelled}
use Rattle.mp_commands.proofs.append_command.is_good.Given as goal

abbrev pub invariant-loop-value : goal.invariant-loop-value
invariant-loop-value l =
    AreSpelled l.form.width l.form.scale (values_in l.item)
    (values_left (option_map (λ text. text.now) l.value-iterator.left)) l.count
