use Rattle.std.proofs.Common.{◌≡◌, ◌+◌, length, map}
use Rattle.std.specs.Prelude.{option_map}
use Rattle.std.specs.Iterator.Adapters.{enumerate_count, enumerate_source}
use Rattle.mp_bytes.specs.Values.{values_in, values_left}
use Rattle.mp_defs.specs.Series.{series_of}
use Rattle.mp_stores.specs.Stores.{lists_in}
use Rattle.mp_commands.proofs.AppendLemmas.{AreSpread}
use Rattle.mp_commands.proofs.append_command.read_item.Given as goal

abbrev pub invariant-loop-k : goal.invariant-loop-k
invariant-loop-k l =
    let left = values_left (option_map (λ text. text.now) (enumerate_source l.k-iterator).left) in
    record {
      counted : enumerate_count l.k-iterator + length left ≡ length l.added;
      spread : AreSpread l.form.width l.form.scale (values_in l.item) left (enumerate_count l.k-iterator)
          (map series_of (lists_in l.initial.added)) (map series_of (lists_in l.added));
    }
