use Rattle.std.proofs.Common.{◌≡◌}
use Rattle.std.specs.Prelude.{option_map}
use Rattle.mp_bytes.specs.Values.{values_in, values_left}
use Rattle.mp_replies.specs.Numbers.{column}
use Rattle.mp_lines.proofs.ReadLemmas.{all_read, in_front}
use Rattle.mp_lines.proofs.numbers.Columns.read.Given as goal

abbrev pub invariant-loop-text : goal.invariant-loop-text
invariant-loop-text l =
    all_read column (values_in l.self.field.now)
    ≡ in_front l.read.items (all_read column (values_left (option_map (λ text. text.now) l.text-iterator.left)))
