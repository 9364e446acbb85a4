use Rattle.std.specs.Prelude.{option_map}
use Rattle.mp_bytes.specs.Values.{values_in, values_left}
use Rattle.mp_replies.specs.Numbers.{column}
use Rattle.mp_lines.proofs.ReadLemmas.{AreFew, AreGoneOver}
use Rattle.mp_lines.proofs.numbers.are_columns.Given as goal

abbrev pub invariant-loop-text : goal.invariant-loop-text
invariant-loop-text l = record {
  gone : AreGoneOver column (values_in l.field) (values_left (option_map (λ text. text.now) l.text-iterator.left));
  few : AreFew 8 (values_in l.field) (values_left (option_map (λ text. text.now) l.text-iterator.left)) l.count;
}
