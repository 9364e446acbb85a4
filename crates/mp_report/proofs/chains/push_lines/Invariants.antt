use Rattle.std.proofs.Common.{◌≡◌, ◌++◌, take}
use Rattle.std.specs.Prelude.{flat_map, codes, decimal}
use Rattle.mp_report.proofs.chains.push_lines.Given as goal

abbrev pub invariant-loop-number : goal.invariant-loop-number
invariant-loop-number l =
    l.text.items ≡ l.initial.text.items
    ++ flat_map (λ number. decimal number ++ codes "\n") (take l.number-index l.numbers)
