use Rattle.std.proofs.Common.{◌≤◌, ◌-◌, drop, length, map}
use Rattle.std.specs.Prelude.{string_bytes}
use Rattle.mp_words.specs.Reading.{IsReading}
use Rattle.mp_words.proofs.grammar.read_numbers.Given as goal

abbrev pub invariant-loop-read : goal.invariant-loop-read
invariant-loop-read l =
    IsReading (map string_bytes l.words) (drop l.read (map string_bytes l.words)) l.numbers × (l.read ≤ length l.words)

abbrev pub decreases-loop-read : goal.decreases-loop-read
decreases-loop-read l = length l.words - l.read
