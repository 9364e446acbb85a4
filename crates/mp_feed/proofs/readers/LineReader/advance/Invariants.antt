use Rattle.std.proofs.Common.{◌≡◌, ◌+◌, ◌≤◌, ◌-◌, [], length}
use Rattle.std.specs.Prelude.{IsTrue}
use Rattle.mp_feed.specs.Reading.{bit, Gave}
use Rattle.mp_feed.proofs.readers.LineReader.advance.Given as goal

abbrev pub invariant-loop-self : goal.invariant-loop-self
invariant-loop-self g l = record {
  gave : Gave [] l.initial.self l.self (g.S.Source.left l.initial.input) (g.S.Source.left l.input);
  part : ¬ IsTrue l.self.holding.whole;
  fewer : length l.self.unread + l.self.left ≤ length l.initial.self.unread + l.initial.self.left;
  given : g.S.Source.given l.input + l.self.left + bit l.initial.self.past
      ≡ g.S.Source.given l.initial.input + l.initial.self.left + bit l.self.past;
  faults : g.S.Source.faults l.initial.input ≤ g.S.Source.faults l.input;
}

abbrev pub decreases-loop-self : goal.decreases-loop-self
decreases-loop-self g l = l.self.left + (1 - bit l.self.past)
