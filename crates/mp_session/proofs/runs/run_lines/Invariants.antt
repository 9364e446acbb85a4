use Rattle.std.proofs.Common.{◌≡◌, ◌+◌, ◌≤◌, length}
use Rattle.std.specs.Prelude.{IsTrue}
use Rattle.mp_feed.specs.Reading.{bit}
use Rattle.mp_session.specs.Running.{HaveAsked, course_at}
use Rattle.mp_session.proofs.UnderWay.{IsUnderWay}
use Rattle.mp_session.proofs.runs.run_lines.Given as goal

abbrev pub invariant-loop-reader : goal.invariant-loop-reader
invariant-loop-reader g l = record {
  run : IsUnderWay g.K.Sink (g.H.Shelf.files l.initial.shelf) l.limit
      (course_at l.initial.session (g.S.Source.left l.initial.input) l.initial.out)
      (course_at l.session (g.S.Source.left l.input) l.out) l.reader l.refused;
  part : ¬ IsTrue l.reader.holding.whole;
  count : l.session.lines + (length l.reader.unread + l.reader.left) ≤ l.initial.session.lines + l.limit;
  given : g.S.Source.given l.input + l.reader.left ≡ g.S.Source.given l.initial.input + l.limit + bit l.reader.past;
  left : l.reader.left ≤ l.limit;
  source_faults : g.S.Source.faults l.initial.input ≤ g.S.Source.faults l.input;
  sink_faults : g.K.Sink.faults l.initial.out ≤ g.K.Sink.faults l.out;
  calm : g.H.Shelf.faults l.shelf ≡ g.H.Shelf.faults l.initial.shelf;
  files : g.H.Shelf.files l.shelf ≡ g.H.Shelf.files l.initial.shelf;
  asked : HaveAsked (g.H.Shelf.files l.initial.shelf) run.lines l.initial.session
      (g.H.Shelf.fetches l.initial.shelf) (g.H.Shelf.fetches l.shelf);
}

abbrev pub decreases-loop-reader : goal.decreases-loop-reader
decreases-loop-reader g l = length l.reader.unread + l.reader.left
