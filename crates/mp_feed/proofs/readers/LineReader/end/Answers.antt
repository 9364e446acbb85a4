use Rattle.std.proofs.Common.{◌≡◌, false, sym, ap, ◌∙◌}
use Rattle.std.proofs.lemmas.Bool.{false_from_ne_true}
use Rattle.mp_feed.specs.Feeding.{ended, IsCutLine}
use Rattle.mp_feed.specs.Reading.{Reading}
use Rattle.mp_feed.proofs.ReaderLemmas.{next_is_last, next_is_end}
use Rattle.mp_feed.proofs.readers.LineReader.end.Goals as goal
use Rattle.mp_feed.proofs.readers.LineReader.end.Goals.{then-end, else-end}

pub returns-clause-next : goal.returns-clause-next
returns-clause-next c = λ first left later dry gave.
    let is = c.self.view_is in
    let held = c.end.ensures.held ∙ ap (λ (r : Reading). ended r.holding) is in
    let part : IsCutLine c.args.self.now.holding.kept = rw (← is) c.end.ensures.was_cut in
    let unended : c.args.self.now.holding.whole ≡ false =
    false_from_ne_true c.args.self.now.holding.whole c.requires.part in
    elim c.if-end.branch [
      | then-end w ↦
          rw w.result-is (next_is_last first c.args.self.now _ left later held (ap (λ (r : Reading). r.unread) is)
          (ap (λ (r : Reading). r.left) is) (ap (λ (r : Reading). r.past) is)
          (sym c.end.ensures.whole ∙ w.if-end.true) part unended c.requires.unread c.requires.past dry gave)
      | else-end w ↦
          rw w.result-is (next_is_end first c.args.self.now _ left later held (ap (λ (r : Reading). r.unread) is)
          (ap (λ (r : Reading). r.left) is) (ap (λ (r : Reading). r.past) is)
          (sym c.end.ensures.whole ∙ w.if-end.false) part unended c.requires.unread c.requires.past dry gave)
    ]
