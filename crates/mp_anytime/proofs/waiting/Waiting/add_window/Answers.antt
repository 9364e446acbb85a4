use Rattle.std.proofs.Common.{◌∙◌, ap, refl, get_or, false}
use Rattle.std.specs.Prelude.{◌==◌, nat_lt, if◌then◌else◌}
use Rattle.mp_results.specs.Reversal.{reversal}
use Rattle.mp_anytime.proofs.Choosing.{add_at}
use Rattle.mp_anytime.proofs.waiting.Waiting.add_window.Goals as goal

pub returns : goal.returns
returns c = λ covered none was.
    let w = c.args.windows in
    record {
      places = c.put.ensures.places;
      each = λ place lt.
          let old = get_or c.args.self.now place false in
          c.put.ensures.each place lt
          ∙ ap (λ zone. if reversal place == w then nat_lt zone w else old) c.excl.ensures
          ∙ add_at c.args.m w covered (reversal place) old none (was.each place lt) (reversal place == w) refl;
    }
