use Rattle.std.proofs.Common.{◌∙◌, Bool, List, ap, get_or, false}
use Rattle.mp_results.specs.Covering.{is_uncovered}
use Rattle.mp_results.specs.Reversal.{reversal}
use Rattle.mp_anytime.proofs.Digits.{reversal_back, reversal_small}
use Rattle.mp_anytime.proofs.waiting.Waiting.is_waiting.Goals as goal

pub returns : goal.returns
returns c = λ m windows covered waits.
    c.waits_at.ensures
    ∙ ap (λ (l : List Bool). get_or l (reversal c.args.diagonal) false) c.self.view_is
    ∙ waits.each (reversal c.args.diagonal) (reversal_small c.args.diagonal)
    ∙ ap (is_uncovered m windows covered) (reversal_back c.args.diagonal c.requires)
