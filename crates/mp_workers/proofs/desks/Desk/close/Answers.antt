use Rattle.std.proofs.Common.{◌≡◌, ap, ◌∙◌, subst}
use Rattle.mp_workers.specs.Desks.{times, once_below}
use Rattle.mp_workers.proofs.Drawing.{whole_drew_all}
use lib.ListN.{get_elem?}
use Rattle.mp_workers.proofs.desks.Desk.close.Goals as goal

pub returns : goal.returns
returns c x =
    let final = c.close_with-closed.ensures.values.2 in
    subst (λ drawn. times x drawn ≡ once_below c.word-next.result x) (ap (λ pass. pass.drawn) c.pass.view_is)
    (whole_drew_all _ final.0 _ _ final.1.0 final.1.1 (ap (λ pass. pass.weight) c.pass.view_is ∙ c.requires.weight)
    _ (ap (λ words. get_elem? words 0) final.2 ∙ c.word-next.ensures) x)
