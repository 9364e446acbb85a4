use Rattle.std.proofs.Common.{◌≡◌, sym, ap, subst, ◌∙◌, arith}
use Rattle.std.specs.Prelude.{◌==◌, if◌then◌else◌, All, sum_by}
use Rattle.std.proofs.lemmas.List.Elements.{All-nil}
use Rattle.std.proofs.lemmas.List.Sums.{sum_by-append, sum_by-swap_remove}
use Rattle.mp_workers.specs.Desks.{times}
use Rattle.mp_workers.specs.Teams.{WorkerState}
use Rattle.mp_workers.proofs.Teaming.{all_but_one}
use Rattle.mp_workers.proofs.workers.gather.Goals as goal

pub returns-clause-drawn : goal.returns-clause-drawn
returns-clause-drawn g c x =
    let drawn = λ (worker : WorkerState). times x worker.pass.drawn in
    omega (
      arith,
      c.in_ok-join_passes.ensures.drawn x,
      ap (times x) c.join.ensures.drawn,
      sum_by-append (λ number. if number == x then 1 else 0) c.args.pass.now.drawn c.own.inside.pass.drawn,
      ap drawn (c.own.view_is ∙ c.swap_remove.ensures.value),
      ap (sum_by drawn) c.swap_remove.ensures.items,
      sum_by-swap_remove drawn c.args.team.items 0 c.swap_remove.result c.requires.some,
    )

pub returns-clause-sizes : goal.returns-clause-sizes
returns-clause-sizes g c size all =
    let sizes = All (λ part. g.P.Part.size_of part ≡ size) in
    c.in_ok-join_passes.ensures.sizes size
    (subst (All (λ worker. worker.size ≡ size)) (sym c.swap_remove.ensures.items)
    (all_but_one (λ worker. worker.size ≡ size) c.args.team.items 0 c.swap_remove.result c.requires.some all))
    (subst sizes (sym c.requires.no_part) (All-nil (λ part. g.P.Part.size_of part ≡ size)))
