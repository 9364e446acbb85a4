use Rattle.std.proofs.Common.{ap, ◌∙◌, arith}
use Rattle.std.specs.Prelude.{replicate}
use Rattle.mp_workers.proofs.PartLaws.{all_alike, as_many}
use Rattle.mp_workers.proofs.sharing.run_sharing.Goals as goal

-- there are as many parts as workers
pub run_sharing_in-requires-clause-some : goal.run_sharing_in-requires-clause-some
run_sharing_in-requires-clause-some g c _ _ =
    omega (
      arith,
      c.requires.some,
      as_many g.P.Part.size_of c.size.result c.in_ok-parts.parts.items c.args.workers c.in_ok-parts.ensures.sizes,
    )

pub run_sharing_in-requires-clause-workers : goal.run_sharing_in-requires-clause-workers
run_sharing_in-requires-clause-workers g c _ _ =
    omega (
      arith,
      c.requires.workers,
      as_many g.P.Part.size_of c.size.result c.in_ok-parts.parts.items c.args.workers c.in_ok-parts.ensures.sizes,
    )

pub run_sharing_in-requires-clause-unfound : goal.run_sharing_in-requires-clause-unfound
run_sharing_in-requires-clause-unfound g c _ _ =
    let part = g.P.Part in
    let size = g.S.Sharing.size_of c.args.work.now in
    let n = c.args.workers in
    all_alike part.size_of part.value size (part.unit_of size) c.in_ok-parts.parts.items n n
    (c.in_ok-parts.ensures.sizes ∙ ap (replicate n) c.size.ensures)
    (c.in_ok-parts.ensures.values ∙ ap (λ k. replicate n (part.unit_of k)) c.size.ensures)
