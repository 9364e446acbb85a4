use Rattle.std.proofs.Common.{◌+◌, ◌-◌, arith}
use Rattle.mp_scans.specs.Offering.{in_block}
use Rattle.mp_multi.proofs.SeedLemmas.{ahead_none, ahead_of, among_all}
use Rattle.mp_multi.proofs.seeds.scan_behind.Goals as goal

pub returns-then-compared-stretch-clause-ahead : goal.returns-then-compared-stretch-clause-ahead
returns-then-compared-stretch-clause-ahead g c = ahead_none _ _ _

pub returns-clause-ahead : goal.returns-clause-ahead
returns-clause-ahead g c =
    let level = c.args.level.now in
    let row = c.args.stretch.now.row + c.follow-compared.result in
    let column = c.args.stretch.now.column + c.follow-compared.result in
    let k = column - row in
    let n = c.args.stretch.now.count - c.follow-compared.result in
    ahead_of level.plan (in_block k (k + 1) row (row + n)) _ _ _ c.scan_diagonal.ensures.scanned
    (λ i j iw jw. among_all c.args.first level.windows k row n i j (omega (arith, c.requires.behind))
    (omega (arith, iw, level.all_windows)) (omega (arith, jw, level.all_windows)))

pub returns-clause-spare : goal.returns-clause-spare
returns-clause-spare g c = c.scan_diagonal.ensures.scanned.spare
