use Rattle.std.proofs.Common.{◌≡◌, ◌+◌, ◌-◌, ◌/◌, subst, arith}
use Rattle.std.specs.Prelude.{IfOk}
use Rattle.std.proofs.lemmas.Result.{IfOk-at_ok}
use Rattle.mp_multi.specs.Sharing.{AreUnfound}
use Rattle.mp_multi.proofs.PartLemmas.{unfound_together}
use Rattle.mp_multi.proofs.profiles.+slots.Goals as goal

pub unfound_slots-returns : goal.unfound_slots-returns
unfound_slots-returns g t c =
    let workers = c.args.workers in
    let all : workers / 2 + (workers - workers / 2) ≡ workers = omega arith in
    subst (λ n. IfOk c.unfound_halves.result (λ slots. AreUnfound n c.args.windows slots.items)) all
    c.unfound_halves.ensures

pub unfound_halves-returns : goal.unfound_halves-returns
unfound_halves-returns g t c =
    unfound_together c.args.some c.args.others c.args.windows c.in_ok-low.low.items c.in_ok-high.high.items
    c.append.new.self.items
    (IfOk-at_ok (λ v. AreUnfound c.args.some c.args.windows v.items) c.in_ok-low.was c.join-low.ensures.first)
    (IfOk-at_ok (λ v. AreUnfound c.args.others c.args.windows v.items) c.in_ok-high.was c.join-low.ensures.second)
    c.in_ok-append.ensures.items
