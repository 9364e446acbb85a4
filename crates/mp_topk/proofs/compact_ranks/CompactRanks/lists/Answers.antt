use Rattle.std.proofs.Common.{◌≡◌, ◌<◌, ◌∙◌, ap, arith, length, map, sym}
use Rattle.std.proofs.lemmas.Bool.Decides.{nat_tests}
use Rattle.std.proofs.lemmas.List.{nil_from_length}
use Rattle.std.proofs.lemmas.Result.{IfOk-weaker}
use Rattle.mp_topk.specs.Ranking.{Ranked, those_in}
use Rattle.mp_topk.proofs.Whole.{listed_all, listed_none}
use Rattle.mp_topk.proofs.compact_ranks.CompactRanks.lists.Goals as goal

pub returns-then-is_empty : goal.returns-then-is_empty
returns-then-is_empty g c =
    let nil = nil_from_length c.as_slice-places.result.now (grind (arith, nat_tests)) in
    IfOk-weaker c.lists_of_none.result _ _
    (λ lists e. e ∙ listed_none g.row.K c.self.inside.size c.self.inside.places.items c.args.self.now.lists
    (sym (ap (λ (r : Ranked). r.lists) c.self.view_is)) (sym c.as_slice-places.ensures.value ∙ nil))
    c.lists_of_none.ensures

pub returns-else-is_empty : goal.returns-else-is_empty
returns-else-is_empty g c =
    let places = c.self.inside.places.items in
    let some : 0 < length c.as_slice-places.result.now = grind (arith, nat_tests) in
    let all : length places ≡ c.self.inside.size =
    c.self.invariant.4 (omega (arith, some, ap length c.as_slice-places.ensures.value)) in
    IfOk-weaker c.compact_lists_of.result _ _
    (λ lists e. e ∙ ap (map those_in) c.as_slice-places.ensures.value
    ∙ listed_all g.row.K c.self.inside.size places c.args.self.now.lists
    (sym (ap (λ (r : Ranked). r.lists) c.self.view_is)) all)
    c.compact_lists_of.ensures
