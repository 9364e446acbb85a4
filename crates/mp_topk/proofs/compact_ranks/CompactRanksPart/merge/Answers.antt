use Rattle.std.proofs.Common.{◌≡◌, ◌<◌, ◌≤◌, ◌∙◌, ap, arith, length, map, refl, sym}
use Rattle.std.proofs.lemmas.Bool.Decides.{nat_tests}
use Rattle.std.proofs.lemmas.List.{nil_from_length}
use Rattle.mp_topk.specs.Ranking.{Ranked, merged_lists, those_in, whole}
use Rattle.mp_topk.proofs.Whole.{has_merged, merged_none, merged_some, whole_size, whole_values}
use Rattle.mp_topk.proofs.compact_ranks.CompactRanksPart.merge.Goals as goal

pub returns-then-is_empty-clause-value : goal.returns-then-is_empty-clause-value
returns-then-is_empty-clause-value g c =
    let nil = nil_from_length c.as_slice-others.result.now (grind (arith, nat_tests)) in
    merged_none g.row.K c.other.inside.size c.other.inside.places.items c.args.self.now.lists c.args.other.now.lists
    c.size-places.result c.size-places.ensures.is_value (sym c.size-places.ensures.size)
    (sym c.as_slice-others.ensures.value ∙ nil) (sym (ap (λ (r : Ranked). r.lists) c.other.view_is)) c.requires

pub returns-then-is_empty-clause-is_value : goal.returns-then-is_empty-clause-is_value
returns-then-is_empty-clause-is_value g c =
    has_merged g.row.K c.size-places.result c.args.self.now.lists (sym c.size-places.ensures.size)
    c.size-places.ensures.is_value

pub returns-clause-value : goal.returns-clause-value
returns-clause-value g c =
    let old = c.self.inside.places.items in
    let new = c.merge_places.new.places.items in
    let others = c.other.inside.places.items in
    let lists = sym (ap (λ (r : Ranked). r.lists) c.self.view_is) in
    let lists' = sym (ap (λ (r : Ranked). r.lists) c.other.view_is) in
    let some : 0 < length c.as_slice-others.result.now = grind (arith, nat_tests) in
    let alike : c.other.inside.size ≡ c.self.inside.size =
    sym (whole_size g.row.K c.other.inside.size others c.args.other.now.lists lists' c.other.invariant.3) ∙ c.requires
    ∙ whole_size g.row.K c.self.inside.size old c.args.self.now.lists lists c.self.invariant.3 in
    let all : length others ≡ c.self.inside.size =
    c.other.invariant.4 (omega (arith, some, ap length c.as_slice-others.ensures.value)) ∙ alike in
    merged_some g.row.K c.self.inside.size old new others c.args.self.now.lists c.args.other.now.lists
    c.merge_places.ensures.all all lists (lists' ∙ ap (λ n. map those_in (whole g.row.K n others)) alike)
    (c.merge_places.ensures.lists
    ∙ ap (λ places. merged_lists g.row.K (map those_in (whole g.row.K c.self.inside.size old)) (map those_in places))
    c.as_slice-others.ensures.value)

pub returns-clause-is_value : goal.returns-clause-is_value
returns-clause-is_value g c =
    let new = c.merge_places.new.places.items in
    let le : length new ≤ c.self.inside.size = omega (arith, c.merge_places.ensures.all) in
    let lists = map those_in (whole g.row.K c.self.inside.size new) in
    has_merged g.row.K c.self.inside.size lists (whole_size g.row.K c.self.inside.size new lists refl le)
    (whole_values g.row.K c.self.inside.size new lists refl le c.merge_places.ensures.ranked)
