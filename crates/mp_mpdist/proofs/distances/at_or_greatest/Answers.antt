use Rattle.std.proofs.Common.{◌<◌, length, sym, ap, ◌∙◌, arith}
use Rattle.std.specs.Option.{option_map}
use Rattle.std.proofs.lemmas.List.{nil_from_length}
use Rattle.std.proofs.lemmas.Bool.Decides.{nat_tests}
use Rattle.mp_results.specs.Slide.{square}
use Rattle.mp_mpdist.proofs.Selected.{at_or_greatest-none, at_or_greatest-selected}
use Rattle.mp_mpdist.proofs.distances.at_or_greatest.Goals as goal

pub returns-then-is_empty : goal.returns-then-is_empty
returns-then-is_empty c =
    let nil = nil_from_length c.args.distances.now (grind (arith, nat_tests)) in
    sym (ap (option_map square) (at_or_greatest-none c.args.place c.args.distances.now nil))

pub returns : goal.returns
returns c =
    let ds = c.args.distances.now in
    let some : 0 < length ds = grind (arith, nat_tests) in
    let selected = c.select_nth_unstable-distance.ensures in
    let at = selected.front_len ∙ c.min-place.ensures in
    sym (ap (option_map square)
    (at_or_greatest-selected c.args.place _ ds _ _ some selected.permutation at selected.partitioned))
