use Rattle.std.proofs.Common.{◌≡◌, ◌∙◌, ◌++◌, ap, arith, false, get_or, length, subst, sym}
use Rattle.mp_results.specs.Covering.{is_covered}
use Rattle.std.proofs.lemmas.List.{take_all}
use Rattle.mp_defs.specs.Series.{series_of}
use Rattle.mp_defs.specs.Profile.{windows_of}
use Rattle.mp_defs.specs.SeriesLaws.{series_are_of_samples}
use Rattle.mp_defs.specs.Window.{windows}
use Rattle.mp_anytime.specs.AnyFound.{fits_of, found_of}
use Rattle.mp_anytime.specs.Waiting.{IsCounted}
use Rattle.mp_anytime.specs.Kept.{IsAlongCovered}
use Rattle.mp_anytime.proofs.Counting.{counted_behind}
use Rattle.mp_anytime.specs.Scanning.{AreLater}
use Rattle.mp_anytime.proofs.Windows.{both_ways, covers_more, found_earlier, found_later, found_places, is_found}
use Rattle.mp_anytime.proofs.Windows.{kept_places}
use Rattle.mp_anytime.proofs.coverage.Coverage.cover.Goals as goal

pub put_into-requires : goal.put_into-requires
put_into-requires c =
    let m = c.args.m in
    let items = c.args.samples.now.items in
    let old = c.args.self.now in
    let chosen = c.args.chosen.now in
    let found = found_of c.args.found.now in
    let fits = fits_of c.args.found.now in
    let was = c.requires.is_of.profile in
    let is = is_found fits m items chosen old.profile found (sym c.len-windows.ensures.left ∙ c.len-windows.ensures.all)
    (sym c.len-windows.ensures.right ∙ c.len-windows.ensures.all) c.requires.found in
    let count : length old.profile.all ≡ windows_of m (series_of items) =
    omega (
      arith,
      c.len-windows.ensures.all,
      c.len-windows.ensures.left,
      kept_places m items old.covered.items old.profile was,
      series_are_of_samples.windows_are m items,
    ) in
    record {
      places = count ∙ sym (found_places fits m items old.covered.items chosen old.profile found was is);
      left = found_earlier fits m items old.covered.items chosen old.profile found was is;
      right = subst (λ w. AreLater w found.right) (sym count)
          (found_later fits m items old.covered.items chosen old.profile found was is);
    }

pub returns-clause-is_of : goal.returns-clause-is_of
returns-clause-is_of c =
    let m = c.args.m in
    let items = c.args.samples.now.items in
    let old = c.args.self.now in
    let chosen = c.args.chosen.now in
    let found = found_of c.args.found.now in
    let fits = fits_of c.args.found.now in
    let is = is_found fits m items chosen old.profile found (sym c.len-windows.ensures.left ∙ c.len-windows.ensures.all)
    (sym c.len-windows.ensures.right ∙ c.len-windows.ensures.all) c.requires.found in
    let covered : c.loop-diagonal.self.covered.items ≡ old.covered.items ++ chosen =
    c.loop-diagonal.invariant.covered
    ∙ ap (λ ds. old.covered.items ++ ds) (take_all c.loop-diagonal.diagonal-index chosen (omega arith)) in
    record {
      listed = c.loop-diagonal.invariant.listed;
      counted = subst (IsCounted m (windows (length items) m)) (sym covered)
          (counted_behind m (windows (length items) m) old.covered.items chosen c.requires.left
          c.requires.is_of.counted);
      profile = subst (λ ds. IsAlongCovered m items ds c.loop-diagonal.self.profile) (sym covered)
          (subst (IsAlongCovered m items (old.covered.items ++ chosen)) (sym c.loop-diagonal.invariant.profile)
          (covers_more fits m (windows (length items) m) items old.covered.items chosen old.profile found
          c.put_into.new.profile c.requires.is_of.listed.diagonals c.requires.diagonals c.requires.is_of.profile
          is c.put_into.ensures.left c.put_into.ensures.right));
      limits = λ known. absurd (both_ways c.loop-diagonal.self.are_limits_known known c.loop-diagonal.invariant.known);
    }

pub cover_one-requires-clause-fresh : goal.cover_one-requires-clause-fresh
cover_one-requires-clause-fresh c =
    let k = c.loop-diagonal.diagonal-index in
    let chosen = c.args.chosen.now in
    subst (λ ds. is_covered ds (get_or chosen k 0) ≡ false) (sym c.loop-diagonal.invariant.covered)
    (c.requires.fresh k (omega arith))
