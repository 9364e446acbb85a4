use Rattle.std.proofs.Common.{◌≡◌, ℕ, ◌+◌, ◌<◌, ◌++◌, false, get_or, length, subst, sym, take}
use Rattle.std.specs.Prelude.{All, List}
use Rattle.mp_nums.specs.declared.samples.Sample.{Sample}
use Rattle.mp_defs.specs.Window.{windows}
use Rattle.mp_results.specs.Covering.{is_covered, uncovered}
use Rattle.mp_anytime.specs.Kept.{IsDiagonal, IsOf}
use Rattle.mp_anytime.proofs.Choosing.{chosen_lie}
use Rattle.mp_anytime.proofs.Counting.{left_of_chosen}
use Rattle.mp_anytime.proofs.Distinct.{chosen_fresh}
use Rattle.mp_anytime.proofs.lazy.Anytime.advance.Goals as goal

pub found_along-requires-clause-diagonals : goal.found_along-requires-clause-diagonals
found_along-requires-clause-diagonals g c = λ _ _.
    let inside = c.self.inside in
    let m = inside.m in
    let w = windows (length inside.samples.items) m in
    let covered = inside.coverage.covered.items in
    subst (All (IsDiagonal m w)) (sym c.as_slice-chosen.ensures.value)
    (chosen_lie m w c.args.k covered c.in_ok-chosen.chosen.items
    (c.in_ok-chosen.ensures.chosen m w covered
    c.self.invariant.2.listed.waiting))

pub cover-requires-clause-diagonals : goal.cover-requires-clause-diagonals
cover-requires-clause-diagonals g c =
    let inside = c.self.inside in
    let m = inside.m in
    let w = windows (length inside.samples.items) m in
    let covered = inside.coverage.covered.items in
    subst (λ (items : List Sample). All (IsDiagonal m (windows (length items) m)) c.as_slice-chosen.result.now)
    (sym c.in_ok-found.ensures.items)
    (subst (All (IsDiagonal m w)) (sym c.as_slice-chosen.ensures.value)
    (chosen_lie m w c.args.k covered c.in_ok-chosen.chosen.items
    (c.in_ok-chosen.ensures.chosen m w covered
    c.self.invariant.2.listed.waiting)))

pub cover-requires-clause-left : goal.cover-requires-clause-left
cover-requires-clause-left g c =
    let inside = c.self.inside in
    let m = inside.m in
    let w = windows (length inside.samples.items) m in
    let covered = inside.coverage.covered.items in
    let chosen = c.as_slice-chosen.result.now in
    subst (λ ds. length (uncovered m (windows (length c.found_along.new.samples.items) m) (ds ++ chosen))
    + length chosen
    ≡ length (uncovered m (windows (length c.found_along.new.samples.items) m) ds))
    (sym c.reserve_covered.ensures.covered)
    (subst (λ (items : List Sample). length (uncovered m (windows (length items) m) (covered ++ chosen))
    + length chosen ≡ length (uncovered m (windows (length items) m) covered))
    (sym c.in_ok-found.ensures.items)
    (subst (λ ds. length (uncovered m w (covered ++ ds)) + length ds ≡ length (uncovered m w covered))
    (sym c.as_slice-chosen.ensures.value)
    (left_of_chosen m w c.args.k covered c.in_ok-chosen.chosen.items
    (c.in_ok-chosen.ensures.chosen m w covered c.self.invariant.2.listed.waiting))))

pub cover-requires-clause-fresh : goal.cover-requires-clause-fresh
cover-requires-clause-fresh g c =
    let inside = c.self.inside in
    let m = inside.m in
    let w = windows (length inside.samples.items) m in
    let covered = inside.coverage.covered.items in
    let chosen = c.as_slice-chosen.result.now in
    subst (λ ds. (q : ℕ) → q < length chosen → is_covered (ds ++ take q chosen) (get_or chosen q 0) ≡ false)
    (sym c.reserve_covered.ensures.covered)
    (subst (λ (l : List ℕ). (q : ℕ) → q < length l → is_covered (covered ++ take q l) (get_or l q 0) ≡ false)
    (sym c.as_slice-chosen.ensures.value)
    (chosen_fresh m w c.args.k covered c.in_ok-chosen.chosen.items
    (c.in_ok-chosen.ensures.chosen m w covered c.self.invariant.2.listed.waiting)))

pub found_along-requires-clause-is_of : goal.found_along-requires-clause-is_of
found_along-requires-clause-is_of g c = λ _ _.
    let inside = c.self.inside in
    c.in_ok-reserve_covered.ensures.is_of inside.m inside.samples.items c.self.invariant.2

pub invariant_of-self-in_err-found : goal.invariant_of-self-in_err-found
invariant_of-self-in_err-found g c =
    let inside = c.self.inside in (
      c.self.invariant.0,
      c.self.invariant.1,
      subst (λ (items : List Sample). IsOf inside.m items c.reserve_covered.new.self)
          (sym c.found_along.ensures.items)
          (c.in_ok-reserve_covered.ensures.is_of inside.m inside.samples.items c.self.invariant.2),
    )

pub cover-requires-clause-is_of : goal.cover-requires-clause-is_of
cover-requires-clause-is_of g c =
    let inside = c.self.inside in
    subst (λ (items : List Sample). IsOf inside.m items c.reserve_covered.new.self) (sym c.in_ok-found.ensures.items)
    (c.in_ok-reserve_covered.ensures.is_of inside.m inside.samples.items c.self.invariant.2)
