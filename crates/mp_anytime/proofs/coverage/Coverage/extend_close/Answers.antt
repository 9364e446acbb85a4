use Rattle.std.proofs.Common.{◌≡◌, ◌+◌, ◌-◌, ◌∙◌, Bool, ap, arith, subst, sym, ℕ}
use Rattle.std.specs.Prelude.{List}
use Rattle.mp_nums.specs.declared.samples.Sample.{Sample}
use Rattle.mp_nums.specs.Listed.{Listed}
use Rattle.mp_defs.specs.Series.{series_of}
use Rattle.mp_partial.specs.Profiled.{Profiled}
use Rattle.mp_tiles.specs.Scanning.{IsScanned}
use Rattle.mp_anytime.specs.Kept.{AreSums, is_last_pair}
use Rattle.mp_anytime.specs.Offers.{IsRow}
use Rattle.mp_anytime.specs.Sums.{HavePlaces, room_of}
use Rattle.mp_anytime.specs.declared.sums.Sums.{Sums}
use Rattle.mp_anytime.proofs.RowPairs.{row_of_sums, scanned_places}
use Rattle.mp_anytime.proofs.coverage.Coverage.extend_close.Goals as goal
use Rattle.mp_anytime.proofs.coverage.Coverage.extend_close.Goals.{After-move_on, After-offer_last}

-- the covered diagonals are those of before
listed_still : (c : After-move_on) → c.as_slice-covered.result.now ≡ c.args.self.now.covered.items
listed_still c = c.as_slice-covered.ensures ∙ ap (λ (l : Listed ℕ). l.items) c.know_limits.ensures.covered

moved : (c : After-move_on) → AreSums c.args.m (series_of c.args.samples.now.items) c.args.self.now.covered.items
    c.args.last c.move_on.new.sums
moved c =
    subst (λ (ds : List ℕ). AreSums c.args.m (series_of c.args.samples.now.items) ds c.args.last
    c.move_on.new.sums) (listed_still c) c.move_on.ensures.sums

pub offer_last-requires-clause-row : goal.offer_last-requires-clause-row
offer_last-requires-clause-row c =
    let m = c.args.m in
    let last = c.args.last in
    let items = c.args.samples.now.items in
    let old = c.args.self.now in
    let now = c.know_limits.new.self in
    let h = c.requires.waiting in
    let lower = c.move_on.new.sums.lower.items in
    let row : IsRow m items old.covered.items old.waiting lower last =
    row_of_sums m items old.covered.items old.waiting last c.move_on.new.sums (omega (arith, c.requires.shortest))
    h.within (omega (arith, h.within, c.requires.few, c.requires.shortest)) c.move_on.ensures.places h.waits
    (moved (goal.at.offer_last-requires-clause-row c).After-move_on) c.requires.close in
    subst (λ (xs : List Sample). IsRow m xs now.covered.items now.waiting lower last)
    (sym c.move_on.ensures.read.items)
    (subst (λ (w : List Bool). IsRow m items now.covered.items w lower last) (sym c.know_limits.ensures.waiting)
    (subst (λ (l : Listed ℕ). IsRow m items l.items old.waiting lower last) (sym c.know_limits.ensures.covered) row))

scanned_all : (c : After-offer_last) → IsScanned (is_last_pair c.args.self.now.covered.items c.args.last) c.args.m
    (series_of c.args.samples.now.items) c.args.self.now.profile c.offer_last.new.self.profile
scanned_all c =
    let m = c.args.m in
    let last = c.args.last in
    let new = c.offer_last.new.self.profile in
    let items = c.args.samples.now.items in
    let now = c.know_limits.new.self in
    subst (λ (l : Listed ℕ). IsScanned (is_last_pair l.items last) m (series_of items) c.args.self.now.profile new)
    c.know_limits.ensures.covered
    (subst (λ (p : Profiled). IsScanned (is_last_pair now.covered.items last) m (series_of items) p new)
    c.know_limits.ensures.profile
    (subst (λ (xs : List Sample). IsScanned (is_last_pair now.covered.items last) m (series_of xs) now.profile new)
    c.move_on.ensures.read.items c.offer_last.ensures.scanned))

pub returns-clause-extended : goal.returns-clause-extended
returns-clause-extended c =
    let m = c.args.m in
    let last = c.args.last in
    let items = c.args.samples.now.items in
    let old = c.args.self.now in
    let h = c.requires.waiting in
    let scanned = scanned_all (goal.at.returns-clause-extended c).After-offer_last in
    let entries = scanned_places m items last (is_last_pair old.covered.items last) old.profile
    c.offer_last.new.self.profile (omega (arith, c.requires.shortest)) h.within h.windows_are scanned in
    record {
      covered = ap (λ (l : Listed ℕ). l.items) (c.offer_last.ensures.covered ∙ c.know_limits.ensures.covered);
      waiting = c.offer_last.ensures.waiting ∙ c.know_limits.ensures.waiting;
      range = c.offer_last.ensures.range ∙ c.know_limits.ensures.range;
      lasts = subst (AreSums m (series_of items) old.covered.items last) (sym c.offer_last.ensures.sums)
          (moved (goal.at.returns-clause-extended c).After-move_on);
      places = subst (HavePlaces (last + 1)) (sym c.offer_last.ensures.sums) c.move_on.ensures.places;
      limits_are = c.offer_last.ensures.limits.places ∙ entries.sides.right;
      scanned = scanned;
      limits = λ _. c.offer_last.ensures.limits;
    }

pub returns-clause-room : goal.returns-clause-room
returns-clause-room c =
    let scanned = scanned_all (goal.at.returns-clause-room c).After-offer_last in
    omega (
      arith,
      scanned.spare,
      c.offer_last.ensures.spare,
      c.know_limits.ensures.spare,
      ap (λ (s : Sums). room_of s) c.offer_last.ensures.sums,
      c.move_on.ensures.room,
      ap (λ (s : Sums). room_of s) c.know_limits.ensures.sums,
    )
