use Rattle.std.proofs.Common.{ℕ, ◌+◌, List, ap, arith, subst, sym}
use Rattle.mp_defs.specs.Series.{series_of}
use Rattle.mp_tiles.specs.Scanning.{IsScanned}
use Rattle.mp_anytime.specs.Kept.{is_last_pair}
use Rattle.mp_anytime.specs.Offers.{IsRow, is_last_from}
use Rattle.mp_anytime.proofs.RowPairs.{all_from}
use Rattle.mp_anytime.proofs.coverage.Coverage.offer_last.Goals as goal

pub invariant_of-row : goal.invariant_of-row
invariant_of-row c =
    let m = c.args.m in
    let items = c.args.samples.now.items in
    let old = c.args.self.now in
    let last = c.args.last in
    record {
      row = subst (λ (ds : List ℕ). IsRow m items ds old.waiting c.as_slice-2.result.now last)
          (sym c.as_slice.ensures)
          (subst (λ (xs : List ℕ). IsRow m items old.covered.items old.waiting xs last) (sym c.as_slice-2.ensures)
          c.requires.row);
    }

pub returns-then-are_all-clause-scanned : goal.returns-then-are_all-clause-scanned
returns-then-are_all-clause-scanned c =
    let m = c.args.m in
    let items = c.args.samples.now.items in
    let old = c.args.self.now in
    let last = c.args.last in
    let first = c.excl.result + 1 in
    all_from m items old.covered.items last first old.profile c.offer_row.new.profile c.requires.shortest
    c.requires.row.within (ap (λ n. n + 1) c.excl.ensures) c.requires.diagonals c.requires.ready.places
    (subst (λ (ds : List ℕ). IsScanned (is_last_from ds last first last) m (series_of items) old.profile
    c.offer_row.new.profile) c.as_slice.ensures c.offer_row.ensures.scanned)

pub returns-else-are_all-clause-scanned : goal.returns-else-are_all-clause-scanned
returns-else-are_all-clause-scanned c =
    subst (λ (ds : List ℕ). IsScanned (is_last_pair ds c.args.last) c.args.m (series_of c.args.samples.now.items)
    c.args.self.now.profile c.offer_listed.new.profile) c.as_slice.ensures c.offer_listed.ensures.scanned
