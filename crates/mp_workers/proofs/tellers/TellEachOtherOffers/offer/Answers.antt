use Rattle.std.proofs.Common.{◌≡◌, ◌+◌, ◌<◌, ◌≤◌, ◌∙◌, length, sym, ap, subst, arith}
use Rattle.std.specs.Prelude.{slice_index_or, Some, None}
use Rattle.mp_defs.specs.Least.{near_at}
use Rattle.mp_defs.specs.Window.{excl}
use Rattle.mp_workers.specs.Entries.{EntriesState, count_of, whole_of}
use Rattle.mp_workers.specs.Tellers.{IsNoLater}
use Rattle.mp_workers.proofs.Entering.{whole_count}
use Rattle.mp_workers.proofs.Knowing.{pair_left, pair_right}
use Rattle.mp_workers.proofs.tellers.TellEachOtherOffers.offer.Goals as goal

pub tell-requires-clause-place : goal.tell-requires-clause-place
tell-requires-clause-place c =
    omega (
      arith,
      c.tell.invariant.count_is,
      ap (λ t. count_of t.series) c.tell.view_is,
      c.requires.may.order,
      c.requires.may.place,
      whole_count c.args.into.now.series,
    )

pub tell-requires-clause-within : goal.tell-requires-clause-within
tell-requires-clause-within c =
    let s = c.args.into.now.series in
    let near = near_at c.args.column c.args.dist.0 in
    let count : c.tell.inside.count ≡ count_of s =
    c.tell.invariant.count_is ∙ ap (λ t. count_of t.series) c.tell.view_is in
    let apart : c.args.row + (excl s.m + 1) ≤ c.args.column =
    omega (arith, c.if-row-into.true, c.into.invariant.apart_is, ap (λ t. excl t.series.m) c.into.view_is) in
    subst (λ n. IsNoLater (slice_index_or (whole_of s) (n + c.args.row) None) (Some near)) (sym count)
    (pair_right s c.args.row c.args.column c.args.dist.0 apart c.requires.may.place c.requires.may.is)

pub tell-requires-then-row-into-clause-place : goal.tell-requires-then-row-into-clause-place
tell-requires-then-row-into-clause-place c =
    subst (λ (s : EntriesState). c.args.column < length (whole_of s)) (sym c.tell-then-row-into.ensures.series)
    (omega (arith, c.requires.may.place, whole_count c.args.into.now.series))

pub tell-requires-then-row-into-clause-within : goal.tell-requires-then-row-into-clause-within
tell-requires-then-row-into-clause-within c =
    let s = c.args.into.now.series in
    let apart : c.args.row + (excl s.m + 1) ≤ c.args.column =
    omega (arith, c.if-row-into.true, c.into.invariant.apart_is, ap (λ t. excl t.series.m) c.into.view_is) in
    subst (λ (e : EntriesState). IsNoLater (slice_index_or (whole_of e) c.args.column None)
    (Some (near_at c.args.row c.args.dist.0))) (sym c.tell-then-row-into.ensures.series)
    (pair_left s c.args.row c.args.column c.args.dist.0 apart c.requires.may.place c.requires.may.is)
