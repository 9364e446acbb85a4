use Rattle.std.proofs.Common.{◌∙◌, List, arith, get_or, subst, sym}
use Rattle.std.proofs.lemmas.List.{get_or_default}
use Rattle.mp_nums.specs.declared.samples.Sample.{Sample}
use Rattle.mp_stream.specs.Streams.{Streamed}
use Rattle.mp_stores.specs.Channels.{HasGrown}
use Rattle.mp_stores.specs.Stores.{lists_in, nothing}
use Rattle.mp_stores.proofs.GroupLemmas.{fits_at, grown_next, list_at, lists_long, rest_kept}
use Rattle.mp_stores.proofs.groups.add_all.Goals as goal

pub bounds-added-k : goal.bounds-added-k
bounds-added-k c =
    let long = lists_long c.args.channels.now c.args.added.now c.requires in
    omega (arith, long, c.loop-k.auto.channels)

pub add-requires-clause-room : goal.add-requires-clause-room
add-requires-clause-room c =
    let fits =
    fits_at c.args.channels.now c.loop-k.channels c.args.added.now c.loop-k.k c.index-channels-k.result
    c.index-added-k.result c.requires (omega arith) (omega (arith, c.loop-k.auto.channels))
    (c.loop-k.invariant.rest c.loop-k.k (omega arith)) c.index-added-k.is in
    rw c.as_slice.ensures.value fits.room

pub add-requires-clause-fits : goal.add-requires-clause-fits
add-requires-clause-fits c =
    let fits =
    fits_at c.args.channels.now c.loop-k.channels c.args.added.now c.loop-k.k c.index-channels-k.result
    c.index-added-k.result c.requires (omega arith) (omega (arith, c.loop-k.auto.channels))
    (c.loop-k.invariant.rest c.loop-k.k (omega arith)) c.index-added-k.is in
    rw c.as_slice.ensures.value fits.fits

pub loop-k-preserved : goal.loop-k-preserved
loop-k-preserved c =
    let old = c.args.channels.now in
    let now = c.loop-k.channels in
    let k = c.loop-k.k in
    let long = lists_long old c.args.added.now c.requires in
    let list =
    list_at c.args.added.now k c.index-added-k.result (omega (arith, long, c.loop-k.auto.channels))
    c.index-added-k.is in
    let here =
    get_or_default now k c.index-channels-k.result nothing (omega arith)
    ∙ c.loop-k.invariant.rest k (omega arith) in
    record {
      done =
          grown_next old now (lists_in c.args.added.now) k c.add.new.self (omega arith)
          (subst (λ (samples : List Sample). HasGrown samples (get_or old k nothing) c.add.new.self)
          (c.as_slice.ensures.value ∙ sym list)
          (subst (λ (channel : Streamed). HasGrown c.as_slice.result.now channel c.add.new.self) here
          c.add.ensures))
          c.loop-k.invariant.done;
      rest = rest_kept old now k c.add.new.self c.loop-k.invariant.rest;
    }
