use Rattle.std.proofs.Common.{◌≤◌, arith}
use Rattle.std.proofs.lemmas.List.Elements.{AllWithin-more_set}
use Rattle.mp_stores.proofs.GroupLemmas.{room_kept}
use Rattle.mp_stores.proofs.groups.reserve_all.Goals as goal

pub returns-in_err-reserve-clause-same : goal.returns-in_err-reserve-clause-same
returns-in_err-reserve-clause-same c =
    room_kept c.args.channels.now c.loop-k.channels c.loop-k.k c.reserve.new.self c.index-channels-k.result
    c.reserve.ensures.items c.reserve.ensures.m c.reserve.ensures.reads c.reserve.ensures.changed
    c.loop-k.invariant.same

pub loop-k-preserved : goal.loop-k-preserved
loop-k-preserved c = record {
  room =
      AllWithin-more_set c.loop-k.channels c.loop-k.k c.reserve.new.self (omega arith)
      (λ channel. c.args.more ≤ channel.spare) c.loop-k.invariant.room c.in_ok-reserve.ensures.ok;
  same =
      room_kept c.args.channels.now c.loop-k.channels c.loop-k.k c.reserve.new.self c.index-channels-k.result
      c.reserve.ensures.items c.reserve.ensures.m c.reserve.ensures.reads c.reserve.ensures.changed
      c.loop-k.invariant.same;
}

pub returns-clause-ok : goal.returns-clause-ok
returns-clause-ok c = λ j d lt. c.loop-k.invariant.room j d (omega arith) (omega arith)
