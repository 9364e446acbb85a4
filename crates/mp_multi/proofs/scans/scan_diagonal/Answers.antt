use Rattle.std.proofs.Common.{◌≡◌, ◌+◌, ◌∙◌, arith, subst}
use Rattle.mp_multi.specs.Among.{on_diagonal, TakesAmong}
use Rattle.mp_multi.proofs.ScanLemmas.{second_at, pair_offered, none_offered, places_stay}
use Rattle.mp_multi.proofs.scans.scan_diagonal.Goals as goal

pub loop-i-init : goal.loop-i-init
loop-i-init g c =
    let channels = c.args.channels.now in
    let old = c.args.into.now.items in
    let items : TakesAmong (on_diagonal c.args.row (c.args.row + 1) c.args.apart) channels.m channels.k
    channels.list.now old c.offer_both.new.into.items =
    pair_offered channels.m channels.k channels.list.now c.args.row c.args.row c.args.apart old old
    c.offer_both.new.into.items c.value.result c.requires.places (omega arith) (omega arith)
    (c.value.ensures c.args.row (c.args.row + c.args.apart) c.at-running.ensures)
    (none_offered channels.m channels.k channels.list.now c.args.row c.args.apart old c.requires.places)
    c.offer_both.ensures.items in
    record {
      running = c.at-running.ensures;
      items = items;
      places = places_stay (on_diagonal c.args.row (c.args.row + 1) c.args.apart) channels.m channels.k
          channels.list.now old c.offer_both.new.into.items c.requires.places items;
      spare = c.offer_both.ensures.spare;
    }

pub loop-i-preserved : goal.loop-i-preserved
loop-i-preserved g c =
    let channels = c.args.channels.now in
    let old = c.args.into.now.items in
    let i = c.loop-i.i in
    let running = second_at channels.m channels.list.now (i + 1) (i + c.args.apart + 1) (i + 1 + c.args.apart)
    c.move_on.new.running (omega arith) c.move_on.ensures in
    let items : TakesAmong (on_diagonal c.args.row (i + 1 + 1) c.args.apart) channels.m channels.k
    channels.list.now old c.offer_both-in-loop-i.new.into.items =
    pair_offered channels.m channels.k channels.list.now c.args.row (i + 1) c.args.apart old c.loop-i.into.items
    c.offer_both-in-loop-i.new.into.items c.value-in-loop-i.result c.requires.places (omega arith) (omega arith)
    (c.value-in-loop-i.ensures (i + 1) (i + 1 + c.args.apart) running) c.loop-i.invariant.items
    c.offer_both-in-loop-i.ensures.items in
    record {
      running = running;
      items = items;
      places = places_stay (on_diagonal c.args.row (i + 1 + 1) c.args.apart) channels.m channels.k channels.list.now
          old c.offer_both-in-loop-i.new.into.items c.requires.places items;
      spare = c.offer_both-in-loop-i.ensures.spare ∙ c.loop-i.invariant.spare;
    }

pub returns-clause-items : goal.returns-clause-items
returns-clause-items g c =
    let channels = c.args.channels.now in
    let last : c.loop-i.i + 1 ≡ c.args.end = omega arith in
    subst (λ end. TakesAmong (on_diagonal c.args.row end c.args.apart) channels.m channels.k channels.list.now
    c.args.into.now.items c.loop-i.into.items) last c.loop-i.invariant.items
