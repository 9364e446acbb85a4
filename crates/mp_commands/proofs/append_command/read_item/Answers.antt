use Rattle.std.proofs.Common.{◌∙◌, ◌<◌, ap, arith, length}
use Rattle.std.specs.Prelude.{option_map}
use Rattle.std.specs.Iterator.Adapters.{enumerate_count, enumerate_source}
use Rattle.std.proofs.lemmas.List.{length-set}
use Rattle.mp_bytes.specs.Values.{values_left}
use Rattle.mp_defs.specs.Series.{reading_of}
use Rattle.mp_commands.proofs.AppendLemmas.{good_fits, next_read, series_pushed, spread_all, spread_begun, spread_more}
use Rattle.mp_commands.proofs.append_command.read_item.Goals as goal

pub loop-k-init : goal.loop-k-init
loop-k-init c =
    let width = c.args.form.width in
    let scale = c.args.form.scale in
    let channels = c.args.form.channels in
    let item = c.args.item.now in
    let begun = c.into_iter-k-iterator.ensures.into_iter_gives in
    let count = ap enumerate_count begun ∙ c.enumerate-k-items.ensures.count in
    let left =
    ap (λ values. values_left (option_map (λ text. text.now) values.left))
    (ap enumerate_source begun ∙ c.enumerate-k-items.ensures.source)
    ∙ c.of.ensures in
    record {
      counted =
          omega (arith, count, ap length left, c.requires.lists, good_fits width scale channels item c.requires.good);
      spread = spread_begun width scale channels _ item _ _ c.requires.good left count;
    }

pub unwrap-requires : goal.unwrap-requires
unwrap-requires c =
    next_read c.loop-k.invariant.spread c.in-Some.ensures.steps.0 _ c.read_sample.ensures.fault

pub bounds-added-k : goal.bounds-added-k
bounds-added-k c =
    omega (arith, c.in-Some.ensures.steps.1, c.loop-k.invariant.counted, ap length c.in-Some.ensures.steps.0)

pub loop-k-preserved : goal.loop-k-preserved
loop-k-preserved c =
    let added = c.loop-k.added in
    let long = ap length c.in-Some.ensures.steps.0 in
    let within : c.in-Some.k < length added =
    omega (arith, c.in-Some.ensures.steps.1, c.loop-k.invariant.counted, long) in
    let read = rw c.unwrap.ensures at c.read_sample.ensures.sample in
    record {
      counted =
          omega (
            arith,
            c.in-Some.ensures.steps.2,
            c.loop-k.invariant.counted,
            long,
            length-set added c.in-Some.k c.push.new.self,
          );
      spread =
          spread_more c.loop-k.invariant.spread c.in-Some.ensures.steps.0 (reading_of c.unwrap.result)
          c.in-Some.ensures.steps.1 c.in-Some.ensures.steps.2 read
          (series_pushed added c.in-Some.k c.index-added-k.result c.push.new.self c.unwrap.result within
          c.in_ok-push.ensures.items);
    }

pub returns : goal.returns
returns c = λ row good.
    spread_all c.args.form.width c.args.form.scale c.args.form.channels _ c.args.item.now _ _ _ row c.loop-k.invariant.spread
    c.in-None.ensures.steps.0.0 good
