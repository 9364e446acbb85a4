use Rattle.std.proofs.Common.{◌∙◌, [], ap, length, map, refl, sym}
use Rattle.std.proofs.lemmas.List.{length-map, with_items_is}
use Rattle.mp_bytes.specs.Fields.{fields_in}
use Rattle.mp_defs.specs.Series.{series_of}
use Rattle.mp_replies.specs.AppendCommand.{items_of, read_items, rows_in}
use Rattle.mp_stores.specs.Stores.{lists_in}
use Rattle.mp_commands.proofs.AppendLemmas.{added_long, next_good, no_columns, read_more, rows_of_good}
use Rattle.mp_commands.proofs.append_command.read_items.Goals as goal

pub loop-item-init : goal.loop-item-init
loop-item-init c =
    let width = c.args.form.width in
    let scale = c.args.form.scale in
    let channels = c.args.form.channels in
    let read = read_items width scale channels (fields_in c.args.items.now) in
    record {
      number = 1;
      done = [];
      rest = rows_in read;
      left_are =
          ap (λ left. items_of width scale channels 1 (fields_in left.text.now))
          c.into_iter-item-iterator.ensures.into_iter_gives
          ∙ rows_of_good read c.requires.good;
      all_are = refl;
      series_are = ap (map series_of) c.in_ok-added.ensures ∙ no_columns 0 channels;
    }

pub read_item-requires-clause-lists : goal.read_item-requires-clause-lists
read_item-requires-clause-lists c =
    let lists = c.loop-item.added.items in
    let read = c.loop-item.invariant in
    ap length c.deref_mut.ensures.value
    ∙ (sym (length-map lists (λ samples. samples.items))
    ∙ added_long c.args.form.channels read.done (lists_in lists) read.series_are)

pub read_item-requires-clause-good : goal.read_item-requires-clause-good
read_item-requires-clause-good c = next_good c.loop-item.invariant c.in-Some.ensures.steps

pub loop-item-preserved : goal.loop-item-preserved
loop-item-preserved c =
    let same =
    with_items_is c.loop-item.added c.read_item.new.added
    (c.read_item.auto.added ∙ (ap length c.deref_mut.ensures.value ∙ sym c.loop-item.added.ok.0)) in
    rw same
    (read_more c.loop-item.invariant c.in-Some.ensures.steps
    (rw c.deref_mut.ensures.value at c.in_ok-read_item.ensures))
