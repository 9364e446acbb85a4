use Rattle.std.proofs.Common.{◌≡◌, ◌∙◌, [], refl, ap, arith, length, map, sym}
use Rattle.std.specs.Prelude.{unwrap_or}
use Rattle.mp_defs.specs.Series.{series_of}
use Rattle.mp_replies.specs.Change as change
use Rattle.mp_replies.specs.Numbers.{columns}
use Rattle.mp_text.specs.SampleText.{reading}
use Rattle.mp_text.specs.Table.{data_records}
use Rattle.std.proofs.lemmas.Simd.{map-map}
use Rattle.mp_requests.specs.Answering.{state_over}
use Rattle.mp_commands.proofs.LoadLemmas.{can_put_table, even_table, few_columns, loaded, some_columns, table_is}
use Rattle.mp_commands.proofs.LoadLemmas.{table_long}
use Rattle.mp_commands.proofs.load_command.prepare_table.Goals as goal

pub read_table-requires-clause-some : goal.read_table-requires-clause-some
read_table-requires-clause-some g c =
    let some = some_columns c.args.load.columns.field.now c.in_ok-columns.columns.items c.in_ok-columns.ensures in
    omega (arith, ap length c.as_slice.ensures.value, some)

pub read_table-requires-clause-few : goal.read_table-requires-clause-few
read_table-requires-clause-few g c =
    let few = few_columns c.args.load.columns.field.now c.in_ok-columns.columns.items c.in_ok-columns.ensures in
    omega (arith, ap length c.as_slice.ensures.value, few)

pub series-requires : goal.series-requires
series-requires g c =
    let cols = c.as_slice.result.now in
    let t =
    table_is (reading c.args.context.mode.width c.scale-scale.result) cols (data_records c.args.load.header c.args.bytes.now)
    (map series_of c.in-Ok.bundle)
    c.in-Ok.ensures.table in
    let some = some_columns c.args.load.columns.field.now c.in_ok-columns.columns.items c.in_ok-columns.ensures in
    omega (arith, ap length c.as_slice.ensures.value, some, table_long cols c.in-Ok.bundle t)

pub channels_of-requires-after_bounds : goal.channels_of-requires-after_bounds
channels_of-requires-after_bounds g c = λ κs outlives k d within.
    let cols = c.as_slice.result.now in
    let t =
    table_is (reading c.args.context.mode.width c.scale-scale.result) cols (data_records c.args.load.header c.args.bytes.now)
    (map series_of c.in-Ok.bundle)
    c.in-Ok.ensures.table in
    omega (arith, even_table cols c.in-Ok.bundle t k d within, t.few)

pub returns-clause-ok : goal.returns-clause-ok
returns-clause-ok g c = λ stores files stand found.
    let load = c.args.load in
    let cols = unwrap_or (columns load.columns.field.now) [] in
    let scale = sym c.scale-scale.ensures.value in
    let same : cols ≡ c.as_slice.result.now =
    ap (λ o. unwrap_or o []) c.in_ok-columns.ensures ∙ sym c.as_slice.ensures.value in
    let channels = c.in_ok-channels.channels.items in
    let samples = length c.series.result.now in
    loaded (state_over c.args.context c.args.stores.now stores) files load.slot load.file.now cols load.header
    c.args.bytes.now
    c.in-Ok.bundle c.series.result.now samples _ (c.requires.unrefused stores stand) found
    c.requires.within
    (rw (scale, same) c.in-Ok.ensures.table) c.series.ensures refl refl
    (ap (change.PutChannels load.slot)
    (sym (map-map series_of (λ channel. channel.items) channels)
    ∙ ap (map series_of) c.in_ok-channels.ensures.items))

pub returns-clause-ready : goal.returns-clause-ready
returns-clause-ready g c = record {
  can =
      let cols = c.as_slice.result.now in
      let t =
      table_is (reading c.args.context.mode.width c.scale-scale.result) cols (data_records c.args.load.header c.args.bytes.now)
      (map series_of c.in-Ok.bundle) c.in-Ok.ensures.table in
      let some = some_columns c.args.load.columns.field.now c.in_ok-columns.columns.items c.in_ok-columns.ensures in
      let few = few_columns c.args.load.columns.field.now c.in_ok-columns.columns.items c.in_ok-columns.ensures in
      let long = ap length c.as_slice.ensures.value in
      let m = c.plan.ensures ∙ c.window_len.ensures.m in
      can_put_table c.args.stores.now.m c.args.load.slot cols c.in-Ok.bundle c.in_ok-channels.channels.items
      c.requires.slot
      (omega (arith, long, some)) (omega (arith, long, few)) t c.in_ok-channels.ensures.items
      (rw m at c.in_ok-channels.ensures.window);
  kept = λ h. absurd (cc h);
  renewed = λ other put. put;
  advanced = λ other cover. absurd (cc cover);
  adds = tt;
  names = tt;
  ends = refl;
  mode = refl;
}
