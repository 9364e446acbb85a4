use Rattle.std.proofs.Common.{◌∙◌, ◌∷◌, [], refl, arith, length, map, sym}
use Rattle.mp_defs.specs.Series.{series_of}
use Rattle.mp_text.specs.SampleText.{reading}
use Rattle.mp_text.specs.Table.{data_records}
use Rattle.mp_requests.specs.Answering.{state_over}
use Rattle.mp_commands.proofs.LazyLemmas.{few_in_first, lazily_loaded}
use Rattle.mp_commands.proofs.LoadLemmas.{even_table, table_is, table_long}
use Rattle.mp_commands.proofs.lazy_command.prepare_column.Goals as goal

pub series-requires : goal.series-requires
series-requires c =
    let cols = c.args.load.column ∷ [] in
    let t =
    table_is (reading c.args.context.mode.width c.scale-scale.result) cols
    (data_records c.args.load.header c.args.bytes.now) (map series_of c.in-Ok.bundle) c.in-Ok.ensures.table in
    omega (arith, table_long cols c.in-Ok.bundle t)

pub uncovered_part-requires-clause-few : goal.uncovered_part-requires-clause-few
uncovered_part-requires-clause-few c =
    let cols = c.args.load.column ∷ [] in
    let t =
    table_is (reading c.args.context.mode.width c.scale-scale.result) cols
    (data_records c.args.load.header c.args.bytes.now) (map series_of c.in-Ok.bundle) c.in-Ok.ensures.table in
    few_in_first c.in-Ok.bundle c.series.result.now (length t.rows) (even_table cols c.in-Ok.bundle t) t.few
    c.series.ensures

pub returns-clause-ok : goal.returns-clause-ok
returns-clause-ok c = λ stores files stand found.
    let load = c.args.load in
    let held = c.args.stores.now in
    let there = stand.as_many in
    lazily_loaded (state_over c.args.context held stores) files load.slot load.file.now load.column load.header
    c.args.bytes.now c.in-Ok.bundle c.series.result.now c.in_ok-part.part.items c.len-samples.result _
    c.requires.unrefused (omega (arith, there, c.window_len.ensures.slots, c.requires.slot)) found c.requires.within
    (rw (sym c.scale-scale.ensures.value) c.in-Ok.ensures.table) c.series.ensures c.in_ok-part.ensures.items
    c.len-samples.ensures.length refl refl

pub returns-clause-ready : goal.returns-clause-ready
returns-clause-ready c = record {
  can = record {
    within = c.requires.slot;
    window = c.in_ok-part.ensures.m ∙ c.window_len.ensures.m;
    uncovered = c.in_ok-part.ensures.covered;
  };
  kept = λ h. absurd (cc h);
  renewed = λ other put. put;
  advanced = λ other cover. absurd (cc cover);
  adds = tt;
  names = tt;
  ends = refl;
  mode = refl;
}
