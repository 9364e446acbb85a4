use Rattle.std.proofs.Common.{◌+◌, get_or, ap, sym, ◌∙◌}
use Rattle.std.specs.Prelude.{None}
use Rattle.std.specs.Option.{option_map}
use Rattle.mp_defs.specs.Series.{series_of}
use Rattle.mp_defs.specs.SeriesLaws.{series_are_of_samples}
use Rattle.mp_results.specs.Pan.{pair_of}
use Rattle.mp_pan.specs.Ranges.{window_of}
use Rattle.mp_pan.proofs.RowLemmas.{best_found, discord_found, same_row}
use Rattle.mp_pan.proofs.rows.row_of.Goals as goal

pub returns : goal.returns
returns c =
    let range = c.args.range.now in
    let found = c.args.found.now in
    let a = series_of range.samples.now in
    let length = range.lo + c.args.place in
    same_row length c.windows.result _ c.pair.result _ c.discord.result _
    (c.windows.ensures ∙ sym (series_are_of_samples.windows_are length range.samples.now))
    (c.pair.ensures ∙ ap (option_map pair_of) (c.best.ensures
    ∙ ap (λ n. window_of (get_or found.best_starts n None) (get_or found.best_nearest n None)) c.from.ensures
    ∙ best_found range.lo range.count a found c.args.place c.requires.found c.requires.place))
    (c.discord.ensures
    ∙ ap (λ n. window_of (get_or found.discord_starts n None) (get_or found.discord_nearest n None)) c.from-2.ensures
    ∙ discord_found range.lo range.count a found c.args.place c.requires.found c.requires.place)
