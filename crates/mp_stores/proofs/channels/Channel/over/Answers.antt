use Rattle.std.proofs.Common.{◌≡◌, ◌∙◌, List, Option, ap, arith, length, subst, sym}
use Rattle.mp_nums.specs.declared.nearest.Near.{Near}
use Rattle.mp_results.specs.Arcs.{indices_of, NameWithin}
use Rattle.mp_defs.specs.Series.{series_of}
use Rattle.mp_defs.specs.Window.{windows}
use Rattle.mp_replies.specs.ArcLaws.{name_windows}
use Rattle.mp_stores.proofs.ArcLemmas.{entries}
use Rattle.mp_stores.proofs.channels.Channel.over.Goals as goal

abbrev long : (c : goal.After-all)
    → length c.all.result.now ≡ windows (length c.args.stream.items) c.args.stream.m
long c = ap length (c.all.ensures.column ∙ c.profile.ensures.all) ∙ entries c.args.stream.m c.args.stream.items

pub follow-requires-clause-fewer : goal.follow-requires-clause-fewer
follow-requires-clause-fewer c = omega (arith, ap length c.requires.empty)

pub follow-requires-clause-room : goal.follow-requires-clause-room
follow-requires-clause-room c = omega (arith, long c, ap length c.requires.empty, c.requires.room)

pub follow-requires-clause-few : goal.follow-requires-clause-few
follow-requires-clause-few c = omega (arith, long c, c.requires.few, c.requires.shortest)

pub follow-requires-clause-named : goal.follow-requires-clause-named
follow-requires-clause-named c =
    subst (λ (column : List (Option Near)). NameWithin (indices_of column))
    (sym (c.all.ensures.column ∙ c.profile.ensures.all))
    (name_windows c.args.stream.m (series_of c.args.stream.items))
