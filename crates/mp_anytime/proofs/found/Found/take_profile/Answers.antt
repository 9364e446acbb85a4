use Rattle.std.proofs.Common.{◌∙◌, ap, length, sym}
use Rattle.mp_partial.specs.Profiled.{Profiled}
use Rattle.mp_partial.specs.Values.{merged_columns}
use Rattle.mp_anytime.specs.Bounds.{has_number, columns_of, kept_sides}
use Rattle.mp_anytime.proofs.found.Found.take_profile.Goals as goal

pub take_sides-requires : goal.take_sides-requires
take_sides-requires c = record {
  places = c.requires.places ∙ sym (ap (λ (p : Profiled). length p.all) c.round_by.ensures.profile);
}

pub returns-clause-value : goal.returns-clause-value
returns-clause-value c =
    c.take_sides.ensures.value
    ∙ ap (λ (p : Profiled). merged_columns (columns_of p) (columns_of (kept_sides has_number c.args.profile.now)))
    c.round_by.ensures.profile

pub returns-clause-places : goal.returns-clause-places
returns-clause-places c =
    c.take_sides.ensures.places ∙ ap (λ (p : Profiled). length p.all) c.round_by.ensures.profile

pub returns-clause-room : goal.returns-clause-room
returns-clause-room c = c.take_sides.ensures.room ∙ ap (λ (p : Profiled). p.room) c.round_by.ensures.profile
