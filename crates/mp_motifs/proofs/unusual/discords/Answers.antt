use Rattle.std.proofs.Common.{refl, sym, ap, ◌∙◌, subst, map}
use Rattle.mp_motifs.specs.Described.{AreDiscords}
use Rattle.mp_motifs.specs.Retold.{discord_of}
use Rattle.mp_motifs.proofs.DiscordLemmas.{chosen_are_discords}
use Rattle.mp_motifs.proofs.unusual.discords.Goals as goal

pub returns : goal.returns
returns c =
    let chosen = chosen_are_discords _ (λ a b. refl) c.args.profile.now _ c.args.excl c.args.count
    (c.as_slice.ensures.value ∙ c.in_ok-keys.ensures) in
    let told = c.in_ok-told.ensures ∙ ap (map discord_of) (c.as_slice-2.ensures.value ∙ c.in_ok-found.ensures)
    ∙ chosen.0 in
    record {
      discords = told;
      described = subst (AreDiscords c.args.profile.now c.args.excl c.args.count) (sym told) chosen.1;
    }
