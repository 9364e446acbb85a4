-- The windows chosen by their peaks are the discords.
use Rattle.std.proofs.Common.{◌≡◌, ℕ, ◌+◌, List, [], ◌∷◌, map, refl, sym, ap, ◌∙◌, subst, arith}
use Rattle.std.specs.Prelude.{Option, Some, None, Contains, slice_get}
use Rattle.std.specs.Cmp.{IsTotalOrder, then_total, on_total, back_total, nat_cmp_total}
use Rattle.std.specs.List.{enumerate_from}
use Rattle.std.specs.Option.{option_map}
use Rattle.std.specs.Ordering.{nat_cmp, ordering_then}
use Rattle.std.specs.declared.cmp.Ordering.{Ordering}
use Rattle.std.proofs.lemmas.List.Elements.{All-weaker}
use Rattle.mp_nums.specs.declared.finds.Discord.{Discord}
use Rattle.mp_nums.specs.declared.nearest.Near.{Near}
use Rattle.mp_picks.specs.Picks.{picks}
use Rattle.mp_picks.specs.Laws.{IsRetelling}
use Rattle.mp_picks.specs.Candidates.{by_key, place_of, candidate_at, candidates}
use Rattle.mp_picks.specs.PickLaws.{picks_described}
use Rattle.mp_picks.specs.Retelling.{picks_retold}
use Rattle.mp_motifs.specs.declared.unusual.Peak.{Peak}
use Rattle.mp_results.specs.Discords.{discord_cmp, start_of, discord_at, with_entry, discords}
use Rattle.mp_motifs.specs.Described.{AreDiscords}
use Rattle.mp_motifs.specs.Retold.{peak_key, discord_of}
use Rattle.mp_motifs.proofs.Listed.{ComesFrom, source, listed}

discord_total : IsTotalOrder discord_cmp
discord_total =
    then_total (back_total (on_total (λ (d : Discord). d.near.dist.0) nat_cmp_total))
    (on_total (λ (d : Discord). d.start) nat_cmp_total)

by_place : {V K : Type 0} (f : V → K) (i : ℕ) (xs : List V) → map f xs ≡ map (λ (e : ℕ × V). f e.1)
    (enumerate_from i xs)
by_place f i [] = refl
by_place f i (x ∷ xs) = ap (λ ys. f x ∷ ys) (by_place f (i + 1) xs)

says : (i : ℕ) (x : Option Near) → option_map discord_of (candidate_at (i, peak_key x)) ≡ discord_at (i, x)
says i None = refl
says i (Some near) = refl

-- what is chosen by the order of the peaks
module _ (cmp : Peak → Peak → Ordering) (same : (a b : Peak) → cmp a b ≡ nat_cmp b.dist.0.0 a.dist.0.0) where
  retelling : IsRetelling cmp discord_cmp start_of discord_of
  retelling = record {
    order_is = λ a b. ap (λ o. ordering_then o (nat_cmp a.place b.place)) (sym (same a.key b.key));
    place_is = λ a. refl;
  }

  pub chosen_are_discords : (profile : List (Option Near)) (keys : List (Option Peak)) (zone count : ℕ)
      → keys ≡ map peak_key profile
      → (map discord_of (picks (by_key cmp) place_of zone count (candidates keys)) ≡ discords profile zone count)
      × AreDiscords profile zone count (discords profile zone count)
  chosen_are_discords profile keys zone count e =
      let told = picks_retold cmp discord_cmp start_of discord_of retelling (λ w. peak_key w.1) discord_at says
      profile zone count in
      let all = with_entry profile in
      let picked = (picks_described discord_cmp start_of zone count all (discords profile zone count) discord_total
      told.1).1 refl in (
        ap (λ ks. map discord_of (picks (by_key cmp) place_of zone count (candidates ks)))
            (e ∙ by_place peak_key 0 profile) ∙ told.0,
        record {
          few = picked.few;
          entries = All-weaker (Contains all) (λ d. slice_get profile d.start ≡ Some (Some d.near)) (entry_of profile)
              (discords profile zone count) picked.among;
          rising = picked.rising;
          apart = picked.apart;
          others = λ start near h. picked.others (record { start = start; near = near })
              (listed discord_at 0 profile (record { start = start; near = near }) (
                start,
                Some near,
                h,
                (let place : 0 + start ≡ start = omega arith in
                    ap (λ n. Some (record { start = n; near = near })) place),
              ));
        },
      )
    where
      entry_of : (profile : List (Option Near)) (d : Discord) → Contains (with_entry profile) d
          → slice_get profile d.start ≡ Some (Some d.near)
      entry_of profile d h = by_source (source discord_at 0 profile d h)
        where
          by_source : ComesFrom discord_at 0 profile d → slice_get profile d.start ≡ Some (Some d.near)
          by_source (k, None, e, f) = cc
          by_source (k, Some near, e, f) =
              let place : 0 + k ≡ k = omega arith in
              let found : Discord = record { start = 0 + k; near = near } in
              let same : found ≡ d = cc in
              subst (λ w. slice_get profile w.start ≡ Some (Some w.near)) same (ap (slice_get profile) place ∙ e)
