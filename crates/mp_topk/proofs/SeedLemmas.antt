-- Pairs that are offered ahead of all others leave the ranks of all windows as they are.
use Rattle.std.proofs.Common.{◌≡◌, ℕ, ◌+◌, ◌≤◌, List, length, map, Bool, refl, sym, ap, ◌∙◌, arith}
use Rattle.std.specs.Prelude.{◌||◌, nat_lt}
use Rattle.std.specs.Int.{abs_diff}
use Rattle.std.proofs.lemmas.Bool.Decides.{nat_tests}
use Rattle.mp_nums.specs.declared.samples.Sample.{Sample}
use Rattle.mp_defs.specs.Series.{Series, series_of}
use Rattle.mp_defs.specs.Window.{is_allowed, windows}
use Rattle.mp_defs.specs.Profile.{windows_of}
use Rattle.mp_scans.specs.Offering.{in_block}
use Rattle.mp_tiles.specs.Among.{either_way}
use Rattle.mp_results.specs.Ranks.{ranks_of}
use Rattle.mp_topk.specs.Ranking.{HasRanks, Ranked, merged_lists, merged_ranks, slots_of}
use Rattle.mp_topk.specs.RankLaws.{ranks_merge}
use Rattle.mp_topk.specs.Taking.{lists_among}
use Rattle.mp_topk.specs.Tiling.{among_value}
use Rattle.mp_topk.specs.TileLaws.{among_and_others, value_has_ranks}
use Rattle.mp_topk.specs.OfferLaws.{AreOffered}
use Rattle.mp_topk.proofs.Taken.{merged_taken, taken_value}

-- pairs that start far enough apart are among those that do
pub far_pairs : (e first w w' i j : ℕ) → e + 1 ≤ first
    → (either_way (in_block first w 0 w') i j || nat_lt e (abs_diff i j)) ≡ nat_lt e (abs_diff i j)
far_pairs e first w w' i j le = grind (arith, nat_tests, le)

-- ranks with what these pairs give
abbrev with_pairs : ℕ → (ℕ → ℕ → Bool) → ℕ → Series → Ranked → Ranked
with_pairs k pairs m a r = record {
  lists = merged_lists k r.lists (lists_among k (either_way pairs) m a);
  spare = r.spare;
}

-- what these pairs make of the new ranks they make of the old ones too
abbrev pub AreAhead : ℕ → (ℕ → ℕ → Bool) → ℕ → Series → Series → Ranked → Ranked → Type 0
AreAhead k pairs m a b old new =
    (after : Ranked) → AreOffered k m a b pairs new after → AreOffered k m a b pairs old after

-- there are ranks of each window
pub record HasAll (k m : ℕ) (samples : List Sample) (r : Ranked) : Type 0 where
  pub ranks : HasRanks k (windows (length samples) m) (map slots_of r.lists)
  pub places : length r.lists ≡ windows_of m (series_of samples)

offered_then : (k : ℕ) (pairs : ℕ → ℕ → Bool) (m : ℕ) (samples : List Sample) (b : Series) (old new : Ranked)
    → AreAhead k pairs m (series_of samples) b old new → HasAll k m samples new
    → AreOffered k m (series_of samples) b pairs old (with_pairs k pairs m (series_of samples) new)
offered_then k pairs m samples b old new h has =
    let a = series_of samples in
    h (with_pairs k pairs m a new) (record {
      lists = merged_taken k (either_way pairs) m a new.lists has.places has.ranks.ranks;
      spare = refl;
    })

pub ahead_spare : (k : ℕ) (pairs : ℕ → ℕ → Bool) (m : ℕ) (samples : List Sample) (b : Series) (old new : Ranked)
    → AreAhead k pairs m (series_of samples) b old new → HasAll k m samples new → new.spare ≡ old.spare
ahead_spare k pairs m samples b old new h has = (offered_then k pairs m samples b old new h has).spare

-- they give both the same
ahead_among : (k : ℕ) (pairs : ℕ → ℕ → Bool) (m : ℕ) (samples : List Sample) (b : Series) (old new : Ranked)
    → AreAhead k pairs m (series_of samples) b old new → HasAll k m samples old → HasAll k m samples new
    → merged_ranks k (map slots_of new.lists) (among_value k (either_way pairs) m (series_of samples))
    ≡ merged_ranks k (map slots_of old.lists) (among_value k (either_way pairs) m (series_of samples))
ahead_among k pairs m samples b old new h before has =
    let a = series_of samples in
    let after = with_pairs k pairs m a new in
    let may = either_way pairs in
    sym (taken_value k may m a new.lists after.lists has.places has.ranks.ranks
    (merged_taken k may m a new.lists has.places has.ranks.ranks))
    ∙ taken_value k may m a old.lists after.lists before.places before.ranks.ranks
    (offered_then k pairs m samples b old new h has).lists

-- and so do all pairs that may be compared, among which they are
pub ahead_value : (k : ℕ) (pairs : ℕ → ℕ → Bool) (m : ℕ) (samples : List Sample) (b : Series) (old new : Ranked)
    → AreAhead k pairs m (series_of samples) b old new → HasAll k m samples old → HasAll k m samples new
    → ((i j : ℕ) → (either_way pairs i j || is_allowed m i j) ≡ is_allowed m i j)
    → merged_ranks k (map slots_of new.lists) (map slots_of (ranks_of k m (series_of samples)))
    ≡ merged_ranks k (map slots_of old.lists) (map slots_of (ranks_of k m (series_of samples)))
ahead_value k pairs m samples b old new h before has may =
    let a = series_of samples in
    let w = windows (length samples) m in
    let some = among_value k (either_way pairs) m a in
    let all = map slots_of (ranks_of k m a) in
    let some_has = value_has_ranks k (either_way pairs) m samples in
    let all_has = value_has_ranks k (is_allowed m) m samples in
    let absorbed : merged_ranks k some all ≡ all = among_and_others k pairs (is_allowed m) m a (λ i j _ _. may i j) in
    ap (merged_ranks k (map slots_of new.lists)) (sym absorbed)
    ∙ sym ((ranks_merge k).associative w (map slots_of new.lists) some all has.ranks some_has all_has)
    ∙ ap (λ v. merged_ranks k v all) (ahead_among k pairs m samples b old new h before has)
    ∙ (ranks_merge k).associative w (map slots_of old.lists) some all before.ranks some_has all_has
    ∙ ap (merged_ranks k (map slots_of old.lists)) absorbed
