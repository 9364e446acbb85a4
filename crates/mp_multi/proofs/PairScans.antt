-- What scans of some pairs and of others give together.
use Rattle.std.proofs.Common.{◌≡◌, ℕ, ◌<◌, List, inl, inr, length, get_or, map, Bool, true, false, refl, sym}
use Rattle.std.proofs.Common.{ap}
use Rattle.std.proofs.Common.{◌∙◌, arith, ◌⊎◌}
use Rattle.std.specs.Prelude.{Option, Some, None, ◌||◌}
use Rattle.std.specs.Option.{option_map}
use Rattle.std.proofs.lemmas.Bool.Decides.{nat_tests}
use Rattle.mp_nums.specs.declared.nearest.Near.{Near}
use Rattle.mp_nums.specs.declared.nearest.Sq.{Sq}
use Rattle.mp_nums.specs.declared.samples.Sample.{Sample}
use Rattle.mp_nums.specs.Listed.{Listed}
use Rattle.mp_defs.specs.Series.{series_of}
use Rattle.mp_defs.specs.Least.{at_distance}
use Rattle.mp_results.specs.Multi.{windows_in, pair_value}
use Rattle.mp_results.specs.Slide.{square}
use Rattle.mp_partial.specs.Values.{Column}
use Rattle.mp_scans.specs.Offering.{only}
use Rattle.mp_scans.specs.Slots.{Covers}
use Rattle.mp_tiles.specs.Among.{either_way}
use Rattle.mp_tiles.specs.OfferingLaws.{or_pairs}
use Rattle.mp_tiles.specs.Scanning.{taken}
use Rattle.mp_multi.specs.Blocks.{IsScan}
use Rattle.mp_multi.specs.Tiling.{window_count}
use Rattle.mp_multi.specs.TilingLaws.{windows_of_channels}
use Rattle.mp_multi.proofs.ChannelLemmas.{number_of_square}
use Rattle.mp_multi.proofs.ColumnLemmas.{Takes, takes_places, takes_same, takes_none, takes_then, takes_one}
use Rattle.mp_multi.proofs.ColumnLemmas.{takes_quiet, takes_covers}
use Rattle.mp_multi.proofs.ScanLemmas.{value_symmetric}

-- slots of the channels' windows
abbrev Slots : Type 0
Slots = Listed (Option Near)

-- the same pairs by another test
pub scan_same : (m k : ℕ) (channels : List (List Sample)) (p q : ℕ → ℕ → Bool) (old new : Slots)
    → IsScan m k channels p old new
    → ((i j : ℕ) → i < window_count m channels → j < window_count m channels → p i j ≡ q i j)
    → IsScan m k channels q old new
scan_same m k channels p q old new h same =
    let e : window_count m channels ≡ windows_in m (map series_of channels) = windows_of_channels m channels in
    record {
      items = takes_same (either_way p) (either_way q) (pair_value m k (map series_of channels))
          (windows_in m (map series_of channels)) old.items new.items h.items
          (λ i j lt lt'. ap (λ t. t || p j i) (same i j (omega (arith, lt, e)) (omega (arith, lt', e)))
          ∙ ap (λ t. q i j || t) (same j i (omega (arith, lt', e)) (omega (arith, lt, e))));
      spare = h.spare;
    }

-- these pairs, and then those
pub scan_then : (m k : ℕ) (channels : List (List Sample)) (p q r : ℕ → ℕ → Bool) (old mid new : Slots)
    → IsScan m k channels p old mid → IsScan m k channels q mid new
    → ((i j : ℕ) → i < window_count m channels → j < window_count m channels → (p i j || q i j) ≡ r i j)
    → IsScan m k channels r old new
scan_then m k channels p q r old mid new h g same =
    scan_same m k channels (λ i j. p i j || q i j) r old new
    (record {
      items = takes_same (λ i j. either_way p i j || either_way q i j) (either_way (λ i j. p i j || q i j))
          (pair_value m k (map series_of channels)) (windows_in m (map series_of channels)) old.items new.items
          (takes_then (either_way p) (either_way q) (pair_value m k (map series_of channels))
          (windows_in m (map series_of channels)) old.items mid.items new.items h.items g.items)
          (λ i j _ _. or_pairs (p i j) (q i j) (p j i) (q j i));
      spare = g.spare ∙ h.spare;
    })
    same

-- no pairs
pub scan_none : (m k : ℕ) (channels : List (List Sample)) (p : ℕ → ℕ → Bool) (old : Slots)
    → length old.items ≡ window_count m channels → ((i j : ℕ) → p i j ≡ false) → IsScan m k channels p old old
scan_none m k channels p old long none = record {
  items = takes_none (either_way p) (pair_value m k (map series_of channels)) (windows_in m (map series_of channels))
      old.items (long ∙ windows_of_channels m channels) (λ i j _ _. ap (λ t. t || p j i) (none i j) ∙ none j i);
  spare = refl;
}

pub scan_places : (m k : ℕ) (channels : List (List Sample)) (p : ℕ → ℕ → Bool) (old new : Slots)
    → length old.items ≡ window_count m channels → IsScan m k channels p old new
    → length new.items ≡ window_count m channels
scan_places m k channels p old new long h =
    takes_places (either_way p) (pair_value m k (map series_of channels)) (windows_in m (map series_of channels))
    old.items new.items (long ∙ windows_of_channels m channels) h.items
    ∙ sym (windows_of_channels m channels)

-- what gives a slot nothing still does
pub scan_covers : (m k : ℕ) (channels : List (List Sample)) (p : ℕ → ℕ → Bool) (old new : Slots) (i j v : ℕ)
    → length old.items ≡ window_count m channels → i < window_count m channels → IsScan m k channels p old new
    → Covers (get_or old.items i None) j v → Covers (get_or new.items i None) j v
scan_covers m k channels p old new i j v long lt h covers =
    takes_covers (either_way p) (pair_value m k (map series_of channels)) (windows_in m (map series_of channels))
    old.items new.items i j v (long ∙ windows_of_channels m channels)
    (omega (arith, lt, windows_of_channels m channels)) h.items covers

either_true : (s t : Bool) → (s || t) ≡ true → (s ≡ true) ⊎ (t ≡ true)
either_true true t e = inl refl
either_true false t e = inr e

-- pairs that give nothing
pub scan_quiet : (m k : ℕ) (channels : List (List Sample)) (p : ℕ → ℕ → Bool) (old : Slots)
    → length old.items ≡ window_count m channels
    → ((i j v : ℕ) → i < window_count m channels → j < window_count m channels → p i j ≡ true
    → pair_value m k (map series_of channels) i j ≡ Some v
    → Covers (get_or old.items i None) j v × Covers (get_or old.items j None) i v)
    → IsScan m k channels p old old
scan_quiet m k channels p old long quiet =
    let e : window_count m channels ≡ windows_in m (map series_of channels) = windows_of_channels m channels in
    let all = map series_of channels in
    record {
      items = takes_quiet (either_way p) (pair_value m k all) (windows_in m all) old.items (long ∙ e)
          (λ i j v lt lt' is found. elim (either_true (p i j) (p j i) is) [
            | inl here ↦ (quiet i j v (omega (arith, lt, e)) (omega (arith, lt', e)) here found).0
            | inr back ↦ (quiet j i v (omega (arith, lt', e)) (omega (arith, lt, e)) back
                (value_symmetric m k all j i ∙ found)).1
          ]);
      spare = refl;
    }

turned : (i j r c : ℕ) → (only i j r c || only j i r c) ≡ either_way (only i j) r c
turned i j r c = grind (arith, nat_tests)

-- both windows of a pair are offered to the other
pub scan_one : (m k : ℕ) (channels : List (List Sample)) (i j : ℕ) (old new : Slots) (value : Option Sq)
    → length old.items ≡ window_count m channels → i < window_count m channels → j < window_count m channels
    → value ≡ option_map square (pair_value m k (map series_of channels) i j)
    → new.items ≡ taken (taken old.items i (at_distance j (option_map (λ v. v.0) value))) j
    (at_distance i (option_map (λ v. v.0) value))
    → new.spare ≡ old.spare → IsScan m k channels (only i j) old new
scan_one m k channels i j old new value long lt lt' is items spare =
    let all = map series_of channels in
    let w = windows_in m all in
    let at = pair_value m k all in
    let e : window_count m channels ≡ w = windows_of_channels m channels in
    let v : option_map (λ (s : Sq). s.0) value ≡ at i j =
    ap (option_map (λ (s : Sq). s.0)) is ∙ number_of_square (at i j) in
    let second : Column = taken old.items i (at_distance j (option_map (λ (s : Sq). s.0) value)) in
    let first : Takes (only i j) at w old.items second =
    takes_one i j at w old.items second (option_map (λ (s : Sq). s.0) value) (long ∙ e) (omega (arith, lt, e))
    (omega (arith, lt', e)) v refl in
    let last : Takes (only j i) at w second new.items =
    takes_one j i at w second new.items (option_map (λ (s : Sq). s.0) value)
    (takes_places (only i j) at w old.items second (long ∙ e) first) (omega (arith, lt', e)) (omega (arith, lt, e))
    (v ∙ value_symmetric m k all i j) items in
    record {
      items = takes_same (λ r c. only i j r c || only j i r c) (either_way (only i j)) at w old.items new.items
          (takes_then (only i j) (only j i) at w old.items second new.items first last)
          (λ r c _ _. turned i j r c);
      spare = spare;
    }
