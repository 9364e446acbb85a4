-- What the rows of a range are made of.
use Rattle.std.proofs.Common.{◌≡◌, ℕ, ◌+◌, ◌<◌, [], ◌∷◌, get_or, true, refl, ap, ◌∙◌}
use Rattle.std.proofs.Common.{arith}
use Rattle.std.specs.Prelude.{Option, Some, None, if◌then◌else◌}
use Rattle.std.specs.Int.{div_ceil}
use Rattle.std.proofs.lemmas.Bool.Decides.{nat_tests}
use Rattle.mp_nums.specs.declared.finds.Discord.{Discord}
use Rattle.mp_nums.specs.declared.finds.Pair.{Pair}
use Rattle.mp_nums.specs.declared.finds.PanRow.{PanRow}
use Rattle.mp_nums.specs.declared.nearest.Near.{Near}
use Rattle.mp_defs.specs.Series.{Series}
use Rattle.mp_defs.specs.ColumnLaws.{columns_have_places}
use Rattle.mp_partial.specs.Values.{Column, Value, merged_below, merged_columns}
use Rattle.mp_pan.specs.Ranges.{AreFound, FoundAt, best_at, found_value, from_to, length_column, near_slot}
use Rattle.mp_pan.specs.Ranges.{no_extremes, span_value, start_slot, unusual_at, window_of}
use Rattle.mp_pan.proofs.Together.{all_spans}
use Rattle.mp_pan.specs.declared.limits.TheConstants.{MAX_LENGTHS}

first_of_four : (a b c d e f g h : Column) → ◌≡◌ {A = Value} (a ∷ b ∷ c ∷ d ∷ []) (e ∷ f ∷ g ∷ h ∷ []) → a ≡ e
first_of_four a b c d e f g h p = cc

second_of_four : (a b c d e f g h : Column) → ◌≡◌ {A = Value} (a ∷ b ∷ c ∷ d ∷ []) (e ∷ f ∷ g ∷ h ∷ []) → b ≡ f
second_of_four a b c d e f g h p = cc

third_of_four : (a b c d e f g h : Column) → ◌≡◌ {A = Value} (a ∷ b ∷ c ∷ d ∷ []) (e ∷ f ∷ g ∷ h ∷ []) → c ≡ g
third_of_four a b c d e f g h p = cc

fourth_of_four : (a b c d e f g h : Column) → ◌≡◌ {A = Value} (a ∷ b ∷ c ∷ d ∷ []) (e ∷ f ∷ g ∷ h ∷ []) → d ≡ h
fourth_of_four a b c d e f g h p = cc

window_back : (x : Option Discord) → window_of (start_slot x) (near_slot x) ≡ x
window_back None = refl
window_back (Some window) = refl

among : (count i : ℕ) → i < count → from_to 0 count i ≡ true
among count i lt = grind (arith, nat_tests)

at_length : (count i : ℕ) (f : ℕ → Option Near) → i < count → count < MAX_LENGTHS + 1
    → get_or (length_column (from_to 0 count) f) i None ≡ f i
at_length count i f lt few =
    columns_have_places.at_place (λ n. if from_to 0 count n then f n else None) MAX_LENGTHS i (omega (arith, lt, few))
    ∙ ap (λ t. if t then f i else None) (among count i lt)

both_back : (count i : ℕ) (f : ℕ → Option Discord) (starts nearest : Column) → i < count → count < MAX_LENGTHS + 1
    → starts ≡ length_column (from_to 0 count) (λ n. start_slot (f n))
    → nearest ≡ length_column (from_to 0 count) (λ n. near_slot (f n))
    → window_of (get_or starts i None) (get_or nearest i None) ≡ f i
both_back count i f starts nearest lt few e g =
    ap (λ s. window_of s (get_or nearest i None))
    (ap (λ c. get_or c i None) e ∙ at_length count i (λ n. start_slot (f n)) lt few)
    ∙ ap (window_of (start_slot (f i)))
    (ap (λ c. get_or c i None) g ∙ at_length count i (λ n. near_slot (f n)) lt few)
    ∙ window_back (f i)

pub best_found : (lo count : ℕ) (a : Series) (found : FoundAt) (i : ℕ) → AreFound lo count a found → i < count
    → window_of (get_or found.best_starts i None) (get_or found.best_nearest i None) ≡ best_at lo a i
best_found lo count a found i h lt =
    both_back count i (best_at lo a) found.best_starts found.best_nearest lt h.few
    (first_of_four _ _ _ _ _ _ _ _ h.value) (second_of_four _ _ _ _ _ _ _ _ h.value)

pub discord_found : (lo count : ℕ) (a : Series) (found : FoundAt) (i : ℕ) → AreFound lo count a found → i < count
    → window_of (get_or found.discord_starts i None) (get_or found.discord_nearest i None) ≡ unusual_at lo a i
discord_found lo count a found i h lt =
    both_back count i (unusual_at lo a) found.discord_starts found.discord_nearest lt h.few
    (third_of_four _ _ _ _ _ _ _ _ h.value) (fourth_of_four _ _ _ _ _ _ _ _ h.value)

pub same_row : (length windows windows' : ℕ) (best best' : Option Pair) (discord discord' : Option Discord)
    → windows ≡ windows' → best ≡ best' → discord ≡ discord'
    → ◌≡◌ {A = PanRow} (record { length = length; windows = windows; best = best; discord = discord })
    (record { length = length; windows = windows'; best = best'; discord = discord' })
same_row length windows windows' best best' discord discord' e f g = cc

-- what all pieces have together is what there is at all lengths
pub are_found : (lo count size pieces : ℕ) (a : Series) (found : FoundAt) → count < MAX_LENGTHS + 1
    → found_value found ≡ merged_below merged_columns (no_extremes size) (span_value lo count a) pieces
    → pieces ≡ div_ceil count 4 → AreFound lo count a found
are_found lo count size pieces a found few e f = record {
  few = few;
  value = e ∙ ap (merged_below merged_columns (no_extremes size) (span_value lo count a)) f ∙ all_spans lo count size a;
}
