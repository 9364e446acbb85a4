-- Channels that are put into a slot.
use Rattle.std.proofs.Common.{◌≡◌, ℕ, ◌<◌, ◌≤◌, List, [], ◌∷◌, length, replicate, refl, ap, ◌∙◌, sym, arith, subst}
use Rattle.std.specs.Prelude.{All}
use Rattle.std.proofs.lemmas.List.{length-map}
use Rattle.std.proofs.lemmas.List.Elements.{All-nil, All-cons, All-head, All-tail}
use Rattle.mp_nums.specs.declared.samples.Sample.{Sample}
use Rattle.mp_defs.specs.Series.{Series, series_of}
use Rattle.mp_stores.specs.Stores.{HaveWindow, count_of, items_in, series_in}
use Rattle.mp_stream.specs.Streams.{Streamed}
use Rattle.mp_commands.specs.Preparing.{AreEmpty, CanPut, IsEmpty}

pub empty_series : (channels : List Streamed) → AreEmpty channels → series_in channels ≡ replicate (length channels) []
empty_series [] h = refl
empty_series (channel ∷ channels) h =
    ap (λ (s : Series). s ∷ series_in channels) (ap series_of (All-head IsEmpty channel channels h).items_are)
    ∙ ap (λ (ss : List Series). [] ∷ ss) (empty_series channels (All-tail IsEmpty channel channels h))

empty_items : (channels : List Streamed) → AreEmpty channels → All (λ samples. length samples ≡ 0) (items_in channels)
empty_items [] h = All-nil (λ (samples : List Sample). length samples ≡ 0)
empty_items (channel ∷ channels) h =
    All-cons (λ (samples : List Sample). length samples ≡ 0) channel.items (items_in channels)
    (ap length (All-head IsEmpty channel channels h).items_are)
    (empty_items channels (All-tail IsEmpty channel channels h))

empty_count : (channels : List Streamed) → AreEmpty channels → count_of (items_in channels) ≡ 0
empty_count [] h = refl
empty_count (channel ∷ channels) h = ap length (All-head IsEmpty channel channels h).items_are

items_long : (channels : List Streamed) → length (items_in channels) ≡ length channels
items_long channels = length-map channels (λ channel. channel.items)

pub can_put_empty : (m slot : ℕ) (channels : List Streamed) → slot < 8 → 1 ≤ length channels → length channels ≤ 8
    → AreEmpty channels → HaveWindow m channels → CanPut m slot channels
can_put_empty m slot channels within some few empty window = record {
  within = within;
  are = record {
    some = some;
    alike = record {
      few = omega (arith, few, items_long channels);
      same =
          subst (λ (n : ℕ). All (λ samples. length samples ≡ n) (items_in channels)) (sym (empty_count channels empty))
          (empty_items channels empty);
    };
    window = window;
  };
}
