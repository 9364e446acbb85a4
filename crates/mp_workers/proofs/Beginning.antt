-- What workers find ahead of the pieces of a kernel.
use Rattle.std.proofs.Common.{◌≡◌, ℕ, ◌<◌, ◌≤◌, List, ◌++◌, length, get_or, sym, ap, subst, ◌∙◌, arith}
use Rattle.std.specs.Prelude.{All, map, replicate, slice_set}
use Rattle.std.specs.List.{swap_remove}
use Rattle.std.proofs.lemmas.List.Elements.{All-append, All-set, All-weaker}
use Rattle.mp_partial.specs.Values.{Value}
use Rattle.mp_partial.specs.MergeLaws.{IsMerging}
use Rattle.mp_workers.specs.Begins.{AreAhead, IsAhead}
use Rattle.mp_workers.proofs.PartLaws.{as_many}
use Rattle.mp_workers.proofs.Teaming.{all_but_one}

module _ {Part : Type 0} (size_of : Part → ℕ) (IsValue : ℕ → Value → Type 0) (value : Part → Value)
    (merged : Value → Value → Value) (size : ℕ) (whole : Value) where
  -- a part that makes the same with the whole as before
  pub still_ahead : (old new : Part) → IsAhead size_of IsValue value merged size whole old → size_of new ≡ size_of old
      → IsValue (size_of new) (value new) → merged (value new) whole ≡ merged (value old) whole
      → IsAhead size_of IsValue value merged size whole new
  still_ahead old new h same is e =
      let size_is = same ∙ h.size_is in
      record {
        size_is = size_is;
        is_value = subst (λ n. IsValue n (value new)) size_is is;
        whole_is_value = h.whole_is_value;
        within = e ∙ h.within;
      }

  -- a part with what another one has
  pub both_ahead : (unit : ℕ → Value) → IsMerging IsValue unit merged → (old other new : Part)
      → IsAhead size_of IsValue value merged size whole old → IsAhead size_of IsValue value merged size whole other
      → size_of new ≡ size_of old → IsValue (size_of new) (value new) → value new ≡ merged (value old) (value other)
      → IsAhead size_of IsValue value merged size whole new
  both_ahead unit laws old other new h k same is e =
      still_ahead old new h same is
      (ap (λ v. merged v whole) e
      ∙ laws.associative size (value old) (value other) whole h.is_value k.is_value h.whole_is_value
      ∙ ap (merged (value old)) k.within)

  -- one part of a list
  pub one_has_begun : (parts : List Part) (d new : Part) → 0 < length parts
      → AreAhead size_of IsValue value merged size whole parts → size_of new ≡ size_of (get_or parts 0 d)
      → IsValue (size_of new) (value new) → merged (value new) whole ≡ merged (value (get_or parts 0 d)) whole
      → AreAhead size_of IsValue value merged size whole (slice_set parts 0 new)
  one_has_begun parts d new some all same is e = record {
    each = All-set (IsAhead size_of IsValue value merged size whole) parts 0 new
        (still_ahead (get_or parts 0 d) new (all.each 0 d some) same is e) all.each;
  }

  -- the first part of a list, with what the first one of another has, and both lists as one
  pub both_have_begun : (unit : ℕ → Value) → IsMerging IsValue unit merged → (low high : List Part) (d e new : Part)
      → 0 < length low → 0 < length high → AreAhead size_of IsValue value merged size whole low
      → AreAhead size_of IsValue value merged size whole high → size_of new ≡ size_of (get_or low 0 d)
      → IsValue (size_of new) (value new) → value new ≡ merged (value (get_or low 0 d)) (value (get_or high 0 e))
      → AreAhead size_of IsValue value merged size whole (slice_set low 0 new ++ high)
  both_have_begun unit laws low high d e new some others kept others_kept same is with_both = record {
    each = All-append (IsAhead size_of IsValue value merged size whole) (slice_set low 0 new) high
        (All-set (IsAhead size_of IsValue value merged size whole) low 0 new
        (both_ahead unit laws (get_or low 0 d) (get_or high 0 e) new (kept.each 0 d some) (others_kept.each 0 e others)
        same is with_both) kept.each) others_kept.each;
  }

  -- parts in which nothing was found
  pub units_ahead : (unit : ℕ → Value) → IsMerging IsValue unit merged → (parts : List Part) → IsValue size whole
      → All (λ part. (size_of part ≡ size) × (value part ≡ unit size)) parts
      → AreAhead size_of IsValue value merged size whole parts
  units_ahead unit laws parts is all = record {
    each = λ k d lt. (let alike = all k d lt in record {
      size_is = alike.0;
      is_value = subst (IsValue size) (sym alike.1) (laws.unit_is_value size);
      whole_is_value = is;
      within = ap (λ v. merged v whole) alike.1 ∙ laws.unit_first size whole is;
    });
  }

  -- the first of some parts is taken out, and the others are left
  pub taken_out : (begun items rest : List Part) (found : Part) (units : List Part) (count : ℕ) (memory : ℕ)
      → AreAhead size_of IsValue value merged size whole begun → length begun ≡ length units
      → map size_of units ≡ replicate count memory → 1 ≤ count
      → items ≡ begun → found ≡ get_or items 0 found → rest ≡ swap_remove items 0 found
      → IsAhead size_of IsValue value merged size whole found × All (λ part. size_of part ≡ size_of found) rest
  taken_out begun items rest found units count memory all same sizes one back found_is rest_is =
      let ahead = IsAhead size_of IsValue value merged size whole in
      let some : 0 < length begun = omega (arith, same, as_many size_of memory units count sizes, one) in
      let first : ahead found =
      subst ahead (sym (found_is ∙ ap (λ (xs : List Part). get_or xs 0 found) back)) (all.each 0 found some) in (
        first,
        subst (All (λ part. size_of part ≡ size_of found))
            (sym (rest_is ∙ ap (λ (xs : List Part). swap_remove xs 0 found) back))
            (All-weaker ahead (λ part. size_of part ≡ size_of found) (λ part h. h.size_is ∙ sym first.size_is)
            (swap_remove begun 0 found) (all_but_one ahead begun 0 found some all.each)),
      )
