-- Channels that are copied one by one.
use Rattle.std.proofs.Common.{◌≡◌, ◌≢◌, ℕ, ◌+◌, ◌*◌, ◌<◌, ◌≤◌, List, [], ◌∷◌, ◌++◌, length, get_or, map, refl}
use Rattle.std.proofs.Common.{ap, ◌∙◌, sym, arith, subst, Bool, true, false, add-one}
use Rattle.std.specs.Prelude.{All, ◌==◌, if◌then◌else◌, sum_by, take}
use Rattle.std.proofs.lemmas.Bool.Decides.{nat_tests}
use Rattle.std.proofs.lemmas.List.{map-append}
use Rattle.std.proofs.lemmas.List.Elements.{All-append, All-cons, All-nil}
use Rattle.std.proofs.lemmas.List.Sums.{sum_by-append, sum_by-take-le}
use Rattle.std.proofs.Math.Seq.{take-suc}
use Rattle.mp_nums.specs.declared.samples.Sample.{Sample}
use Rattle.mp_defs.specs.Limits.{max_samples}
use Rattle.mp_defs.specs.Series.{Series, series_of}
use Rattle.mp_replies.specs.declared.refs.Ref.{Ref}
use Rattle.mp_stores.specs.StoreLaws.{items_last, stand_on, stand_still}
use Rattle.mp_stores.specs.Stores.{StandAsBefore, Stored, WasRead, channel_at, channel_series, lent_of, lent_once}
use Rattle.mp_stores.specs.Stores.{reads_at, reads_of, slot_at}

-- the channels of some names were lent once each
pub record AreRead (old : Stored) (refs : List Ref) (now : Stored) : Type 0 where
  pub stands : StandAsBefore old now
  pub rise : (slot : ℕ) → reads_at old slot ≤ reads_at now slot
  pub most_reads : (slot : ℕ)
      → reads_at now slot ≤ reads_at old slot + sum_by (λ at. lent_once old at slot) refs

pub none_read : (old : Stored) → AreRead old [] old
none_read old = record {
  stands = stand_still old;
  rise = λ slot. omega arith;
  most_reads = λ slot. omega arith;
}

one_more : (old new : Stored) (at : Ref) (slot most : ℕ) (b : Bool) → (slot == at.slot) ≡ b
    → WasRead old new at.slot most
    → reads_at new slot ≤ reads_at old slot + (if b then most else 0)
one_more old new at slot most true is read =
    let same : slot ≡ at.slot = grind (arith, nat_tests) in
    subst (λ (k : ℕ). reads_at new k ≤ reads_at old k + most) (sym same) read.read.most_reads
one_more old new at slot most false is read =
    let apart : slot ≢ at.slot = grind (arith, nat_tests) in
    let rest = ap reads_of (read.others slot apart) in
    omega (arith, rest)

no_less : (old new : Stored) (at : Ref) (slot most : ℕ) (b : Bool) → (slot == at.slot) ≡ b
    → WasRead old new at.slot most → reads_at old slot ≤ reads_at new slot
no_less old new at slot most true is read =
    let same : slot ≡ at.slot = grind (arith, nat_tests) in
    subst (λ (k : ℕ). reads_at old k ≤ reads_at new k) (sym same) read.read.rise
no_less old new at slot most false is read =
    let apart : slot ≢ at.slot = grind (arith, nat_tests) in
    let rest = ap reads_of (read.others slot apart) in
    omega (arith, rest)

pub read_more : (old now new : Stored) (refs : List Ref) (at : Ref) → AreRead old refs now
    → WasRead now new at.slot (lent_of (slot_at now at.slot) at.channel)
    → AreRead old (refs ++ at ∷ []) new
read_more old now new refs at before read = record {
  stands = stand_on old now new before.stands read.stands;
  rise = λ slot.
      let low = before.rise slot in
      let here = no_less now new at slot _ (slot == at.slot) refl read in
      omega (arith, low, here);
  most_reads = λ slot.
      let high = before.most_reads slot in
      let here = one_more now new at slot _ (slot == at.slot) refl read in
      let same : lent_once now at slot ≡ lent_once old at slot =
      ap (λ n. if slot == at.slot then n * n else 0) (ap length (items_last old now at before.stands)) in
      let sums = sum_by-append (λ (r : Ref). lent_once old r slot) refs (at ∷ []) in
      omega (arith, high, here, same, sums);
}

-- the copies of so many of the names
pub record AreCopied (old : Stored) (refs : List Ref) (bundle : List (List Sample)) (now : Stored) : Type 0 where
  pub series : map series_of bundle ≡ map (channel_series old) refs
  pub small : All (λ samples. length samples ≤ max_samples) bundle
  pub read : AreRead old refs now

pub none_copied : (old : Stored) → AreCopied old [] [] old
none_copied old =
    record { series = refl; small = All-nil (λ (s : List Sample). length s ≤ max_samples); read = none_read old }

pub copied_more : (old now new : Stored) (refs : List Ref) (at : Ref) (bundle more : List (List Sample))
    → AreCopied old refs bundle now
    → more ≡ bundle ++ (channel_at now at).items ∷ [] → length (channel_at now at).items ≤ max_samples
    → WasRead now new at.slot (lent_of (slot_at now at.slot) at.channel)
    → AreCopied old (refs ++ at ∷ []) more new
copied_more old now new refs at bundle more before added small read =
    let items = (channel_at now at).items in
    let here : series_of items ≡ channel_series old at = ap series_of (items_last old now at before.read.stands) in
    record {
      series =
          ap (map series_of) added
          ∙ (map-append series_of bundle (items ∷ [])
          ∙ (ap (λ (ss : List Series). ss ++ series_of items ∷ []) before.series
          ∙ (ap (λ (s : Series). map (channel_series old) refs ++ s ∷ []) here
          ∙ sym (map-append (channel_series old) refs (at ∷ [])))));
      small =
          subst (All (λ samples. length samples ≤ max_samples)) (sym added)
          (All-append (λ (s : List Sample). length s ≤ max_samples) bundle (items ∷ []) before.small
          (All-cons (λ (s : List Sample). length s ≤ max_samples) items [] small
          (All-nil (λ (s : List Sample). length s ≤ max_samples))));
      read = read_more old now new refs at before.read read;
    }

-- the first of some names, with the next
pub next_name : (refs : List Ref) (i : ℕ) (d : Ref) → i < length refs
    → take (i + 1) refs ≡ take i refs ++ get_or refs i d ∷ []
next_name refs i d inside = rw add-one (take-suc refs i d inside)

-- where the rest was not copied
pub read_within : (old now : Stored) (refs : List Ref) (i : ℕ) → AreRead old (take i refs) now → AreRead old refs now
read_within old now refs i read = record {
  stands = read.stands;
  rise = read.rise;
  most_reads = λ slot.
      let high = read.most_reads slot in
      let part = sum_by-take-le (λ (r : Ref). lent_once old r slot) refs i in
      omega (arith, high, part);
}
