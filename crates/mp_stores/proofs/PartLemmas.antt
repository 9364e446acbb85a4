-- Samples that are appended one by one to a series whose profile is made in parts.
use Rattle.std.proofs.Common.{◌≡◌, ℕ, ◌+◌, ◌*◌, ◌≤◌, List, [], ◌∷◌, ◌++◌, length, refl, ap, ◌∙◌, sym, arith}
use Rattle.std.proofs.Common.{append_assoc, subst}
use Rattle.std.proofs.Math.Nat.{mul-le-mul_left}
use Rattle.std.proofs.lemmas.List.{append-nil, length-append}
use Rattle.mp_nums.specs.declared.samples.Sample.{Sample}
use Rattle.mp_defs.specs.Window.{windows}
use Rattle.mp_results.specs.Covering.{Covering}
use Rattle.mp_stores.specs.Channels.{PartHasGrown, reads_for}
use Rattle.mp_stores.proofs.KeptLemmas.{reads_more}

pub none_extended : (part : Covering) → PartHasGrown [] part part
none_extended part = record {
  items_are = sym (append-nil part.items);
  covered_are = refl;
  window_is = refl;
  rise = omega arith;
  most_reads = omega arith;
}

pub one_extended : (samples : List Sample) (sample : Sample) (old now new : Covering) → PartHasGrown samples old now
    → new.items ≡ now.items ++ sample ∷ [] → new.covered ≡ now.covered → new.m ≡ now.m → now.reads ≤ new.reads
    → new.reads ≤ now.reads + 4 * (length now.covered + now.m) → length new.covered ≤ windows (length new.items) new.m
    → PartHasGrown (samples ++ sample ∷ []) old new
one_extended samples sample old now new grown items covered window rise most few =
    record {
      items_are =
          items
          ∙ (ap (λ (list : List Sample). list ++ sample ∷ []) grown.items_are
          ∙ append_assoc old.items samples (sample ∷ []));
      covered_are = covered ∙ grown.covered_are;
      window_is = window ∙ grown.window_is;
      rise = omega (arith, grown.rise, rise);
      most_reads =
          subst (λ (n : ℕ). new.reads ≤ old.reads + reads_for old.m (length old.items) n)
          (sym (length-append samples (sample ∷ [])))
          (one_read old.m (length old.items) (length samples) old.reads now.reads new.reads grown.most_reads
          (within old now new (length samples) most few covered window grown.window_is
          (ap length items ∙ length-append now.items (sample ∷ [])
          ∙ ap (λ (n : ℕ). n + 1) (ap length grown.items_are ∙ length-append old.items samples))));
    }
  where
    -- no more diagonals are covered than there are windows
    within : (old now new : Covering) (n : ℕ) → new.reads ≤ now.reads + 4 * (length now.covered + now.m)
        → length new.covered ≤ windows (length new.items) new.m → new.covered ≡ now.covered → new.m ≡ now.m
        → now.m ≡ old.m → length new.items ≡ length old.items + n + 1
        → new.reads ≤ now.reads + 4 * (windows (length old.items + (n + 1)) old.m + old.m)
    within old now new n most few covered window same long =
        let count = ap length covered in omega (arith, most, few, count, window, same, long)

    -- with each sample there are as many windows as before or more
    widens : (m before n : ℕ) → 4 * (windows (before + n) m + m) ≤ 4 * (windows (before + (n + 1)) m + m)
    widens m before n = omega arith

    one_read : (m before n first reads new : ℕ) → reads ≤ first + reads_for m before n
        → new ≤ reads + 4 * (windows (before + (n + 1)) m + m) → new ≤ first + reads_for m before (n + 1)
    one_read m before n first reads new was is =
        let more : n * (4 * (windows (before + n) m + m)) ≤ n * (4 * (windows (before + (n + 1)) m + m)) =
        mul-le-mul_left n (widens m before n) in
        reads_more n (n + 1) (4 * (windows (before + (n + 1)) m + m)) first reads new refl (omega (arith, was, more)) is
