-- The row of a window, as far as it has been compared.
use Rattle.std.proofs.Common.{◌≡◌, ℕ, ◌+◌, Bool, true, false, List, refl, sym, ap, ◌∙◌, subst}
use Rattle.std.specs.Prelude.{Some, None, ◌&&◌, nat_lt, if◌then◌else◌, length}
use Rattle.mp_nums.specs.Near.{nearer_of}
use Rattle.mp_nums.specs.declared.samples.Sample.{Sample}
use Rattle.mp_defs.specs.Series.{Series, series_of}
use Rattle.mp_defs.specs.Window.{windows}
use Rattle.mp_defs.specs.Distance.{distance}
use Rattle.mp_defs.specs.Least.{near_at}
use Rattle.mp_defs.specs.SeriesLaws.{series_are_of_samples}
use Rattle.mp_defs.specs.LeastLaws.{grows_by_one_candidate}
use Rattle.mp_plain.specs.declared.profiles.Row.{Row}
use Rattle.mp_plain.proofs.Steps.{nearest_below, nearest_skips, nearest_misses, nearest_takes, nearest_offers}

-- the row has the nearest of the windows below n, by any test of pairs
pub record IsRowBelow (may : ℕ → ℕ → Bool) (m : ℕ) (a : Series) (i n : ℕ) (row : Row) : Type 0 where
  pub all : row.all ≡ nearest_below m (may i) a i a n
  pub left : row.left ≡ nearest_below m (λ j. may i j && nat_lt j i) a i a n
  pub right : row.right ≡ nearest_below m (λ j. may i j && nat_lt i j) a i a n

pub row_begins : (may : ℕ → ℕ → Bool) (m : ℕ) (a : Series) (i : ℕ)
    → IsRowBelow may m a i 0 record { all = None; left = None; right = None }
row_begins may m a i = record {
  all = sym (grows_by_one_candidate.no_candidates _);
  left = sym (grows_by_one_candidate.no_candidates _);
  right = sym (grows_by_one_candidate.no_candidates _);
}

and_false : (p q : Bool) → p ≡ false → (p && q) ≡ false
and_false p q e = rw e refl

pub row_skips : (may : ℕ → ℕ → Bool) (m : ℕ) (a : Series) (i n : ℕ) (row : Row) → IsRowBelow may m a i n row
    → may i n ≡ false
    → IsRowBelow may m a i (n + 1) row
row_skips may m a i n row h e = record {
  all = nearest_skips _ _ _ _ _ _ _ h.all e;
  left = nearest_skips _ _ _ _ _ _ _ h.left (and_false _ _ e);
  right = nearest_skips _ _ _ _ _ _ _ h.right (and_false _ _ e);
}

pub row_misses : (may : ℕ → ℕ → Bool) (m : ℕ) (a : Series) (i n : ℕ) (row : Row) → IsRowBelow may m a i n row
    → distance m a i a n ≡ None
    → IsRowBelow may m a i (n + 1) row
row_misses may m a i n row h e = record {
  all = nearest_misses _ _ _ _ _ _ _ h.all e;
  left = nearest_misses _ _ _ _ _ _ _ h.left e;
  right = nearest_misses _ _ _ _ _ _ _ h.right e;
}

pub row_takes : (may : ℕ → ℕ → Bool) (m : ℕ) (a : Series) (i n : ℕ) (old new : Row) (d : ℕ) → IsRowBelow may m a i n old
    → may i n ≡ true → distance m a i a n ≡ Some d
    → new.all ≡ nearer_of old.all (Some (near_at n d))
    → new.left ≡ (if nat_lt n i then nearer_of old.left (Some (near_at n d)) else old.left)
    → new.right ≡ (if nat_lt i n then nearer_of old.right (Some (near_at n d)) else old.right)
    → IsRowBelow may m a i (n + 1) new
row_takes may m a i n old new d h e f all left right = record {
  all = all ∙ nearest_takes m (may i) a i a n old.all d h.all e f;
  left = left ∙ ap (λ b. if b && nat_lt n i then nearer_of old.left (Some (near_at n d)) else old.left) (sym e)
      ∙ nearest_offers m (λ j. may i j && nat_lt j i) a i a n old.left d h.left f;
  right = right ∙ ap (λ b. if b && nat_lt i n then nearer_of old.right (Some (near_at n d)) else old.right) (sym e)
      ∙ nearest_offers m (λ j. may i j && nat_lt i j) a i a n old.right d h.right f;
}

-- below the number of windows the row is whole
pub row_ends : (may : ℕ → ℕ → Bool) (m : ℕ) (samples : List Sample) (i n : ℕ) (row : Row)
    → IsRowBelow may m (series_of samples) i n row
    → n ≡ windows (length samples) m → IsRowBelow may m (series_of samples) i
    (windows (length (series_of samples)) m) row
row_ends may m samples i n row h e =
    subst (λ k. IsRowBelow may m (series_of samples) i k row) (e ∙ sym (series_are_of_samples.windows_are m samples)) h
