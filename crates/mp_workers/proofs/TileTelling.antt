-- What workers know behind pieces whose pairs they tell each other of.
use Rattle.std.proofs.Common.{◌≡◌, ℕ, ◌+◌, [], ◌∷◌, ◌++◌, refl, sym, ap, subst, arith, inl, inr}
use Rattle.mp_nums.specs.declared.nearest.Near.{Near}
use Rattle.mp_defs.specs.Series.{series_of}
use Rattle.mp_defs.specs.SeriesLaws.{series_are_of_samples}
use Rattle.mp_defs.specs.Profile.{windows_of}
use Rattle.mp_tiles.specs.Pieces.{OwnTiling}
use Rattle.mp_workers.specs.Entries.{Told, EntriesState, count_of, whole_of}
use Rattle.mp_workers.specs.SharedTiles.{series_in}
use Rattle.mp_workers.specs.Tellers.{AreShort, AreTold, FitsTeller, IsKnown, IsTold, TellerState}
use Rattle.mp_workers.specs.TellerLaws.{known_more}
use Rattle.mp_workers.specs.ToldTiles.{IsPieceTold, pairs_in}

pub fits_tiles : (own : OwnTiling) (teller : TellerState) → teller.series ≡ series_in own
    → AreShort own.m (series_of own.samples) → FitsTeller own.m (series_of own.samples) (series_of own.samples) teller
fits_tiles own teller e short = record {
  window = sym (ap (λ (s : EntriesState). s.m) e);
  rows = sym (ap (λ (s : EntriesState). series_of s.samples) e);
  columns = sym (ap (λ (s : EntriesState). series_of s.samples) e);
  short = subst (λ (s : EntriesState). AreShort s.m (series_of s.samples)) (sym e) short;
}

pub still_told : (own : OwnTiling) (told more : Told) (piece : ℕ)
    → ((p : ℕ) (near : Near) → IsTold told p near → IsTold more p near) → IsPieceTold own told piece
    → IsPieceTold own more piece
still_told own told more piece h k = record {
  right = λ i j d lt lt' e may is. known_more told more (whole_of (series_in own)) (whole_of (series_in own))
      (count_of (series_in own) + i) j d refl h (k.right i j d lt lt' e may is);
  left = λ i j d lt lt' e may is. known_more told more (whole_of (series_in own)) (whole_of (series_in own)) j i d
      refl h (k.left i j d lt lt' e may is);
}

-- the pairs of a piece that were offered
pub piece_told : (own : OwnTiling) (old new : TellerState) (piece : ℕ) → old.series ≡ series_in own
    → AreTold own.m (series_of own.samples) (series_of own.samples) (pairs_in own piece) old new
    → IsPieceTold own new.told piece
piece_told own old new piece e s =
    let windows : windows_of own.m (series_of own.samples) ≡ count_of (series_in own) =
    series_are_of_samples.windows_are own.m own.samples in
    record {
      right = λ i j d lt lt' on may is.
          subst (λ (k : EntriesState). IsKnown new.told (whole_of k) (count_of k + i) j d) e
          (s.right i j d (omega (arith, lt, windows)) (omega (arith, lt', windows)) on may is);
      left = λ i j d lt lt' on may is. subst (λ (k : EntriesState). IsKnown new.told (whole_of k) j i d) e
          (s.left i j d (omega (arith, lt, windows)) (omega (arith, lt', windows)) on may is);
    }

-- ---- what two halves know together

told_first : (told others : Told) (place : ℕ) (near : Near) → IsTold told place near
    → IsTold (told ++ others) place near
told_first [] others place near is = absurd is
told_first (fact ∷ rest) others place near (inl is) = inl is
told_first (fact ∷ rest) others place near (inr later) = inr (told_first rest others place near later)

told_second : (told others : Told) (place : ℕ) (near : Near) → IsTold others place near
    → IsTold (told ++ others) place near
told_second [] others place near is = is
told_second (fact ∷ rest) others place near is = inr (told_second rest others place near is)

-- what a piece gave that a worker told, once its hold takes it in
pub piece_joined : (own : OwnTiling) (before : Told) (old new : TellerState) (told : Told) (piece : ℕ)
    → old.series ≡ series_in own
    → AreTold own.m (series_of own.samples) (series_of own.samples) (pairs_in own piece) old new
    → told ≡ before ++ new.told → IsPieceTold own told piece
piece_joined own before old new told piece e s is =
    subst (λ ts. IsPieceTold own ts piece) (sym is)
    (still_told own new.told (before ++ new.told) piece (told_second before new.told)
    (piece_told own old new piece e s))

-- what one of two holds knew is known by the first when it takes in the second
pub first_joined : (own : OwnTiling) (first other told : Told) (piece : ℕ) → told ≡ first ++ other
    → IsPieceTold own first piece → IsPieceTold own told piece
first_joined own first other told piece is h =
    subst (λ ts. IsPieceTold own ts piece) (sym is)
    (still_told own first (first ++ other) piece (told_first first other) h)

pub other_joined : (own : OwnTiling) (first other told : Told) (piece : ℕ) → told ≡ first ++ other
    → IsPieceTold own other piece → IsPieceTold own told piece
other_joined own first other told piece is h =
    subst (λ ts. IsPieceTold own ts piece) (sym is)
    (still_told own other (first ++ other) piece (told_second first other) h)
