-- Why scans hold of workers that tell what they find at once.
use Rattle.std.proofs.Common.{◌≡◌, ℕ, ◌+◌, ◌<◌, ◌≤◌, ◌⊎◌, Bool, true, false, inl, inr, refl, sym, ap, subst, ◌∙◌, arith}
use Rattle.std.specs.Prelude.{Some, None, ◌||◌, slice_index_or}
use Rattle.std.proofs.lemmas.Bool.Decides.{nat_tests}
use Rattle.mp_nums.specs.declared.nearest.Near.{Near}
use Rattle.mp_defs.specs.Series.{Series, series_of}
use Rattle.mp_defs.specs.SeriesLaws.{series_are_of_samples}
use Rattle.mp_defs.specs.Distance.{distance}
use Rattle.mp_defs.specs.Profile.{windows_of}
use Rattle.mp_partial.specs.Values.{Column}
use Rattle.mp_scans.specs.Offering.{only, IsLimiting, IsOffering}
use Rattle.mp_workers.specs.Entries.{EntriesState, Told, count_of, whole_of}
use Rattle.mp_workers.specs.Tellers.{AreTold, ComesBefore, FitsTeller, IsKnown, IsTold, MayTell, TellerState}
use Rattle.mp_workers.specs.Tellers.{keeps_column_told, keeps_row_told}

-- ---- one pair

is_only : (row column i j : ℕ) → only row column i j ≡ true → (i ≡ row) × (j ≡ column)
is_only row column i j e = (grind (arith, nat_tests), grind (arith, nat_tests))

either_true : (s t : Bool) → (s || t) ≡ true → (s ≡ true) ⊎ (t ≡ true)
either_true true t e = inl refl
either_true false t e = inr e

-- what is known stays known
pub known_more : (told more : Told) (whole other : Column) (place j d : ℕ) → whole ≡ other
    → ((p : ℕ) (near : Near) → IsTold told p near → IsTold more p near) → IsKnown told whole place j d
    → IsKnown more other place j d
known_more told more whole other place j d same h (inl is) = inl (h place _ is)
known_more told more whole other place j d same h (inr before) =
    inr (subst (λ (w : Column). ComesBefore (slice_index_or w place None) j d) same before)

-- a pair of the series may be told
may_be_told : (m : ℕ) (a b : Series) (teller : TellerState) (row column d : ℕ) → FitsTeller m a b teller
    → row < windows_of m a → column < windows_of m b → row + 1 ≤ column → distance m a row b column ≡ Some d
    → MayTell teller row column d
may_be_told m a b teller row column d h lt lt' apart is =
    let s = teller.series in
    let home = series_of s.samples in
    let count : windows_of m b ≡ count_of s =
    ap (λ n. windows_of n b) h.window ∙ ap (windows_of s.m) h.columns
    ∙ series_are_of_samples.windows_are s.m s.samples in
    let known : distance s.m home row home column ≡ Some d =
    ap (λ n. distance n home row home column) (sym h.window) ∙ ap (λ x. distance m x row home column) (sym h.rows)
    ∙ ap (λ x. distance m a row x column) (sym h.columns) ∙ is in
    record {
      order = omega (arith, apart);
      place = omega (arith, lt', count);
      is = known;
      short = h.short row column d known;
    }

still_fits : (m : ℕ) (a b : Series) (pairs : ℕ → ℕ → Bool) (old new : TellerState) → FitsTeller m a b old
    → AreTold m a b pairs old new → FitsTeller m a b new
still_fits m a b pairs old new h s =
    subst (λ (e : EntriesState). FitsTeller m a b (record { table = new.table; series = e; told = new.told }))
    (sym s.series)
    (record { window = h.window; rows = h.rows; columns = h.columns; short = h.short })

-- pairs that give nothing
none_told : (m : ℕ) (a b : Series) (pairs : ℕ → ℕ → Bool) (teller : TellerState)
    → ((i j d : ℕ) → i < windows_of m a → j < windows_of m b → pairs i j ≡ true
    → distance m a i b j ≡ Some d → keeps_row_told teller i j d × keeps_column_told teller j i d)
    → AreTold m a b pairs teller teller
none_told m a b pairs teller h = record {
  table = refl;
  series = refl;
  more = λ place near is. is;
  right = λ i j d lt lt' e may is. inr (h i j d lt lt' e is).0;
  left = λ i j d lt lt' e may is. inr (h i j d lt lt' e is).1;
}

-- these pairs, and then those
both_told : (m : ℕ) (a b : Series) (p q : ℕ → ℕ → Bool) (old mid new : TellerState)
    → AreTold m a b p old mid → AreTold m a b q mid new → AreTold m a b (λ i j. p i j || q i j) old new
both_told m a b p q old mid new h k =
    let same : mid.series ≡ old.series = h.series in
    record {
      table = k.table ∙ h.table;
      series = k.series ∙ h.series;
      more = λ place near is. k.more place near (h.more place near is);
      right = λ i j d lt lt' e may is. elim (either_true (p i j) (q i j) e) [
        | inl first ↦ known_more mid.told new.told (whole_of old.series) (whole_of old.series)
            (count_of old.series + i) j d refl k.more (h.right i j d lt lt' first may is)
        | inr second ↦ subst (λ (s : EntriesState). IsKnown new.told (whole_of s) (count_of s + i) j d) same
            (k.right i j d lt lt' second may is)
      ];
      left = λ i j d lt lt' e may is. elim (either_true (p i j) (q i j) e) [
        | inl first ↦ known_more mid.told new.told (whole_of old.series) (whole_of old.series) j i d refl k.more
            (h.left i j d lt lt' first may is)
        | inr second ↦ subst (λ (s : EntriesState). IsKnown new.told (whole_of s) j i d) same
            (k.left i j d lt lt' second may is)
      ];
    }

no_two : (d : ℕ) → None ≡ Some d → ⊥
no_two d e = cc

pub tellers_offer : IsOffering 1 FitsTeller MayTell AreTold
tellers_offer = record {
  may = λ m a b teller row column d h lt lt' apart is. may_be_told m a b teller row column d h lt lt' apart is;
  still_fits = still_fits;
  none = λ m a b pairs teller h none.
      none_told m a b pairs teller (λ i j d lt lt' e is. absurd (cc (none i j, e)));
  skipped = λ m a b row column teller h lt lt' apart nowhere.
      none_told m a b (only row column) teller (λ i j d _ _ e is.
      let here = is_only row column i j e in
      let there : distance m a row b column ≡ Some d =
      subst (λ x. distance m a x b column ≡ Some d) here.0
      (subst (λ x. distance m a i b x ≡ Some d) here.1 is) in
      absurd (no_two d (sym nowhere ∙ there)));
  both = both_told;
  same = λ m a b p q old new h s agree. record {
    table = s.table;
    series = s.series;
    more = s.more;
    right = λ i j d lt lt' e may is. s.right i j d lt lt' (agree i j lt lt' ∙ e) may is;
    left = λ i j d lt lt' e may is. s.left i j d lt lt' (agree i j lt lt' ∙ e) may is;
  };
}

pub tellers_limit : IsLimiting 1 FitsTeller AreTold keeps_row_told keeps_column_told
tellers_limit = record {
  quiet = λ m a b pairs teller h order nothing. none_told m a b pairs teller nothing;
  row_stays = λ m a b pairs old new h s i j d lt keeps.
      subst (λ (e : EntriesState). ComesBefore
      (slice_index_or (whole_of e) (count_of e + i) None) j d) (sym s.series) keeps;
  column_stays = λ m a b pairs old new h s j i d lt keeps.
      subst (λ (e : EntriesState). ComesBefore (slice_index_or (whole_of e) j None) i d)
      (sym s.series) keeps;
}
