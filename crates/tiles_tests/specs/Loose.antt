-- What a test asks of what a scan gives: nothing here, since the test compares it.
use Rattle.std.specs.Prelude.{ℕ, Bool}
use Rattle.mp_defs.specs.Series.{Series}
use Rattle.tiles_tests.specs.declared.found.Found.{Found}
use Rattle.mp_scans.specs.Offering.{IsOffering, IsLimiting}

abbrev pub fits_any : ℕ → Series → Series → Found → Type 0
fits_any m a b into = Unit {0}

abbrev pub may_any : Found → ℕ → ℕ → ℕ → Type 0
may_any into row column dist = Unit {0}

abbrev pub scanned_any : ℕ → Series → Series → (ℕ → ℕ → Bool) → Found → Found → Type 0
scanned_any m a b pairs old new = Unit {0}

abbrev pub keeps_any : Found → ℕ → ℕ → ℕ → Type 0
keeps_any into one other dist = Unit {0}

pub any_offers : IsOffering 0 fits_any may_any scanned_any
any_offers = record {
  may = λ m a b into row column dist f r c l e. tt;
  still_fits = λ m a b pairs old new f s. tt;
  none = λ m a b pairs into f h. tt;
  skipped = λ m a b row column into f r c l e. tt;
  both = λ m a b p q old mid new s t. tt;
  same = λ m a b p q old new f s h. tt;
}

pub any_limits : IsLimiting 0 fits_any scanned_any keeps_any keeps_any
any_limits = record {
  quiet = λ m a b pairs into f h k. tt;
  row_stays = λ m a b pairs old new f s i j d r k. tt;
  column_stays = λ m a b pairs old new f s j i d r k. tt;
}
