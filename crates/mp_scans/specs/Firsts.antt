-- From which window on successive ones are compared.
use Rattle.std.specs.Prelude.{ℕ, ◌+◌, ◌-◌}
use Rattle.mp_scans.specs.declared.offers.Firsts.{Firsts}

-- from which one on that at a place is
abbrev pub first_at : Firsts → ℕ → ℕ
first_at firsts k = firsts.first + (k + 1 - firsts.lead)
