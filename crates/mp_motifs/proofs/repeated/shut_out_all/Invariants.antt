use Rattle.std.proofs.Common.{◌≡◌, ℕ, false, get_or, take}
use Rattle.std.specs.Int.{abs_diff}
use Rattle.std.specs.List.{list_all}
use Rattle.std.specs.Prelude.{◌&&◌, nat_lt}
use Rattle.mp_motifs.proofs.repeated.shut_out_all.Given as goal

abbrev pub invariant-loop-near : goal.invariant-loop-near
invariant-loop-near l =
    (other : ℕ) → get_or l.is_free other false
    ≡ (get_or l.fn.is_free other false
    && list_all (λ near. nat_lt l.excl (abs_diff near.index other)) (take l.near-index l.found))
