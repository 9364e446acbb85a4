-- Refs that are read one by one, 2 to 64 of them.
use Rattle.std.proofs.Common.{◌≡◌, ℕ, ◌<◌, ◌≤◌, Bool, true, false, List, [], ◌∷◌, length, refl, arith, nat_le}
use Rattle.std.specs.Prelude.{is_some, unwrap_or, ◌&&◌}
use Rattle.std.proofs.lemmas.Bool.Decides.{nat_tests}
use Rattle.mp_replies.specs.ConsensusCommand.{consensus_fits}
use Rattle.mp_replies.specs.Limits.{min_refs, max_refs}
use Rattle.mp_replies.specs.Numbers.{ref, refs}
use Rattle.mp_lines.proofs.ReadLemmas.{AreCounted, AreFew, read_length}

fits_by : (few many : Bool) (all : List (List ℕ)) → nat_le min_refs (length all) ≡ few
    → nat_le (length all) max_refs ≡ many
    → few && many ≡ true → length all ≤ 64
fits_by few true all h is both = grind (arith, nat_tests, is)
fits_by true false all h is both = absurd (cc both)
fits_by false false all h is both = absurd (cc both)

fits_within : (all : List (List ℕ)) → consensus_fits all ≡ true → length all ≤ 64
fits_within all fits =
    fits_by (nat_le min_refs (length all)) (nat_le (length all) max_refs) all refl refl fits

pub counted_fits : (all : List (List ℕ)) (text : List ℕ) (left : List (List ℕ)) (count : ℕ)
    → consensus_fits all ≡ true → AreCounted all (text ∷ left) count → count < 64
counted_fits all text left count fits h = omega (arith, fits_within all fits, h.counted)

pub counted_all : (all : List (List ℕ)) (count : ℕ) → is_some (refs all) ≡ true → AreCounted all [] count
    → count ≡ length (unwrap_or (refs all) [])
counted_all all count some h = omega (arith, h.counted, read_length ref all some)

-- ---- whether there are 2 to 64

and_false : (b : Bool) → false ≡ (b && false)
and_false true = refl
and_false false = refl

and_true : (b : Bool) → b ≡ (b && true)
and_true true = refl
and_true false = refl

pub too_many : (all : List (List ℕ)) (text : List ℕ) (left : List (List ℕ)) (count : ℕ) → count ≡ 64
    → AreFew 64 all (text ∷ left) count → false ≡ consensus_fits all
too_many all text left count full h =
    let many : nat_le (length all) max_refs ≡ false = grind (arith, nat_tests, h.counted) in
    rw many (and_false (nat_le min_refs (length all)))

pub few_all : (all : List (List ℕ)) (count : ℕ) → AreFew 64 all [] count → nat_le 2 count ≡ consensus_fits all
few_all all count h =
    let total : count ≡ length all = omega (arith, h.counted) in
    let within : nat_le (length all) max_refs ≡ true = grind (arith, nat_tests, h.counted, h.few) in
    rw (within, total) (and_true (nat_le min_refs (length all)))
