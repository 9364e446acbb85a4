-- How far a block's rows reach, place by place.
use Rattle.std.proofs.Common.{◌≡◌, ℕ, ◌+◌, ◌-◌, ◌<◌, ◌≤◌, List, [], length, get_or, map, refl, arith, ap, ◌∙◌, sym}
use Rattle.std.proofs.Common.{subst}
use Rattle.std.specs.Prelude.{Option, Some, None, IfSome, All, slice_get}
use Rattle.std.specs.List.{between}
use Rattle.std.proofs.lemmas.List.{length-map}
use Rattle.std.proofs.lemmas.Option.{get_or_from_slice_get}
use Rattle.mp_nums.specs.declared.nearest.Sq.{Sq}
use Rattle.mp_nums.specs.declared.samples.Sample.{Sample}
use Rattle.mp_nums.specs.Near.{nearer_of}
use Rattle.mp_defs.specs.Series.{Series, series_of}
use Rattle.mp_defs.specs.Profile.{join_entry}
use Rattle.mp_results.specs.Consensus.{counterpart}
use Rattle.mp_consensus.specs.Searches.{IsPast, Reaches, HaveReached, start_of, reach_with, renewed}
use Rattle.mp_consensus.specs.Searches.{as_square}
use Rattle.mp_consensus.proofs.Radii.{counterpart_own}
use Rattle.mp_consensus.proofs.Scanning.{row_entry}
use Rattle.mp_consensus.proofs.Searching.{reaches_none, reaches_more, reaches_anew, reaches_itself}

-- a series of the list is as long as each may be
pub within_all : (list : List (List Sample)) (most q : ℕ) (b : List Sample)
    → All (λ series. length series ≤ most) list → q < length list → slice_get list q ≡ Some b → length b ≤ most
within_all list most q b all lt there =
    subst (λ (series : List Sample). length series ≤ most) (get_or_from_slice_get list q b [] there) (all q [] lt)

pub none_reached : (least : Option ℕ) (m : ℕ) (list : List Series) (p start : ℕ) (reaches : List (Option Sq))
    → ((i : ℕ) → i < length reaches → get_or reaches i None ≡ Some (as_square 0))
    → HaveReached least m list p start 0 reaches
none_reached least m list p start reaches each = λ i lt.
    subst (Reaches least (counterpart m list p (start + i)) (length list) 0) (sym (each i lt))
    (reaches_none least (counterpart m list p (start + i)) (length list) (as_square 0) refl)

pub more_reached : (least : Option ℕ) (m : ℕ) (list : List (List Sample)) (p q start end : ℕ) (rows b : List Sample)
    (stop : Option Sq) (old new : List (Option Sq)) → IfSome stop (λ (e : Sq). IsPast least e.0)
    → rows ≡ between start end (get_or list p []) → length old + m ≤ end - start + 1 → q < length list
    → (q ≡ p → ⊥) → slice_get list q ≡ Some b → length new ≡ length old
    → ((i : ℕ) → i < length old → get_or new i None
    ≡ reach_with stop (get_or old i None)
    (nearer_of (start_of stop (get_or old i None)) (join_entry m (series_of rows) (series_of b) i)))
    → HaveReached least m (map series_of list) p start q old
    → HaveReached least m (map series_of list) p start (q + 1) new
more_reached least m list p q start end rows b stop old new past is within lt ne there count each had = λ i below.
    let row : i < length old = omega (arith, below, count) in
    let f = counterpart m (map series_of list) p (start + i) in
    let entry = join_entry m (series_of rows) (series_of b) i in
    let entry_is : f q ≡ entry =
    row_entry m list p q start end i b (omega (arith, row, within)) ne there
    ∙ ap (λ (samples : List Sample). join_entry m (series_of samples) (series_of b) i) (sym is) in
    subst (Reaches least f (length (map series_of list)) (q + 1)) (sym (each i row))
    (reaches_more least f (length (map series_of list)) q stop (get_or old i None) entry
    (nearer_of (start_of stop (get_or old i None)) entry) (omega (arith, lt, length-map list series_of)) past entry_is
    refl (had i row))

-- the rows that a scan of place q leaves are as those that were compared with none
pub none_reached_by : (least : Option ℕ) (m : ℕ) (list : List (List Sample)) (p q start end : ℕ) (rows b : List Sample)
    (stop : Option Sq) (old new : List (Option Sq)) → IfSome stop (λ (e : Sq). IsPast least e.0)
    → rows ≡ between start end (get_or list p []) → length old + m ≤ end - start + 1 → q < length list
    → (q ≡ p → ⊥) → slice_get list q ≡ Some b → length new ≡ length old
    → ((i : ℕ) → i < length old → get_or old i None ≡ Some (as_square 0))
    → ((i : ℕ) → i < length old → get_or new i None
    ≡ renewed (reach_with stop (get_or old i None)
    (nearer_of (start_of stop (get_or old i None)) (join_entry m (series_of rows) (series_of b) i))))
    → HaveReached least m (map series_of list) p start 0 new
none_reached_by least m list p q start end rows b stop old new past is within lt ne there count zero each = λ i below.
    let row : i < length old = omega (arith, below, count) in
    let f = counterpart m (map series_of list) p (start + i) in
    let entry = join_entry m (series_of rows) (series_of b) i in
    let entry_is : f q ≡ entry =
    row_entry m list p q start end i b (omega (arith, row, within)) ne there
    ∙ ap (λ (samples : List Sample). join_entry m (series_of samples) (series_of b) i) (sym is) in
    subst (Reaches least f (length (map series_of list)) 0)
    (sym (each i row ∙ ap (λ (reach : Option Sq). renewed
    (reach_with stop reach (nearer_of (start_of stop reach) entry)))
    (zero i row)))
    (reaches_anew least f (length (map series_of list)) q stop (as_square 0) entry
    (nearer_of (start_of stop (Some (as_square 0))) entry) (omega (arith, lt, length-map list series_of)) past entry_is
    refl)

pub itself_reached : (least : Option ℕ) (m : ℕ) (list : List Series) (p q start : ℕ) (reaches : List (Option Sq))
    → q ≡ p → HaveReached least m list p start q reaches → HaveReached least m list p start (q + 1) reaches
itself_reached least m list p q start reaches e had = λ i lt.
    reaches_itself least (counterpart m list p (start + i)) (length list) q (start + i) (get_or reaches i None)
    (ap (counterpart m list p (start + i)) e ∙ counterpart_own m list p (start + i)) (had i lt)

-- where all are given up, no other place matters
pub none_left : (least : Option ℕ) (m : ℕ) (list : List Series) (p q n start : ℕ) (reaches : List (Option Sq))
    → All (λ reach. reach ≡ None) reaches → HaveReached least m list p start q reaches
    → HaveReached least m list p start n reaches
none_left least m list p q n start reaches none had = λ i lt.
    let f = counterpart m list p (start + i) in
    let given_up = none i None lt in
    subst (Reaches least f (length list) n) (sym given_up)
    (subst (Reaches least f (length list) q) given_up (had i lt))
