-- One more sample of a distance, and one more window of a least.
use Rattle.std.proofs.Common.{◌≡◌, ℕ, zero, suc, ◌+◌, ◌-◌, ◌*◌, ◌^◌, ◌<◌, ◌≤◌, List, [], ◌∷◌, ◌++◌, get_or, length}
use Rattle.std.proofs.Common.{refl, arith}
use Rattle.std.proofs.Common.{add-one, mul-le-mul, ap, ◌∙◌, sym, Bool, true, false}
use Rattle.std.specs.Prelude.{Option, Some, None, ℤ, ◌-ℤ◌, unsigned_abs, FitsSigned, if◌then◌else◌}
use Rattle.std.specs.Int.{w32}
use Rattle.std.specs.Option.{option_map}
use Rattle.std.proofs.lemmas.Int.{ints}
use Rattle.std.proofs.lemmas.List.{get_or_default}
use Rattle.std.proofs.lemmas.List.FromFn.{map-range_with_len_more}
use Rattle.mp_nums.specs.declared.samples.Sample.{Sample}
use Rattle.mp_nums.specs.declared.samples.Sample.TheVariants.{Missing}
use Rattle.mp_nums.specs.declared.nearest.Near.{Near}
use Rattle.mp_nums.specs.declared.nearest.Sq.{Sq}
use Rattle.mp_nums.specs.Near.{nearer_of}
use Rattle.mp_defs.specs.Series.{Series, reading_of, series_of, number_at}
use Rattle.mp_defs.specs.Distance.{squared_difference, square_between, plus, distance}
use Rattle.mp_defs.specs.Least.{near, near_at, at_distance, candidate}
use Rattle.mp_defs.specs.Profile.{column}
use Rattle.mp_defs.specs.SeriesLaws.{series_are_of_samples}
use Rattle.mp_defs.specs.DistanceLaws.{grows_by_one_sample}
use Rattle.mp_defs.specs.LeastLaws.{grows_by_one_candidate}
use Rattle.mp_plain.specs.Square.{square}

-- ---- options

some_same : {A : Type 0} {x y : A} → Some x ≡ Some y → x ≡ y
some_same e = cc

none_some : {A : Type 0} {x : A} → None ≡ Some x → ⊥
none_some e = cc

-- ---- samples

-- the squared difference of two samples, by their places
pub square_at_places : (a : List Sample) (i : ℕ) (b : List Sample) (j : ℕ) (x y : Sample) → i < length a
    → j < length b → x ≡ get_or a i x → y ≡ get_or b j y
    → square_between (number_at (series_of a) i) (number_at (series_of b) j)
    ≡ square_between (reading_of x) (reading_of y)
square_at_places a i b j x y lt less e f =
    let first : number_at (series_of a) i ≡ reading_of x =
    series_are_of_samples.numbers a i ∙ ap reading_of (sym (e ∙ get_or_default a i x Missing lt)) in
    let second : number_at (series_of b) j ≡ reading_of y =
    series_are_of_samples.numbers b j ∙ ap reading_of (sym (f ∙ get_or_default b j y Missing less)) in
    ap (λ p. square_between p (number_at (series_of b) j)) first ∙ ap (square_between (reading_of x)) second

-- ---- distances

-- the next two samples are there
pub distance_takes : (m : ℕ) (a : Series) (i : ℕ) (b : Series) (j : ℕ) (sum d : ℕ) → distance m a i b j ≡ Some sum
    → square_between (number_at a (i + m)) (number_at b (j + m)) ≡ Some d → distance (m + 1) a i b j ≡ Some (sum + d)
distance_takes m a i b j sum d e f = rw (grows_by_one_sample.one_more m a i b j, e, f) refl

plus_none : (x : Option ℕ) → plus x None ≡ None
plus_none None = refl
plus_none (Some x) = refl

distance_stays_none : (k : ℕ) (m : ℕ) (a : Series) (i : ℕ) (b : Series) (j : ℕ) → distance m a i b j ≡ None
    → distance (m + k) a i b j ≡ None
distance_stays_none zero m a i b j e = let z : m + zero ≡ m = omega arith in rw z e
distance_stays_none (suc k) m a i b j e = let z : m + suc k ≡ m + k + 1 = omega arith in
    rw (z, grows_by_one_sample.one_more (m + k) a i b j, distance_stays_none k m a i b j e) refl

-- one of the next two samples is missing
pub distance_ends : (m n : ℕ) (a : Series) (i : ℕ) (b : Series) (j : ℕ) → m < n
    → square_between (number_at a (i + m)) (number_at b (j + m)) ≡ None → distance n a i b j ≡ None
distance_ends m n a i b j lt e =
    let z : n ≡ m + 1 + (n - (m + 1)) = omega arith in
    let d : distance (m + 1) a i b j ≡ None =
    rw (grows_by_one_sample.one_more m a i b j, e) (plus_none (distance m a i b j)) in
    rw z (distance_stays_none (n - (m + 1)) (m + 1) a i b j d)

-- a square that was found is the distance's number
pub distance_found : (d : Option ℕ) (found : Sq) → Some found ≡ option_map square d → d ≡ Some found.0
distance_found None found e = cc
distance_found (Some d) found e = let same : found ≡ square d = cc in ap (λ (s : Sq). Some s.0) (sym same)

pub distance_missing : (d : Option ℕ) → None ≡ option_map square d → d ≡ None
distance_missing None e = refl
distance_missing (Some d) e = cc

-- ---- the nearest window

-- of the windows of b below n that may be chosen, the nearest to window i of a
abbrev pub nearest_below : ℕ → (ℕ → Bool) → Series → ℕ → Series → ℕ → Option Near
nearest_below m may a i b n = near (candidate may (λ j. distance m a i b j)) n

nearer_of_none : (a : Option Near) → nearer_of a None ≡ a
nearer_of_none None = refl
nearer_of_none (Some a) = refl

-- the next candidate is none
pub near_skips : (c : ℕ → Option Near) (n : ℕ) (best : Option Near) → best ≡ near c n → c n ≡ None
    → best ≡ near c (n + 1)
near_skips c n best e f = rw (grows_by_one_candidate.one_more c n, f, ← e) (sym (nearer_of_none best))

-- the next candidate is there
pub near_takes : (c : ℕ → Option Near) (n : ℕ) (best : Option Near) (found : Near) → best ≡ near c n
    → c n ≡ Some found → nearer_of best (Some found) ≡ near c (n + 1)
near_takes c n best found e f = rw (grows_by_one_candidate.one_more c n, f, e) refl

candidate_not : (may : Bool) (j : ℕ) (d : Option ℕ) → may ≡ false → (if may then at_distance j d else None) ≡ None
candidate_not may j d e = rw e refl

candidate_none : (may : Bool) (j : ℕ) (d : Option ℕ) → d ≡ None → (if may then at_distance j d else None) ≡ None
candidate_none true j d e = rw e refl
candidate_none false j d e = refl

candidate_some : (may : Bool) (j : ℕ) (d : Option ℕ) (x : ℕ) → may ≡ true → d ≡ Some x
    → (if may then at_distance j d else None) ≡ Some (near_at j x)
candidate_some may j d x e f = rw (e, f) refl

-- the next window may not be chosen
pub nearest_skips : (m : ℕ) (may : ℕ → Bool) (a : Series) (i : ℕ) (b : Series) (n : ℕ) (best : Option Near)
    → best ≡ nearest_below m may a i b n → may n ≡ false → best ≡ nearest_below m may a i b (n + 1)
nearest_skips m may a i b n best e f = near_skips (candidate may (λ j. distance m a i b j)) n best e
    (candidate_not (may n) n (distance m a i b n) f)

-- the next window has no distance
pub nearest_misses : (m : ℕ) (may : ℕ → Bool) (a : Series) (i : ℕ) (b : Series) (n : ℕ) (best : Option Near)
    → best ≡ nearest_below m may a i b n → distance m a i b n ≡ None → best ≡ nearest_below m may a i b (n + 1)
nearest_misses m may a i b n best e f = near_skips (candidate may (λ j. distance m a i b j)) n best e
    (candidate_none (may n) n (distance m a i b n) f)

-- the next window may be chosen and has a distance
pub nearest_takes : (m : ℕ) (may : ℕ → Bool) (a : Series) (i : ℕ) (b : Series) (n : ℕ) (best : Option Near) (d : ℕ)
    → best ≡ nearest_below m may a i b n → may n ≡ true → distance m a i b n ≡ Some d
    → nearer_of best (Some (near_at n d)) ≡ nearest_below m may a i b (n + 1)
nearest_takes m may a i b n best d e f g =
    near_takes (candidate may (λ j. distance m a i b j)) n best (near_at n d) e
    (candidate_some (may n) n (distance m a i b n) d f g)

offers_by : (m : ℕ) (may : ℕ → Bool) (a : Series) (i : ℕ) (b : Series) (n : ℕ) (best : Option Near) (d : ℕ) (t : Bool)
    → best ≡ nearest_below m may a i b n → distance m a i b n ≡ Some d → may n ≡ t
    → (if t then nearer_of best (Some (near_at n d)) else best) ≡ nearest_below m may a i b (n + 1)
offers_by m may a i b n best d true e f t = nearest_takes m may a i b n best d e t f
offers_by m may a i b n best d false e f t = nearest_skips m may a i b n best e t

-- the next window has a distance, and the test tells whether it may be chosen
pub nearest_offers : (m : ℕ) (may : ℕ → Bool) (a : Series) (i : ℕ) (b : Series) (n : ℕ) (best : Option Near) (d : ℕ)
    → best ≡ nearest_below m may a i b n → distance m a i b n ≡ Some d
    → (if may n then nearer_of best (Some (near_at n d)) else best) ≡ nearest_below m may a i b (n + 1)
nearest_offers m may a i b n best d e f = offers_by m may a i b n best d (may n) e f refl

-- ---- columns

-- one entry more
pub column_more : (f : ℕ → Option Near) (n : ℕ) (old new : List (Option Near)) (last : Option Near) → old ≡ column f n
    → new ≡ old ++ last ∷ [] → last ≡ f n → new ≡ column f (n + 1)
column_more f n old new last e more is =
    let z : 0 + n ≡ n = omega arith in more ∙ rw (map-range_with_len_more f 0 n n z, e, is) refl
