-- A made series: a triangle wave whose period changes from time to time, with noise, and with some samples missing.
use Rattle.std.specs.Prelude.{ℕ, ◌+◌, ◌-◌, ◌*◌, ◌/◌, ◌%◌, ◌^◌, ◌==◌, min, bit_xor, pos, ◌-ℤ◌, if◌then◌else◌}
use Rattle.mp_nums.specs.declared.samples.Sample.{Sample}
use Rattle.mp_nums.specs.declared.samples.Sample.TheVariants.{Missing, Value}

-- what 64 bits keep of a number
abbrev pub wrapped : ℕ → ℕ
wrapped n = n % 2 ^ 64

-- a number with its bits from so many on mixed into its low ones
abbrev pub folded : ℕ → ℕ → ℕ
folded shift x = bit_xor x (x / 2 ^ shift)

-- what looks as if it were drawn at place i: the number that SplitMix64 draws there from a seed (Steele, Lea and Flood)
abbrev pub drawn : ℕ → ℕ → ℕ
drawn seed i =
    let weyl = wrapped (seed + (i + 1) * 0x9e37_79b9_7f4a_7c15) in
    let mixed = wrapped (folded 30 weyl * 0xbf58_476d_1ce4_e5b9) in
    folded 31 (wrapped (folded 27 mixed * 0x94d0_49bb_1331_11eb))

-- how many samples a wave has at place i
abbrev pub period : ℕ → ℕ
period i = if i / 1000 % 2 == 0 then 64 else 40

-- the height of the wave at place i: how far the nearest start of a wave is
abbrev pub wave : ℕ → ℕ
wave i = let t = i % period i in 100 * min t (period i - t)

-- the sample at place i
abbrev pub sample_of : ℕ → ℕ → Sample
sample_of seed i = if i % 997 == 996 then Missing else Value (pos (wave i + drawn seed i % 41) -ℤ pos 20)
