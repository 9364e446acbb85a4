-- Samples that were computed by hand.
use Rattle.std.specs.Prelude.{◌≡◌, pos}
use Rattle.mp_nums.specs.declared.samples.Sample.TheVariants.{Missing, Value}
use Rattle.mp_results.specs.Generator.{drawn, sample_of}

pub record SamplesByHand : Type 0 where
  -- what is drawn from the seed 0
  pub drawn_0 : drawn 0 0 ≡ 0xe220_a839_7b1d_cdaf
  pub drawn_1 : drawn 0 1 ≡ 0x6e78_9e6a_a1b9_65f4
  pub drawn_2 : drawn 0 2 ≡ 0x06c4_5d18_8009_454f
  pub drawn_3 : drawn 0 3 ≡ 0xf88b_b8a8_724c_81ec
  -- the first samples, and one that is missing
  pub sample_0 : sample_of 0 0 ≡ Value (pos 3)
  pub sample_1 : sample_of 0 1 ≡ Value (pos 109)
  pub sample_2 : sample_of 0 2 ≡ Value (pos 181)
  pub sample_3 : sample_of 0 3 ≡ Value (pos 319)
  pub missing : sample_of 0 996 ≡ Missing
