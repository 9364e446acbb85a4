-- What offers of the last window need of the entries of all windows, and what they leave.
use Rattle.std.specs.Prelude.{◌≡◌, ℕ, ◌+◌, ◌^◌, ◌<◌, List, Bool, length, Option}
use Rattle.mp_nums.specs.declared.nearest.Near.{Near}
use Rattle.mp_stream.specs.Blocks.{StayKnown, numbered}
use Rattle.mp_stream.specs.Limits.{AllStartAtMost, AreLimits}
use Rattle.mp_stream.specs.Rows.{IsTaken}
use Rattle.mp_stream.specs.declared.entries.Entries.{Entries}

-- the entries have a place for each window up to the last one, those on the right name no window behind it, and their
-- limits are theirs
pub record IsReady (limit : Option Near → ℕ) (last : ℕ) (entries : Entries) : Type 0 where
  pub rights : length entries.profile.right ≡ last + 1
  pub number : numbered entries.profile.first last < 2 ^ 64
  pub starts : AllStartAtMost (numbered entries.profile.first last) entries.profile.right
  pub limits : AreLimits limit entries.profile.right entries.limits.items

-- only entries on the right, their limits and marks may change, and what was known is known
pub record OnlyRightChanges (old new : Entries) : Type 0 where
  pub left : new.profile.left ≡ old.profile.left
  pub spare : new.profile.spare ≡ old.profile.spare
  pub first : new.profile.first ≡ old.profile.first
  pub limits : new.limits.spare ≡ old.limits.spare
  pub known : StayKnown old.profile new.profile

-- the last window was offered to the free windows from first on and before end, on the right
pub record AreOffered (limit : Option Near → ℕ) (free : List Bool) (dist : ℕ → ℕ) (last first end : ℕ)
    (old new : Entries) : Type 0 where
  pub right : IsTaken free dist (numbered old.profile.first last) first end old.profile.right new.profile.right
  pub only : OnlyRightChanges old new
  pub ready : IsReady limit last new
