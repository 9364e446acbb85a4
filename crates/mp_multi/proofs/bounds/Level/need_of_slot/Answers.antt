use Rattle.std.proofs.Common.{ℕ, ◌≤◌, sym, subst, rules, arith}
use Rattle.std.specs.Prelude.{slice_index_or, None}
use Rattle.mp_sums.specs.Limits.{IsBeyond}
use Rattle.mp_scans.specs.Slots.{Covers}
use Rattle.mp_skips.specs.declared.sums.Units.{Units}
use Rattle.mp_multi.specs.Skips.{ReachesIn}
use Rattle.mp_multi.proofs.bounds.Level.need_of_slot.Goals as goal

pub returns : goal.returns
returns c =
    let covers : (index dist : ℕ) → c.args.first ≤ index → IsBeyond c.limit_of-limit.result dist
    → Covers (slice_index_or c.args.into.now.items c.args.window None) index dist = search rules in
    record {
      nothing = λ other v lt behind value small reach.
          covers other v behind
          (c.need_of.ensures.beyond v small
          (subst (λ (w : Units). ReachesIn w c.need_of.result v)
          (sym (c.args.self.now.are.each 0 _ (omega (arith, c.requires.channels))).units_are) reach));
    }
