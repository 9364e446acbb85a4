use Rattle.std.proofs.Common.{◌+◌, ◌-◌, length, length-append, length-drop, length-take, ap, arith}
use Rattle.std.specs.Prelude.{Option}
use Rattle.mp_nums.specs.declared.nearest.Near.{Near}
use Rattle.mp_defs.specs.Series.{series_of}
use Rattle.mp_pan.specs.Ranges.{FoundAt, best_at, from_to, unusual_at}
use Rattle.mp_pan.proofs.Putting.{all_taken, columns_are, still_for_lengths}
use Rattle.mp_pan.proofs.found.Found.take.Goals as goal

pub invariant_of-self : goal.invariant_of-self
invariant_of-self c =
    let lengths = c.args.lengths.now in
    let test = from_to (lengths.least - c.args.lo) (lengths.least - c.args.lo + lengths.count) in
    let a = series_of lengths.samples.now in
    record {
      room = omega (
        arith,
        length-take {A = Option Near},
        length-append {A = Option Near},
        length-drop {A = Option Near},
        c.take_lengths.ensures.places,
        ap length c.as_mut_slice.ensures.value,
        c.self.invariant.room,
      );
      best = still_for_lengths test (best_at c.args.lo a) c.self.inside.best c.take_lengths.new.best
          c.self.invariant.best c.take_lengths.ensures.best;
      discord = still_for_lengths test (unusual_at c.args.lo a) c.self.inside.discord c.take_lengths.new.discord
          c.self.invariant.discord c.take_lengths.ensures.discord;
    }

pub returns-clause-value : goal.returns-clause-value
returns-clause-value c =
    let lengths = c.args.lengths.now in
    all_taken (from_to (lengths.least - c.args.lo) (lengths.least - c.args.lo + lengths.count)) c.args.lo
    (series_of lengths.samples.now) c.self.inside.best c.take_lengths.new.best c.self.inside.discord
    c.take_lengths.new.discord c.args.self.now
    (ap (λ (f : FoundAt). f.best_starts) c.self.view_is) (ap (λ (f : FoundAt). f.best_nearest) c.self.view_is)
    (ap (λ (f : FoundAt). f.discord_starts) c.self.view_is) (ap (λ (f : FoundAt). f.discord_nearest) c.self.view_is)
    c.take_lengths.ensures.best c.take_lengths.ensures.discord

pub returns-clause-is_value : goal.returns-clause-is_value
returns-clause-is_value c =
    let lengths = c.args.lengths.now in
    let test = from_to (lengths.least - c.args.lo) (lengths.least - c.args.lo + lengths.count) in
    let a = series_of lengths.samples.now in
    columns_are c.take_lengths.new.best c.take_lengths.new.discord
    (still_for_lengths test (best_at c.args.lo a) c.self.inside.best c.take_lengths.new.best c.self.invariant.best
    c.take_lengths.ensures.best)
    (still_for_lengths test (unusual_at c.args.lo a) c.self.inside.discord c.take_lengths.new.discord
    c.self.invariant.discord c.take_lengths.ensures.discord)
