use Rattle.std.proofs.Common.{◌≡◌, ◌∙◌, ◌+◌, ℕ, sym, ap, refl, arith, subst, length}
use Rattle.std.specs.Prelude.{All}
use Rattle.mp_bytes.specs.Fields.{fields_in}
use Rattle.mp_replies.specs.State.{channels_at, samples_in}
use Rattle.mp_stores.specs.Stores.{keep_of, lists_in, slot_at}
use Rattle.mp_stores.specs.StoreLaws.{stand_as_before}
use Rattle.mp_requests.specs.Answering.{state_over}
use Rattle.mp_commands.proofs.AppendLemmas.{added_even, added_long, appended, most_few}
use Rattle.mp_commands.proofs.append_command.prepare_append.Goals as goal

pub returns-clause-prepared : goal.returns-clause-prepared
returns-clause-prepared c = λ told. record {
  ok = λ stores files stand h.
      let items = fields_in c.args.more.items.now in
      let held = c.args.stores.now in
      let added = lists_in c.in_ok-added.added.items in
      let scale = c.scale.ensures.value in
      let n = c.count.ensures.channels stores stand in
      let later = stand_as_before held c.reserve.new.self stores c.reserve.ensures.stands stand in
      let samples : c.len.result + c.in-Ok.count ≡ samples_in (channels_at stores c.args.more.slot) + length items =
      ap (λ (m : ℕ). m + c.in-Ok.count) (c.len.ensures.length stores later)
      ∙ ap (λ (m : ℕ). samples_in (channels_at stores c.args.more.slot) + m) c.in-Ok.ensures.count in
      appended (state_over c.args.context held stores) c.args.more.slot items files added (c.len.result + c.in-Ok.count)
      _ (omega (arith, c.in-Ok.ensures.open, n))
      (rw scale at (c.in-Ok.ensures.fine stores stand)) (rw (scale, n) at c.in-Ok.ensures.good)
      (rw (scale, n) at c.in_ok-added.ensures) samples refl refl;
  stop = λ stores stand. tt;
}

pub overflow_add-samples : goal.overflow_add-samples
overflow_add-samples c =
    let slot = c.args.more.slot in
    let most = most_few (keep_of (slot_at c.args.stores.now slot)) in
    let later = most_few (keep_of (slot_at c.reserve.new.self slot)) in
    omega (arith, c.len.ensures.within, later, c.in-Ok.ensures.fits, most)

pub returns-clause-ready : goal.returns-clause-ready
returns-clause-ready c =
    let items = fields_in c.args.more.items.now in
    let slot = c.args.more.slot in
    let added = lists_in c.in_ok-added.added.items in
    let n = c.count.result in
    let even = added_even c.args.context.mode.width c.scale.result n items added c.in-Ok.ensures.good c.in_ok-added.ensures in
    record {
      can = record {
        within = c.count.ensures.open c.in-Ok.ensures.open;
        room =
            let long = added_long n _ added c.in_ok-added.ensures in
            c.in_ok-reserve.ensures.room added (omega (arith, long, c.in-Ok.ensures.open)) (long ∙ c.count.ensures.count)
            (subst (λ (m : ℕ). All (λ samples. length samples ≡ m) added) (sym c.in-Ok.ensures.count) even)
            c.in-Ok.ensures.fits;
        even = record { count = length items; each = even };
      };
      kept = λ h. absurd (cc h);
      renewed = λ other put. absurd (cc put);
      advanced = λ other cover. absurd (cc cover);
      adds = (refl, even);
      names = tt;
      ends = refl;
      mode = refl;
    }
