use Rattle.std.proofs.Common.{◌∙◌, ap, arith, length}
use Rattle.std.proofs.lemmas.List.{length-map}
use Rattle.mp_stores.specs.Stores.{lists_in}
use Rattle.mp_stores.proofs.StoreLemmas.{kept_grown, kept_of_samples, kept_room, one_list, part_extended}
use Rattle.mp_stores.proofs.StoreLemmas.{part_room}
use Rattle.mp_stores.proofs.store.Store.add.Goals as goal

pub bounds-added-0 : goal.bounds-added-0
bounds-added-0 c =
    let lists = lists_in c.args.added.now in
    let can = kept_room c.args.self.now c.in-Kept.kept lists c.in-Kept.is c.requires.room in
    omega (arith, can.one, length-map c.args.added.now (λ samples. samples.items))

pub append_all-requires-clause-room : goal.append_all-requires-clause-room
append_all-requires-clause-room c =
    let lists = lists_in c.args.added.now in
    let can = kept_room c.args.self.now c.in-Kept.kept lists c.in-Kept.is c.requires.room in
    let one = one_list c.args.added.now c.index-added-0.result can.one c.index-added-0.is in
    omega (arith, can.fits, one.count, ap length c.as_slice.ensures.value)

pub append_all-requires-clause-kept : goal.append_all-requires-clause-kept
append_all-requires-clause-kept c = kept_of_samples c.args.self.now c.in-Kept.kept c.in-Kept.is c.requires.kept

pub returns-in-Kept : goal.returns-in-Kept
returns-in-Kept c =
    let lists = lists_in c.args.added.now in
    let can = kept_room c.args.self.now c.in-Kept.kept lists c.in-Kept.is c.requires.room in
    let one = one_list c.args.added.now c.index-added-0.result can.one c.index-added-0.is in
    kept_grown c.args.self.now c.in-Kept.kept c.append_all.new.kept lists c.as_slice.result.now c.in-Kept.is
    (c.as_slice.ensures.value ∙ one.first) c.append_all.ensures

-- ---- a lazy slot

pub bounds-added-0-in-Lazy : goal.bounds-added-0-in-Lazy
bounds-added-0-in-Lazy c =
    let lists = lists_in c.args.added.now in
    let can = part_room c.args.self.now c.in-Lazy.part lists c.in-Lazy.is c.requires.room in
    omega (arith, can.one, length-map c.args.added.now (λ samples. samples.items))

pub extend-requires-clause-room : goal.extend-requires-clause-room
extend-requires-clause-room c =
    let lists = lists_in c.args.added.now in
    let can = part_room c.args.self.now c.in-Lazy.part lists c.in-Lazy.is c.requires.room in
    let one = one_list c.args.added.now c.index-added-0-in-Lazy.result can.one c.index-added-0-in-Lazy.is in
    omega (arith, can.room, one.count, ap length c.as_slice-in-Lazy.ensures.value)

pub extend-requires-clause-fits : goal.extend-requires-clause-fits
extend-requires-clause-fits c =
    let lists = lists_in c.args.added.now in
    let can = part_room c.args.self.now c.in-Lazy.part lists c.in-Lazy.is c.requires.room in
    let one = one_list c.args.added.now c.index-added-0-in-Lazy.result can.one c.index-added-0-in-Lazy.is in
    omega (arith, can.fits, one.count, ap length c.as_slice-in-Lazy.ensures.value)

pub returns-in-Lazy : goal.returns-in-Lazy
returns-in-Lazy c =
    let lists = lists_in c.args.added.now in
    let can = part_room c.args.self.now c.in-Lazy.part lists c.in-Lazy.is c.requires.room in
    let one = one_list c.args.added.now c.index-added-0-in-Lazy.result can.one c.index-added-0-in-Lazy.is in
    part_extended c.args.self.now c.in-Lazy.part c.extend.new.part lists c.as_slice-in-Lazy.result.now c.in-Lazy.is
    (c.as_slice-in-Lazy.ensures.value ∙ one.first) c.extend.ensures
