use Rattle.std.proofs.Common.{◌≡◌, ℕ, ◌-◌, ◌*◌, ◌/◌, ◌∙◌, arith, length, subst, sym}
use Rattle.mp_defs.specs.Profile.{windows_of}
use Rattle.mp_partial.specs.Profiled.{Profiled}
use Rattle.mp_scans.specs.declared.plans.Plan.{Plan}
use Rattle.mp_tiles.specs.Scanning.{HasPlaces, IsScanned}
use Rattle.mp_anytime.specs.Scanning.{is_pair_from, starts_behind}
use Rattle.mp_anytime.specs.Rounded.{series_in}
use Rattle.mp_anytime.specs.Bounds.{Bounded, IsFor}
use Rattle.mp_anytime.proofs.Quiet.{all_taken, still_for, taken_on}
use Rattle.mp_anytime.proofs.found.Found.take_along.Goals as goal

is : (plan : Plan) (w : ℕ) (old new : Bounded) → w ≡ windows_of plan.grid.m (series_in plan)
    → HasPlaces w old.profile
    → new.profile ≡ old.profile → new.m ≡ plan.rounding.m → new.shift ≡ plan.rounding.shift
    → IsFor plan new
is plan w old new count places same m shift = record {
  m_is = m ∙ plan.same_length;
  shift_is = shift;
  places = subst (HasPlaces (windows_of plan.grid.m (series_in plan))) (sym same)
      (subst (λ n. HasPlaces n old.profile) count places);
}

pub take_blocks-requires-clause-for_these : goal.take_blocks-requires-clause-for_these
take_blocks-requires-clause-for_these c =
    let rounded = c.args.rounded.now in
    is rounded.plan (length rounded.free.now) c.args.self.now c.round_by.new.self rounded.lists.marks.places
    c.requires.places c.round_by.ensures.profile c.round_by.ensures.m c.round_by.ensures.shift

pub take_rest-requires-clause-for_these : goal.take_rest-requires-clause-for_these
take_rest-requires-clause-for_these c =
    let rounded = c.args.rounded.now in
    let blocks = (length rounded.free.now - c.args.offset) / 32 in
    still_for rounded.plan (is_pair_from c.args.offset 0 (32 * blocks)) c.round_by.new.self c.take_blocks.new.self
    (is rounded.plan (length rounded.free.now) c.args.self.now c.round_by.new.self rounded.lists.marks.places
    c.requires.places c.round_by.ensures.profile c.round_by.ensures.m c.round_by.ensures.shift) c.take_blocks.ensures

pub returns : goal.returns
returns c =
    let rounded = c.args.rounded.now in
    let plan = rounded.plan in
    let offset = c.args.offset in
    let pairs = length rounded.free.now - offset in
    let row = 32 * (pairs / 32) in
    let for_these = is plan (length rounded.free.now) c.args.self.now c.round_by.new.self rounded.lists.marks.places
    c.requires.places c.round_by.ensures.profile c.round_by.ensures.m c.round_by.ensures.shift in
    subst (λ (p : Profiled). IsScanned (starts_behind offset) plan.grid.m (series_in plan) p
    c.take_rest.new.self.profile)
    c.round_by.ensures.profile
    (all_taken plan offset pairs c.round_by.new.self c.take_rest.new.self for_these
    (sym rounded.lists.marks.places ∙ omega (arith, c.requires.within))
    (taken_on plan offset 0 row pairs c.round_by.new.self c.take_blocks.new.self c.take_rest.new.self for_these
    (omega arith) (omega arith) c.take_blocks.ensures c.take_rest.ensures))
