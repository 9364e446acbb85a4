use Rattle.std.proofs.Common.{◌+◌, ◌-◌, ◌∙◌, inl, inr, arith, refl, sym, subst, w32, FitsSigned}
use Rattle.mp_scans.proofs.RunLemmas.{residue_fits, residues_as, passed_residues, residue_lanes}
use Rattle.mp_scans.proofs.LimitLemmas.{known_later}
use Rattle.mp_scans.proofs.StripLemmas.{no_pairs}
use Rattle.mp_scans.proofs.strips.scan_strip.Goals as goal

pub load-requires-clause-fit : goal.load-requires-clause-fit
load-requires-clause-fit g c = λ t lt.
    let strip = c.args.strip.now in
    subst (FitsSigned w32) (sym (c.requires.residues (omega arith) t lt))
    (residue_fits strip.block 0 (strip.offset + t))

pub scan_lanes-requires-clause-residues : goal.scan_lanes-requires-clause-residues
scan_lanes-requires-clause-residues g c =
    let strip = c.args.strip.now in
    residues_as strip.block 0 0 strip.offset (0 + strip.offset) _ refl (omega arith) (passed_residues _ _ _ _ (record {
      count = c.load.ensures.lanes.count;
      each = λ t lt. c.load.ensures.loaded t lt ∙ c.requires.residues (omega arith) t lt;
    }))

pub store-requires-clause-residues : goal.store-requires-clause-residues
store-requires-clause-residues g c = residue_lanes _ _ _ _ (passed_residues _ _ _ _ c.scan_lanes.ensures.residues)

pub returns-then-strip-gt0-clause-moved : goal.returns-then-strip-gt0-clause-moved
returns-then-strip-gt0-clause-moved g c = record {
  stored = λ _ t lt.
      c.store.ensures.stored t lt ∙ (passed_residues _ _ _ _ c.scan_lanes.ensures.residues).each t lt;
  others = λ k which. elim which [
    | inl less ↦ c.store.ensures.before k less
    | inr more ↦ c.store.ensures.behind k more
  ];
  places = c.store.ensures.places;
}

pub returns-else-strip-gt0 : goal.returns-else-strip-gt0
returns-else-strip-gt0 g c =
    let strip = c.args.strip.now in
    let b = strip.block in
    let d = b.column - b.row + strip.offset in
    record {
      known = known_later b _ _ _ _ (λ q. omega arith) c.requires.known;
      scanned = g.met.O.Offers.laws.none _ _ _ _ _ c.requires.known.places
          (λ i j. no_pairs d (d + strip.width) (b.row + 0) (b.row + strip.end) i j (inr (omega arith)));
      moved = record {
        stored = λ some t lt. absurd (omega (arith, some));
        others = λ _ _. refl;
        places = refl;
      };
    }
