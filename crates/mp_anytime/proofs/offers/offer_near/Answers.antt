use Rattle.mp_anytime.proofs.offers.offer_near.Goals as goal

pub returns-else-may_give-clause-scanned : goal.returns-else-may_give-clause-scanned
returns-else-may_give-clause-scanned c = c.may_give.ensures c.if-may_give.false
