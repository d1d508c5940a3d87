use Rattle.link_faults.proofs.FirstClaims.{seen, noted}
use Rattle.link_faults.proofs.disputes.note.Goals as goal

pub returns-in-Some-clause-first : goal.returns-in-Some-clause-first
returns-in-Some-clause-first c = λ claims h. seen claims c.args.first.now.items c.args.claim c.in-Some.field-0 (rw c.deref.ensures.value at c.in-Some.ensures) h

pub returns-in-None-clause-first : goal.returns-in-None-clause-first
returns-in-None-clause-first c = λ claims h. noted claims c.args.first.now.items c.args.claim c.requires (rw c.deref.ensures.value at c.in-None.ensures) h
