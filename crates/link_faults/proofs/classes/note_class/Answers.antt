use Rattle.link_faults.proofs.FirstClasses.{seen_class, noted_class}
use Rattle.link_faults.proofs.classes.note_class.Goals as goal

pub returns-in-Some-clause-first : goal.returns-in-Some-clause-first
returns-in-Some-clause-first c = λ views n l h. seen_class views c.args.i c.in-Some.field-0 c.args.name c.args.first.now.items n l
    (rw c.deref.ensures.value at c.in-Some.ensures) h

pub returns-in-None-clause-first : goal.returns-in-None-clause-first
returns-in-None-clause-first c = λ views n l h. noted_class views c.args.i c.args.name c.args.first.now.items c.requires n l
    (rw c.deref.ensures.value at c.in-None.ensures) h
