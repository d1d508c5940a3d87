use Rattle.std.proofs.Common.{refl}
use Rattle.link_tables.specs.Symbols.{has_place}
use Rattle.link_tables.proofs.FirstNumbers.{noted, not_noted}
use Rattle.link_tables.proofs.places.note_place.Goals as goal

pub returns-then-def-clause-tells : goal.returns-then-def-clause-tells
returns-then-def-clause-tells c = λ defs h. noted has_place defs c.args.def c.args.def.symbol.place c.args.table.now.items c.note.new.table.items
    (λ k. rw c.if-def.true refl) c.requires c.note.ensures.first c.note.ensures.later h

pub returns-else-def-clause-tells : goal.returns-else-def-clause-tells
returns-else-def-clause-tells c = λ defs h. not_noted has_place defs c.args.def c.args.table.now.items (λ k. rw c.if-def.false refl) h
