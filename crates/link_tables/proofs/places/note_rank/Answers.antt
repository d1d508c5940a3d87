use Rattle.std.proofs.Common.{refl}
use Rattle.link_tables.specs.Symbols.{has_rank}
use Rattle.link_tables.proofs.FirstNumbers.{noted, not_noted}
use Rattle.link_tables.proofs.places.note_rank.Goals as goal

pub returns-then-not-def-clause-tells : goal.returns-then-not-def-clause-tells
returns-then-not-def-clause-tells c = λ defs h. noted has_rank defs c.args.def c.args.def.symbol.rank c.args.table.now.items c.note.new.table.items
    (λ k. rw c.if-not-def.true refl) c.requires c.note.ensures.first c.note.ensures.later h

pub returns-else-not-def-clause-tells : goal.returns-else-not-def-clause-tells
returns-else-not-def-clause-tells c = λ defs h. not_noted has_rank defs c.args.def c.args.table.now.items (λ k. rw c.if-not-def.false refl) h
