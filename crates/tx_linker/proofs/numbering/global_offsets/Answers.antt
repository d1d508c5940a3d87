use Rattle.std.proofs.Common.{◌∙◌, map, ap, arith}
use Rattle.link_tables.specs.Found.{global_row, placed}
use Rattle.tx_linker.proofs.KeptRows.{if_ok}
use Rattle.tx_linker.proofs.WholeLinks.{size_is, global_defs_fit, globals_told, ranks_fit}
use Rattle.tx_linker.proofs.numbering.global_offsets.Goals as goal

pub placed_globals-requires : goal.placed_globals-requires
placed_globals-requires c = let s = size_is c.args.kept.now c.requires.kept in rw c.deref.ensures.value (omega (arith, s, c.requires.size))

pub numbers-requires-clause-ranks : goal.numbers-requires-clause-ranks
numbers-requires-clause-ranks c = rw c.deref-2.ensures.value
    (ranks_fit c.args.kept.now c.requires.kept c.len.result (c.len.ensures ∙ c.args.kept.now.names.ok.0))

pub numbers-requires-clause-within : goal.numbers-requires-clause-within
numbers-requires-clause-within c = rw c.deref-3.ensures.value
    (λ i d m. (global_defs_fit c.args.kept.now c.requires.kept c.len.result c.in_ok-defs.defs.items (c.len.ensures ∙ c.args.kept.now.names.ok.0)
    (c.in_ok-defs.ensures ∙ ap (λ xs. placed 0 (map global_row xs)) c.deref.ensures.value) i d m).rank)

pub numbers-requires-clause-places : goal.numbers-requires-clause-places
numbers-requires-clause-places c = rw (c.deref-2.ensures.value, c.deref-3.ensures.value)
    (λ i d m. (global_defs_fit c.args.kept.now c.requires.kept c.len.result c.in_ok-defs.defs.items (c.len.ensures ∙ c.args.kept.now.names.ok.0)
    (c.in_ok-defs.ensures ∙ ap (λ xs. placed 0 (map global_row xs)) c.deref.ensures.value) i d m).place)

pub returns : goal.returns
returns c = if_ok c.numbers.result _ _ (λ v t. globals_told c.args.kept.now c.requires.kept c.in_ok-defs.defs.items v.items
    (c.in_ok-defs.ensures ∙ ap (λ xs. placed 0 (map global_row xs)) c.deref.ensures.value)
    (rw c.deref-3.ensures.value at (rw c.deref-2.ensures.value at t))) c.numbers.ensures
