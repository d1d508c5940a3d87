use Rattle.std.proofs.Common.{◌∙◌, map, ap}
use Rattle.link_tables.specs.Found.{func_row, func_symbol_of, numbered}
use Rattle.tx_linker.proofs.KeptRows.{if_ok}
use Rattle.tx_linker.proofs.WholeLinks.{funcs_few, func_defs_fit, funcs_told, ranks_fit}
use Rattle.tx_linker.proofs.numbering.func_numbers.Goals as goal

pub numbered_funcs-requires : goal.numbered_funcs-requires
numbered_funcs-requires c = rw c.deref.ensures.value (funcs_few c.args.kept.now c.requires)

pub numbers-requires-clause-ranks : goal.numbers-requires-clause-ranks
numbers-requires-clause-ranks c = rw c.deref-2.ensures.value (ranks_fit c.args.kept.now c.requires c.len.result (c.len.ensures ∙ c.args.kept.now.names.ok.0))

pub numbers-requires-clause-within : goal.numbers-requires-clause-within
numbers-requires-clause-within c = rw c.deref-3.ensures.value
    (λ i d m. (func_defs_fit c.args.kept.now c.requires c.len.result c.in_ok-defs.defs.items (c.len.ensures ∙ c.args.kept.now.names.ok.0)
    (c.in_ok-defs.ensures ∙ ap (λ xs. numbered 0 (map func_symbol_of (map func_row xs))) c.deref.ensures.value) i d m).rank)

pub numbers-requires-clause-places : goal.numbers-requires-clause-places
numbers-requires-clause-places c = rw (c.deref-2.ensures.value, c.deref-3.ensures.value)
    (λ i d m. (func_defs_fit c.args.kept.now c.requires c.len.result c.in_ok-defs.defs.items (c.len.ensures ∙ c.args.kept.now.names.ok.0)
    (c.in_ok-defs.ensures ∙ ap (λ xs. numbered 0 (map func_symbol_of (map func_row xs))) c.deref.ensures.value) i d m).place)

pub returns : goal.returns
returns c = if_ok c.numbers.result _ _ (λ v t. funcs_told c.args.kept.now c.requires c.in_ok-defs.defs.items v.items
    (c.in_ok-defs.ensures ∙ ap (λ xs. numbered 0 (map func_symbol_of (map func_row xs))) c.deref.ensures.value)
    (rw c.deref-3.ensures.value at (rw c.deref-2.ensures.value at t))) c.numbers.ensures
