use Rattle.std.proofs.Common.{◌∙◌, map, ap}
use Rattle.link_tables.specs.Found.{class_row, class_symbol_of, numbered}
use Rattle.tx_linker.proofs.KeptRows.{if_ok}
use Rattle.tx_linker.proofs.WholeLinks.{classes_few, class_defs_fit, classes_told, ranks_fit}
use Rattle.tx_linker.proofs.numbering.class_numbers.Goals as goal

pub numbered_classes-requires : goal.numbered_classes-requires
numbered_classes-requires c = rw c.deref.ensures.value (classes_few c.args.kept.now c.requires)

pub numbers-requires-clause-ranks : goal.numbers-requires-clause-ranks
numbers-requires-clause-ranks c = rw c.deref-2.ensures.value (ranks_fit c.args.kept.now c.requires c.len.result (c.len.ensures ∙ c.args.kept.now.names.ok.0))

pub numbers-requires-clause-within : goal.numbers-requires-clause-within
numbers-requires-clause-within c = rw c.deref-3.ensures.value
    (λ i d m. (class_defs_fit c.args.kept.now c.requires c.len.result c.in_ok-defs.defs.items (c.len.ensures ∙ c.args.kept.now.names.ok.0)
    (c.in_ok-defs.ensures ∙ ap (λ xs. numbered 0 (map class_symbol_of (map class_row xs))) c.deref.ensures.value) i d m).rank)

pub numbers-requires-clause-places : goal.numbers-requires-clause-places
numbers-requires-clause-places c = rw (c.deref-2.ensures.value, c.deref-3.ensures.value)
    (λ i d m. (class_defs_fit c.args.kept.now c.requires c.len.result c.in_ok-defs.defs.items (c.len.ensures ∙ c.args.kept.now.names.ok.0)
    (c.in_ok-defs.ensures ∙ ap (λ xs. numbered 0 (map class_symbol_of (map class_row xs))) c.deref.ensures.value) i d m).place)

pub returns : goal.returns
returns c = if_ok c.numbers.result _ _ (λ v t. classes_told c.args.kept.now c.requires c.in_ok-defs.defs.items v.items
    (c.in_ok-defs.ensures ∙ ap (λ xs. numbered 0 (map class_symbol_of (map class_row xs))) c.deref.ensures.value)
    (rw c.deref-3.ensures.value at (rw c.deref-2.ensures.value at t))) c.numbers.ensures
