use Rattle.std.proofs.Common.{◌∙◌, map, sym, ap}
use Rattle.std.specs.List.{position_from}
use Rattle.link_tables.specs.Found.{func_row}
use Rattle.link_parts.specs.Parts.{is_main_row}
use Rattle.tx_linker.proofs.WholeLinks.{funcs_few, main_defined, main_number}
use Rattle.tx_linker.proofs.image.main_in.Goals as goal

pub main_of-requires : goal.main_of-requires
main_of-requires c = rw c.deref.ensures.value (funcs_few c.args.kept.now c.requires.kept)

pub unreachable-requires : goal.unreachable-requires
unreachable-requires c = main_defined c.args.kept.now c.requires.kept c.requires.links
    (sym (ap (λ fs. position_from is_main_row 0 (map func_row fs)) c.deref.ensures.value) ∙ sym c.main_of.ensures ∙ c.in-None.is)

pub returns : goal.returns
returns c = sym (main_number c.args.kept.now c.requires.kept) ∙ sym (ap (λ fs. position_from is_main_row 0 (map func_row fs)) c.deref.ensures.value)
    ∙ sym c.main_of.ensures ∙ c.in-Some.is
