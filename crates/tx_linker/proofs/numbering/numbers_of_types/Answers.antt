use Rattle.std.proofs.Common.{map}
use Rattle.tx_code.specs.Objects.{bytes_of}
use Rattle.tx_linker.proofs.KeptRows.{if_ok}
use Rattle.tx_linker.proofs.WholeLinks.{types_told}
use Rattle.tx_linker.proofs.numbering.numbers_of_types.Goals as goal

pub returns : goal.returns
returns c = if_ok c.type_numbers.result _ _ (λ v e. types_told c.args.kept.now c.requires.kept
    (map bytes_of c.args.types.now) c.deref.result.now v.items c.deref.ensures.value e) c.type_numbers.ensures
