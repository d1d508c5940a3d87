use Rattle.std.proofs.Common.{◌∙◌, map, length, ap}
use Rattle.tx_code.specs.Objects.{bytes_of}
use Rattle.link_parts.specs.Types.{marked}
use Rattle.tx_linker.proofs.KeptRows.{if_ok}
use Rattle.tx_linker.proofs.WholeLinks.{types_few, types_made}
use Rattle.tx_linker.proofs.image.types_of.Goals as goal

pub returns-clause-types : goal.returns-clause-types
returns-clause-types c =
    if_ok c.types_named.result _ _ (λ v s.
    types_made c.args.kept.now c.requires v.items s.0 (rw c.deref-3.ensures.value at (rw c.deref-2.ensures.value at s.1.0))
    (s.1.1 ∙ ap length c.deref.ensures.value) (s.1.2 ∙ ap (λ ns. marked (map bytes_of ns) s.0) c.deref.ensures.value)) c.types_named.ensures

pub returns-clause-few : goal.returns-clause-few
returns-clause-few c = if_ok c.types_named.result _ _
    (λ v s. types_few c.args.kept.now c.requires v.items s.0 (s.1.2 ∙ ap (λ ns. marked (map bytes_of ns) s.0) c.deref.ensures.value)) c.types_named.ensures
