use Rattle.std.proofs.Common.{◌∙◌, ap, sym}
use Rattle.elab_entry.specs.cpp_types.Typ.{Signature}
use Rattle.elab_entry.specs.cpp_tree.Typing.{is_class_typ}
use Rattle.elab_entry.specs.elab_rules.Initialising.{signature_result}
use Rattle.elab_entry.specs.elab_rules.Programs.{one_if}
use Rattle.elab_entry.proofs.cpp_types.Views.{signature_view}
use Rattle.elab_units.proofs.shown.result_words.Goals as goal

pub returns-clause-is : goal.returns-clause-is
returns-clause-is c = c.one_if.ensures.is ∙ ap one_if
    (c.is_class_type.ensures ∙ ap (λ (z : Signature). is_class_typ (signature_result z)) (sym (signature_view c.args.found.now.rec.ty)))
