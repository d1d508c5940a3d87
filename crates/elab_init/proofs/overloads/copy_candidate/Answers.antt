use Rattle.std.proofs.Common.{◌∙◌, ◌++◌, ◌∷◌, [], false, None, ap}
use Rattle.cpp_types.specs.Typ.{signature, typs_of, void, more, none}
use Rattle.elab_conv.specs.cpp_tree.Notation.{plain}
use Rattle.elab_init.proofs.Wholes.{rolled}
use Rattle.elab_init.proofs.overloads.copy_candidate.Goals as goal

pub returns : goal.returns
returns c = ap (λ s. record { signature = s; this = None })
    (rolled c.push.new.self _ false ∙ ap (λ z. signature (typs_of z) (plain void) false) c.in_ok-push.ensures.items
    ∙ ap (λ z. signature (typs_of (z ++ c.in_ok-reference_to.field-0 ∷ [])) (plain void) false) c.new-params.ensures.items
    ∙ ap (λ z. signature (more z none) (plain void) false) c.in_ok-reference_to.ensures)
