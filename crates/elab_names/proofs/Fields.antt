-- Data members of objects.
use Rattle.std.proofs.Common.{◌≡◌, ℕ, sym, ap, ◌∙◌}
use Rattle.elab_conv.specs.cpp_types.Typ.{Typ}
use Rattle.elab_conv.specs.cpp_types.declared.classes.At.{At}
use Rattle.elab_conv.specs.cpp_tree.Trees.{Tree, typ_in}
use Rattle.elab_conv.specs.cpp_tree.Typing.{qualified}
use Rattle.elab_conv.specs.elab_ctx.Ctx.{Ctx}
use Rattle.elab_conv.specs.elab_rules.Values.{part_at}
use Rattle.elab_conv.specs.elab_rules.Names.{offset_at, member_of, field, is_const_typ, is_volatile_object}

pub field_tree : (c : Ctx) (at : At) (object : Tree) (n i o : ℕ) (around t u : Typ) → o ≡ offset_at c.classes n i → typ_in object ≡ around
    → u ≡ qualified (is_const_typ around) (is_volatile_object around) t → part_at o u at object ≡ member_of c at object (field n i t)
field_tree c at object n i o around t u a b d = ap (λ (z : ℕ). part_at z u at object) a
    ∙ ap (λ (z : Typ). part_at (offset_at c.classes n i) z at object) (d ∙ ap (λ (z : Typ). qualified (is_const_typ z) (is_volatile_object z) t) (sym b))
