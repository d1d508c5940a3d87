-- The scalars of an object that is thrown are those that the test reads.
use Rattle.std.proofs.Common.{refl, true}
use Rattle.elab_rules.specs.cpp_types.Typ.{typ, void, int, enum, null, ptr, ref, array, func, class, closure, tx_ex}
use Rattle.elab_fits_forms.specs.Forms.{FieldsAgree}
use Rattle.elab_fits_statements.proofs.Scalars.{scalars_law}

pub fields_agree : FieldsAgree
fields_agree classes at (class n) q v o z r k l = scalars_law classes true at (typ (class n) q v) o refl z l r
fields_agree classes at (closure n) q v o z r k l = scalars_law classes true at (typ (closure n) q v) o refl z l r
fields_agree classes at (tx_ex t) q v o z r k l = scalars_law classes true at (typ (tx_ex t) q v) o refl z l r
fields_agree classes at void q v o z r k l = absurd cc
fields_agree classes at (int i) q v o z r k l = absurd cc
fields_agree classes at (enum n e) q v o z r k l = absurd cc
fields_agree classes at null q v o z r k l = absurd cc
fields_agree classes at (ptr t) q v o z r k l = absurd cc
fields_agree classes at (ref t) q v o z r k l = absurd cc
fields_agree classes at (array t n) q v o z r k l = absurd cc
fields_agree classes at (func s) q v o z r k l = absurd cc
