-- The value of a `switch`, and declarations that a label may stand behind.
use Rattle.std.proofs.Common.{◌≡◌, refl, sym, ap, ◌∙◌, subst, Bool, true, false, Result, Ok}
use Rattle.std.specs.Prelude.{if◌then◌else◌}
use Rattle.elab_rules.specs.tx_ints.declared.kinds.IntKind.{IntKind}
use Rattle.elab_rules.specs.tx_ints.declared.kinds.IntKind.TheVariants.{Int}
use Rattle.elab_rules.specs.tx_ints.Integers.{promote_of}
use Rattle.elab_rules.specs.cpp_types.Typ.{Typ, Form, int, enum}
use Rattle.elab_rules.specs.cpp_types.declared.classes.At.{At}
use Rattle.elab_rules.specs.cpp_tree.declared.faults.ElabFault.{ElabFault}
use Rattle.elab_rules.specs.cpp_tree.Trees.{Tree}
use Rattle.elab_rules.specs.cpp_tree.Notation.{plain}
use Rattle.elab_rules.specs.cpp_tree.Typing.{form_in, kind_in, gives_promoted}
use Rattle.elab_rules.specs.cpp_tree.Rows.{Setting}
use Rattle.elab_rules.specs.elab_ctx.Steps.{Operand}
use Rattle.elab_rules.specs.Values.{converted}
use Rattle.elab_rules.specs.Operators.{value, value_form}
use Rattle.elab_rules.specs.Statements.{full, throws_object, switched_type, switch_value, is_enum}
use Rattle.elab_fits.specs.Scalars.{is_scalar, Gives, IsOperand}
use Rattle.elab_fits.proofs.Numbers.{promoted_kind}
use Rattle.elab_fits.proofs.Values.{converted_gives}
use Rattle.elab_fits.proofs.Arithmetic.{value_of}
use Rattle.elab_fits_statements.specs.Variables.{Switches}
use Rattle.elab_fits_statements.proofs.Wholes.{whole_value}
use Rattle.elab_fits_statements.proofs.Variables.{given_thrown, whole_typ, whole_cat}

-- The value of a `switch`

switched_gives : (s : Setting) (at : At) (t : Typ) (f : Form) (e : Tree) → Gives s f e → kind_in f ≡ kind_in (form_in t) → gives_promoted (kind_in f) ≡ true
    → Switches s t (full at e)
switched_gives s at t f e h k p = record {
  switched = record {
    fits = whole_value s at e h.fits;
    category = whole_cat at e n ∙ h.category;
    promoted = ap (λ (u : Typ). gives_promoted (kind_in (form_in u))) (whole_typ at e n ∙ h.typed) ∙ p;
  };
  kind = ap (λ (u : Typ). kind_in (form_in u)) (whole_typ at e n ∙ h.typed) ∙ k;
}
  where
    n : throws_object e ≡ false
    n = given_thrown s f e h

typ_told : (t u : Typ) → ◌≡◌ {A = Result Typ ElabFault} (Ok t) (Ok u) → t ≡ u
typ_told t u h = cc

int_switched : (s : Setting) (at : At) (o : Operand) (j : IntKind) → IsOperand s o → value_form o ≡ int j
    → Switches s (plain (int (promote_of j))) (full at (switch_value (plain (int (promote_of j))) (value o) o))
int_switched s at o j h e = subst (λ (b : Bool). Switches s (plain (int (promote_of j)))
    (full at (if b then value o else converted o.at (plain (int (promote_of j))) (value o)))) (sym (ap is_enum e))
    (switched_gives s at (plain (int (promote_of j))) (int (promote_of j)) (converted o.at (plain (int (promote_of j))) (value o))
    (converted_gives s o.at (int j) (int (promote_of j)) false false (value o) given refl) refl (promoted_kind j))
  where
    given : Gives s (int j) (value o)
    given = subst (λ (f : Form). Gives s f (value o)) e (value_of s o h (ap is_scalar e))

enum_given : (s : Setting) (o : Operand) (f : Form) → IsOperand s o → value_form o ≡ f → is_scalar f ≡ true → Gives s f (value o)
enum_given s o f h e i = subst (λ (g : Form). Gives s g (value o)) e (value_of s o h (ap is_scalar e ∙ i))

switched_by : (s : Setting) (at : At) (o : Operand) (t : Typ) (f : Form) → IsOperand s o → value_form o ≡ f → switched_type at f ≡ Ok t
    → Switches s t (full at (switch_value t (value o) o))
switched_by s at o t (int j) h e k = subst (λ (u : Typ). Switches s u (full at (switch_value u (value o) o)))
    (typ_told (plain (int (promote_of j))) t k) (int_switched s at o j h e)
switched_by s at o t (enum n true) h e k = subst (λ (u : Typ). Switches s u (full at (switch_value u (value o) o)))
    (typ_told (plain (enum n true)) t k) (switched_gives s at (plain (enum n true)) (enum n true) (value o) (enum_given s o (enum n true) h e refl) refl refl)
switched_by s at o t (enum n false) h e k = subst (λ (u : Typ). Switches s u (full at (switch_value u (value o) o)))
    (typ_told (plain (int Int)) t k)
    (subst (λ (b : Bool). Switches s (plain (int Int)) (full at (if b then value o else converted o.at (plain (int Int)) (value o)))) (sym (ap is_enum e))
    (switched_gives s at (plain (int Int)) (enum n false) (value o) (enum_given s o (enum n false) h e refl) refl refl))
switched_by s at o t f h e k = absurd cc

pub switched_law : (s : Setting) (at : At) (o : Operand) (t : Typ) → IsOperand s o → switched_type at (value_form o) ≡ Ok t
    → Switches s t (full at (switch_value t (value o) o))
switched_law s at o t h k = switched_by s at o t (value_form o) h refl k
