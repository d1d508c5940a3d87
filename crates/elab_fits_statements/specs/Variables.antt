-- Conditions, the values of `switch`, variables, and `return` (C++14 6.4, 6.6.3, 6.7).
use Rattle.std.specs.Prelude.{◌≡◌, ℕ, Bool, nat_le, true, false, List, is_some, Ok}
use Rattle.elab_rules.specs.tx_ints.declared.kinds.IntKind.TheVariants.{Bool as BoolKind}
use Rattle.elab_rules.specs.cpp_types.Typ.{Typ, int, ptr}
use Rattle.elab_rules.specs.cpp_types.Class.{Class, InOrder}
use Rattle.elab_rules.specs.cpp_types.declared.classes.At.{At}
use Rattle.elab_rules.specs.cpp_types.declared.ranks.Cat.TheVariants.{Lvalue}
use Rattle.elab_rules.specs.cpp_tree.declared.roles.Role.TheVariants.{Value, Statement, BlockItem, Scalar}
use Rattle.elab_rules.specs.cpp_tree.Trees.{Tree, none, one, typ_in, cat_of}
use Rattle.elab_rules.specs.cpp_tree.Notation.{plain}
use Rattle.elab_rules.specs.cpp_tree.Typing.{form_in, kind_in, is_class_typ}
use Rattle.elab_rules.specs.cpp_tree.Parts.{size_in, is_value_form, are_scalars}
use Rattle.elab_rules.specs.cpp_tree.WellFormed.{heads_of}
use Rattle.elab_rules.specs.elab_ctx.tx_events.declared.TheConstants.{EXCEPTION_SIZE}
use Rattle.elab_rules.specs.cpp_tree.Rows.{Setting, at_place, has_value, result_of}
use Rattle.elab_rules.specs.elab_ctx.Ctx.{next_place}
use Rattle.elab_rules.specs.elab_ctx.Steps.{Operand, Made}
use Rattle.elab_rules.specs.Objects.{destroys, fields, size_of}
use Rattle.elab_rules.specs.Operators.{value, value_form}
use Rattle.elab_rules.specs.Statements as statements
use Rattle.elab_rules.specs.Statements.{State, Full, full, throws_object, variable_tree, init_node, return_node, result_object, class_returned}
use Rattle.elab_rules.specs.Statements.{switched_type, switch_value}
use Rattle.elab_fits.specs.Standing.{BuildsOne}
use Rattle.elab_fits.specs.Scalars.{Gives, Initialises, IsOperand}
use Rattle.elab_fits.specs.Objects.{is_ready, DestroysOne}
use Rattle.elab_fits_statements.specs.Anywhere.{FitsAnywhere, Serves, AllServe}
use Rattle.elab_fits_statements.specs.Forms.{IsCondition, IsSwitched}

-- the frame has an item of this type in this place
abbrev pub HasItem : Setting → ℕ → Typ → Type 0
HasItem s place t = at_place s.function.frame place t ≡ true

-- what builds a whole object, and is no `throw` of one
pub record BuildsWhole (s : Setting) (t : Typ) (e : Tree) : Type 0 where
  pub one : BuildsOne s t e
  pub no_throw : throws_object e ≡ false

-- a truth value
abbrev pub ConditionsFit : Type 0
ConditionsFit = (s : Setting) (at : At) (e : Tree) → Gives s (int BoolKind) e → IsCondition s (full at e)

-- the value of a `switch` has the kind of its labels
pub record Switches (s : Setting) (t : Typ) (e : Tree) : Type 0 where
  pub switched : IsSwitched s e
  pub kind : kind_in (form_in (typ_in e)) ≡ kind_in (form_in t)

abbrev pub SwitchedFit : Type 0
SwitchedFit = (s : Setting) (at : At) (o : Operand) (t : Typ) → IsOperand s o → switched_type at (value_form o) ≡ Ok t
    → Switches s t (full at (switch_value t (value o) o))

abbrev pub VariablesStand : Type 0
VariablesStand = (s : Setting) (st : State) (t : Typ) (at : At) → HasItem s (next_place st.work) t → FitsAnywhere s Value (variable_tree st t at)

-- an object with what builds it, and what destroys it
abbrev pub VariablesFit : Type 0
VariablesFit = (s : Setting) (st : State) (t : Typ) (at p : At) (variable init : Tree) → FitsAnywhere s Value variable → typ_in variable ≡ t
    → cat_of variable ≡ Lvalue → BuildsWhole s t init → DestroysOne s t (destroys st.ctx at t)
    → Serves s false false BlockItem (init_node st t at p variable init)

-- `return` without a value
abbrev pub EndsFit : Type 0
EndsFit = (s : Setting) (at : At) → has_value (result_of s.function) ≡ false → Serves s false false Statement (return_node at none)

-- of a scalar or a reference
abbrev pub ReturnsFit : Type 0
ReturnsFit = (s : Setting) (at p : At) (e : Tree) → has_value (result_of s.function) ≡ true → Initialises s (result_of s.function) e
    → Serves s false false Statement (return_node at (one (full p (statements.result_of (result_of s.function) p e))))

-- of an object of a class, at the address in place 0 of the frame
abbrev pub ObjectsReturned : Type 0
ObjectsReturned = (s : Setting) (at : At) (f : Full) (m : Made) → is_class_typ (result_of s.function) ≡ true
    → HasItem s 0 (plain (ptr (result_of s.function))) → BuildsWhole s (result_of s.function) m.tree
    → Serves s false false Statement (class_returned at (result_of s.function) f m)

-- the scalars of an exception, as kids of what throws or catches it
abbrev pub FieldsServe : Type 0
FieldsServe = (s : Setting) (classes : List Class) (at : At) (t : Typ) → AllServe s false false Scalar (fields classes at t)

-- where objects of a type have a size, and at most that of an exception, its fields are its scalars
abbrev pub FieldsAreScalars : Type 0
FieldsAreScalars = (classes : List Class) (references : Bool) (at : At) (t : Typ) → InOrder classes → is_value_form (form_in t) ≡ true
    → is_some (size_in classes t) ≡ true → nat_le (size_of classes t) EXCEPTION_SIZE ≡ true → is_ready classes references t ≡ true
    → are_scalars classes t (heads_of (fields classes at t)) ≡ true
