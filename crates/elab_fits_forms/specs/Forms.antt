-- Laws of casts, `throw`, calls, choices between objects and all rows of expressions.
use Rattle.std.specs.Prelude.{◌≡◌, ℕ, true, false, List, [], ◌∷◌, Bool, is_some, nat_le}
use Rattle.elab_rules.specs.cpp_types.Typ.{Typ, typ, Form}
use Rattle.elab_rules.specs.cpp_types.Class.{Class, InOrder}
use Rattle.elab_rules.specs.elab_ctx.tx_events.declared.TheConstants.{EXCEPTION_SIZE}
use Rattle.elab_rules.specs.cpp_tree.Notation.{plain}
use Rattle.elab_rules.specs.cpp_tree.Parts.{size_in, are_scalars}
use Rattle.elab_rules.specs.cpp_tree.WellFormed.{heads_of}
use Rattle.elab_rules.specs.Objects.{size_of, fields}
use Rattle.elab_fits.specs.Objects.{is_ready}
use Rattle.elab_rules.specs.cpp_types.declared.classes.At.{At}
use Rattle.elab_rules.specs.cpp_lex.Tokens.{Lexeme}
use Rattle.elab_rules.specs.cpp_ast.declared.kinds.NodeKind.{NodeKind}
use Rattle.elab_rules.specs.cpp_ast.declared.kinds.NodeKind.TheVariants as k
use Rattle.elab_rules.specs.cpp_tree.Trees.{typ_in}
use Rattle.elab_rules.specs.cpp_tree.Typing.{is_class_typ}
use Rattle.elab_rules.specs.cpp_tree.Rows.{Setting}
use Rattle.elab_rules.specs.elab_ctx.Ctx.{Ctx, Work}
use Rattle.elab_rules.specs.elab_ctx.Steps.{Operand, Made, spelling}
use Rattle.elab_rules.specs.Operators.{assignment, comma, conditional}
use Rattle.elab_rules.specs.Casts.{cast, functional, size_literal, throw}
use Rattle.elab_rules.specs.Calls.{call}
use Rattle.elab_rules.specs.Expressions.{row_of}
use Rattle.elab_fits.specs.Standing.{Reaches, On}
use Rattle.elab_fits_forms.specs.Types.{is_empty, is_sound}
use Rattle.elab_fits_forms.specs.Meaning.{Proper, ProperOperand, MeansOperand}
use Rattle.elab_fits_forms.specs.Context.{Holds}
use Rattle.elab_fits_forms.specs.Names.{TypedMeans}

-- what a form makes stands where all that is made has its place
abbrev pub MadeStands : Setting → Ctx → Made → Type 0
MadeStands s c m = Reaches s m.work → Proper s c m.tree

pub data ProperOperands (s : Setting) (c : Ctx) : List Operand → Type 0 where
  none : ProperOperands s c []
  more : {o : Operand} {os : List Operand} → ProperOperand s c o → ProperOperands s c os → ProperOperands s c (o ∷ os)

-- `throw`: where the scalars that elaboration makes of each object of a class are those that the test reads
abbrev pub FieldsAgree : Type 0
FieldsAgree = (classes : List Class) (at : At) (f : Form) (q v : Bool) → InOrder classes → is_some (size_in classes (typ f q v)) ≡ true
    → is_ready classes true (typ f q v) ≡ true → is_class_typ (plain f) ≡ true → nat_le (size_of classes (typ f q v)) EXCEPTION_SIZE ≡ true
    → are_scalars classes (plain f) (heads_of (fields classes at (typ f q v))) ≡ true

abbrev pub ThrowsStand : Type 0
ThrowsStand = FieldsAgree → (s : Setting) (c : Ctx) (w : Work) (at : At) (os : List Operand) → Holds s c w → ProperOperands s c os
    → On (MadeStands s c) (throw c w at os)

-- the same of what is no object of a class, and of nothing
abbrev pub ValueThrowsStand : Type 0
ValueThrowsStand = (s : Setting) (c : Ctx) (w : Work) (at : At) (os : List Operand) → Holds s c w → ProperOperands s c os
    → ((o : Operand) (rest : List Operand) → os ≡ o ∷ rest → is_class_typ (typ_in o.tree) ≡ false) → On (MadeStands s c) (throw c w at os)

-- casts to a type that a program can write
abbrev pub CastsStand : Type 0
CastsStand = (s : Setting) (c : Ctx) (w : Work) (at : At) (t : Typ) (o : Operand) → Holds s c w → is_sound c.classes t ≡ true → ProperOperand s c o
    → On (MadeStands s c) (cast c w at t o)

abbrev pub FunctionalsStand : Type 0
FunctionalsStand = (s : Setting) (c : Ctx) (w : Work) (at : At) (t : Typ) (os : List Operand) → Holds s c w → is_sound c.classes t ≡ true → ProperOperands s c os
    → On (MadeStands s c) (functional c w at t os)

-- `sizeof`
abbrev pub SizesStand : Type 0
SizesStand = (s : Setting) (c : Ctx) (at operand : At) (t : Typ) → On (Proper s c) (size_literal c at operand t)

-- `a, b`, `a ? b : d` and `a = b`, with objects of classes too
abbrev pub ObjectCommasStand : Type 0
ObjectCommasStand = (s : Setting) (c : Ctx) (w : Work) (at : At) (a b : Operand) → Holds s c w → ProperOperand s c a → ProperOperand s c b
    → MadeStands s c (comma c w at a b)

abbrev pub ObjectChoicesStand : Type 0
ObjectChoicesStand = (s : Setting) (c : Ctx) (w : Work) (at : At) (test a b : Operand) → Holds s c w → ProperOperand s c test → ProperOperand s c a
    → ProperOperand s c b → On (MadeStands s c) (conditional c w at test a b)

abbrev pub ObjectAssignmentsStand : Type 0
ObjectAssignmentsStand = (s : Setting) (c : Ctx) (w : Work) (at : At) (a b : Operand) → Holds s c w → ProperOperand s c a → ProperOperand s c b
    → On (MadeStands s c) (assignment c w at a b)

-- calls of what is named or given
abbrev pub CallsStand : Type 0
CallsStand = (s : Setting) (c : Ctx) (w : Work) (at : At) (callee : Operand) (os : List Operand) → Holds s c w → MeansOperand s c callee → ProperOperands s c os
    → On (MadeStands s c) (call c w at callee os)

-- the rows of which all is told: what is thrown is no object of a class
abbrev pub Covered : NodeKind → List Operand → Type 0
Covered k.ThrowExpression os = (o : Operand) (rest : List Operand) → os ≡ o ∷ rest → is_class_typ (typ_in o.tree) ≡ false
Covered kind os = Unit {0}

-- a form over operands that stand
abbrev pub RowsMean : Type 0
RowsMean = (lexemes : List Lexeme) (s : Setting) (c : Ctx) (w : Work) (kind : NodeKind) (at : At) (t : ℕ) (os : List Operand) → Holds s c w
    → is_empty (spelling lexemes t) ≡ false → ProperOperands s c os → Covered kind os → On (TypedMeans s c) (row_of lexemes c w kind at t os)
