-- Initialisers add items of the frame and globals: of these nothing is asked, as classes and functions stay as they are.
use Rattle.std.proofs.Common.{List, Result, Ok, Err}
use Rattle.elab_rules.specs.cpp_types.Typ.{Typ}
use Rattle.elab_rules.specs.cpp_types.declared.classes.At.{At}
use Rattle.elab_rules.specs.cpp_lex.Tokens.{Lexeme}
use Rattle.elab_rules.specs.cpp_ast.Trees as syntax
use Rattle.elab_rules.specs.cpp_tree.declared.faults.ElabFault.{ElabFault}
use Rattle.elab_rules.specs.cpp_tree.Trees.{Tree}
use Rattle.elab_rules.specs.elab_ctx.Ctx.{Ctx, Work}
use Rattle.elab_rules.specs.elab_ctx.Steps.{and_then, Operand, Made, Typed, TypedAll}
use Rattle.elab_rules.specs.Initialising.{class_from, initial}
use Rattle.elab_rules.specs.Operators.{dropped}
use Rattle.elab_rules.specs.Expressions.{expression_of, operands_of, chosen_operand}
use Rattle.elab_rules.specs.Braces.{item_of}
use Rattle.elab_rules.specs.Statements.{copy_initialised, directly_initialised}
use Rattle.elab_fits.specs.Standing.{On}

abbrev pub Grows : Work → Work → Type 0
Grows w v = Unit {0}

abbrev pub Mades : Work → Made → Type 0
Mades w m = Unit {0}

abbrev pub Types : Work → Typed → Type 0
Types w x = Unit {0}

abbrev pub TypesAll : Work → TypedAll → Type 0
TypesAll w x = Unit {0}

pub anything : {A : Type 0} (r : Result A ElabFault) → On (λ x. Unit {0}) r
anything (Ok a) = tt
anything (Err e) = tt

pub same : (w : Work) → Grows w w
same w = tt

pub grown : (u v w : Work) → Grows u v → Grows v w → Grows u w
grown u v w g h = tt

pub items_added : (w : Work) (ts : List Typ) → Grows w w
items_added w ts = tt

pub operand_grows : (s : List Lexeme) (c : Ctx) (w : Work) (e : syntax.Tree) → On (Types w) (and_then (expression_of s c w e) (chosen_operand c))
operand_grows s c w e = anything (and_then (expression_of s c w e) (chosen_operand c))

pub operands_grow : (s : List Lexeme) (c : Ctx) (w : Work) (es : syntax.Trees) → On (TypesAll w) (operands_of s c w es)
operands_grow s c w es = anything (operands_of s c w es)

pub dropped_grows : (c : Ctx) (w : Work) (o : Operand) → Mades w (dropped c w o)
dropped_grows c w o = tt

pub copy_grows : (c : Ctx) (w : Work) (t : Typ) (o : Operand) → On (Mades w) (copy_initialised c w t o)
copy_grows c w t o = anything (copy_initialised c w t o)

pub directly_grows : (c : Ctx) (w : Work) (t : Typ) (at : At) (os : List Operand) → On (Mades w) (directly_initialised c w t at os)
directly_grows c w t at os = anything (directly_initialised c w t at os)

pub class_grows : (c : Ctx) (w : Work) (t : Typ) (at : At) (o : Operand) → On (Mades w) (class_from c w t at o)
class_grows c w t at o = anything (class_from c w t at o)

pub initial_grows : (c : Ctx) (w : Work) (t : Typ) (o : Operand) → On (Mades w) (initial c w t o)
initial_grows c w t o = anything (initial c w t o)

pub item_grows : (s : List Lexeme) (c : Ctx) (w : Work) (object : Tree) (t : Typ) (x : syntax.Tree) → On (Mades w) (item_of s c w object t x)
item_grows s c w object t x = anything (item_of s c w object t x)

pub made_after : (w v : Work) (r : Result Made ElabFault) → Grows w v → On (Mades v) r → On (Mades w) r
made_after w v r g h = anything r
