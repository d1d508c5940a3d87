-- Casts, `sizeof`, `throw` and literals (C++14 2.14, 5.2.3, 5.2.9, 5.3.3, 5.4, 15.1).
use Rattle.std.specs.Prelude.{ℕ, suc, ◌==◌, nat_le, Bool, true, false, not, ◌&&◌, List, [], ◌∷◌, ◌++◌, length, is_some, Result}
use Rattle.std.specs.Prelude.{Ok, Err, if◌then◌else◌, codes, decimal}
use Rattle.elab_ctx.specs.tx_ints.declared.kinds.IntKind.TheVariants.{Char, ULong}
use Rattle.elab_ctx.specs.cpp_types.Typ.{Typ, typ, Form, void, int, enum, ref, array, func, class, tx_ex}
use Rattle.elab_ctx.specs.cpp_types.Conversion.{referred}
use Rattle.elab_ctx.specs.cpp_types.declared.classes.At.{At}
use Rattle.elab_ctx.specs.cpp_types.declared.ranks.Cat.TheVariants.{Lvalue, Prvalue}
use Rattle.elab_ctx.specs.cpp_tree.declared.kinds.TKind.TheVariants.{Literal, Throw, Rethrow, Retype, Global as GlobalNode, Store}
use Rattle.elab_ctx.specs.cpp_tree.declared.program.Linkage.TheVariants.{Internal}
use Rattle.elab_ctx.specs.cpp_tree.declared.program.CellKind.TheVariants.{Number}
use Rattle.elab_ctx.specs.cpp_tree.declared.faults.ElabFault.{ElabFault}
use Rattle.elab_ctx.specs.cpp_tree.declared.faults.ElabFault.TheVariants.{Ill, Limit}
use Rattle.elab_ctx.specs.cpp_tree.declared.faults.LimitKind.TheVariants.{Exception}
use Rattle.elab_ctx.specs.cpp_tree.declared.faults.IllRule.TheVariants.{BadOperand, BadInit, Incomplete, BadThrow, NotTriviallyCopyable, NoCopy}
use Rattle.elab_ctx.specs.cpp_tree.Trees.{Tree, node, none, more, one, typ_in}
use Rattle.elab_ctx.specs.cpp_tree.Units.{Global, Cell}
use Rattle.elab_ctx.specs.cpp_tree.Notation.{plain}
use Rattle.elab_ctx.specs.cpp_tree.Typing.{form_in, is_volatile_typ, unqualified, is_class_typ, is_void, is_reference, kind_in}
use Rattle.elab_ctx.specs.Ctx.{Ctx, Work}
use Rattle.elab_ctx.specs.Steps.{and_then, check, Operand, Made}
use Rattle.elab_rules.specs.Values.{retyped, number, converted, is_exception_form}
use Rattle.elab_rules.specs.Objects.{size_of, fields, traits_at}
use Rattle.elab_rules.specs.Initialising.{initial, object_of, from_values, with_tree}
use Rattle.elab_rules.specs.Operators.{value, dropped, is_function, measurable, without_value}
use Rattle.elab_rules.specs.Types.{is_bounded}
use Rattle.elab_ctx.specs.tx_events.declared.TheConstants.{EXCEPTION_SIZE}

-- Casts

-- scalars that a cast takes to one another, whatever their kinds: integers and enums
abbrev pub is_numeric : Form → Bool
is_numeric (int k) = true
is_numeric (enum n s) = true
is_numeric f = false

-- an initialiser as an expression: that of a `std::tx_exception` builds the value in it, and a `Retype` says what the expression is
-- it stands where the expression does
abbrev pub stored_at : At → Tree → Tree
stored_at at (node (Store kind v) t cat p kids) = node (Store kind v) t cat at kids
stored_at at e = e

abbrev pub as_expression : At → Typ → Tree → Tree
as_expression at t e = if is_exception_form (form_in t)
    && not (is_exception_form (form_in (typ_in e))) then node Retype t Prvalue at (one (stored_at at e)) else e

-- the object that a cast to a reference refers to; another type is that of the node
abbrev pub reference_cast : At → Typ → Tree → Tree
reference_cast at u (node Retype t Lvalue p kids) = node Retype u Lvalue at kids
reference_cast at u e = retyped at u Lvalue e

-- a cast to a scalar, a class, a reference or `void` (C++14 5.2.9, 5.4)
abbrev pub scalar_cast : Ctx → Work → At → Typ → Operand → Result Made ElabFault
scalar_cast c w at t o = if is_numeric (form_in (typ_in (value o))) && is_numeric (form_in t) then Ok (record { tree = converted at t (value o); work = w })
    else initial c w (unqualified t) (record { tree = value o; at = at; zero = o.zero })

abbrev pub cast_in : Ctx → Work → At → Typ → Form → Operand → Result Made ElabFault
cast_in c w at t void o = Ok (with_tree (λ (e : Tree). retyped at (plain void) Prvalue e) (dropped c w o))
cast_in c w at t (ref u) o = and_then (initial c w t o) (λ (m : Made). Ok (with_tree (reference_cast at u) m))
cast_in c w at t (func s) o = Err (Ill at BadOperand)
cast_in c w at t (array u n) o = Err (Ill at BadOperand)
cast_in c w at t f o = if is_class_typ t then and_then (from_values c w t at (o ∷ []))
    (λ (m : Made). Ok (with_tree (as_expression at t) m)) else scalar_cast c w at t o

abbrev pub cast : Ctx → Work → At → Typ → Operand → Result Made ElabFault
cast c w at t o = cast_in c w at t (form_in t) o

-- `T(a, ..)` (C++14 5.2.3)
abbrev pub functional : Ctx → Work → At → Typ → List Operand → Result Made ElabFault
functional c w at t (o ∷ []) = cast c w at t o
functional c w at t [] = if is_class_typ t then and_then (from_values c w t at [])
    (λ (m : Made). Ok (with_tree (as_expression at t) m)) else (
    if is_void t then Ok (record { tree = node Retype (plain void) Prvalue at (one (number ULong 0 at)); work = w }) else and_then
    (check at BadInit (is_some (kind_in (form_in t)) && not (is_reference t))) (λ y. Ok (record { tree = node (Literal 0) (unqualified t) Prvalue at none; work = w })))
functional c w at t os = if is_class_typ t then and_then (from_values c w t at os)
    (λ (m : Made). Ok (with_tree (as_expression at t) m)) else Err (Ill at BadInit)

-- `sizeof` (C++14 5.3.3)
abbrev pub size_literal : Ctx → At → At → Typ → Result Tree ElabFault
size_literal c at operand t = and_then (check at BadOperand (not (is_function (referred t)) && not (is_void (referred t))))
    (λ y. and_then (check at Incomplete (is_bounded (referred t))) (λ x. and_then (measurable c at (referred t)) (λ z. Ok (number ULong (size_of c.classes (referred t)) at))))

-- `throw` (C++14 15.1, profile: integers, enums and what is copied byte by byte)

abbrev pub is_thrown_scalar : Form → Bool
is_thrown_scalar (int k) = true
is_thrown_scalar (enum n s) = true
is_thrown_scalar f = false

abbrev pub within_exception : Ctx → At → Typ → Result Bool ElabFault
within_exception c at t = if nat_le (size_of c.classes t) EXCEPTION_SIZE then Ok true else Err (Limit at Exception)

abbrev pub throw_node : Ctx → At → Typ → Tree → Tree
throw_node c at t e = node Throw (unqualified t) Prvalue at (more e (fields c.classes at t))

abbrev pub throw_object : Ctx → Work → At → Operand → Result Made ElabFault
throw_object c w at o = and_then (check o.at NoCopy (not (is_volatile_typ (typ_in o.tree))))
    (λ y. and_then (within_exception c at (typ_in o.tree)) (λ z. Ok (with_tree (throw_node c at (typ_in o.tree)) (object_of c w o.at o.tree))))

abbrev pub throw_in : Ctx → Work → At → Form → Operand → Result Made ElabFault
throw_in c w at (class n) o = and_then (check at NotTriviallyCopyable (traits_at c n).is_trivially_copyable) (λ y. throw_object c w at o)
throw_in c w at (tx_ex t) o = throw_object c w at o
throw_in c w at f o = and_then (check at BadThrow (is_thrown_scalar (form_in (typ_in (value o)))))
    (λ y. Ok (record { tree = throw_node c at (typ_in (value o)) (value o); work = w }))

abbrev pub throw : Ctx → Work → At → List Operand → Result Made ElabFault
throw c w at [] = Ok (record { tree = node Rethrow (plain void) Prvalue at none; work = w })
throw c w at (o ∷ os) = and_then (throw_in c w at (form_in (typ_in o.tree)) o) (λ (m : Made). Ok (with_tree (without_value at) m))

-- String literals (C++14 2.14.5): a global of its own for each place

abbrev pub string_symbol : At → List ℕ
string_symbol at = codes "string:" ++ decimal at.source ++ codes ":" ++ decimal at.offset

-- the type of a string of these bytes
abbrev pub string_type : List ℕ → Typ
string_type bytes = plain (array (typ (int Char) true false) (suc (length bytes)))

abbrev pub byte_cells : ℕ → List ℕ → List Cell
byte_cells i [] = []
byte_cells i (b ∷ bs) = if b == 0 then byte_cells (suc i) bs else record { offset = i; size = 1; what = Number; value = b; symbol = [] } ∷ byte_cells (suc i) bs

abbrev pub string_global : At → List ℕ → Global
string_global at bytes = record { symbol = string_symbol at; typ = string_type bytes; linkage = Internal; init = byte_cells 0 bytes; defined = true }

abbrev pub string_made : Work → At → List ℕ → Made
string_made w at bytes = record {
  tree = node (GlobalNode (length w.globals)) (string_type bytes) Lvalue at none;
  work =
      record w { globals = w.globals ++ string_global at bytes ∷ [] };
}
