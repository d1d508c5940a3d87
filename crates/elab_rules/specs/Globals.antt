-- Variables at file scope, with constant initialisers, and enums (C++14 3.5, 3.6.2, 7.1.1, 7.2).
use Rattle.std.specs.Prelude.{ℕ, zero, suc, pred, ◌+◌, ◌*◌, ◌%◌, ◌^◌, ◌==◌, Bool, true, false, not, ◌&&◌, List, [], ◌∷◌, ◌++◌, length, map, Option, Some}
use Rattle.std.specs.Prelude.{None, is_none, Result, Ok, Err, if◌then◌else◌, slice_get, slice_set, codes, unwrap_or, ℤ, pos, ◌+ℤ◌}
use Rattle.std.specs.Str.{bytes_eq}
use Rattle.elab_ctx.specs.tx_ints.declared.kinds.IntKind.{IntKind}
use Rattle.elab_ctx.specs.tx_ints.declared.kinds.IntKind.TheVariants.{Int}
use Rattle.elab_ctx.specs.tx_ints.Integers.{is_in_range}
use Rattle.elab_ctx.specs.tx_ints.Words.{word_of, value_of_word}
use Rattle.elab_ctx.specs.cpp_types.Typ.{Typ, typ, Form, void, int, enum, ref, class, closure}
use Rattle.elab_ctx.specs.cpp_types.Equal.{typ_eq}
use Rattle.elab_ctx.specs.cpp_types.Class.{Class, held, Function}
use Rattle.elab_ctx.specs.cpp_types.Spelling.{spelling as type_spelling, listed}
use Rattle.elab_ctx.specs.cpp_types.declared.classes.At.{At}
use Rattle.elab_ctx.specs.cpp_types.declared.ranks.Cat.TheVariants.{Lvalue}
use Rattle.elab_ctx.specs.cpp_lex.Tokens.{Lexeme}
use Rattle.elab_ctx.specs.cpp_layout.Layout.{kind_size}
use Rattle.elab_ctx.specs.cpp_ast.declared.kinds.NodeKind.TheVariants as k
use Rattle.elab_ctx.specs.cpp_ast.Trees as syntax
use Rattle.elab_ctx.specs.cpp_names.declared.entity.Entity.{Entity}
use Rattle.elab_ctx.specs.cpp_names.declared.entity.EntityKind.{EntityKind}
use Rattle.elab_ctx.specs.cpp_names.declared.entity.EntityKind.TheVariants as entities
use Rattle.elab_ctx.specs.cpp_names.Names.{innermost_of, with_name}
use Rattle.elab_ctx.specs.cpp_tree.declared.kinds.TKind.TheVariants as forms
use Rattle.elab_ctx.specs.cpp_tree.declared.program.Linkage.{Linkage}
use Rattle.elab_ctx.specs.cpp_tree.declared.program.Linkage.TheVariants.{External, Internal}
use Rattle.elab_ctx.specs.cpp_tree.declared.program.CellKind.TheVariants.{Number, GlobalAddr, FuncAddr}
use Rattle.elab_ctx.specs.cpp_tree.declared.faults.ElabFault.{ElabFault}
use Rattle.elab_ctx.specs.cpp_tree.declared.faults.ElabFault.TheVariants.{Ill}
use Rattle.elab_ctx.specs.cpp_tree.declared.faults.IllRule.TheVariants.{Redeclared, TypeDiffers, BadDeclaration, NotConstant, Narrowing, BadMain, Incomplete}
use Rattle.elab_ctx.specs.cpp_tree.declared.faults.IllRule.TheVariants.{OutOfProfile, BadOperand}
use Rattle.elab_ctx.specs.cpp_tree.Trees.{Tree, node, Trees, none, more, typ_in}
use Rattle.elab_ctx.specs.cpp_tree.Units.{Global, Cell}
use Rattle.elab_ctx.specs.cpp_tree.Notation.{plain}
use Rattle.elab_ctx.specs.cpp_tree.Typing.{form_in}
use Rattle.elab_ctx.specs.Ctx.{Ctx, Work, Func, Enumerator}
use Rattle.elab_ctx.specs.Types.{named_too}
use Rattle.elab_ctx.specs.Steps.{and_then, expect, check, Operand, Made, Typed, TypedAll, at_of, spelling}
use Rattle.elab_rules.specs.Objects.{element_of, traits_at}
use Rattle.elab_rules.specs.Initialising.{class_number, func_at, signature_parameters}
use Rattle.elab_rules.specs.Constants.{constant, Address, of_global, of_function, address}
use Rattle.elab_rules.specs.Operators.{value, is_complete, arithmetic, within_if_sized}
use Rattle.elab_rules.specs.Strings.{string_bytes}
use Rattle.elab_rules.specs.Types.{has_auto, type_named, is_bounded}
use Rattle.elab_rules.specs.Braces.{item_of, string_token, string_object, is_char_array, syntax_place, tree_place}
use Rattle.elab_rules.specs.Expressions.{expression_of, operands_of, chosen_operand, scope_name}
use Rattle.elab_rules.specs.Statements.{State, default_object, copy_initialised, directly_initialised, is_trivial}
use Rattle.elab_rules.specs.Sizes.{typ_sized}
use Rattle.elab_rules.specs.Functions.{Storage}
use Rattle.elab_ctx.specs.cpp_tree.declared.program.FuncKind.{FuncKind}
use Rattle.elab_ctx.specs.cpp_tree.declared.program.FuncKind.TheVariants.{ClosureCall}

-- Symbols

abbrev pub const_mark : Bool → List ℕ
const_mark true = codes "const"
const_mark false = []

abbrev pub class_prefix : List Class → Option ℕ → List ℕ
class_prefix classes (Some n) = type_spelling classes (plain (class n)) ++ codes "::"
class_prefix classes None = []

abbrev pub closure_spelling : List Class → Option ℕ → List ℕ
closure_spelling classes (Some n) = type_spelling classes (plain (closure n))
closure_spelling classes None = []

-- a function's symbol behind its class
abbrev pub symbol_behind : List Class → Function → List ℕ
symbol_behind classes g = codes "(" ++ (listed classes false (signature_parameters g.signature) ++ codes ")")

abbrev pub symbol_by : List Class → FuncKind → Option ℕ → Function → List ℕ
symbol_by classes ClosureCall n g = closure_spelling classes n ++ symbol_behind classes g
symbol_by classes kind n g = class_prefix classes n ++ (g.name ++ (symbol_behind classes g ++ const_mark g.is_const))

-- the symbol of a function: its class, its name and its parameters; the call of a lambda is named by its place
abbrev pub symbol_of : List Class → Func → List ℕ
symbol_of classes f = symbol_by classes f.kind f.class f.declared

-- Cells of the first bytes of a global: one for each scalar that is not zero

abbrev pub number_cell : ℕ → IntKind → ℕ → List Cell
number_cell offset kind w = if w % 2 ^ (8 * kind_size kind) == 0 then [] else
    record { offset = offset; size = kind_size kind; what = Number; value = w % 2 ^ (8 * kind_size kind); symbol = [] } ∷ []

abbrev pub global_symbol : Option Global → List ℕ
global_symbol (Some g) = g.symbol
global_symbol None = []

abbrev pub address_cell : Ctx → Work → ℕ → Address → Cell
address_cell c w offset (of_global g) = record { offset = offset; size = 8; what = GlobalAddr; value = 0; symbol = global_symbol (slice_get w.globals g) }
address_cell c w offset (of_function f) = record { offset = offset; size = 8; what = FuncAddr; value = 0; symbol = symbol_of c.classes (func_at c.funcs f) }

abbrev pub scalar_cells : Ctx → Work → ℕ → IntKind → At → Option ℕ → Option Address → Result (List Cell) ElabFault
scalar_cells c w offset kind at (Some n) a = Ok (number_cell offset kind n)
scalar_cells c w offset kind at None (Some a) = Ok (address_cell c w offset a ∷ [])
scalar_cells c w offset kind at None None = Err (Ill at NotConstant)

abbrev pub moved_cells : ℕ → List Cell → List Cell
moved_cells by cells = map (λ (x : Cell). record x { offset = x.offset + by }) cells

abbrev pub repeated_cells : ℕ → ℕ → ℕ → List Cell → List Cell
repeated_cells offset stride zero cells = []
repeated_cells offset stride (suc n) cells = moved_cells offset cells ++ repeated_cells (offset + stride) stride n cells

-- elements that are all zero have no cells, however many there are
abbrev pub element_cells : ℕ → ℕ → List Cell → List Cell
element_cells n stride [] = []
element_cells n stride (x ∷ xs) = repeated_cells 0 stride n (x ∷ xs)

abbrev mutual
  pub cells_of : Ctx → Work → Tree → Result (List Cell) ElabFault
  cells_of c w (node (forms.Store kind v) t cat at (more e none)) = scalar_cells c w 0 kind (tree_place e) (constant w.globals e) (address e)
  cells_of c w (node forms.Pieces t cat at kids) = cells_of_all c w kids
  cells_of c w (node (forms.Piece offset) t cat at (more e destroys)) = and_then (cells_of c w e) (λ xs. Ok (moved_cells offset xs))
  cells_of c w (node (forms.Elements n stride) t cat at (more e destroys)) = and_then (cells_of c w e) (λ xs. Ok (element_cells n stride xs))
  cells_of c w (node kind t cat at kids) = Err (Ill at NotConstant)

  pub cells_of_all : Ctx → Work → Trees → Result (List Cell) ElabFault
  cells_of_all c w none = Ok []
  cells_of_all c w (more t ts) = and_then (cells_of c w t) (λ xs. and_then (cells_of_all c w ts) (λ ys. Ok (xs ++ ys)))

-- Declarations

-- a global of class type is trivial (profile)
abbrev pub is_trivial_class : Ctx → Option ℕ → Bool
is_trivial_class c (Some n) = is_trivial (traits_at c n).default && is_trivial (traits_at c n).destructor
is_trivial_class c None = true

-- `const` and not `volatile`
abbrev pub is_constant_object : Typ → Bool
is_constant_object (typ f c v) = c && not v

abbrev pub is_internal_linkage : Linkage → Bool
is_internal_linkage Internal = true
is_internal_linkage l = false

abbrev pub no_global_storage : Storage
no_global_storage = record { is_static = false; is_extern = false; is_inline = false; is_virtual = false; is_c = false }

abbrev pub not_void : At → Form → Result Bool ElabFault
not_void at void = Err (Ill at BadDeclaration)
not_void at (ref t) = Err (Ill at OutOfProfile)
not_void at f = Ok true

abbrev pub global_linkage : Storage → Typ → Linkage
global_linkage x t = if x.is_static then Internal else (if is_constant_object (element_of t) && not x.is_extern then Internal else External)

abbrev pub new_global : List ℕ → Storage → Typ → Global
new_global name x t = record { symbol = name; typ = t; linkage = global_linkage x t; init = []; defined = false }

abbrev pub global_entity : ℕ → Entity
global_entity g = record { kind = entities.Global; id = g }

-- a global in its place
pub record PlacedGlobal : Type 0 where
  pub state : State
  pub place : ℕ

abbrev pub added_global : State → List ℕ → Storage → Typ → PlacedGlobal
added_global st name x t = record {
  state = record st {
    ctx = record st.ctx { scopes = with_name st.ctx.scopes name (global_entity (length st.work.globals)) };
    work = record st.work { globals = st.work.globals ++ new_global name x t ∷ [] };
  };
  place = length st.work.globals;
}

abbrev pub global_agrees : At → Storage → Typ → Bool → Global → Result Bool ElabFault
global_agrees at x t defines g = and_then (check at TypeDiffers (typ_eq g.typ t))
    (λ a. and_then (check at BadDeclaration (not (x.is_static && not (is_internal_linkage g.linkage)))) (λ b. check at Redeclared (not (defines && g.defined))))

abbrev pub global_again : State → At → Storage → Typ → Bool → EntityKind → ℕ → Result PlacedGlobal ElabFault
global_again st at x t defines entities.Global g = and_then (expect at Redeclared (slice_get st.work.globals g))
    (λ (old : Global). and_then (global_agrees at x t defines old) (λ y. Ok (record { state = st; place = g })))
global_again st at x t defines kind g = Err (Ill at Redeclared)

abbrev pub global_named : State → At → List ℕ → Storage → Typ → Bool → Option Entity → Result PlacedGlobal ElabFault
global_named st at name x t defines (Some e) = global_again st at x t defines e.kind e.id
global_named st at name x t defines None = Ok (added_global st name x t)

abbrev pub global_declarable : State → At → List ℕ → Typ → Result Bool ElabFault
global_declarable st at name t = and_then (check at BadMain (not (bytes_eq name (codes "main"))))
    (λ a. and_then (check at OutOfProfile (not (has_auto t)))
    (λ b. and_then (not_void at (form_in t)) (λ d. and_then (check at BadDeclaration (is_bounded t)) (λ e.
    and_then (typ_sized st.ctx.classes at t) (λ f. within_if_sized st.ctx at t)))))

abbrev pub global_object : ℕ → Typ → At → Tree
global_object g t at = node (forms.Global g) t Lvalue at none

abbrev pub from_expression : List Lexeme → State → Typ → syntax.Tree → Bool → Option ℕ → Result Made ElabFault
from_expression s st t e true (Some n) = and_then (string_object st.ctx t (syntax_place e) (string_bytes (spelling s n)))
    (λ (x : Tree). Ok (record { tree = x; work = st.work }))
from_expression s st t e b n = and_then (and_then (expression_of s st.ctx st.work e) (chosen_operand st.ctx))
    (λ (o : Typed). copy_initialised st.ctx o.work t o.operand)

-- what a global is initialised by
abbrev pub global_from : List Lexeme → State → Typ → At → ℕ → syntax.Trees → Result Made ElabFault
global_from s st t at g syntax.none = and_then (default_object st.ctx t at) (λ (e : Tree). Ok (record { tree = e; work = st.work }))
global_from s st t at g (syntax.more (syntax.node k.ParenthesizedInitializer p token es) syntax.none) =
    and_then (operands_of s st.ctx st.work es) (λ (xs : TypedAll). directly_initialised st.ctx xs.work t at xs.operands)
global_from s st t at g (syntax.more (syntax.node k.EqualInitializer p token
    (syntax.more (syntax.node k.BracedInitList q brace items) syntax.none)) syntax.none) =
    item_of s st.ctx st.work (global_object g t at) t (syntax.node k.BracedInitList q brace items)
global_from s st t at g (syntax.more (syntax.node k.EqualInitializer p token (syntax.more e syntax.none)) syntax.none) =
    from_expression s st t e (is_char_array t) (string_token e)
global_from s st t at g kids = Err (Ill at OutOfProfile)

abbrev pub defined_global : State → ℕ → Typ → Work → List Cell → State
defined_global st g t w cells = record st {
  work = record w {
    frame = st.work.frame;
    globals = slice_set w.globals g
        (record (unwrap_or (slice_get w.globals g) (new_global [] no_global_storage t)) { init = cells; defined = true });
  };
}

abbrev pub global_defined : List Lexeme → At → Typ → syntax.Trees → PlacedGlobal → Result State ElabFault
global_defined s at t init p = and_then (check at Incomplete (is_complete p.state.ctx (held t)))
    (λ x. and_then (check at NotConstant (is_trivial_class p.state.ctx (class_number (element_of t))))
    (λ y. and_then (global_from s p.state t at p.place init) (λ (m : Made).
    and_then (cells_of p.state.ctx m.work m.tree) (λ cells. Ok (defined_global p.state p.place t m.work cells)))))

abbrev pub is_definition : Storage → syntax.Trees → Bool
is_definition x syntax.none = not x.is_extern
is_definition x init = true

abbrev pub only_declared : PlacedGlobal → Result State ElabFault
only_declared p = Ok p.state

abbrev pub global_declared_as : List Lexeme → Bool → At → Typ → syntax.Trees → PlacedGlobal → Result State ElabFault
global_declared_as s true at t init p = global_defined s at t init p
global_declared_as s false at t init p = only_declared p

-- a variable at file scope
abbrev pub global_declared : List Lexeme → State → Storage → At → List ℕ → Typ → syntax.Trees → Result State ElabFault
global_declared s st x at name t init = and_then (global_declarable st at name t)
    (λ y. and_then (global_named st at name x t (is_definition x init) (innermost_of st.ctx.scopes name))
    (λ (p : PlacedGlobal). global_declared_as s (is_definition x init) at t init p))

-- Names of types

abbrev pub type_agrees : At → Typ → Option Typ → Result Bool ElabFault
type_agrees at t (Some u) = check at Redeclared (typ_eq t u)
type_agrees at t None = Ok true

abbrev pub with_type : Ctx → List ℕ → Typ → Ctx
with_type c name t = record c { types = named_too c.types name t }

-- an alias (C++14 7.1.3)
abbrev pub alias_declared : State → At → List ℕ → Typ → Result State ElabFault
alias_declared st at name t = and_then (check at OutOfProfile (not (has_auto t)))
    (λ x. and_then (typ_sized st.ctx.classes at t) (λ z. and_then (type_agrees at t (type_named name st.ctx.types))
    (λ y. Ok (record st { ctx = with_type st.ctx name t }))))

-- Enums (C++14 7.2): inside the braces an enumerator has type `int`

pub record Enumerating : Type 0 where
  pub state : State
  pub next : ℤ

abbrev pub with_enumerator : State → List ℕ → ℕ → State
with_enumerator st name w = record st {
  ctx = record st.ctx {
    scopes = with_name st.ctx.scopes name
        (record { kind = entities.Enumerator; id = length st.ctx.enumerators });
    enumerators =
        st.ctx.enumerators ++ record { typ = plain (int Int); word = w } ∷ [];
  };
}

abbrev pub second_name : State → List ℕ → State
second_name st name = record st {
  ctx = record st.ctx {
    scopes = with_name st.ctx.scopes name
        (record { kind = entities.Enumerator; id = pred (length st.ctx.enumerators) });
  };
}

-- an enumerator is known by its name, unless the enum is scoped, and by its name in the enum
abbrev pub named_enumerator : Bool → State → List ℕ → List ℕ → ℕ → State
named_enumerator true st e name w = with_enumerator st (scope_name e name) w
named_enumerator false st e name w = second_name (with_enumerator st name w) (scope_name e name)

abbrev pub enumerator_made : Bool → List ℕ → State → At → At → List ℕ → ℤ → Result Enumerating ElabFault
enumerator_made scoped e st at p name v = and_then (check p Narrowing (is_in_range Int v))
    (λ y. and_then (check at Redeclared (is_none (innermost_of st.ctx.scopes (if scoped then scope_name e name else name)))) (λ z.
    Ok (record { state = named_enumerator scoped st e name (word_of v); next = v +ℤ pos 1 })))

abbrev pub enumerator_value : At → Work → Operand → Result ℤ ElabFault
enumerator_value at w o = and_then (expect o.at BadOperand (arithmetic (form_in (typ_in (value o)))))
    (λ (kind : IntKind). and_then (expect o.at NotConstant (constant w.globals (value o))) (λ n. Ok (value_of_word kind n)))

abbrev pub enumerator_declared : List Lexeme → Bool → List ℕ → Enumerating → syntax.Tree → Result Enumerating ElabFault
enumerator_declared s scoped e x (syntax.node kind p (Some t) syntax.none) = enumerator_made scoped e x.state (at_of p) (at_of p) (spelling s t) x.next
enumerator_declared s scoped e x (syntax.node kind p (Some t) (syntax.more v ts)) =
    and_then (and_then (expression_of s x.state.ctx x.state.work v) (chosen_operand x.state.ctx))
    (λ (o : Typed). and_then (enumerator_value (at_of p) x.state.work o.operand)
    (λ (n : ℤ). enumerator_made scoped e x.state (at_of p) o.operand.at (spelling s t) n))
enumerator_declared s scoped e x (syntax.node kind p None kids) = Err (Ill (at_of p) OutOfProfile)

abbrev pub enumerators_declared : List Lexeme → Bool → List ℕ → Enumerating → syntax.Trees → Result Enumerating ElabFault
enumerators_declared s scoped e x syntax.none = Ok x
enumerators_declared s scoped e x (syntax.more t ts) = and_then (enumerator_declared s scoped e x t) (λ (y : Enumerating). enumerators_declared s scoped e y ts)

-- behind the brace they have the type of the enum
abbrev pub typed_from : ℕ → Typ → List Enumerator → List Enumerator
typed_from zero t es = map (λ (e : Enumerator). record e { typ = t }) es
typed_from (suc n) t [] = []
typed_from (suc n) t (e ∷ es) = e ∷ typed_from n t es

abbrev pub closed_enum : ℕ → Typ → State → State
closed_enum n t st = record st { ctx = record st.ctx { enumerators = typed_from n t st.ctx.enumerators } }

abbrev pub enum_with : List Lexeme → State → At → List ℕ → Bool → syntax.Trees → Result State ElabFault
enum_with s st at name scoped ts = and_then (check at Redeclared (is_none (type_named name st.ctx.types)))
    (λ y. and_then (enumerators_declared s scoped name
    (record { state = record st { ctx = with_type st.ctx name (plain (enum name scoped)) }; next = pos 0 }) ts) (λ (x : Enumerating).
    Ok (closed_enum (length st.ctx.enumerators) (plain (enum name scoped)) x.state)))

abbrev pub enum_declared : List Lexeme → State → At → List ℕ → syntax.Trees → Result State ElabFault
enum_declared s st at name (syntax.more (syntax.node k.ClassKey p token kids) ts) = enum_with s st at name true ts
enum_declared s st at name ts = enum_with s st at name false ts
