-- Statements and variables (C++14 clause 6, 8.5, 15; the TS, [stmt.sync], [stmt.tx]).
use Rattle.std.specs.Prelude.{ℕ, zero, suc, ◌==◌, Bool, true, false, not, ◌&&◌, ◌||◌, List, [], ◌∷◌, ◌++◌, length, Option, Some, None}
use Rattle.std.specs.Prelude.{is_none, Result, Ok, Err, if◌then◌else◌, slice_set, codes}
use Rattle.std.specs.List.{list_any}
use Rattle.std.specs.Str.{bytes_eq}
use Rattle.std.specs.Ordering.{int_eq}
use Rattle.elab_ctx.specs.tx_events.declared.BlockKind.{BlockKind}
use Rattle.elab_ctx.specs.tx_events.declared.BlockKind.TheVariants.{NoExcept, Cancel, Commit}
use Rattle.elab_ctx.specs.tx_ints.declared.kinds.IntKind.{IntKind}
use Rattle.elab_ctx.specs.tx_ints.declared.kinds.IntKind.TheVariants.{Int, ULong}
use Rattle.elab_ctx.specs.tx_ints.Integers.{promote_of, convert_of}
use Rattle.elab_ctx.specs.tx_ints.Words.{value_of_word}
use Rattle.elab_ctx.specs.cpp_types.Typ.{Typ, typ, Form, void, int, enum, null, ptr, ref, array, func, class, tx_ex}
use Rattle.elab_ctx.specs.cpp_types.Equal.{typ_eq}
use Rattle.elab_ctx.specs.cpp_types.Class.{held}
use Rattle.elab_ctx.specs.cpp_types.declared.classes.At.{At}
use Rattle.elab_ctx.specs.cpp_types.declared.ranks.Cat.TheVariants.{Lvalue, Prvalue}
use Rattle.elab_ctx.specs.cpp_types.declared.ranks.Binding.{Binding}
use Rattle.elab_ctx.specs.cpp_types.declared.ranks.Binding.TheVariants.{Temporary}
use Rattle.elab_ctx.specs.cpp_types.declared.ranks.Conversion.{Conversion}
use Rattle.elab_ctx.specs.cpp_lex.Tokens.{Lexeme}
use Rattle.elab_ctx.specs.cpp_ast.declared.kinds.NodeKind.TheVariants as k
use Rattle.elab_ctx.specs.cpp_ast.Trees as syntax
use Rattle.elab_ctx.specs.cpp_names.declared.entity.Entity.{Entity}
use Rattle.elab_ctx.specs.cpp_names.declared.entity.EntityKind.TheVariants as entities
use Rattle.elab_ctx.specs.cpp_names.Names.{innermost_of}
use Rattle.elab_ctx.specs.cpp_tree.declared.kinds.TKind.{TKind}
use Rattle.elab_ctx.specs.cpp_tree.declared.kinds.TKind.TheVariants as forms
use Rattle.elab_ctx.specs.cpp_tree.declared.faults.ElabFault.{ElabFault}
use Rattle.elab_ctx.specs.cpp_tree.declared.faults.ElabFault.TheVariants.{Ill, JumpIntoBlock}
use Rattle.elab_ctx.specs.cpp_tree.declared.faults.IllRule.TheVariants.{Redeclared, TypeDiffers, BadDeclaration, NotConstant, NoConversion, Incomplete}
use Rattle.elab_ctx.specs.cpp_tree.declared.faults.IllRule.TheVariants.{NoDefault, BadInit, Narrowing, BadReturn, BadBreak, BadCatch, BadCase, JumpPastInit}
use Rattle.elab_ctx.specs.cpp_tree.declared.faults.IllRule.TheVariants.{OutOfProfile}
use Rattle.elab_ctx.specs.cpp_tree.Trees.{Tree, node, Trees, none, more, one, two, three, typ_in, cat_of, kind_of}
use Rattle.elab_ctx.specs.cpp_tree.Notation.{plain}
use Rattle.elab_ctx.specs.cpp_tree.Typing.{form_in, unqualified, is_void, is_class_typ, kind_in, is_class_prvalue}
use Rattle.elab_ctx.specs.declared.env.Label.{Label}
use Rattle.elab_ctx.specs.declared.env.Label.TheVariants.{Outside, Direct as DirectLabel, Inside, InBlock}
use Rattle.elab_ctx.specs.Ctx.{Ctx, Work, Returns, known, deduced, Labels, Special, trivial, function, opened, closed, with_variable}
use Rattle.elab_ctx.specs.Ctx.{with_item, next_place}
use Rattle.elab_ctx.specs.Steps.{and_then, expect, check, Operand, Made, Typed, TypedAll, at_of, spelling, token_place}
use Rattle.elab_rules.specs.Values.{place_of, converted}
use Rattle.elab_rules.specs.Objects.{destroys, element_of, fields, traits_at, followed_by}
use Rattle.elab_rules.specs.Initialising.{conversion, initial, class_from, from_nothing, from_values, scalar_from, func_at, class_number, is_prvalue_of_class, seen_as}
use Rattle.elab_rules.specs.Constants.{constant}
use Rattle.elab_rules.specs.Casts.{within_exception}
use Rattle.elab_rules.specs.Operators.{value, truth, dropped, true_at, is_complete, is_throw, without_value, bare_throw, within_if_sized}
use Rattle.elab_rules.specs.Names.{is_const_typ}
use Rattle.elab_rules.specs.Sizes.{typ_sized}
use Rattle.elab_rules.specs.Strings.{string_bytes}
use Rattle.elab_rules.specs.Types.{Declared, has_auto, is_bounded, is_nothing, with_qualifiers}
use Rattle.elab_rules.specs.Braces.{item_of, string_token, string_object, is_char_array, syntax_place}
use Rattle.elab_rules.specs.Expressions.{expression_of, operands_of, chosen_operand, type_of_specifiers, declared_by}

-- The body of a function, and what is known and made so far
pub record Body : Type 0 where
  pub func : ℕ
  pub tree : Tree
  pub frame : List Typ

pub record State : Type 0 where
  pub ctx : Ctx
  pub work : Work
  -- the bodies of functions, of lambdas too
  pub bodies : List Body

pub record Done : Type 0 where
  pub trees : Trees
  pub state : State

abbrev pub done : Trees → State → Result Done ElabFault
done ts st = Ok (record { trees = ts; state = st })

-- what makes the lambdas of a full-expression before it
abbrev pub Lambdas : Type 0
Lambdas = List Lexeme → State → syntax.Tree → Result State ElabFault

abbrev pub statement : TKind → At → Trees → Tree
statement kind at kids = node kind (plain void) Prvalue at kids

-- Full-expressions (C++14 1.9 p10, 12.2)

abbrev pub is_not_none : Trees → Bool
is_not_none none = false
is_not_none (more t ts) = true

abbrev pub is_temporary_with : TKind → Trees → Bool
is_temporary_with (forms.Materialize place false) (more init destroys) = is_not_none destroys
is_temporary_with kind kids = false

abbrev mutual
  -- a temporary with a destructor is in the tree
  pub holds_temporary : Tree → Bool
  holds_temporary (node kind t cat at kids) = is_temporary_with kind kids || hold_temporary kids

  pub hold_temporary : Trees → Bool
  hold_temporary none = false
  hold_temporary (more t ts) = holds_temporary t || hold_temporary ts

abbrev pub whole_of : At → Tree → Tree
whole_of at e = node forms.FullExpression (typ_in e) (cat_of e) at (one e)

-- a `throw` of an object makes none
abbrev pub throws_object : Tree → Bool
throws_object e = is_throw (kind_of e) && is_class_typ (typ_in e)

abbrev pub whole_if : Bool → At → Tree → Tree
whole_if true at e = whole_of at (if throws_object e then without_value (place_of e) e else e)
whole_if false at e = e

-- an expression or an initialiser as a whole
abbrev pub full : At → Tree → Tree
full at e = whole_if (holds_temporary e) at e

pub record Full : Type 0 where
  pub operand : Operand
  pub state : State

abbrev pub with_work : State → Work → State
with_work st w = record { ctx = record st.ctx { closures = [] }; work = w; bodies = st.bodies }

-- an expression that is no part of another, behind its lambdas
abbrev pub full_operand : Lambdas → List Lexeme → State → syntax.Tree → Result Full ElabFault
full_operand lams s st e = and_then (lams s st e) (λ (x : State). and_then (and_then (expression_of s x.ctx x.work e) (chosen_operand x.ctx))
    (λ (o : Typed). Ok (record { operand = o.operand; state = with_work x o.work })))

abbrev pub full_made : Full → Result Made ElabFault → Result Done ElabFault
full_made f r = and_then r (λ (m : Made). done (one (full f.operand.at m.tree)) (with_work f.state m.work))

abbrev pub expression_statement : Lambdas → List Lexeme → State → syntax.Tree → Result Done ElabFault
expression_statement lams s st e = and_then (full_operand lams s st e) (λ (f : Full). full_made f (Ok (dropped f.state.ctx f.state.work f.operand)))

abbrev pub condition : Lambdas → List Lexeme → State → syntax.Tree → Result Done ElabFault
condition lams s st e = and_then (full_operand lams s st e)
    (λ (f : Full). full_made f (and_then (truth f.state.ctx f.state.work f.operand) (λ (t : Tree). Ok (record { tree = t; work = f.state.work }))))

abbrev pub the_tree : At → Trees → Tree
the_tree at (more t none) = t
the_tree at ts = statement (forms.Block false) at ts

-- Variables (C++14 3.3, 8.5)

abbrev pub is_fresh : Ctx → List ℕ → Bool
is_fresh c name = is_none (innermost_of c.scopes name)

abbrev pub next_variable : Ctx → Entity
next_variable c = record { kind = entities.Local; id = length c.variables }

abbrev pub declared_variable : State → List ℕ → Option Typ → State
declared_variable st name t = record st { ctx = with_variable st.ctx name (next_variable st.ctx) (record { typ = t; place = next_place st.work }) }

-- a variable with its item of the frame
abbrev pub placed_variable : State → List ℕ → Typ → State
placed_variable st name t = record (declared_variable st name (Some t)) { work = with_item st.work t }

abbrev pub variable_tree : State → Typ → At → Tree
variable_tree st t at = node (forms.Local (next_place st.work)) t Lvalue at none

-- an object of the type may be declared
abbrev pub declarable : Ctx → At → Typ → Result Bool ElabFault
declarable c at (typ void d v) = Err (Ill at BadDeclaration)
declarable c at (typ (func s) d v) = Err (Ill at OutOfProfile)
declarable c at t = check at Incomplete (is_complete c (held t))

-- a scalar that is `const` is initialised; an object of a class that is, only by a constructor that is written
abbrev pub is_const_element : Typ → Bool
is_const_element t = is_const_typ (element_of t)

abbrev pub has_written_default : Ctx → Special → Bool
has_written_default c (function k) = not (func_at c.funcs k).implicit
has_written_default c s = false

abbrev pub const_initialised : Ctx → At → Typ → Result Bool ElabFault
const_initialised c at (typ (class n) d v) = check at NoDefault (has_written_default c (traits_at c n).default)
const_initialised c at t = Err (Ill at BadInit)

abbrev pub default_object : Ctx → Typ → At → Result Tree ElabFault
default_object c t at = and_then (if is_const_element t then const_initialised c at (element_of t) else Ok true) (λ y. from_nothing c t at)

abbrev pub is_direct : Binding → Bool
is_direct Temporary = false
is_direct b = true

-- a local reference is bound to no temporary (profile)
abbrev pub is_lasting : Option Conversion → Operand → Bool
is_lasting None o = true
is_lasting (Some v) o = is_direct v.binding && not (is_class_prvalue (typ_in o.tree) (cat_of o.tree))

abbrev pub bound_reference : Ctx → Work → Typ → Operand → Result Made ElabFault
bound_reference c w t o = and_then (check o.at OutOfProfile (is_lasting (conversion c t o) o)) (λ y. scalar_from c w t o)

-- `= e`
abbrev pub copy_initialised : Ctx → Work → Typ → Operand → Result Made ElabFault
copy_initialised c w (typ (ref t) d v) o = bound_reference c w (typ (ref t) d v) o
copy_initialised c w (typ (array e n) d v) o = Err (Ill o.at BadInit)
copy_initialised c w t o = if is_class_typ t then class_from c w t o.at o else scalar_from c w t o

-- `(e, ..)`
abbrev pub directly_initialised : Ctx → Work → Typ → At → List Operand → Result Made ElabFault
directly_initialised c w (typ (ref t) d v) at (o ∷ []) = bound_reference c w (typ (ref t) d v) o
directly_initialised c w t at os = from_values c w t at os

abbrev pub init_node : State → Typ → At → At → Tree → Tree → Tree
init_node st t at p variable init = statement forms.Init at (more variable (more (full p init) (destroys st.ctx at t)))

abbrev pub initialised : State → Typ → At → Tree → Full → Result Made ElabFault → Result Done ElabFault
initialised st t at variable f r = and_then r (λ (m : Made). done (one (init_node f.state t at f.operand.at variable m.tree)) (with_work f.state m.work))

abbrev pub string_initialised : State → List Lexeme → Typ → At → Tree → At → ℕ → Result Done ElabFault
string_initialised st s t at variable p n = and_then (string_object st.ctx t p (string_bytes (spelling s n)))
    (λ (e : Tree). done (one (init_node st t at p variable e)) st)

-- where the initialiser in parentheses stands as a whole: at its one value, unless a constructor takes that
abbrev pub is_own_value : Option ℕ → Operand → Bool
is_own_value (Some n) o = is_prvalue_of_class n o.tree
is_own_value None o = true

abbrev pub values_place : Typ → At → List Operand → At
values_place t at (o ∷ []) = if is_own_value (class_number t) o then o.at else at
values_place t at os = at

abbrev pub values_initialised : Lambdas → List Lexeme → State → Typ → At → Tree → At → Result TypedAll ElabFault → Result Done ElabFault
values_initialised lams s st t at variable p r = and_then r
    (λ (xs : TypedAll). and_then (directly_initialised st.ctx xs.work t at xs.operands)
    (λ (m : Made). done (one (init_node st t at (values_place t at xs.operands) variable m.tree)) (with_work st m.work)))

-- the lambdas of each of some expressions
abbrev pub all_lambdas : Lambdas → List Lexeme → State → syntax.Trees → Result State ElabFault
all_lambdas lams s st syntax.none = Ok st
all_lambdas lams s st (syntax.more e es) = and_then (lams s st e) (λ (x : State). all_lambdas lams s x es)

-- an array whose bound its initialiser gives
abbrev pub count : syntax.Trees → ℕ
count syntax.none = 0
count (syntax.more t ts) = suc (count ts)

abbrev pub closed_bound : ℕ → Typ → Typ
closed_bound n (typ (array e zero) d v) = typ (array e n) d v
closed_bound n t = t

abbrev pub string_length : List Lexeme → Option ℕ → ℕ
string_length s (Some n) = suc (length (string_bytes (spelling s n)))
string_length s None = 0

abbrev pub bound_by_initialiser : List Lexeme → Typ → syntax.Trees → Typ
bound_by_initialiser s t (syntax.more (syntax.node k.EqualInitializer p token
    (syntax.more (syntax.node k.BracedInitList q brace items) syntax.none)) syntax.none) = closed_bound (count items) t
bound_by_initialiser s t (syntax.more (syntax.node k.EqualInitializer p token (syntax.more e syntax.none)) syntax.none) =
    closed_bound (string_length s (string_token e)) t
bound_by_initialiser s t kids = t

-- the initialiser of the variable whose place comes next in `st`, where `v` is behind its declaration
abbrev pub by_expression : Lambdas → List Lexeme → State → State → Typ → At → syntax.Tree → Bool → Option ℕ → Result Done ElabFault
by_expression lams s st v t at e true (Some n) = string_initialised v s t at (variable_tree st t at) (syntax_place e) n
by_expression lams s st v t at e b o = and_then (full_operand lams s v e)
    (λ (f : Full). initialised f.state t at (variable_tree st t at) f (copy_initialised f.state.ctx f.state.work t f.operand))

abbrev pub with_initialiser : Lambdas → List Lexeme → State → State → Typ → At → syntax.Trees → Result Done ElabFault
with_initialiser lams s st v t at syntax.none = and_then (default_object v.ctx t at)
    (λ (e : Tree). done (one (init_node v t at at (variable_tree st t at) e)) v)
with_initialiser lams s st v t at (syntax.more (syntax.node k.ParenthesizedInitializer p token es) syntax.none) =
    and_then (all_lambdas lams s v es) (λ (x : State). values_initialised lams s x t at (variable_tree st t at) (at_of p) (operands_of s x.ctx x.work es))
with_initialiser lams s st v t at (syntax.more (syntax.node k.EqualInitializer p token
    (syntax.more (syntax.node k.BracedInitList q brace items) syntax.none)) syntax.none) = and_then (all_lambdas lams s v items) (λ (x : State).
    and_then (item_of s x.ctx x.work (variable_tree st t at) t (syntax.node k.BracedInitList q brace items))
    (λ (m : Made). done (one (init_node x t at (at_of q) (variable_tree st t at) m.tree)) (with_work x m.work)))
with_initialiser lams s st v t at (syntax.more (syntax.node k.EqualInitializer p token (syntax.more e syntax.none)) syntax.none) =
    by_expression lams s st v t at e (is_char_array t) (string_token e)
with_initialiser lams s st v t at kids = Err (Ill at OutOfProfile)

-- `auto` (7.1.6.4): what stands for it in the type of a declarator, from the type of the initialiser

-- without the qualifiers that the first type has
abbrev pub less_qualified : Typ → Typ → Typ
less_qualified (typ g c v) (typ f d w) = typ f (d && not c) (w && not v)

abbrev pub deduced_from : Typ → Typ → Option Typ
deduced_from (typ (enum [] x) c v) u = Some (less_qualified (typ (enum [] x) c v) u)
deduced_from (typ (ptr t) c v) (typ (ptr u) d w) = deduced_from t u
deduced_from t u = None

abbrev pub replaced : Typ → Typ → Typ
replaced u (typ (enum [] x) c v) = with_qualifiers c v u
replaced u (typ (ptr t) c v) = typ (ptr (replaced u t)) c v
replaced u (typ (ref t) c v) = typ (ref (replaced u t)) c v
replaced u t = t

-- the type that a reference refers to is that of the expression, without the qualifiers that are written; a value's type is that after decay
abbrev pub auto_of : Typ → Operand → Option Typ
auto_of (typ (ref t) c v) o = deduced_from t (less_qualified t (typ_in o.tree))
auto_of t o = deduced_from t (unqualified (typ_in (value o)))

abbrev pub is_null_type : Form → Bool
is_null_type null = true
is_null_type f = false

-- (profile) not `nullptr`, nor nothing
abbrev pub deduced_type : At → Typ → Operand → Result Typ ElabFault
deduced_type at t o = and_then (check at OutOfProfile (not (is_null_type (form_in (typ_in (value o))))))
    (λ x. and_then (check o.at BadInit (not (is_void (typ_in o.tree)))) (λ y. expect o.at NoConversion (auto_of t o)))

abbrev pub auto_placed : State → ℕ → Typ → State
auto_placed st i t = record st {
  ctx = record st.ctx { variables = slice_set st.ctx.variables i (record { typ = Some t; place = next_place st.work }) };
  work =
      with_item st.work t;
}

-- the variable of number `i`, whose initialiser is read: its item stands behind those of the initialiser
abbrev pub auto_initialised : State → Typ → At → ℕ → Typ → Operand → Result Made ElabFault → Result Done ElabFault
auto_initialised st t at i u o r = and_then r (λ (m : Made). done (one (init_node st u at o.at (variable_tree (with_work st m.work) u at) m.tree))
    (auto_placed (with_work st m.work) i u))

abbrev pub auto_object : State → Typ → At → Typ → Operand → Result Made ElabFault
auto_object st t at u o = copy_initialised st.ctx st.work u o

abbrev pub only_expression : syntax.Trees → Option syntax.Tree
only_expression (syntax.more (syntax.node k.EqualInitializer p token (syntax.more (syntax.node k.BracedInitList q brace items) syntax.none)) syntax.none) = None
only_expression (syntax.more (syntax.node kind p token (syntax.more e syntax.none)) syntax.none) = Some e
only_expression kids = None

-- a declared type, and what stood for `auto` in it
pub record Deduction : Type 0 where
  pub done : Done
  pub auto : Option Typ

abbrev pub same_deduction : Option Typ → Typ → Bool
same_deduction None u = true
same_deduction (Some t) u = typ_eq t u

abbrev pub with_auto : Typ → Result Done ElabFault → Result Deduction ElabFault
with_auto u r = and_then r (λ (d : Done). Ok (record { done = d; auto = Some u }))

abbrev pub auto_variable : Lambdas → List Lexeme → State → ℕ → Typ → At → Option Typ → syntax.Tree → Result Deduction ElabFault
auto_variable lams s st i t at before e = and_then (full_operand lams s st e)
    (λ (f : Full). and_then (deduced_type at t f.operand) (λ (u : Typ). and_then (check at TypeDiffers (same_deduction before u)) (λ y.
    with_auto u (auto_initialised f.state t at i (replaced u t) f.operand (auto_object f.state t at (replaced u t) f.operand)))))

abbrev pub without_auto : Option Typ → Result Done ElabFault → Result Deduction ElabFault
without_auto before r = and_then r (λ (d : Done). Ok (record { done = d; auto = before }))

abbrev pub plain_variable : Lambdas → List Lexeme → State → List ℕ → Typ → At → syntax.Trees → Result Done ElabFault
plain_variable lams s st name t at init = and_then (declarable st.ctx at t)
    (λ x. and_then (check at BadDeclaration (is_bounded t))
    (λ z. and_then (typ_sized st.ctx.classes at t)
    (λ y. and_then (within_if_sized st.ctx at t) (λ w. with_initialiser lams s st (placed_variable st name t) t at init))))

abbrev pub variable_by : Lambdas → List Lexeme → State → List ℕ → Typ → At → Option Typ → syntax.Trees → Bool → Result Deduction ElabFault
variable_by lams s st name t at before init true = and_then (expect at BadInit (only_expression init))
    (λ (e : syntax.Tree). auto_variable lams s (declared_variable st name None) (length st.ctx.variables) t at before e)
variable_by lams s st name t at before init false = without_auto before (plain_variable lams s st name (bound_by_initialiser s t init) at init)

-- a variable of a block
abbrev pub variable : Lambdas → List Lexeme → State → List ℕ → Typ → At → Option Typ → syntax.Trees → Result Deduction ElabFault
variable lams s st name t at before init = and_then (check at Redeclared (is_fresh st.ctx name)) (λ y. variable_by lams s st name t at before init (has_auto t))

-- whether a label behind a declaration jumps past it (C++14 6.7 p3)
abbrev pub is_trivial : Special → Bool
is_trivial trivial = true
is_trivial s = false

abbrev pub class_is_skipped : Ctx → Option ℕ → Bool
class_is_skipped c (Some n) = is_trivial (traits_at c n).default && is_trivial (traits_at c n).destructor
class_is_skipped c None = true

abbrev pub may_be_skipped : Ctx → Typ → syntax.Trees → Bool
may_be_skipped c t syntax.none = class_is_skipped c (class_number (element_of t))
may_be_skipped c t init = false

abbrev pub is_direct_label : Label → Bool
is_direct_label DirectLabel = true
is_direct_label l = false

abbrev pub past_declaration : Typ → syntax.Trees → State → State
past_declaration t init st = record st {
  ctx = record st.ctx {
    labels =
        record st.ctx.labels { is_past = st.ctx.labels.is_past || (is_direct_label st.ctx.label && not (may_be_skipped st.ctx t init)) };
  };
}

pub record Declaring : Type 0 where
  pub trees : Trees
  pub state : State
  pub auto : Option Typ

abbrev pub name_of : List Lexeme → Option ℕ → List ℕ
name_of s (Some n) = spelling s n
name_of s None = []

abbrev pub declared_more : Declaring → Typ → syntax.Trees → Deduction → Declaring
declared_more d t init x = record { trees = followed_by d.trees x.done.trees; state = past_declaration t init x.done.state; auto = x.auto }

-- no name of a class before it, and no destructor's
abbrev pub is_own_name : Declared → Bool
is_own_name d = is_none d.owner && not d.is_destructor

-- one declarator of a declaration in a block
abbrev pub block_declarator : Lambdas → List Lexeme → Typ → Declaring → syntax.Tree → Result Declaring ElabFault
block_declarator lams s t d (syntax.node k.InitDeclarator p token (syntax.more x init)) =
    and_then (declared_by s d.state.ctx d.state.work (at_of p) t x)
    (λ (r : Declared). and_then (check (at_of p) BadDeclaration (is_own_name r))
    (λ z. and_then (variable lams s d.state (name_of s r.name) r.typ (at_of p) d.auto init) (λ (y : Deduction). Ok (declared_more d r.typ init y))))
block_declarator lams s t d (syntax.node kind p token kids) = Err (Ill (at_of p) OutOfProfile)

abbrev pub block_declarators : Lambdas → List Lexeme → Typ → Declaring → syntax.Trees → Result Declaring ElabFault
block_declarators lams s t d syntax.none = Ok d
block_declarators lams s t d (syntax.more x xs) = and_then (block_declarator lams s t d x) (λ (y : Declaring). block_declarators lams s t y xs)

-- a declaration in a block: no storage class there (profile)
abbrev pub block_declaration : Lambdas → List Lexeme → State → At → syntax.Trees → Result Done ElabFault
block_declaration lams s st at (syntax.more (syntax.node k.Attribute p token kids) ts) = block_declaration lams s st at ts
block_declaration lams s st at (syntax.more (syntax.node k.TypeSpecifierSeq p token kids) ds) =
    and_then (type_of_specifiers s st.ctx st.work (syntax.node k.TypeSpecifierSeq p token kids)) (λ (t : Typ).
    and_then (block_declarators lams s t (record { trees = none; state = st; auto = None }) ds) (λ (d : Declaring). done d.trees d.state))
block_declaration lams s st at ts = Err (Ill at OutOfProfile)

-- `return` (C++14 6.6.3)

abbrev pub return_node : At → Trees → Tree
return_node at kids = statement forms.Return at kids

abbrev pub is_result_class : Typ → Bool
is_result_class t = is_class_typ t

-- the object that a call gives, at the address in place 0 of the frame
abbrev pub result_object : Typ → At → Tree
result_object t at = node (forms.Load ULong false) t Lvalue at (one (node (forms.Local 0) (plain (ptr t)) Lvalue at none))

abbrev pub class_returned : At → Typ → Full → Made → Tree
class_returned at t f m = statement (forms.Block false) at
    (two (statement forms.Init at (two (result_object t at) (full f.operand.at m.tree))) (return_node at none))

-- behind the temporaries of a full-expression the object that a result refers to has the type that is written
abbrev pub result_of : Typ → At → Tree → Tree
result_of (typ (ref u) d v) at e = if holds_temporary e then seen_as at u e else e
result_of t at e = e

abbrev pub return_value : At → Typ → Full → Result Done ElabFault
return_value at (typ void d v) f = and_then (check at BadReturn (is_void (typ_in f.operand.tree)))
    (λ y. done (one (statement (forms.Block false) at (two (full f.operand.at (bare_throw f.operand.tree)) (return_node at none)))) f.state)
return_value at t f = if is_class_typ t then and_then (class_from f.state.ctx f.state.work t f.operand.at f.operand)
    (λ (m : Made). done (one (class_returned at t f m)) (with_work f.state m.work))
    else and_then (initial f.state.ctx f.state.work t f.operand)
    (λ (m : Made). done (one (return_node at (one (full f.operand.at (result_of t f.operand.at m.tree))))) (with_work f.state m.work))

abbrev pub with_deduced : State → Option Typ → State
with_deduced st t = record st { ctx = record st.ctx { returns = deduced t } }

abbrev pub deduced_return : At → Option Typ → Full → Result Done ElabFault
deduced_return at t f = and_then (check at BadReturn (same_deduction t (unqualified (typ_in (value f.operand)))))
    (λ y. done (one (return_node at none)) (with_deduced f.state (Some (unqualified (typ_in (value f.operand))))))

abbrev pub return_by : At → Returns → Full → Result Done ElabFault
return_by at (known t) f = return_value at t f
return_by at (deduced t) f = deduced_return at t f

abbrev pub return_nothing : State → At → Returns → Result Done ElabFault
return_nothing st at (known t) = and_then (check at BadReturn (is_void t)) (λ y. done (one (return_node at none)) st)
return_nothing st at (deduced t) = and_then (check at BadReturn (same_deduction t (plain void)))
    (λ y. done (one (return_node at none)) (with_deduced st (Some (plain void))))

abbrev pub returned : Lambdas → List Lexeme → State → At → syntax.Trees → Result Done ElabFault
returned lams s st at syntax.none = return_nothing st at st.ctx.returns
returned lams s st at (syntax.more e ts) = and_then (full_operand lams s st e) (λ (f : Full). return_by at f.state.ctx.returns f)

-- Labels (C++14 6.4.2; the TS, [stmt.sync], [stmt.tx])

abbrev pub label_allowed : At → Label → Result Bool ElabFault
label_allowed at DirectLabel = Ok true
label_allowed at InBlock = Err (JumpIntoBlock at)
label_allowed at l = Err (Ill at BadCase)

abbrev pub label_here : State → At → Result Bool ElabFault
label_here st at = and_then (label_allowed at st.ctx.label) (λ y. check at JumpPastInit (not st.ctx.labels.is_past))

abbrev pub with_labels : State → Labels → State
with_labels st l = record st { ctx = record st.ctx { labels = l } }

abbrev pub case_fits : Option IntKind → Option IntKind → ℕ → Bool
case_fits (Some j) (Some k) w = int_eq (convert_of k (value_of_word j w)) (value_of_word j w)
case_fits _ _ w = true

abbrev pub case_checked : State → At → Operand → Tree → ℕ → ℕ → Result Done ElabFault
case_checked st at o v w word = and_then (check o.at Narrowing (case_fits (kind_in (form_in (typ_in (value o)))) (kind_in (form_in st.ctx.labels.typ)) w))
    (λ x. and_then (check at BadCase (not (list_any (λ (n : ℕ). n == word) st.ctx.labels.words))) (λ y.
    done (one (statement (forms.Case word) at none)) (with_labels st (record st.ctx.labels { words = st.ctx.labels.words ++ word ∷ [] }))))

abbrev pub case_label : List Lexeme → State → At → syntax.Tree → Result Done ElabFault
case_label s st at e = and_then (label_here st at) (λ y. and_then (and_then (expression_of s st.ctx st.work e) (chosen_operand st.ctx))
    (λ (o : Typed). and_then (initial st.ctx st.work st.ctx.labels.typ o.operand) (λ (m : Made).
    and_then (expect o.operand.at NotConstant (constant st.work.globals (value o.operand)))
    (λ w. and_then (expect o.operand.at NotConstant (constant st.work.globals m.tree)) (λ word. case_checked st at o.operand m.tree w word)))))

abbrev pub default_label : State → At → Result Done ElabFault
default_label st at = and_then (label_here st at) (λ y. and_then (check at BadCase (not st.ctx.labels.has_default))
    (λ z. done (one (statement forms.Default at none)) (with_labels st (record st.ctx.labels { has_default = true }))))

-- Where a statement stands

abbrev pub inner_label : Label → Label
inner_label DirectLabel = Inside
inner_label l = l

abbrev pub block_label : Label → Label
block_label Outside = Outside
block_label l = InBlock

-- into a statement in another, with a scope of its own
abbrev pub inner : State → State
inner st = record st { ctx = record (opened st.ctx) { label = inner_label st.ctx.label } }

abbrev pub in_loop : State → State
in_loop st = record (inner st) { ctx = record (inner st).ctx { breaks = true; continues = true } }

abbrev pub in_block : State → State
in_block st = record (inner st) { ctx = record (inner st).ctx { label = block_label st.ctx.label } }

abbrev pub no_labels : Typ → Labels
no_labels t = record { typ = t; words = []; has_default = false; is_past = false }

abbrev pub in_switch : State → Typ → State
in_switch st t = record st { ctx = record (opened st.ctx) { label = DirectLabel; labels = no_labels t; breaks = true } }

-- behind it: what is said of where a statement stands is as it was
abbrev pub outer : State → State → State
outer before st = record st {
  ctx = record (closed st.ctx) {
    label = before.ctx.label;
    labels = before.ctx.labels;
    breaks = before.ctx.breaks;
    continues =
        before.ctx.continues;
  };
}

abbrev pub left : State → Done → Done
left before d = record { trees = d.trees; state = outer before d.state }

-- Handlers (C++14 15.3)

abbrev pub caught_form : Ctx → At → Form → Result Bool ElabFault
caught_form c at (int j) = Ok true
caught_form c at (enum n x) = check at BadCatch (not (is_nothing n))
caught_form c at (class n) = check at BadCatch (traits_at c n).is_trivially_copyable
caught_form c at (tx_ex t) = Ok true
caught_form c at f = Err (Ill at BadCatch)

abbrev pub caught_type : Ctx → At → Typ → Result Typ ElabFault
caught_type c at (typ (ref t) d v) = and_then (check at OutOfProfile (is_const_typ t)) (λ y. and_then (caught_form c at (form_in t)) (λ z. Ok t))
caught_type c at t = and_then (caught_form c at (form_in t)) (λ z. Ok t)

abbrev pub handler_node : At → Option ℕ → Typ → Tree → Trees → Tree
handler_node at place t body fs = node (forms.Handler place) t Prvalue at (more body fs)

-- what a handler catches, behind its slot; one that has a name has room for an exception alone (profile)
pub record Caught : Type 0 where
  pub state : State
  pub typ : Typ
  pub place : Option ℕ
  pub fields : Trees

abbrev pub named_handler : List Lexeme → State → At → At → Typ → Typ → Option ℕ → Result Caught ElabFault
named_handler s st at p t u (Some n) = and_then (within_exception st.ctx p u) (λ y. Ok (record {
  state = placed_variable st (spelling s n) u;
  typ = t;
  place = Some (next_place st.work);
  fields =
      fields st.ctx.classes at u;
}))
named_handler s st at p t u None = Ok (record { state = st; typ = t; place = None; fields = none })

abbrev pub handler_type : List Lexeme → State → At → syntax.Tree → Result Caught ElabFault
handler_type s st at (syntax.node k.ParameterDeclaration p token (syntax.more base (syntax.more d syntax.none))) =
    and_then (type_of_specifiers s st.ctx st.work base) (λ (t : Typ). and_then (declared_by s st.ctx st.work (at_of p) t d) (λ (r : Declared).
    and_then (caught_type st.ctx (at_of p) r.typ) (λ (u : Typ). named_handler s st at (at_of p) r.typ u r.name)))
handler_type s st at t = Ok (record { state = st; typ = plain void; place = None; fields = none })

abbrev pub is_ellipsis : syntax.Tree → Bool
is_ellipsis (syntax.node k.Ellipsis p token kids) = true
is_ellipsis t = false

abbrev pub is_last : syntax.Trees → Bool
is_last syntax.none = true
is_last ts = false

-- `...` stands last
abbrev pub in_order : At → syntax.Tree → syntax.Trees → Result Bool ElabFault
in_order at x rest = check at BadCatch (not (is_ellipsis x) || is_last rest)

-- Blocks

abbrev pub block_kind : List ℕ → BlockKind
block_kind name = if bytes_eq name (codes "atomic_noexcept") then NoExcept else (if bytes_eq name (codes "atomic_cancel") then Cancel else Commit)

abbrev pub block : At → Trees → Tree
block at ts = statement (forms.Block false) at ts

abbrev pub joined : Done → Done → Done
joined a b = record { trees = followed_by a.trees b.trees; state = b.state }

-- the type of the value of a `switch`: promoted; an enum stays as it is
abbrev pub switched_type : At → Form → Result Typ ElabFault
switched_type at (int j) = Ok (plain (int (promote_of j)))
switched_type at (enum n true) = Ok (plain (enum n true))
switched_type at (enum n false) = Ok (plain (int Int))
switched_type at f = Err (Ill at NoConversion)

abbrev pub is_enum : Form → Bool
is_enum (enum n x) = true
is_enum f = false

abbrev pub switch_value : Typ → Tree → Operand → Tree
switch_value (typ (int j) d v) e o = if is_enum (form_in (typ_in e)) then e else converted o.at (plain (int j)) e
switch_value t e o = e

pub record Switched : Type 0 where
  pub value : Tree
  pub typ : Typ
  pub state : State

abbrev pub switched : Lambdas → List Lexeme → State → syntax.Tree → Result Switched ElabFault
switched lams s st e = and_then (full_operand lams s st e)
    (λ (f : Full). and_then (switched_type f.operand.at (form_in (typ_in (value f.operand))))
    (λ (t : Typ). Ok (record { value = full f.operand.at (switch_value t (value f.operand) f.operand); typ = t; state = f.state })))

abbrev pub jump : Bool → TKind → State → At → Result Done ElabFault
jump allowed kind st at = and_then (check at BadBreak allowed) (λ y. done (one (statement kind at none)) st)

abbrev pub is_declaration : syntax.Tree → Bool
is_declaration (syntax.node k.SimpleDeclaration p token kids) = true
is_declaration t = false

abbrev pub in_block_if : Bool → At → Trees → Trees
in_block_if true at ts = one (block at ts)
in_block_if false at ts = ts

-- where a statement begins: the place of a declaration is that of its name
abbrev pub beginning : List Lexeme → syntax.Tree → At
beginning s (syntax.node k.SimpleDeclaration p (Some t) kids) = token_place s p.source t
beginning s t = syntax_place t

-- a statement in another: a declaration stands in a block of its own
abbrev pub a_part : List Lexeme → syntax.Tree → Done → Result Done ElabFault
a_part s t d = done (in_block_if (is_declaration t) (beginning s t) d.trees) d.state

-- parts of a `for`
abbrev pub for_first : Lambdas → List Lexeme → State → syntax.Tree → Result Done ElabFault
for_first lams s st (syntax.node k.Absent p token kids) = done none st
for_first lams s st (syntax.node k.SimpleDeclaration p token kids) = block_declaration lams s st (at_of p) kids
for_first lams s st e = expression_statement lams s st e

abbrev pub for_test : Lambdas → List Lexeme → State → At → syntax.Tree → Result Done ElabFault
for_test lams s st at (syntax.node k.Absent p token kids) = done (one (true_at at)) st
for_test lams s st at e = condition lams s st e

abbrev pub for_step : Lambdas → List Lexeme → State → At → syntax.Tree → Result Done ElabFault
for_step lams s st at (syntax.node k.Absent p token kids) = done (one (block at none)) st
for_step lams s st at e = expression_statement lams s st e

abbrev mutual
  -- a statement: its trees, of which a declaration has one for each declarator
  pub statement_of : Lambdas → List Lexeme → State → syntax.Tree → Result Done ElabFault
  statement_of lams s st (syntax.node k.CompoundStatement p token kids) =
      and_then (statements_of lams s (inner st) kids) (λ (d : Done). done (one (block (at_of p) d.trees)) (outer st d.state))
  statement_of lams s st (syntax.node k.NullStatement p token kids) = done (one (block (at_of p) none)) st
  statement_of lams s st (syntax.node k.ExpressionStatement p token (syntax.more e syntax.none)) = expression_statement lams s st e
  statement_of lams s st (syntax.node k.SimpleDeclaration p token kids) = block_declaration lams s st (at_of p) kids
  statement_of lams s st (syntax.node k.IfStatement p token (syntax.more e (syntax.more a syntax.none))) =
      and_then (condition lams s st e) (λ (x : Done). and_then (and_then (statement_of lams s (inner x.state) a) (a_part s a)) (λ (y : Done).
      done (one (statement forms.Conditional (at_of p) (three (the_tree (at_of p) x.trees) (the_tree (at_of p) y.trees) (block (at_of p) none))))
      (outer x.state y.state)))
  statement_of lams s st (syntax.node k.IfStatement p token (syntax.more e (syntax.more a (syntax.more b syntax.none)))) =
      and_then (condition lams s st e) (λ (x : Done). and_then (and_then (statement_of lams s (inner x.state) a) (a_part s a))
      (λ (y : Done). and_then (and_then (statement_of lams s (inner (outer x.state y.state)) b) (a_part s b)) (λ (z : Done).
      done (one (statement forms.Conditional (at_of p) (three (the_tree (at_of p) x.trees) (the_tree (at_of p) y.trees) (the_tree (at_of p) z.trees))))
      (outer x.state z.state))))
  statement_of lams s st (syntax.node k.WhileStatement p token (syntax.more e (syntax.more a syntax.none))) =
      and_then (condition lams s st e) (λ (x : Done). and_then (and_then (statement_of lams s (in_loop x.state) a) (a_part s a)) (λ (y : Done).
      done (one (statement (forms.Loop true) (at_of p) (three (the_tree (at_of p) x.trees) (the_tree (at_of p) y.trees) (block (at_of p) none))))
      (outer x.state y.state)))
  statement_of lams s st (syntax.node k.DoStatement p token (syntax.more a (syntax.more e syntax.none))) =
      and_then (and_then (statement_of lams s (in_loop st) a) (a_part s a)) (λ (y : Done). and_then (condition lams s (outer st y.state) e) (λ (x : Done).
      done (one (statement (forms.Loop false) (at_of p) (three (the_tree (at_of p) x.trees) (the_tree (at_of p) y.trees) (block (at_of p) none)))) x.state))
  statement_of lams s st (syntax.node k.ForStatement p token
      (syntax.more i (syntax.more e (syntax.more n (syntax.more (syntax.node k.CompoundStatement q brace kids) syntax.none))))) =
      and_then (for_first lams s (in_loop st) i) (λ (f : Done). and_then (for_test lams s f.state (at_of p) e)
      (λ (x : Done). and_then (for_step lams s x.state (at_of p) n) (λ (z : Done). and_then (statements_of lams s z.state kids) (λ (y : Done).
      done (one (block (at_of p) (followed_by f.trees
      (one (statement (forms.Loop true) (at_of p) (three (the_tree (at_of p) x.trees) (block (at_of q) y.trees) (the_tree (at_of p) z.trees)))))))
      (outer st y.state)))))
  statement_of lams s st (syntax.node k.ForStatement p token (syntax.more i (syntax.more e (syntax.more n (syntax.more a syntax.none))))) =
      and_then (for_first lams s (in_loop st) i) (λ (f : Done). and_then (for_test lams s f.state (at_of p) e)
      (λ (x : Done). and_then (for_step lams s x.state (at_of p) n)
      (λ (z : Done). and_then (and_then (statement_of lams s z.state a) (a_part s a)) (λ (y : Done).
      done (one (block (at_of p) (followed_by f.trees
      (one (statement (forms.Loop true) (at_of p) (three (the_tree (at_of p) x.trees) (the_tree (at_of p) y.trees) (the_tree (at_of p) z.trees)))))))
      (outer st y.state)))))
  statement_of lams s st (syntax.node k.SwitchStatement p token (syntax.more e (syntax.more (syntax.node kind q brace kids) syntax.none))) =
      and_then (switched lams s st e) (λ (v : Switched). and_then (statements_of lams s (in_switch v.state v.typ) kids) (λ (d : Done).
      done (one (statement forms.Switch (at_of p) (more v.value d.trees))) (outer v.state d.state)))
  statement_of lams s st (syntax.node k.CaseStatement p token (syntax.more e (syntax.more a syntax.none))) =
      and_then (case_label s st (at_of p) e) (λ (x : Done). and_then (statement_of lams s x.state a) (λ (y : Done). Ok (joined x y)))
  statement_of lams s st (syntax.node k.DefaultStatement p token (syntax.more a syntax.none)) =
      and_then (default_label st (at_of p)) (λ (x : Done). and_then (statement_of lams s x.state a) (λ (y : Done). Ok (joined x y)))
  statement_of lams s st (syntax.node k.BreakStatement p token kids) = jump st.ctx.breaks forms.Break st (at_of p)
  statement_of lams s st (syntax.node k.ContinueStatement p token kids) = jump st.ctx.continues forms.Continue st (at_of p)
  statement_of lams s st (syntax.node k.ReturnStatement p token kids) = returned lams s st (at_of p) kids
  statement_of lams s st (syntax.node k.TryBlock p token (syntax.more (syntax.node kind q brace kids) hs)) =
      and_then (statements_of lams s (inner st) kids) (λ (d : Done). and_then (handlers_of lams s (outer st d.state) hs) (λ (r : Done).
      done (one (statement forms.Try (at_of p) (more (block (at_of q) d.trees) r.trees))) r.state))
  statement_of lams s st (syntax.node k.SynchronizedStatement p token (syntax.more (syntax.node kind q brace kids) syntax.none)) =
      and_then (statements_of lams s (in_block st) kids)
      (λ (d : Done). done (one (statement forms.Synchronized (at_of p) (one (block (at_of q) d.trees)))) (outer st d.state))
  statement_of lams s st (syntax.node k.AtomicStatement p (Some t) (syntax.more (syntax.node kind q brace kids) syntax.none)) =
      and_then (statements_of lams s (in_block st) kids)
      (λ (d : Done). done (one (statement (forms.Atomic (block_kind (spelling s t))) (at_of p) (one (block (at_of q) d.trees)))) (outer st d.state))
  statement_of lams s st (syntax.node kind p token kids) = Err (Ill (at_of p) OutOfProfile)

  pub statements_of : Lambdas → List Lexeme → State → syntax.Trees → Result Done ElabFault
  statements_of lams s st syntax.none = done none st
  statements_of lams s st (syntax.more t ts) = and_then (statement_of lams s st t)
      (λ (x : Done). and_then (statements_of lams s x.state ts) (λ (y : Done). Ok (joined x y)))

  pub handlers_of : Lambdas → List Lexeme → State → syntax.Trees → Result Done ElabFault
  handlers_of lams s st syntax.none = done none st
  handlers_of lams s st (syntax.more (syntax.node kind p token (syntax.more x (syntax.more (syntax.node b q brace kids) syntax.none))) hs) =
      and_then (in_order (at_of p) x hs) (λ y. and_then (handler_type s (inner st) (at_of p) x)
      (λ (h : Caught). and_then (statements_of lams s h.state kids) (λ (d : Done).
      and_then (handlers_of lams s (outer st d.state) hs)
      (λ (r : Done). done (more (handler_node (at_of p) h.place h.typ (block (at_of q) d.trees) h.fields) r.trees) r.state))))
  handlers_of lams s st (syntax.more (syntax.node kind p token kids) hs) = Err (Ill (at_of p) OutOfProfile)
