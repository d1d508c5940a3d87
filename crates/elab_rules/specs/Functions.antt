-- Functions: declarations that agree, and bodies (C++14 3.5, 7.1.1, 7.1.2, 8.3.5, 8.4; the TS, [dcl.fct]).
use Rattle.std.specs.Prelude.{ℕ, suc, nat_le, Bool, true, false, not, ◌&&◌, ◌||◌, List, [], ◌∷◌, ◌++◌, length, map, Option, Some, None}
use Rattle.std.specs.Prelude.{is_some, is_none, Result, Ok, Err, if◌then◌else◌, slice_set, slice_range, codes}
use Rattle.std.specs.Str.{bytes_eq}
use Rattle.elab_ctx.specs.tx_ints.declared.kinds.IntKind.TheVariants.{Int, ULong}
use Rattle.elab_ctx.specs.cpp_types.Typ.{Typ, typ, void, int, ptr, ref, func, Signature, Typs}
use Rattle.elab_ctx.specs.cpp_types.Typ.{none as no_typs}
use Rattle.elab_ctx.specs.cpp_types.Equal.{typ_eq, typs_eq, flag_eq}
use Rattle.elab_ctx.specs.cpp_types.Class.{Function, held}
use Rattle.elab_ctx.specs.cpp_types.declared.classes.At.{At}
use Rattle.elab_ctx.specs.cpp_types.declared.classes.Safety.{Safety}
use Rattle.elab_ctx.specs.cpp_types.declared.classes.Safety.TheVariants.{None as NoSafety, Safe, Dynamic}
use Rattle.elab_ctx.specs.cpp_types.declared.ranks.Cat.TheVariants.{Lvalue, Prvalue}
use Rattle.elab_ctx.specs.cpp_lex.Tokens.{Lexeme}
use Rattle.elab_ctx.specs.cpp_ast.Trees as syntax
use Rattle.elab_ctx.specs.cpp_layout.Layout.{frame_size, extent_of}
use Rattle.elab_ctx.specs.cpp_layout.declared.frames.TheConstants.{GREATEST_FRAME}
use Rattle.elab_ctx.specs.cpp_names.declared.entity.Entity.{Entity}
use Rattle.elab_ctx.specs.cpp_names.declared.entity.EntityKind.{EntityKind}
use Rattle.elab_ctx.specs.cpp_names.declared.entity.EntityKind.TheVariants as entities
use Rattle.elab_ctx.specs.cpp_names.Names.{innermost_of, with_name}
use Rattle.elab_ctx.specs.cpp_tree.declared.kinds.TKind.{TKind}
use Rattle.elab_ctx.specs.cpp_tree.declared.kinds.TKind.TheVariants as forms
use Rattle.elab_ctx.specs.cpp_tree.declared.program.FuncKind.{FuncKind}
use Rattle.elab_ctx.specs.cpp_tree.declared.program.FuncKind.TheVariants.{Plain, Constructor, Destructor, ClosureCall}
use Rattle.elab_ctx.specs.cpp_tree.declared.program.Linkage.{Linkage}
use Rattle.elab_ctx.specs.cpp_tree.declared.program.Linkage.TheVariants.{External, Internal, Inline}
use Rattle.elab_ctx.specs.cpp_tree.declared.faults.ElabFault.{ElabFault}
use Rattle.elab_ctx.specs.cpp_tree.declared.faults.ElabFault.TheVariants.{Override, Limit}
use Rattle.elab_ctx.specs.cpp_tree.declared.faults.OverrideRule.TheVariants.{DynamicNotVirtual}
use Rattle.elab_ctx.specs.cpp_tree.declared.faults.LimitKind.TheVariants.{Frame}
use Rattle.elab_ctx.specs.cpp_tree.declared.faults.IllRule.TheVariants.{Redeclared, TypeDiffers, SafetyDiffers, BadDeclaration, Incomplete, BadMain}
use Rattle.elab_ctx.specs.cpp_tree.declared.faults.IllRule.TheVariants.{OutOfProfile}
use Rattle.elab_ctx.specs.cpp_tree.Trees.{Tree, node, Trees, none, more, one, two}
use Rattle.elab_ctx.specs.cpp_tree.Units.{Param}
use Rattle.elab_ctx.specs.cpp_tree.Notation.{plain}
use Rattle.elab_ctx.specs.cpp_tree.Typing.{unqualified, is_void, is_class_typ}
use Rattle.elab_ctx.specs.declared.env.Label.TheVariants.{Outside}
use Rattle.elab_ctx.specs.Ctx.{Ctx, Func, This, known, with_item, with_variable, next_place}
use Rattle.elab_ctx.specs.Steps.{and_then, check, at_of, spelling}
use Rattle.elab_rules.specs.Values.{number}
use Rattle.elab_rules.specs.Objects.{zeros, followed_by}
use Rattle.elab_rules.specs.Initialising.{func_at, signature_parameters, signature_result}
use Rattle.elab_rules.specs.Operators.{is_complete}
use Rattle.elab_rules.specs.Names.{same_variable}
use Rattle.elab_rules.specs.Sizes.{typ_sized, sized, symbol_length}
use Rattle.elab_rules.specs.Types.{Parameter, Qualifiers, types_of}
use Rattle.elab_rules.specs.Statements.{State, Done, Lambdas, statements_of, statement, is_fresh, next_variable, no_labels}

-- What stands before the type of a declaration
pub record Storage : Type 0 where
  pub is_static : Bool
  pub is_extern : Bool
  pub is_inline : Bool
  pub is_virtual : Bool
  -- it stands behind `extern "C"`
  pub is_c : Bool

abbrev pub no_storage : Storage
no_storage = record { is_static = false; is_extern = false; is_inline = false; is_virtual = false; is_c = false }

abbrev pub with_specifier : Storage → List ℕ → Storage
with_specifier x name = if bytes_eq name (codes "static") then record x { is_static = true } else
    (if bytes_eq name (codes "extern") then record x { is_extern = true } else (
    if bytes_eq name (codes "inline") then record x { is_inline = true } else (if bytes_eq name (codes "virtual") then record x { is_virtual = true } else x)))

abbrev pub safety_of : Qualifiers → Safety
safety_of q = if q.is_dynamic then Dynamic else (if q.is_safe then Safe else NoSafety)

abbrev pub same_safety : Safety → Safety → Bool
same_safety NoSafety NoSafety = true
same_safety Safe Safe = true
same_safety Dynamic Dynamic = true
same_safety _ _ = false

abbrev pub param_of : Parameter → Param
param_of p = record { typ = p.typ; at = p.at }

-- a function as it is declared
pub record Header : Type 0 where
  pub name : List ℕ
  pub at : At
  pub signature : Signature
  pub params : List Parameter
  pub qualifiers : Qualifiers
  pub storage : Storage
  pub kind : FuncKind
  pub class : Option ℕ

abbrev pub function_record : Header → Function
function_record h = record {
  name = h.name;
  signature = h.signature;
  is_const = h.qualifiers.is_const;
  is_virtual = h.storage.is_virtual;
  is_override = false;
  is_final = false;
  pure_virtual = false;
  safety = safety_of h.qualifiers;
  considered = false;
  no_except = h.qualifiers.no_except;
  at = h.at;
}

abbrev pub linkage_of : Storage → Linkage
linkage_of x = if x.is_static then Internal else (if x.is_inline then Inline else External)

abbrev pub new_function : Header → Func
new_function h = record {
  declared = function_record h;
  kind = h.kind;
  class = h.class;
  linkage = linkage_of h.storage;
  implicit = false;
  is_defined = false;
  builtin = None;
  params = map param_of h.params;
  text = [];
  closed_at = 0;
}

abbrev pub same_kind : FuncKind → FuncKind → Bool
same_kind Plain Plain = true
same_kind Constructor Constructor = true
same_kind Destructor Destructor = true
same_kind ClosureCall ClosureCall = true
same_kind _ _ = false

-- the same function: its name, its class, its parameters and `const` (C++14 13.1), and its kind
abbrev pub is_same_function : Header → Func → Bool
is_same_function h f = bytes_eq f.declared.name h.name && same_variable f.class h.class
    && typs_eq (signature_parameters f.declared.signature) (signature_parameters h.signature) && flag_eq f.declared.is_const h.qualifiers.is_const
    && same_kind f.kind h.kind

abbrev pub first_from : (Func → Bool) → ℕ → List Func → Option ℕ
first_from test i [] = None
first_from test i (f ∷ fs) = if test f then Some i else first_from test (suc i) fs

-- a function in its place
pub record Placed : Type 0 where
  pub ctx : Ctx
  pub place : ℕ

abbrev pub is_internal : Linkage → Bool
is_internal Internal = true
is_internal l = false

abbrev pub is_none_typs : Typs → Bool
is_none_typs no_typs = true
is_none_typs ps = false

-- a further declaration agrees with the first
abbrev pub agrees : Header → Func → Bool → Result Bool ElabFault
agrees h f defines = and_then (check h.at TypeDiffers (typ_eq (signature_result f.declared.signature) (signature_result h.signature)))
    (λ a. and_then (check h.at SafetyDiffers (same_safety f.declared.safety (safety_of h.qualifiers))) (λ b.
    and_then (check h.at BadDeclaration (flag_eq f.declared.no_except h.qualifiers.no_except && not (h.storage.is_static && not (is_internal f.linkage))))
    (λ d. check h.at Redeclared (not (defines && (f.is_defined || is_some f.builtin))))))

abbrev pub is_function_entity : EntityKind → Bool
is_function_entity entities.Funcs = true
is_function_entity kind = false

abbrev pub function_named : Ctx → At → List ℕ → Option Entity → Result Ctx ElabFault
function_named c at name None = Ok (record c { scopes = with_name c.scopes name (record { kind = entities.Funcs; id = length c.funcs }) })
function_named c at name (Some e) = and_then (check at Redeclared (is_function_entity e.kind)) (λ y. Ok c)

-- a name at file scope may stand for several functions; a member's is found in its class
abbrev pub name_declared : Ctx → Header → Option ℕ → Result Ctx ElabFault
name_declared c h (Some n) = Ok c
name_declared c h None = function_named c h.at h.name (innermost_of c.scopes h.name)

abbrev pub declared_in : Ctx → Header → Bool → Option ℕ → Result Placed ElabFault
declared_in c h defines (Some i) = and_then (agrees h (func_at c.funcs i) defines) (λ y. Ok (record { ctx = c; place = i }))
declared_in c h defines None = and_then (name_declared c h h.class)
    (λ (d : Ctx). Ok (record { ctx = record d { funcs = d.funcs ++ new_function h ∷ [] }; place = length d.funcs }))

-- `main` (C++14 3.6.1): `int main()`, neither static nor inline
abbrev pub is_main_type : Header → Bool
is_main_type h = typ_eq (signature_result h.signature) (plain (int Int)) && is_none_typs (signature_parameters h.signature) && not h.storage.is_static
    && not h.storage.is_inline

abbrev pub main_fits : Header → Result Bool ElabFault
main_fits h = if bytes_eq h.name (codes "main") && is_none h.class then check h.at BadMain (is_main_type h) else Ok true

abbrev pub may_be_c : Header → Bool
may_be_c h = bytes_eq h.name (codes "putchar") || bytes_eq h.name (codes "getchar")

abbrev pub dynamic_fits : Header → Result Bool ElabFault
dynamic_fits h = if h.qualifiers.is_dynamic && is_none h.class then Err (Override h.at DynamicNotVirtual) else Ok true

-- its type and its symbol are not too long (profile)
abbrev pub header_sized : Ctx → Header → Result Bool ElabFault
header_sized c h = and_then (typ_sized c.classes h.at (plain (func h.signature)))
    (λ x. sized h.at (symbol_length c.classes h.class h.name h.signature h.qualifiers.is_const))

abbrev pub text_sized : At → List ℕ → Result Bool ElabFault
text_sized at text = sized at (length text)

-- a declaration of a function at file scope
abbrev pub function_declared : Ctx → Header → Bool → Result Placed ElabFault
function_declared c h defines = and_then (main_fits h)
    (λ a. and_then (check h.at BadDeclaration (not h.qualifiers.is_const))
    (λ b. and_then (dynamic_fits h) (λ d. and_then (check h.at OutOfProfile (not h.storage.is_c || may_be_c h)) (λ e.
    and_then (header_sized c h) (λ z. declared_in c h defines (first_from (is_same_function h) 0 c.funcs))))))

-- Bodies

abbrev pub word_item : Typ → Typ
word_item t = if is_class_typ t then plain (ptr t) else t

abbrev pub result_items : Typ → List Typ
result_items t = if is_class_typ t then plain (ptr t) ∷ [] else []

abbrev pub this_items : Option Typ → List Typ
this_items (Some t) = plain (ptr t) ∷ []
this_items None = []

abbrev pub this_at : List Typ → Option Typ → Option This
this_at before (Some t) = Some (record { typ = t; place = length before })
this_at before None = None

-- into a function: no names and no variables yet, the words of a call in the frame
abbrev pub entered : State → Typ → Option Typ → Option ℕ → State
entered st r this cls = record {
  ctx = record st.ctx {
    scopes = [] ∷ st.ctx.scopes;
    variables = [];
    this = this_at (result_items r) this;
    class = cls;
    returns = known r;
    breaks = false;
    continues = false;
    label = Outside;
    labels = no_labels (plain void);
    lambda = None;
  };
  work = record st.work { frame = result_items r ++ this_items this };
  bodies = st.bodies;
}

abbrev pub with_parameter : State → List ℕ → Typ → State
with_parameter st name t = record st {
  ctx = with_variable st.ctx name (next_variable st.ctx) (record { typ = Some t; place = next_place st.work });
  work =
      with_item st.work (word_item t);
}

abbrev pub unnamed_parameter : State → Typ → State
unnamed_parameter st t = record st {
  ctx = record st.ctx { variables = st.ctx.variables ++ record { typ = Some t; place = next_place st.work } ∷ [] };
  work =
      with_item st.work (word_item t);
}

abbrev pub parameter_named : List Lexeme → State → Parameter → Option ℕ → Result State ElabFault
parameter_named s st p (Some n) = and_then (check p.at Redeclared (is_fresh st.ctx (spelling s n))) (λ y. Ok (with_parameter st (spelling s n) p.typ))
parameter_named s st p None = Ok (unnamed_parameter st p.typ)

abbrev pub with_parameters : List Lexeme → State → List Parameter → Result State ElabFault
with_parameters s st [] = Ok st
with_parameters s st (p ∷ ps) = and_then (check p.at Incomplete (is_complete st.ctx (held p.typ)))
    (λ y. and_then (parameter_named s st p p.name) (λ (x : State). with_parameters s x ps))

-- the end of a body: zero in every scalar of the result (profile)

abbrev pub void_at : TKind → At → Trees → Tree
void_at kind at kids = node kind (plain void) Prvalue at kids

abbrev mutual
  -- the same without the types of objects: none is constructed
  pub untyped : Tree → Tree
  untyped (node (forms.Literal w) t cat at kids) = node (forms.Literal w) t cat at kids
  untyped (node kind t cat at kids) = void_at kind at (all_untyped kids)

  pub all_untyped : Trees → Trees
  all_untyped none = none
  all_untyped (more t ts) = more (untyped t) (all_untyped ts)

abbrev pub zero_result : Typ → At → Tree
zero_result (typ (ref t) c v) at = number ULong 0 at
zero_result t at = node (forms.Literal 0) (unqualified t) Prvalue at none

abbrev pub result_zeroed : Ctx → Typ → At → Tree
result_zeroed c t at = void_at forms.Init at (two (void_at (forms.Load ULong false) at
    (one (node (forms.Local 0) (plain (ptr t)) Lvalue at none))) (untyped (zeros c.classes at t)))

abbrev pub end_of : Ctx → Typ → At → Trees
end_of c t at = if is_void t then none else (if is_class_typ t then two (result_zeroed c t at) (void_at forms.Return at none) else one
    (void_at forms.Return at (one (zero_result t at))))

abbrev pub within_frame : Ctx → At → List Typ → Result Bool ElabFault
within_frame c at items = if nat_le (frame_size (map (extent_of c.classes) items)) GREATEST_FRAME then Ok true else Err (Limit at Frame)

-- behind a function: what stands around it is known as before, and its lambdas and strings stay
abbrev pub leaving : State → State → State
leaving before st = record {
  ctx = record before.ctx { classes = st.ctx.classes; traits = st.ctx.traits; slots = st.ctx.slots; funcs = st.ctx.funcs };
  work =
      record st.work { frame = before.work.frame };
  bodies = st.bodies;
}

abbrev pub body_made : State → At → ℕ → Tree → State → Result State ElabFault
body_made before at place tree st = and_then (within_frame st.ctx at st.work.frame)
    (λ y. Ok (record (leaving before st) { bodies = st.bodies ++ record { func = place; tree = tree; frame = st.work.frame } ∷ [] }))

-- a function is defined with the parameters that its declarator writes, not through another name of its type (8.3.5 p10)
abbrev pub defines_well : Header → Result Bool ElabFault
defines_well h = check h.at BadDeclaration (typs_eq (types_of h.params) (signature_parameters h.signature))

-- a body in the scope of the parameters
abbrev pub function_body : Lambdas → List Lexeme → State → Header → Option Typ → ℕ → syntax.Tree → Result State ElabFault
function_body lams s st h this place (syntax.node kind p token kids) =
    and_then (check h.at Incomplete (is_complete st.ctx (held (signature_result h.signature))))
    (λ x. and_then (with_parameters s (entered st (signature_result h.signature) this h.class) h.params) (λ (e : State).
    and_then (statements_of lams s e kids) (λ (d : Done). body_made st h.at place
    (statement (forms.Block false) (at_of p) (followed_by d.trees (end_of d.state.ctx (signature_result h.signature) (at_of p)))) d.state)))

-- Definition texts: the spellings of the tokens, joined by blanks

abbrev pub joined : List Lexeme → List ℕ
joined [] = []
joined (t ∷ []) = t.bytes
joined (t ∷ ts) = t.bytes ++ 32 ∷ joined ts

abbrev pub text_between : List Lexeme → ℕ → ℕ → List ℕ
text_between s first last = joined (slice_range s first (suc last))

abbrev pub defined_function : Func → Header → List ℕ → ℕ → Func
defined_function f h text closed = record f { is_defined = true; params = map param_of h.params; text = text; closed_at = closed }

abbrev pub with_definition : Ctx → ℕ → Header → List ℕ → ℕ → Ctx
with_definition c i h text closed = record c { funcs = slice_set c.funcs i (defined_function (func_at c.funcs i) h text closed) }
