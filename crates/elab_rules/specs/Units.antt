-- The declarations of a unit in the order of the text (C++14 3.5, clause 7).
use Rattle.std.specs.Prelude.{ℕ, Bool, true, false, List, [], ◌∷◌, Option, Some, None, is_some, Result, Ok, Err, if◌then◌else◌, codes, slice_get}
use Rattle.std.specs.Str.{bytes_eq}
use Rattle.elab_ctx.specs.tx_ints.declared.kinds.IntKind.TheVariants.{Int, Long}
use Rattle.elab_ctx.specs.cpp_types.Typ.{Typ, Form, void, int, ptr, func, Signature, signature, Typs, none as no_typs, more as and_typ}
use Rattle.elab_ctx.specs.cpp_types.declared.classes.At.{At}
use Rattle.elab_ctx.specs.cpp_lex.Tokens.{Lexeme}
use Rattle.elab_ctx.specs.cpp_ast.declared.kinds.NodeKind.TheVariants as k
use Rattle.elab_ctx.specs.cpp_ast.Trees as syntax
use Rattle.elab_ctx.specs.cpp_names.declared.entity.EntityKind.TheVariants as entities
use Rattle.elab_ctx.specs.cpp_tree.declared.kinds.Builtin.{Builtin}
use Rattle.elab_ctx.specs.cpp_tree.declared.kinds.Builtin.TheVariants.{PutChar, GetChar, Spawn, Join}
use Rattle.elab_ctx.specs.cpp_tree.declared.program.FuncKind.TheVariants.{Plain, Constructor, Destructor}
use Rattle.elab_ctx.specs.cpp_tree.declared.faults.ElabFault.{ElabFault}
use Rattle.elab_ctx.specs.cpp_tree.declared.faults.ElabFault.TheVariants.{Ill}
use Rattle.elab_ctx.specs.cpp_tree.declared.faults.IllRule.TheVariants.{BadDeclaration, OutOfProfile}
use Rattle.elab_ctx.specs.cpp_tree.Notation.{plain}
use Rattle.elab_ctx.specs.cpp_tree.Typing.{form_in}
use Rattle.elab_ctx.specs.declared.env.Label.TheVariants.{Outside}
use Rattle.elab_ctx.specs.Ctx.{Func, known}
use Rattle.elab_ctx.specs.Steps.{and_then, check, each_of, at_of, spelling}
use Rattle.elab_rules.specs.Initialising.{no_function}
use Rattle.elab_rules.specs.Types.{Declared}
use Rattle.elab_rules.specs.Strings.{string_bytes}
use Rattle.elab_rules.specs.Expressions.{type_of_specifiers, type_id_of, declared_by}
use Rattle.elab_rules.specs.Statements.{State, is_own_name, name_of, no_labels, bound_by_initialiser}
use Rattle.elab_rules.specs.Functions.{Storage, no_storage, with_specifier, Header, Placed, function_declared, function_body, with_definition, text_between}
use Rattle.elab_rules.specs.Functions.{text_sized, defines_well}
use Rattle.elab_rules.specs.Members.{member_defined, declared_only, class_defined}
use Rattle.elab_rules.specs.Lambdas.{lambdas_of}
use Rattle.elab_rules.specs.Implicit.{with_implied}
use Rattle.elab_rules.specs.Globals.{global_declared, alias_declared, enum_declared}

-- What every unit knows (profile)

abbrev pub builtin : Builtin → List ℕ → Typs → Typ → Func
builtin b name ps r = record no_function { declared = record no_function.declared { name = name; signature = signature ps r false }; builtin = Some b }

abbrev pub int_typ : Typ
int_typ = plain (int Int)

abbrev pub thread_function : Typ
thread_function = plain (ptr (plain (func (signature (and_typ (plain (int Long)) no_typs) (plain void) false))))

abbrev pub builtins : List Func
builtins = builtin PutChar (codes "putchar") (and_typ int_typ no_typs) int_typ ∷ builtin GetChar (codes "getchar") no_typs int_typ
    ∷ builtin Spawn (codes "__txcc_spawn") (and_typ thread_function (and_typ (plain (int Long)) no_typs)) int_typ
    ∷ builtin Join (codes "__txcc_join") (and_typ int_typ no_typs) (plain void) ∷ []

abbrev pub start : ℕ → State
start source = record {
  ctx = record {
    source = source;
    scopes = ((codes "putchar", record { kind = entities.Funcs; id = 0 }) ∷ (codes "getchar", record { kind = entities.Funcs; id = 1 }) ∷
        (codes "__txcc_spawn", record { kind = entities.Funcs; id = 2 }) ∷ (codes "__txcc_join", record { kind = entities.Funcs; id = 3 }) ∷ []) ∷ [];
    types = [];
    classes = [];
    traits = [];
    slots = [];
    defaults = [];
    funcs = builtins;
    enumerators = [];
    variables = [];
    this = None;
    class = None;
    returns = known (plain void);
    breaks = false;
    continues = false;
    label = Outside;
    labels = no_labels (plain void);
    lambda = None;
    closures = [];
  };
  work = record { frame = []; globals = [] };
  bodies = [];
}

-- Declarations

abbrev pub header_of : List Lexeme → At → Storage → Declared → Signature → Header
header_of s at x d sig = record {
  name = name_of s d.name;
  at = at;
  signature = sig;
  params = d.params;
  qualifiers = d.qualifiers;
  storage = x;
  kind = Plain;
  class = None;
}

abbrev pub declared_of_type : List Lexeme → State → Storage → At → Declared → syntax.Trees → Form → Result State ElabFault
declared_of_type s st x at d syntax.none (func sig) =
    and_then (function_declared st.ctx (header_of s at x d sig) false) (λ (p : Placed). Ok (record st { ctx = p.ctx }))
declared_of_type s st x at d init (func sig) = Err (Ill at BadDeclaration)
declared_of_type s st x at d init f = global_declared s st x at (name_of s d.name) (bound_by_initialiser s d.typ init) init

abbrev pub file_declarator : List Lexeme → Storage → Typ → State → syntax.Tree → Result State ElabFault
file_declarator s x t st (syntax.node k.InitDeclarator p token (syntax.more d init)) =
    and_then (declared_by s st.ctx st.work (at_of p) t d)
    (λ (r : Declared). and_then (check (at_of p) BadDeclaration (is_own_name r)) (λ z. declared_of_type s st x (at_of p) r init (form_in r.typ)))
file_declarator s x t st (syntax.node kind p token kids) = Err (Ill (at_of p) OutOfProfile)

abbrev pub file_declarators : List Lexeme → Storage → Typ → State → syntax.Trees → Result State ElabFault
file_declarators s x t = each_of (file_declarator s x t)

abbrev pub file_declaration : List Lexeme → State → Storage → At → syntax.Trees → Result State ElabFault
file_declaration s st x at (syntax.more (syntax.node k.Attribute p token kids) ts) = file_declaration s st x at ts
file_declaration s st x at (syntax.more (syntax.node k.DeclSpecifier p (Some t) kids) ts) = file_declaration s st (with_specifier x (spelling s t)) at ts
file_declaration s st x at (syntax.more (syntax.node k.TypeSpecifierSeq p token kids) ts) =
    and_then (type_of_specifiers s st.ctx st.work (syntax.node k.TypeSpecifierSeq p token kids)) (λ (t : Typ). file_declarators s x t st ts)
file_declaration s st x at ts = Err (Ill at OutOfProfile)

-- the token behind which a body ends
abbrev pub brace_of : syntax.Tree → ℕ
brace_of (syntax.node kind p (Some t) kids) = t
brace_of (syntax.node kind p None kids) = 0

abbrev pub definition_text : List Lexeme → Storage → ℕ → syntax.Tree → List ℕ
definition_text s x first body = if x.is_inline then text_between s first (brace_of body) else []

abbrev pub token_end : Option Lexeme → ℕ
token_end (Some l) = l.to
token_end None = 0

abbrev pub closing_offset : List Lexeme → syntax.Tree → ℕ
closing_offset s body = token_end (slice_get s (brace_of body))

abbrev pub defined_with : List Lexeme → State → Storage → At → ℕ → Declared → syntax.Tree → Form → Result State ElabFault
defined_with s st x at first d body (func sig) = and_then (text_sized at (definition_text s x first body))
    (λ y. and_then (defines_well (header_of s at x d sig)) (λ z. and_then (function_declared st.ctx (header_of s at x d sig) true) (λ (p : Placed).
    function_body lambdas_of s (record st {
      ctx = with_definition p.ctx p.place (header_of s at x d sig) (definition_text s x first body)
          (closing_offset s body);
    }) (header_of s at x d sig) None p.place body)))
defined_with s st x at first d body f = Err (Ill at BadDeclaration)

abbrev pub is_qualified : Declared → Bool
is_qualified d = is_some d.owner

abbrev pub defined_by : List Lexeme → State → syntax.Trees → Storage → At → ℕ → Declared → syntax.Tree → Bool → Result State ElabFault
defined_by s st whole x at first r body true = member_defined lambdas_of s x st at Plain first whole
defined_by s st whole x at first r body false = defined_with s st x at first r body (form_in r.typ)

abbrev pub function_defined : List Lexeme → State → syntax.Trees → Storage → At → ℕ → syntax.Trees → Result State ElabFault
function_defined s st whole x at first (syntax.more (syntax.node k.Attribute p token kids) ts) = function_defined s st whole x at first ts
function_defined s st whole x at first (syntax.more (syntax.node k.DeclSpecifier p (Some t) kids) ts) =
    function_defined s st whole (with_specifier x (spelling s t)) at first ts
function_defined s st whole x at first (syntax.more base (syntax.more d (syntax.more body syntax.none))) =
    and_then (type_of_specifiers s st.ctx st.work base) (λ (t : Typ). and_then (declared_by s st.ctx st.work at t d) (λ (r : Declared).
    defined_by s st whole x at first r body (is_qualified r)))
function_defined s st whole x at first ts = Err (Ill at OutOfProfile)

abbrev pub alias_of : List Lexeme → State → At → List ℕ → syntax.Trees → Result State ElabFault
alias_of s st at name (syntax.more t ts) = and_then (type_id_of s st.ctx st.work t) (λ (u : Typ). alias_declared st at name u)
alias_of s st at name syntax.none = Err (Ill at OutOfProfile)

abbrev pub is_c : List ℕ → Bool
is_c name = bytes_eq name (codes "C")

abbrev mutual
  pub declaration_of : List Lexeme → Storage → State → syntax.Tree → Result State ElabFault
  declaration_of s x st (syntax.node k.EmptyDeclaration p token kids) = Ok st
  declaration_of s x st (syntax.node k.AliasDeclaration p (Some t) kids) = alias_of s st (at_of p) (spelling s t) kids
  declaration_of s x st (syntax.node k.EnumSpecifier p (Some t) kids) = enum_declared s st (at_of p) (spelling s t) kids
  declaration_of s x st (syntax.node k.SimpleDeclaration p token kids) = file_declaration s st x (at_of p) kids
  declaration_of s x st (syntax.node k.FunctionDefinition p (Some t) kids) = function_defined s st kids x (at_of p) t kids
  declaration_of s x st (syntax.node k.LinkageSpecification p (Some t) kids) =
      and_then (check (at_of p) OutOfProfile (is_c (string_bytes (spelling s t)))) (λ y. declarations_of s (record x { is_c = true; is_extern = true }) st kids)
  declaration_of s x st (syntax.node k.LinkageBlock p (Some t) kids) =
      and_then (check (at_of p) OutOfProfile (is_c (string_bytes (spelling s t)))) (λ y. declarations_of s (record x { is_c = true }) st kids)
  declaration_of s x st (syntax.node k.ClassDeclaration p (Some t) kids) = declared_only st (at_of p) (spelling s t)
  declaration_of s x st (syntax.node k.ClassSpecifier p (Some t) kids) = class_defined lambdas_of s st (at_of p) (spelling s t) kids
  declaration_of s x st (syntax.node k.ConstructorDefinition p (Some t) kids) = member_defined lambdas_of s x st (at_of p) Constructor t kids
  declaration_of s x st (syntax.node k.DestructorDefinition p (Some t) kids) = member_defined lambdas_of s x st (at_of p) Destructor t kids
  declaration_of s x st (syntax.node kind p token kids) = Err (Ill (at_of p) OutOfProfile)

  pub declarations_of : List Lexeme → Storage → State → syntax.Trees → Result State ElabFault
  declarations_of s x st syntax.none = Ok st
  declarations_of s x st (syntax.more t ts) = and_then (declaration_of s x st t) (λ (y : State). declarations_of s x y ts)

-- the declarations of a unit in order, and the bodies of the implicit members to which they refer
abbrev pub unit_from : List Lexeme → State → syntax.Trees → Result State ElabFault
unit_from s st decls = and_then (declarations_of s no_storage st decls) with_implied

abbrev pub unit_of : List Lexeme → ℕ → syntax.Trees → Result State ElabFault
unit_of s source decls = unit_from s (start source) decls
