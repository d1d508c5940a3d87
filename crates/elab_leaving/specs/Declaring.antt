-- The declarations of a unit in the order of the text, as the code makes them: bodies and lambdas with what stands round a function put back as elab_entry does
-- it.
use Rattle.std.specs.Prelude.{ℕ, Bool, true, false, Some, None, List, Result, Ok, Err}
use Rattle.elab_rules.specs.cpp_types.Typ.{Typ, Form, func}
use Rattle.elab_rules.specs.cpp_types.declared.classes.At.{At}
use Rattle.elab_rules.specs.cpp_lex.Tokens.{Lexeme}
use Rattle.elab_rules.specs.cpp_ast.declared.kinds.NodeKind.TheVariants as k
use Rattle.elab_rules.specs.cpp_ast.Trees as syntax
use Rattle.elab_rules.specs.cpp_tree.declared.program.FuncKind.TheVariants.{Plain, Constructor, Destructor}
use Rattle.elab_rules.specs.cpp_tree.declared.faults.ElabFault.{ElabFault}
use Rattle.elab_rules.specs.cpp_tree.declared.faults.ElabFault.TheVariants.{Ill}
use Rattle.elab_rules.specs.cpp_tree.declared.faults.IllRule.TheVariants.{BadDeclaration, OutOfProfile}
use Rattle.elab_rules.specs.cpp_tree.Typing.{form_in}
use Rattle.elab_rules.specs.elab_ctx.Steps.{and_then, check, at_of, spelling}
use Rattle.elab_rules.specs.Types.{Declared}
use Rattle.elab_rules.specs.Strings.{string_bytes}
use Rattle.elab_rules.specs.Expressions.{type_of_specifiers, declared_by}
use Rattle.elab_rules.specs.Statements.{State, is_own_name}
use Rattle.elab_rules.specs.Functions.{Storage, Header, Placed, function_declared, with_definition, text_sized, defines_well}
use Rattle.elab_rules.specs.Classes.{Started, started_from}
use Rattle.elab_rules.specs.Members.{declared_only}
use Rattle.elab_rules.specs.Globals.{enum_declared}
use Rattle.elab_rules.specs.Units.{header_of, declared_of_type, file_declarators, file_declaration, definition_text, closing_offset, is_qualified, alias_of}
use Rattle.elab_rules.specs.Units.{is_c}
use Rattle.elab_entry.specs.Bodies.{function_body}
use Rattle.elab_lambdas.specs.Whole.{lambdas_of}
use Rattle.elab_members.specs.Outside.{member_defined}
use Rattle.elab_members.specs.Whole.{class_defined}

-- Parts of the rules that these write in line

-- the header of a function at file scope, where its type is that of a function
abbrev pub file_header : List Lexeme → At → Storage → Declared → Form → Result Header ElabFault
file_header s at x d (func sig) = Ok (header_of s at x d sig)
file_header s at x d f = Err (Ill at BadDeclaration)

abbrev pub has_trees : syntax.Trees → Bool
has_trees syntax.none = false
has_trees (syntax.more t ts) = true

-- a function that is only declared
abbrev pub only_declared : State → Header → Result State ElabFault
only_declared st h = and_then (function_declared st.ctx h false) (λ (p : Placed). Ok (record st { ctx = p.ctx }))

-- what a declarator with its initialiser declares
abbrev pub declarator_by : List Lexeme → Storage → Typ → State → At → syntax.Trees → Result State ElabFault
declarator_by s x t st at (syntax.more d init) = and_then (declared_by s st.ctx st.work at t d)
    (λ (r : Declared). and_then (check at BadDeclaration (is_own_name r)) (λ z. declared_of_type s st x at r init (form_in r.typ)))
declarator_by s x t st at syntax.none = Err (Ill at OutOfProfile)

-- the declarators behind a type
abbrev pub file_typed : List Lexeme → State → Storage → At → syntax.Trees → Result State ElabFault
file_typed s st x at (syntax.more (syntax.node k.TypeSpecifierSeq p token kids) ts) =
    and_then (type_of_specifiers s st.ctx st.work (syntax.node k.TypeSpecifierSeq p token kids)) (λ (t : Typ). file_declarators s x t st ts)
file_typed s st x at ts = Err (Ill at OutOfProfile)

abbrev pub file_started : List Lexeme → State → At → Started → Result State ElabFault
file_started s st at z = file_typed s st z.storage at z.rest

abbrev pub is_function_form : Form → Bool
is_function_form (func sig) = true
is_function_form f = false

-- the words before declarations behind `extern "C"`
abbrev pub c_words : Storage → Bool → Storage
c_words x true = record x { is_c = true }
c_words x false = record x { is_c = true; is_extern = true }

-- A function with its body

abbrev pub defined_with : List Lexeme → State → Storage → At → ℕ → Declared → syntax.Tree → Form → Result State ElabFault
defined_with s st x at first d body (func sig) = and_then (text_sized at (definition_text s x first body))
    (λ y. and_then (defines_well (header_of s at x d sig)) (λ z. and_then (function_declared st.ctx (header_of s at x d sig) true) (λ (p : Placed).
    function_body lambdas_of s (record st {
      ctx = with_definition p.ctx p.place (header_of s at x d sig) (definition_text s x first body)
          (closing_offset s body);
    }) (header_of s at x d sig) None p.place body)))
defined_with s st x at first d body f = Err (Ill at BadDeclaration)

-- the same as steps
abbrev pub body_with : List Lexeme → State → ℕ → syntax.Tree → Header → Placed → Result State ElabFault
body_with s st first body h p = function_body lambdas_of s
    (record st { ctx = with_definition p.ctx p.place h (definition_text s h.storage first body) (closing_offset s body) }) h None p.place body

abbrev pub defined_header : List Lexeme → State → ℕ → syntax.Tree → Header → Result State ElabFault
defined_header s st first body h = and_then (defines_well h) (λ z. and_then (function_declared st.ctx h true) (λ (p : Placed). body_with s st first body h p))

abbrev pub defined_steps : List Lexeme → State → Storage → At → ℕ → Declared → syntax.Tree → Form → Result State ElabFault
defined_steps s st x at first d body f = and_then (text_sized at (definition_text s x first body))
    (λ y. and_then (file_header s at x d f) (λ (h : Header). defined_header s st first body h))

-- three trees
abbrev pub are_three : syntax.Trees → Bool
are_three (syntax.more a (syntax.more b (syntax.more c syntax.none))) = true
are_three ts = false

-- What the definition of a function declares: a member, where its declarator names a class
abbrev pub defined_by : List Lexeme → State → Storage → syntax.Trees → Storage → At → ℕ → Declared → syntax.Tree → Bool → Result State ElabFault
defined_by s st known whole x at first r body true = member_defined lambdas_of s known st at Plain first whole
defined_by s st known whole x at first r body false = defined_with s st x at first r body (form_in r.typ)

-- the same behind its type and its declarator
abbrev pub defined_typed : List Lexeme → State → Storage → syntax.Trees → Storage → At → ℕ → syntax.Trees → Result State ElabFault
defined_typed s st known whole x at first (syntax.more base (syntax.more d (syntax.more body syntax.none))) =
    and_then (type_of_specifiers s st.ctx st.work base)
    (λ (t : Typ). and_then (declared_by s st.ctx st.work at t d) (λ (r : Declared). defined_by s st known whole x at first r body (is_qualified r)))
defined_typed s st known whole x at first ts = Err (Ill at OutOfProfile)

abbrev pub defined_started : List Lexeme → State → Storage → syntax.Trees → At → ℕ → Started → Result State ElabFault
defined_started s st known whole at first z = defined_typed s st known whole z.storage at first z.rest

abbrev pub function_defined : List Lexeme → State → Storage → At → ℕ → syntax.Trees → Result State ElabFault
function_defined s st x at first kids = defined_started s st x kids at first (started_from s x kids)

-- Declarations

-- the language behind `extern` is C
abbrev pub c_checked : List Lexeme → At → ℕ → Result Bool ElabFault
c_checked s at t = check at OutOfProfile (is_c (string_bytes (spelling s t)))

abbrev mutual
  pub declaration_of : List Lexeme → Storage → State → syntax.Tree → Result State ElabFault
  declaration_of s x st (syntax.node k.EmptyDeclaration p token kids) = Ok st
  declaration_of s x st (syntax.node k.AliasDeclaration p (Some t) kids) = alias_of s st (at_of p) (spelling s t) kids
  declaration_of s x st (syntax.node k.EnumSpecifier p (Some t) kids) = enum_declared s st (at_of p) (spelling s t) kids
  declaration_of s x st (syntax.node k.SimpleDeclaration p token kids) = file_declaration s st x (at_of p) kids
  declaration_of s x st (syntax.node k.FunctionDefinition p (Some t) kids) = function_defined s st x (at_of p) t kids
  declaration_of s x st (syntax.node k.LinkageSpecification p (Some t) kids) =
      and_then (c_checked s (at_of p) t) (λ y. declarations_of s (c_words x false) st kids)
  declaration_of s x st (syntax.node k.LinkageBlock p (Some t) kids) = and_then (c_checked s (at_of p) t) (λ y. declarations_of s (c_words x true) st kids)
  declaration_of s x st (syntax.node k.ClassDeclaration p (Some t) kids) = declared_only st (at_of p) (spelling s t)
  declaration_of s x st (syntax.node k.ClassSpecifier p (Some t) kids) = class_defined lambdas_of s st (at_of p) (spelling s t) kids
  declaration_of s x st (syntax.node k.ConstructorDefinition p (Some t) kids) = member_defined lambdas_of s x st (at_of p) Constructor t kids
  declaration_of s x st (syntax.node k.DestructorDefinition p (Some t) kids) = member_defined lambdas_of s x st (at_of p) Destructor t kids
  declaration_of s x st (syntax.node kind p token kids) = Err (Ill (at_of p) OutOfProfile)

  pub declarations_of : List Lexeme → Storage → State → syntax.Trees → Result State ElabFault
  declarations_of s x st syntax.none = Ok st
  declarations_of s x st (syntax.more t ts) = and_then (declaration_of s x st t) (λ (y : State). declarations_of s x y ts)
