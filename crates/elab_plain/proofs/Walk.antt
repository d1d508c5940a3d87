-- Each declaration, with its bodies and lambdas and with implicit members, declares plainly.
use Rattle.std.proofs.Common.{ℕ, true, ◌&&◌, List, Option, Some, None, slice_get}
use Rattle.std.specs.List.{list_any}
use Rattle.elab_rules.specs.cpp_types.Typ.{Form, func}
use Rattle.elab_rules.specs.cpp_types.declared.classes.At.{At}
use Rattle.elab_rules.specs.cpp_lex.Tokens.{Lexeme}
use Rattle.elab_rules.specs.cpp_ast.declared.kinds.NodeKind.TheVariants as k
use Rattle.elab_rules.specs.cpp_ast.Trees as syntax
use Rattle.elab_rules.specs.cpp_tree.declared.program.FuncKind.{FuncKind}
use Rattle.elab_rules.specs.cpp_tree.declared.program.FuncKind.TheVariants.{Plain, Constructor, Destructor}
use Rattle.elab_rules.specs.cpp_tree.declared.faults.IllRule.TheVariants.{TypeDiffers, BadDeclaration, NoMember}
use Rattle.elab_rules.specs.elab_ctx.Ctx.{Ctx, Func}
use Rattle.elab_rules.specs.elab_ctx.Steps.{expect, check, at_of}
use Rattle.elab_rules.specs.Initialising.{func_at, signature_parameters}
use Rattle.elab_rules.specs.Types.{Declared}
use Rattle.elab_rules.specs.Statements.{State}
use Rattle.elab_rules.specs.Functions
use Rattle.elab_rules.specs.Functions.{Storage, Header, Placed}
use Rattle.elab_rules.specs.Classes
use Rattle.elab_rules.specs.Classes.{Method, Started}
use Rattle.elab_rules.specs.Members
use Rattle.elab_rules.specs.Implicit
use Rattle.elab_rules.specs.Lambdas.{lambdas_of}
use Rattle.elab_rules.specs.Units
use Rattle.elab_places.specs.Bodies.{DefaultsOwn}
use Rattle.elab_places.proofs.Steps.{On, bind, skip, either}
use Rattle.elab_places.proofs.Walks.{Walks}
use Rattle.elab_places.proofs.Declarations as declarations
use Rattle.elab_places.proofs.DefaultsKept as kept
use Rattle.elab_plain.specs.Plain.{RoundPlain}
use Rattle.elab_plain.proofs.Declaring.{StatePlain}
use Rattle.elab_plain.proofs.Bodies.{function_plain}
use Rattle.elab_plain.proofs.Constructors.{constructor_plain, destructor_plain}
use Rattle.elab_plain.proofs.Implied.{implied_plain}
use Rattle.elab_plain.proofs.Lambdas.{lambdas_plain}
use Rattle.elab_plain.proofs.Defaults.{defaults_plain}

abbrev Known : Ctx → Type 0
Known c = DefaultsOwn c.defaults

abbrev PlacedKnown : Placed → Type 0
PlacedKnown p = DefaultsOwn p.ctx.defaults

-- Definitions of functions

defined_with : (s : List Lexeme) (st : State) (x : Storage) (at : At) (first : ℕ) (d : Declared) (body : syntax.Tree) (f : Form) → StatePlain st
    → On StatePlain (Units.defined_with s st x at first d body f)
defined_with s st x at first d body (func sig) own = skip StatePlain (Functions.text_sized at (Units.definition_text s x first body)) _
    (λ y. skip StatePlain (Functions.defines_well (Units.header_of s at x d sig)) _
    (λ z. bind PlacedKnown StatePlain (Functions.function_declared st.ctx (Units.header_of s at x d sig) true) _
    (kept.function_declared st.ctx (Units.header_of s at x d sig) true own.defaults)
    (λ p h. function_plain lambdas_of lambdas_plain s (record st {
      ctx = Functions.with_definition p.ctx p.place (Units.header_of s at x d sig) (Units.definition_text s x first body) (Units.closing_offset s body);
    }) (Units.header_of s at x d sig) None p.place body (record { defaults = h; bodies = own.bodies }))))
defined_with s st x at first d body f own = tt

-- Members

kind_body : (s : List Lexeme) (st : State) (n f : ℕ) (kind : FuncKind) (m : Method) (t : syntax.Tree) → StatePlain st
    → On StatePlain (Members.body_by_kind lambdas_of s st n f kind m t)
kind_body s st n f Constructor m t own = constructor_plain lambdas_of lambdas_plain s st m.header n f m.rest t own
kind_body s st n f Destructor m t own = destructor_plain lambdas_of lambdas_plain s st m.header n f t own
kind_body s st n f kind m t own = function_plain lambdas_of lambdas_plain s st m.header (Some (Members.this_type n m.header)) f t own

method_body : (s : List Lexeme) (st : State) (n f : ℕ) (kind : FuncKind) (m : Method) (t : syntax.Tree) → StatePlain st
    → On StatePlain (Members.method_body lambdas_of s st n f kind m t)
method_body s st n f kind m t own = skip StatePlain (Functions.defines_well m.header) _ (λ y. kind_body s st n f kind m t own)

read_again : (c : Ctx) (f : ℕ) (h : Header) (closed : ℕ) → Known c → On Known (Members.late_kept c f h closed)
read_again c f h closed own = skip Known (Members.late_agrees h closed (func_at c.funcs f)) _ (λ y. own)

late_method : (s : List Lexeme) (st : State) (n : ℕ) (kind : FuncKind) (m : Method) (o : Option syntax.Tree) → StatePlain st
    → On StatePlain (Members.late_method lambdas_of s st n kind m o)
late_method s st n kind m (Some body) own = skip StatePlain (Members.place_of_header st.ctx m.header) _
    (λ f. bind Known StatePlain (Members.late_kept st.ctx f m.header (Classes.token_end (slice_get s (Classes.last_token (Some body))))) _
    (read_again st.ctx f m.header (Classes.token_end (slice_get s (Classes.last_token (Some body)))) own.defaults)
    (λ c h. method_body s (record st { ctx = c }) n f kind m body (record { defaults = h; bodies = own.bodies })))
late_method s st n kind m None own = own

late_function : (s : List Lexeme) (st : State) (n : ℕ) (name : List ℕ) (at : At) (kind : FuncKind) (kids : syntax.Trees)
    → StatePlain st → On StatePlain (Members.late_function lambdas_of s st n name at kind kids)
late_function s st n name at kind kids own = skip StatePlain (Classes.method_of s st n name at kind kids) _
    (λ (m : Method). late_method s st n kind m (Classes.body_in kids) own)

late_of : (s : List Lexeme) (n : ℕ) (name : List ℕ) (st : State) (t : syntax.Tree) → StatePlain st
    → On StatePlain (Members.late_of lambdas_of s n name st t)
late_of s n name st (syntax.node k.FunctionDefinition p token kids) own = late_function s st n name (at_of p) Plain kids own
late_of s n name st (syntax.node k.ConstructorDefinition p token kids) own = late_function s st n name (at_of p) Constructor kids own
late_of s n name st (syntax.node k.DestructorDefinition p token kids) own = late_function s st n name (at_of p) Destructor kids own
late_of s n name st t own = own

-- Members outside

outside_body : (s : List Lexeme) (st : State) (n : ℕ) (kind : FuncKind) (first : ℕ) (m : Method) (body : syntax.Tree)
    → StatePlain st → On StatePlain (Members.outside_body lambdas_of s st n kind first m body)
outside_body s st n kind first m body own =
    skip StatePlain (Functions.text_sized m.header.at (Members.outside_text s m.header.storage first (Classes.last_token (Some body)))) _
    (λ v. skip StatePlain (Members.outside_words m.header) _ (λ w.
    skip StatePlain (check m.header.at NoMember (list_any (Members.is_member_named n m.header.name) st.ctx.funcs)) _
    (λ x. skip StatePlain (expect m.header.at TypeDiffers (Functions.first_from (Functions.is_same_function m.header) 0 st.ctx.funcs)) _
    (λ f. skip StatePlain (Members.outside_agrees m.header (func_at st.ctx.funcs f)) _
    (λ y. method_body s
    (record st { ctx = Members.outside_defined s st.ctx f m.header first (Classes.last_token (Some body)) }) n f kind m body
    (record { defaults = own.defaults; bodies = own.bodies }))))))

outside_with : (s : List Lexeme) (st : State) (at : At) (kind : FuncKind) (first : ℕ) (m : Method)
    (o : Option syntax.Tree) → StatePlain st → On StatePlain (Members.outside_with lambdas_of s st at kind first m o)
outside_with s st at kind first m (Some body) own = skip StatePlain (expect at BadDeclaration m.header.class) _
    (λ n. outside_body s st n kind first m body own)
outside_with s st at kind first m None own = tt

outside_started : (s : List Lexeme) (st : State) (at : At) (kind : FuncKind) (first : ℕ) (o : Option syntax.Tree)
    (x : Started) → StatePlain st → On StatePlain (Members.outside_started lambdas_of s st at kind first o x)
outside_started s st at kind first o x own = skip StatePlain (Members.outside_method s st at x.storage kind x.rest) _
    (λ (m : Method). outside_with s st at kind first m o own)

member_defined : (s : List Lexeme) (x : Storage) (st : State) (at : At) (kind : FuncKind) (first : ℕ)
    (kids : syntax.Trees) → StatePlain st → On StatePlain (Members.member_defined lambdas_of s x st at kind first kids)
member_defined s x st at kind first kids own =
    outside_started s st at kind first (Classes.body_in kids) (Classes.started_from s x kids) own

-- Implicit members

implied_of : (st : State) (i : ℕ) (f : Func) (o : Option ℕ) → StatePlain st → On StatePlain (Implicit.implied_of st i f o)
implied_of st i f (Some n) own = implied_plain st f.declared.at i n f.kind (signature_parameters f.declared.signature) own
implied_of st i f None own = own

implied : (st : State) (i : ℕ) → StatePlain st → On StatePlain (Implicit.implied st i)
implied st i own = either StatePlain ((func_at st.ctx.funcs i).implicit && Implicit.is_referred st i) _ _
    (implied_of st i (func_at st.ctx.funcs i) (func_at st.ctx.funcs i).class own) own

-- A unit

walks : Walks RoundPlain
walks = record {
  declared = λ r h e f own. record { defaults = own.defaults; bodies = own.bodies };
  defined = λ s st x at first d body f own. defined_with s st x at first d body f own;
  member = λ r n of h m o d i own. record { defaults = own.defaults; bodies = own.bodies };
  completed = λ bodies c home at ms is own. record { defaults = kept.completed c home at ms is own.defaults; bodies = own.bodies };
  defaults = λ s n st ts own. defaults_plain s n st ts own;
  late = λ s n name st t own. late_of s n name st t own;
  outside = λ s x st at of first kids own. member_defined s x st at of first kids own;
}

pub unit_plain : (s : List Lexeme) (st : State) (ts : syntax.Trees) → StatePlain st → On StatePlain (Units.unit_from s st ts)
unit_plain s st ts own = declarations.unit RoundPlain walks implied s st ts own
