-- Whole units as the code makes them are those of the definitions.
use Rattle.std.proofs.Common.{◌≡◌, ℕ, suc, Bool, true, false, List, [], ◌∷◌, refl, sym, ap, ◌∙◌, subst, Option, Some, None}
use Rattle.std.proofs.Math.Path.{fun_ext}
use Rattle.elab_rules.specs.cpp_types.Typ.{Typ, Form, func}
use Rattle.elab_rules.specs.cpp_types.declared.classes.At.{At}
use Rattle.elab_rules.specs.cpp_lex.Tokens.{Lexeme}
use Rattle.elab_rules.specs.cpp_ast.declared.kinds.NodeKind.TheVariants as k
use Rattle.elab_rules.specs.cpp_ast.Trees as syntax
use Rattle.elab_rules.specs.cpp_tree.declared.program.FuncKind.{FuncKind}
use Rattle.elab_rules.specs.cpp_tree.declared.program.FuncKind.TheVariants.{Plain, Constructor, Destructor}
use Rattle.elab_rules.specs.cpp_tree.Typing.{form_in}
use Rattle.elab_rules.specs.cpp_tree.Units.{TypedProgram}
use Rattle.elab_rules.specs.elab_ctx.Ctx.{Traits}
use Rattle.elab_rules.specs.elab_ctx.Steps.{and_then, at_of, spelling}
use Rattle.elab_rules.specs.Types.{Declared}
use Rattle.elab_rules.specs.Expressions.{type_of_specifiers, declared_by}
use Rattle.elab_rules.specs.Statements.{State, Lambdas}
use Rattle.elab_rules.specs.Functions as functions
use Rattle.elab_rules.specs.Functions.{Storage, Header, no_storage, with_specifier, function_declared, with_definition, text_sized, defines_well}
use Rattle.elab_rules.specs.Classes.{Started, started_from, body_in}
use Rattle.elab_rules.specs.Lambdas as lambdas
use Rattle.elab_rules.specs.Members as members
use Rattle.elab_rules.specs.Units as rules
use Rattle.elab_rules.specs.Units.{header_of, definition_text, closing_offset, is_qualified}
use Rattle.elab_rules.specs.Implicit.{with_implied}
use Rattle.elab_rules.specs.Programs as programs
use Rattle.elab_rules.specs.Programs.{Source, start_behind, with_unit}
use Rattle.elab_entry.specs.Bodies as entry
use Rattle.elab_lambdas.specs.Whole as code_lambdas
use Rattle.elab_members.specs.Outside as code_members
use Rattle.elab_members.specs.Whole as code_classes
use Rattle.elab_leaving.specs.Declaring as code
use Rattle.elab_leaving.specs.Declaring.{c_checked, c_words}
use Rattle.elab_leaving.specs.Programs as code_programs
use Rattle.elab_leaving.specs.Kept.{On}
use Rattle.elab_leaving.proofs.Keeping.{bind, skip}
use Rattle.elab_leaving.proofs.Answers.{same_after, same_behind}
use Rattle.elab_leaving.proofs.Leaving.{function_same}
use Rattle.elab_leaving.proofs.Lambdas.{lambdas_same, lambdas_lawful}
use Rattle.elab_leaving.proofs.Defaults.{Settled}
use Rattle.elab_leaving.proofs.Classes.{class_same, class_stands, function_settled}
use Rattle.elab_leaving.proofs.Outside.{outside_same, outside_settled}
use Rattle.elab_leaving.proofs.Implied.{implied_same}
use Rattle.elab_leaving.proofs.Specifiers.{started_again}
use Rattle.elab_leaving.proofs.Declared.{Placing, function_clear, declaration_settled, aliases_settled, enum_settled, class_declared_settled}

-- Lambdas

pub lambdas_are : code_lambdas.lambdas_of ≡ lambdas.lambdas_of
lambdas_are = fun_ext (λ s. fun_ext (λ st. fun_ext (λ t. lambdas_same s st t)))

-- Functions

body_same : (s : List Lexeme) (st : State) (h : Header) (this : Option Typ) (place : ℕ) (t : syntax.Tree) → Settled st
    → entry.function_body code_lambdas.lambdas_of s st h this place t ≡ functions.function_body lambdas.lambdas_of s st h this place t
body_same s st h this place t e = ap (λ (l : Lambdas). entry.function_body l s st h this place t) lambdas_are
    ∙ function_same lambdas.lambdas_of lambdas_lawful s st h this place t e

with_same : (s : List Lexeme) (st : State) (x : Storage) (at : At) (first : ℕ) (d : Declared) (body : syntax.Tree) (f : Form) → Settled st
    → code.defined_with s st x at first d body f ≡ rules.defined_with s st x at first d body f
with_same s st x at first d body (func sig) e =
    let h : Header = header_of s at x d sig in
    same_behind (text_sized at (definition_text s x first body)) _ _
    (λ y. same_behind (defines_well h) _ _
    (λ z. same_after Placing (function_declared st.ctx h true) _ _ (function_clear st.ctx h true e)
    (λ p i. body_same s (record st { ctx = with_definition p.ctx p.place h (definition_text s x first body) (closing_offset s body) }) h None p.place body i)))
with_same s st x at first d body f e = refl

with_settled : (s : List Lexeme) (st : State) (x : Storage) (at : At) (first : ℕ) (d : Declared) (body : syntax.Tree) (f : Form) → Settled st
    → On Settled (rules.defined_with s st x at first d body f)
with_settled s st x at first d body (func sig) e =
    let h : Header = header_of s at x d sig in
    skip Settled (text_sized at (definition_text s x first body)) _
    (λ y. skip Settled (defines_well h) _
    (λ z. bind Placing Settled (function_declared st.ctx h true) _ (function_clear st.ctx h true e)
    (λ p i. function_settled lambdas.lambdas_of s (record st {
      ctx = with_definition p.ctx p.place h (definition_text s x first body)
          (closing_offset s body);
    }) h None p.place body i)))
with_settled s st x at first d body f e = tt

-- a member, whose words are read again
member_same : (s : List Lexeme) (x y : Storage) (st : State) (at : At) (kind : FuncKind) (first : ℕ) (kids : syntax.Trees)
    → started_from s x kids ≡ started_from s y kids → Settled st
    → code_members.member_defined code_lambdas.lambdas_of s x st at kind first kids ≡ members.member_defined lambdas.lambdas_of s y st at kind first kids
member_same s x y st at kind first kids h e =
    ap (λ (l : Lambdas). code_members.member_defined l s x st at kind first kids) lambdas_are
    ∙ outside_same lambdas.lambdas_of lambdas_lawful s x st at kind first kids e
    ∙ ap (λ (z : Started). members.outside_started lambdas.lambdas_of s st at kind first (body_in kids) z) h

by_same : (s : List Lexeme) (st : State) (known x : Storage) (whole : syntax.Trees) (at : At) (first : ℕ) (r : Declared) (body : syntax.Tree) (b : Bool)
    → started_from s known whole ≡ started_from s x whole → Settled st
    → code.defined_by s st known whole x at first r body b ≡ rules.defined_by s st whole x at first r body b
by_same s st known x whole at first r body true h e = member_same s known x st at Plain first whole h e
by_same s st known x whole at first r body false h e = with_same s st x at first r body (form_in r.typ) e

typed_same : (s : List Lexeme) (st : State) (known x : Storage) (whole : syntax.Trees) (at : At) (first : ℕ) (base d body : syntax.Tree)
    → started_from s known whole ≡ started_from s x whole → Settled st →
    and_then (type_of_specifiers s st.ctx st.work base)
    (λ (t : Typ). and_then (declared_by s st.ctx st.work at t d) (λ (r : Declared). code.defined_by s st known whole x at first r body (is_qualified r)))
    ≡ and_then (type_of_specifiers s st.ctx st.work base)
    (λ (t : Typ). and_then (declared_by s st.ctx st.work at t d) (λ (r : Declared). rules.defined_by s st whole x at first r body (is_qualified r)))
typed_same s st known x whole at first base d body h e =
    same_behind (type_of_specifiers s st.ctx st.work base) _ _
    (λ t. same_behind (declared_by s st.ctx st.work at t d) _ _ (λ r. by_same s st known x whole at first r body (is_qualified r) h e))

started_same : (s : List Lexeme) (st : State) (known x : Storage) (whole : syntax.Trees) (at : At) (first : ℕ) (ts : syntax.Trees)
    → started_from s known whole ≡ started_from s (started_from s x ts).storage whole → Settled st
    → code.defined_started s st known whole at first (started_from s x ts) ≡ rules.function_defined s st whole x at first ts
started_same s st known x whole at first (syntax.more (syntax.node k.Attribute p token kids) ts) h e = started_same s st known x whole at first ts h e
started_same s st known x whole at first (syntax.more (syntax.node k.DeclSpecifier p (Some t) kids) ts) h e =
    started_same s st known (with_specifier x (spelling s t)) whole at first ts h e
started_same s st known x whole at first (syntax.more base (syntax.more d (syntax.more body syntax.none))) h e =
    typed_same s st known x whole at first base d body h e
started_same s st known x whole at first ts h e = refl

defined_same : (s : List Lexeme) (st : State) (x : Storage) (at : At) (first : ℕ) (kids : syntax.Trees) → Settled st
    → code.function_defined s st x at first kids ≡ rules.function_defined s st kids x at first kids
defined_same s st x at first kids e = started_same s st x x kids at first kids (sym (started_again s x kids)) e

by_settled : (s : List Lexeme) (st : State) (whole : syntax.Trees) (x : Storage) (at : At) (first : ℕ) (r : Declared) (body : syntax.Tree) (b : Bool)
    → Settled st → On Settled (rules.defined_by s st whole x at first r body b)
by_settled s st whole x at first r body true e = outside_settled lambdas.lambdas_of s x st at Plain first whole e
by_settled s st whole x at first r body false e = with_settled s st x at first r body (form_in r.typ) e

three_settled : (s : List Lexeme) (st : State) (whole : syntax.Trees) (x : Storage) (at : At) (first : ℕ) (base d body : syntax.Tree) → Settled st
    → On Settled (and_then (type_of_specifiers s st.ctx st.work base)
    (λ (t : Typ). and_then (declared_by s st.ctx st.work at t d) (λ (r : Declared). rules.defined_by s st whole x at first r body (is_qualified r))))
three_settled s st whole x at first base d body e = skip Settled (type_of_specifiers s st.ctx st.work base) _
    (λ t. skip Settled (declared_by s st.ctx st.work at t d) _ (λ r. by_settled s st whole x at first r body (is_qualified r) e))

defined_settled : (s : List Lexeme) (st : State) (whole : syntax.Trees) (x : Storage) (at : At) (first : ℕ) (ts : syntax.Trees) → Settled st
    → On Settled (rules.function_defined s st whole x at first ts)
defined_settled s st whole x at first (syntax.more (syntax.node k.Attribute p token kids) ts) e = defined_settled s st whole x at first ts e
defined_settled s st whole x at first (syntax.more (syntax.node k.DeclSpecifier p (Some t) kids) ts) e =
    defined_settled s st whole (with_specifier x (spelling s t)) at first ts e
defined_settled s st whole x at first (syntax.more base (syntax.more d (syntax.more body syntax.none))) e = three_settled s st whole x at first base d body e
defined_settled s st whole x at first ts e = tt

-- Classes

class_is : (s : List Lexeme) (st : State) (at : At) (name : List ℕ) (kids : syntax.Trees) → Settled st
    → code_classes.class_defined code_lambdas.lambdas_of s st at name kids ≡ members.class_defined lambdas.lambdas_of s st at name kids
class_is s st at name kids e = ap (λ (l : Lambdas). code_classes.class_defined l s st at name kids) lambdas_are
    ∙ class_same lambdas.lambdas_of lambdas_lawful s st at name kids e

class_clear : (s : List Lexeme) (st : State) (at : At) (name : List ℕ) (kids : syntax.Trees) → Settled st
    → On Settled (code_classes.class_defined code_lambdas.lambdas_of s st at name kids)
class_clear s st at name kids e = subst (On Settled) (sym (class_is s st at name kids e)) (class_stands lambdas.lambdas_of s st at name kids e)

-- Declarations

member_clear : (s : List Lexeme) (x : Storage) (st : State) (at : At) (kind : FuncKind) (first : ℕ) (kids : syntax.Trees) → Settled st
    → On Settled (code_members.member_defined code_lambdas.lambdas_of s x st at kind first kids)
member_clear s x st at kind first kids e = subst (On Settled) (sym (member_same s x x st at kind first kids refl e))
    (outside_settled lambdas.lambdas_of s x st at kind first kids e)

mutual
  declaration_clear : (s : List Lexeme) (x : Storage) (st : State) (t : syntax.Tree) → Settled st → On Settled (code.declaration_of s x st t)
  declaration_clear s x st (syntax.node k.EmptyDeclaration p token kids) e = e
  declaration_clear s x st (syntax.node k.AliasDeclaration p (Some t) kids) e = aliases_settled s st (at_of p) (spelling s t) kids e
  declaration_clear s x st (syntax.node k.EnumSpecifier p (Some t) kids) e = enum_settled s st (at_of p) (spelling s t) kids e
  declaration_clear s x st (syntax.node k.SimpleDeclaration p token kids) e = declaration_settled s st x (at_of p) kids e
  declaration_clear s x st (syntax.node k.FunctionDefinition p (Some t) kids) e =
      subst (On Settled) (sym (defined_same s st x (at_of p) t kids e)) (defined_settled s st kids x (at_of p) t kids e)
  declaration_clear s x st (syntax.node k.LinkageSpecification p (Some t) kids) e =
      skip Settled (c_checked s (at_of p) t) _ (λ y. declarations_clear s (c_words x false) st kids e)
  declaration_clear s x st (syntax.node k.LinkageBlock p (Some t) kids) e =
      skip Settled (c_checked s (at_of p) t) _ (λ y. declarations_clear s (c_words x true) st kids e)
  declaration_clear s x st (syntax.node k.ClassDeclaration p (Some t) kids) e = class_declared_settled st (at_of p) (spelling s t) e
  declaration_clear s x st (syntax.node k.ClassSpecifier p (Some t) kids) e = class_clear s st (at_of p) (spelling s t) kids e
  declaration_clear s x st (syntax.node k.ConstructorDefinition p (Some t) kids) e = member_clear s x st (at_of p) Constructor t kids e
  declaration_clear s x st (syntax.node k.DestructorDefinition p (Some t) kids) e = member_clear s x st (at_of p) Destructor t kids e
  declaration_clear s x st t e = tt

  pub declarations_clear : (s : List Lexeme) (x : Storage) (st : State) (ts : syntax.Trees) → Settled st → On Settled (code.declarations_of s x st ts)
  declarations_clear s x st syntax.none e = e
  declarations_clear s x st (syntax.more t ts) e = bind Settled Settled (code.declaration_of s x st t) _ (declaration_clear s x st t e)
      (λ y i. declarations_clear s x y ts i)

mutual
  declaration_same : (s : List Lexeme) (x : Storage) (st : State) (t : syntax.Tree) → Settled st → code.declaration_of s x st t ≡ rules.declaration_of s x st t
  declaration_same s x st (syntax.node k.AliasDeclaration p (Some t) kids) e = refl
  declaration_same s x st (syntax.node k.EnumSpecifier p (Some t) kids) e = refl
  declaration_same s x st (syntax.node k.ClassDeclaration p (Some t) kids) e = refl
  declaration_same s x st (syntax.node k.FunctionDefinition p (Some t) kids) e = defined_same s st x (at_of p) t kids e
  declaration_same s x st (syntax.node k.LinkageSpecification p (Some t) kids) e =
      same_behind (c_checked s (at_of p) t) (λ y. code.declarations_of s (c_words x false) st kids) (λ y. rules.declarations_of s (c_words x false) st kids)
      (λ y. declarations_same s (c_words x false) st kids e)
  declaration_same s x st (syntax.node k.LinkageBlock p (Some t) kids) e =
      same_behind (c_checked s (at_of p) t) (λ y. code.declarations_of s (c_words x true) st kids) (λ y. rules.declarations_of s (c_words x true) st kids)
      (λ y. declarations_same s (c_words x true) st kids e)
  declaration_same s x st (syntax.node k.ClassSpecifier p (Some t) kids) e = class_is s st (at_of p) (spelling s t) kids e
  declaration_same s x st (syntax.node k.ConstructorDefinition p (Some t) kids) e = member_same s x x st (at_of p) Constructor t kids refl e
  declaration_same s x st (syntax.node k.DestructorDefinition p (Some t) kids) e = member_same s x x st (at_of p) Destructor t kids refl e
  declaration_same s x st t e = refl

  pub declarations_same : (s : List Lexeme) (x : Storage) (st : State) (ts : syntax.Trees) → Settled st
      → code.declarations_of s x st ts ≡ rules.declarations_of s x st ts
  declarations_same s x st syntax.none e = refl
  declarations_same s x st (syntax.more t ts) e =
      same_after Settled (code.declaration_of s x st t) (λ (z : State). code.declarations_of s x z ts) (λ (z : State). rules.declarations_of s x z ts)
      (declaration_clear s x st t e) (λ z i. declarations_same s x z ts i)
      ∙ ap (λ r. and_then r (λ (z : State). rules.declarations_of s x z ts)) (declaration_same s x st t e)

-- Units

pub unit_same : (s : List Lexeme) (st : State) (decls : syntax.Trees) → Settled st → code_programs.unit_from s st decls ≡ rules.unit_from s st decls
unit_same s st decls e = same_after Settled (code.declarations_of s no_storage st decls) _ _ (declarations_clear s no_storage st decls e)
    (λ x i. implied_same x i) ∙ ap (λ r. and_then r with_implied) (declarations_same s no_storage st decls e)

-- Programs

pub program_same : (i : ℕ) (p : TypedProgram) (traits : List Traits) (xs : List Source)
    → code_programs.program_from i p traits xs ≡ programs.program_from i p traits xs
program_same i p traits [] = refl
program_same i p traits (x ∷ xs) =
    same_behind (code_programs.unit_from x.tokens (start_behind i p traits) x.decls)
    (λ (y : State). code_programs.program_from (suc i) (with_unit p x y) y.ctx.traits xs)
    (λ (y : State). programs.program_from (suc i) (with_unit p x y) y.ctx.traits xs) (λ y. program_same (suc i) (with_unit p x y) y.ctx.traits xs)
    ∙ ap (λ r. and_then r (λ (y : State). programs.program_from (suc i) (with_unit p x y) y.ctx.traits xs))
    (unit_same x.tokens (start_behind i p traits) x.decls refl)

pub whole_same : (xs : List Source) → code_programs.program_of xs ≡ programs.program_of xs
whole_same xs = program_same 0 code_programs.no_units [] xs
