-- Declarations and whole units.
use Rattle.std.proofs.Common.{◌≡◌, refl, ℕ, Bool, true, false, not, List, Some, None}
use Rattle.std.proofs.lemmas.Bool.{and_parts}
use Rattle.elab_rules.specs.cpp_types.Typ.{Typ, Form, func}
use Rattle.elab_rules.specs.cpp_types.declared.classes.At.{At}
use Rattle.elab_rules.specs.cpp_lex.Tokens.{Lexeme}
use Rattle.elab_rules.specs.cpp_ast.declared.kinds.NodeKind.TheVariants as k
use Rattle.elab_rules.specs.cpp_ast.Trees as syntax
use Rattle.elab_rules.specs.cpp_tree.Typing.{form_in}
use Rattle.elab_rules.specs.cpp_tree.declared.faults.IllRule.TheVariants.{OutOfProfile}
use Rattle.elab_rules.specs.cpp_tree.declared.program.FuncKind.TheVariants.{Plain, Constructor, Destructor}
use Rattle.elab_rules.specs.elab_ctx.Ctx.{Ctx}
use Rattle.elab_rules.specs.elab_ctx.Steps.{and_then, check, at_of, spelling}
use Rattle.elab_rules.specs.Types.{Declared}
use Rattle.elab_rules.specs.Strings.{string_bytes}
use Rattle.elab_rules.specs.Expressions.{type_of_specifiers, declared_by}
use Rattle.elab_rules.specs.Statements.{State}
use Rattle.elab_rules.specs.Functions.{Storage, Header, no_storage, with_specifier, function_declared, function_body, with_definition, text_sized, defines_well}
use Rattle.elab_rules.specs.Implicit.{with_implied}
use Rattle.elab_rules.specs.Lambdas.{lambdas_of}
use Rattle.elab_rules.specs.Units.{header_of, definition_text, closing_offset, is_qualified, defined_with, defined_by, function_defined, is_c, declaration_of}
use Rattle.elab_rules.specs.Units.{declarations_of, unit_from}
use Rattle.elab_fits.specs.Standing.{On}
use Rattle.elab_fits.proofs.Steps.{bind, skip, weaken}
use Rattle.elab_contexts.proofs.Bodies.{function_kept, lambdas_lawful}
use Rattle.elab_contexts.proofs.Declared.{declaration_kept, aliases_from, enum_kept}
use Rattle.elab_contexts.proofs.Implied.{implied_kept}
use Rattle.elab_contexts.specs.Walks.{DeclarationsWalk, UnitsWalk, Walks}
use Rattle.elab_contexts.proofs.Walking.{Leaves, behind, of_state}
use Rattle.elab_contexts.proofs.Going.{From, begin, leaves_from, from_from}
use Rattle.elab_contexts.proofs.Defined.{definition_further, further_on, further_leaves}
use Rattle.elab_contexts.proofs.Outside.{Placing, function_further, outside_kept}
use Rattle.elab_contexts.proofs.Classes.{declared_from, class_from}
use Rattle.elab_contexts.specs.Holding.{HasTypeNames}
use Rattle.elab_contexts.specs.Texts.{is_no_name, has_class_names, have_class_names}

-- Functions

pub with_kept : (s : List Lexeme) (st : State) (x : Storage) (at : At) (first : ℕ) (d : Declared) (body : syntax.Tree) (f : Form)
    → On (Leaves st) (defined_with s st x at first d body f)
with_kept s st x at first d body (func sig) =
    let h : Header = header_of s at x d sig in
    let text : List ℕ = definition_text s x first body in
    skip (Leaves st) (text_sized at text) _
    (λ y. skip (Leaves st) (defines_well h) _ (λ z. bind (Placing st.ctx) (Leaves st) (function_declared st.ctx h true) _ (function_further st.ctx h true (refl, refl)) (λ p i.
    let c : Ctx = with_definition p.ctx p.place h text (closing_offset s body) in
    behind st (record st { ctx = c }) of_state (function_body lambdas_of s (record st { ctx = c }) h None p.place body)
    (further_leaves st c (further_on st.ctx p.ctx c i (definition_further p.ctx p.place h text (closing_offset s body))))
    (function_kept lambdas_of lambdas_lawful s (record st { ctx = c }) h None p.place body))))
with_kept s st x at first d body f = tt

by_kept : (s : List Lexeme) (st : State) (whole : syntax.Trees) (x : Storage) (at : At) (first : ℕ) (r : Declared) (body : syntax.Tree) (b : Bool)
    → On (Leaves st) (defined_by s st whole x at first r body b)
by_kept s st whole x at first r body true = outside_kept lambdas_of lambdas_lawful s x st at Plain first whole
by_kept s st whole x at first r body false = with_kept s st x at first r body (form_in r.typ)

three_kept : (s : List Lexeme) (st : State) (whole : syntax.Trees) (x : Storage) (at : At) (first : ℕ) (base d body : syntax.Tree)
    → On (Leaves st) (and_then (type_of_specifiers s st.ctx st.work base)
    (λ (t : Typ). and_then (declared_by s st.ctx st.work at t d) (λ (r : Declared). defined_by s st whole x at first r body (is_qualified r))))
three_kept s st whole x at first base d body = skip (Leaves st) (type_of_specifiers s st.ctx st.work base) _
    (λ t. skip (Leaves st) (declared_by s st.ctx st.work at t d) _ (λ r. by_kept s st whole x at first r body (is_qualified r)))

pub defined_kept : (s : List Lexeme) (st : State) (whole : syntax.Trees) (x : Storage) (at : At) (first : ℕ) (ts : syntax.Trees)
    → On (Leaves st) (function_defined s st whole x at first ts)
defined_kept s st whole x at first (syntax.more (syntax.node k.Attribute p token kids) ts) = defined_kept s st whole x at first ts
defined_kept s st whole x at first (syntax.more (syntax.node k.DeclSpecifier p (Some t) kids) ts) =
    defined_kept s st whole (with_specifier x (spelling s t)) at first ts
defined_kept s st whole x at first (syntax.more base (syntax.more d (syntax.more body syntax.none))) = three_kept s st whole x at first base d body
defined_kept s st whole x at first ts = tt

-- Declarations

abbrev IsNamedIn : State → Type 0
IsNamedIn st = HasTypeNames st.ctx.classes st.ctx.types

is_some_name : (b : Bool) → not b ≡ true → b ≡ false
is_some_name false h = refl
is_some_name true h = absurd cc

mutual
  declaration_from : (s : List Lexeme) (x : Storage) (a st : State) (t : syntax.Tree) → has_class_names s t ≡ true → IsNamedIn a → From a st
      → On (From a) (declaration_of s x st t)
  declaration_from s x a st (syntax.node k.EmptyDeclaration p token kids) h n e = e
  declaration_from s x a st (syntax.node k.AliasDeclaration p (Some t) kids) h n e =
      from_from a st _ e (aliases_from s st (at_of p) (spelling s t) kids (e.types n))
  declaration_from s x a st (syntax.node k.EnumSpecifier p (Some t) kids) h n e = from_from a st _ e (enum_kept s st (at_of p) (spelling s t) kids)
  declaration_from s x a st (syntax.node k.SimpleDeclaration p token kids) h n e = leaves_from a st _ e (declaration_kept s st x (at_of p) kids)
  declaration_from s x a st (syntax.node k.FunctionDefinition p (Some t) kids) h n e = leaves_from a st _ e (defined_kept s st kids x (at_of p) t kids)
  declaration_from s x a st (syntax.node k.LinkageSpecification p (Some t) kids) h n e =
      skip (From a) (check (at_of p) OutOfProfile (is_c (string_bytes (spelling s t)))) _
      (λ y. declarations_from s (record x { is_c = true; is_extern = true }) a st kids h n e)
  declaration_from s x a st (syntax.node k.LinkageBlock p (Some t) kids) h n e =
      skip (From a) (check (at_of p) OutOfProfile (is_c (string_bytes (spelling s t)))) _
      (λ y. declarations_from s (record x { is_c = true }) a st kids h n e)
  declaration_from s x a st (syntax.node k.ClassDeclaration p (Some t) kids) h n e =
      from_from a st _ e (declared_from st (at_of p) (spelling s t) (is_some_name (is_no_name (spelling s t)) h))
  declaration_from s x a st (syntax.node k.ClassSpecifier p (Some t) kids) h n e =
      from_from a st _ e (class_from lambdas_of lambdas_lawful s st (at_of p) (spelling s t) kids (is_some_name (is_no_name (spelling s t)) h) (e.types n))
  declaration_from s x a st (syntax.node k.ConstructorDefinition p (Some t) kids) h n e =
      leaves_from a st _ e (outside_kept lambdas_of lambdas_lawful s x st (at_of p) Constructor t kids)
  declaration_from s x a st (syntax.node k.DestructorDefinition p (Some t) kids) h n e =
      leaves_from a st _ e (outside_kept lambdas_of lambdas_lawful s x st (at_of p) Destructor t kids)
  declaration_from s x a st t h n e = tt

  declarations_from : (s : List Lexeme) (x : Storage) (a st : State) (ts : syntax.Trees) → have_class_names s ts ≡ true → IsNamedIn a → From a st
      → On (From a) (declarations_of s x st ts)
  declarations_from s x a st syntax.none h n e = e
  declarations_from s x a st (syntax.more t ts) h n e =
      let g = and_parts (has_class_names s t) (have_class_names s ts) h in
      bind (From a) (From a) (declaration_of s x st t) _ (declaration_from s x a st t g.0 n e)
      (λ y i. declarations_from s x a y ts g.1 n i)

pub declarations_go : (s : List Lexeme) (x : Storage) (st : State) (ts : syntax.Trees) → have_class_names s ts ≡ true → IsNamedIn st
    → On (From st) (declarations_of s x st ts)
declarations_go s x st ts h n = declarations_from s x st st ts h n (begin st)

pub units_go : (s : List Lexeme) (st : State) (decls : syntax.Trees) → have_class_names s decls ≡ true → IsNamedIn st
    → On (From st) (unit_from s st decls)
units_go s st decls h n = bind (From st) (From st) (declarations_of s no_storage st decls) with_implied (declarations_go s no_storage st decls h n)
    (λ y i. leaves_from st y (with_implied y) i (implied_kept y))

pub declarations_walk : DeclarationsWalk
declarations_walk s x st ts n h = weaken (From st) (Walks st) (declarations_of s x st ts) (λ y i. i.walk) (declarations_go s x st ts h n)

pub units_walk : UnitsWalk
units_walk s st decls n h = weaken (From st) (Walks st) (unit_from s st decls) (λ y i. i.walk) (units_go s st decls h n)
