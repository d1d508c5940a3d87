-- Declarations and whole units.
use Rattle.std.proofs.Common.{refl, ap, ◌∙◌, option_and_then, ℕ, Bool, true, false, List, Some, None}
use Rattle.elab_rules.specs.cpp_types.Typ.{Typ, Form, func}
use Rattle.elab_rules.specs.cpp_types.declared.classes.At.{At}
use Rattle.elab_rules.specs.cpp_lex.Tokens.{Lexeme}
use Rattle.elab_rules.specs.cpp_ast.declared.kinds.NodeKind.TheVariants as k
use Rattle.elab_rules.specs.cpp_ast.Trees as syntax
use Rattle.elab_rules.specs.cpp_tree.Typing.{form_in}
use Rattle.elab_rules.specs.cpp_tree.declared.faults.IllRule.TheVariants.{OutOfProfile}
use Rattle.elab_rules.specs.cpp_tree.declared.program.FuncKind.TheVariants.{Plain, Constructor, Destructor}
use Rattle.elab_rules.specs.elab_ctx.Ctx.{Ctx}
use Rattle.elab_rules.specs.elab_ctx.Steps.{and_then, check, at_of, spelling}
use Rattle.elab_rules.specs.Types.{Declared}
use Rattle.elab_rules.specs.Strings.{string_bytes}
use Rattle.elab_rules.specs.Expressions.{type_of_specifiers, declared_by}
use Rattle.elab_rules.specs.Statements.{State}
use Rattle.elab_rules.specs.Functions.{defines_well, Storage, Header, no_storage, with_specifier, function_declared, function_body, with_definition, text_sized}
use Rattle.elab_rules.specs.Implicit.{with_implied}
use Rattle.elab_rules.specs.Lambdas.{lambdas_of}
use Rattle.elab_rules.specs.Units.{header_of, definition_text, closing_offset, is_qualified, defined_with, defined_by, function_defined, is_c, declaration_of}
use Rattle.elab_rules.specs.Units.{declarations_of}
use Rattle.elab_fits.specs.Standing.{On}
use Rattle.state_growth.specs.States.{Gone, DeclarationsGo, UnitsGo, UnitsBegin, HeldBefore}
use Rattle.state_growth.proofs.Numbers.{earlier_below}
use Rattle.elab_rules.specs.cpp_types.Class.{Class}
use Rattle.state_growth.proofs.Steps.{Leaves, bind, skip, behind, of_state, weaken, state_grows, is_tidy, to_tidy}
use Rattle.state_growth.proofs.Bodies.{function_kept, lambdas_lawful}
use Rattle.state_growth.proofs.Changing.{From, begin, leaves_from, further_on, further_leaves}
use Rattle.state_growth.proofs.Classes.{declared_kept, class_from}
use Rattle.state_growth.proofs.Declared.{declaration_kept, aliases_kept, enum_kept}
use Rattle.state_growth.proofs.Implied.{implied_kept}
use Rattle.state_growth.proofs.Changing.{definition_further}
use Rattle.state_growth.proofs.Outside.{Placing, function_further, outside_kept}

-- Functions

pub with_kept : (s : List Lexeme) (st : State) (x : Storage) (at : At) (first : ℕ) (d : Declared) (body : syntax.Tree) (f : Form)
    → On (Leaves st) (defined_with s st x at first d body f)
with_kept s st x at first d body (func sig) =
    let h : Header = header_of s at x d sig in
    let text : List ℕ = definition_text s x first body in
    skip (Leaves st) (text_sized at text) _
    (λ y. skip (Leaves st) (defines_well h) _
    (λ z. bind (Placing st.ctx) (Leaves st) (function_declared st.ctx h true) _ (function_further st.ctx h true) (λ p i.
    let c : Ctx = with_definition p.ctx p.place h text (closing_offset s body) in
    behind st (record st { ctx = c }) of_state (function_body lambdas_of s (record st { ctx = c }) h None p.place body)
    (further_leaves st c (further_on st.ctx p.ctx c i (definition_further p.ctx p.place h text (closing_offset s body))))
    (function_kept lambdas_of lambdas_lawful s (record st { ctx = c }) h None p.place body))))
with_kept s st x at first d body f = tt

by_kept : (s : List Lexeme) (st : State) (whole : syntax.Trees) (x : Storage) (at : At) (first : ℕ) (r : Declared) (body : syntax.Tree) (b : Bool)
    → On (Leaves st) (defined_by s st whole x at first r body b)
by_kept s st whole x at first r body true = outside_kept lambdas_of lambdas_lawful s x st at Plain first whole
by_kept s st whole x at first r body false = with_kept s st x at first r body (form_in r.typ)

three_kept : (s : List Lexeme) (st : State) (whole : syntax.Trees) (x : Storage) (at : At) (first : ℕ) (base d body : syntax.Tree)
    → On (Leaves st) (and_then (type_of_specifiers s st.ctx st.work base)
    (λ (t : Typ). and_then (declared_by s st.ctx st.work at t d) (λ (r : Declared). defined_by s st whole x at first r body (is_qualified r))))
three_kept s st whole x at first base d body = skip (Leaves st) (type_of_specifiers s st.ctx st.work base) _
    (λ t. skip (Leaves st) (declared_by s st.ctx st.work at t d) _ (λ r. by_kept s st whole x at first r body (is_qualified r)))

defined_kept : (s : List Lexeme) (st : State) (whole : syntax.Trees) (x : Storage) (at : At) (first : ℕ) (ts : syntax.Trees)
    → On (Leaves st) (function_defined s st whole x at first ts)
defined_kept s st whole x at first (syntax.more (syntax.node k.Attribute p token kids) ts) = defined_kept s st whole x at first ts
defined_kept s st whole x at first (syntax.more (syntax.node k.DeclSpecifier p (Some t) kids) ts) =
    defined_kept s st whole (with_specifier x (spelling s t)) at first ts
defined_kept s st whole x at first (syntax.more base (syntax.more d (syntax.more body syntax.none))) = three_kept s st whole x at first base d body
defined_kept s st whole x at first ts = tt

-- Declarations, from a state that is tidy

mutual
  declaration_from : (s : List Lexeme) (x : Storage) (a st : State) (t : syntax.Tree) → From a st → On (From a) (declaration_of s x st t)
  declaration_from s x a st (syntax.node k.EmptyDeclaration p token kids) e = e
  declaration_from s x a st (syntax.node k.AliasDeclaration p (Some t) kids) e = leaves_from a st _ e (aliases_kept s st (at_of p) (spelling s t) kids)
  declaration_from s x a st (syntax.node k.EnumSpecifier p (Some t) kids) e = leaves_from a st _ e (enum_kept s st (at_of p) (spelling s t) kids)
  declaration_from s x a st (syntax.node k.SimpleDeclaration p token kids) e = leaves_from a st _ e (declaration_kept s st x (at_of p) kids)
  declaration_from s x a st (syntax.node k.FunctionDefinition p (Some t) kids) e = leaves_from a st _ e (defined_kept s st kids x (at_of p) t kids)
  declaration_from s x a st (syntax.node k.LinkageSpecification p (Some t) kids) e =
      skip (From a) (check (at_of p) OutOfProfile (is_c (string_bytes (spelling s t)))) _
      (λ y. declarations_from s (record x { is_c = true; is_extern = true }) a st kids e)
  declaration_from s x a st (syntax.node k.LinkageBlock p (Some t) kids) e =
      skip (From a) (check (at_of p) OutOfProfile (is_c (string_bytes (spelling s t)))) _ (λ y. declarations_from s (record x { is_c = true }) a st kids e)
  declaration_from s x a st (syntax.node k.ClassDeclaration p (Some t) kids) e = leaves_from a st _ e (declared_kept st (at_of p) (spelling s t))
  declaration_from s x a st (syntax.node k.ClassSpecifier p (Some t) kids) e =
      class_from lambdas_of lambdas_lawful s a st (at_of p) (spelling s t) kids e
  declaration_from s x a st (syntax.node k.ConstructorDefinition p (Some t) kids) e =
      leaves_from a st _ e (outside_kept lambdas_of lambdas_lawful s x st (at_of p) Constructor t kids)
  declaration_from s x a st (syntax.node k.DestructorDefinition p (Some t) kids) e =
      leaves_from a st _ e (outside_kept lambdas_of lambdas_lawful s x st (at_of p) Destructor t kids)
  declaration_from s x a st t e = tt

  declarations_from : (s : List Lexeme) (x : Storage) (a st : State) (ts : syntax.Trees) → From a st → On (From a) (declarations_of s x st ts)
  declarations_from s x a st syntax.none e = e
  declarations_from s x a st (syntax.more t ts) e = bind (From a) (From a) (declaration_of s x st t) _ (declaration_from s x a st t e)
      (λ y i. declarations_from s x a y ts i)

gone : (a b : State) → From a b → Gone a b
gone a b h = record { grows = state_grows a b h.kept; numbers = h.kept.numbers; tidy = is_tidy b h.tidy }

pub declarations_law : DeclarationsGo
declarations_law s x st ts t = weaken (From st) (Gone st) (declarations_of s x st ts) (λ y h. gone st y h)
    (declarations_from s x st st ts (begin st (to_tidy st t)))

pub units_law : UnitsGo
units_law s st decls t = bind (From st) (Gone st) (declarations_of s no_storage st decls) with_implied
    (declarations_from s no_storage st st decls (begin st (to_tidy st t)))
    (λ y i. weaken (From st) (Gone st) (with_implied y) (λ z h. gone st z h) (leaves_from st y (with_implied y) i (implied_kept y)))

pub begin_law : UnitsBegin
begin_law = (λ source. record { many = refl; empty = λ n i h. refl; numbered = λ n k h. absurd cc }, λ source p x st t. record { many = t.many; empty = t.empty; numbered = t.numbered })

pub held_law : HeldBefore
held_law old new t g m h = record {
  earlier = λ n c k f e. let y = h.earlier n c k (g.complete n k c f e) e in
      let l = t.numbered n k (ap (option_and_then (λ (x : Class). x.complete)) f ∙ e) in
      record {
        base = λ b q. earlier_below old.classes new g m k b l (y.base b q);
        members = λ i x q b r. earlier_below old.classes new g m k b l (y.members i x q b r);
      };
}
