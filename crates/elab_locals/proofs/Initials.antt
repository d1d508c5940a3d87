-- Initialisers as they are written, and variables with them.
use Rattle.std.proofs.Common.{◌≡◌, ◌<◌, ◌-◌, ◌++◌, ◌∷◌, ℕ, suc, Bool, true, false, List, [], length, Option, Some, None, Result, Ok, Err, refl, sym, ap, ◌∙◌}
use Rattle.std.proofs.Common.{arith}
use Rattle.elab_scopes.specs.cpp_lex.Tokens.{Lexeme}
use Rattle.elab_scopes.specs.cpp_ast.declared.kinds.NodeKind.TheVariants as k
use Rattle.elab_scopes.specs.cpp_ast.Trees as syntax
use Rattle.elab_scopes.specs.cpp_types.Typ.{Typ}
use Rattle.elab_scopes.specs.cpp_types.declared.classes.At.{At}
use Rattle.elab_scopes.specs.cpp_tree.declared.faults.ElabFault.{ElabFault}
use Rattle.elab_scopes.specs.cpp_tree.declared.faults.IllRule.TheVariants.{Redeclared, BadDeclaration, BadInit}
use Rattle.elab_scopes.specs.cpp_tree.Trees.{Tree}
use Rattle.elab_scopes.specs.elab_ctx.Ctx.{Variable}
use Rattle.elab_scopes.specs.elab_ctx.Steps.{and_then, expect, check}
use Rattle.elab_scopes.specs.elab_rules.Braces.{is_char_array, string_token}
use Rattle.elab_scopes.specs.elab_rules.Types.{has_auto, is_bounded}
use Rattle.elab_scopes.specs.elab_rules.Operators.{within_if_sized}
use Rattle.elab_scopes.specs.elab_rules.Sizes.{typ_sized}
use Rattle.elab_scopes.specs.elab_rules.Statements.{Lambdas, State, Done, Full, by_expression, with_initialiser, variable_tree, variable, variable_by}
use Rattle.elab_scopes.specs.elab_rules.Statements.{plain_variable, placed_variable, declared_variable, without_auto, bound_by_initialiser, only_expression}
use Rattle.elab_scopes.specs.elab_rules.Statements.{auto_variable, is_fresh, declarable, full_operand}
use Rattle.elab_braces.specs.Forms.{form_of}
use Rattle.elab_locals.specs.Inits.{by_expression_in, initialised_by}
use Rattle.elab_locals.specs.Variables.{auto_from, auto_declared, auto_read, plain_made, plain_read}

expression_is : (lams : Lambdas) (s : List Lexeme) (st v : State) (t : Typ) (at : At) (e : syntax.Tree) (b : Bool) (n : Option ℕ)
    → by_expression lams s st v t at e b n ≡ by_expression_in lams s (variable_tree st t at) v t at e b n
expression_is lams s st v t at e true (Some n) = refl
expression_is lams s st v t at e true None = refl
expression_is lams s st v t at e false n = refl

pub initialiser_is : (lams : Lambdas) (s : List Lexeme) (st v : State) (t : Typ) (at : At) (init : syntax.Trees)
    → with_initialiser lams s st v t at init ≡ initialised_by lams s (variable_tree st t at) v t at (form_of init)
initialiser_is lams s st v t at syntax.none = refl
initialiser_is lams s st v t at (syntax.more (syntax.node k.ParenthesizedInitializer p token es) syntax.none) = refl
initialiser_is lams s st v t at (syntax.more (syntax.node k.EqualInitializer p token
    (syntax.more (syntax.node k.BracedInitList q brace items) syntax.none)) syntax.none) = refl
initialiser_is lams s st v t at (syntax.more (syntax.node k.EqualInitializer p token (syntax.more e syntax.none)) syntax.none) =
    expression_is lams s st v t at e (is_char_array t) (string_token e)
initialiser_is lams s st v t at (syntax.more (syntax.node kind p token es) syntax.none) = refl
initialiser_is lams s st v t at (syntax.more (syntax.node k.ParenthesizedInitializer p token es) (syntax.more u us)) = refl
initialiser_is lams s st v t at (syntax.more (syntax.node k.EqualInitializer p token (syntax.more (syntax.node k.BracedInitList q brace items) syntax.none))
    (syntax.more u us)) = refl
initialiser_is lams s st v t at (syntax.more (syntax.node k.EqualInitializer p token (syntax.more e syntax.none)) (syntax.more u us)) = refl
initialiser_is lams s st v t at (syntax.more (syntax.node k.EqualInitializer p token es) (syntax.more u us)) = refl
initialiser_is lams s st v t at (syntax.more (syntax.node kind p token es) (syntax.more u us)) = refl

-- a step that does the same, behind one or two others
then_same : {A B : Type 0} (x : Result A ElabFault) (f g : A → Result B ElabFault) → ((a : A) → f a ≡ g a) → and_then x f ≡ and_then x g
then_same (Ok a) f g h = h a
then_same (Err e) f g h = refl

pub plain_is : (lams : Lambdas) (s : List Lexeme) (st : State) (name : List ℕ) (t : Typ) (at : At) (init : syntax.Trees)
    → plain_variable lams s st name t at init ≡ plain_made lams s (variable_tree st t at) (placed_variable st name t) t at init
plain_is lams s st name t at init = then_same (declarable st.ctx at t) _ _
    (λ x. then_same (check at BadDeclaration (is_bounded t)) _ _
    (λ z. then_same (typ_sized st.ctx.classes at t) _ _
    (λ y. then_same (within_if_sized st.ctx at t) _ _ (λ w. initialiser_is lams s st (placed_variable st name t) t at init))))

length_more : (xs : List Variable) (x : Variable) → length (xs ++ x ∷ []) ≡ suc (length xs)
length_more [] x = refl
length_more (y ∷ xs) x = ap suc (length_more xs x)

length_last : (xs : List Variable) (x : Variable) → length (xs ++ x ∷ []) - 1 ≡ length xs
length_last xs x = omega (arith, length_more xs x)

auto_is : (lams : Lambdas) (s : List Lexeme) (st : State) (name : List ℕ) (t : Typ) (at : At) (before : Option Typ) (e : syntax.Tree)
    → auto_variable lams s (declared_variable st name None) (length st.ctx.variables) t at before e
    ≡ auto_declared lams s (declared_variable st name None) t at before e
auto_is lams s st name t at before e = then_same (full_operand lams s (declared_variable st name None) e) _ _
    (λ (f : Full). ap (λ (n : ℕ). auto_from n t at before f) (sym (length_last st.ctx.variables (record { typ = None; place = length st.work.frame }))))

pub variable_auto : (lams : Lambdas) (s : List Lexeme) (st : State) (name : List ℕ) (t : Typ) (at : At) (before : Option Typ) (init : syntax.Trees)
    → has_auto t ≡ true → variable lams s st name t at before init ≡ auto_read lams s st name t at before init
variable_auto lams s st name t at before init h = then_same (check at Redeclared (is_fresh st.ctx name)) _ _
    (λ y. ap (variable_by lams s st name t at before init) h
    ∙ then_same (expect at BadInit (only_expression init)) _ _ (λ (e : syntax.Tree). auto_is lams s st name t at before e))

plain_then : (x : Result Bool ElabFault) (before : Option Typ) (y : Result Done ElabFault)
    → and_then x (λ z. without_auto before y) ≡ without_auto before (and_then x (λ z. y))
plain_then (Ok b) before y = refl
plain_then (Err e) before y = refl

pub variable_plain : (lams : Lambdas) (s : List Lexeme) (st : State) (name : List ℕ) (t u : Typ) (at : At) (before : Option Typ) (init : syntax.Trees)
    → has_auto t ≡ false → u ≡ bound_by_initialiser s t init
    → variable lams s st name t at before init ≡ without_auto before (plain_read lams s st name u at init)
variable_plain lams s st name t u at before init h e =
    then_same (check at Redeclared (is_fresh st.ctx name)) _ _
    (λ y. ap (variable_by lams s st name t at before init) h ∙ ap (λ (z : Typ). without_auto before (plain_variable lams s st name z at init)) (sym e)
    ∙ ap (without_auto before) (plain_is lams s st name u at init))
    ∙ plain_then (check at Redeclared (is_fresh st.ctx name)) before (plain_made lams s (variable_tree st u at) (placed_variable st name u) u at init)
