-- Behind a function: what the code puts back is what was known before.
use Rattle.std.proofs.Common.{◌≡◌, ℕ, suc, false, ◌-◌, List, [], ◌∷◌, length, take, drop, refl, sym, ap, ◌∙◌, subst, Option, arith}
use Rattle.elab_rules.specs.cpp_names.Names.{Names}
use Rattle.elab_rules.specs.cpp_types.Typ.{Typ}
use Rattle.elab_rules.specs.cpp_types.Class.{held}
use Rattle.elab_rules.specs.cpp_types.declared.classes.At.{At}
use Rattle.elab_rules.specs.cpp_lex.Tokens.{Lexeme}
use Rattle.elab_rules.specs.cpp_ast.Trees as syntax
use Rattle.elab_rules.specs.cpp_tree.declared.kinds.TKind.TheVariants as forms
use Rattle.elab_rules.specs.cpp_tree.declared.faults.IllRule.TheVariants.{Incomplete}
use Rattle.elab_rules.specs.cpp_tree.Trees.{Tree}
use Rattle.elab_rules.specs.elab_ctx.Ctx.{Default, Enumerator, Variable, Closure}
use Rattle.elab_rules.specs.elab_ctx.Types.{Named}
use Rattle.elab_rules.specs.elab_ctx.Steps.{and_then, check, at_of}
use Rattle.elab_rules.specs.Objects.{followed_by}
use Rattle.elab_rules.specs.Initialising.{signature_result}
use Rattle.elab_rules.specs.Operators.{is_complete}
use Rattle.elab_rules.specs.Statements.{State, Done, Lambdas, statement, statements_of}
use Rattle.elab_rules.specs.Functions as rules
use Rattle.elab_rules.specs.Functions.{Header, leaving, with_parameters, end_of}
use Rattle.elab_entry.specs.Round.{round_function, round_lambda, left_by, scopes_by}
use Rattle.elab_entry.specs.Bodies as code
use Rattle.elab_entry.specs.Bodies.{body_kept}
use Rattle.elab_leaving.specs.Kept.{Begins, Leaves, Inside, Lawful}
use Rattle.elab_leaving.proofs.Keeping.{after, Ends}
use Rattle.elab_leaving.proofs.Answers.{same_after, same_behind}
use Rattle.elab_leaving.proofs.Statements.{statements_kept, parameters_kept}

-- The scopes round a function

pub scopes_left : (xs ys : List Names) → drop 1 xs ≡ ys → drop (length xs - length ys) xs ≡ ys
scopes_left [] ys h = subst (λ (z : List Names). drop (0 - length z) [] ≡ z) h refl
scopes_left (x ∷ xs) ys h = subst (λ (z : List Names). drop (length (x ∷ xs) - length z) (x ∷ xs) ≡ z) h
    (ap (λ (n : ℕ). drop n (x ∷ xs)) (one_more (length xs)))
  where
    one_more : (n : ℕ) → (suc n) - n ≡ 1
    one_more n = omega arith

-- what is known before, with these parts, and what is made inside
abbrev put : State → State → ℕ → List Names → List Named → List Default → List Enumerator → List Variable → State
put before st source scopes types defaults enumerators variables = record {
  ctx = record before.ctx {
    source = source;
    scopes = scopes;
    types = types;
    defaults = defaults;
    enumerators = enumerators;
    variables = variables;
    classes =
        st.ctx.classes;
    traits = st.ctx.traits;
    slots = st.ctx.slots;
    funcs = st.ctx.funcs;
  };
  work = record st.work { frame = before.work.frame };
  bodies = st.bodies;
}

put_same : (before st : State) (vs : List Variable) → Inside before st → vs ≡ before.ctx.variables
    → put before st st.ctx.source (scopes_by (length before.ctx.scopes) st.ctx.scopes) st.ctx.types st.ctx.defaults st.ctx.enumerators vs ≡ leaving before st
put_same before st vs h e =
    ap (λ (z : ℕ). put before st z (scopes_by (length before.ctx.scopes) st.ctx.scopes) st.ctx.types st.ctx.defaults st.ctx.enumerators vs) h.source
    ∙ ap (λ (z : List Names). put before st before.ctx.source z st.ctx.types st.ctx.defaults st.ctx.enumerators vs)
    (scopes_left st.ctx.scopes before.ctx.scopes h.scopes)
    ∙ ap (λ (z : List Named). put before st before.ctx.source before.ctx.scopes z st.ctx.defaults st.ctx.enumerators vs) h.types
    ∙ ap (λ (z : List Default). put before st before.ctx.source before.ctx.scopes before.ctx.types z st.ctx.enumerators vs) h.defaults
    ∙ ap (λ (z : List Enumerator). put before st before.ctx.source before.ctx.scopes before.ctx.types before.ctx.defaults z vs) h.enumerators
    ∙ ap (λ (z : List Variable). put before st before.ctx.source before.ctx.scopes before.ctx.types before.ctx.defaults before.ctx.enumerators z) e

pub left_function : (before st : State) → Inside before st → left_by (round_function before) st ≡ leaving before st
left_function before st h = put_same before st before.ctx.variables h refl

pub left_lambda : (before st : State) → Inside before st → Begins before.ctx.variables st.ctx.variables → left_by (round_lambda before) st ≡ leaving before st
left_lambda before st h v = put_same before st (take (length before.ctx.variables) st.ctx.variables) h v.is

-- Bodies of functions

pub made_function : (before st : State) (at : At) (place : ℕ) (tree : Tree) → Inside before st
    → code.body_made (round_function before) at place tree st ≡ rules.body_made before at place tree st
made_function before st at place tree h = ap (λ (z : State). body_kept z at place tree st.work.frame) (left_function before st h)

-- inside a function that was entered, behind its parameters and statements
pub inside_function : (st x : State) (r : Typ) (this : Option Typ) (cls : Option ℕ) → Leaves (rules.entered st r this cls) x → Inside st x
inside_function st x r this cls h = record { source = h.source; scopes = h.round; types = h.types; defaults = h.defaults; enumerators = h.enumerators }

-- no lambdas of a full-expression are at hand round a function
pub entered_same : (st : State) (r : Typ) (this : Option Typ) (cls : Option ℕ) → st.ctx.closures ≡ [] → code.entered st r this cls ≡ rules.entered st r this cls
entered_same st r this cls e = ap (λ (z : List Closure).
    record (rules.entered st r this cls) { ctx = record (rules.entered st r this cls).ctx { closures = z } }) (sym e)

pub function_same : (lams : Lambdas) → Lawful lams → (s : List Lexeme) (st : State) (h : Header) (this : Option Typ) (place : ℕ) (t : syntax.Tree)
    → st.ctx.closures ≡ [] → code.function_body lams s st h this place t ≡ rules.function_body lams s st h this place t
function_same lams q s st h this place (syntax.node kind p token kids) e =
    let r : Typ = signature_result h.signature in
    let tree : Done → Tree = λ (d : Done). statement (forms.Block false) (at_of p) (followed_by d.trees (end_of d.state.ctx r (at_of p))) in
    ap (λ (z : State). and_then (check h.at Incomplete (is_complete st.ctx (held r)))
    (λ x. and_then (with_parameters s z h.params)
    (λ (y : State). and_then (statements_of lams s y kids) (λ (d : Done). code.body_made (round_function st) h.at place (tree d) d.state))))
    (entered_same st r this h.class e)
    ∙ same_behind (check h.at Incomplete (is_complete st.ctx (held r))) _ _
    (λ x. same_after (Leaves (rules.entered st r this h.class)) (with_parameters s (rules.entered st r this h.class) h.params) _ _
    (parameters_kept s (rules.entered st r this h.class) h.params)
    (λ y i. same_after (Ends y) (statements_of lams s y kids) _ _ (statements_kept lams q s y kids)
    (λ d j. made_function st d.state h.at place (tree d)
    (inside_function st d.state r this h.class (after (rules.entered st r this h.class) y d.state i j)))))
