-- Initialisers of members: what the code keeps of one is what the definitions keep.
use Rattle.std.proofs.Common.{◌≡◌, ℕ, Bool, true, List, [], drop, refl, ap, ◌∙◌, Option, Some, None, Ok}
use Rattle.std.specs.Prelude.{slice_get}
use Rattle.elab_rules.specs.cpp_types.Typ.{Typ}
use Rattle.elab_rules.specs.cpp_lex.Tokens.{Lexeme}
use Rattle.elab_rules.specs.cpp_ast.declared.kinds.NodeKind.TheVariants as k
use Rattle.elab_rules.specs.cpp_ast.Trees as syntax
use Rattle.elab_rules.specs.cpp_tree.Trees.{Tree}
use Rattle.elab_rules.specs.elab_ctx.Steps.{and_then, spelling}
use Rattle.elab_rules.specs.Names.{members_in}
use Rattle.elab_rules.specs.Strings.{string_bytes}
use Rattle.elab_rules.specs.Braces.{is_char_array, string_token, string_object, syntax_place}
use Rattle.elab_rules.specs.Statements.{State, Done, Lambdas, full_operand, copy_initialised}
use Rattle.elab_rules.specs.Members as rules
use Rattle.elab_rules.specs.Members.{default_value, first_tree, with_default_member, initialiser_in, member_index, member_type}
use Rattle.elab_members.specs.Initialisers as code
use Rattle.elab_members.specs.Initialisers.{default_added}
use Rattle.elab_leaving.specs.Kept.{Inside, On, Lawful}
use Rattle.elab_leaving.proofs.Keeping.{bind, skip, stays, follow, of_done, of_full, Ends, work_kept}
use Rattle.elab_leaving.proofs.Growing.{Mades, copy_grows}
use Rattle.elab_leaving.proofs.Answers.{same_after, each_holds, each_same}
use Rattle.elab_leaving.proofs.Statements.{full_kept}
use Rattle.elab_leaving.proofs.Leaving.{left_function}
use Rattle.elab_leaving.proofs.Objects.{object_same, inside_object}

-- One initialiser

value_kept : (lams : Lambdas) → Lawful lams → (s : List Lexeme) (st : State) (t : Typ) (e : syntax.Tree) (b : Bool) (o : Option ℕ)
    → On (Ends st) (default_value lams s st t e b o)
value_kept lams q s st t e true (Some i) = skip (Ends st) (string_object st.ctx t (syntax_place e) (string_bytes (spelling s i))) _ (λ x. stays st)
value_kept lams q s st t e b o = follow of_full of_done st (full_operand lams s st e) _ (full_kept lams q s st e)
    (λ f. bind (Mades f.state.work) (Ends f.state) (copy_initialised f.state.ctx f.state.work t f.operand) _ (copy_grows f.state.ctx f.state.work t f.operand)
    (λ m g. work_kept f.state m.work g))

kept_same : (st x : State) (n i : ℕ) (e : Tree) → Inside st x → code.default_kept st n i e x ≡ with_default_member st n i e x
kept_same st x n i e h = ap (λ (z : State). record z { ctx = default_added z.ctx n i e (drop 1 x.work.frame) }) (left_function st x h)

made_same : (lams : Lambdas) → Lawful lams → (s : List Lexeme) (st : State) (n i : ℕ) (t : Typ) (e : syntax.Tree) → st.ctx.closures ≡ []
    → code.default_made lams s st n i t e ≡ rules.default_made lams s st n i t e
made_same lams q s st n i t e c =
    let b : State = rules.in_object st n in
    ap (λ (z : State). and_then (code.default_from lams s z t e) (λ (d : Done). Ok (code.default_kept st n i (first_tree (syntax_place e) d.trees) d.state)))
    (object_same st n c)
    ∙ same_after (Ends b) (default_value lams s b t e (is_char_array t) (string_token e)) _ _ (value_kept lams q s b t e (is_char_array t) (string_token e))
    (λ d h. ap (λ (z : State). Ok z) (kept_same st d.state n i (first_tree (syntax_place e) d.trees) (inside_object st d.state n h)))

for_same : (lams : Lambdas) → Lawful lams → (s : List Lexeme) (st : State) (n : ℕ) (i : Option ℕ) (e : Option syntax.Tree) → st.ctx.closures ≡ []
    → code.default_for lams s st n i e ≡ rules.default_for lams s st n i e
for_same lams q s st n (Some i) (Some e) c = made_same lams q s st n i (member_type (slice_get (members_in (slice_get st.ctx.classes n)) i)) e c
for_same lams q s st n (Some i) None c = refl
for_same lams q s st n None e c = refl

of_same : (lams : Lambdas) → Lawful lams → (s : List Lexeme) (n : ℕ) (st : State) (t : syntax.Tree) → st.ctx.closures ≡ []
    → code.default_of lams s n st t ≡ rules.default_of lams s n st t
of_same lams q s n st (syntax.node k.MemberDeclarator p (Some t) kids) c =
    for_same lams q s st n (member_index 0 (spelling s t) (members_in (slice_get st.ctx.classes n))) (initialiser_in kids) c
of_same lams q s n st t c = refl

-- no lambdas of a full-expression are at hand
abbrev pub Settled : State → Type 0
Settled st = st.ctx.closures ≡ []

made_settled : (lams : Lambdas) (s : List Lexeme) (st : State) (n i : ℕ) (t : Typ) (e : syntax.Tree) → Settled st
    → On Settled (rules.default_made lams s st n i t e)
made_settled lams s st n i t e c = skip Settled (default_value lams s (rules.in_object st n) t e (is_char_array t) (string_token e)) _ (λ d. c)

for_settled : (lams : Lambdas) (s : List Lexeme) (st : State) (n : ℕ) (i : Option ℕ) (e : Option syntax.Tree) → Settled st
    → On Settled (rules.default_for lams s st n i e)
for_settled lams s st n (Some i) (Some e) c = made_settled lams s st n i (member_type (slice_get (members_in (slice_get st.ctx.classes n)) i)) e c
for_settled lams s st n (Some i) None c = c
for_settled lams s st n None e c = c

of_settled : (lams : Lambdas) (s : List Lexeme) (n : ℕ) (st : State) (t : syntax.Tree) → Settled st → On Settled (rules.default_of lams s n st t)
of_settled lams s n st (syntax.node k.MemberDeclarator p (Some t) kids) c =
    for_settled lams s st n (member_index 0 (spelling s t) (members_in (slice_get st.ctx.classes n))) (initialiser_in kids) c
of_settled lams s n st t c = c

-- Those of a declaration

those_same : (lams : Lambdas) → Lawful lams → (s : List Lexeme) (n : ℕ) (st : State) (t : syntax.Tree) → Settled st
    → code.defaults_of lams s n st t ≡ rules.defaults_of lams s n st t
those_same lams q s n st (syntax.node k.MemberDeclaration p token kids) c =
    each_same Settled (code.default_of lams s n) (rules.default_of lams s n) st kids c (λ x t i. of_same lams q s n x t i) (λ x t i. of_settled lams s n x t i)
those_same lams q s n st t c = refl

those_settled : (lams : Lambdas) (s : List Lexeme) (n : ℕ) (st : State) (t : syntax.Tree) → Settled st → On Settled (rules.defaults_of lams s n st t)
those_settled lams s n st (syntax.node k.MemberDeclaration p token kids) c =
    each_holds Settled (rules.default_of lams s n) st kids c (λ x t i. of_settled lams s n x t i)
those_settled lams s n st t c = c

-- All of a class

pub all_same : (lams : Lambdas) → Lawful lams → (s : List Lexeme) (n : ℕ) (st : State) (ts : syntax.Trees) → Settled st
    → code.all_defaults lams s n st ts ≡ rules.all_defaults lams s n st ts
all_same lams q s n st ts c = each_same Settled (code.defaults_of lams s n) (rules.defaults_of lams s n) st ts c (λ x t i. those_same lams q s n x t i)
    (λ x t i. those_settled lams s n x t i)

pub all_settled : (lams : Lambdas) (s : List Lexeme) (n : ℕ) (st : State) (ts : syntax.Trees) → Settled st → On Settled (rules.all_defaults lams s n st ts)
all_settled lams s n st ts c = each_holds Settled (rules.defaults_of lams s n) st ts c (λ x t i. those_settled lams s n x t i)
