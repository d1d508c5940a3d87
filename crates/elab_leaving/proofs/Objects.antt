-- Bodies of members leave what stands round them, so that those the code makes are those of the definitions.
use Rattle.std.proofs.Common.{◌≡◌, ℕ, suc, List, [], ◌∷◌, ap, ◌∙◌, Option, Some, None}
use Rattle.elab_rules.specs.cpp_types.Typ.{Typ, void, class}
use Rattle.elab_rules.specs.cpp_types.Class.{Member}
use Rattle.elab_rules.specs.cpp_types.declared.classes.At.{At}
use Rattle.elab_rules.specs.cpp_lex.Tokens.{Lexeme}
use Rattle.elab_rules.specs.cpp_ast.declared.kinds.NodeKind.TheVariants as k
use Rattle.elab_rules.specs.cpp_ast.Trees as syntax
use Rattle.elab_rules.specs.cpp_tree.declared.program.FuncKind.{FuncKind}
use Rattle.elab_rules.specs.cpp_tree.declared.program.FuncKind.TheVariants.{Constructor, Destructor}
use Rattle.elab_rules.specs.cpp_tree.declared.faults.IllRule.TheVariants.{UnknownName, Redeclared, NoMember, OutOfProfile}
use Rattle.elab_rules.specs.cpp_tree.Notation.{plain}
use Rattle.elab_rules.specs.cpp_tree.Typing.{unqualified}
use Rattle.elab_rules.specs.elab_ctx.Ctx.{Default}
use Rattle.elab_rules.specs.elab_ctx.Steps.{and_then, check, expect, at_of, spelling}
use Rattle.elab_rules.specs.Names.{members_in}
use Rattle.elab_rules.specs.Calls.{base_of_class}
use Rattle.elab_rules.specs.Types.{type_named}
use Rattle.elab_rules.specs.Braces.{default_at}
use Rattle.elab_rules.specs.Expressions.{operands_of}
use Rattle.elab_rules.specs.Statements.{State, Lambdas, with_work, all_lambdas, default_object, directly_initialised, statements_of}
use Rattle.elab_rules.specs.Functions.{Header, with_parameters, defines_well}
use Rattle.elab_rules.specs.Classes.{Method}
use Rattle.elab_rules.specs.Members as rules
use Rattle.elab_rules.specs.Members.{Given, Giving, member_index, member_type, given_part, given_base, given_member, is_named_class, is_base_type, given_for}
use Rattle.elab_rules.specs.Members.{for_part, given_by, all_given, default_built, base_built, member_built, members_built, parts_built, constructor_tree}
use Rattle.elab_rules.specs.Members.{destructor_tree, this_type}
use Rattle.std.specs.Prelude.{slice_get, is_none, not}
use Rattle.elab_implicit.specs.Implied as implicit
use Rattle.elab_members.specs.Bodies as code
use Rattle.elab_leaving.specs.Kept.{Leaves, Inside, On, Lawful}
use Rattle.elab_leaving.proofs.Keeping.{bind, skip, stays, after, behind, follow, of_done, Ends, begins_refl, begins_trans, work_kept}
use Rattle.elab_leaving.proofs.Growing.{Mades, TypesAll, operands_grow, directly_grows}
use Rattle.elab_leaving.proofs.Answers.{same_after, same_behind, nest, each_holds}
use Rattle.elab_leaving.proofs.Statements.{statements_kept, parameters_kept, all_lambdas_kept}
use Rattle.elab_leaving.proofs.Leaving.{entered_same, inside_function, made_function, function_same}

-- What is written for parts

abbrev Gives : Giving → Giving → Type 0
Gives g x = Leaves g.state x.state

part_kept : (lams : Lambdas) → Lawful lams → (s : List Lexeme) (n : ℕ) (g : Giving) (i : Option ℕ) (at : At) (t : Typ) (es : syntax.Trees)
    → On (Gives g) (given_part lams s n g i at t es)
part_kept lams q s n g i at t es = skip (Gives g) (check at Redeclared (is_none (given_for i g.given))) _
    (λ y. bind (Leaves g.state) (Gives g) (all_lambdas lams s g.state es) _ (all_lambdas_kept lams q s g.state es)
    (λ st h. bind (TypesAll st.work) (Gives g) (operands_of s st.ctx st.work es) _ (operands_grow s st.ctx st.work es)
    (λ xs a. bind (Mades xs.work) (Gives g) (directly_initialised (for_part st.ctx n i) xs.work t at xs.operands) _
    (directly_grows (for_part st.ctx n i) xs.work t at xs.operands)
    (λ m b. after g.state st (with_work st m.work) h (work_kept st m.work (begins_trans st.work.globals xs.work.globals m.work.globals a b))))))

base_kept : (lams : Lambdas) → Lawful lams → (s : List Lexeme) (n : ℕ) (g : Giving) (at : At) (t : Typ) (es : syntax.Trees)
    → On (Gives g) (given_base lams s n g at t es)
base_kept lams q s n g at t es = skip (Gives g) (check at OutOfProfile (not (is_named_class n t))) _
    (λ x. skip (Gives g) (check at NoMember (is_base_type (base_of_class (slice_get g.state.ctx.classes n)) t)) _
    (λ y. part_kept lams q s n g None at (unqualified t) es))

by_kept : (lams : Lambdas) → Lawful lams → (s : List Lexeme) (n : ℕ) (g : Giving) (t : syntax.Tree) → On (Gives g) (given_by lams s n g t)
by_kept lams q s n g (syntax.node k.MemberInitializer p (Some t) es) =
    skip (Gives g) (expect (at_of p) NoMember (member_index 0 (spelling s t) (members_in (slice_get g.state.ctx.classes n)))) _
    (λ i. part_kept lams q s n g (Some i) (at_of p) (member_type (slice_get (members_in (slice_get g.state.ctx.classes n)) i)) es)
by_kept lams q s n g (syntax.node k.BaseInitializer p (Some t) es) =
    skip (Gives g) (expect (at_of p) UnknownName (type_named (spelling s t) g.state.ctx.types)) _ (λ u. base_kept lams q s n g (at_of p) u es)
by_kept lams q s n g t = stays g.state

by_behind : (lams : Lambdas) → Lawful lams → (s : List Lexeme) (n : ℕ) (a : State) (g : Giving) (t : syntax.Tree) → Leaves a g.state
    → On (λ (x : Giving). Leaves a x.state) (given_by lams s n g t)
by_behind lams q s n a g t h = behind a g.state (λ (x : Giving). x.state) (given_by lams s n g t) h (by_kept lams q s n g t)

given_kept : (lams : Lambdas) → Lawful lams → (s : List Lexeme) (n : ℕ) (g : Giving) (ts : syntax.Trees) → On (Gives g) (all_given lams s n g ts)
given_kept lams q s n g ts = each_holds (Gives g) (given_by lams s n) g ts (stays g.state) (λ x t h. by_behind lams q s n g.state x t h)

-- Parts

built_grows : (st : State) (at : At) (t : Typ) (d : Option Default) → On (Mades st.work) (default_built st at t d)
built_grows st at t (Some d) = begins_refl st.work.globals
built_grows st at t None = skip (Mades st.work) (default_object st.ctx t at) _ (λ e. begins_refl st.work.globals)

member_kept : (st : State) (at : At) (n i : ℕ) (t : Typ) (g : Option Given) → On (Ends st) (member_built st at n i t g)
member_kept st at n i t (Some g) = stays st
member_kept st at n i t None = bind (Mades st.work) (Ends st) (default_built st at t (default_at n i st.ctx.defaults)) _
    (built_grows st at t (default_at n i st.ctx.defaults)) (λ m h. work_kept st m.work h)

members_kept : (at : At) (n : ℕ) (gs : List Given) (st : State) (i : ℕ) (ms : List Member) → On (Ends st) (members_built at n gs st i ms)
members_kept at n gs st i [] = stays st
members_kept at n gs st i (m ∷ ms) = follow of_done of_done st (member_built st at n i m.typ (given_for (Some i) gs)) _
    (member_kept st at n i m.typ (given_for (Some i) gs))
    (λ x. bind (Ends x.state) (Ends x.state) (members_built at n gs x.state (suc i) ms) _ (members_kept at n gs x.state (suc i) ms) (λ y h. h))

pub parts_kept : (st : State) (at : At) (n : ℕ) (gs : List Given) → On (Ends st) (parts_built st at n gs)
parts_kept st at n gs = skip (Ends st) (base_built st at n (base_of_class (slice_get st.ctx.classes n)) (given_for None gs)) _
    (λ b. bind (Ends st) (Ends st) (members_built at n gs st 0 (members_in (slice_get st.ctx.classes n))) _
    (members_kept at n gs st 0 (members_in (slice_get st.ctx.classes n))) (λ d h. h))

-- Into an object

pub object_same : (st : State) (n : ℕ) → st.ctx.closures ≡ [] → implicit.in_object st n ≡ rules.in_object st n
object_same st n e = entered_same st (plain void) (Some (plain (class n))) (Some n) e

pub inside_object : (st x : State) (n : ℕ) → Leaves (rules.in_object st n) x → Inside st x
inside_object st x n h = inside_function st x (plain void) (Some (plain (class n))) (Some n) h

-- Constructors and destructors

-- from what stands at the beginning of a body to what stands at its end
chain : (a b c d e : State) → Leaves a b → Leaves b c → Leaves c d → Leaves d e → Leaves a e
chain a b c d e w x y z = after a b e w (after b c e x (after c d e y z))

constructor_same : (lams : Lambdas) → Lawful lams → (s : List Lexeme) (st : State) (h : Header) (n place : ℕ) (inits : syntax.Trees) (body : syntax.Tree)
    → st.ctx.closures ≡ [] → code.constructor_body lams s st h n place inits body ≡ rules.constructor_body lams s st h n place inits body
constructor_same lams q s st h n place inits (syntax.node kind p token kids) e =
    let b : State = rules.in_object st n in
    ap (λ (z : State). and_then (code.constructor_inside lams s z h n inits (syntax.node kind p token kids)) (code.kept st h place)) (object_same st n e)
    ∙ nest (with_parameters s b h.params) _ (code.kept st h place)
    ∙ same_after (Leaves b) (with_parameters s b h.params) _ _ (parameters_kept s b h.params) (λ y i.
    nest (all_given lams s n (record { state = y; given = [] }) inits) _ (code.kept st h place)
    ∙ same_after (λ (g : Giving). Leaves y g.state) (all_given lams s n (record { state = y; given = [] }) inits) _ _
    (given_kept lams q s n (record { state = y; given = [] }) inits) (λ g j.
    nest (parts_built g.state h.at n g.given) _ (code.kept st h place)
    ∙ same_after (Ends g.state) (parts_built g.state h.at n g.given) _ _ (parts_kept g.state h.at n g.given) (λ parts l.
    nest (statements_of lams s parts.state kids) _ (code.kept st h place)
    ∙ same_after (Ends parts.state) (statements_of lams s parts.state kids) _ _ (statements_kept lams q s parts.state kids) (λ d m.
    made_function st d.state h.at place (constructor_tree (at_of p) parts.trees d.trees)
    (inside_object st d.state n (chain b y g.state parts.state d.state i j l m))))))

destructor_same : (lams : Lambdas) → Lawful lams → (s : List Lexeme) (st : State) (h : Header) (n place : ℕ) (body : syntax.Tree) → st.ctx.closures ≡ []
    → code.destructor_body lams s st h n place body ≡ rules.destructor_body lams s st h n place body
destructor_same lams q s st h n place (syntax.node kind p token kids) e =
    let b : State = rules.in_object st n in
    ap (λ (z : State). and_then (code.destructor_inside lams s z h n (syntax.node kind p token kids)) (code.kept st h place)) (object_same st n e)
    ∙ nest (statements_of lams s b kids) _ (code.kept st h place)
    ∙ same_after (Ends b) (statements_of lams s b kids) _ _ (statements_kept lams q s b kids) (λ d i.
    made_function st d.state h.at place (destructor_tree d.state.ctx h.at (at_of p) n d.trees) (inside_object st d.state n i))

by_kind_same : (lams : Lambdas) → Lawful lams → (s : List Lexeme) (st : State) (n place : ℕ) (kind : FuncKind) (m : Method) (body : syntax.Tree)
    → st.ctx.closures ≡ [] → code.body_by_kind lams s st n place kind m.header m.rest body ≡ rules.body_by_kind lams s st n place kind m body
by_kind_same lams q s st n place Constructor m body e = constructor_same lams q s st m.header n place m.rest body e
by_kind_same lams q s st n place Destructor m body e = destructor_same lams q s st m.header n place body e
by_kind_same lams q s st n place kind m body e = function_same lams q s st m.header (Some (this_type n m.header)) place body e

pub method_same : (lams : Lambdas) → Lawful lams → (s : List Lexeme) (st : State) (n place : ℕ) (kind : FuncKind) (m : Method) (body : syntax.Tree)
    → st.ctx.closures ≡ [] → code.method_body lams s st n place kind m.header m.rest body ≡ rules.method_body lams s st n place kind m body
method_same lams q s st n place kind m body e = same_behind (defines_well m.header) _ _ (λ y. by_kind_same lams q s st n place kind m body e)
