-- Behind the body of a member, and behind an initialiser of a member, stands what stood before it.
use Rattle.std.proofs.Common.{refl, ℕ, suc, Bool, true, List, [], ◌∷◌, Option, Some, None, Result}
use Rattle.std.specs.Prelude.{slice_get, is_none, not}
use Rattle.elab_rules.specs.cpp_types.Typ.{Typ, void, class}
use Rattle.elab_rules.specs.cpp_types.Class.{Member}
use Rattle.elab_rules.specs.cpp_types.declared.classes.At.{At}
use Rattle.elab_rules.specs.cpp_lex.Tokens.{Lexeme}
use Rattle.elab_rules.specs.cpp_ast.declared.kinds.NodeKind.TheVariants as k
use Rattle.elab_rules.specs.cpp_ast.Trees as syntax
use Rattle.elab_rules.specs.cpp_tree.declared.faults.ElabFault.{ElabFault}
use Rattle.elab_rules.specs.cpp_tree.declared.faults.IllRule.TheVariants.{UnknownName, Redeclared, NoMember, OutOfProfile}
use Rattle.elab_rules.specs.cpp_tree.declared.program.FuncKind.{FuncKind}
use Rattle.elab_rules.specs.cpp_tree.declared.program.FuncKind.TheVariants.{Plain, Constructor, Destructor}
use Rattle.elab_rules.specs.cpp_tree.Notation.{plain}
use Rattle.elab_rules.specs.cpp_tree.Typing.{unqualified}
use Rattle.elab_rules.specs.elab_ctx.Ctx.{Ctx, Default}
use Rattle.elab_rules.specs.elab_ctx.Steps.{check, expect, each_of, at_of, spelling}
use Rattle.elab_rules.specs.Names.{members_in}
use Rattle.elab_rules.specs.Calls.{base_of_class}
use Rattle.elab_rules.specs.Types.{type_named}
use Rattle.elab_rules.specs.Strings.{string_bytes}
use Rattle.elab_rules.specs.Braces.{default_at, string_object, string_token, syntax_place, is_char_array}
use Rattle.elab_rules.specs.Expressions.{operands_of}
use Rattle.elab_rules.specs.Statements.{State, Lambdas, with_work, all_lambdas, default_object, directly_initialised, statements_of, full_operand, copy_initialised}
use Rattle.elab_rules.specs.Functions.{Header, with_parameters, defines_well}
use Rattle.elab_rules.specs.Initialising.{func_at}
use Rattle.elab_contexts.proofs.Defined.{Further, further_leaves, definition_further}
use Rattle.elab_rules.specs.Classes.{Method, method_of, body_in, last_token, token_end}
use Rattle.elab_rules.specs.Members.{Given, Giving, member_index, member_type, given_part, given_base, is_named_class, is_base_type, given_for}
use Rattle.elab_rules.specs.Members.{for_part, given_by, all_given, default_built, base_built, member_built, members_built, parts_built, in_object}
use Rattle.elab_rules.specs.Members.{this_type, constructor_body, destructor_body, body_by_kind, method_body, default_value, default_made, default_for, default_of, defaults_of}
use Rattle.elab_rules.specs.Members.{all_defaults, initialiser_in, place_of_header, late_agrees, late_kept, late_method, late_function, late_of, all_late}
use Rattle.elab_fits.specs.Standing.{On}
use Rattle.elab_fits.proofs.Steps.{bind, skip}
use Rattle.elab_contexts.proofs.Works.{same}
use Rattle.elab_contexts.proofs.Walking.{Leaves, stays, after, behind, follow, of_state, of_done, of_full, Ends}
use Rattle.elab_contexts.proofs.Items.{Lawful, work_kept}
use Rattle.elab_contexts.proofs.Works.{Mades, TypesAll, grown, items_added, operands_grow, directly_grows, copy_grows}
use Rattle.elab_contexts.proofs.Statements.{statements_kept, parameters_kept, all_lambdas_kept, full_kept}
use Rattle.elab_contexts.proofs.Bodies.{left_kept, entered_kept, made_kept, function_kept}

pub each_holds : {R : Type 0} (P : R → Type 0) (f : R → syntax.Tree → Result R ElabFault) (r : R) (ts : syntax.Trees) → P r
    → ((x : R) (t : syntax.Tree) → P x → On P (f x t)) → On P (each_of f r ts)
each_holds P f r syntax.none h k = h
each_holds P f r (syntax.more t ts) h k = bind P P (f r t) _ (k r t h) (λ x i. each_holds P f x ts i k)

-- steps over trees, one behind the other
pub each_leaves : (f : State → syntax.Tree → Result State ElabFault) → ((st : State) (t : syntax.Tree) → On (Leaves st) (f st t)) → (st : State)
    (ts : syntax.Trees) → On (Leaves st) (each_of f st ts)
each_leaves f k st ts = each_holds (Leaves st) f st ts (stays st) (λ x t h. behind st x (λ (y : State). y) (f x t) h (k x t))

-- What is written for parts

abbrev pub Gives : Giving → Giving → Type 0
Gives g x = Leaves g.state x.state

pub part_kept : (lams : Lambdas) → Lawful lams → (s : List Lexeme) (n : ℕ) (g : Giving) (i : Option ℕ) (at : At) (t : Typ) (es : syntax.Trees)
    → On (Gives g) (given_part lams s n g i at t es)
part_kept lams q s n g i at t es = skip (Gives g) (check at Redeclared (is_none (given_for i g.given))) _
    (λ y. bind (Leaves g.state) (Gives g) (all_lambdas lams s g.state es) _ (all_lambdas_kept lams q s g.state es)
    (λ st h. bind (TypesAll st.work) (Gives g) (operands_of s st.ctx st.work es) _ (operands_grow s st.ctx st.work es)
    (λ xs a. bind (Mades xs.work) (Gives g) (directly_initialised (for_part st.ctx n i) xs.work t at xs.operands) _
    (directly_grows (for_part st.ctx n i) xs.work t at xs.operands)
    (λ m b. after g.state st (with_work st m.work) h (work_kept st m.work (grown st.work xs.work m.work a b))))))

pub base_kept : (lams : Lambdas) → Lawful lams → (s : List Lexeme) (n : ℕ) (g : Giving) (at : At) (t : Typ) (es : syntax.Trees)
    → On (Gives g) (given_base lams s n g at t es)
base_kept lams q s n g at t es = skip (Gives g) (check at OutOfProfile (not (is_named_class n t))) _
    (λ x. skip (Gives g) (check at NoMember (is_base_type (base_of_class (slice_get g.state.ctx.classes n)) t)) _
    (λ y. part_kept lams q s n g None at (unqualified t) es))

pub by_kept : (lams : Lambdas) → Lawful lams → (s : List Lexeme) (n : ℕ) (g : Giving) (t : syntax.Tree) → On (Gives g) (given_by lams s n g t)
by_kept lams q s n g (syntax.node k.MemberInitializer p (Some t) es) =
    skip (Gives g) (expect (at_of p) NoMember (member_index 0 (spelling s t) (members_in (slice_get g.state.ctx.classes n)))) _
    (λ i. part_kept lams q s n g (Some i) (at_of p) (member_type (slice_get (members_in (slice_get g.state.ctx.classes n)) i)) es)
by_kept lams q s n g (syntax.node k.BaseInitializer p (Some t) es) =
    skip (Gives g) (expect (at_of p) UnknownName (type_named (spelling s t) g.state.ctx.types)) _ (λ u. base_kept lams q s n g (at_of p) u es)
by_kept lams q s n g t = stays g.state

pub by_behind : (lams : Lambdas) → Lawful lams → (s : List Lexeme) (n : ℕ) (a : State) (g : Giving) (t : syntax.Tree) → Leaves a g.state
    → On (λ (x : Giving). Leaves a x.state) (given_by lams s n g t)
by_behind lams q s n a g t h = behind a g.state (λ (x : Giving). x.state) (given_by lams s n g t) h (by_kept lams q s n g t)

pub given_kept : (lams : Lambdas) → Lawful lams → (s : List Lexeme) (n : ℕ) (g : Giving) (ts : syntax.Trees) → On (Gives g) (all_given lams s n g ts)
given_kept lams q s n g ts = each_holds (Gives g) (given_by lams s n) g ts (stays g.state) (λ x t h. by_behind lams q s n g.state x t h)

-- Parts

pub built_grows : (st : State) (at : At) (t : Typ) (d : Option Default) → On (Mades st.work) (default_built st at t d)
built_grows st at t (Some d) = items_added st.work d.frame
built_grows st at t None = skip (Mades st.work) (default_object st.ctx t at) _ (λ e. same st.work)

pub member_kept : (st : State) (at : At) (n i : ℕ) (t : Typ) (g : Option Given) → On (Ends st) (member_built st at n i t g)
member_kept st at n i t (Some g) = stays st
member_kept st at n i t None = bind (Mades st.work) (Ends st) (default_built st at t (default_at n i st.ctx.defaults)) _
    (built_grows st at t (default_at n i st.ctx.defaults)) (λ m h. work_kept st m.work h)

pub members_kept : (at : At) (n : ℕ) (gs : List Given) (st : State) (i : ℕ) (ms : List Member) → On (Ends st) (members_built at n gs st i ms)
members_kept at n gs st i [] = stays st
members_kept at n gs st i (m ∷ ms) = follow of_done of_done st (member_built st at n i m.typ (given_for (Some i) gs)) _
    (member_kept st at n i m.typ (given_for (Some i) gs))
    (λ x. bind (Ends x.state) (Ends x.state) (members_built at n gs x.state (suc i) ms) _ (members_kept at n gs x.state (suc i) ms) (λ y h. h))

pub parts_kept : (st : State) (at : At) (n : ℕ) (gs : List Given) → On (Ends st) (parts_built st at n gs)
parts_kept st at n gs = skip (Ends st) (base_built st at n (base_of_class (slice_get st.ctx.classes n)) (given_for None gs)) _
    (λ b. bind (Ends st) (Ends st) (members_built at n gs st 0 (members_in (slice_get st.ctx.classes n))) _
    (members_kept at n gs st 0 (members_in (slice_get st.ctx.classes n))) (λ d h. h))

-- Bodies

pub object_left : (st : State) (n : ℕ) (y : State) → Leaves (in_object st n) y → Leaves st y
object_left st n y h = left_kept st (in_object st n) y (entered_kept st (plain void) (Some (plain (class n))) (Some n)) h

pub chain : (a b c d e : State) → Leaves a b → Leaves b c → Leaves c d → Leaves d e → Leaves a e
chain a b c d e w x y z = after a b e w (after b c e x (after c d e y z))

pub constructor_kept : (lams : Lambdas) → Lawful lams → (s : List Lexeme) (st : State) (h : Header) (n place : ℕ) (inits : syntax.Trees) (body : syntax.Tree)
    → On (Leaves st) (constructor_body lams s st h n place inits body)
constructor_kept lams q s st h n place inits (syntax.node kind p token kids) =
    bind (Leaves (in_object st n)) (Leaves st) (with_parameters s (in_object st n) h.params) _ (parameters_kept s (in_object st n) h.params)
    (λ y i. bind (λ (g : Giving). Leaves y g.state) (Leaves st) (all_given lams s n (record { state = y; given = [] }) inits) _
    (given_kept lams q s n (record { state = y; given = [] }) inits)
    (λ g j. bind (Ends g.state) (Leaves st) (parts_built g.state h.at n g.given) _ (parts_kept g.state h.at n g.given)
    (λ parts l. bind (Ends parts.state) (Leaves st) (statements_of lams s parts.state kids) _ (statements_kept lams q s parts.state kids)
    (λ d m. made_kept st st d.state h.at place _ refl (object_left st n d.state (chain (in_object st n) y g.state parts.state d.state i j l m))))))

pub destructor_kept : (lams : Lambdas) → Lawful lams → (s : List Lexeme) (st : State) (h : Header) (n place : ℕ) (body : syntax.Tree)
    → On (Leaves st) (destructor_body lams s st h n place body)
destructor_kept lams q s st h n place (syntax.node kind p token kids) =
    bind (Ends (in_object st n)) (Leaves st) (statements_of lams s (in_object st n) kids) _ (statements_kept lams q s (in_object st n) kids)
    (λ d i. made_kept st st d.state h.at place _ refl (object_left st n d.state i))

by_kind_kept : (lams : Lambdas) → Lawful lams → (s : List Lexeme) (st : State) (n place : ℕ) (kind : FuncKind) (m : Method) (body : syntax.Tree)
    → On (Leaves st) (body_by_kind lams s st n place kind m body)
by_kind_kept lams q s st n place Constructor m body = constructor_kept lams q s st m.header n place m.rest body
by_kind_kept lams q s st n place Destructor m body = destructor_kept lams q s st m.header n place body
by_kind_kept lams q s st n place kind m body = function_kept lams q s st m.header (Some (this_type n m.header)) place body

pub method_kept : (lams : Lambdas) → Lawful lams → (s : List Lexeme) (st : State) (n place : ℕ) (kind : FuncKind) (m : Method) (body : syntax.Tree)
    → On (Leaves st) (method_body lams s st n place kind m body)
method_kept lams q s st n place kind m body = skip (Leaves st) (defines_well m.header) _ (λ y. by_kind_kept lams q s st n place kind m body)

-- Initialisers of members in the class

pub value_kept : (lams : Lambdas) → Lawful lams → (s : List Lexeme) (st : State) (t : Typ) (e : syntax.Tree) (b : Bool) (o : Option ℕ)
    → On (Ends st) (default_value lams s st t e b o)
value_kept lams q s st t e true (Some i) = skip (Ends st) (string_object st.ctx t (syntax_place e) (string_bytes (spelling s i))) _ (λ x. stays st)
value_kept lams q s st t e b o = follow of_full of_done st (full_operand lams s st e) _ (full_kept lams q s st e)
    (λ f. bind (Mades f.state.work) (Ends f.state) (copy_initialised f.state.ctx f.state.work t f.operand) _ (copy_grows f.state.ctx f.state.work t f.operand)
    (λ m g. work_kept f.state m.work g))

pub default_kept : (lams : Lambdas) → Lawful lams → (s : List Lexeme) (st : State) (n i : ℕ) (t : Typ) (e : syntax.Tree)
    → On (Leaves st) (default_made lams s st n i t e)
default_kept lams q s st n i t e = bind (Ends (in_object st n)) (Leaves st)
    (default_value lams s (in_object st n) t e (is_char_array t) (string_token e)) _
    (value_kept lams q s (in_object st n) t e (is_char_array t) (string_token e))
    (λ d h. record { walk = (object_left st n d.state h).walk; same = refl; overrides = (object_left st n d.state h).overrides })

pub for_kept : (lams : Lambdas) → Lawful lams → (s : List Lexeme) (st : State) (n : ℕ) (i : Option ℕ) (e : Option syntax.Tree)
    → On (Leaves st) (default_for lams s st n i e)
for_kept lams q s st n (Some i) (Some e) = default_kept lams q s st n i (member_type (slice_get (members_in (slice_get st.ctx.classes n)) i)) e
for_kept lams q s st n (Some i) None = stays st
for_kept lams q s st n None e = stays st

pub of_kept : (lams : Lambdas) → Lawful lams → (s : List Lexeme) (n : ℕ) (st : State) (t : syntax.Tree) → On (Leaves st) (default_of lams s n st t)
of_kept lams q s n st (syntax.node k.MemberDeclarator p (Some t) kids) =
    for_kept lams q s st n (member_index 0 (spelling s t) (members_in (slice_get st.ctx.classes n))) (initialiser_in kids)
of_kept lams q s n st t = stays st

pub those_kept : (lams : Lambdas) → Lawful lams → (s : List Lexeme) (n : ℕ) (st : State) (t : syntax.Tree) → On (Leaves st) (defaults_of lams s n st t)
those_kept lams q s n st (syntax.node k.MemberDeclaration p token kids) = each_leaves (default_of lams s n) (of_kept lams q s n) st kids
those_kept lams q s n st t = stays st

pub defaults_kept : (lams : Lambdas) → Lawful lams → (s : List Lexeme) (n : ℕ) (st : State) (ts : syntax.Trees) → On (Leaves st) (all_defaults lams s n st ts)
defaults_kept lams q s n st ts = each_leaves (defaults_of lams s n) (those_kept lams q s n) st ts

-- Bodies behind the brace

late_further : (c : Ctx) (i : ℕ) (h : Header) (closed : ℕ) → On (Further c) (late_kept c i h closed)
late_further c i h closed = skip (Further c) (late_agrees h closed (func_at c.funcs i)) _
    (λ y. definition_further c i h (func_at c.funcs i).text (func_at c.funcs i).closed_at)

pub late_method_kept : (lams : Lambdas) → Lawful lams → (s : List Lexeme) (st : State) (n : ℕ) (kind : FuncKind) (m : Method) (body : Option syntax.Tree)
    → On (Leaves st) (late_method lams s st n kind m body)
late_method_kept lams q s st n kind m (Some body) =
    skip (Leaves st) (place_of_header st.ctx m.header) _
    (λ place. bind (Further st.ctx) (Leaves st) (late_kept st.ctx place m.header (token_end (slice_get s (last_token (Some body))))) _
    (late_further st.ctx place m.header (token_end (slice_get s (last_token (Some body)))))
    (λ c i. behind st (record st { ctx = c }) of_state (method_body lams s (record st { ctx = c }) n place kind m body) (further_leaves st c i)
    (method_kept lams q s (record st { ctx = c }) n place kind m body)))
late_method_kept lams q s st n kind m None = stays st

pub late_function_kept : (lams : Lambdas) → Lawful lams → (s : List Lexeme) (st : State) (n : ℕ) (name : List ℕ) (at : At) (kind : FuncKind) (kids : syntax.Trees)
    → On (Leaves st) (late_function lams s st n name at kind kids)
late_function_kept lams q s st n name at kind kids =
    skip (Leaves st) (method_of s st n name at kind kids) _ (λ m. late_method_kept lams q s st n kind m (body_in kids))

pub late_of_kept : (lams : Lambdas) → Lawful lams → (s : List Lexeme) (n : ℕ) (name : List ℕ) (st : State) (t : syntax.Tree)
    → On (Leaves st) (late_of lams s n name st t)
late_of_kept lams q s n name st (syntax.node k.FunctionDefinition p token kids) = late_function_kept lams q s st n name (at_of p) Plain kids
late_of_kept lams q s n name st (syntax.node k.ConstructorDefinition p token kids) = late_function_kept lams q s st n name (at_of p) Constructor kids
late_of_kept lams q s n name st (syntax.node k.DestructorDefinition p token kids) = late_function_kept lams q s st n name (at_of p) Destructor kids
late_of_kept lams q s n name st t = stays st

pub all_late_kept : (lams : Lambdas) → Lawful lams → (s : List Lexeme) (n : ℕ) (name : List ℕ) (st : State) (ts : syntax.Trees)
    → On (Leaves st) (all_late lams s n name st ts)
all_late_kept lams q s n name st ts = each_leaves (late_of lams s n name) (late_of_kept lams q s n name) st ts
