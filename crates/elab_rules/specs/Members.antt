-- What stands in the bodies and initialisers of members, in the completed class; implicit members; members that are defined outside their class (C++14 9.3,
-- 12.1, 12.4, 12.6.2, 12.8).
use Rattle.std.specs.Prelude.{ℕ, suc, ◌==◌, Bool, true, false, not, ◌&&◌, ◌||◌, List, [], ◌∷◌, ◌++◌, drop, Option, Some, None, is_some, is_none, Result, Ok}
use Rattle.std.specs.Prelude.{Err, if◌then◌else◌, slice_get, slice_set}
use Rattle.std.specs.List.{list_any}
use Rattle.std.specs.Str.{bytes_eq}
use Rattle.elab_ctx.specs.tx_ints.declared.kinds.IntKind.TheVariants.{ULong}
use Rattle.elab_ctx.specs.cpp_types.Typ.{Typ, typ, void, ptr, class}
use Rattle.elab_ctx.specs.cpp_types.Class.{Class, Member, completion_of}
use Rattle.elab_ctx.specs.cpp_types.Equal.{typ_eq}
use Rattle.elab_ctx.specs.cpp_types.Trivial.{is_destructor_name}
use Rattle.elab_ctx.specs.cpp_types.declared.classes.At.{At}
use Rattle.elab_ctx.specs.cpp_types.declared.ranks.Cat.TheVariants.{Lvalue, Prvalue}
use Rattle.elab_ctx.specs.cpp_lex.Tokens.{Lexeme}
use Rattle.elab_ctx.specs.cpp_ast.declared.kinds.NodeKind.TheVariants as k
use Rattle.elab_ctx.specs.cpp_ast.Trees as syntax
use Rattle.elab_ctx.specs.cpp_tree.declared.kinds.TKind.TheVariants as forms
use Rattle.elab_ctx.specs.cpp_tree.declared.program.FuncKind.{FuncKind}
use Rattle.elab_ctx.specs.cpp_tree.declared.program.FuncKind.TheVariants.{Plain, Constructor, Destructor}
use Rattle.elab_ctx.specs.cpp_tree.declared.program.Linkage.TheVariants.{Inline}
use Rattle.elab_ctx.specs.cpp_tree.declared.faults.ElabFault.{ElabFault}
use Rattle.elab_ctx.specs.cpp_tree.declared.faults.ElabFault.TheVariants.{Ill}
use Rattle.elab_ctx.specs.cpp_tree.declared.faults.IllRule.TheVariants.{UnknownName, Redeclared, TypeDiffers, BadDeclaration, Incomplete, NoMember}
use Rattle.elab_ctx.specs.cpp_tree.declared.faults.IllRule.TheVariants.{OutOfProfile}
use Rattle.elab_ctx.specs.cpp_tree.Trees.{Tree, node, Trees, none, more, one, two}
use Rattle.elab_ctx.specs.cpp_tree.Notation.{plain}
use Rattle.elab_ctx.specs.cpp_tree.Typing.{form_in, unqualified}
use Rattle.elab_ctx.specs.Ctx.{Ctx, Func, This, Default}
use Rattle.elab_ctx.specs.Steps.{and_then, expect, check, each_of, Made, TypedAll, at_of, spelling, token_place}
use Rattle.elab_rules.specs.Values.{size_type, part_at}
use Rattle.elab_rules.specs.Objects.{traits_at, destroys, followed_by}
use Rattle.elab_rules.specs.Initialising.{func_at, same_number, class_number, signature_result}
use Rattle.elab_rules.specs.Names.{held_by, this_pointer, members_in, offset_at}
use Rattle.elab_rules.specs.Calls.{pointer_offset, base_of_class}
use Rattle.elab_rules.specs.Types.{Declared, type_named}
use Rattle.elab_rules.specs.Strings.{string_bytes}
use Rattle.elab_rules.specs.Braces.{string_token, string_object, is_char_array, syntax_place, default_at, default_whole}
use Rattle.elab_rules.specs.Expressions.{operands_of, type_of_specifiers, declared_by}
use Rattle.elab_rules.specs.Statements.{State, Done, Full, Lambdas, statement, full, with_work, full_operand, all_lambdas, default_object, copy_initialised}
use Rattle.elab_rules.specs.Statements.{directly_initialised, statements_of, name_of, values_place}
use Rattle.elab_rules.specs.Functions.{Storage, Header, entered, with_parameters, leaving, body_made, function_body, agrees, first_from, is_same_function}
use Rattle.elab_rules.specs.Functions.{with_definition, text_between, text_sized, defines_well}
use Rattle.elab_rules.specs.Classes.{Home, Members, Begun, begun, based_on, members_of, completed, closed_class, Method, method_of, special_header, header_in}
use Rattle.elab_rules.specs.Classes.{started_from, Started, body_in, last_token, token_end, class_text}

-- The object at hand

abbrev pub own_this : ℕ → This
own_this n = record { typ = plain (class n); place = 0 }

-- into a constructor, a destructor or an initialiser of a member: no result, and the object in place 0
abbrev pub in_object : State → ℕ → State
in_object st n = entered st (plain void) (Some (plain (class n))) (Some n)

-- a member of the object
abbrev pub own_part : List Class → ℕ → At → ℕ → Typ → Tree
own_part classes n at offset t = part_at offset t at (this_pointer at (own_this n))

-- its base
abbrev pub own_base : ℕ → At → ℕ → Tree
own_base n at b = held_by (plain (class b)) (plain (ptr (plain (class n)))) at 0

-- Initialisers of members in the class (9.2 p5): elaborated as wholes, in a function of their own that has only `this`

abbrev pub default_value : Lambdas → List Lexeme → State → Typ → syntax.Tree → Bool → Option ℕ → Result Done ElabFault
default_value lams s st t e true (Some i) = and_then (string_object st.ctx t (syntax_place e) (string_bytes (spelling s i)))
    (λ (x : Tree). Ok (record { trees = one x; state = st }))
default_value lams s st t e b o = and_then (full_operand lams s st e)
    (λ (f : Full). and_then (copy_initialised f.state.ctx f.state.work t f.operand)
    (λ (m : Made). Ok (record { trees = one (full f.operand.at m.tree); state = with_work f.state m.work })))

abbrev pub first_tree : At → Trees → Tree
first_tree at (more t ts) = t
first_tree at none = node forms.Pieces (plain void) Prvalue at none

abbrev pub with_default_member : State → ℕ → ℕ → Tree → State → State
with_default_member before n i e st = record (leaving before st) {
  ctx =
      record (leaving before st).ctx { defaults = before.ctx.defaults ++ record { class = n; member = i; init = e; frame = drop 1 st.work.frame } ∷ [] };
}

abbrev pub default_made : Lambdas → List Lexeme → State → ℕ → ℕ → Typ → syntax.Tree → Result State ElabFault
default_made lams s st n i t e = and_then (default_value lams s (in_object st n) t e (is_char_array t) (string_token e))
    (λ (d : Done). Ok (with_default_member st n i (first_tree (syntax_place e) d.trees) d.state))

-- the expression of an initialiser
abbrev pub initialiser_in : syntax.Trees → Option syntax.Tree
initialiser_in syntax.none = None
initialiser_in (syntax.more (syntax.node k.EqualInitializer p token (syntax.more e syntax.none)) ts) = Some e
initialiser_in (syntax.more (syntax.node k.PureSpecifier p token (syntax.more e syntax.none)) ts) = Some e
initialiser_in (syntax.more t ts) = initialiser_in ts

abbrev pub member_index : ℕ → List ℕ → List Member → Option ℕ
member_index i name [] = None
member_index i name (m ∷ ms) = if bytes_eq m.name name then Some i else member_index (suc i) name ms

abbrev pub member_type : Option Member → Typ
member_type (Some m) = m.typ
member_type None = plain void

abbrev pub default_for : Lambdas → List Lexeme → State → ℕ → Option ℕ → Option syntax.Tree → Result State ElabFault
default_for lams s st n (Some i) (Some e) = default_made lams s st n i (member_type (slice_get (members_in (slice_get st.ctx.classes n)) i)) e
default_for lams s st n i e = Ok st

-- a declarator's initialiser, if it is a data member's
abbrev pub default_of : Lambdas → List Lexeme → ℕ → State → syntax.Tree → Result State ElabFault
default_of lams s n st (syntax.node k.MemberDeclarator p (Some t) kids) =
    default_for lams s st n (member_index 0 (spelling s t) (members_in (slice_get st.ctx.classes n))) (initialiser_in kids)
default_of lams s n st t = Ok st

abbrev pub defaults_of : Lambdas → List Lexeme → ℕ → State → syntax.Tree → Result State ElabFault
defaults_of lams s n st (syntax.node k.MemberDeclaration p token kids) = each_of (default_of lams s n) st kids
defaults_of lams s n st t = Ok st

-- All are made behind the brace, in the order of the text, and before the bodies, which use them; so an initialiser sees only those before it, and its fault
-- comes before those of the bodies.
abbrev pub all_defaults : Lambdas → List Lexeme → ℕ → State → syntax.Trees → Result State ElabFault
all_defaults lams s n = each_of (defaults_of lams s n)

-- Constructors (12.6.2)

-- what is written for the base, or for the member of an index
pub record Given : Type 0 where
  pub member : Option ℕ
  pub at : At
  pub tree : Tree

abbrev pub same_part : Option ℕ → Option ℕ → Bool
same_part (Some i) (Some j) = i == j
same_part None None = true
same_part i j = false

abbrev pub given_for : Option ℕ → List Given → Option Given
given_for i [] = None
given_for i (g ∷ gs) = if same_part i g.member then Some g else given_for i gs

-- the initialisers so far
pub record Giving : Type 0 where
  pub state : State
  pub given : List Given

abbrev pub giving_more : Giving → State → Option ℕ → At → At → Made → Giving
giving_more g st i at p m = record { state = with_work st m.work; given = g.given ++ record { member = i; at = at; tree = full p m.tree } ∷ [] }

-- an object of an abstract class is made as a base (10.4)
abbrev pub as_base_of : Ctx → ℕ → Ctx
as_base_of c b = record c { traits = slice_set c.traits b (record (traits_at c b) { is_abstract = false }) }

abbrev pub for_base : Ctx → Option ℕ → Ctx
for_base c (Some b) = as_base_of c b
for_base c None = c

abbrev pub for_part : Ctx → ℕ → Option ℕ → Ctx
for_part c n None = for_base c (base_of_class (slice_get c.classes n))
for_part c n (Some i) = c

abbrev pub given_values : Lambdas → List Lexeme → ℕ → Giving → State → Option ℕ → At → Typ → syntax.Trees → Result Giving ElabFault
given_values lams s n g st i at t es = and_then (operands_of s st.ctx st.work es)
    (λ (xs : TypedAll). and_then (directly_initialised (for_part st.ctx n i) xs.work t at xs.operands)
    (λ (m : Made). Ok (giving_more g st i at (values_place t at xs.operands) m)))

-- each part is initialised at most once
abbrev pub given_part : Lambdas → List Lexeme → ℕ → Giving → Option ℕ → At → Typ → syntax.Trees → Result Giving ElabFault
given_part lams s n g i at t es = and_then (check at Redeclared (is_none (given_for i g.given)))
    (λ y. and_then (all_lambdas lams s g.state es) (λ (st : State). given_values lams s n g st i at t es))

-- the direct base (profile: not the class itself)
abbrev pub is_named_class : ℕ → Typ → Bool
is_named_class n t = same_number n (class_number t)

abbrev pub is_base_type : Option ℕ → Typ → Bool
is_base_type (Some b) t = is_named_class b t
is_base_type None t = false

abbrev pub given_base : Lambdas → List Lexeme → ℕ → Giving → At → Typ → syntax.Trees → Result Giving ElabFault
given_base lams s n g at t es = and_then (check at OutOfProfile (not (is_named_class n t)))
    (λ x. and_then (check at NoMember (is_base_type (base_of_class (slice_get g.state.ctx.classes n)) t))
    (λ y. given_part lams s n g None at (unqualified t) es))

abbrev pub given_member : Lambdas → List Lexeme → ℕ → Giving → At → List Member → ℕ → syntax.Trees → Result Giving ElabFault
given_member lams s n g at ms i es = given_part lams s n g (Some i) at (member_type (slice_get ms i)) es

abbrev pub given_by : Lambdas → List Lexeme → ℕ → Giving → syntax.Tree → Result Giving ElabFault
given_by lams s n g (syntax.node k.MemberInitializer p (Some t) es) =
    and_then (expect (at_of p) NoMember (member_index 0 (spelling s t) (members_in (slice_get g.state.ctx.classes n))))
    (λ i. given_member lams s n g (at_of p) (members_in (slice_get g.state.ctx.classes n)) i es)
given_by lams s n g (syntax.node k.BaseInitializer p (Some t) es) =
    and_then (expect (at_of p) UnknownName (type_named (spelling s t) g.state.ctx.types)) (λ (u : Typ). given_base lams s n g (at_of p) u es)
given_by lams s n g t = Ok g

-- in the order of the text; the body behind them is none
abbrev pub all_given : Lambdas → List Lexeme → ℕ → Giving → syntax.Trees → Result Giving ElabFault
all_given lams s n = each_of (given_by lams s n)

-- an object's part with its initialiser, and its destructions at the name of the function
abbrev pub part_init : Ctx → At → At → Typ → Tree → Tree → Tree
part_init c at p t object e = statement forms.Init p (more object (more e (destroys c at t)))

-- the base by what is written for it, or from nothing
abbrev pub base_built : State → At → ℕ → Option ℕ → Option Given → Result Trees ElabFault
base_built st at n None g = Ok none
base_built st at n (Some b) (Some g) = Ok (one (part_init st.ctx at g.at (plain (class b)) (own_base n g.at b) g.tree))
base_built st at n (Some b) None = and_then (default_object (as_base_of st.ctx b) (plain (class b)) at)
    (λ (e : Tree). Ok (one (part_init st.ctx at at (plain (class b)) (own_base n at b) e)))

-- the class pointer, which points to the table of the class (10.3, 12.7)
abbrev pub pointer_stored : At → ℕ → Option ℕ → Trees
pointer_stored at n None = none
pointer_stored at n (Some offset) = one (node (forms.Assign ULong false) size_type Lvalue at
    (two (part_at offset size_type at (this_pointer at (own_this n))) (node (forms.ClassTable n) size_type Prvalue at none)))

abbrev pub default_built : State → At → Typ → Option Default → Result Made ElabFault
default_built st at t (Some d) = Ok (default_whole st.work (λ p. this_pointer p (own_this d.class)) d)
default_built st at t None = and_then (default_object st.ctx t at) (λ (e : Tree). Ok (record { tree = e; work = st.work }))

-- a member by what is written for it, by its own initialiser, or from nothing
abbrev pub member_built : State → At → ℕ → ℕ → Typ → Option Given → Result Done ElabFault
member_built st at n i t (Some g) = Ok (record {
  trees = one
      (part_init st.ctx at g.at t (own_part st.ctx.classes n g.at (offset_at st.ctx.classes n i) t) g.tree);
  state = st;
})
member_built st at n i t None = and_then (default_built st at t (default_at n i st.ctx.defaults))
    (λ (m : Made). Ok (record {
      trees = one (part_init st.ctx at at t (own_part st.ctx.classes n at (offset_at st.ctx.classes n i) t) m.tree);
      state =
          with_work st m.work;
    }))

abbrev pub members_built : At → ℕ → List Given → State → ℕ → List Member → Result Done ElabFault
members_built at n gs st i [] = Ok (record { trees = none; state = st })
members_built at n gs st i (m ∷ ms) = and_then (member_built st at n i m.typ (given_for (Some i) gs))
    (λ (x : Done). and_then (members_built at n gs x.state (suc i) ms) (λ (y : Done). Ok (record { trees = followed_by x.trees y.trees; state = y.state })))

-- the parts in order: the base, the class pointer, the members
abbrev pub parts_built : State → At → ℕ → List Given → Result Done ElabFault
parts_built st at n gs = and_then (base_built st at n (base_of_class (slice_get st.ctx.classes n)) (given_for None gs))
    (λ (b : Trees). and_then (members_built at n gs st 0 (members_in (slice_get st.ctx.classes n))) (λ (d : Done).
    Ok (record { trees = followed_by b (followed_by (pointer_stored at n (pointer_offset st.ctx.classes n)) d.trees); state = d.state })))

abbrev pub constructor_tree : At → Trees → Trees → Tree
constructor_tree p parts stmts = statement (forms.Block true) p (followed_by parts (one (statement (forms.Block false) p stmts)))

abbrev pub constructor_block : Lambdas → List Lexeme → State → Header → ℕ → ℕ → Done → syntax.Tree → Result State ElabFault
constructor_block lams s before h n place parts (syntax.node kind p token kids) =
    and_then (statements_of lams s parts.state kids) (λ (d : Done). body_made before h.at place (constructor_tree (at_of p) parts.trees d.trees) d.state)

abbrev pub constructor_body : Lambdas → List Lexeme → State → Header → ℕ → ℕ → syntax.Trees → syntax.Tree → Result State ElabFault
constructor_body lams s st h n place inits body = and_then (with_parameters s (in_object st n) h.params)
    (λ (e : State). and_then (all_given lams s n (record { state = e; given = [] }) inits)
    (λ (g : Giving). and_then (parts_built g.state h.at n g.given) (λ (parts : Done).
    constructor_block lams s st h n place parts body)))

-- Destructors (12.4): the class pointer, then what is to be done behind the block, for the base and for each member

abbrev pub deferred_if : At → Tree → Trees → Trees
deferred_if at object none = none
deferred_if at object (more d ds) = one (statement forms.Defer at (more object (more d ds)))

abbrev pub base_deferred : Ctx → At → ℕ → Option ℕ → Trees
base_deferred c at n (Some b) = deferred_if at (own_base n at b) (destroys c at (plain (class b)))
base_deferred c at n None = none

abbrev pub members_deferred : Ctx → At → ℕ → ℕ → List Member → Trees
members_deferred c at n i [] = none
members_deferred c at n i (m ∷ ms) = followed_by (deferred_if at (own_part c.classes n at (offset_at c.classes n i) m.typ) (destroys c at m.typ))
    (members_deferred c at n (suc i) ms)

abbrev pub destructor_tree : Ctx → At → At → ℕ → Trees → Tree
destructor_tree c at p n stmts = statement (forms.Block false) p
    (followed_by (pointer_stored at n (pointer_offset c.classes n)) (followed_by (base_deferred c at n (base_of_class (slice_get c.classes n)))
    (followed_by (members_deferred c at n 0 (members_in (slice_get c.classes n))) (one (statement (forms.Block false) p stmts)))))

abbrev pub destructor_body : Lambdas → List Lexeme → State → Header → ℕ → ℕ → syntax.Tree → Result State ElabFault
destructor_body lams s st h n place (syntax.node kind p token kids) =
    and_then (statements_of lams s (in_object st n) kids) (λ (d : Done). body_made st h.at place (destructor_tree d.state.ctx h.at (at_of p) n d.trees) d.state)

-- The body of a member

abbrev pub this_type : ℕ → Header → Typ
this_type n h = typ (class n) h.qualifiers.is_const false

abbrev pub body_by_kind : Lambdas → List Lexeme → State → ℕ → ℕ → FuncKind → Method → syntax.Tree → Result State ElabFault
body_by_kind lams s st n place Constructor m body = constructor_body lams s st m.header n place m.rest body
body_by_kind lams s st n place Destructor m body = destructor_body lams s st m.header n place body
body_by_kind lams s st n place kind m body = function_body lams s st m.header (Some (this_type n m.header)) place body

abbrev pub method_body : Lambdas → List Lexeme → State → ℕ → ℕ → FuncKind → Method → syntax.Tree → Result State ElabFault
method_body lams s st n place kind m body = and_then (defines_well m.header) (λ y. body_by_kind lams s st n place kind m body)

-- the function of the class that the header declares
abbrev pub place_of_header : Ctx → Header → Result ℕ ElabFault
place_of_header c h = expect h.at NoMember (first_from (is_same_function h) 0 c.funcs)

-- the header is read again behind the brace: it declares the function that it declared before, which has this body and no other (3.3.7 p1, 9.2 p2)
abbrev pub late_agrees : Header → ℕ → Func → Result Bool ElabFault
late_agrees h closed f = and_then (check h.at Redeclared (not f.is_defined && f.closed_at == closed))
    (λ x. check h.at TypeDiffers (typ_eq (signature_result f.declared.signature) (signature_result h.signature)))

-- the parameters are those of now
abbrev pub late_kept : Ctx → ℕ → Header → ℕ → Result Ctx ElabFault
late_kept c i h closed = and_then (late_agrees h closed (func_at c.funcs i))
    (λ x. Ok (with_definition c i h (func_at c.funcs i).text (func_at c.funcs i).closed_at))

abbrev pub late_method : Lambdas → List Lexeme → State → ℕ → FuncKind → Method → Option syntax.Tree → Result State ElabFault
late_method lams s st n kind m (Some body) = and_then (place_of_header st.ctx m.header)
    (λ place. and_then (late_kept st.ctx place m.header (token_end (slice_get s (last_token (Some body)))))
    (λ (c : Ctx). method_body lams s (record st { ctx = c }) n place kind m body))
late_method lams s st n kind m None = Ok st

abbrev pub late_function : Lambdas → List Lexeme → State → ℕ → List ℕ → At → FuncKind → syntax.Trees → Result State ElabFault
late_function lams s st n name at kind kids = and_then (method_of s st n name at kind kids) (λ (m : Method). late_method lams s st n kind m (body_in kids))

-- a member's body, if it has one
abbrev pub late_of : Lambdas → List Lexeme → ℕ → List ℕ → State → syntax.Tree → Result State ElabFault
late_of lams s n name st (syntax.node k.FunctionDefinition p token kids) = late_function lams s st n name (at_of p) Plain kids
late_of lams s n name st (syntax.node k.ConstructorDefinition p token kids) = late_function lams s st n name (at_of p) Constructor kids
late_of lams s n name st (syntax.node k.DestructorDefinition p token kids) = late_function lams s st n name (at_of p) Destructor kids
late_of lams s n name st t = Ok st

abbrev pub all_late : Lambdas → List Lexeme → ℕ → List ℕ → State → syntax.Trees → Result State ElabFault
all_late lams s n name = each_of (late_of lams s n name)

-- Members that are defined outside their class (9.3 p2, 12.1, 12.4)

abbrev pub is_member_named : ℕ → List ℕ → Func → Bool
is_member_named n name f = same_number n f.class && bytes_eq f.declared.name name

-- a destructor is `noexcept` (profile)
abbrev pub with_noexcept : Header → Header
with_noexcept h = record h { qualifiers = record h.qualifiers { no_except = h.qualifiers.no_except || is_destructor_name h.name } }

abbrev pub outside_agrees : Header → Func → Result Bool ElabFault
outside_agrees h f = agrees (with_noexcept h) f true

-- what stands before its type: it may be inline
abbrev pub outside_words : Header → Result Bool ElabFault
outside_words h = and_then (check h.at OutOfProfile (not h.storage.is_c))
    (λ x. check h.at BadDeclaration (not h.storage.is_virtual && not h.storage.is_static && not h.storage.is_extern))

abbrev pub outside_linkage : Storage → Func → Func
outside_linkage x f = if x.is_inline then record f { linkage = Inline } else f

abbrev pub outside_text : List Lexeme → Storage → ℕ → ℕ → List ℕ
outside_text s x first last = if x.is_inline then text_between s first last else []

abbrev pub linked_definition : Ctx → ℕ → Storage → Ctx
linked_definition c i x = record c { funcs = slice_set c.funcs i (outside_linkage x (func_at c.funcs i)) }

abbrev pub outside_defined : List Lexeme → Ctx → ℕ → Header → ℕ → ℕ → Ctx
outside_defined s c i h first last = linked_definition (with_definition c i h (outside_text s h.storage first last) (token_end (slice_get s last))) i h.storage

abbrev pub outside_body : Lambdas → List Lexeme → State → ℕ → FuncKind → ℕ → Method → syntax.Tree → Result State ElabFault
outside_body lams s st n kind first m body = and_then (text_sized m.header.at (outside_text s m.header.storage first (last_token (Some body))))
    (λ v. and_then (outside_words m.header) (λ w. and_then (check m.header.at NoMember (list_any (is_member_named n m.header.name) st.ctx.funcs))
    (λ x. and_then (expect m.header.at TypeDiffers (first_from (is_same_function m.header) 0 st.ctx.funcs)) (λ place.
    and_then (outside_agrees m.header (func_at st.ctx.funcs place))
    (λ y. method_body lams s (record st { ctx = outside_defined s st.ctx place m.header first (last_token (Some body)) }) n place kind m body)))))

-- the class that stands before `::`
abbrev pub owner_class : Ctx → At → Typ → Result ℕ ElabFault
owner_class c at t = and_then (expect at OutOfProfile (class_number t)) (λ n. and_then (check at Incomplete (is_some (completion_of c.classes n))) (λ y. Ok n))

abbrev pub name_of_class : Option Class → List ℕ
name_of_class (Some c) = c.name
name_of_class None = []

abbrev pub owner_named : List Lexeme → Ctx → At → Option ℕ → Result ℕ ElabFault
owner_named s c at o = and_then (expect at BadDeclaration o)
    (λ t. and_then (expect at UnknownName (type_named (spelling s t) c.types)) (λ (u : Typ). owner_class c at u))

abbrev pub outside_plain : List Lexeme → State → At → Storage → syntax.Trees → Declared → Result Method ElabFault
outside_plain s st at x rest r = and_then (owner_named s st.ctx at r.owner)
    (λ n. and_then (header_in n x Plain at (name_of s r.name) r (form_in r.typ)) (λ (h : Header). Ok (record { header = h; rest = rest })))

abbrev pub outside_special : List Lexeme → State → At → Storage → FuncKind → syntax.Trees → Declared → Result Method ElabFault
outside_special s st at x kind rest r = and_then (owner_named s st.ctx at r.owner)
    (λ n. and_then (special_header n (name_of_class (slice_get st.ctx.classes n)) at x kind r (name_of s r.name))
    (λ (h : Header). Ok (record { header = h; rest = rest })))

abbrev pub outside_method : List Lexeme → State → At → Storage → FuncKind → syntax.Trees → Result Method ElabFault
outside_method s st at x Plain (syntax.more base (syntax.more d rest)) =
    and_then (type_of_specifiers s st.ctx st.work base)
    (λ (t : Typ). and_then (declared_by s st.ctx st.work at t d) (λ (r : Declared). outside_plain s st at x rest r))
outside_method s st at x Plain ts = Err (Ill at OutOfProfile)
outside_method s st at x kind (syntax.more d rest) = and_then (declared_by s st.ctx st.work at (plain void) d)
    (λ (r : Declared). outside_special s st at x kind rest r)
outside_method s st at x kind ts = Err (Ill at OutOfProfile)

abbrev pub outside_with : Lambdas → List Lexeme → State → At → FuncKind → ℕ → Method → Option syntax.Tree → Result State ElabFault
outside_with lams s st at kind first m (Some body) = and_then (expect at BadDeclaration m.header.class) (λ n. outside_body lams s st n kind first m body)
outside_with lams s st at kind first m None = Err (Ill at BadDeclaration)

-- a definition of a member, with what stands round it; a constructor or destructor that has no body here declares nothing
abbrev pub outside_started : Lambdas → List Lexeme → State → At → FuncKind → ℕ → Option syntax.Tree → Started → Result State ElabFault
outside_started lams s st at kind first body x = and_then (outside_method s st at x.storage kind x.rest)
    (λ (m : Method). outside_with lams s st at kind first m body)

abbrev pub member_defined : Lambdas → List Lexeme → Storage → State → At → FuncKind → ℕ → syntax.Trees → Result State ElabFault
member_defined lams s x st at kind first kids = outside_started lams s st at kind first (body_in kids) (started_from s x kids)

-- The class: its head, its members, and behind the brace what stands in them (9, 9.2 p2)

abbrev pub declared_only : State → At → List ℕ → Result State ElabFault
declared_only st at name = and_then (begun st.ctx at name false) (λ (b : Begun). Ok (record st { ctx = b.ctx }))

abbrev pub is_final_word : syntax.Tree → Bool
is_final_word (syntax.node k.VirtSpecifier p token kids) = true
is_final_word t = false

abbrev pub has_final : syntax.Trees → Bool
has_final syntax.none = false
has_final (syntax.more t ts) = is_final_word t || has_final ts

-- the base that is named in the head, if one is
abbrev pub base_named : List Lexeme → Ctx → syntax.Trees → Result (Option ℕ) ElabFault
base_named s c syntax.none = Ok None
base_named s c (syntax.more (syntax.node k.BaseSpecifier p (Some t) kids) ts) =
    and_then (based_on c (token_place s p.source t) (spelling s t)) (λ b. Ok (Some b))
base_named s c (syntax.more t ts) = base_named s c ts

abbrev pub members_among : syntax.Trees → syntax.Trees
members_among syntax.none = syntax.none
members_among (syntax.more (syntax.node k.MemberSpecification p token members) ts) = members
members_among (syntax.more t ts) = members_among ts

abbrev pub class_closed : Lambdas → List Lexeme → Home → At → Members → syntax.Trees → Result State ElabFault
class_closed lams s home at r members = and_then (closed_class at home.number (completed r.state.ctx home at r.members r.initialised))
    (λ (c : Ctx). and_then (all_defaults lams s home.number (record r.state { ctx = c }) members)
    (λ (st : State). all_late lams s home.number home.name st members))

abbrev pub class_with : Lambdas → List Lexeme → State → At → Home → syntax.Trees → Result State ElabFault
class_with lams s st at home members = and_then (members_of s home (record { state = st; members = []; initialised = [] }) members)
    (λ (r : Members). class_closed lams s home at r members)

abbrev pub class_defined : Lambdas → List Lexeme → State → At → List ℕ → syntax.Trees → Result State ElabFault
class_defined lams s st at name kids = and_then (text_sized at (class_text s kids))
    (λ z. and_then (begun st.ctx at name true) (λ (b : Begun). and_then (base_named s b.ctx kids) (λ (base : Option ℕ).
    class_with lams s (record st { ctx = b.ctx }) at (record { number = b.number; name = name; base = base; is_final = has_final kids }) (members_among kids))))
