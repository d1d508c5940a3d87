-- The members of a class, in the order of the text.
use Rattle.std.proofs.Common.{◌≡◌, refl, sym, ◌∙◌, ℕ, Bool, true, not, ◌&&◌, ◌||◌, List, Option, Some, None, Result, is_some, is_none}
use Rattle.std.proofs.lemmas.Bool.{and_parts}
use Rattle.cpp_lex.specs.Tokens.{Lexeme}
use Rattle.cpp_ast.specs.declared.kinds.NodeKind.TheVariants as k
use Rattle.cpp_ast.specs.Trees as syntax
use Rattle.elab_rules.specs.cpp_types.Class.{held}
use Rattle.elab_rules.specs.cpp_types.Typ.{Typ, Form, func}
use Rattle.elab_rules.specs.cpp_types.declared.classes.At.{At}
use Rattle.elab_rules.specs.cpp_tree.Typing.{form_in}
use Rattle.elab_rules.specs.cpp_tree.declared.faults.ElabFault.{ElabFault}
use Rattle.elab_rules.specs.cpp_tree.declared.program.FuncKind.{FuncKind}
use Rattle.elab_rules.specs.cpp_tree.declared.program.FuncKind.TheVariants.{Plain, Constructor, Destructor}
use Rattle.elab_rules.specs.cpp_tree.declared.faults.IllRule.TheVariants.{AbstractObject, BadDeclaration, Incomplete, OutOfProfile, Redeclared}
use Rattle.elab_rules.specs.elab_ctx.Steps.{at_of, check, each_of}
use Rattle.elab_rules.specs.Types.{Declared, has_auto, is_bounded, is_abstract_type}
use Rattle.elab_rules.specs.Objects.{element_of}
use Rattle.elab_rules.specs.Operators.{is_complete}
use Rattle.elab_rules.specs.Sizes.{typ_sized}
use Rattle.elab_rules.specs.Expressions.{declared_by, type_of_specifiers}
use Rattle.elab_rules.specs.Statements.{name_of, is_own_name}
use Rattle.elab_rules.specs.Functions.{Header, Storage, no_storage, first_from, header_sized, is_same_function, new_function}
use Rattle.elab_rules.specs.Classes.{Home, Members, Marks, Definition, Method, Started, started_from, header_in, method_of, member_function, data_member}
use Rattle.elab_rules.specs.Classes.{declared_method, declared_member, member_declarator, member_declarators, member_of, member_form, member_named}
use Rattle.elab_rules.specs.Classes.{has_member, has_function, overridden, overrides_well, marks_fit, definition_sized, within_bounds, declarator_among, marks_from}
use Rattle.elab_rules.specs.Classes.{no_marks, no_function_words, has_equal, has_initialiser, definition_between, last_token, body_in}
use Rattle.elab_fits.specs.Standing.{On}
use Rattle.elab_fits.proofs.Steps.{bind, skip}
use Rattle.elab_read_texts.specs.Names.{is_class_name, is_plain_token, is_declarator, is_declared_plainly, declares_plainly, declare_plainly}
use Rattle.elab_read_texts.specs.Names.{is_named, are_named}
use Rattle.elab_contexts.specs.Overriders.{HasOverridersBy}
use Rattle.elab_read_texts.specs.Overriding.{MembersOverride}
use Rattle.elab_read_texts.proofs.Declared.{declared_plainly}
use Rattle.elab_read_texts.proofs.Overriding.{IsFit, function_added}
use Rattle.elab_read_texts.proofs.Methods.{IsHeader, header_is, plain_header, started_plainly, function_fits, constructor_fits, destructor_fits}

abbrev Good : List Lexeme → Members → Type 0
Good s r = HasOverridersBy (is_class_name s) r.state.ctx.funcs

data_named : (s : List Lexeme) (home : Home) (r : Members) (at : At) (name : List ℕ) (t : Typ) (b : Bool) → Good s r
    → On (Good s) (data_member home.number r at name t b)
data_named s home r at name t b g = skip (Good s) (member_form at (form_in t)) _
    (λ a. skip (Good s) (check at OutOfProfile (not (has_auto t))) _
    (λ b2. skip (Good s) (check at BadDeclaration (is_bounded t)) _
    (λ d. skip (Good s) (check at Incomplete (is_complete r.state.ctx (held t))) _
    (λ e. skip (Good s) (check at AbstractObject (not (is_abstract_type r.state.ctx (element_of t)))) _
    (λ f. skip (Good s) (typ_sized r.state.ctx.classes at t) _
    (λ h. skip (Good s)
    (check at Redeclared (not (has_member name r.members) && not (has_function home.number name r.state.ctx.funcs))) _
    (λ i. g)))))))

function_named : (s : List Lexeme) (home : Home) (r : Members) (h : Header) (m : Marks) (d : Option Definition) → is_class_name s home.name ≡ true
    → IsFit s home h → Good s r → On (Good s) (member_function home r h m d)
function_named s home r h m d n x g = skip (Good s)
    (check h.at Redeclared (is_none (first_from (is_same_function h) 0 r.state.ctx.funcs) && not (has_member h.name r.members))) _
    (λ y. skip (Good s) (overrides_well h (overridden r.state.ctx home.base (new_function h).declared)) _
    (λ z. skip (Good s) (marks_fit h m (is_some (overridden r.state.ctx home.base (new_function h).declared))
    (h.storage.is_virtual || is_some (overridden r.state.ctx home.base (new_function h).declared))) _
    (λ v. skip (Good s) (header_sized r.state.ctx h) _ (λ u. skip (Good s) (definition_sized h.at d) _
    (λ w. function_added s home r h m d (overridden r.state.ctx home.base (new_function h).declared) n x g)))))

method_named : (s : List Lexeme) (home : Home) (r : Members) (kind : FuncKind) (at : At) (d : Option Definition) (kids : syntax.Trees)
    → is_class_name s home.name ≡ true → On (λ (m : Method). IsFit s home m.header) (method_of s r.state home.number home.name at kind kids)
    → Good s r → On (Good s) (declared_method s home r kind at d kids)
method_named s home r kind at d kids n x g = skip (Good s) (within_bounds (declarator_among s home.number r kids)) _
    (λ w. bind (λ (m : Method). IsFit s home m.header) (Good s) (method_of s r.state home.number home.name at kind kids) _ x
    (λ m i. function_named s home r m.header (marks_from s no_marks m.rest) d n i g))

declared_named : (s : List Lexeme) (home : Home) (r : Members) (at : At) (x : Storage) (m : Marks) (rest : syntax.Trees) (d : Declared) (f : Form)
    → is_class_name s home.name ≡ true → is_plain_token s d.name ≡ true → Good s r
    → On (Good s) (declared_member home r at x m rest (name_of s d.name) d f)
declared_named s home r at x m rest d (func sig) n e g =
    skip (Good s) (check at BadDeclaration (not (has_equal rest))) _
    (λ y. bind (IsHeader x Plain (name_of s d.name)) (Good s) (header_in home.number x Plain at (name_of s d.name) d (func sig)) _
    (header_is home.number x Plain at (name_of s d.name) d (func sig))
    (λ h i. function_named s home r h m None n (plain_header s home x d.name h e i) g))
declared_named s home r at x m rest d f n e g = skip (Good s) (check at BadDeclaration (no_function_words x m)) _
    (λ y. data_named s home r at (name_of s d.name) d.typ (has_initialiser rest) g)

declarator_named : (s : List Lexeme) (home : Home) (x : Storage) (t : Typ) (r : Members) (d : syntax.Tree) → is_class_name s home.name ≡ true
    → declares_plainly s d ≡ true → Good s r → On (Good s) (member_declarator s home x t r d)
declarator_named s home x t r (syntax.node kind p token (syntax.more d rest)) n h g =
    let m = and_parts (is_declared_plainly s (is_declarator kind) token) (declare_plainly s (syntax.more d rest)) h in
    let e = (and_parts (declares_plainly s d) (declare_plainly s rest) m.1).0 in
    skip (Good s) (within_bounds (member_named s home.number r d)) _
    (λ w. bind (λ (y : Declared). is_plain_token s y.name ≡ true) (Good s) (declared_by s r.state.ctx r.state.work (at_of p) t d) _
    (declared_plainly s r.state.ctx r.state.ctx.closures r.state.work (at_of p) t d e)
    (λ y i. skip (Good s) (check (at_of p) BadDeclaration (is_own_name y)) _
    (λ z. declared_named s home r (at_of p) x (marks_from s no_marks rest) rest y (form_in y.typ) n i g)))
declarator_named s home x t r (syntax.node kind p token syntax.none) n h g = tt

-- one behind the other
each_named : (P : Members → Type 0) (f : Members → syntax.Tree → Result Members ElabFault) (test : syntax.Tree → Bool) (tests : syntax.Trees → Bool)
    → ((t : syntax.Tree) (ts : syntax.Trees) → tests (syntax.more t ts) ≡ (test t && tests ts))
    → ((r : Members) (t : syntax.Tree) → test t ≡ true → P r → On P (f r t)) → (r : Members) (ts : syntax.Trees) → tests ts ≡ true → P r → On P (each_of f r ts)
each_named P f test tests is step r syntax.none h g = g
each_named P f test tests is step r (syntax.more t ts) h g =
    let m = and_parts (test t) (tests ts) (sym (is t ts) ∙ h) in
    bind P P (f r t) _ (step r t m.0 g) (λ y i. each_named P f test tests is step y ts m.1 i)

declarators_named : (s : List Lexeme) (home : Home) (r : Members) (at : At) (x : Started) (ds : syntax.Trees) → is_class_name s home.name ≡ true
    → declare_plainly s ds ≡ true → Good s r → On (Good s) (member_declarators s home r at x ds)
declarators_named s home r at x (syntax.more base ds) n h g =
    skip (Good s) (type_of_specifiers s r.state.ctx r.state.work base) _
    (λ t. each_named (Good s) (member_declarator s home x.storage t) (declares_plainly s) (declare_plainly s) (λ t ts. refl)
    (λ y d e i. declarator_named s home x.storage t y d n e i) r ds (and_parts (declares_plainly s base) (declare_plainly s ds) h).1 g)
declarators_named s home r at x syntax.none n h g = tt

own : (s : List Lexeme) (a : Bool) (kids : syntax.Trees) → (a && are_named s kids) ≡ true → a ≡ true
own s a kids h = (and_parts a (are_named s kids) h).0

member_is_named : (s : List Lexeme) (home : Home) (r : Members) (t : syntax.Tree) → is_class_name s home.name ≡ true → is_named s t ≡ true
    → Good s r → On (Good s) (member_of s home r t)
member_is_named s home r (syntax.node k.AccessLabel p token kids) n h g = g
member_is_named s home r (syntax.node k.MemberDeclaration p token kids) n h g =
    declarators_named s home r (at_of p) (started_from s no_storage kids) (started_from s no_storage kids).rest n
    (started_plainly s no_storage kids (own s (declare_plainly s kids) kids h)) g
member_is_named s home r (syntax.node k.FunctionDefinition p (Some t) kids) n h g =
    method_named s home r Plain (at_of p) (Some (definition_between s t (last_token (body_in kids)))) kids n
    (function_fits s r.state home (at_of p) kids (own s (declare_plainly s kids) kids h)) g
member_is_named s home r (syntax.node k.ConstructorDeclaration p token kids) n h g =
    method_named s home r Constructor (at_of p) None kids n (constructor_fits s r.state home (at_of p) kids) g
member_is_named s home r (syntax.node k.ConstructorDefinition p (Some t) kids) n h g =
    method_named s home r Constructor (at_of p) (Some (definition_between s t (last_token (body_in kids)))) kids n
    (constructor_fits s r.state home (at_of p) kids) g
member_is_named s home r (syntax.node k.DestructorDeclaration p token kids) n h g =
    method_named s home r Destructor (at_of p) None kids n (destructor_fits s r.state home (at_of p) kids) g
member_is_named s home r (syntax.node k.DestructorDefinition p (Some t) kids) n h g =
    method_named s home r Destructor (at_of p) (Some (definition_between s t (last_token (body_in kids)))) kids n
    (destructor_fits s r.state home (at_of p) kids) g
member_is_named s home r t n h g = tt

pub members_override : MembersOverride
members_override s home r ts h n g = each_named (Good s) (member_of s home) (is_named s) (are_named s) (λ t ts. refl)
    (λ y t e i. member_is_named s home y t n e i) r ts h g
