-- Declarations, and whole units, keep the types of the context sound.
use Rattle.std.proofs.Common.{◌≡◌, refl, ap, ℕ, Bool, true, false, List, Some, None}
use Rattle.elab_rules.specs.cpp_types.Typ.{Typ, Form, void, int, enum, null, ptr, ref, array, func, class, closure, tx_ex}
use Rattle.elab_rules.specs.cpp_types.declared.classes.At.{At}
use Rattle.elab_rules.specs.cpp_lex.Tokens.{Lexeme}
use Rattle.elab_rules.specs.cpp_ast.declared.kinds.NodeKind.TheVariants as k
use Rattle.elab_rules.specs.cpp_ast.Trees as syntax
use Rattle.elab_rules.specs.cpp_tree.Typing.{form_in}
use Rattle.elab_rules.specs.cpp_tree.declared.faults.IllRule.TheVariants.{BadDeclaration, OutOfProfile}
use Rattle.elab_rules.specs.cpp_tree.declared.program.FuncKind.TheVariants.{Plain, Constructor, Destructor}
use Rattle.elab_rules.specs.elab_ctx.Steps.{and_then, check, at_of, spelling}
use Rattle.elab_rules.specs.Types.{Declared, is_function_form}
use Rattle.elab_rules.specs.Strings.{string_bytes}
use Rattle.elab_rules.specs.Expressions.{type_of_specifiers, declared_by}
use Rattle.elab_rules.specs.Statements.{State, name_of, bound_by_initialiser, is_own_name}
use Rattle.elab_rules.specs.Functions.{Storage, Header, no_storage, with_specifier, function_declared, function_body, with_definition, text_sized, defines_well}
use Rattle.elab_rules.specs.Globals.{global_declared}
use Rattle.elab_rules.specs.Implicit.{with_implied}
use Rattle.elab_rules.specs.Lambdas.{lambdas_of}
use Rattle.elab_rules.specs.Units.{header_of, declared_of_type, file_declarator, file_declarators, file_declaration, definition_text, closing_offset}
use Rattle.elab_rules.specs.Units.{is_qualified, defined_with, defined_by, function_defined, is_c, declaration_of, declarations_of}
use Rattle.elab_fits.specs.Standing.{On}
use Rattle.elab_fits.proofs.Steps.{bind, skip}
use Rattle.elab_sound_types.specs.Laws.{IsSoundDeclared}
use Rattle.elab_sound_types.specs.Contexts.{is_spelled, are_spelled}
use Rattle.elab_sound_types.specs.States.{IsSoundState}
use Rattle.elab_sound_types.proofs.Growth.{sound_more}
use Rattle.elab_sound_types.proofs.Closures.{parameters_more}
use Rattle.elab_sound_types.proofs.Expressions.{first_spelled, rest_spelled, kids_spelled}
use Rattle.elab_sound_types.proofs.States.{nothing, later}
use Rattle.elab_sound_types.specs.Types.{denoted}
use Rattle.elab_sound_units.specs.Units.{DeclarationsKeepSound, UnitsKeepSound}
use Rattle.elab_sound_units.proofs.Below.{After, IsDenoted, specifiers_sound, declarator_sound, function_sound, lambdas_keep}
use Rattle.elab_sound_units.proofs.Headers.{free_header_sound, token_spelled}
use Rattle.elab_sound_units.proofs.Bodies.{behind, definition_after}
use Rattle.elab_sound_units.proofs.Classes.{declared_after, class_after}
use Rattle.elab_sound_units.proofs.Outside.{PlacedAfter, function_after, outside_after}
use Rattle.elab_sound_units.proofs.Globals.{bound_denoted, bound_function, global_after, aliases_after}
use Rattle.elab_sound_units.proofs.Enums.{enum_after}
use Rattle.elab_sound_units.proofs.Implied.{implied_after}

-- Functions and variables

data_after : (s : List Lexeme) (st : State) (x : Storage) (at : At) (d : Declared) (init : syntax.Trees) → is_function_form (form_in d.typ) ≡ false
    → IsSoundDeclared st.ctx.classes d → IsSoundState st → are_spelled s init ≡ true
    → On (After st) (global_declared s st x at (name_of s d.name) (bound_by_initialiser s d.typ init) init)
data_after s st x at d init f g h i = global_after s st x at (name_of s d.name) (bound_by_initialiser s d.typ init) init (bound_function s d.typ init f)
    (bound_denoted st.ctx.classes s d.typ init g.typ) h i

type_after : (s : List Lexeme) (st : State) (x : Storage) (at : At) (d : Declared) (init : syntax.Trees) (f : Form) → form_in d.typ ≡ f
    → IsSoundDeclared st.ctx.classes d → IsSoundState st → are_spelled s init ≡ true → On (After st) (declared_of_type s st x at d init f)
type_after s st x at d syntax.none (func sig) q g h i =
    bind (PlacedAfter st) (After st) (function_declared st.ctx (header_of s at x d sig) false) _
    (function_after st (header_of s at x d sig) false h (free_header_sound st.ctx.classes s at x d sig g q)) (λ p j. j)
type_after s st x at d (syntax.more t ts) (func sig) q g h i = tt
type_after s st x at d syntax.none void q g h i = data_after s st x at d syntax.none (ap is_function_form q) g h i
type_after s st x at d (syntax.more u us) void q g h i = data_after s st x at d (syntax.more u us) (ap is_function_form q) g h i
type_after s st x at d syntax.none (int k) q g h i = data_after s st x at d syntax.none (ap is_function_form q) g h i
type_after s st x at d (syntax.more u us) (int k) q g h i = data_after s st x at d (syntax.more u us) (ap is_function_form q) g h i
type_after s st x at d syntax.none (enum e b) q g h i = data_after s st x at d syntax.none (ap is_function_form q) g h i
type_after s st x at d (syntax.more u us) (enum e b) q g h i = data_after s st x at d (syntax.more u us) (ap is_function_form q) g h i
type_after s st x at d syntax.none null q g h i = data_after s st x at d syntax.none (ap is_function_form q) g h i
type_after s st x at d (syntax.more u us) null q g h i = data_after s st x at d (syntax.more u us) (ap is_function_form q) g h i
type_after s st x at d syntax.none (ptr t) q g h i = data_after s st x at d syntax.none (ap is_function_form q) g h i
type_after s st x at d (syntax.more u us) (ptr t) q g h i = data_after s st x at d (syntax.more u us) (ap is_function_form q) g h i
type_after s st x at d syntax.none (ref t) q g h i = data_after s st x at d syntax.none (ap is_function_form q) g h i
type_after s st x at d (syntax.more u us) (ref t) q g h i = data_after s st x at d (syntax.more u us) (ap is_function_form q) g h i
type_after s st x at d syntax.none (array t n) q g h i = data_after s st x at d syntax.none (ap is_function_form q) g h i
type_after s st x at d (syntax.more u us) (array t n) q g h i = data_after s st x at d (syntax.more u us) (ap is_function_form q) g h i
type_after s st x at d syntax.none (class n) q g h i = data_after s st x at d syntax.none (ap is_function_form q) g h i
type_after s st x at d (syntax.more u us) (class n) q g h i = data_after s st x at d (syntax.more u us) (ap is_function_form q) g h i
type_after s st x at d syntax.none (closure n) q g h i = data_after s st x at d syntax.none (ap is_function_form q) g h i
type_after s st x at d (syntax.more u us) (closure n) q g h i = data_after s st x at d (syntax.more u us) (ap is_function_form q) g h i
type_after s st x at d syntax.none (tx_ex t) q g h i = data_after s st x at d syntax.none (ap is_function_form q) g h i
type_after s st x at d (syntax.more u us) (tx_ex t) q g h i = data_after s st x at d (syntax.more u us) (ap is_function_form q) g h i

declarator_after : (s : List Lexeme) (x : Storage) (t : Typ) (st : State) (d : syntax.Tree) → IsDenoted st.ctx.classes t → IsSoundState st
    → is_spelled s d ≡ true → On (After st) (file_declarator s x t st d)
declarator_after s x t st (syntax.node k.InitDeclarator p token (syntax.more d init)) g h i =
    bind (IsSoundDeclared st.ctx.classes) (After st) (declared_by s st.ctx st.work (at_of p) t d) _
    (declarator_sound s st.ctx st.work (at_of p) t d h.context g)
    (λ r j. skip (After st) (check (at_of p) BadDeclaration (is_own_name r)) _
    (λ z. type_after s st x (at_of p) r init (form_in r.typ) refl j h
    (rest_spelled s d init (kids_spelled s k.InitDeclarator p token (syntax.more d init) i))))
declarator_after s x t st (syntax.node kind p token kids) g h i = tt

declarators_after : (s : List Lexeme) (x : Storage) (t : Typ) (st : State) (ts : syntax.Trees) → IsDenoted st.ctx.classes t → IsSoundState st
    → are_spelled s ts ≡ true → On (After st) (file_declarators s x t st ts)
declarators_after s x t st syntax.none g h i = nothing true st h
declarators_after s x t st (syntax.more d ds) g h i =
    bind (After st) (After st) (file_declarator s x t st d) _ (declarator_after s x t st d g h (first_spelled s d ds i))
    (λ y j. behind st y (file_declarators s x t y ds) j
    (declarators_after s x t y ds (sound_more st.ctx.classes y.ctx.classes j.grown.kept denoted t g) j.sound (rest_spelled s d ds i)))

pub declaration_after : (s : List Lexeme) (st : State) (x : Storage) (at : At) (ts : syntax.Trees) → IsSoundState st → are_spelled s ts ≡ true
    → On (After st) (file_declaration s st x at ts)
declaration_after s st x at (syntax.more (syntax.node k.Attribute p token kids) ts) h i =
    declaration_after s st x at ts h (rest_spelled s (syntax.node k.Attribute p token kids) ts i)
declaration_after s st x at (syntax.more (syntax.node k.DeclSpecifier p (Some t) kids) ts) h i =
    declaration_after s st (with_specifier x (spelling s t)) at ts h (rest_spelled s (syntax.node k.DeclSpecifier p (Some t) kids) ts i)
declaration_after s st x at (syntax.more (syntax.node k.TypeSpecifierSeq p token kids) ts) h i =
    bind (IsDenoted st.ctx.classes) (After st) (type_of_specifiers s st.ctx st.work (syntax.node k.TypeSpecifierSeq p token kids)) _
    (specifiers_sound s st.ctx st.work (syntax.node k.TypeSpecifierSeq p token kids) h.context)
    (λ t g. declarators_after s x t st ts g h (rest_spelled s (syntax.node k.TypeSpecifierSeq p token kids) ts i))
declaration_after s st x at ts h i = tt

-- Definitions

pub with_after : (s : List Lexeme) (st : State) (x : Storage) (at : At) (first : ℕ) (d : Declared) (body : syntax.Tree) (f : Form) → form_in d.typ ≡ f
    → IsSoundDeclared st.ctx.classes d → IsSoundState st → is_spelled s body ≡ true → On (After st) (defined_with s st x at first d body f)
with_after s st x at first d body (func sig) q g h i =
    let e : Header = header_of s at x d sig in
    let text : List ℕ = definition_text s x first body in
    skip (After st) (text_sized at text) _
    (λ y. skip (After st) (defines_well e) _
    (λ z. bind (PlacedAfter st) (After st) (function_declared st.ctx e true) _
    (function_after st e true h (free_header_sound st.ctx.classes s at x d sig g q))
    (λ p j. let a : State = record st { ctx = p.ctx } in
    let b : State = record st { ctx = with_definition p.ctx p.place e text (closing_offset s body) } in
    let m = later true st a b j (definition_after a p.place e text (closing_offset s body) j.sound) in
    behind st b (function_body lambdas_of s b e None p.place body) m
    (function_sound lambdas_of s (lambdas_keep s) b e None p.place body m.sound
    (parameters_more st.ctx.classes b.ctx.classes m.grown.kept d.params g.params) refl i))))
with_after s st x at first d body void q g h i = tt
with_after s st x at first d body (int k) q g h i = tt
with_after s st x at first d body (enum e b) q g h i = tt
with_after s st x at first d body null q g h i = tt
with_after s st x at first d body (ptr t) q g h i = tt
with_after s st x at first d body (ref t) q g h i = tt
with_after s st x at first d body (array t n) q g h i = tt
with_after s st x at first d body (class n) q g h i = tt
with_after s st x at first d body (closure n) q g h i = tt
with_after s st x at first d body (tx_ex t) q g h i = tt

by_after : (s : List Lexeme) (st : State) (whole : syntax.Trees) (x : Storage) (at : At) (first : ℕ) (r : Declared) (body : syntax.Tree) (b : Bool)
    → IsSoundDeclared st.ctx.classes r → IsSoundState st → are_spelled s whole ≡ true → is_spelled s body ≡ true
    → On (After st) (defined_by s st whole x at first r body b)
by_after s st whole x at first r body true g h i j = outside_after lambdas_of s (lambdas_keep s) x st at Plain first whole h i
by_after s st whole x at first r body false g h i j = with_after s st x at first r body (form_in r.typ) refl g h j

three_after : (s : List Lexeme) (st : State) (whole : syntax.Trees) (x : Storage) (at : At) (first : ℕ) (base d body : syntax.Tree) → IsSoundState st
    → are_spelled s whole ≡ true → is_spelled s body ≡ true
    → On (After st) (and_then (type_of_specifiers s st.ctx st.work base)
    (λ (t : Typ). and_then (declared_by s st.ctx st.work at t d) (λ (r : Declared). defined_by s st whole x at first r body (is_qualified r))))
three_after s st whole x at first base d body h i j =
    bind (IsDenoted st.ctx.classes) (After st) (type_of_specifiers s st.ctx st.work base) _ (specifiers_sound s st.ctx st.work base h.context)
    (λ t g. bind (IsSoundDeclared st.ctx.classes) (After st) (declared_by s st.ctx st.work at t d) _ (declarator_sound s st.ctx st.work at t d h.context g)
    (λ r m. by_after s st whole x at first r body (is_qualified r) m h i j))

defined_after : (s : List Lexeme) (st : State) (whole : syntax.Trees) (x : Storage) (at : At) (first : ℕ) (ts : syntax.Trees) → IsSoundState st
    → are_spelled s whole ≡ true → are_spelled s ts ≡ true → On (After st) (function_defined s st whole x at first ts)
defined_after s st whole x at first (syntax.more (syntax.node k.Attribute p token kids) ts) h i j =
    defined_after s st whole x at first ts h i (rest_spelled s (syntax.node k.Attribute p token kids) ts j)
defined_after s st whole x at first (syntax.more (syntax.node k.DeclSpecifier p (Some t) kids) ts) h i j =
    defined_after s st whole (with_specifier x (spelling s t)) at first ts h i (rest_spelled s (syntax.node k.DeclSpecifier p (Some t) kids) ts j)
defined_after s st whole x at first (syntax.more base (syntax.more d (syntax.more body syntax.none))) h i j =
    three_after s st whole x at first base d body h i (first_spelled s body syntax.none
    (rest_spelled s d (syntax.more body syntax.none) (rest_spelled s base (syntax.more d (syntax.more body syntax.none)) j)))
defined_after s st whole x at first ts h i j = tt

-- Declarations

mutual
  declared_as : (s : List Lexeme) (x : Storage) (st : State) (t : syntax.Tree) → IsSoundState st → is_spelled s t ≡ true
      → On (After st) (declaration_of s x st t)
  declared_as s x st (syntax.node k.EmptyDeclaration p token kids) h i = nothing true st h
  declared_as s x st (syntax.node k.AliasDeclaration p (Some t) kids) h i = aliases_after s st (at_of p) (spelling s t) kids h
  declared_as s x st (syntax.node k.EnumSpecifier p (Some t) kids) h i = enum_after s st (at_of p) (spelling s t) kids h
  declared_as s x st (syntax.node k.SimpleDeclaration p token kids) h i =
      declaration_after s st x (at_of p) kids h (kids_spelled s k.SimpleDeclaration p token kids i)
  declared_as s x st (syntax.node k.FunctionDefinition p (Some t) kids) h i = let j = kids_spelled s k.FunctionDefinition p (Some t) kids i in
      defined_after s st kids x (at_of p) t kids h j j
  declared_as s x st (syntax.node k.LinkageSpecification p (Some t) kids) h i =
      skip (After st) (check (at_of p) OutOfProfile (is_c (string_bytes (spelling s t)))) _
      (λ y. all_declared s (record x { is_c = true; is_extern = true }) st kids h (kids_spelled s k.LinkageSpecification p (Some t) kids i))
  declared_as s x st (syntax.node k.LinkageBlock p (Some t) kids) h i =
      skip (After st) (check (at_of p) OutOfProfile (is_c (string_bytes (spelling s t)))) _
      (λ y. all_declared s (record x { is_c = true }) st kids h (kids_spelled s k.LinkageBlock p (Some t) kids i))
  declared_as s x st (syntax.node k.ClassDeclaration p (Some t) kids) h i =
      declared_after st (at_of p) (spelling s t) (token_spelled s k.ClassDeclaration p t kids i) h
  declared_as s x st (syntax.node k.ClassSpecifier p (Some t) kids) h i = class_after lambdas_of s (lambdas_keep s) st (at_of p) (spelling s t) kids h
      (token_spelled s k.ClassSpecifier p t kids i) (kids_spelled s k.ClassSpecifier p (Some t) kids i)
  declared_as s x st (syntax.node k.ConstructorDefinition p (Some t) kids) h i =
      outside_after lambdas_of s (lambdas_keep s) x st (at_of p) Constructor t kids h (kids_spelled s k.ConstructorDefinition p (Some t) kids i)
  declared_as s x st (syntax.node k.DestructorDefinition p (Some t) kids) h i =
      outside_after lambdas_of s (lambdas_keep s) x st (at_of p) Destructor t kids h (kids_spelled s k.DestructorDefinition p (Some t) kids i)
  declared_as s x st t h i = tt

  all_declared : (s : List Lexeme) (x : Storage) (st : State) (ts : syntax.Trees) → IsSoundState st → are_spelled s ts ≡ true
      → On (After st) (declarations_of s x st ts)
  all_declared s x st syntax.none h i = nothing true st h
  all_declared s x st (syntax.more t ts) h i =
      bind (After st) (After st) (declaration_of s x st t) _ (declared_as s x st t h (first_spelled s t ts i))
      (λ y j. behind st y (declarations_of s x y ts) j (all_declared s x y ts j.sound (rest_spelled s t ts i)))

pub declarations_law : DeclarationsKeepSound
declarations_law s x st ts h i = all_declared s x st ts h i

pub units_law : UnitsKeepSound
units_law s st decls h i =
    bind (After st) (After st) (declarations_of s no_storage st decls) with_implied (all_declared s no_storage st decls h i)
    (λ y j. behind st y (with_implied y) j (implied_after y j.sound))
