-- Headers that elaborate have sound types, and what is read of them has spellings.
use Rattle.std.proofs.Common.{◌≡◌, refl, ap, ◌∙◌, sym, ℕ, Bool, true, false, List, Option, Some, None}
use Rattle.std.specs.Prelude.{◌&&◌, ◌||◌, not}
use Rattle.std.specs.Str.{bytes_eq}
use Rattle.std.proofs.lemmas.Bool.{and_parts}
use Rattle.elab_rules.specs.cpp_types.Typ.{Typ, typ, Form, void, int, enum, null, ptr, ref, array, func, class, closure, tx_ex, Signature}
use Rattle.elab_rules.specs.cpp_types.Class.{Class}
use Rattle.elab_rules.specs.cpp_types.declared.classes.At.{At}
use Rattle.elab_rules.specs.cpp_lex.Tokens.{Lexeme}
use Rattle.elab_rules.specs.cpp_ast.declared.arena.At.{At as SyntaxAt}
use Rattle.elab_rules.specs.cpp_ast.declared.kinds.NodeKind.{NodeKind}
use Rattle.elab_rules.specs.cpp_ast.declared.kinds.NodeKind.TheVariants as k
use Rattle.elab_rules.specs.cpp_ast.Trees as syntax
use Rattle.elab_rules.specs.cpp_tree.declared.program.FuncKind.{FuncKind}
use Rattle.elab_rules.specs.cpp_tree.declared.program.FuncKind.TheVariants.{Plain, Constructor, Destructor, ClosureCall}
use Rattle.elab_rules.specs.cpp_tree.declared.faults.IllRule.TheVariants.{BadDeclaration}
use Rattle.elab_rules.specs.cpp_tree.Notation.{plain}
use Rattle.elab_rules.specs.cpp_tree.Typing.{form_in}
use Rattle.elab_rules.specs.elab_ctx.Steps.{check, spelling}
use Rattle.elab_rules.specs.Types.{Declared, is_nothing}
use Rattle.elab_rules.specs.Expressions.{declared_by, type_of_specifiers}
use Rattle.elab_rules.specs.Statements.{State, name_of}
use Rattle.elab_rules.specs.Functions.{Storage, no_storage, with_specifier}
use Rattle.elab_rules.specs.Classes.{Started, started_from, body_in, header_in, plain_method, special_method, special_header, special_name, is_special}
use Rattle.elab_rules.specs.Classes.{method_started, method_of}
use Rattle.elab_rules.specs.Units.{header_of}
use Rattle.elab_fits.specs.Standing.{On}
use Rattle.elab_fits.proofs.Steps.{bind, skip}
use Rattle.elab_sound_types.specs.Types.{is_sound_form, is_sound_signature, denoted}
use Rattle.elab_sound_types.specs.Laws.{IsSoundDeclared}
use Rattle.elab_sound_types.specs.Contexts.{is_spelled, are_spelled}
use Rattle.elab_sound_types.specs.States.{IsSoundState}
use Rattle.elab_sound_types.proofs.Objects.{not_true}
use Rattle.elab_sound_types.proofs.Expressions.{first_spelled, rest_spelled}
use Rattle.elab_sound_units.specs.Headers.{IsSoundHeader, IsOwnHeader, IsRead}
use Rattle.elab_sound_units.proofs.Below.{IsDenoted, specifiers_sound, declarator_sound}

-- Spellings

pub token_spelled : (s : List Lexeme) (kind : NodeKind) (p : SyntaxAt) (t : ℕ) (kids : syntax.Trees)
    → is_spelled s (syntax.node kind p (Some t) kids) ≡ true → is_nothing (spelling s t) ≡ false
token_spelled s kind p t kids h =
    not_true (is_nothing (spelling s t)) (and_parts (not (is_nothing (spelling s t))) (are_spelled s kids) h).0

-- a tree that may be there
abbrev pub SpelledIf : List Lexeme → Option syntax.Tree → Type 0
SpelledIf s (Some t) = is_spelled s t ≡ true
SpelledIf s None = Unit {0}

pub body_spelled : (s : List Lexeme) (ts : syntax.Trees) → are_spelled s ts ≡ true → SpelledIf s (body_in ts)
body_spelled s syntax.none h = tt
body_spelled s (syntax.more t syntax.none) h = first_spelled s t syntax.none h
body_spelled s (syntax.more t (syntax.more u ts)) h = body_spelled s (syntax.more u ts) (rest_spelled s t (syntax.more u ts) h)

pub started_spelled : (s : List Lexeme) (x : Storage) (ts : syntax.Trees) → are_spelled s ts ≡ true → are_spelled s (started_from s x ts).rest ≡ true
started_spelled s x (syntax.more (syntax.node k.Attribute p token kids) ts) h =
    started_spelled s x ts (rest_spelled s (syntax.node k.Attribute p token kids) ts h)
started_spelled s x (syntax.more (syntax.node k.DeclSpecifier p (Some t) kids) ts) h =
    started_spelled s (with_specifier x (spelling s t)) ts (rest_spelled s (syntax.node k.DeclSpecifier p (Some t) kids) ts h)
started_spelled s x ts h = h

-- Headers

abbrev has_own : Typ → Bool
has_own (typ f c v) = c || v

form_sound : (classes : List Class) (t : Typ) → IsDenoted classes t → is_sound_form classes denoted (has_own t) (form_in t) ≡ true
form_sound classes (typ f c v) h = h

-- the signature of a function that is declared
pub signature_sound : (classes : List Class) (t : Typ) (sig : Signature) → IsDenoted classes t → form_in t ≡ func sig → is_sound_signature classes sig ≡ true
signature_sound classes t sig h e = (and_parts (not (has_own t)) (is_sound_signature classes sig)
    (sym (ap (λ (f : Form). is_sound_form classes denoted (has_own t) f) e) ∙ form_sound classes t h)).1

pub header_sound : (classes : List Class) (n : ℕ) (x : Storage) (kind : FuncKind) (at : At) (name : List ℕ) (r : Declared) (f : Form)
    → IsSoundDeclared classes r → form_in r.typ ≡ f → On (IsOwnHeader classes n) (header_in n x kind at name r f)
header_sound classes n x kind at name r (func sig) h e =
    record { sound = record { signature = signature_sound classes r.typ sig h.typ e; params = h.params }; class = refl }
header_sound classes n x kind at name r void h e = tt
header_sound classes n x kind at name r (int k) h e = tt
header_sound classes n x kind at name r (enum i s) h e = tt
header_sound classes n x kind at name r null h e = tt
header_sound classes n x kind at name r (ptr t) h e = tt
header_sound classes n x kind at name r (ref t) h e = tt
header_sound classes n x kind at name r (array t b) h e = tt
header_sound classes n x kind at name r (class m) h e = tt
header_sound classes n x kind at name r (closure m) h e = tt
header_sound classes n x kind at name r (tx_ex t) h e = tt

pub free_header_sound : (classes : List Class) (s : List Lexeme) (at : At) (x : Storage) (d : Declared) (sig : Signature) → IsSoundDeclared classes d
    → form_in d.typ ≡ func sig → IsSoundHeader classes (header_of s at x d sig)
free_header_sound classes s at x d sig h e = record { signature = signature_sound classes d.typ sig h.typ e; params = h.params }

pub special_sound : (classes : List Class) (n : ℕ) (class_name : List ℕ) (at : At) (x : Storage) (kind : FuncKind) (r : Declared) (name : List ℕ)
    → IsSoundDeclared classes r → On (IsOwnHeader classes n) (special_header n class_name at x kind r name)
special_sound classes n class_name at x kind r name h =
    skip (IsOwnHeader classes n) (check at BadDeclaration (bytes_eq name class_name && not r.qualifiers.is_const)) _
    (λ y. bind (IsOwnHeader classes n) (IsOwnHeader classes n) (header_in n x kind at (special_name kind class_name) r (form_in r.typ)) _
    (header_sound classes n x kind at (special_name kind class_name) r (form_in r.typ) h refl)
    (λ g i. skip (IsOwnHeader classes n) (check at BadDeclaration (is_special kind n g.signature)) _ (λ z. i)))

pub plain_read : (s : List Lexeme) (st : State) (n : ℕ) (at : At) (x : Storage) (ts : syntax.Trees) → IsSoundState st → are_spelled s ts ≡ true
    → On (IsRead s st.ctx.classes n) (plain_method s st n at x ts)
plain_read s st n at x syntax.none h i = tt
plain_read s st n at x (syntax.more base syntax.none) h i = tt
plain_read s st n at x (syntax.more base (syntax.more d rest)) h i =
    bind (IsDenoted st.ctx.classes) (IsRead s st.ctx.classes n) (type_of_specifiers s st.ctx st.work base) _ (specifiers_sound s st.ctx st.work base h.context)
    (λ t j. bind (IsSoundDeclared st.ctx.classes) (IsRead s st.ctx.classes n) (declared_by s st.ctx st.work at t d) _
    (declarator_sound s st.ctx st.work at t d h.context j)
    (λ r m. bind (IsOwnHeader st.ctx.classes n) (IsRead s st.ctx.classes n) (header_in n x Plain at (name_of s r.name) r (form_in r.typ)) _
    (header_sound st.ctx.classes n x Plain at (name_of s r.name) r (form_in r.typ) m refl)
    (λ g o. record { header = o; rest = rest_spelled s d rest (rest_spelled s base (syntax.more d rest) i) })))

pub special_read : (s : List Lexeme) (st : State) (n : ℕ) (class_name : List ℕ) (at : At) (x : Storage) (kind : FuncKind) (ts : syntax.Trees)
    → IsSoundState st → are_spelled s ts ≡ true → On (IsRead s st.ctx.classes n) (special_method s st n class_name at x kind ts)
special_read s st n class_name at x kind syntax.none h i = tt
special_read s st n class_name at x kind (syntax.more d rest) h i =
    bind (IsSoundDeclared st.ctx.classes) (IsRead s st.ctx.classes n) (declared_by s st.ctx st.work at (plain void) d) _
    (declarator_sound s st.ctx st.work at (plain void) d h.context refl)
    (λ r m. bind (IsOwnHeader st.ctx.classes n) (IsRead s st.ctx.classes n) (special_header n class_name at x kind r (name_of s r.name)) _
    (special_sound st.ctx.classes n class_name at x kind r (name_of s r.name) m)
    (λ g o. record { header = o; rest = rest_spelled s d rest i }))

started_read : (s : List Lexeme) (st : State) (n : ℕ) (class_name : List ℕ) (at : At) (kind : FuncKind) (x : Started) → IsSoundState st
    → are_spelled s x.rest ≡ true → On (IsRead s st.ctx.classes n) (method_started s st n class_name at kind x)
started_read s st n class_name at Plain x h i = plain_read s st n at x.storage x.rest h i
started_read s st n class_name at Constructor x h i = special_read s st n class_name at x.storage Constructor x.rest h i
started_read s st n class_name at Destructor x h i = special_read s st n class_name at x.storage Destructor x.rest h i
started_read s st n class_name at ClosureCall x h i = special_read s st n class_name at x.storage ClosureCall x.rest h i

pub method_read : (s : List Lexeme) (st : State) (n : ℕ) (class_name : List ℕ) (at : At) (kind : FuncKind) (kids : syntax.Trees) → IsSoundState st
    → are_spelled s kids ≡ true → On (IsRead s st.ctx.classes n) (method_of s st n class_name at kind kids)
method_read s st n class_name at kind kids h i =
    started_read s st n class_name at kind (started_from s no_storage kids) h (started_spelled s no_storage kids i)
