-- Headers of the members that a text declares.
use Rattle.std.proofs.Common.{◌≡◌, refl, ap, ◌∙◌, ℕ, Bool, true, false, not, ◌&&◌, List, Option, Some, None}
use Rattle.std.specs.Str.{bytes_eq}
use Rattle.std.proofs.lemmas.Bool.{and_parts, not-true}
use Rattle.cpp_types.specs.Trivial.{is_destructor_name}
use Rattle.cpp_lex.specs.Tokens.{Lexeme}
use Rattle.cpp_ast.specs.declared.kinds.NodeKind.TheVariants as k
use Rattle.cpp_ast.specs.Trees as syntax
use Rattle.elab_rules.specs.cpp_types.Typ.{Form, func}
use Rattle.elab_rules.specs.cpp_types.declared.classes.At.{At}
use Rattle.elab_rules.specs.cpp_tree.Notation.{plain as plain_typ}
use Rattle.elab_rules.specs.cpp_tree.Typing.{form_in}
use Rattle.elab_rules.specs.cpp_types.Typ.{void}
use Rattle.elab_rules.specs.cpp_tree.declared.program.FuncKind.{FuncKind}
use Rattle.elab_rules.specs.cpp_tree.declared.program.FuncKind.TheVariants.{Plain, Constructor, Destructor}
use Rattle.elab_rules.specs.cpp_tree.declared.faults.IllRule.TheVariants.{BadDeclaration}
use Rattle.elab_rules.specs.elab_ctx.Steps.{check, spelling}
use Rattle.elab_rules.specs.Types.{Declared}
use Rattle.elab_rules.specs.Statements.{State, name_of}
use Rattle.elab_rules.specs.Functions.{Header, Storage, no_storage, with_specifier}
use Rattle.elab_rules.specs.Expressions.{declared_by, type_of_specifiers}
use Rattle.elab_rules.specs.Classes.{Home, Method, started_from, header_in, plain_method, special_name, special_header, special_method, is_special}
use Rattle.elab_rules.specs.Classes.{method_of}
use Rattle.elab_fits.specs.Standing.{On}
use Rattle.elab_fits.proofs.Steps.{bind, skip}
use Rattle.elab_fits_forms.specs.Types.{is_empty}
use Rattle.elab_read_texts.specs.Names.{is_type_name, is_class_name, is_plain_token, declares_plainly, declare_plainly}
use Rattle.elab_read_texts.proofs.Declared.{declared_plainly}
use Rattle.elab_read_texts.proofs.Overriding.{IsFit, plain, destructor, constructor}

-- What stands before the type

pub started_plainly : (s : List Lexeme) (x : Storage) (ts : syntax.Trees) → declare_plainly s ts ≡ true → declare_plainly s (started_from s x ts).rest ≡ true
started_plainly s x (syntax.more (syntax.node k.Attribute p token kids) ts) h =
    started_plainly s x ts (and_parts (declares_plainly s (syntax.node k.Attribute p token kids)) (declare_plainly s ts) h).1
started_plainly s x (syntax.more (syntax.node k.DeclSpecifier p (Some t) kids) ts) h =
    started_plainly s (with_specifier x (spelling s t)) ts (and_parts (declares_plainly s (syntax.node k.DeclSpecifier p (Some t) kids)) (declare_plainly s ts) h).1
started_plainly s x ts h = h

-- Names

pub record IsPlainly (s : List Lexeme) (name : List ℕ) : Type 0 where
  pub plain : is_destructor_name name ≡ false
  pub named : is_class_name s name ≡ false

no_class : (a b c : Bool) → c ≡ false → (a && (b && c)) ≡ false
no_class false b c e = refl
no_class true false c e = refl
no_class true true c e = e

pub name_plainly : (s : List Lexeme) (o : Option ℕ) → is_plain_token s o ≡ true → IsPlainly s (name_of s o)
name_plainly s None h = record { plain = refl; named = refl }
name_plainly s (Some t) h =
    let m = and_parts (not (is_destructor_name (spelling s t))) (not (is_type_name s (spelling s t))) h in
    record {
      plain = not-true (is_destructor_name (spelling s t)) m.0;
      named = no_class (not (is_empty (spelling s t))) (not (is_destructor_name (spelling s t))) (is_type_name s (spelling s t))
          (not-true (is_type_name s (spelling s t)) m.1);
    }

-- Headers

pub record IsHeader (x : Storage) (kind : FuncKind) (name : List ℕ) (h : Header) : Type 0 where
  pub storage : h.storage ≡ x
  pub kind_is : h.kind ≡ kind
  pub named : h.name ≡ name

pub header_is : (n : ℕ) (x : Storage) (kind : FuncKind) (at : At) (name : List ℕ) (r : Declared) (f : Form) → On (IsHeader x kind name) (header_in n x kind at name r f)
header_is n x kind at name r (func sig) = record { storage = refl; kind_is = refl; named = refl }
header_is n x kind at name r f = tt

pub plain_header : (s : List Lexeme) (home : Home) (x : Storage) (o : Option ℕ) (h : Header) → is_plain_token s o ≡ true → IsHeader x Plain (name_of s o) h
    → IsFit s home h
plain_header s home x o h e i =
    let p = name_plainly s o e in
    plain i.kind_is (ap is_destructor_name i.named ∙ p.plain) (ap (is_class_name s) i.named ∙ p.named)

abbrev Fits : List Lexeme → Home → Method → Type 0
Fits s home m = IsFit s home m.header

plain_fits : (s : List Lexeme) (st : State) (home : Home) (at : At) (x : Storage) (ts : syntax.Trees) → declare_plainly s ts ≡ true
    → On (Fits s home) (plain_method s st home.number at x ts)
plain_fits s st home at x (syntax.more base (syntax.more d rest)) h =
    let m = and_parts (declares_plainly s base) (declare_plainly s (syntax.more d rest)) h in
    let e = (and_parts (declares_plainly s d) (declare_plainly s rest) m.1).0 in
    skip (Fits s home) (type_of_specifiers s st.ctx st.work base) _
    (λ t. bind (λ (r : Declared). is_plain_token s r.name ≡ true) (Fits s home) (declared_by s st.ctx st.work at t d) _
    (declared_plainly s st.ctx st.ctx.closures st.work at t d e)
    (λ r i. bind (IsHeader x Plain (name_of s r.name)) (Fits s home) (header_in home.number x Plain at (name_of s r.name) r (form_in r.typ)) _
    (header_is home.number x Plain at (name_of s r.name) r (form_in r.typ))
    (λ g j. plain_header s home x r.name g i j)))
plain_fits s st home at x ts h = tt

special_is : (n : ℕ) (name : List ℕ) (at : At) (x : Storage) (kind : FuncKind) (r : Declared) (own : List ℕ)
    → On (IsHeader x kind (special_name kind name)) (special_header n name at x kind r own)
special_is n name at x kind r own =
    skip (IsHeader x kind (special_name kind name)) (check at BadDeclaration (bytes_eq own name && not r.qualifiers.is_const)) _
    (λ y. bind (IsHeader x kind (special_name kind name)) (IsHeader x kind (special_name kind name))
    (header_in n x kind at (special_name kind name) r (form_in r.typ)) _ (header_is n x kind at (special_name kind name) r (form_in r.typ))
    (λ h i. skip (IsHeader x kind (special_name kind name)) (check at BadDeclaration (is_special kind n h.signature)) _ (λ z. i)))

special_fits : (s : List Lexeme) (st : State) (home : Home) (at : At) (x : Storage) (kind : FuncKind) (ts : syntax.Trees)
    → ((h : Header) → IsHeader x kind (special_name kind home.name) h → IsFit s home h)
    → On (Fits s home) (special_method s st home.number home.name at x kind ts)
special_fits s st home at x kind (syntax.more d rest) f =
    skip (Fits s home) (declared_by s st.ctx st.work at (plain_typ void) d) _
    (λ r. bind (IsHeader x kind (special_name kind home.name)) (Fits s home) (special_header home.number home.name at x kind r (name_of s r.name)) _
    (special_is home.number home.name at x kind r (name_of s r.name)) (λ h i. f h i))
special_fits s st home at x kind syntax.none f = tt

-- by kinds

pub function_fits : (s : List Lexeme) (st : State) (home : Home) (at : At) (kids : syntax.Trees) → declare_plainly s kids ≡ true
    → On (Fits s home) (method_of s st home.number home.name at Plain kids)
function_fits s st home at kids h =
    plain_fits s st home at (started_from s no_storage kids).storage (started_from s no_storage kids).rest (started_plainly s no_storage kids h)

pub constructor_fits : (s : List Lexeme) (st : State) (home : Home) (at : At) (kids : syntax.Trees)
    → On (Fits s home) (method_of s st home.number home.name at Constructor kids)
constructor_fits s st home at kids =
    let x = started_from s no_storage kids in
    special_fits s st home at x.storage Constructor x.rest (λ g i. constructor i.kind_is i.named)

pub destructor_fits : (s : List Lexeme) (st : State) (home : Home) (at : At) (kids : syntax.Trees)
    → On (Fits s home) (method_of s st home.number home.name at Destructor kids)
destructor_fits s st home at kids =
    let x = started_from s no_storage kids in
    special_fits s st home at x.storage Destructor x.rest (λ g i. destructor i.kind_is (ap is_destructor_name i.named ∙ refl))
