-- A member is defined outside of a class that is complete.
use Rattle.std.proofs.Common.{◌≡◌, refl, sym, ◌∙◌, subst, ℕ, true, not, ◌&&◌, List, slice_get, Option, Some, is_some}
use Rattle.std.specs.Str.{bytes_eq}
use Rattle.std.proofs.lemmas.Option.{same_Some}
use Rattle.elab_rules.specs.cpp_types.Typ.{Typ, Form, void, int, enum, null, ptr, ref, array, func, class, closure, tx_ex}
use Rattle.elab_rules.specs.cpp_types.Class.{completion_of}
use Rattle.elab_rules.specs.cpp_types.declared.classes.At.{At}
use Rattle.elab_rules.specs.cpp_lex.Tokens.{Lexeme}
use Rattle.elab_rules.specs.cpp_ast.Trees as syntax
use Rattle.elab_rules.specs.cpp_tree.Notation.{plain}
use Rattle.elab_rules.specs.cpp_tree.Typing.{form_in}
use Rattle.elab_rules.specs.cpp_tree.declared.faults.IllRule.TheVariants.{BadDeclaration, OutOfProfile, Incomplete, UnknownName}
use Rattle.elab_rules.specs.cpp_tree.declared.program.FuncKind.{FuncKind}
use Rattle.elab_rules.specs.cpp_tree.declared.program.FuncKind.TheVariants.{Plain, Constructor, Destructor, ClosureCall}
use Rattle.elab_rules.specs.elab_ctx.Ctx.{Ctx}
use Rattle.elab_rules.specs.elab_ctx.Steps.{and_then, check, expect, spelling}
use Rattle.elab_rules.specs.Initialising.{class_number}
use Rattle.elab_rules.specs.Types.{Declared, type_named}
use Rattle.elab_rules.specs.Expressions.{type_of_specifiers, declared_by}
use Rattle.elab_rules.specs.Statements.{State, name_of}
use Rattle.elab_rules.specs.Functions.{Storage, Header}
use Rattle.elab_rules.specs.Classes.{Method, header_in, special_name, is_special, special_header}
use Rattle.elab_rules.specs.Members.{owner_class, owner_named, outside_plain, outside_special, outside_method, name_of_class}
use Rattle.elab_fits.specs.Standing.{On}
use Rattle.elab_fits.proofs.Steps.{skip, checked, bind}

abbrev Complete : Ctx → ℕ → Type 0
Complete c n = is_some (completion_of c.classes n) ≡ true

abbrev OfClass : ℕ → Header → Type 0
OfClass n h = h.class ≡ Some n

-- whatever class it says, that is complete
abbrev pub IsOwned : Ctx → Method → Type 0
IsOwned c m = (n : ℕ) → m.header.class ≡ Some n → Complete c n

header_class : (n : ℕ) (x : Storage) (kind : FuncKind) (at : At) (name : List ℕ) (r : Declared) (f : Form) → On (OfClass n) (header_in n x kind at name r f)
header_class n x kind at name r (func sig) = refl
header_class n x kind at name r void = tt
header_class n x kind at name r (int k) = tt
header_class n x kind at name r (enum e s) = tt
header_class n x kind at name r null = tt
header_class n x kind at name r (ptr t) = tt
header_class n x kind at name r (ref t) = tt
header_class n x kind at name r (array t b) = tt
header_class n x kind at name r (class m) = tt
header_class n x kind at name r (closure m) = tt
header_class n x kind at name r (tx_ex t) = tt

special_class : (n : ℕ) (class_name : List ℕ) (at : At) (x : Storage) (kind : FuncKind) (r : Declared) (name : List ℕ)
    → On (OfClass n) (special_header n class_name at x kind r name)
special_class n class_name at x kind r name = skip (OfClass n) (check at BadDeclaration (bytes_eq name class_name && not r.qualifiers.is_const)) _
    (λ y. bind (OfClass n) (OfClass n) (header_in n x kind at (special_name kind class_name) r (form_in r.typ)) _
    (header_class n x kind at (special_name kind class_name) r (form_in r.typ))
    (λ h i. skip (OfClass n) (check at BadDeclaration (is_special kind n h.signature)) _ (λ z. i)))

class_complete : (c : Ctx) (at : At) (t : Typ) → On (Complete c) (owner_class c at t)
class_complete c at t = skip (Complete c) (expect at OutOfProfile (class_number t)) _
    (λ n. checked (Complete c) at Incomplete (is_some (completion_of c.classes n)) _ (λ y. y))

owner_complete : (s : List Lexeme) (c : Ctx) (at : At) (o : Option ℕ) → On (Complete c) (owner_named s c at o)
owner_complete s c at o = skip (Complete c) (expect at BadDeclaration o) _
    (λ t. skip (Complete c) (expect at UnknownName (type_named (spelling s t) c.types)) _ (λ u. class_complete c at u))

owned : (c : Ctx) (n : ℕ) (h : Header) (rest : syntax.Trees) → Complete c n → OfClass n h → IsOwned c (record { header = h; rest = rest })
owned c n h rest k e i q = subst (Complete c) (same_Some n i (sym e ∙ q)) k

plain_owned : (s : List Lexeme) (st : State) (at : At) (x : Storage) (ts : syntax.Trees) (r : Declared) → On (IsOwned st.ctx) (outside_plain s st at x ts r)
plain_owned s st at x ts r = bind (Complete st.ctx) (IsOwned st.ctx) (owner_named s st.ctx at r.owner) _ (owner_complete s st.ctx at r.owner)
    (λ n k. bind (OfClass n) (IsOwned st.ctx) (header_in n x Plain at (name_of s r.name) r (form_in r.typ)) _
    (header_class n x Plain at (name_of s r.name) r (form_in r.typ)) (λ h e. owned st.ctx n h ts k e))

special_owned : (s : List Lexeme) (st : State) (at : At) (x : Storage) (kind : FuncKind) (d : syntax.Tree) (ts : syntax.Trees)
    → On (IsOwned st.ctx) (and_then (declared_by s st.ctx st.work at (plain void) d) (λ (r : Declared). outside_special s st at x kind ts r))
special_owned s st at x kind d ts = skip (IsOwned st.ctx) (declared_by s st.ctx st.work at (plain void) d) _
    (λ r. bind (Complete st.ctx) (IsOwned st.ctx) (owner_named s st.ctx at r.owner) _ (owner_complete s st.ctx at r.owner)
    (λ n k. bind (OfClass n) (IsOwned st.ctx) (special_header n (name_of_class (slice_get st.ctx.classes n)) at x kind r (name_of s r.name)) _
    (special_class n (name_of_class (slice_get st.ctx.classes n)) at x kind r (name_of s r.name)) (λ h e. owned st.ctx n h ts k e)))

pub outside_owned : (s : List Lexeme) (st : State) (at : At) (x : Storage) (kind : FuncKind) (ts : syntax.Trees) → On (IsOwned st.ctx) (outside_method s st at x kind ts)
outside_owned s st at x Plain syntax.none = tt
outside_owned s st at x Plain (syntax.more base syntax.none) = tt
outside_owned s st at x Plain (syntax.more base (syntax.more d ts)) = skip (IsOwned st.ctx) (type_of_specifiers s st.ctx st.work base) _
    (λ t. skip (IsOwned st.ctx) (declared_by s st.ctx st.work at t d) _ (λ r. plain_owned s st at x ts r))
outside_owned s st at x Constructor syntax.none = tt
outside_owned s st at x Destructor syntax.none = tt
outside_owned s st at x ClosureCall syntax.none = tt
outside_owned s st at x Constructor (syntax.more d ts) = special_owned s st at x Constructor d ts
outside_owned s st at x Destructor (syntax.more d ts) = special_owned s st at x Destructor d ts
outside_owned s st at x ClosureCall (syntax.more d ts) = special_owned s st at x ClosureCall d ts
