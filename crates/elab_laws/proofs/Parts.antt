-- Members of objects.
use Rattle.std.proofs.Common.{◌≡◌, refl, sym, ap, ◌∙◌, subst, ℕ, Bool, true, false, List, [], ◌∷◌, Option, Some, None, is_some, codes}
use Rattle.std.specs.Prelude.{if◌then◌else◌}
use Rattle.std.specs.Option.{option_or}
use Rattle.std.specs.Str.{bytes_eq}
use Rattle.std.proofs.lemmas.Slice.Eq.{bytes_eq-Decides}
use Rattle.elab_rules.specs.cpp_types.Typ.{Typ}
use Rattle.elab_rules.specs.cpp_types.Class.{completion_of}
use Rattle.elab_rules.specs.cpp_types.Conversion.{bases}
use Rattle.elab_rules.specs.cpp_types.declared.classes.At.{At}
use Rattle.elab_rules.specs.cpp_lex.Tokens.{Lexeme}
use Rattle.elab_rules.specs.cpp_ast.declared.kinds.NodeKind.TheVariants as k
use Rattle.elab_rules.specs.cpp_tree.declared.faults.IllRule.TheVariants.{BadOperand, Incomplete, NoMember}
use Rattle.elab_rules.specs.cpp_tree.Trees.{Tree, typ_in, cat_of}
use Rattle.elab_rules.specs.cpp_tree.Typing.{is_class_prvalue}
use Rattle.elab_rules.specs.elab_ctx.Ctx.{Ctx, Work}
use Rattle.elab_rules.specs.elab_ctx.Steps.{and_then, Operand, Made, Typed, TypedAll, at_of, spelling, token_place}
use Rattle.elab_rules.specs.Objects.{destroys}
use Rattle.elab_rules.specs.Values.{builder, temporary}
use Rattle.elab_rules.specs.Initialising.{object_of, class_number}
use Rattle.elab_rules.specs.Operators.{indirection}
use Rattle.elab_rules.specs.Names.{Found, field, methods, or_else, own_member, found_along, member_found, member_of, exception_member, class_member}
use Rattle.elab_rules.specs.Names.{member_access, is_tx_exception}
use Rattle.elab_rules.specs.Expressions.{row_of, pointed_operand, an_operand}
use Rattle.elab_laws.specs.Reading.{On}
use Rattle.elab_laws.specs.Unary.{Pointed}
use Rattle.elab_laws.specs.Parts.{Nearest, OfMember, is_field, are_functions, is_get, ThroughPointer, Members, PointerMembers}
use Rattle.elab_laws.proofs.Reading.{bind, expected, checked, weaken, either, of_one, made_in}
use Rattle.elab_laws.proofs.Naming.{first_of, first_is}
use Rattle.elab_laws.proofs.Unary.{pointed_law}

-- The nearest class

or_same : {A : Type 0} (a b : Option A) → or_else a b ≡ option_or a b
or_same (Some a) b = refl
or_same None b = refl

along_is : (c : Ctx) (name : List ℕ) (ns : List ℕ) → found_along c name ns ≡ first_of (λ (m : ℕ). own_member c name m) ns
along_is c name [] = refl
along_is c name (n ∷ ns) = or_same (own_member c name n) (found_along c name ns) ∙ ap (option_or (own_member c name n)) (along_is c name ns)

nearest : (c : Ctx) (name : List ℕ) (n : ℕ) (f : Found) → member_found c name n ≡ Some f → Nearest c name n f
nearest c name n f h = first_is (λ (m : ℕ). own_member c name m) (n ∷ bases c.classes n) f (sym (along_is c name (n ∷ bases c.classes n)) ∙ h)

-- The object

either_made : (b : Bool) (x y : Made) (t : Typ) → typ_in x.tree ≡ t → typ_in y.tree ≡ t → typ_in (if b then x else y).tree ≡ t
either_made true x y t h k = h
either_made false x y t h k = k

pub object_typ : (c : Ctx) (w : Work) (at : At) (e : Tree) → typ_in (object_of c w at e).tree ≡ typ_in e
object_typ c w at e = either_made (is_class_prvalue (typ_in e) (cat_of e)) (temporary w (typ_in e) at (builder e) (destroys c at (typ_in e)))
    (record { tree = e; work = w }) (typ_in e) refl refl

-- Members

found_law : (c : Ctx) (at : At) (name : List ℕ) (object : Tree) (n : ℕ) (f : Found) → class_number (typ_in object) ≡ Some n → Nearest c name n f
    → OfMember c name (typ_in object) (member_of c at object f)
found_law c at name object n (field m i t) h r = is_field n m i t h r (record { has_type = refl; category = refl })
found_law c at name object n (methods k) h r = are_functions n k h r refl

class_law : (c : Ctx) (at dot : At) (name : List ℕ) (object : Tree) → On (OfMember c name (typ_in object)) (class_member c at dot name object)
class_law c at dot name object = expected (OfMember c name (typ_in object)) dot BadOperand (class_number (typ_in object)) _
    (λ n h. checked (OfMember c name (typ_in object)) at Incomplete (is_some (completion_of c.classes n)) _
    (λ z. expected (OfMember c name (typ_in object)) at NoMember (member_found c name n) _ (λ f i. found_law c at name object n f h (nearest c name n f i))))

get_law : (c : Ctx) (at : At) (name : List ℕ) (object : Tree) (t : Typ) → is_tx_exception t ≡ true → On (OfMember c name t) (exception_member at name object)
get_law c at name object t h = either (OfMember c name t) (bytes_eq name (codes "get")) _ _ (λ i. is_get h ((bytes_eq-Decides name (codes "get")).0 i) refl)
    (λ i. tt)

abbrev pub InMade : (Tree → Type 0) → Made → Type 0
InMade P m = P m.tree

abbrev pub InTyped : (Tree → Type 0) → Typed → Type 0
InTyped P r = P r.operand.tree

abbrev PointedOperand : Operand → Operand → Type 0
PointedOperand x o = Pointed x o.tree

member_law : (c : Ctx) (w : Work) (at dot : At) (name : List ℕ) (x : Operand) → On (InMade (OfMember c name (typ_in x.tree))) (member_access c w at dot name x)
member_law c w at dot name x = either (InMade (OfMember c name (typ_in x.tree))) (is_tx_exception (typ_in x.tree)) _ _
    (λ h. bind (OfMember c name (typ_in x.tree)) (InMade (OfMember c name (typ_in x.tree))) (exception_member at name (object_of c w x.at x.tree).tree) _
    (get_law c at name (object_of c w x.at x.tree).tree (typ_in x.tree) h) (λ e g. g))
    (λ h. bind (OfMember c name (typ_in (object_of c w x.at x.tree).tree)) (InMade (OfMember c name (typ_in x.tree)))
    (class_member c at dot name (object_of c w x.at x.tree).tree) _ (class_law c at dot name (object_of c w x.at x.tree).tree)
    (λ e g. subst (λ (u : Typ). OfMember c name u e) (object_typ c w x.at x.tree) g))

pub members_law : Members
members_law s c w p t a = of_one s c w a (λ (x : Operand). OfMember c (spelling s t) (typ_in x.tree))
    (λ (xs : TypedAll). row_of s c xs.work k.MemberAccess (at_of p) t xs.operands)
    (λ x. made_in (OfMember c (spelling s t) (typ_in x.operand.tree)) (at_of p)
    (member_access c x.work (at_of p) (token_place s (at_of p).source t) (spelling s t) x.operand)
    (member_law c x.work (at_of p) (token_place s (at_of p).source t) (spelling s t) x.operand))

through_law : (s : List Lexeme) (c : Ctx) (w : Work) (at dot : At) (name : List ℕ) (x : Operand)
    → On (InTyped (ThroughPointer c name x)) (and_then (pointed_operand at x) (λ (o : Operand). an_operand at (member_access c w at dot name o)))
through_law s c w at dot name x = bind (PointedOperand x) (InTyped (ThroughPointer c name x)) (pointed_operand at x) _
    (bind (Pointed x) (PointedOperand x) (indirection at x) _ (pointed_law at x) (λ e g. g)) (λ o g.
    weaken (InTyped (OfMember c name (typ_in o.tree))) (InTyped (ThroughPointer c name x)) (an_operand at (member_access c w at dot name o))
    (λ r m. record { target = g.target; pointer = g.pointer; member = subst (λ (u : Typ). OfMember c name u r.operand.tree) g.result.has_type m })
    (made_in (OfMember c name (typ_in o.tree)) at (member_access c w at dot name o) (member_law c w at dot name o)))

pub pointer_members_law : PointerMembers
pointer_members_law s c w p t a = of_one s c w a (ThroughPointer c (spelling s t))
    (λ (xs : TypedAll). row_of s c xs.work k.PointerMemberAccess (at_of p) t xs.operands)
    (λ x. through_law s c x.work (at_of p) (token_place s (at_of p).source t) (spelling s t) x.operand)
