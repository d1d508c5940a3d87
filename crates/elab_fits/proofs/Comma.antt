-- `,` where no operand is a class prvalue.
use Rattle.std.proofs.Common.{◌≡◌, refl, ap, ◌∙◌, Bool, true, false, ◌&&◌, ◌||◌, not, [], ◌∷◌, is_some}
use Rattle.std.proofs.lemmas.Bool.{and_parts}
use Rattle.std.specs.Prelude.{if◌then◌else◌}
use Rattle.elab_rules.specs.cpp_types.Typ.{Typ, typ, Form, void, int, enum, null, ptr, ref, array, func, class, closure, tx_ex}
use Rattle.elab_rules.specs.cpp_types.Equal.{typ_eq}
use Rattle.elab_rules.specs.cpp_types.Conversion.{is_lvalue, decayed}
use Rattle.elab_rules.specs.cpp_types.declared.classes.At.{At}
use Rattle.elab_rules.specs.cpp_types.declared.ranks.Cat.{Cat}
use Rattle.elab_rules.specs.cpp_types.declared.ranks.Cat.TheVariants.{Lvalue, Prvalue}
use Rattle.elab_rules.specs.cpp_tree.declared.kinds.TKind.TheVariants.{Comma, Retype}
use Rattle.elab_rules.specs.cpp_tree.declared.roles.Role.TheVariants.{Value}
use Rattle.elab_rules.specs.cpp_tree.Trees.{Tree, node, none, more, one, kind_of, typ_in, cat_of}
use Rattle.elab_rules.specs.cpp_tree.Typing.{Head, head_of, form_in, kind_in, is_prvalue, is_class_prvalue, is_volatile_typ}
use Rattle.elab_rules.specs.cpp_tree.Roles.{only}
use Rattle.elab_rules.specs.cpp_tree.Rows.{Setting, same_value}
use Rattle.elab_rules.specs.cpp_tree.WellFormed.{fits, kids_fit, stands, enough, labels_fit, is_kid}
use Rattle.elab_rules.specs.cpp_tree.declared.roles.Position.{Position}
use Rattle.elab_rules.specs.Values.{place_of, same_at}
use Rattle.elab_rules.specs.elab_ctx.Ctx.{Ctx, Work}
use Rattle.elab_rules.specs.elab_ctx.Steps.{Operand, Made}
use Rattle.elab_rules.specs.Initialising.{is_written_exception}
use Rattle.elab_rules.specs.Operators.{value, bare_throw, is_throw, comma, comma_of, dropped, throws, is_volatile_scalar, is_read_when_dropped}
use Rattle.elab_fits.specs.Standing.{FitsAs, Stands}
use Rattle.elab_fits.specs.Scalars.{IsOperand}
use Rattle.elab_fits.proofs.Equal.{typ_refl}
use Rattle.elab_fits.proofs.Nodes.{both, clash, head_typ, head_cat, Simple, two_kids, of_value}
use Rattle.elab_fits.proofs.Arithmetic.{value_of}
use Rattle.elab_fits.proofs.Initials.{value_form_is}
use Rattle.elab_fits.proofs.Choosing.{worded}

commas : Simple Comma (only (Value ∷ Value ∷ []))
commas = record { is_value = refl; anywhere = λ f p n. refl; unbranched = λ t hs. refl; asks = λ a b. refl; no_switch = refl }

pub same_row : (t : Typ) (cat : Cat) (h : Head) → h.typ ≡ t → h.cat ≡ cat → same_value t cat h ≡ true
same_row t Lvalue h e d = both (ap is_lvalue d) (ap (λ (u : Typ). typ_eq t u) e ∙ typ_refl t)
same_row t Prvalue h e d = both (ap is_prvalue d) (ap (λ (u : Typ). typ_eq t u) e ∙ typ_refl t)

pub pair_stands : (s : Setting) (at : At) (x y : Tree) → FitsAs s Value x → Stands s y → is_class_prvalue (typ_in y) (cat_of y) ≡ false
    → Stands s (comma_of at x y)
pair_stands s at x y g h n = of_value s (comma_of at x y) h.typed n (two_kids s Comma (typ_in y) (cat_of y) at x y commas (ap not n)
    (same_row (typ_in y) (cat_of y) (head_of y) (head_typ y) (head_cat y)) g (h.value n))

pub made_if : (P : Tree → Type 0) (b : Bool) (x y : Made) → (b ≡ true → P x.tree) → (b ≡ false → P y.tree) → P (if b then x else y).tree
made_if P true x y h k = h refl
made_if P false x y h k = k refl

decayed_kind : (t : Typ) → is_some (kind_in (form_in t)) ≡ true → is_some (kind_in (decayed t)) ≡ true
decayed_kind (typ (int j) c v) h = refl
decayed_kind (typ (enum n e) c v) h = refl
decayed_kind (typ null c v) h = refl
decayed_kind (typ (ptr t) c v) h = refl
decayed_kind (typ (ref t) c v) h = refl
decayed_kind (typ void c v) h = absurd cc
decayed_kind (typ (array t n) c v) h = absurd cc
decayed_kind (typ (func t) c v) h = absurd cc
decayed_kind (typ (class n) c v) h = absurd cc
decayed_kind (typ (closure n) c v) h = absurd cc
decayed_kind (typ (tx_ex t) c v) h = absurd cc

-- What throws

-- what is told to have another type fits without that
kid_fits : (s : Setting) (p : Position) (t : Typ) (cat : Cat) (at : At) (e : Tree) → fits s p Value (node Retype t cat at (one e)) ≡ true
    → fits s p Value e ≡ true
kid_fits s p t cat at e h =
    let a = and_parts (stands s p Value Retype t cat (head_of e ∷ []) && enough (only (Value ∷ [])) 1 && (not false || labels_fit false (one e)))
    (kids_fit s p (only (Value ∷ [])) 0 (one e)) h in
    let b = and_parts (is_kid (kind_of e) && fits s p Value e) true a.1 in
    (and_parts (is_kid (kind_of e)) (fits s p Value e) b.0).1

bare_by : (s : Setting) (t : Typ) (cat : Cat) (at : At) (e : Tree) (b : Bool) → FitsAs s Value (node Retype t cat at (one e))
    → FitsAs s Value (if b then e else node Retype t cat at (one e))
bare_by s t cat at e true h = λ p full. kid_fits s p t cat at e (h p full)
bare_by s t cat at e false h = h

pub bare_fits : (s : Setting) (e : Tree) → FitsAs s Value e → FitsAs s Value (bare_throw e)
bare_fits s (node Retype t cat at (more e none)) h = bare_by s t cat at e (is_throw (kind_of e) && same_at at (place_of e)) h
bare_fits s (node kind t cat at kids) h = h

-- what is dropped of an operand that is no class prvalue
pub dropped_fits : (s : Setting) (c : Ctx) (w : Work) (o : Operand) → IsOperand s o
    → is_class_prvalue (typ_in o.tree) (cat_of o.tree) ≡ false → FitsAs s Value (dropped c w o).tree
dropped_fits s c w o x n = made_if (FitsAs s Value) (throws o.tree) _ _ (λ h. bare_fits s o.tree (x.stands.value n))
    (λ h. made_if (FitsAs s Value) (is_volatile_scalar (typ_in o.tree) && is_read_when_dropped o.tree) _ _
    (λ v. read (and_parts (is_volatile_scalar (typ_in o.tree)) (is_read_when_dropped o.tree) v).0)
    (λ v. made_if (FitsAs s Value) (is_class_prvalue (typ_in o.tree) (cat_of o.tree)) _ _
    (λ k. clash _ (is_class_prvalue (typ_in o.tree) (cat_of o.tree)) n k) (λ k. x.stands.value n)))
  where
    read : is_volatile_scalar (typ_in o.tree) ≡ true → FitsAs s Value (value o)
    read v = (value_of s o x (worded s o x (ap (λ (f : Form). is_some (kind_in f)) (value_form_is o.at o.tree)
        ∙ decayed_kind (typ_in o.tree) (and_parts (is_volatile_typ (typ_in o.tree)) (is_some (kind_in (form_in (typ_in o.tree)))) v).1))).fits

pub written_object : (e : Tree) → is_written_exception e ≡ true → is_class_prvalue (typ_in e) (cat_of e) ≡ true
written_object (node Retype (typ (tx_ex t) d v) Prvalue at kids) h = refl
written_object (node kind t cat at kids) h = absurd cc

pub comma_stands : (s : Setting) (c : Ctx) (w : Work) (at : At) (a b : Operand) → IsOperand s a → IsOperand s b
    → is_class_prvalue (typ_in a.tree) (cat_of a.tree) ≡ false → is_class_prvalue (typ_in b.tree) (cat_of b.tree) ≡ false
    → Stands s (comma c w at a b).tree
comma_stands s c w at a b x y n m = made_if (λ (z : Tree). Stands s (comma_of at (dropped c w a).tree z)) (is_written_exception b.tree) _ _
    (λ h. clash _ (is_class_prvalue (typ_in b.tree) (cat_of b.tree)) m (written_object b.tree h))
    (λ h. pair_stands s at (dropped c w a).tree b.tree (dropped_fits s c w a x n) y.stands m)
