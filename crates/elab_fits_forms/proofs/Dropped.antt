-- Values that are dropped, and what has no value.
use Rattle.std.proofs.Common.{◌≡◌, refl, ap, ◌∙◌, Bool, true, false, ◌&&◌, is_some}
use Rattle.std.proofs.lemmas.Bool.{and_parts}
use Rattle.std.specs.Prelude.{if◌then◌else◌}
use Rattle.elab_rules.specs.cpp_types.Typ.{Typ, typ, Form, void, int, enum, null, ptr, ref, tx_ex}
use Rattle.elab_rules.specs.cpp_types.Conversion.{decayed}
use Rattle.elab_rules.specs.cpp_types.declared.classes.At.{At}
use Rattle.elab_rules.specs.cpp_types.declared.ranks.Cat.{Cat}
use Rattle.elab_rules.specs.cpp_types.declared.ranks.Cat.TheVariants.{Lvalue, Prvalue}
use Rattle.elab_rules.specs.cpp_tree.declared.kinds.TKind.TheVariants.{Retype, Throw, Rethrow}
use Rattle.elab_rules.specs.cpp_tree.declared.roles.Position.{Position}
use Rattle.elab_rules.specs.cpp_tree.declared.roles.Role.TheVariants.{Value, Initialiser}
use Rattle.elab_rules.specs.cpp_tree.Trees.{Tree, node, none, more, one, kind_of, typ_in, cat_of}
use Rattle.elab_rules.specs.cpp_tree.Notation.{plain}
use Rattle.elab_rules.specs.cpp_tree.Typing.{form_in, kind_in, is_class_prvalue, is_volatile_typ}
use Rattle.elab_rules.specs.cpp_tree.Rows.{Setting}
use Rattle.elab_rules.specs.cpp_tree.WellFormed.{fits}
use Rattle.elab_rules.specs.elab_ctx.Ctx.{Ctx, Work}
use Rattle.elab_rules.specs.elab_ctx.Steps.{Operand, Made}
use Rattle.elab_rules.specs.Values.{place_of, same_at, builder}
use Rattle.elab_rules.specs.Operators.{value, bare_throw, is_throw, dropped, throws, is_volatile_scalar, is_read_when_dropped, without_value}
use Rattle.elab_fits.specs.Standing.{FitsAs, Reaches}
use Rattle.elab_fits.specs.Scalars.{IsOperand}
use Rattle.elab_fits.proofs.Nodes.{of_value, one_kid}
use Rattle.elab_fits.proofs.Arithmetic.{value_of}
use Rattle.elab_fits.proofs.Initials.{value_form_is}
use Rattle.elab_fits.proofs.Choosing.{worded}
use Rattle.elab_fits.proofs.Comma.{bare_fits}
use Rattle.elab_fits.proofs.Values.{retypes}
use Rattle.elab_fits_forms.specs.Meaning.{Proper, ProperOperand}
use Rattle.elab_fits_forms.specs.Context.{Holds}
use Rattle.elab_fits_forms.proofs.Temporaries.{object_value}

pub operand_is : (s : Setting) (c : Ctx) (o : Operand) → ProperOperand s c o → IsOperand s o
operand_is s c o p = record { stands = p.proper.stands; zero = p.zero }

-- What throws

-- a throw stands for a value where it stands for an object
thrown_value : (s : Setting) (p : Position) (e : Tree) → is_throw (kind_of e) ≡ true → fits s p Initialiser e ≡ true → fits s p Value e ≡ true
thrown_value s p (node Throw t cat at kids) k h = h
thrown_value s p (node Rethrow t cat at kids) k h = h
thrown_value s p (node kind t cat at kids) k h = absurd cc

bare_kid : (s : Setting) (p : Position) (t : Typ) (cat : Cat) (at : At) (e : Tree) (b : Bool) → (is_throw (kind_of e) && same_at at (place_of e)) ≡ b
    → is_throw (kind_of (if b then e else node Retype t cat at (one e))) ≡ true → is_class_prvalue t cat ≡ true
    → fits s p Initialiser (builder (node Retype t cat at (one e))) ≡ true → fits s p Value (if b then e else node Retype t cat at (one e)) ≡ true
bare_kid s p t cat at e false b k n h = absurd cc
bare_kid s p (typ (tx_ex u) c v) Prvalue at e true b k n h = thrown_value s p e k h
bare_kid s p (typ (tx_ex u) c v) Lvalue at e true b k n h = absurd cc
bare_kid s p (typ f c v) cat at e true b k n h = absurd cc

bare_value : (s : Setting) (p : Position) (e : Tree) → throws e ≡ true → is_class_prvalue (typ_in e) (cat_of e) ≡ true
    → fits s p Initialiser (builder e) ≡ true → fits s p Value (bare_throw e) ≡ true
bare_value s p (node Retype t cat at (more e none)) k n h = bare_kid s p t cat at e (is_throw (kind_of e) && same_at at (place_of e)) refl k n h
bare_value s p (node Throw t cat at kids) k n h = h
bare_value s p (node Rethrow t cat at kids) k n h = h
bare_value s p (node kind t cat at kids) k n h = absurd cc

pub thrown_fits : (s : Setting) (c : Ctx) (e : Tree) → Proper s c e → throws e ≡ true → FitsAs s Value (bare_throw e)
thrown_fits s c e x k = by (is_class_prvalue (typ_in e) (cat_of e)) refl
  where
    by : (b : Bool) → is_class_prvalue (typ_in e) (cat_of e) ≡ b → FitsAs s Value (bare_throw e)
    by true n = λ p full. bare_value s p e k n (x.stands.object n p full)
    by false n = bare_fits s e (x.stands.value n)

-- Dropped values (C++14 clause 5 p11)

decayed_kind : (t : Typ) → is_some (kind_in (form_in t)) ≡ true → is_some (kind_in (decayed t)) ≡ true
decayed_kind (typ (int j) c v) h = refl
decayed_kind (typ (enum n e) c v) h = refl
decayed_kind (typ null c v) h = refl
decayed_kind (typ (ptr t) c v) h = refl
decayed_kind (typ (ref t) c v) h = refl
decayed_kind (typ f c v) h = absurd cc

read_fits : (s : Setting) (o : Operand) → IsOperand s o → is_volatile_scalar (typ_in o.tree) ≡ true → FitsAs s Value (value o)
read_fits s o x v = (value_of s o x (worded s o x (ap (λ (f : Form). is_some (kind_in f)) (value_form_is o.at o.tree)
    ∙ decayed_kind (typ_in o.tree) (and_parts (is_volatile_typ (typ_in o.tree)) (is_some (kind_in (form_in (typ_in o.tree)))) v).1))).fits

pub if_made : (P : Made → Type 0) (b : Bool) (x y : Made) → (b ≡ true → P x) → (b ≡ false → P y) → P (if b then x else y)
if_made P true x y h k = h refl
if_made P false x y h k = k refl

pub dropped_value : (s : Setting) (c : Ctx) (w w' : Work) (o : Operand) → Holds s c w' → ProperOperand s c o → Reaches s (dropped c w o).work
    → FitsAs s Value (dropped c w o).tree
dropped_value s c w w' o h x = if_made (λ (m : Made). Reaches s m.work → FitsAs s Value m.tree) (throws o.tree) _ _
    (λ k r. thrown_fits s c o.tree x.proper k)
    (λ k. if_made (λ (m : Made). Reaches s m.work → FitsAs s Value m.tree) (is_volatile_scalar (typ_in o.tree) && is_read_when_dropped o.tree) _ _
    (λ v r. read_fits s o (operand_is s c o x) (and_parts (is_volatile_scalar (typ_in o.tree)) (is_read_when_dropped o.tree) v).0)
    (λ v r. object_value s c w o.at o.tree h.setting h.makers.specials x.proper r))

-- What has no value

pub nothing_proper : (s : Setting) (c : Ctx) (at : At) (e : Tree) → FitsAs s Value e → Proper s c (without_value at e)
nothing_proper s c at e h = record {
  stands = of_value s (without_value at e) refl refl (one_kid s Retype (plain void) Prvalue at e retypes refl refl h);
  sound = refl;
  nothing = λ v. refl;
  whole = λ k. absurd cc;
  copied = λ k. absurd cc;
}
