-- Nodes of calls, where their words fit.
use Rattle.std.proofs.Common.{◌≡◌, refl, ap, ◌∙◌, ℕ, suc, Bool, true, false, not, ◌&&◌, ◌||◌, cond, List, [], ◌∷◌, length, slice_get}
use Rattle.std.proofs.Common.{Option, Some, arith, le-leb}
use Rattle.elab_rules.specs.cpp_types.Typ.{Typ, typ, Form, void, int, enum, null, ptr, ref, array, func, class, closure, tx_ex, Signature, signature}
use Rattle.elab_rules.specs.cpp_types.Class.{Function}
use Rattle.elab_rules.specs.Values.{builder}
use Rattle.elab_rules.specs.cpp_types.declared.classes.At.{At}
use Rattle.elab_rules.specs.cpp_types.declared.ranks.Cat.{Cat}
use Rattle.elab_rules.specs.cpp_types.declared.ranks.Cat.TheVariants.{Lvalue, Prvalue}
use Rattle.elab_rules.specs.cpp_tree.declared.kinds.TKind.{TKind}
use Rattle.elab_rules.specs.cpp_tree.declared.kinds.TKind.TheVariants.{Call, VirtualCall, PointerCall}
use Rattle.elab_rules.specs.cpp_tree.declared.program.FuncKind.{FuncKind}
use Rattle.elab_rules.specs.cpp_tree.declared.roles.Position.{Position}
use Rattle.elab_rules.specs.cpp_tree.declared.roles.Role.{Role}
use Rattle.elab_rules.specs.cpp_tree.declared.roles.Role.TheVariants.{Value, Word, Initialiser}
use Rattle.elab_rules.specs.cpp_tree.Trees.{Tree, node, Trees, none, more}
use Rattle.elab_rules.specs.cpp_tree.Notation.{plain}
use Rattle.elab_rules.specs.cpp_tree.Units.{Func as UnitFunc}
use Rattle.elab_rules.specs.cpp_tree.Typing.{Head, passes, is_class_typ, is_class_prvalue}
use Rattle.elab_rules.specs.cpp_tree.Typing.{is_result as is_given, are_words, goes_both_ways}
use Rattle.elab_rules.specs.cpp_tree.Roles.{Kids, and_any, kids_for, is_expression, is_initialiser, is_throw, is_full}
use Rattle.elab_rules.specs.cpp_tree.Rows.{Setting, row_fits, is_special, result_in, result_of, signature_words, words_of}
use Rattle.elab_rules.specs.cpp_tree.WellFormed.{fits, kids_fit, heads_of, enough, may_stand, branches_fit, is_switch, inside}
use Rattle.elab_rules.specs.elab_ctx.Ctx.{Ctx, Func}
use Rattle.elab_rules.specs.Initialising.{signature_result}
use Rattle.elab_rules.specs.Calls.{result_type, result_category, call_node}
use Rattle.elab_fits.specs.Standing.{FitsAs, IsExpressionType, IsSetting}
use Rattle.elab_fits.specs.Objects.{AllFit}
use Rattle.elab_fits.proofs.Equal.{typ_refl}
use Rattle.elab_fits.proofs.Nodes.{both, or_right, clash, node_fits, of_value, value_kid, word_kid}
use Rattle.elab_fits.proofs.Pieces.{any_many}
use Rattle.elab_fits_forms.specs.Types.{is_sound, is_sound_form, is_target, is_result, IsWhole}
use Rattle.elab_fits_objects.specs.Contexts.{copies_itself}
use Rattle.elab_fits_forms.specs.Meaning.{Proper}
use Rattle.elab_fits_forms.proofs.Types.{target_type}
use Rattle.elab_fits_forms.proofs.Proper.{proper_lvalue}
use Rattle.elab_fits_forms.proofs.Settled.{proper_built, own_builds}

-- Words as kids

words_fit : (s : Setting) (p : Position) (i : ℕ) (ts : Trees) → AllFit s Word ts → p.full ≡ true → kids_fit s p (and_any [] Word) i ts ≡ true
words_fit s p i none h full = refl
words_fit s p i (more t ts) h full = both (both (word_kid s p t (h.0 p full)) (h.0 p full)) (words_fit s p (suc i) ts h.1 full)

words_behind : (s : Setting) (p : Position) (i : ℕ) (ts : Trees) → AllFit s Word ts → p.full ≡ true
    → kids_fit s p (and_any (Value ∷ []) Word) (suc i) ts ≡ true
words_behind s p i none h full = refl
words_behind s p i (more t ts) h full = both (both (word_kid s p t (h.0 p full)) (h.0 p full)) (words_behind s p (suc i) ts h.1 full)

-- Kinds of calls

pub record IsCall (s : Setting) (kind : TKind) (ts : Trees) : Type 0 where
  pub value : is_expression kind ≡ true
  pub initial : is_initialiser kind ≡ true
  pub anywhere : (f : FuncKind) (p : Position) (many : ℕ) → may_stand f p kind many ≡ true
  pub unbranched : (role : Role) (t : Typ) (hs : List Head) → branches_fit role kind t hs ≡ true
  pub asked : Kids
  pub asks : (role : Role) (a b : Bool) → kids_for role kind a b ≡ asked
  pub enough : enough asked (length (heads_of ts)) ≡ true
  pub no_switch : is_switch kind ≡ false
  pub kids : (p : Position) → p.full ≡ true → kids_fit s (inside kind p) asked 0 ts ≡ true
  pub whole : (t : Typ) (cat : Cat) (at : At) → copies_itself (node kind t cat at ts) ≡ true
  pub itself : (t : Typ) (cat : Cat) (at : At) → builder (node kind t cat at ts) ≡ node kind t cat at ts

one_at_least : (role other : Role) (many : ℕ) → enough (and_any (role ∷ []) other) (suc many) ≡ true
one_at_least role other many = le-leb 1 (suc many) (omega arith)

pub named_call : (s : Setting) (k : ℕ) (ts : Trees) → AllFit s Word ts → IsCall s (Call k) ts
named_call s k ts h = record {
  value = refl;
  initial = refl;
  anywhere = λ f p n. refl;
  unbranched = λ role t hs. refl;
  asked = and_any [] Word;
  asks = λ role a b. refl;
  enough = any_many Word (length (heads_of ts));
  no_switch = refl;
  kids = λ p full. words_fit s p 0 ts h full;
  whole = λ t cat at. refl;
  itself = λ t cat at. refl;
}

pub virtual_call : (s : Setting) (f n slot pointer : ℕ) (object : Tree) (ts : Trees) → FitsAs s Value object → AllFit s Word ts
    → IsCall s (VirtualCall f n slot pointer) (more object ts)
virtual_call s f n slot pointer object ts g h = record {
  value = refl;
  initial = refl;
  anywhere = λ f p n. refl;
  unbranched = λ role t hs. refl;
  asked = and_any (Value ∷ []) Word;
  asks = λ role a b. refl;
  enough = one_at_least Value Word (length (heads_of ts));
  no_switch = refl;
  kids = λ p full. both (both (value_kid s p object (g p full)) (g p full)) (words_behind s p 0 ts h full);
  whole = λ t cat at. refl;
  itself = λ t cat at. refl;
}

pub pointer_call : (s : Setting) (object : Tree) (ts : Trees) → FitsAs s Value object → AllFit s Word ts → IsCall s PointerCall (more object ts)
pointer_call s object ts g h = record {
  value = refl;
  initial = refl;
  anywhere = λ f p n. refl;
  unbranched = λ role t hs. refl;
  asked = and_any (Value ∷ []) Word;
  asks = λ role a b. refl;
  enough = one_at_least Value Word (length (heads_of ts));
  no_switch = refl;
  kids = λ p full. both (both (value_kid s p object (g p full)) (g p full)) (words_behind s p 0 ts h full);
  whole = λ t cat at. refl;
  itself = λ t cat at. refl;
}

-- What a call gives (C++14 5.2.2 p10)

pub result_row : (classes : _) (r : Typ) → is_result classes r ≡ true → is_given r (result_type r) (result_category r) ≡ true
result_row classes (typ (ref t) q v) h = typ_refl t
result_row classes (typ (class n) q v) h = typ_refl (typ (class n) q v)
result_row classes (typ (closure n) q v) h = typ_refl (typ (closure n) q v)
result_row classes (typ (tx_ex t) q v) h = typ_refl (typ (tx_ex t) q v)
result_row classes (typ (array t n) q v) h = absurd cc
result_row classes (typ (func g) q v) h = absurd cc
result_row classes (typ void q v) h = refl
result_row classes (typ (int k) q v) h = typ_refl (plain (int k))
result_row classes (typ (enum n e) q v) h = typ_refl (plain (enum n e))
result_row classes (typ null q v) h = refl
result_row classes (typ (ptr t) q v) h = typ_refl (plain (ptr t))

value_call : (s : Setting) (kind : TKind) (ts : Trees) (t : Typ) (cat : Cat) (at : At) → IsCall s kind ts → is_class_prvalue t cat ≡ false
    → row_fits s kind t cat (heads_of ts) ≡ true → FitsAs s Value (node kind t cat at ts)
value_call s kind ts t cat at c n r = λ p full. node_fits s p Value kind t cat at ts c.asked c.value (or_right (is_throw kind) (ap not n))
    (c.anywhere s.function.kind p (length (heads_of ts))) (c.unbranched Value t (heads_of ts)) r (c.asks Value _ _) c.enough c.no_switch (c.kids p full)

object_call : (s : Setting) (kind : TKind) (ts : Trees) (t : Typ) (cat : Cat) (at : At) → IsCall s kind ts → is_class_prvalue t cat ≡ true
    → row_fits s kind t cat (heads_of ts) ≡ true → FitsAs s Initialiser (node kind t cat at ts)
object_call s kind ts t cat at c n r = λ p full. node_fits s p Initialiser kind t cat at ts c.asked c.initial
    (or_right (not (goes_both_ways kind) || is_throw kind || is_full kind) n)
    (c.anywhere s.function.kind p (length (heads_of ts))) (c.unbranched Initialiser t (heads_of ts)) r (c.asks Initialiser _ _) c.enough c.no_switch
    (c.kids p full)

lvalue_call : (s : Setting) (c : Ctx) (kind : TKind) (ts : Trees) (t : Typ) (at : At) → IsCall s kind ts → is_target c.classes t ≡ true
    → row_fits s kind t Lvalue (heads_of ts) ≡ true → Proper s c (node kind t Lvalue at ts)
lvalue_call s c kind ts t at k i r = proper_lvalue s c (node kind t Lvalue at ts)
    (of_value s (node kind t Lvalue at ts) (target_type c.classes t i) refl (value_call s kind ts t Lvalue at k refl r)) refl i

class_call : (s : Setting) (c : Ctx) (kind : TKind) (ts : Trees) (t : Typ) (at : At) → IsCall s kind ts → is_class_typ t ≡ true
    → is_sound c.classes t ≡ true → IsWhole c.classes t → row_fits s kind t Prvalue (heads_of ts) ≡ true → Proper s c (node kind t Prvalue at ts)
class_call s c kind ts t at k o i x r = proper_built s c (node kind t Prvalue at ts) (record {
  typed = o;
  category = refl;
  sound = i;
  whole = x;
  itself = k.itself t Prvalue at;
  copied = k.whole t Prvalue at;
  fits = object_call s kind ts t Prvalue at k o r;
  builds = own_builds (node kind t Prvalue at ts) refl;
})

scalar_call : (s : Setting) (c : Ctx) (kind : TKind) (ts : Trees) (f : Form) (at : At) → IsCall s kind ts → IsExpressionType (plain f) Prvalue
    → is_class_typ (plain f) ≡ false → is_sound_form c.classes f ≡ true → row_fits s kind (plain f) Prvalue (heads_of ts) ≡ true
    → Proper s c (node kind (plain f) Prvalue at ts)
scalar_call s c kind ts f at k d n i r = record {
  stands = of_value s (node kind (plain f) Prvalue at ts) d n (value_call s kind ts (plain f) Prvalue at k n r);
  sound = i;
  nothing = λ v. refl;
  whole = λ m. clash (IsWhole c.classes (plain f)) (is_class_typ (plain f)) n m;
  copied = λ m. clash (copies_itself (builder (node kind (plain f) Prvalue at ts)) ≡ true) (is_class_typ (plain f)) n m;
}

-- a call of what gives this; the class of an object that is given is complete
pub call_proper : (s : Setting) (c : Ctx) (kind : TKind) (ts : Trees) (r : Typ) (at : At) → IsCall s kind ts → is_result c.classes r ≡ true
    → (is_class_typ r ≡ true → IsWhole c.classes r) → row_fits s kind (result_type r) (result_category r) (heads_of ts) ≡ true
    → Proper s c (call_node at kind r ts)
call_proper s c kind ts (typ (ref t) q v) at k i x r = lvalue_call s c kind ts t at k i r
call_proper s c kind ts (typ (class n) q v) at k i x r = class_call s c kind ts (typ (class n) q v) at k refl i (x refl) r
call_proper s c kind ts (typ (closure n) q v) at k i x r = class_call s c kind ts (typ (closure n) q v) at k refl i (x refl) r
call_proper s c kind ts (typ (tx_ex t) q v) at k i x r = class_call s c kind ts (typ (tx_ex t) q v) at k refl i (x refl) r
call_proper s c kind ts (typ (array t n) q v) at k i x r = absurd cc
call_proper s c kind ts (typ (func g) q v) at k i x r = absurd cc
call_proper s c kind ts (typ void q v) at k i x r = scalar_call s c kind ts void at k refl refl i r
call_proper s c kind ts (typ (int j) q v) at k i x r = scalar_call s c kind ts (int j) at k (λ n. refl) refl i r
call_proper s c kind ts (typ (enum n e) q v) at k i x r = scalar_call s c kind ts (enum n e) at k (λ n. refl) refl i r
call_proper s c kind ts (typ null q v) at k i x r = scalar_call s c kind ts null at k (λ n. refl) refl i r
call_proper s c kind ts (typ (ptr t) q v) at k i x r = scalar_call s c kind ts (ptr t) at k (λ n. refl) refl i r

-- Rows

pub plain_result : (kind : FuncKind) (g : Signature) → is_special kind ≡ false → result_in kind g ≡ signature_result g
plain_result kind (signature ps r safe) h = ap (λ (b : Bool). cond b (typ void false false) r) h

-- of a function by its place
pub named_row : (s : Setting) (c : Ctx) (k : ℕ) (f : Func) (hs : List Head) → IsSetting s c → slice_get c.funcs k ≡ Some f → is_special f.kind ≡ false
    → is_result c.classes (signature_result f.declared.signature) ≡ true → are_words (signature_words f.class f.declared.signature) hs ≡ true
    → row_fits s (Call k) (result_type (signature_result f.declared.signature)) (result_category (signature_result f.declared.signature)) hs ≡ true
named_row s c k f hs i e n h w =
    let x = i.funcs k f e in
    let r = signature_result f.declared.signature in
    ap (λ (o : Option UnitFunc). passes (λ (g : UnitFunc). not (is_special g.kind) && is_given (result_of g) (result_type r) (result_category r)
    && are_words (words_of g) hs) o) x.at
    ∙ both (both (ap (λ (z : FuncKind). not (is_special z)) x.is.kind ∙ ap not n)
    (ap (λ (z : Typ). is_given z (result_type r) (result_category r)) (ap (λ (z : FuncKind). result_in z x.func.declared.signature) x.is.kind
    ∙ ap (λ (z : Function). result_in f.kind z.signature) x.is.declared ∙ plain_result f.kind f.declared.signature n)
    ∙ result_row c.classes r h))
    (ap (λ (z : Option ℕ). are_words (signature_words z x.func.declared.signature) hs) x.is.class
    ∙ ap (λ (z : Function). are_words (signature_words f.class z.signature) hs) x.is.declared ∙ w)
