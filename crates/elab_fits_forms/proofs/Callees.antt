-- What is called: functions by name, member functions, lambdas and pointers.
use Rattle.std.proofs.Common.{◌≡◌, refl, sym, ap, ◌∙◌, subst, ℕ, suc, Bool, true, false, not, ◌&&◌, List, [], ◌∷◌, length, slice_get}
use Rattle.std.proofs.Common.{Option, Some, None, is_some, unwrap_or, eq-eqb}
use Rattle.std.proofs.lemmas.Bool.{and_parts}
use Rattle.std.specs.Prelude.{if◌then◌else◌}
use Rattle.std.specs.Str.{bytes_eq}
use Rattle.std.specs.List.{list_all}
use Rattle.elab_rules.specs.tx_ints.declared.kinds.IntKind.{IntKind}
use Rattle.elab_rules.specs.tx_ints.declared.kinds.IntKind.TheVariants.{Int}
use Rattle.elab_rules.specs.cpp_types.Typ.{Typ, typ, Form, void, int, enum, null, ptr, class, closure, Signature, signature}
use Rattle.elab_rules.specs.cpp_types.Class.{Class, Function, completion_of}
use Rattle.elab_rules.specs.cpp_types.Equal.{typ_eq}
use Rattle.elab_rules.specs.cpp_types.Conversion.{is_lvalue}
use Rattle.elab_rules.specs.cpp_types.declared.classes.At.{At}
use Rattle.elab_rules.specs.cpp_types.declared.ranks.Cat.TheVariants.{Lvalue, Prvalue}
use Rattle.elab_rules.specs.cpp_overload.Overload.{count_of}
use Rattle.elab_rules.specs.cpp_tree.declared.faults.IllRule.TheVariants.{BadMain}
use Rattle.elab_rules.specs.cpp_tree.declared.kinds.Builtin.{Builtin}
use Rattle.elab_rules.specs.cpp_tree.declared.kinds.Builtin.TheVariants.{PutChar, GetChar, Spawn, Join, Abort}
use Rattle.elab_rules.specs.cpp_tree.declared.kinds.TKind.{TKind}
use Rattle.elab_rules.specs.cpp_tree.declared.kinds.TKind.TheVariants.{Call, VirtualCall, Conditional, Materialize, Builtin as BuiltinNode}
use Rattle.elab_rules.specs.cpp_tree.declared.program.FuncKind.{FuncKind}
use Rattle.elab_rules.specs.cpp_tree.declared.program.FuncKind.TheVariants.{Plain}
use Rattle.elab_rules.specs.cpp_tree.declared.roles.Position.{Position}
use Rattle.elab_rules.specs.cpp_tree.declared.roles.Role.TheVariants.{Value, Word}
use Rattle.elab_rules.specs.cpp_tree.Trees.{Tree, node, Trees, none, more, one, kind_of, typ_in, cat_of}
use Rattle.elab_rules.specs.cpp_tree.Notation.{plain}
use Rattle.elab_rules.specs.cpp_tree.Units.{Func as UnitFunc, SlotFunc}
use Rattle.elab_rules.specs.cpp_tree.Typing.{Head, head_of, passes, form_in, is_void, is_class_typ, is_class, is_argument, are_words, is_word, is_prvalue}
use Rattle.elab_rules.specs.cpp_tree.Typing.{Word as WordOf, object, passed, is_result as is_given}
use Rattle.elab_rules.specs.cpp_tree.Parts.{has_pointer_at}
use Rattle.elab_rules.specs.cpp_tree.Roles.{and_any}
use Rattle.elab_rules.specs.cpp_tree.Rows.{Setting, row_fits, is_special, result_in, param_words, signature_words, words_of, builtin_words, builtin_result}
use Rattle.elab_rules.specs.cpp_tree.Rows.{is_virtual_call, is_member_of, has_slot}
use Rattle.elab_rules.specs.cpp_tree.WellFormed.{fits, kids_fit, heads_of}
use Rattle.elab_rules.specs.elab_ctx.Ctx.{Ctx, Work, Func}
use Rattle.elab_rules.specs.elab_ctx.Steps.{Operand}
use Rattle.elab_rules.specs.Objects.{class_in}
use Rattle.elab_rules.specs.Initialising.{func_at, arguments, places_from, same_number, class_number, signature_parameters, signature_result, as_base}
use Rattle.elab_rules.specs.Names.{is_free, is_method, is_plain_kind}
use Rattle.elab_rules.specs.Calls.{result_type, result_category, call_node, called, call_kind, best_of, is_main, call_free, as_object, member_kind, call_method_of}
use Rattle.elab_rules.specs.Calls.{slot_of_function, pointer_offset}
use Rattle.elab_fits.specs.Standing.{FitsAs, On}
use Rattle.elab_fits.specs.Scalars.{is_scalar}
use Rattle.elab_fits.specs.Objects.{AllFit}
use Rattle.elab_fits.proofs.Equal.{typ_refl, typ_same}
use Rattle.elab_fits.proofs.Nodes.{both, head_typ, head_cat, head_kind, node_fits, of_value, value_kid}
use Rattle.elab_fits.proofs.Steps.{bind, checked}
use Rattle.elab_fits.proofs.Values.{lvalue_stands}
use Rattle.elab_fits.proofs.Pieces.{any_many}
use Rattle.elab_fits_objects.specs.Making.{WordsFit}
use Rattle.elab_fits_objects.proofs.Fits.{within, within_full, value_word, no_argument}
use Rattle.elab_fits_forms.specs.Types.{is_result}
use Rattle.elab_fits_forms.specs.Meaning.{Proper, IsObject}
use Rattle.elab_fits_forms.specs.Context.{HasSlot, Holds}
use Rattle.elab_fits_forms.specs.Forms.{MadeStands, ProperOperands}
use Rattle.elab_fits_forms.proofs.Places.{func_is, number_is}
use Rattle.elab_fits_forms.proofs.Proper.{proper_value, object_word, object_fits}
use Rattle.elab_fits_forms.proofs.Calling.{named_call, virtual_call, result_row, plain_result, named_row}
use Rattle.elab_fits_forms.proofs.Calls.{CallsWith, called_made, called_stands, sound_parts, IsMeant, best_meant, many, no_class, signature_is}
use Rattle.elab_fits_forms.proofs.Calls.{free_count, member_count}

-- Functions that the language knows

word_value : (s : Setting) (p : Position) (e : Tree) → fits s p Word e ≡ true → is_argument (kind_of e) ≡ false → is_void (typ_in e) ≡ false
    → fits s p Value e ≡ true
word_value s p (node Conditional t cat at kids) h a v = rw v (rw v at h)
word_value s p (node (Materialize n true) t cat at kids) h a v = absurd cc
word_value s p (node (Materialize n false) t cat at kids) h a v = h
word_value s p (node kind t cat at kids) h a v = h

negated : (b : Bool) → not b ≡ true → b ≡ false
negated true h = absurd cc
negated false h = refl

-- a word of a scalar is a value
abbrev is_scalar_word : WordOf → Bool
is_scalar_word (object n) = false
is_scalar_word (passed (typ f q v)) = is_scalar f

scalar_word : (f : Form) (q v : Bool) (x : Head) → is_scalar f ≡ true → is_word (passed (typ f q v)) x ≡ true
    → (is_argument x.kind ≡ false) × (is_void x.typ ≡ false)
scalar_word (int k) q v x h g = let d = and_parts (not (is_argument x.kind)) (is_prvalue x.cat && typ_eq (plain (int k)) x.typ) g in
    (negated (is_argument x.kind) d.0, ap is_void (sym (typ_same (plain (int k)) x.typ (and_parts (is_prvalue x.cat) (typ_eq (plain (int k)) x.typ) d.1).1)))
scalar_word (enum n e) q v x h g = let d = and_parts (not (is_argument x.kind)) (is_prvalue x.cat && typ_eq (plain (enum n e)) x.typ) g in (
  negated (is_argument x.kind) d.0,
  ap is_void (sym (typ_same (plain (enum n e)) x.typ (and_parts (is_prvalue x.cat) (typ_eq (plain (enum n e)) x.typ) d.1).1)),
)
scalar_word null q v x h g = let d = and_parts (not (is_argument x.kind)) (is_prvalue x.cat && typ_eq (plain null) x.typ) g in
    (negated (is_argument x.kind) d.0, ap is_void (sym (typ_same (plain null) x.typ (and_parts (is_prvalue x.cat) (typ_eq (plain null) x.typ) d.1).1)))
scalar_word (ptr t) q v x h g = let d = and_parts (not (is_argument x.kind)) (is_prvalue x.cat && typ_eq (plain (ptr t)) x.typ) g in
    (negated (is_argument x.kind) d.0, ap is_void (sym (typ_same (plain (ptr t)) x.typ (and_parts (is_prvalue x.cat) (typ_eq (plain (ptr t)) x.typ) d.1).1)))
scalar_word f q v x h g = absurd cc

values_fit : (s : Setting) (ws : List WordOf) (ts : Trees) → list_all is_scalar_word ws ≡ true → are_words ws (heads_of ts) ≡ true → AllFit s Word ts
    → AllFit s Value ts
values_fit s [] none h g k = tt
values_fit s [] (more t ts) h g k = absurd cc
values_fit s (x ∷ ws) none h g k = absurd cc
values_fit s (object n ∷ ws) (more t ts) h g k = absurd cc
values_fit s (passed (typ f q v) ∷ ws) (more t ts) h g k =
    let a = and_parts (is_scalar f) (list_all is_scalar_word ws) h in
    let b = and_parts (is_word (passed (typ f q v)) (head_of t)) (are_words ws (heads_of ts)) g in
    let d = scalar_word f q v (head_of t) a.0 b.0 in (
      (λ p full. word_value s p t (k.0 p full) (ap is_argument (sym (head_kind t)) ∙ d.0) (ap is_void (sym (head_typ t)) ∙ d.1)),
      values_fit s ws ts a.1 b.1 k.1,
    )

scalar_words : (b : Builtin) → list_all is_scalar_word (builtin_words b) ≡ true
scalar_words PutChar = refl
scalar_words GetChar = refl
scalar_words Spawn = refl
scalar_words Join = refl
scalar_words Abort = refl

value_kids : (s : Setting) (p : Position) (i : ℕ) (ts : Trees) → AllFit s Value ts → p.full ≡ true → kids_fit s p (and_any [] Value) i ts ≡ true
value_kids s p i none h full = refl
value_kids s p i (more t ts) h full = both (both (value_kid s p t (h.0 p full)) (h.0 p full)) (value_kids s p (suc i) ts h.1 full)

builtin_fits : (s : Setting) (b : Builtin) (at : At) (ts : Trees) → AllFit s Word ts → are_words (builtin_words b) (heads_of ts) ≡ true
    → is_class_typ (plain (builtin_result b)) ≡ false → FitsAs s Value (node (BuiltinNode b) (plain (builtin_result b)) Prvalue at ts)
builtin_fits s b at ts h g n = λ p full. node_fits s p Value (BuiltinNode b) (plain (builtin_result b)) Prvalue at ts (and_any [] Value) refl (ap not n) refl
    refl (both (typ_refl (plain (builtin_result b))) g) refl (any_many Value (length (heads_of ts))) refl
    (value_kids s p 0 ts (values_fit s (builtin_words b) ts (scalar_words b) g h) full)

number_given : (s : Setting) (c : Ctx) (b : Builtin) (k : IntKind) (at : At) (ts : Trees) → FitsAs s Value (node (BuiltinNode b) (plain (int k)) Prvalue at ts)
    → Proper s c (node (BuiltinNode b) (plain (int k)) Prvalue at ts)
number_given s c b k at ts h = proper_value s c (int k) (node (BuiltinNode b) (plain (int k)) Prvalue at ts)
    (record { scalar = refl; fits = h; typed = refl; category = refl }) refl

nothing_given : (s : Setting) (c : Ctx) (b : Builtin) (at : At) (ts : Trees) → FitsAs s Value (node (BuiltinNode b) (plain void) Prvalue at ts)
    → Proper s c (node (BuiltinNode b) (plain void) Prvalue at ts)
nothing_given s c b at ts h = record {
  stands = of_value s (node (BuiltinNode b) (plain void) Prvalue at ts) refl refl h;
  sound = refl;
  nothing = λ v. refl;
  whole = λ k. absurd cc;
  copied = λ k. absurd cc;
}

pub builtin_proper : (s : Setting) (c : Ctx) (b : Builtin) (at : At) (ts : Trees) → AllFit s Word ts → are_words (builtin_words b) (heads_of ts) ≡ true
    → Proper s c (call_node at (BuiltinNode b) (plain (builtin_result b)) ts)
builtin_proper s c PutChar at ts h g = number_given s c PutChar Int at ts (builtin_fits s PutChar at ts h g refl)
builtin_proper s c GetChar at ts h g = number_given s c GetChar Int at ts (builtin_fits s GetChar at ts h g refl)
builtin_proper s c Spawn at ts h g = number_given s c Spawn Int at ts (builtin_fits s Spawn at ts h g refl)
builtin_proper s c Join at ts h g = nothing_given s c Join at ts (builtin_fits s Join at ts h g refl)
builtin_proper s c Abort at ts h g = nothing_given s c Abort at ts (builtin_fits s Abort at ts h g refl)

-- Functions by name

free_class : (name : List ℕ) (f : Func) → is_free name f ≡ true → f.class ≡ None
free_class name f h = no_class f.class (and_parts (bytes_eq f.declared.name name) (not (is_some f.class)) h).1

plain_special : (kind : FuncKind) → kind ≡ Plain → is_special kind ≡ false
plain_special kind h = ap is_special h

free_words : (f : Func) (ts : Trees) → f.class ≡ None → are_words (param_words (signature_parameters f.declared.signature)) (heads_of ts) ≡ true
    → are_words (signature_words f.class f.declared.signature) (heads_of ts) ≡ true
free_words f ts e h = ap (λ (ws : List WordOf). are_words ws (heads_of ts)) (signature_is f.class f.declared.signature e) ∙ h

free_function : (s : Setting) (c : Ctx) (w : Work) (at : At) (i : ℕ) (f : Func) (os : List Operand) → Holds s c w → slice_get c.funcs i ≡ Some f
    → f.class ≡ None → ProperOperands s c os → count_of (signature_parameters f.declared.signature) ≡ length os
    → On (MadeStands s c) (called c w at (call_kind f.builtin i) f.declared.signature none os)
free_function s c w at i f os h e n x k = by f.builtin refl
  where
    by : (o : Option Builtin) → f.builtin ≡ o → On (MadeStands s c) (called c w at (call_kind o i) f.declared.signature none os)
    by None d = called_stands s c w w at (Call i) f.declared.signature none os h (h.functions i f e).sound x k (λ ts r g. record {
      call = named_call s i ts g.fit;
      row = named_row s c i f (heads_of ts) h.setting e (plain_special f.kind ((h.functions i f e).free n))
          (sound_parts c f.declared.signature (h.functions i f e).sound).1 (free_words f ts n g.right);
    })
    by (Some b) d = called_made s c w w at (BuiltinNode b) f.declared.signature none os h (h.functions i f e).sound x k (λ ts r g y.
        let z = (h.functions i f e).builtin b d in
        subst (λ (t : Typ). Proper s c (call_node at (BuiltinNode b) t ts)) (sym z.result)
        (builtin_proper s c b at ts g.fit (sym (ap (λ (ws : List WordOf). are_words ws (heads_of ts)) (sym (none_words f.declared.signature) ∙ z.words)) ∙ g.right)))
      where
        none_words : (g : Signature) → signature_words None g ≡ param_words (signature_parameters g)
        none_words (signature ps q safe) = refl

pub free_stands : (s : Setting) (c : Ctx) (w : Work) (at : At) (k : ℕ) (os : List Operand) → Holds s c w → ProperOperands s c os
    → On (MadeStands s c) (call_free c w at k os)
free_stands s c w at k os h x = checked (MadeStands s c) at BadMain (not (is_main (func_at c.funcs k))) _ (λ y.
    bind (IsMeant c (is_free (func_at c.funcs k).declared.name) (arguments os)) (MadeStands s c)
    (best_of c at (places_from (is_free (func_at c.funcs k).declared.name) 0 c.funcs) os) _
    (best_meant c at (is_free (func_at c.funcs k).declared.name) os)
    (λ i m. let n = free_class (func_at c.funcs k).declared.name m.func m.passes in
    subst (λ (f : Func). On (MadeStands s c) (called c w at (call_kind f.builtin i) f.declared.signature none os)) (sym (func_is c.funcs i m.func m.at))
    (free_function s c w at i m.func os h m.at n x (sym (free_count m.func n) ∙ m.count ∙ many os))))

-- Member functions

-- the object as a word
pub record IsObjectWord (s : Setting) (n : ℕ) (e : Tree) : Type 0 where
  pub fits : FitsAs s Value e
  pub category : cat_of e ≡ Lvalue
  pub class : is_class n (form_in (typ_in e)) ≡ true

own_class : (n : ℕ) (f : Form) → same_number n (class_in f) ≡ true → is_class n f ≡ true
own_class n (class m) h = h
own_class n (closure m) h = h
own_class n f h = absurd cc

own_number : (n : ℕ) (t : Typ) → same_number n (class_number t) ≡ true → is_class n (form_in t) ≡ true
own_number n (typ f q v) h = own_class n f h

based_word : (s : Setting) (c : Ctx) (at : At) (n : ℕ) (t : Typ) (e : Tree) → IsObject s c e → IsObjectWord s n (as_base at n t e)
based_word s c at n (typ f q v) e o = record {
  fits = (lvalue_stands s at (typ (class n) q v) e (object_word s c e o) (object_fits s c e o) tt).value refl;
  category = refl;
  class = eq-eqb n n refl;
}

object_as : (s : Setting) (c : Ctx) (at : At) (n : ℕ) (e : Tree) → IsObject s c e → IsObjectWord s n (as_object at n e)
object_as s c at n e o = by (same_number n (class_number (typ_in e))) refl
  where
    by : (b : Bool) → same_number n (class_number (typ_in e)) ≡ b → IsObjectWord s n (if b then e else as_base at n (typ_in e) e)
    by true h = record { fits = object_fits s c e o; category = o.category; class = own_number n (typ_in e) h }
    by false h = based_word s c at n (typ_in e) e o

class_no_void : (n : ℕ) (t : Typ) → is_class n (form_in t) ≡ true → is_void t ≡ false
class_no_void n (typ void q v) h = absurd cc
class_no_void n (typ f q v) h = refl

object_first : (s : Setting) (n : ℕ) (e : Tree) → IsObjectWord s n e → is_word (object n) (head_of e) ≡ true
object_first s n e o = both (both (ap is_lvalue (head_cat e ∙ o.category)) (ap (λ (t : Typ). is_class n (form_in t)) (head_typ e) ∙ o.class))
    (ap (λ (k : TKind). not (is_argument k)) (head_kind e) ∙ ap not (no_argument s within e (o.fits within within_full)))

member_words : (s : Setting) (n : ℕ) (f : Func) (e : Tree) (ts : Trees) → f.class ≡ Some n → IsObjectWord s n e
    → are_words (param_words (signature_parameters f.declared.signature)) (heads_of ts) ≡ true
    → are_words (signature_words f.class f.declared.signature) (head_of e ∷ heads_of ts) ≡ true
member_words s n f e ts d o h = ap (λ (x : Option ℕ). are_words (signature_words x f.declared.signature) (head_of e ∷ heads_of ts)) d ∙ by f.declared.signature h
  where
    by : (g : Signature) → are_words (param_words (signature_parameters g)) (heads_of ts) ≡ true
        → are_words (signature_words (Some n) g) (head_of e ∷ heads_of ts) ≡ true
    by (signature ps q safe) k = both (object_first s n e o) k

-- a call of the member function itself
pub own_call : (s : Setting) (c : Ctx) (w : Work) (at : At) (i n : ℕ) (f : Func) (e : Tree) (ts : Trees) → Holds s c w → slice_get c.funcs i ≡ Some f
    → f.class ≡ Some n → is_special f.kind ≡ false → IsObjectWord s n e → WordsFit s (signature_parameters f.declared.signature) ts
    → CallsWith s (Call i) (signature_result f.declared.signature) (more e ts)
own_call s c w at i n f e ts h d m k o g = record {
  call = named_call s i (more e ts) ((λ p full. value_word s p e (o.fits p full) (class_no_void n (typ_in e) o.class)), g.fit);
  row = named_row s c i f (head_of e ∷ heads_of ts) h.setting d k (sound_parts c f.declared.signature (h.functions i f d).sound).1
      (member_words s n f e ts m o g.right);
}

-- of the one in its slot
virtual_row : (s : Setting) (c : Ctx) (w : Work) (i n : ℕ) (f : Func) (hs : List Head) → Holds s c w → slice_get c.funcs i ≡ Some f → f.class ≡ Some n
    → f.kind ≡ Plain → f.declared.is_virtual ≡ true → HasSlot c n i f → is_result c.classes (signature_result f.declared.signature) ≡ true
    → are_words (signature_words f.class f.declared.signature) hs ≡ true
    → row_fits s (VirtualCall i n (slot_of_function c n i) (unwrap_or (pointer_offset c.classes n) 0)) (result_type (signature_result f.declared.signature))
    (result_category (signature_result f.declared.signature)) hs ≡ true
virtual_row s c w i n f hs h d m k v x y g =
    let z = h.setting.funcs i f d in
    let r = signature_result f.declared.signature in
    let slot = slot_of_function c n i in
    both (ap (λ (o : Option UnitFunc). passes (λ (u : UnitFunc). is_virtual_call s n slot (result_type r) (result_category r) u && are_words (words_of u) hs) o) z.at
    ∙ both (both (both (both
    (ap (λ (o : Option ℕ). is_member_of n o) (z.is.class ∙ m) ∙ eq-eqb n n refl)
    (ap (λ (u : Function). u.is_virtual) z.is.declared ∙ v))
    (ap (λ (q : List (List SlotFunc)). has_slot q n slot z.func.declared) h.setting.slots
    ∙ ap (λ (u : Function). has_slot c.slots n slot u) z.is.declared ∙ x.slot))
    (ap (λ (q : Typ). is_given q (result_type r) (result_category r)) (ap (λ (q : FuncKind). result_in q z.func.declared.signature) z.is.kind
    ∙ ap (λ (u : Function). result_in f.kind u.signature) z.is.declared ∙ plain_result f.kind f.declared.signature (ap is_special k))
    ∙ result_row c.classes r y))
    (ap (λ (q : Option ℕ). are_words (signature_words q z.func.declared.signature) hs) z.is.class
    ∙ ap (λ (u : Function). are_words (signature_words f.class u.signature) hs) z.is.declared ∙ g))
    (ap (λ (q : List Class). has_pointer_at q (unwrap_or (pointer_offset c.classes n) 0) n) h.setting.classes ∙ x.pointer)

method_kind : (kind : FuncKind) → is_plain_kind kind ≡ true → kind ≡ Plain
method_kind Plain h = refl
method_kind kind h = absurd cc

member_call : (s : Setting) (c : Ctx) (w : Work) (at : At) (i n : ℕ) (f : Func) (e : Tree) (ts : Trees) → Holds s c w → slice_get c.funcs i ≡ Some f
    → f.class ≡ Some n → f.kind ≡ Plain → is_some (completion_of c.classes n) ≡ true → IsObjectWord s n e
    → WordsFit s (signature_parameters f.declared.signature) ts
    → CallsWith s (if f.declared.is_virtual then VirtualCall i n (slot_of_function c n i) (unwrap_or (pointer_offset c.classes n) 0) else Call i)
    (signature_result f.declared.signature) (more e ts)
member_call s c w at i n f e ts h d m k q o g = by f.declared.is_virtual refl
  where
    by : (b : Bool) → f.declared.is_virtual ≡ b
        → CallsWith s (if b then VirtualCall i n (slot_of_function c n i) (unwrap_or (pointer_offset c.classes n) 0) else Call i)
        (signature_result f.declared.signature) (more e ts)
    by true v = record {
      call = virtual_call s i n (slot_of_function c n i) (unwrap_or (pointer_offset c.classes n) 0) e ts o.fits g.fit;
      row = virtual_row s c w i n f (head_of e ∷ heads_of ts) h d m k v ((h.functions i f d).virtual n m k v q)
          (sound_parts c f.declared.signature (h.functions i f d).sound).1 (member_words s n f e ts m o g.right);
    }
    by false v = own_call s c w at i n f e ts h d m (ap is_special k) o g

pub less_one : (a b : ℕ) → suc a ≡ suc b → a ≡ b
less_one a b h = cc

pub method_stands : (s : Setting) (c : Ctx) (w : Work) (at : At) (n k : ℕ) (e : Tree) (os : List Operand) → Holds s c w
    → is_some (completion_of c.classes n) ≡ true → IsObject s c e → ProperOperands s c os → On (MadeStands s c) (call_method_of c w at n k e os)
method_stands s c w at n k e os h q o x =
    bind (IsMeant c (is_method n (func_at c.funcs k).declared.name) (arguments (record { tree = e; at = at; zero = false } ∷ os))) (MadeStands s c)
    (best_of c at (places_from (is_method n (func_at c.funcs k).declared.name) 0 c.funcs) (record { tree = e; at = at; zero = false } ∷ os)) _
    (best_meant c at (is_method n (func_at c.funcs k).declared.name) (record { tree = e; at = at; zero = false } ∷ os))
    (λ i m. by i m (and_parts (bytes_eq m.func.declared.name (func_at c.funcs k).declared.name && same_number n m.func.class) (is_plain_kind m.func.kind) m.passes))
  where
    by : (i : ℕ) (m : IsMeant c (is_method n (func_at c.funcs k).declared.name) (arguments (record { tree = e; at = at; zero = false } ∷ os)) i)
        → ((bytes_eq m.func.declared.name (func_at c.funcs k).declared.name && same_number n m.func.class) ≡ true) × (is_plain_kind m.func.kind ≡ true)
        → On (MadeStands s c) (called c w at (member_kind c n i) (func_at c.funcs i).declared.signature (one (as_object at n e)) os)
    by i m p =
        let d : m.func.class ≡ Some n = number_is n m.func.class
        (and_parts (bytes_eq m.func.declared.name (func_at c.funcs k).declared.name) (same_number n m.func.class) p.0).1 in
        let y : count_of (signature_parameters m.func.declared.signature) ≡ length os = less_one _ _ (sym (member_count m.func n d) ∙ m.count ∙ ap suc (many os)) in
        subst (λ (f : Func). On (MadeStands s c) (called c w at (if f.declared.is_virtual then VirtualCall i n (slot_of_function c n i)
        (unwrap_or (pointer_offset c.classes n) 0) else Call i) f.declared.signature (one (as_object at n e)) os)) (sym (func_is c.funcs i m.func m.at))
        (called_stands s c w w at _ m.func.declared.signature (one (as_object at n e)) os h (h.functions i m.func m.at).sound x y
        (λ ts r g. member_call s c w at i n m.func (as_object at n e) ts h m.at d (method_kind m.func.kind p.1) q (object_as s c at n e o) g))
