-- Calls of values, of `get` and of `std::abort`, and calls as a whole.
use Rattle.std.proofs.Common.{◌≡◌, refl, sym, ap, ◌∙◌, subst, ℕ, zero, suc, Bool, true, false, not, ◌&&◌, List, [], ◌∷◌, length, slice_get}
use Rattle.std.proofs.Common.{Some, None, is_some, eq-eqb}
use Rattle.std.proofs.lemmas.Bool.{and_parts}
use Rattle.elab_rules.specs.tx_ints.declared.kinds.IntKind.{IntKind}
use Rattle.elab_rules.specs.tx_ints.declared.kinds.IntKind.TheVariants.{Int}
use Rattle.elab_rules.specs.cpp_types.Typ.{Typ, typ, Form, void, int, enum, null, ptr, ref, array, func, class, closure, tx_ex, Signature, signature}
use Rattle.elab_rules.specs.cpp_types.Class.{completion_of}
use Rattle.elab_rules.specs.cpp_types.Equal.{form_eq}
use Rattle.elab_rules.specs.cpp_types.Conversion.{is_lvalue}
use Rattle.elab_rules.specs.cpp_types.declared.classes.At.{At}
use Rattle.elab_rules.specs.cpp_types.declared.ranks.Cat.{Cat}
use Rattle.elab_rules.specs.cpp_types.declared.ranks.Cat.TheVariants.{Lvalue, Prvalue}
use Rattle.elab_rules.specs.cpp_overload.Overload.{Candidate, count_of, parameters_of}
use Rattle.elab_rules.specs.cpp_overload.Choosing.{Choice, best, none_viable, none_best, chosen}
use Rattle.elab_rules.specs.cpp_tree.declared.faults.IllRule.TheVariants.{NotCallable, NoViable}
use Rattle.elab_rules.specs.cpp_tree.declared.kinds.TKind.TheVariants.{Call, PointerCall, Function as FunctionNode, Default, Load, CopyFrom, Builtin as BuiltinNode}
use Rattle.elab_rules.specs.cpp_tree.declared.program.FuncKind.TheVariants.{Plain}
use Rattle.elab_rules.specs.cpp_tree.declared.kinds.Builtin.{Builtin}
use Rattle.elab_rules.specs.cpp_tree.declared.kinds.Builtin.TheVariants.{Abort}
use Rattle.elab_rules.specs.cpp_tree.declared.roles.Role.TheVariants.{Value, Initialiser}
use Rattle.elab_rules.specs.cpp_tree.Trees.{Tree, node, Trees, none, one, two, typ_in, cat_of}
use Rattle.elab_rules.specs.cpp_tree.Notation.{plain}
use Rattle.elab_rules.specs.cpp_tree.Typing.{Head, head_of, passes, form_in, is_class, is_class_typ, is_class_prvalue, is_volatile_typ, is_prvalue, are_words}
use Rattle.elab_rules.specs.cpp_tree.Typing.{without_exception, same_shape, kind_in, is_kind, is_result as is_given}
use Rattle.elab_rules.specs.cpp_tree.Rows.{Setting, row_fits, is_special, result_in, result_of, signature_words, called_in, param_words, is_load, is_access}
use Rattle.elab_rules.specs.cpp_tree.WellFormed.{heads_of}
use Rattle.elab_rules.specs.elab_ctx.Ctx.{Ctx, Work, Func}
use Rattle.elab_rules.specs.elab_ctx.Steps.{and_then, Operand}
use Rattle.elab_rules.specs.Objects.{copies}
use Rattle.elab_rules.specs.Initialising.{func_at, arguments, meant, places_from, signature_parameters, signature_result, object_of}
use Rattle.elab_rules.specs.Operators.{value, value_form}
use Rattle.elab_rules.specs.Calls.{result_type, result_category, called, best_of, call_method, exception_value, value_type}
use Rattle.elab_rules.specs.Calls.{call_get, is_closure_call, call_closure, call_pointer, call_value, call_abort, call_form, call}
use Rattle.elab_fits.specs.Standing.{FitsAs, Reaches, On}
use Rattle.elab_fits.specs.Scalars.{Gives, IsZero, is_scalar}
use Rattle.elab_fits.proofs.Equal.{form_refl, kind_refl}
use Rattle.elab_fits.proofs.Nodes.{both, or_left, or_right, clash, head_typ, head_cat, one_kid}
use Rattle.elab_fits.proofs.Steps.{bind, checked, expected}
use Rattle.elab_fits.proofs.Values.{given_typ, given_cat, no_class, scalar_value, loads}
use Rattle.elab_fits.proofs.Arithmetic.{pointer_of}
use Rattle.elab_fits_objects.proofs.Fits.{within, within_full, fit_as}
use Rattle.elab_fits_objects.proofs.Passing as passing
use Rattle.elab_fits_forms.specs.Types.{is_sound, is_sound_form, is_lambda, is_exception_value, is_result, is_sound_signature}
use Rattle.elab_fits_forms.specs.Meaning.{Proper, IsObject, IsMethod, Means, ProperOperand, MeansOperand}
use Rattle.elab_fits_forms.specs.Context.{Holds}
use Rattle.elab_fits_forms.specs.Forms.{MadeStands, ProperOperands}
use Rattle.elab_fits_forms.proofs.Places.{func_is, number_is}
use Rattle.elab_fits_forms.proofs.Proper.{proper_value, object_fits}
use Rattle.elab_fits_forms.proofs.Wholes.{plain_exception}
use Rattle.elab_fits_forms.proofs.Temporaries.{object_is, object_typ}
use Rattle.elab_fits_forms.proofs.Dropped.{operand_is}
use Rattle.elab_fits_forms.proofs.Settled.{IsBuilt, proper_built, own_builds, copy_fits, copy_made}
use Rattle.elab_fits_forms.proofs.Choices.{value_sound}
use Rattle.elab_fits_forms.proofs.Names.{no_function_void}
use Rattle.elab_fits_forms.proofs.Rows.{fits_row}
use Rattle.elab_fits_forms.proofs.Calling.{pointer_call, result_row, plain_result}
use Rattle.elab_fits_forms.proofs.Calls.{called_stands, sound_parts, IsMeant, best_meant, many, viable_count, member_count}
use Rattle.elab_fits_forms.proofs.Callees.{builtin_proper, free_stands, IsObjectWord, own_call, less_one, method_stands}

-- Lambdas

closure_typed : (t : Typ) (n : ℕ) → form_in t ≡ closure n → is_class_typ t ≡ true
closure_typed (typ f q v) n e = ap (λ (z : Form). is_class_typ (plain z)) e

closure_lambda : (c : Ctx) (t : Typ) (n : ℕ) → form_in t ≡ closure n → is_sound c.classes t ≡ true → is_lambda c.classes n ≡ true
closure_lambda c (typ f q v) n e i = sym (ap (λ (z : Form). is_sound_form c.classes z) e) ∙ i

closure_stands : (s : Setting) (c : Ctx) (w : Work) (at : At) (n : ℕ) (callee : Operand) (os : List Operand) → Holds s c w → ProperOperand s c callee
    → form_in (typ_in callee.tree) ≡ closure n → ProperOperands s c os → On (MadeStands s c) (call_closure c w at n callee os)
closure_stands s c w at n callee os h x e xs =
    bind (IsMeant c (is_closure_call n) (arguments (object ∷ os))) (MadeStands s c)
    (best_of c at (places_from (is_closure_call n) 0 c.funcs) (object ∷ os)) _ (best_meant c at (is_closure_call n) (object ∷ os)) by
  where
    object : Operand
    object = record { tree = (object_of c w callee.at callee.tree).tree; at = callee.at; zero = false }

    word : Reaches s (object_of c w callee.at callee.tree).work → IsObjectWord s n (object_of c w callee.at callee.tree).tree
    word r = let o = object_is s c w callee.at callee.tree h.setting h.makers.specials x.proper (closure_typed (typ_in callee.tree) n e) r in record {
      fits = object_fits s c (object_of c w callee.at callee.tree).tree o;
      category = o.category;
      class = ap (λ (t : Typ). is_class n (form_in t)) (object_typ c w callee.at callee.tree) ∙ ap (λ (f : Form). is_class n f) e ∙ eq-eqb n n refl;
    }

    by : (i : ℕ) → IsMeant c (is_closure_call n) (arguments (record { tree = (object_of c w callee.at callee.tree).tree; at = callee.at; zero = false } ∷ os)) i
        → On (MadeStands s c) (called c (object_of c w callee.at callee.tree).work at (Call i) (func_at c.funcs i).declared.signature
        (one (object_of c w callee.at callee.tree).tree) os)
    by i m =
        let d : m.func.class ≡ Some n = number_is n m.func.class m.passes in
        let k = (h.functions i m.func m.at).closure n d (closure_lambda c (typ_in callee.tree) n e x.proper.sound) in
        subst (λ (f : Func). On (MadeStands s c) (called c (object_of c w callee.at callee.tree).work at (Call i) f.declared.signature
        (one (object_of c w callee.at callee.tree).tree) os)) (sym (func_is c.funcs i m.func m.at))
        (called_stands s c (object_of c w callee.at callee.tree).work w at (Call i) m.func.declared.signature (one (object_of c w callee.at callee.tree).tree) os h
        (h.functions i m.func m.at).sound xs (less_one _ _ (sym (member_count m.func n d) ∙ m.count ∙ ap suc (many os)))
        (λ ts r g. own_call s c w at i n m.func (object_of c w callee.at callee.tree).tree ts h m.at d (ap is_special k) (word r) g))

-- Pointers to functions

no_object_words : (g : Signature) (hs : List Head) → are_words (param_words (signature_parameters g)) hs ≡ true → are_words (signature_words None g) hs ≡ true
no_object_words (signature ps r safe) hs h = h

pointer_row : (s : Setting) (c : Ctx) (g : Signature) (d v : Bool) (p : Tree) (ts : Trees) → Gives s (ptr (typ (func g) d v)) p
    → is_result c.classes (signature_result g) ≡ true → are_words (param_words (signature_parameters g)) (heads_of ts) ≡ true
    → row_fits s PointerCall (result_type (signature_result g)) (result_category (signature_result g)) (head_of p ∷ heads_of ts) ≡ true
pointer_row s c g d v p ts h i k = both (ap is_prvalue (given_cat s (ptr (typ (func g) d v)) p h))
    (ap (λ (t : Typ). passes (λ (x : Signature). is_given (result_in Plain x) (result_type (signature_result g)) (result_category (signature_result g))
    && are_words (signature_words None x) (heads_of ts)) (called_in (form_in t))) (given_typ s (ptr (typ (func g) d v)) p h)
    ∙ both (ap (λ (t : Typ). is_given t (result_type (signature_result g)) (result_category (signature_result g))) (plain_result Plain g refl)
    ∙ result_row c.classes (signature_result g) i) (no_object_words g (heads_of ts) k))

only_one : (x z : Candidate) (k : ℕ) → slice_get (x ∷ []) k ≡ Some z → x ≡ z
only_one x z zero h = cc
only_one x z (suc k) h = absurd cc

pointer_count : (g : Signature) (n : ℕ) → count_of (parameters_of (record { signature = g; this = None })) ≡ n → count_of (signature_parameters g) ≡ n
pointer_count (signature ps r safe) n h = h

chosen_count : (c : Ctx) (g : Signature) (os : List Operand) (k : ℕ)
    → chosen c.classes (record { signature = g; this = None } ∷ []) (arguments os) ≡ best k → count_of (signature_parameters g) ≡ length os
chosen_count c g os k e =
    let z = passing.chosen_viable c.classes (record { signature = g; this = None } ∷ []) (arguments os) k e in
    pointer_count g (length os) (ap (λ (x : Candidate). count_of (parameters_of x)) (only_one (record { signature = g; this = None }) z.candidate k z.at)
    ∙ viable_count c.classes (arguments os) z.candidate z.viable ∙ many os)

pointer_stands : (s : Setting) (c : Ctx) (w : Work) (at : At) (g : Signature) (d v : Bool) (p : Tree) (os : List Operand) → Holds s c w
    → Gives s (ptr (typ (func g) d v)) p → is_sound_signature c.classes g ≡ true → ProperOperands s c os
    → On (MadeStands s c) (call_pointer c w at (ptr (typ (func g) d v)) p os)
pointer_stands s c w at g d v p os h y i x = by (chosen c.classes (record { signature = g; this = None } ∷ []) (arguments os)) refl
  where
    by : (z : Choice) → chosen c.classes (record { signature = g; this = None } ∷ []) (arguments os) ≡ z
        → On (MadeStands s c) (and_then (meant at z) (λ k. called c w at PointerCall g (one p) os))
    by (best k) e = called_stands s c w w at PointerCall g (one p) os h i x (chosen_count c g os k e) (λ ts r f. record {
      call = pointer_call s p ts y.fits f.fit;
      row = pointer_row s c g d v p ts y (sound_parts c g i).1 f.right;
    })
    by none_viable e = tt
    by none_best e = tt

pointed_stands : (s : Setting) (c : Ctx) (w : Work) (at : At) (f : Form) (o : Operand) (os : List Operand) → Holds s c w → ProperOperand s c o
    → value_form o ≡ f → ProperOperands s c os → On (MadeStands s c) (call_pointer c w at f (value o) os)
pointed_stands s c w at (ptr (typ (func g) d v)) o os h x e xs = pointer_stands s c w at g d v (value o) os h
    (pointer_of s o (typ (func g) d v) (operand_is s c o x) e) (sym (ap (λ (z : Form). is_sound_form c.classes z) e) ∙ value_sound s c o x) xs
pointed_stands s c w at f o os h x e xs = tt

value_stands : (s : Setting) (c : Ctx) (w : Work) (at : At) (f : Form) (callee : Operand) (os : List Operand) → Holds s c w → ProperOperand s c callee
    → form_in (typ_in callee.tree) ≡ f → ProperOperands s c os → On (MadeStands s c) (call_value c w at f callee os)
value_stands s c w at (closure n) callee os h x e xs = closure_stands s c w at n callee os h x e xs
value_stands s c w at f callee os h x e xs = pointed_stands s c w at (value_form callee) callee os h x refl xs

-- `get` of a `std::tx_exception`: the value in it

read_row : (result : Typ) (f : Form) (q : Bool) (k : IntKind) (x : Head) → x.cat ≡ Lvalue → x.typ ≡ typ (tx_ex (plain f)) q false → is_scalar f ≡ true
    → is_kind k (kind_in f) ≡ true → is_load result k false (plain f) Prvalue x ≡ true
read_row result f q k x l e i h = or_left _ (both (scalar_value f i)
    (ap (λ (t : Typ). is_lvalue x.cat && form_eq (form_in (without_exception t)) f && is_access k false (without_exception t)) e
    ∙ both (both (ap is_lvalue l) (form_refl f)) (both h refl)))

scalar_read : (s : Setting) (at : At) (f : Form) (q : Bool) (k : IntKind) (e : Tree) → is_scalar f ≡ true → is_kind k (kind_in f) ≡ true → FitsAs s Value e
    → cat_of e ≡ Lvalue → typ_in e ≡ typ (tx_ex (plain f)) q false → Gives s f (node (Load k false) (plain f) Prvalue at (one e))
scalar_read s at f q k e i h g l d = record {
  scalar = i;
  fits = one_kid s (Load k false) (plain f) Prvalue at e (loads k false) (ap not (no_class f false false i))
      (read_row (result_of s.function) f q k (head_of e) (head_cat e ∙ l) (head_typ e ∙ d) i h) g;
  typed = refl;
  category = refl;
}

object_read : (s : Setting) (c : Ctx) (w : Work) (at : At) (n : ℕ) (q : Bool) (e : Tree) → Holds s c w → IsObject s c e
    → is_exception_value c.classes (plain (class n)) ≡ true → typ_in e ≡ typ (tx_ex (plain (class n))) q false
    → IsBuilt s c (node CopyFrom (plain (class n)) Prvalue at (two e (copies c.classes at (plain (class n)))))
object_read s c w at n q e h o i d =
    let p = and_parts (is_some (completion_of c.classes n)) (not (is_lambda c.classes n)) i in
    let x = (h.complete n p.0).whole (class n) false false refl p.1 in record {
      typed = refl;
      category = refl;
      sound = p.1;
      whole = x;
      itself = refl;
      copied = refl;
      fits = copy_fits s at (plain (class n)) e (copies c.classes at (plain (class n))) (object_fits s c e o)
          (copy_made s c w at (plain (class n)) h x).fits
          (both (ap is_lvalue (head_cat e ∙ o.category)) (or_right (same_shape (plain (class n)) (head_of e).typ)
          (ap (λ (t : Typ). same_shape (plain (class n)) (without_exception t)) (head_typ e ∙ d) ∙ form_refl (class n))))
          (copy_made s c w at (plain (class n)) h x).builds;
      builds = own_builds (node CopyFrom (plain (class n)) Prvalue at (two e (copies c.classes at (plain (class n))))) refl;
    }

value_read : (s : Setting) (c : Ctx) (w : Work) (at : At) (f : Form) (q : Bool) (e : Tree) → Holds s c w → IsObject s c e
    → is_exception_value c.classes (plain f) ≡ true → typ_in e ≡ typ (tx_ex (plain f)) q false → Proper s c (exception_value c at e (plain f))
value_read s c w at (int k) q e h o i d = proper_value s c (int k) (node (Load k false) (plain (int k)) Prvalue at (one e))
    (scalar_read s at (int k) q k e refl (kind_refl k) (object_fits s c e o) o.category d) refl
value_read s c w at (enum n b) q e h o i d = proper_value s c (enum n b) (node (Load Int false) (plain (enum n b)) Prvalue at (one e))
    (scalar_read s at (enum n b) q Int e refl refl (object_fits s c e o) o.category d) refl
value_read s c w at (class n) q e h o i d = proper_built s c _ (object_read s c w at n q e h o i d)
value_read s c w at void q e h o i d = absurd cc
value_read s c w at null q e h o i d = absurd cc
value_read s c w at (ptr t) q e h o i d = absurd cc
value_read s c w at (ref t) q e h o i d = absurd cc
value_read s c w at (array t n) q e h o i d = absurd cc
value_read s c w at (func t) q e h o i d = absurd cc
value_read s c w at (closure n) q e h o i d = absurd cc
value_read s c w at (tx_ex t) q e h o i d = absurd cc

get_value : (s : Setting) (c : Ctx) (w : Work) (at : At) (t : Typ) (q v : Bool) (e : Tree) → Holds s c w → IsObject s c e → typ_in e ≡ typ (tx_ex t) q v
    → not (is_volatile_typ (typ_in e)) ≡ true → Proper s c (exception_value c at e t)
get_value s c w at t q v e h o d n = plain_exception (λ (u : Typ). typ_in e ≡ typ (tx_ex u) q v → Proper s c (exception_value c at e u)) c.classes t
    (sym (ap (λ (z : Typ). is_sound c.classes z) d) ∙ o.proper.sound)
    (λ f i x. value_read s c w at f q e h o i (x ∙ ap (λ (b : Bool). typ (tx_ex (plain f)) q b) (quiet v (sym (ap (λ (z : Typ). not (is_volatile_typ z)) d) ∙ n)))) d
  where
    quiet : (b : Bool) → not b ≡ true → b ≡ false
    quiet true k = absurd cc
    quiet false k = refl

held_is : (t u : Typ) (q v : Bool) (x : Typ) → x ≡ typ (tx_ex t) q v → value_type (form_in x) ≡ Some u → t ≡ u
held_is t u q v x e h = let d : Some t ≡ Some u = sym (ap (λ (z : Typ). value_type (form_in z)) e) ∙ h in cc

get_stands : (s : Setting) (c : Ctx) (w : Work) (at : At) (t : Typ) (q v : Bool) (e : Tree) (os : List Operand) → Holds s c w → IsObject s c e
    → typ_in e ≡ typ (tx_ex t) q v → On (MadeStands s c) (call_get c w at e os)
get_stands s c w at t q v e [] h o d = expected (MadeStands s c) at NotCallable (value_type (form_in (typ_in e))) _ (λ u k.
    checked (MadeStands s c) at NoViable (not (is_volatile_typ (typ_in e))) _ (λ n r.
    subst (λ (z : Typ). Proper s c (exception_value c at e z)) (held_is t u q v (typ_in e) d k) (get_value s c w at t q v e h o d n)))
get_stands s c w at t q v e (x ∷ os) h o d = tt

-- `std::abort`

abort_stands : (s : Setting) (c : Ctx) (w : Work) (at : At) (os : List Operand) → On (MadeStands s c) (call_abort w at Abort os)
abort_stands s c w at [] = λ r. builtin_proper s c Abort at none tt refl
abort_stands s c w at (o ∷ os) = tt

-- Member functions

member_stands : (s : Setting) (c : Ctx) (w : Work) (at : At) (k : ℕ) (e : Tree) (os : List Operand) → Holds s c w → IsMethod c k → IsObject s c e
    → ProperOperands s c os → On (MadeStands s c) (call_method c w at k e os)
member_stands s c w at k e os h m o x = expected (MadeStands s c) at NotCallable (func_at c.funcs k).class _
    (λ n d. method_stands s c w at n k e os h (by n (sym m.member ∙ ap (λ (f : Func). f.class) (sym (func_is c.funcs k m.func m.at)) ∙ d)) o x)
  where
    by : (n : ℕ) → Some m.class ≡ Some n → is_some (completion_of c.classes n) ≡ true
    by n d = let i : m.class ≡ n = cc in subst (λ (z : ℕ). is_some (completion_of c.classes z) ≡ true) i m.complete

-- Calls of what is named or given

no_default : (s : Setting) (c : Ctx) (t : Typ) (cat : Cat) (p : At) (kids : Trees) → Proper s c (node Default t cat p kids) → ⊥
no_default s c t cat p kids h = by (is_class_prvalue t cat) refl
  where
    by : (b : Bool) → is_class_prvalue t cat ≡ b → ⊥
    by true n = clash ⊥ false refl (fit_as s Initialiser Default t cat p kids (h.stands.object n)).serves
    by false n = clash ⊥ false refl (fit_as s Value Default t cat p kids (h.stands.value n)).serves

no_builtin : (s : Setting) (c : Ctx) (b : Builtin) (d v : Bool) (p : At) (kids : Trees) → Proper s c (node (BuiltinNode b) (typ void d v) Lvalue p kids) → ⊥
no_builtin s c b d v p kids h = clash ⊥ false refl (fits_row s within Value (BuiltinNode b) (typ void d v) Lvalue p kids
    (h.stands.value refl within within_full))

given_stands : (s : Setting) (c : Ctx) (w : Work) (at : At) (callee : Operand) (t : Tree) (os : List Operand) → callee.tree ≡ t → Holds s c w
    → ProperOperand s c callee → Proper s c t → ProperOperands s c os → On (MadeStands s c) (call_form c w at callee t os)
given_stands s c w at callee (node (FunctionNode k) (typ void d v) Lvalue p kids) os e h x y xs =
    absurd (no_function_void s k d v p kids (y.stands.value refl))
given_stands s c w at callee (node Default t cat p kids) os e h x y xs = absurd (no_default s c t cat p kids y)
given_stands s c w at callee (node (BuiltinNode b) (typ void d v) Lvalue p kids) os e h x y xs = absurd (no_builtin s c b d v p kids y)
given_stands s c w at callee (node kind t cat p kids) os e h x y xs = value_stands s c w at (form_in t) callee os h x (ap (λ (z : Tree). form_in (typ_in z)) e) xs

form_stands : (s : Setting) (c : Ctx) (w : Work) (at : At) (callee : Operand) (t : Tree) (os : List Operand) → callee.tree ≡ t → (callee.zero ≡ true → IsZero t)
    → Holds s c w → Means s c t → ProperOperands s c os → On (MadeStands s c) (call_form c w at callee t os)
form_stands s c w at callee t os e z h (Means.standing p) xs = given_stands s c w at callee t os e h
    (record { proper = subst (λ (x : Tree). Proper s c x) (sym e) p; zero = λ y. subst (λ (x : Tree). IsZero x) (sym e) (z y) }) p xs
form_stands s c w at callee t os e z h (Means.free_functions k p) xs = free_stands s c w at k os h xs
form_stands s c w at callee t os e z h (Means.methods k p object m o) xs = member_stands s c w at k object os h m o xs
form_stands s c w at callee t os e z h (Means.getter p u q v object o x) xs = get_stands s c w at u q v object os h o x
form_stands s c w at callee t os e z h (Means.aborting p) xs = abort_stands s c w at os

pub calls_stand : (s : Setting) (c : Ctx) (w : Work) (at : At) (callee : Operand) (os : List Operand) → Holds s c w → MeansOperand s c callee
    → ProperOperands s c os → On (MadeStands s c) (call c w at callee os)
calls_stand s c w at callee os h x xs = form_stands s c w at callee callee.tree os refl x.zero h x.means xs
