-- The end of a body, and bodies of functions.
use Rattle.std.proofs.Common.{◌≡◌, refl, ap, ◌∙◌, Bool, true, false, not, ◌&&◌, ◌||◌, [], ◌∷◌, Option}
use Rattle.std.specs.Prelude.{if◌then◌else◌}
use Rattle.elab_rules.specs.tx_ints.declared.kinds.IntKind.{IntKind}
use Rattle.elab_rules.specs.tx_ints.declared.kinds.IntKind.TheVariants.{ULong}
use Rattle.elab_rules.specs.cpp_types.Typ.{Typ, typ, Form, void, int, enum, null, ptr, ref, array, func, class, closure, tx_ex}
use Rattle.elab_rules.specs.cpp_types.Equal.{flag_eq}
use Rattle.elab_rules.specs.cpp_types.declared.classes.At.{At}
use Rattle.elab_rules.specs.cpp_types.declared.ranks.Cat.TheVariants.{Lvalue, Prvalue}
use Rattle.elab_rules.specs.cpp_tree.declared.kinds.TKind.TheVariants as forms
use Rattle.elab_rules.specs.cpp_tree.declared.roles.Role.TheVariants.{Value, Zero, Statement, BlockItem, Destruction}
use Rattle.elab_rules.specs.cpp_tree.declared.program.FuncKind.{FuncKind}
use Rattle.elab_rules.specs.cpp_tree.Trees.{Tree, node, Trees, none, more, one, two, kind_of}
use Rattle.elab_rules.specs.cpp_tree.Notation.{plain}
use Rattle.elab_rules.specs.cpp_tree.Typing.{head_of, form_in, is_void, is_class_typ, is_reference, initialises, passes, kind_in, is_word_of}
use Rattle.elab_rules.specs.cpp_tree.Roles.{only, and_any}
use Rattle.elab_rules.specs.cpp_tree.Rows.{Setting, is_constructor, result_of, has_value, is_returned}
use Rattle.elab_rules.specs.cpp_tree.WellFormed.{outermost, is_body_of, last_is_return, is_return, zeroes, is_kid}
use Rattle.elab_rules.specs.elab_ctx.Ctx.{Ctx}
use Rattle.elab_rules.specs.Objects.{followed_by, zeros}
use Rattle.elab_rules.specs.Functions.{end_of, void_at, zero_result, result_zeroed, untyped}
use Rattle.elab_rules.specs.Statements.{statement}
use Rattle.elab_rules.specs.Values.{number}
use Rattle.elab_fits.specs.Standing.{IsSetting}
use Rattle.elab_fits.specs.Scalars.{is_scalar}
use Rattle.elab_fits.proofs.Equal.{typ_refl}
use Rattle.elab_fits.proofs.Nodes.{both, or_left, node_fits}
use Rattle.elab_fits.proofs.Numbers.{zero_word}
use Rattle.elab_fits.proofs.ResultZeros.{results_law}
use Rattle.elab_fits.proofs.Values.{with_kind, scalar_value}
use Rattle.elab_fits_statements.specs.Anywhere.{FitsAnywhere, Serves, AllServe}
use Rattle.elab_fits_statements.specs.Variables.{HasItem}
use Rattle.elab_fits_statements.proofs.Forms.{value_kid, as_item, block_serves}
use Rattle.elab_fits_statements.proofs.Items.{all_followed}
use Rattle.elab_fits_statements.proofs.Variables.{end_fits, local_fits}
use Rattle.elab_fits_bodies.specs.Functions.{IsBody, IsResult}

-- A result that is no object of a class

scalar_word : (f : Form) → is_scalar f ≡ true → passes (λ (k : IntKind). is_word_of k 0) (kind_in f) ≡ true
scalar_word f h = with_kind (passes (λ (k : IntKind). is_word_of k 0) (kind_in f) ≡ true) f h
    (λ k e. ap (λ (o : Option IntKind). passes (λ (j : IntKind). is_word_of j 0) o) e ∙ zero_word k)

-- the number 0 of a scalar
zero_fits : (s : Setting) (f : Form) (at : At) → is_scalar f ≡ true → FitsAnywhere s Value (node (forms.Literal 0) (plain f) Prvalue at none)
zero_fits s f at h = λ p. node_fits s p Value (forms.Literal 0) (plain f) Prvalue at none (only []) refl (no_class f h) refl refl
    (both (scalar_value f h) (scalar_word f h)) refl refl refl refl
  where
    no_class : (g : Form) → is_scalar g ≡ true → not (is_class_typ (plain g)) ≡ true
    no_class (int k) x = refl
    no_class (enum n q) x = refl
    no_class null x = refl
    no_class (ptr t) x = refl
    no_class g x = absurd cc

returned : (s : Setting) (at : At) (e : Tree) → FitsAnywhere s Value e → has_value (result_of s.function) ≡ true
    → is_returned (result_of s.function) (head_of e) ≡ true → Serves s false false BlockItem (void_at forms.Return at (one e))
returned s at e f h r = as_item s false false (void_at forms.Return at (one e)) (record {
  fits = λ p a. node_fits s p Statement forms.Return (plain void) Prvalue at (one e) (and_any [] Value) refl refl refl refl (both h r) refl refl refl
      (both (both (value_kid s p e (f p)) (f p)) refl);
  kid = refl;
})

scalar_returned : (s : Setting) (f : Form) (at : At) → is_scalar f ≡ true → has_value (result_of s.function) ≡ true
    → initialises (result_of s.function) (head_of (node (forms.Literal 0) (plain f) Prvalue at none)) ≡ true
    → Serves s false false BlockItem (void_at forms.Return at (one (node (forms.Literal 0) (plain f) Prvalue at none)))
scalar_returned s f at h g i = returned s at (node (forms.Literal 0) (plain f) Prvalue at none) (zero_fits s f at h) g (or_left _ i)

-- what is returned of each type
end_returned : (s : Setting) (t : Typ) (at : At) → result_of s.function ≡ t → (is_reference t || is_scalar (form_in t)) ≡ true
    → Serves s false false BlockItem (void_at forms.Return at (one (zero_result t at)))
end_returned s (typ (ref u) c v) at e h = returned s at (number ULong 0 at) (zero_fits s (int ULong) at refl) (ap has_value e) (ap (λ (t : Typ). is_returned t (head_of (number ULong 0 at))) e)
end_returned s (typ (int k) c v) at e h = scalar_returned s (int k) at refl (ap has_value e)
    (ap (λ (t : Typ). initialises t (head_of (node (forms.Literal 0) (plain (int k)) Prvalue at none))) e ∙ typ_refl (plain (int k)))
end_returned s (typ (enum n q) c v) at e h = scalar_returned s (enum n q) at refl (ap has_value e)
    (ap (λ (t : Typ). initialises t (head_of (node (forms.Literal 0) (plain (enum n q)) Prvalue at none))) e ∙ typ_refl (plain (enum n q)))
end_returned s (typ null c v) at e h = scalar_returned s null at refl (ap has_value e)
    (ap (λ (t : Typ). initialises t (head_of (node (forms.Literal 0) (plain null) Prvalue at none))) e ∙ typ_refl (plain null))
end_returned s (typ (ptr u) c v) at e h = scalar_returned s (ptr u) at refl (ap has_value e)
    (ap (λ (t : Typ). initialises t (head_of (node (forms.Literal 0) (plain (ptr u)) Prvalue at none))) e ∙ typ_refl (plain (ptr u)))
end_returned s (typ void c v) at e h = absurd cc
end_returned s (typ (array u n) c v) at e h = absurd cc
end_returned s (typ (func g) c v) at e h = absurd cc
end_returned s (typ (class n) c v) at e h = absurd cc
end_returned s (typ (closure n) c v) at e h = absurd cc
end_returned s (typ (tx_ex u) c v) at e h = absurd cc

-- An object of a class

zero_kid : (classes : _) (v : Bool) (t : Typ) (e : Tree) → zeroes classes v t e ≡ true → is_kid (kind_of e) ≡ true
zero_kid classes v t (node (forms.Block b) u cat at kids) h = absurd cc
zero_kid classes v t (node kind u cat at kids) h = refl

abbrev result_address : Typ → At → Tree
result_address t at = void_at (forms.Load ULong false) at (one (node (forms.Local 0) (plain (ptr t)) Lvalue at none))

address_fits : (s : Setting) (t : Typ) (at : At) → is_class_typ (result_of s.function) ≡ true → HasItem s 0 (plain (ptr t)) → FitsAnywhere s Value (result_address t at)
address_fits s t at c h = λ p. node_fits s p Value (forms.Load ULong false) (plain void) Prvalue at (one (node (forms.Local 0) (plain (ptr t)) Lvalue at none))
    (only (Value ∷ [])) refl refl refl refl (both c refl) refl refl refl (both (both refl (local_fits s 0 (plain (ptr t)) at h p)) refl)

zeroed : (s : Setting) (c : Ctx) (t : Typ) (at : At) → is_class_typ (result_of s.function) ≡ true → HasItem s 0 (plain (ptr t))
    → zeroes s.classes false (result_of s.function) (untyped (zeros c.classes at t)) ≡ true → Serves s false false BlockItem (result_zeroed c t at)
zeroed s c t at k h z = record {
  fits = λ p a. node_fits s p BlockItem forms.Init (plain void) Prvalue at (two (result_address t at) (untyped (zeros c.classes at t)))
      (and_any (Value ∷ Zero ∷ []) Destruction) refl refl refl refl refl refl refl refl
      (both (both refl (address_fits s t at k h p)) (both (both (zero_kid s.classes false (result_of s.function) (untyped (zeros c.classes at t)) z) z) refl));
  kid = refl;
}

class_value : (t : Typ) → is_class_typ t ≡ true → has_value t ≡ false
class_value t h = and_false (not (is_void t)) (ap not h)
  where
    and_false : (a : Bool) {b : Bool} → b ≡ false → (a && b) ≡ false
    and_false true g = g
    and_false false g = refl

-- Ends

rest_of : (a b : Bool) → a ≡ false → (a || b) ≡ true → b ≡ true
rest_of true b e h = absurd cc
rest_of false b e h = h

pub end_serves : (s : Setting) (c : Ctx) (t : Typ) (at : At) → IsSetting s c → IsResult s c t → AllServe s false false BlockItem (end_of c t at)
end_serves s c t at i r = by_void (is_void t) refl
  where
    by_class : (b : Bool) → is_void t ≡ false → is_class_typ t ≡ b
        → AllServe s false false BlockItem (if b then two (result_zeroed c t at) (void_at forms.Return at none) else one (void_at forms.Return at (one (zero_result t at))))
    by_class true n k =
        let class : is_class_typ (result_of s.function) ≡ true = ap is_class_typ r.typed ∙ k in (
          zeroed s c t at class (r.place k)
              (ap (λ (u : Typ). zeroes s.classes false u (untyped (zeros c.classes at t))) r.typed ∙ results_law s c at t i (r.sized k) (r.ready k)),
          (as_item s false false (void_at forms.Return at none) (end_fits s at (class_value (result_of s.function) class)), tt),
        )
    by_class false n k = (
      end_returned s t at r.typed
          (rest_of (is_class_typ t) (is_reference t || is_scalar (form_in t)) k
          (rest_of (is_void t) (is_class_typ t || (is_reference t || is_scalar (form_in t))) n r.formed)),
      tt,
    )

    by_void : (b : Bool) → is_void t ≡ b → AllServe s false false BlockItem (if b then none else (if is_class_typ t then two (result_zeroed c t at) (void_at forms.Return at none)
        else one (void_at forms.Return at (one (zero_result t at)))))
    by_void true n = tt
    by_void false n = by_class (is_class_typ t) n refl

-- Bodies

last_followed : (ts us : Trees) (a : Bool) → ((x : Bool) → last_is_return x us ≡ true) → last_is_return a (followed_by ts us) ≡ true
last_followed none us a f = f a
last_followed (more t ts) us a f = last_followed ts us (is_return (kind_of t)) f

pub body_ends : (c : Ctx) (t : Typ) (at : At) (ts : Trees) → (is_void t || last_is_return false (followed_by ts (end_of c t at))) ≡ true
body_ends c t at ts = by_void (is_void t)
  where
    by_class : (b x : Bool)
        → last_is_return x (if b then two (result_zeroed c t at) (void_at forms.Return at none) else one (void_at forms.Return at (one (zero_result t at)))) ≡ true
    by_class true x = refl
    by_class false x = refl

    by_void : (b : Bool) → (b || last_is_return false (followed_by ts (if b then none else (if is_class_typ t then two (result_zeroed c t at) (void_at forms.Return at none)
        else one (void_at forms.Return at (one (zero_result t at))))))) ≡ true
    by_void true = refl
    by_void false = last_followed ts _ false (λ x. by_class (is_class_typ t) x)

plain_block : (k : FuncKind) → is_constructor k ≡ false → is_body_of k (forms.Block false) ≡ true
plain_block k h = ap (λ (b : Bool). flag_eq false b) h

pub function_fits : (s : Setting) (c : Ctx) (t : Typ) (at : At) (ts : Trees) → IsSetting s c → IsResult s c t → is_constructor s.function.kind ≡ false
    → AllServe s false false BlockItem ts → IsBody s (statement (forms.Block false) at (followed_by ts (end_of c t at)))
function_fits s c t at ts i r k h = record {
  nodes = (block_serves s false false at (followed_by ts (end_of c t at)) (all_followed s false false BlockItem ts (end_of c t at) h (end_serves s c t at i r))).0.fits
      outermost (record { breaks = λ x. absurd cc; continues = λ x. absurd cc });
  block = plain_block s.function.kind k;
  end = ap (λ (u : Typ). is_void u || last_is_return false (followed_by ts (end_of c t at))) r.typed ∙ body_ends c t at ts;
}
