-- Types with more qualifiers: what the tests of objects say of them.
use Rattle.std.proofs.Common.{◌≡◌, refl, sym, ap, ◌∙◌, ℕ, Bool, true, false, ◌&&◌, ◌||◌, ◌==◌, ◌*◌, nat_le, nat_lt, List, [], ◌∷◌}
use Rattle.std.proofs.Common.{Option, None, is_some, cond, slice_get}
use Rattle.std.specs.List.{list_all}
use Rattle.elab_rules.specs.cpp_types.Typ.{Typ, typ, Form, void, int, enum, null, ptr, ref, array, func, class, closure, tx_ex}
use Rattle.elab_rules.specs.cpp_types.Class.{Class, completion_of, held, held_form}
use Rattle.elab_rules.specs.cpp_types.Order.{each_passes}
use Rattle.elab_rules.specs.cpp_tree.declared.kinds.TKind.{TKind}
use Rattle.elab_rules.specs.cpp_tree.declared.kinds.TKind.TheVariants.{Destroy}
use Rattle.elab_rules.specs.cpp_tree.Typing.{Head, passes, form_in, qualified, same_shape, is_class_typ, is_class}
use Rattle.elab_rules.specs.cpp_tree.Parts as told
use Rattle.elab_rules.specs.cpp_tree.Parts.{size_in, holds_complete, within_limit, has_size, are_objects, are_whole, are_captures, are_destroyed, closure_in}
use Rattle.elab_rules.specs.cpp_tree.Parts.{captured_within, depth_of}
use Rattle.elab_rules.specs.cpp_tree.Units.{Func}
use Rattle.elab_rules.specs.cpp_tree.Rows.{Setting, is_destruction, are_destructions, offsets_fall, is_destructor}
use Rattle.elab_rules.specs.Objects.{size_of}
use Rattle.elab_fits.proofs.Objects.{qualified_held, qualified_size}
use Rattle.elab_fits_braces.proofs.PlainRows.{passes_same}

-- Flags

pub or_assoc : (a b c : Bool) → (a || (b || c)) ≡ ((a || b) || c)
or_assoc true b c = refl
or_assoc false b c = refl

pub or_swap : (a b : Bool) → (a || b) ≡ (b || a)
or_swap true true = refl
or_swap true false = refl
or_swap false true = refl
or_swap false false = refl

-- Twice

flags : (f : Form) (q v d w a b : Bool) → typ f (q || (d || a)) (v || (w || b)) ≡ typ f ((q || d) || a) ((v || w) || b)
flags f q v d w a b = let x = or_assoc q d a in let y = or_assoc v w b in rw (x, y) refl

pub again : (q v d w : Bool) (t : Typ) → qualified q v (qualified d w t) ≡ qualified (q || d) (v || w) t
again q v d w (typ void a b) = flags void q v d w a b
again q v d w (typ (int k) a b) = flags (int k) q v d w a b
again q v d w (typ (enum n s) a b) = flags (enum n s) q v d w a b
again q v d w (typ null a b) = flags null q v d w a b
again q v d w (typ (ptr t) a b) = flags (ptr t) q v d w a b
again q v d w (typ (ref t) a b) = refl
again q v d w (typ (array t n) a b) = ap (λ (u : Typ). typ (array u n) a b) (again q v d w t)
again q v d w (typ (func s) a b) = flags (func s) q v d w a b
again q v d w (typ (class n) a b) = flags (class n) q v d w a b
again q v d w (typ (closure n) a b) = flags (closure n) q v d w a b
again q v d w (typ (tx_ex t) a b) = flags (tx_ex t) q v d w a b

-- Shapes

array_shape : (q v : Bool) (t : Typ) (n : ℕ) (a b : Bool) (g : Form) (c d : Bool)
    → ((u : Typ) → same_shape (qualified q v t) u ≡ same_shape t u)
    → same_shape (typ (array (qualified q v t) n) a b) (typ g c d) ≡ same_shape (typ (array t n) a b) (typ g c d)
array_shape q v t n a b (array u m) c d h = ap (λ (x : Bool). (n == m) && x) (h u)
array_shape q v t n a b void c d h = refl
array_shape q v t n a b (int k) c d h = refl
array_shape q v t n a b (enum m s) c d h = refl
array_shape q v t n a b null c d h = refl
array_shape q v t n a b (ptr u) c d h = refl
array_shape q v t n a b (ref u) c d h = refl
array_shape q v t n a b (func s) c d h = refl
array_shape q v t n a b (class m) c d h = refl
array_shape q v t n a b (closure m) c d h = refl
array_shape q v t n a b (tx_ex u) c d h = refl

pub shape_again : (q v : Bool) (t u : Typ) → same_shape (qualified q v t) u ≡ same_shape t u
shape_again q v (typ (array t n) a b) (typ g c d) = array_shape q v t n a b g c d (shape_again q v t)
shape_again q v (typ void a b) (typ g c d) = refl
shape_again q v (typ (int k) a b) (typ g c d) = refl
shape_again q v (typ (enum n s) a b) (typ g c d) = refl
shape_again q v (typ null a b) (typ g c d) = refl
shape_again q v (typ (ptr t) a b) (typ g c d) = refl
shape_again q v (typ (ref t) a b) (typ g c d) = refl
shape_again q v (typ (func s) a b) (typ g c d) = refl
shape_again q v (typ (class n) a b) (typ g c d) = refl
shape_again q v (typ (closure n) a b) (typ g c d) = refl
shape_again q v (typ (tx_ex t) a b) (typ g c d) = refl

pub class_again : (q v : Bool) (t : Typ) → is_class_typ (qualified q v t) ≡ is_class_typ t
class_again q v (typ void a b) = refl
class_again q v (typ (int k) a b) = refl
class_again q v (typ (enum n s) a b) = refl
class_again q v (typ null a b) = refl
class_again q v (typ (ptr t) a b) = refl
class_again q v (typ (ref t) a b) = refl
class_again q v (typ (array t n) a b) = refl
class_again q v (typ (func s) a b) = refl
class_again q v (typ (class n) a b) = refl
class_again q v (typ (closure n) a b) = refl
class_again q v (typ (tx_ex t) a b) = refl

pub number_again : (q v : Bool) (n : ℕ) (t : Typ) → is_class n (form_in (qualified q v t)) ≡ is_class n (form_in t)
number_again q v n (typ void a b) = refl
number_again q v n (typ (int k) a b) = refl
number_again q v n (typ (enum m s) a b) = refl
number_again q v n (typ null a b) = refl
number_again q v n (typ (ptr t) a b) = refl
number_again q v n (typ (ref t) a b) = refl
number_again q v n (typ (array t m) a b) = refl
number_again q v n (typ (func s) a b) = refl
number_again q v n (typ (class m) a b) = refl
number_again q v n (typ (closure m) a b) = refl
number_again q v n (typ (tx_ex t) a b) = refl

closure_again : (q v : Bool) (t : Typ) → closure_in (qualified q v t) ≡ closure_in t
closure_again q v (typ void a b) = refl
closure_again q v (typ (int k) a b) = refl
closure_again q v (typ (enum n s) a b) = refl
closure_again q v (typ null a b) = refl
closure_again q v (typ (ptr t) a b) = refl
closure_again q v (typ (ref t) a b) = refl
closure_again q v (typ (array t n) a b) = refl
closure_again q v (typ (func s) a b) = refl
closure_again q v (typ (class n) a b) = refl
closure_again q v (typ (closure n) a b) = refl
closure_again q v (typ (tx_ex t) a b) = refl

-- Sizes

held_in : (t : Typ) → held_form (form_in t) ≡ held t
held_in (typ f c v) = refl

complete_again : (classes : List Class) (q v : Bool) (t : Typ) → holds_complete classes (form_in (qualified q v t)) ≡ holds_complete classes (form_in t)
complete_again classes q v t = ap (each_passes (λ (n : ℕ). is_some (completion_of classes n))) (held_in (qualified q v t) ∙ qualified_held q v t ∙ sym (held_in t))

pub size_again : (classes : List Class) (q v : Bool) (t : Typ) → size_in classes (qualified q v t) ≡ size_in classes t
size_again classes q v t = ap (λ (b : Bool). cond b (within_limit (size_of classes (qualified q v t))) None) (complete_again classes q v t)
    ∙ ap (λ (n : ℕ). cond (holds_complete classes (form_in t)) (within_limit n) None) (qualified_size classes q v t)

pub stride_again : (classes : List Class) (q v : Bool) (t : Typ) (n : ℕ) → has_size classes (qualified q v t) n ≡ has_size classes t n
stride_again classes q v t n = ap (passes (λ (size : ℕ). size == n)) (size_again classes q v t)

-- Destructions

objects_again : (classes : List Class) (n count stride before : ℕ) (q v : Bool) (t : Typ)
    → are_objects classes n count stride before (qualified q v t) ≡ are_objects classes n count stride before t
objects_again classes n count stride before q v (typ (array t m) a b) =
    ap (λ (x : Bool). nat_le (before * m) count && (((before * m == count) && x && has_size classes (qualified q v t) stride)
    || are_objects classes n count stride (before * m) (qualified q v t))) (number_again q v n t)
    ∙ ap (λ (x : Bool). nat_le (before * m) count && (((before * m == count) && is_class n (form_in t) && x)
    || are_objects classes n count stride (before * m) (qualified q v t))) (stride_again classes q v t stride)
    ∙ ap (λ (x : Bool). nat_le (before * m) count && (((before * m == count) && is_class n (form_in t) && has_size classes t stride) || x))
    (objects_again classes n count stride (before * m) q v t)
objects_again classes n count stride before q v (typ void a b) = refl
objects_again classes n count stride before q v (typ (int k) a b) = refl
objects_again classes n count stride before q v (typ (enum m s) a b) = refl
objects_again classes n count stride before q v (typ null a b) = refl
objects_again classes n count stride before q v (typ (ptr t) a b) = refl
objects_again classes n count stride before q v (typ (ref t) a b) = refl
objects_again classes n count stride before q v (typ (func s) a b) = refl
objects_again classes n count stride before q v (typ (class m) a b) = refl
objects_again classes n count stride before q v (typ (closure m) a b) = refl
objects_again classes n count stride before q v (typ (tx_ex t) a b) = refl

destroyed_again : (classes : List Class) (o : told.Objects) (offset : ℕ) (q v : Bool) (t : Typ)
    → are_destroyed classes o offset (qualified q v t) ≡ are_destroyed classes o offset t
destroyed_again classes o offset q v t =
    ap (λ (x : Bool). (offset == 0 && ((x && (o.count == 1) && (o.stride == 0)) || (nat_lt 0 o.count
    && are_objects classes o.class o.count o.stride 1 (qualified q v t)))) || are_captures classes o offset (qualified q v t)) (number_again q v o.class t)
    ∙ ap (λ (x : Bool). (offset == 0 && ((is_class o.class (form_in t) && (o.count == 1) && (o.stride == 0)) || (nat_lt 0 o.count && x)))
    || are_captures classes o offset (qualified q v t)) (objects_again classes o.class o.count o.stride 1 q v t)
    ∙ ap (λ (x : Option ℕ). are_whole classes o offset t || passes (λ (n : ℕ). captured_within (depth_of classes n) classes o n offset) x) (closure_again q v t)

one_again : (s : Setting) (q v : Bool) (t : Typ) (k : TKind) → is_destruction s (qualified q v t) k ≡ is_destruction s t k
one_again s q v t (Destroy f offset count stride) = passes_same _ _ (λ (g : Func). ap (λ (x : Bool). is_destructor g.kind && x) (passes_same _ _
    (λ (n : ℕ). destroyed_again s.classes (record { class = n; count = count; stride = stride }) offset q v t) g.class)) (slice_get s.funcs f)
one_again s q v t k = refl

all_again : (s : Setting) (q v : Bool) (t : Typ) (hs : List Head)
    → list_all (λ (h : Head). is_destruction s (qualified q v t) h.kind) hs ≡ list_all (λ (h : Head). is_destruction s t h.kind) hs
all_again s q v t [] = refl
all_again s q v t (h ∷ hs) = let a = one_again s q v t h.kind in let b = all_again s q v t hs in rw (a, b) refl

pub destructions_again : (s : Setting) (q v : Bool) (t : Typ) (hs : List Head) → are_destructions s (qualified q v t) hs ≡ are_destructions s t hs
destructions_again s q v t hs = ap (λ (x : Bool). x && offsets_fall hs) (all_again s q v t hs)
