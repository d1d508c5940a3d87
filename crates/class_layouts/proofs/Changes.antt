-- Lists of classes with the layout of each, where a class is put in its place or behind the others.
use Rattle.std.proofs.Common.{◌≡◌, ◌∙◌, ℕ, zero, suc, ◌+◌, ◌<◌, true, List, [], ◌∷◌, ◌++◌, set, take, map, length, Some, None, slice_get}
use Rattle.std.proofs.Common.{refl, sym, ap, arith, subst}
use Rattle.std.proofs.lemmas.List.{map-set, map-append, set-set, set-get_or, length-map, length-append, take_at}
use Rattle.std.proofs.lemmas.Option.{get_or_from_slice_get}
use Rattle.cpp_types.specs.declared.classes.ClassRec.{ClassRec}
use Rattle.cpp_types.specs.Class.{Class, InOrder, class_of, classes_of, completion_of}
use Rattle.cpp_types.specs.Order.{all_consistent}
use Rattle.elab_ctx.specs.declared.class_layout.ClassLayout.{ClassLayout}
use Rattle.elab_ctx.specs.Layouts.{Layout, layout_of, layout_in, layouts_of}
use Rattle.elab_ctx.proofs.Sizes.{in_order}
use Rattle.class_layouts.specs.Kept.{Serves}
use Rattle.class_layouts.proofs.Growing.{held_earlier, layouts_push, layouts_set, layouts_many}
use Rattle.class_layouts.proofs.Serving.{serves_put, serves_push}

-- there is a layout for each class
pub as_many : (ls : List ClassLayout) (classes : List Class) → map layout_of ls ≡ layouts_of classes → length ls ≡ length classes
as_many ls classes e = sym (length-map ls layout_of) ∙ ap length e ∙ layouts_many classes

-- A class in the place of another

set_same : {A : Type 0} (xs : List A) (n : ℕ) (x : A) → n < length xs → slice_get (set xs n x) n ≡ Some x
set_same [] n x h = absurd (omega arith)
set_same (y ∷ xs) zero x h = refl
set_same (y ∷ xs) (suc n) x h = set_same xs n x (omega arith)

-- what was there before is there again
pub put_back : (old mid new : List ClassRec) (n : ℕ) (r b : ClassRec) → mid ≡ set old n r → slice_get old n ≡ Some b → new ≡ set mid n b → new ≡ old
put_back old mid new n r b e f g = g ∙ ap (λ (z : List ClassRec). set z n b) e ∙ set-set old n r b
    ∙ ap (set old n) (sym (get_or_from_slice_get old n b b f)) ∙ set-get_or old n b

module _ (old new : List ClassRec) (n : ℕ) (r : ClassRec) (e : new ≡ set old n r) where
  pub put_shown : classes_of new ≡ set (classes_of old) n (class_of r)
  put_shown = ap classes_of e ∙ map-set class_of old n r

  pub put_in_order : all_consistent (set (classes_of old) n (class_of r)) ≡ true → InOrder (classes_of new)
  put_in_order h = in_order (classes_of new) (ap all_consistent put_shown ∙ h)

  module _ (d : completion_of (classes_of old) n ≡ None) (o : all_consistent (classes_of old) ≡ true) (ls : List ClassLayout)
      (l : map layout_of ls ≡ layouts_of (classes_of old)) where
    pub put_serves : (ms : List ClassLayout) → ms ≡ ls → Serves (classes_of new) ms n
    put_serves ms q = subst (λ (z : List ClassLayout). Serves (classes_of new) z n) (sym q)
        (subst (λ (z : List Class). Serves z ls n) (sym put_shown)
        (serves_put (classes_of old) n (class_of r) d (held_earlier (classes_of old) (in_order (classes_of old) o)) ls l))

    pub put_laid : (ms : List ClassLayout) (x : ClassLayout) → n < length old → ms ≡ set ls n x
        → ((c : Class) → slice_get (classes_of new) n ≡ Some c → layout_of x ≡ layout_in (classes_of new) n c) → map layout_of ms ≡ layouts_of (classes_of new)
    put_laid ms x h q f =
        let k : n < length (classes_of old) = let m = length-map old class_of in omega arith in
        let a : slice_get (classes_of new) n ≡ Some (class_of r) = ap (λ (z : List Class). slice_get z n) put_shown ∙ set_same (classes_of old) n (class_of r) k in
        let b : layout_of x ≡ layout_in (set (classes_of old) n (class_of r)) n (class_of r) =
        f (class_of r) a ∙ ap (λ (z : List Class). layout_in z n (class_of r)) put_shown in
        ap (map layout_of) q ∙ map-set layout_of ls n x
        ∙ ap (λ (z : List Layout). set z n (layout_of x)) l
        ∙ ap (set (layouts_of (classes_of old)) n) b
        ∙ sym (layouts_set (classes_of old) n (class_of r) (held_earlier (classes_of old) (in_order (classes_of old) o)) d)
        ∙ sym (ap layouts_of put_shown)

-- A class behind the others

record Last (classes : List Class) (n : ℕ) : Type 0 where
  last : Class
  is : classes ≡ take n classes ++ last ∷ []
  found : slice_get classes n ≡ Some last
  many : length (take n classes) ≡ n

last_of : (classes : List Class) (n : ℕ) → length classes ≡ n + 1 → Last classes n
last_of [] n h = absurd (omega arith)
last_of (c ∷ []) zero h = record { last = c; is = refl; found = refl; many = refl }
last_of (c ∷ (d ∷ cs)) zero h = absurd (omega arith)
last_of (c ∷ cs) (suc n) h = let p = last_of cs n (omega arith) in
    record { last = p.last; is = ap (λ (z : List Class). c ∷ z) p.is; found = p.found; many = ap suc p.many }

module _ (rs : List ClassRec) (n : ℕ) (h : length rs ≡ n + 1) (o : all_consistent (take n (classes_of rs)) ≡ true) (ls : List ClassLayout)
    (l : map layout_of ls ≡ layouts_of (take n (classes_of rs))) where
  last : Last (classes_of rs) n
  last = last_of (classes_of rs) n (length-map rs class_of ∙ h)

  pub last_served : (ms : List ClassLayout) → ms ≡ ls → Serves (classes_of rs) ms n
  last_served ms q = subst (λ (z : List ClassLayout). Serves (classes_of rs) z n) (sym q)
      (subst (λ (z : ℕ). Serves (classes_of rs) ls z) last.many
      (subst (λ (z : List Class). Serves z ls (length (take n (classes_of rs)))) (sym last.is)
      (serves_push (take n (classes_of rs)) last.last (held_earlier (take n (classes_of rs)) (in_order (take n (classes_of rs)) o)) ls l)))

  pub last_laid : (ms : List ClassLayout) (x : ClassLayout) → ms ≡ ls ++ x ∷ []
      → ((c : Class) → slice_get (classes_of rs) n ≡ Some c → layout_of x ≡ layout_in (classes_of rs) n c) → map layout_of ms ≡ layouts_of (classes_of rs)
  last_laid ms x q f =
      let a : layouts_of (classes_of rs) ≡ layouts_of (take n (classes_of rs))
      ++ layout_in (take n (classes_of rs) ++ last.last ∷ []) (length (take n (classes_of rs))) last.last ∷ [] =
      ap layouts_of last.is
      ∙ layouts_push (take n (classes_of rs)) last.last (held_earlier (take n (classes_of rs)) (in_order (take n (classes_of rs)) o)) in
      let b : layout_in (take n (classes_of rs) ++ last.last ∷ []) (length (take n (classes_of rs))) last.last ≡ layout_of x =
      ap (λ (z : List Class). layout_in z (length (take n (classes_of rs))) last.last) (sym last.is)
      ∙ ap (λ (z : ℕ). layout_in (classes_of rs) z last.last) last.many ∙ sym (f last.last last.found) in
      ap (map layout_of) q ∙ map-append layout_of ls (x ∷ [])
      ∙ ap (λ (z : List Layout). z ++ layout_of x ∷ []) l
      ∙ ap (λ (z : Layout). layouts_of (take n (classes_of rs)) ++ z ∷ []) (sym b)
      ∙ sym a

module _ (old new : List ClassRec) (r : ClassRec) (e : new ≡ old ++ r ∷ []) where
  pub pushed_shown : classes_of new ≡ classes_of old ++ class_of r ∷ []
  pushed_shown = ap classes_of e ∙ map-append class_of old (r ∷ [])

  pub pushed_first : (n : ℕ) → n ≡ length old → take n (classes_of new) ≡ classes_of old
  pushed_first n h = ap (take n) pushed_shown ∙ take_at (classes_of old) (class_of r ∷ []) n (length-map old class_of ∙ sym h)

  pub pushed_many : (n : ℕ) → n ≡ length old → length new ≡ n + 1
  pushed_many n h = let a : length new ≡ length old + 1 = ap length e ∙ length-append old (r ∷ []) in omega arith
