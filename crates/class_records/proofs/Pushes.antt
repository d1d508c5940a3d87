-- The list of classes, and how many are complete, where a class is begun, completed or put behind the others.
use Rattle.std.proofs.Common.{◌≡◌, ◌∙◌, ℕ, ◌+◌, ◌<◌, Bool, true, false, ◌&&◌, List, [], ◌∷◌, ◌++◌, set, length, Option, Some, None, is_none, is_some, cond, refl, sym, ap, arith}
use Rattle.std.specs.Prelude.{nat_lt}
use Rattle.std.proofs.lemmas.Bool.{and_parts, ltb-true}
use Rattle.std.proofs.lemmas.List.{length-map}
use Rattle.cpp_types.specs.Class.{Class, class_of, classes_of, completion_of}
use Rattle.cpp_types.specs.declared.classes.ClassRec.{ClassRec}
use Rattle.cpp_types.specs.Order.{all_consistent, class_below, holds_earlier}
use Rattle.elab_init.specs.elab_ctx.Layouts.{completed_in}
use Rattle.class_layouts.proofs.Changes.{put_shown, pushed_shown}
use Rattle.class_layouts.proofs.Counts.{one_of, counted_push, counted_put}
use Rattle.class_records.specs.Within.{may_stand}

-- A class that may stand in its place

is_nothing : (o : Option ℕ) → is_none o ≡ true → o ≡ None
is_nothing None h = refl
is_nothing (Some k) h = absurd cc

module _ (old : List ClassRec) (n k : ℕ) (c : Class) (s : may_stand (classes_of old) n k c ≡ true) where
  pub stands_within : n < length old
  stands_within =
      let a = and_parts (nat_lt n (length (classes_of old)))
      (is_none (completion_of (classes_of old) n) && (class_below (length (classes_of old)) c && holds_earlier (classes_of old) c k)) s in
      let l = ltb-true n (length (classes_of old)) a.0 in
      let m = length-map old class_of in
      omega arith

  pub stands_open : completion_of (classes_of old) n ≡ None
  stands_open =
      let a = and_parts (nat_lt n (length (classes_of old)))
      (is_none (completion_of (classes_of old) n) && (class_below (length (classes_of old)) c && holds_earlier (classes_of old) c k)) s in
      let b = and_parts (is_none (completion_of (classes_of old) n)) (class_below (length (classes_of old)) c && holds_earlier (classes_of old) c k) a.1 in
      is_nothing (completion_of (classes_of old) n) b.0

-- Order

pub put_order : (old new : List ClassRec) (n : ℕ) (x : ClassRec) → new ≡ set old n x → all_consistent (set (classes_of old) n (class_of x)) ≡ true
    → all_consistent (classes_of new) ≡ true
put_order old new n x e h = ap all_consistent (put_shown old new n x e) ∙ h

pub pushed_order : (old new : List ClassRec) (x : ClassRec) → new ≡ old ++ x ∷ [] → all_consistent (classes_of old ++ class_of x ∷ []) ≡ true
    → all_consistent (classes_of new) ≡ true
pushed_order old new x e h = ap all_consistent (pushed_shown old new x e) ∙ h

-- Numbers

pub put_count : (old new : List ClassRec) (n m k : ℕ) (x : ClassRec) → new ≡ set old n x → n < length old → completion_of (classes_of old) n ≡ None
    → is_some x.complete ≡ true → k ≡ completed_in (classes_of old) → m ≡ k + 1 → m ≡ completed_in (classes_of new)
put_count old new n m k x e l d s h q =
    let j : n < length (classes_of old) = let i = length-map old class_of in omega arith in
    let a : completed_in (classes_of new) ≡ completed_in (set (classes_of old) n (class_of x)) = ap completed_in (put_shown old new n x e) in
    let b = counted_put (classes_of old) n (class_of x) j d s in
    omega arith

pub pushed_count : (old new : List ClassRec) (m k : ℕ) (x : ClassRec) → new ≡ old ++ x ∷ [] → k ≡ completed_in (classes_of old)
    → m ≡ k + one_of (class_of x) → m ≡ completed_in (classes_of new)
pushed_count old new m k x e h q =
    let a : completed_in (classes_of new) ≡ completed_in (classes_of old ++ class_of x ∷ []) = ap completed_in (pushed_shown old new x e) in
    let b = counted_push (classes_of old) (class_of x) in
    omega arith

-- A class that is begun, or not, where memory is wanting

pub begun_order : (old new : List ClassRec) (x : ClassRec) (b : Bool) → new ≡ cond b (old ++ x ∷ []) old
    → all_consistent (classes_of old ++ class_of x ∷ []) ≡ true → all_consistent (classes_of old) ≡ true → all_consistent (classes_of new) ≡ true
begun_order old new x true e h g = pushed_order old new x e h
begun_order old new x false e h g = ap (λ (z : List ClassRec). all_consistent (classes_of z)) e ∙ g

pub begun_count : (old new : List ClassRec) (k : ℕ) (x : ClassRec) (b : Bool) → new ≡ cond b (old ++ x ∷ []) old → x.complete ≡ None
    → k ≡ completed_in (classes_of old) → k ≡ completed_in (classes_of new)
begun_count old new k x true e f h = pushed_count old new k k x e h
    (let o : one_of (class_of x) ≡ 0 = ap (λ (z : Option ℕ). cond (is_some z) 1 0) f in omega arith)
begun_count old new k x false e f h = h ∙ sym (ap (λ (z : List ClassRec). completed_in (classes_of z)) e)
