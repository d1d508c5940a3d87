-- The layouts of complete classes stay as they are where classes are added, completed and cut off.
use Rattle.std.proofs.Common.{◌≡◌, ◌∙◌, ◌≢◌, ℕ, zero, suc, ◌+◌, ◌≤◌, ◌&&◌, leb, List, [], ◌∷◌, ◌++◌, set, take, length, Option, Some, None, is_some, slice_get}
use Rattle.std.proofs.Common.{refl, sym, ap, arith, subst}
use Rattle.std.proofs.lemmas.List.{length-append, length-set}
use Rattle.std.specs.Option.{option_and_then}
use Rattle.cpp_types.specs.Class.{Class, Member, InOrder, completion_of}
use Rattle.cpp_layout.specs.Layout.{Extent, class_extent}
use Rattle.cpp_layout.specs.Measured.{member_offset}
use Rattle.cpp_layout.specs.declared.extents.TheConstants.{GREATEST_SIZE}
use Rattle.setting_growth.specs.Growth.{HeldEarlier, ClassesGrow}
use Rattle.setting_growth.proofs.Classes.{Known, extent_same, offset_same}
use Rattle.elab_ctx.specs.Layouts.{Layout, offsets_from, layout_in, layouts_from, layouts_of}
use Rattle.class_layouts.proofs.Laid.{laid_by, open_layout}

pub held_earlier : (classes : List Class) → InOrder classes → HeldEarlier classes
held_earlier classes o = record { earlier = λ n c k f p. o.earlier n c k f p }

-- Where classes have grown

module _ (old new : List Class) (g : ClassesGrow old new) (o : HeldEarlier old) where
  offsets_same : (n : ℕ) (k : Known old n) (i : ℕ) (ms : List Member) → ((j : ℕ) (m : Member) → slice_get ms j ≡ Some m → slice_get k.owner.members (i + j) ≡ Some m)
      → offsets_from new n k.owner i ms ≡ offsets_from old n k.owner i ms
  offsets_same n k i [] h = refl
  offsets_same n k i (m ∷ ms) h =
      let z : i + 0 ≡ i = omega arith in
      ap (λ (x : ℕ). x ∷ offsets_from new n k.owner (suc i) ms)
      (offset_same old new g o n k i m (subst (λ (x : ℕ). slice_get k.owner.members x ≡ Some m) z (h 0 m refl)))
      ∙ ap (λ (xs : List ℕ). member_offset old n k.owner i m ∷ xs)
      (offsets_same n k (suc i) ms (λ j x q. subst (λ (y : ℕ). slice_get k.owner.members y ≡ Some x)
      (let e : i + suc j ≡ suc i + j = omega arith in e) (h (suc j) x q)))

  layout_known : (n : ℕ) (k : Known old n) → layout_in new n k.owner ≡ layout_in old n k.owner
  layout_known n k =
      ap (λ (x : Extent). laid_by (is_some k.owner.complete && leb x.size GREATEST_SIZE) x (offsets_from new n k.owner 0 k.owner.members)) (extent_same old new g o n k)
      ∙ ap (laid_by (is_some k.owner.complete && leb (class_extent old n).size GREATEST_SIZE) (class_extent old n))
      (offsets_same n k 0 k.owner.members
      (λ j m q. subst (λ (x : ℕ). slice_get k.owner.members x ≡ Some m) (let e : j ≡ 0 + j = omega arith in e) q))

  layout_by : (n : ℕ) (c : Class) (x : Option ℕ) → slice_get old n ≡ Some c → c.complete ≡ x → layout_in new n c ≡ layout_in old n c
  layout_by n c None f e = open_layout new n c e ∙ sym (open_layout old n c e)
  layout_by n c (Some k) f e = layout_known n (record { number = k; owner = c; found = f; complete = e })

  layout_same : (n : ℕ) (c : Class) → slice_get old n ≡ Some c → layout_in new n c ≡ layout_in old n c
  layout_same n c f = layout_by n c c.complete f refl

alike : (f g : List Class) (n : ℕ) (cs : List Class) → ((i : ℕ) (c : Class) → slice_get cs i ≡ Some c → layout_in f (n + i) c ≡ layout_in g (n + i) c)
    → layouts_from f n cs ≡ layouts_from g n cs
alike f g n [] h = refl
alike f g n (c ∷ cs) h =
    let z : n + 0 ≡ n = omega arith in
    ap (λ (x : Layout). x ∷ layouts_from f (suc n) cs) (subst (λ (x : ℕ). layout_in f x c ≡ layout_in g x c) z (h 0 c refl))
    ∙ ap (λ (xs : List Layout). layout_in g n c ∷ xs)
    (alike f g (suc n) cs (λ i x q. subst (λ (y : ℕ). layout_in f y x ≡ layout_in g y x) (let e : n + suc i ≡ suc n + i = omega arith in e) (h (suc i) x q)))

all_same : (old new : List Class) → ClassesGrow old new → HeldEarlier old → layouts_from new 0 old ≡ layouts_of old
all_same old new g o = alike new old 0 old
    (λ i c q. subst (λ (x : ℕ). layout_in new x c ≡ layout_in old x c) (let e : i ≡ 0 + i = omega arith in e) (layout_same old new g o i c q))

-- One more class

from_push : (f : List Class) (n : ℕ) (cs : List Class) (c : Class) → layouts_from f n (cs ++ c ∷ []) ≡ layouts_from f n cs ++ layout_in f (n + length cs) c ∷ []
from_push f n [] c = ap (λ (x : ℕ). layout_in f x c ∷ []) (let e : n ≡ n + 0 = omega arith in e)
from_push f n (x ∷ cs) c = ap (λ (xs : List Layout). layout_in f n x ∷ xs)
    (from_push f (suc n) cs c
    ∙ ap (λ (y : ℕ). layouts_from f (suc n) cs ++ layout_in f y c ∷ []) (let e : suc n + length cs ≡ n + suc (length cs) = omega arith in e))

still_first : (xs ys : List Class) (n : ℕ) (c : Class) → slice_get xs n ≡ Some c → slice_get (xs ++ ys) n ≡ Some c
still_first [] ys n c q = absurd cc
still_first (x ∷ xs) ys zero c q = q
still_first (x ∷ xs) ys (suc n) c q = still_first xs ys n c q

pub push_grows : (classes : List Class) (c : Class) → ClassesGrow classes (classes ++ c ∷ [])
push_grows classes c = record {
  complete = λ n k x f p. still_first classes (c ∷ []) n x f;
  many = let l : length (classes ++ c ∷ []) ≡ length classes + 1 = length-append classes (c ∷ []) in omega arith;
}

pub layouts_push : (classes : List Class) (c : Class) → HeldEarlier classes
    → layouts_of (classes ++ c ∷ []) ≡ layouts_of classes ++ layout_in (classes ++ c ∷ []) (length classes) c ∷ []
layouts_push classes c o = from_push (classes ++ c ∷ []) 0 classes c
    ∙ ap (λ (x : ℕ). layouts_from (classes ++ c ∷ []) 0 classes ++ layout_in (classes ++ c ∷ []) x c ∷ [])
    (let e : 0 + length classes ≡ length classes = omega arith in e)
    ∙ ap (λ (xs : List Layout). xs ++ layout_in (classes ++ c ∷ []) (length classes) c ∷ []) (all_same classes (classes ++ c ∷ []) (push_grows classes c) o)

-- A class in the place of one that is not complete

pub set_other : (xs : List Class) (n m : ℕ) (c : Class) → m ≢ n → slice_get (set xs n c) m ≡ slice_get xs m
set_other [] n m c h = refl
set_other (x ∷ xs) zero zero c h = absurd (h refl)
set_other (x ∷ xs) zero (suc m) c h = refl
set_other (x ∷ xs) (suc n) zero c h = refl
set_other (x ∷ xs) (suc n) (suc m) c h = set_other xs n m c (λ e. h (ap suc e))

not_open : (classes : List Class) (n m k : ℕ) (c : Class) → completion_of classes n ≡ None → slice_get classes m ≡ Some c → c.complete ≡ Some k → m ≢ n
not_open classes n m k c h f p = λ q.
    let e : Some k ≡ None = sym (ap (option_and_then (λ (z : Class). z.complete)) f ∙ p) ∙ ap (completion_of classes) q ∙ h in absurd cc

pub set_grows : (classes : List Class) (n : ℕ) (c : Class) → completion_of classes n ≡ None → ClassesGrow classes (set classes n c)
set_grows classes n c h = record {
  complete = λ m k x f p. set_other classes n m c (not_open classes n m k x h f p) ∙ f;
  many = let l = length-set classes n c in omega arith;
}

from_set : (f : List Class) (m : ℕ) (cs : List Class) (i : ℕ) (c : Class) → layouts_from f m (set cs i c) ≡ set (layouts_from f m cs) i (layout_in f (m + i) c)
from_set f m [] i c = refl
from_set f m (x ∷ cs) zero c = ap (λ (y : ℕ). layout_in f y c ∷ layouts_from f (suc m) cs) (let e : m ≡ m + 0 = omega arith in e)
from_set f m (x ∷ cs) (suc i) c = ap (λ (xs : List Layout). layout_in f m x ∷ xs)
    (from_set f (suc m) cs i c
    ∙ ap (λ (y : ℕ). set (layouts_from f (suc m) cs) i (layout_in f y c)) (let e : suc m + i ≡ m + suc i = omega arith in e))

pub layouts_set : (classes : List Class) (n : ℕ) (c : Class) → HeldEarlier classes → completion_of classes n ≡ None
    → layouts_of (set classes n c) ≡ set (layouts_of classes) n (layout_in (set classes n c) n c)
layouts_set classes n c o h = from_set (set classes n c) 0 classes n c
    ∙ ap (λ (x : ℕ). set (layouts_from (set classes n c) 0 classes) n (layout_in (set classes n c) x c)) (let e : 0 + n ≡ n = omega arith in e)
    ∙ ap (λ (xs : List Layout). set xs n (layout_in (set classes n c) n c)) (all_same classes (set classes n c) (set_grows classes n c h) o)

-- A list that is cut

from_take : (f : List Class) (m n : ℕ) (cs : List Class) → layouts_from f m (take n cs) ≡ take n (layouts_from f m cs)
from_take f m zero cs = refl
from_take f m (suc n) [] = refl
from_take f m (suc n) (c ∷ cs) = ap (λ (xs : List Layout). layout_in f m c ∷ xs) (from_take f (suc m) n cs)

of_first : (xs : List Class) (k n : ℕ) (c : Class) → slice_get (take k xs) n ≡ Some c → slice_get xs n ≡ Some c
of_first xs zero n c q = absurd cc
of_first [] (suc k) n c q = q
of_first (x ∷ xs) (suc k) zero c q = q
of_first (x ∷ xs) (suc k) (suc n) c q = of_first xs k n c q

fewer : (k : ℕ) (xs : List Class) → length (take k xs) ≤ length xs
fewer zero xs = omega arith
fewer (suc k) [] = omega arith
fewer (suc k) (x ∷ xs) = let h = fewer k xs in omega (arith, h)

take_grows : (classes : List Class) (k : ℕ) → ClassesGrow (take k classes) classes
take_grows classes k = record { complete = λ n i c f p. of_first classes k n c f; many = fewer k classes }

pub layouts_cut : (classes : List Class) (k : ℕ) → HeldEarlier (take k classes) → layouts_of (take k classes) ≡ take k (layouts_of classes)
layouts_cut classes k o = sym (all_same (take k classes) classes (take_grows classes k) o) ∙ from_take classes 0 k classes

-- There is one for each class

from_many : (f : List Class) (n : ℕ) (cs : List Class) → length (layouts_from f n cs) ≡ length cs
from_many f n [] = refl
from_many f n (c ∷ cs) = ap suc (from_many f (suc n) cs)

pub layouts_many : (classes : List Class) → length (layouts_of classes) ≡ length classes
layouts_many classes = from_many classes 0 classes
