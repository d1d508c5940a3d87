-- Marks of classes with a volatile part: rounds over the list find them all.
use Rattle.std.proofs.Common.{◌≡◌, ◌∙◌, ◌⊎◌, inl, inr, ◌<◌, ◌≤◌, ◌+◌, ℕ, zero, suc, Bool, true, false, not, ◌&&◌, ◌||◌, List, [], ◌∷◌, Option, Some, None, cond}
use Rattle.std.proofs.Common.{map, set, get_or, length, replicate, slice_get, ap, sym, subst, arith, refl}
use Rattle.std.specs.Prelude.{count_by}
use Rattle.std.specs.List.{list_any}
use Rattle.std.proofs.lemmas.Bool.{cases_eq, cases_lt}
use Rattle.std.proofs.lemmas.Option.{slice_get_past}
use Rattle.std.proofs.lemmas.List.{length-set, length-map, get_or-set_same, get_or-set_other}
use Rattle.std.proofs.lemmas.List.Sums.{count_by-le-length, sum_by-set}
use Rattle.cpp_types.specs.Typ.{Typ, typ, Form, void, int, enum, null, ptr, ref, array, func, class, closure, tx_ex}
use Rattle.cpp_types.specs.Class.{Class, Member}
use Rattle.cpp_tree.specs.Typing.{passes}
use Rattle.tx_unsafe.specs.Volatile.{is_volatile_object, is_volatile_form, is_volatile_member, has_volatile_part_by, volatile_within, has_volatile_part, marked}
use Rattle.tx_unsafe.specs.ClassMarks.{count_marked, has_new_part, SoundClasses, ClosedClasses}

-- Tests: more classes pass, more types do

pub either : (a b : Bool) → (a || b) ≡ true → (a ≡ true) ⊎ (b ≡ true)
either true b h = inl refl
either false b h = inr h

pub or_left : (a b : Bool) → a ≡ true → (a || b) ≡ true
or_left a b h = ap (λ z. z || b) h

pub or_right : (a b : Bool) → b ≡ true → (a || b) ≡ true
or_right true b h = refl
or_right false b h = h

pub or_more : (a b c d : Bool) → (a ≡ true → c ≡ true) → (b ≡ true → d ≡ true) → (a || b) ≡ true → (c || d) ≡ true
or_more a b c d f g h = elim (either a b h) [ inl x ↦ or_left c d (f x) | inr y ↦ or_right c d (g y) ]

pub passes_more : {A : Type 0} (p q : A → Bool) → ((x : A) → p x ≡ true → q x ≡ true) → (o : Option A) → passes p o ≡ true → passes q o ≡ true
passes_more p q f None h = h
passes_more p q f (Some x) h = f x h

pub any_more : {A : Type 0} (p q : A → Bool) → ((x : A) → p x ≡ true → q x ≡ true) → (xs : List A) → list_any p xs ≡ true → list_any q xs ≡ true
any_more p q f [] h = h
any_more p q f (x ∷ xs) h = or_more (p x) (list_any p xs) (q x) (list_any q xs) (f x) (any_more p q f xs) h

mutual
  pub typ_more : (p q : ℕ → Bool) → ((n : ℕ) → p n ≡ true → q n ≡ true) → (t : Typ) → is_volatile_object p t ≡ true → is_volatile_object q t ≡ true
  typ_more p q f (typ g c true) h = refl
  typ_more p q f (typ g c false) h = form_more p q f g h

  pub form_more : (p q : ℕ → Bool) → ((n : ℕ) → p n ≡ true → q n ≡ true) → (g : Form) → is_volatile_form p g ≡ true → is_volatile_form q g ≡ true
  form_more p q f void h = h
  form_more p q f (int k) h = h
  form_more p q f (enum n s) h = h
  form_more p q f null h = h
  form_more p q f (ptr t) h = h
  form_more p q f (ref t) h = h
  form_more p q f (array t n) h = typ_more p q f t h
  form_more p q f (func s) h = h
  form_more p q f (class n) h = f n h
  form_more p q f (closure n) h = f n h
  form_more p q f (tx_ex t) h = typ_more p q f t h

pub part_more : (p q : ℕ → Bool) → ((n : ℕ) → p n ≡ true → q n ≡ true) → (c : Class) → has_volatile_part_by p c ≡ true → has_volatile_part_by q c ≡ true
part_more p q f c h = or_more (list_any (is_volatile_member p) c.members) (passes p c.base) (list_any (is_volatile_member q) c.members) (passes q c.base)
    (any_more (is_volatile_member p) (is_volatile_member q) (λ m. typ_more p q f m.typ) c.members) (passes_more p q f c.base) h

-- Counts

pub zero_if : (b : Bool) → b ≡ false → cond {A = ℕ} b 1 0 ≡ 0
zero_if true h = absurd cc
zero_if false h = refl

pub count_set : (marks : List Bool) (i : ℕ) → i < length marks → get_or marks i false ≡ false → count_marked (set marks i true) ≡ count_marked marks + 1
count_set marks i l h = omega (arith, sum_by-set (λ (b : Bool). cond {A = ℕ} b 1 0) marks i true false l, zero_if (get_or marks i false) h)

-- One mark more

pub false_not : (b : Bool) → not b ≡ true → b ≡ false
false_not true h = absurd cc
false_not false h = refl

pub split_and : (a b : Bool) → (a && b) ≡ true → (a ≡ true) × (b ≡ true)
split_and true b h = (refl, h)
split_and false b h = absurd cc

pub sound_more : (classes : List Class) (marks : List Bool) (i : ℕ) → i < length marks → SoundClasses classes marks → has_new_part classes marks i ≡ true
    → SoundClasses classes (set marks i true)
sound_more classes marks i l s h = record {
  within = λ n depth m c. elim (cases_eq n i) [
    | inl e ↦ deeper classes marks i n depth (count_set marks i l (false_not (marked marks i) (split_and _ _ h).0)) s (split_and _ _ h).1 e c
    | inr e ↦ s.within n depth (sym (get_or-set_other marks i n true false e) ∙ m)
        (let k = count_set marks i l (false_not (marked marks i) (split_and _ _ h).0) in omega arith)
  ];
}
  where
    deeper : (classes : List Class) (marks : List Bool) (i n depth : ℕ) → count_marked (set marks i true) ≡ count_marked marks + 1 → SoundClasses classes marks
        → passes (has_volatile_part_by (marked marks)) (slice_get classes i) ≡ true → n ≡ i → count_marked (set marks i true) ≤ depth
        → volatile_within depth classes n ≡ true
    deeper classes marks i n zero k s p e c = absurd (omega arith)
    deeper classes marks i n (suc d) k s p e c = ap (λ z. volatile_within (suc d) classes z) e
        ∙ passes_more (has_volatile_part_by (marked marks)) (has_volatile_part_by (volatile_within d classes))
        (part_more (marked marks) (volatile_within d classes) (λ m q. s.within m d q (omega arith))) (slice_get classes i) p

-- A step of a round: the class at an index is marked, if it is to be

pub next_long : (marks new : List Bool) (i limit : ℕ) (b : Bool) → length marks ≡ limit → new ≡ cond b (set marks i true) marks → length new ≡ limit
next_long marks new i limit true l e = ap length e ∙ length-set marks i true ∙ l
next_long marks new i limit false l e = ap length e ∙ l

pub next_sound : (classes : List Class) (marks new : List Bool) (i : ℕ) (b : Bool) → i < length marks → SoundClasses classes marks
    → b ≡ has_new_part classes marks i → new ≡ cond b (set marks i true) marks → SoundClasses classes new
next_sound classes marks new i true l s h e = subst (SoundClasses classes) (sym e) (sound_more classes marks i l s (sym h))
next_sound classes marks new i false l s h e = subst (SoundClasses classes) (sym e) s

pub next_kept : (classes : List Class) (marks new : List Bool) (i start : ℕ) (b : Bool) → i < length marks → b ≡ has_new_part classes marks i
    → new ≡ cond b (set marks i true) marks → start ≤ count_marked marks → start ≤ count_marked new
next_kept classes marks new i start true l h e k = let c = count_set marks i l (false_not (marked marks i) (split_and _ _ (sym h)).0) in
    let d : count_marked new ≡ count_marked (set marks i true) = ap count_marked e in omega arith
next_kept classes marks new i start false l h e k = let d : count_marked new ≡ count_marked marks = ap count_marked e in omega arith

pub next_more : (classes : List Class) (marks new : List Bool) (i start : ℕ) (a b : Bool) → i < length marks → b ≡ has_new_part classes marks i
    → new ≡ cond b (set marks i true) marks → start ≤ count_marked marks
    → (a ≡ true → start < count_marked marks) → (a || b) ≡ true → start < count_marked new
next_more classes marks new i start a true l h e k m t = let c = count_set marks i l (false_not (marked marks i) (split_and _ _ (sym h)).0) in
    let d : count_marked new ≡ count_marked (set marks i true) = ap count_marked e in omega arith
next_more classes marks new i start true false l h e k m t = let d : count_marked new ≡ count_marked marks = ap count_marked e in let s = m refl in omega arith
next_more classes marks new i start false false l h e k m t = absurd cc

pub next_closed : (classes : List Class) (marks new : List Bool) (i : ℕ) (a b : Bool) → b ≡ has_new_part classes marks i → new ≡ cond b (set marks i true) marks
    → (a ≡ false → ClosedClasses classes marks i) → (a || b) ≡ false → ClosedClasses classes new (i + 1)
next_closed classes marks new i true b h e k t = absurd cc
next_closed classes marks new i false true h e k t = absurd cc
next_closed classes marks new i false false h e k t = subst (λ z. ClosedClasses classes z (i + 1)) (sym e)
    (record { closed = λ n l. elim (cases_eq n i) [ inl q ↦ ap (has_new_part classes marks) q ∙ sym h | inr q ↦ (k refl).closed n (omega arith) ] })

-- The first round and the last

pub none_marked : (k n : ℕ) → marked (replicate k false) n ≡ false
none_marked zero n = refl
none_marked (suc k) zero = refl
none_marked (suc k) (suc n) = none_marked k n

pub sound_none : (classes : List Class) (marks : List Bool) (k : ℕ) → marks ≡ replicate k false → SoundClasses classes marks
sound_none classes marks k e = record {
  within = λ n depth m c. let z = none_marked k n in let y : marked (replicate k false) n ≡ true = sym
      (ap (λ u. marked u n) e) ∙ m in absurd cc;
}

pub passes_within : {A : Type 0} (p : A → Bool) (xs : List A) (n : ℕ) → passes p (slice_get xs n) ≡ true → n < length xs
passes_within p xs n h = elim (cases_lt n (length xs)) [
  | inl l ↦ l
  | inr l ↦ let z : passes p (slice_get xs n) ≡ false = ap (passes p) (slice_get_past xs n l) in absurd cc
]

pub not_new : (b c : Bool) → c ≡ true → (not b && c) ≡ false → b ≡ true
not_new true c h e = refl
not_new false c h e = absurd cc

pub complete : (classes : List Class) (marks : List Bool) → ClosedClasses classes marks (length classes) → (depth n : ℕ)
    → volatile_within depth classes n ≡ true → marked marks n ≡ true
complete classes marks k zero n h = absurd cc
complete classes marks k (suc d) n h = not_new (marked marks n) (passes (has_volatile_part_by (marked marks)) (slice_get classes n))
    (passes_more (has_volatile_part_by (volatile_within d classes)) (has_volatile_part_by (marked marks))
    (part_more (volatile_within d classes) (marked marks) (complete classes marks k d)) (slice_get classes n) h)
    (k.closed n (passes_within (has_volatile_part_by (volatile_within d classes)) classes n h))

pub same_bool : (a b : Bool) → (a ≡ true → b ≡ true) → (b ≡ true → a ≡ true) → a ≡ b
same_bool true b f g = sym (f refl)
same_bool false true f g = g refl
same_bool false false f g = refl

pub all_known : (classes : List Class) (marks : List Bool) → length marks ≡ length classes → SoundClasses classes marks
    → ClosedClasses classes marks (length classes) → (n : ℕ) → marked marks n ≡ has_volatile_part classes n
all_known classes marks l s k n = same_bool (marked marks n) (has_volatile_part classes n)
    (λ m. s.within n (length classes) m (let c = count_by-le-length (λ (b : Bool). b) marks in omega arith)) (complete classes marks k (length classes) n)

pub all_known_at : (classes : List Class) (marks : List Bool) (limit : ℕ) → length classes ≡ limit → length marks ≡ limit → SoundClasses classes marks
    → ClosedClasses classes marks limit → (n : ℕ) → marked marks n ≡ has_volatile_part classes n
all_known_at classes marks limit e l s k = all_known classes marks (l ∙ sym e) s (record { closed = λ n h. k.closed n (omega arith) })
