-- Notes in the code's slots.
use Rattle.std.proofs.Common.{Bool, true, false, ◌≡◌, ◌<◌, ◌≤◌, ℕ, zero, suc, ◌+◌, List, [], ◌∷◌, ◌++◌, length, map, set, get_or, take, replicate, Option, Some}
use Rattle.std.proofs.Common.{None, refl, sym, ap, ◌∙◌, subst, arith}
use Rattle.std.specs.Prelude.{nat_lt, ◌&&◌, if◌then◌else◌}
use Rattle.std.specs.List.{list_all}
use Rattle.std.specs.Option.{option_map, option_map_or}
use Rattle.std.proofs.lemmas.List.{take_more}
use Rattle.std.proofs.lemmas.Bool.{lt-ltb, le-ltb, ltb-true}
use Rattle.tx_events.specs.Thread.{Open}
use Rattle.tx_code.specs.Objects.{BodyView}
use Rattle.tx_code.specs.Shapes as shapes
use Rattle.tx_code.specs.declared.body.Row.{Row}
use Rattle.tx_code.specs.Meaning.{covers}
use Rattle.tx_code.specs.Shapes.{Table, landed}
use Rattle.tx_code.specs.Sound.{Signature, entry}
use Rattle.tx_code.proofs.ReachedIndexes.{and_left, and_right}
use Rattle.code_walk.specs.declared.shapes.Shape.{Shape}
use Rattle.code_walk.specs.declared.walk.Slot.{Slot}
use Rattle.code_walk.specs.Walk as walk
use Rattle.code_walk.specs.Walk.{Space, Given, given, slot, bare, slot_at, seen_slot, gives_at, noted_in, noted, note, note_all, look, start}
use Rattle.code_walk.specs.Bodies.{falls_to, lands_in, space}
use Rattle.code_walk.specs.Nests.{Extends}
use Rattle.code_walk.specs.ShapeViews.{hand_of, shape_of, fits}
use Rattle.code_walk.specs.Slots.{slot_of, slot_fits, tested, Notes, Steps}

-- ---- lists

both : (b c : Bool) → b ≡ true → c ≡ true → (b && c) ≡ true
both b c h k = ap (λ z. z && c) h ∙ k

map_set : {A B : Type 0} (f : A → B) (xs : List A) (i : ℕ) (v : A) → map f (set xs i v) ≡ set (map f xs) i (f v)
map_set f [] i v = refl
map_set f (x ∷ xs) zero v = refl
map_set f (x ∷ xs) (suc i) v = ap (λ z. f x ∷ z) (map_set f xs i v)

pub get_map : {A B : Type 0} (f : A → B) (xs : List A) (i : ℕ) (d : A) (e : B) → i < length xs → get_or (map f xs) i e ≡ f (get_or xs i d)
get_map f [] i d e h = absurd (omega (arith, h))
get_map f (x ∷ xs) zero d e h = refl
get_map f (x ∷ xs) (suc i) d e h = get_map f xs i d e (omega (arith, h))

pub length_map : {A B : Type 0} (f : A → B) (xs : List A) → length (map f xs) ≡ length xs
length_map f [] = refl
length_map f (x ∷ xs) = ap suc (length_map f xs)

length_set : {A : Type 0} (xs : List A) (i : ℕ) (v : A) → length (set xs i v) ≡ length xs
length_set [] i v = refl
length_set (x ∷ xs) zero v = refl
length_set (x ∷ xs) (suc i) v = ap suc (length_set xs i v)

pub all_set : {A : Type 0} (p : A → Bool) (xs : List A) (i : ℕ) (v : A) → list_all p xs ≡ true → p v ≡ true → list_all p (set xs i v) ≡ true
all_set p [] i v h k = refl
all_set p (x ∷ xs) zero v h k = both (p v) (list_all p xs) k (and_right (p x) (list_all p xs) h)
all_set p (x ∷ xs) (suc i) v h k = both (p x) (list_all p (set xs i v)) (and_left (p x) (list_all p xs) h)
    (all_set p xs i v (and_right (p x) (list_all p xs) h) k)

pub all_get : {A : Type 0} (p : A → Bool) (xs : List A) (i : ℕ) (d : A) → list_all p xs ≡ true → i < length xs → p (get_or xs i d) ≡ true
all_get p [] i d h k = absurd (omega (arith, k))
all_get p (x ∷ xs) zero d h k = and_left (p x) (list_all p xs) h
all_get p (x ∷ xs) (suc i) d h k = all_get p xs i d (and_right (p x) (list_all p xs) h) (omega (arith, k))

-- ---- notes

note_append : (w : Space shapes.Shape) (gs hs : List (Given shapes.Shape)) (ss : List (walk.Slot shapes.Shape))
    → note_all w ss (gs ++ hs) ≡ note_all w (note_all w ss gs) hs
note_append w [] hs ss = refl
note_append w (g ∷ gs) hs ss = note_append w gs hs (note w ss g)

pub none_noted : (t : List (List Open)) (a : List Slot) → list_all (slot_fits t) a ≡ true → Notes t a a []
none_noted t a h = record { slots = refl; fit = h; count = refl }

pub both_noted : (t : List (List Open)) (a b c : List Slot) (gs hs : List (Given shapes.Shape)) → Notes t a b gs → Notes t b c hs → Notes t a c (gs ++ hs)
both_noted t a b c gs hs n m = record {
  slots = m.slots ∙ ap (λ z. note_all tested z hs) n.slots ∙ sym (note_append tested gs hs (map (slot_of t) a));
  fit =
      m.fit;
  count = m.count ∙ n.count;
}

-- a slot within
pub one_noted : (t : List (List Open)) (a : List Slot) (at : ℕ) (v d : Slot) (s : shapes.Shape) → at < length a → d ≡ get_or a at d
    → list_all (slot_fits t) a ≡ true → slot_fits t v ≡ true → slot_of t v ≡ noted tested (slot_of t d) s → Notes t a (set a at v) (given at s ∷ [])
one_noted t a at v d s h g f k e =
    let within : nat_lt at (length (map (slot_of t) a)) ≡ true = lt-ltb at (length (map (slot_of t) a)) (omega (arith, h, length_map (slot_of t) a)) in
    let here : slot_of t v ≡ noted tested (slot_at (map (slot_of t) a) at) s = e
    ∙ ap (λ z. noted tested z s) (sym (get_map (slot_of t) a at d bare h ∙ ap (slot_of t) (sym g))) in
    record {
      slots = map_set (slot_of t) a at v ∙ ap (set (map (slot_of t) a) at) here
          ∙ sym (ap (λ z. if z then set (map (slot_of t) a) at (noted tested (slot_at (map (slot_of t) a) at) s) else map (slot_of t) a) within);
      fit = all_set (slot_fits t) a at v f k;
      count = length_set a at v;
    }

-- past the slots
pub past_noted : (t : List (List Open)) (a : List Slot) (at : ℕ) (s : shapes.Shape) → length a ≤ at → list_all (slot_fits t) a ≡ true
    → Notes t a a (given at s ∷ [])
past_noted t a at s h f =
    let past : nat_lt at (length (map (slot_of t) a)) ≡ false = le-ltb at (length (map (slot_of t) a)) (omega (arith, h, length_map (slot_of t) a)) in
    record {
      slots = sym (ap (λ z. if z then set (map (slot_of t) a) at (noted tested (slot_at (map (slot_of t) a) at) s) else map (slot_of t) a) past);
      fit =
          f;
      count = refl;
    }

-- ---- the space of a body has the same test

module _ (x : Table) (g : Signature) (b : BodyView) where
  in_same : (o : Option shapes.Shape) (a : walk.Slot shapes.Shape) (t : shapes.Shape) → noted_in tested o a t ≡ noted_in (space x g b) o a t
  in_same None a t = refl
  in_same (Some s) a t = refl

  pub same_notes : (gs : List (Given shapes.Shape)) (ss : List (walk.Slot shapes.Shape)) → note_all tested ss gs ≡ note_all (space x g b) ss gs
  same_notes [] ss = refl
  same_notes (n ∷ gs) ss =
      ap (λ z. note_all tested z gs) (ap (λ z. if nat_lt n.at (length ss) then set ss n.at z else ss)
      (in_same (slot_at ss n.at).shape (slot_at ss n.at) n.shape))
      ∙ same_notes gs (note (space x g b) ss n)

-- ---- a table that grows

shape_still : (old new : List (List Open)) → Extends old new → (s : Shape) → fits old s ≡ true → shape_of new s ≡ shape_of old s
shape_still old new e s h = ap (λ o. shapes.shape s.depth o s.handlers (hand_of s.hand)) (e.same s.nest (ltb-true s.nest (length old) h))

some_still : (old new : List (List Open)) → Extends old new → (o : Option Shape) → option_map_or (fits old) o true ≡ true
    → option_map (shape_of new) o ≡ option_map (shape_of old) o
some_still old new e None h = refl
some_still old new e (Some s) h = ap Some (shape_still old new e s h)

pub slots_still : (old new : List (List Open)) → Extends old new → (ss : List Slot) → list_all (slot_fits old) ss ≡ true
    → map (slot_of new) ss ≡ map (slot_of old) ss
slots_still old new e [] h = refl
slots_still old new e (s ∷ ss) h =
    ap (λ z. slot z s.looked s.clash ∷ map (slot_of new) ss) (some_still old new e s.shape (and_left (slot_fits old s) (list_all (slot_fits old) ss) h))
    ∙ ap (λ z. slot_of old s ∷ z) (slots_still old new e ss (and_right (slot_fits old s) (list_all (slot_fits old) ss) h))

some_fit : (old new : List (List Open)) → Extends old new → (o : Option Shape) → option_map_or (fits old) o true ≡ true → option_map_or (fits new) o true ≡ true
some_fit old new e None h = refl
some_fit old new e (Some s) h = let l : s.nest < length old = ltb-true s.nest (length old) h in let m : length old ≤ length new = e.more in
    lt-ltb s.nest (length new) (omega (arith, l, m))

pub slots_fit : (old new : List (List Open)) → Extends old new → (ss : List Slot) → list_all (slot_fits old) ss ≡ true → list_all (slot_fits new) ss ≡ true
slots_fit old new e [] h = refl
slots_fit old new e (s ∷ ss) h = both (slot_fits new s) (list_all (slot_fits new) ss)
    (some_fit old new e s.shape (and_left (slot_fits old s) (list_all (slot_fits old) ss) h))
    (slots_fit old new e ss (and_right (slot_fits old s) (list_all (slot_fits old) ss) h))

pub shape_kept : (old new : List (List Open)) → Extends old new → (s : Shape) → fits old s ≡ true → (shape_of new s ≡ shape_of old s) × (fits new s ≡ true)
shape_kept old new e s h = (shape_still old new e s h, some_fit old new e (Some s) h)

-- ---- what an index gives

drop_last : (rows : List Row) (n : ℕ) (d : Row) (i : ℕ) (s : shapes.Shape) → n < length rows
    → lands_in (take (n + 1) rows) i s ≡ lands_in (take n rows) i s ++ lands_in (get_or rows n d ∷ []) i s
drop_last rows n d i s h = ap (λ z. lands_in z i s) (take_more rows n d h) ∙ lands_append (take n rows) (get_or rows n d ∷ []) i s where
  lands_if : (c : Bool) (g : Given shapes.Shape) (xs ys zs : List (Given shapes.Shape)) → zs ≡ xs ++ ys
      → (if c then g ∷ zs else zs) ≡ (if c then g ∷ xs else xs) ++ ys
  lands_if true g xs ys zs e = ap (λ z. g ∷ z) e
  lands_if false g xs ys zs e = e

  lands_append : (rs qs : List Row) (j : ℕ) (t : shapes.Shape) → lands_in (rs ++ qs) j t ≡ lands_in rs j t ++ lands_in qs j t
  lands_append [] qs j t = refl
  lands_append (r ∷ rs) qs j t = lands_if (covers r j) (given r.target (landed r.what r.depth t.opens t.handlers)) (lands_in rs j t) (lands_in qs j t)
      (lands_in (rs ++ qs) j t) (lands_append rs qs j t)

pub row_noted : (t : List (List Open)) (a b c : List Slot) (rows : List Row) (n : ℕ) (d : Row) (i : ℕ) (s : shapes.Shape) → n < length rows
    → Notes t a b (lands_in (take n rows) i s) → Notes t b c (lands_in (get_or rows n d ∷ []) i s) → Notes t a c (lands_in (take (n + 1) rows) i s)
row_noted t a b c rows n d i s h p q = subst (Notes t a c) (sym (drop_last rows n d i s h))
    (both_noted t a b c (lands_in (take n rows) i s) (lands_in (get_or rows n d ∷ []) i s) p q)

pub still_steps : (old new : List (List Open)) (ss : List Slot) → Extends old new → list_all (slot_fits old) ss ≡ true → (gs : List (Given shapes.Shape))
    → [] ≡ gs → Steps old new ss ss (note_all tested (map (slot_of old) ss) gs)
still_steps old new ss e h gs n = record {
  more = e;
  slots = slots_still old new e ss h ∙ ap (note_all tested (map (slot_of old) ss)) n;
  fit =
      slots_fit old new e ss h;
  count = refl;
}

pub gave : (old new : List (List Open)) (a b c : List Slot) (s : Shape) (js : List ℕ) (rows : List Row) (i : ℕ) (next : Shape) → Extends old new
    → list_all (slot_fits old) a ≡ true → fits old s ≡ true → Notes new a b (falls_to js (shape_of new next)) → Notes new b c (lands_in rows i (shape_of new s))
    → (gs : List (Given shapes.Shape)) → falls_to js (shape_of new next) ++ lands_in rows i (shape_of old s) ≡ gs
    → Steps old new a c (note_all tested (map (slot_of old) a) gs)
gave old new a b c s js rows i next e h f p q gs g =
    let n = both_noted new a b c (falls_to js (shape_of new next)) (lands_in rows i (shape_of new s)) p q in
    let w : falls_to js (shape_of new next) ++ lands_in rows i (shape_of new s) ≡ gs =
    ap (λ z. falls_to js (shape_of new next) ++ lands_in rows i z) (shape_kept old new e s f).0 ∙ g in
    record {
      more = e;
      slots = n.slots ∙ ap (λ z. note_all tested z (falls_to js (shape_of new next) ++ lands_in rows i (shape_of new s)))
          (slots_still old new e a h) ∙ ap (note_all tested (map (slot_of old) a)) w;
      fit = n.fit;
      count = n.count;
    }

-- ---- an index that is looked at

module _ (x : Table) (g : Signature) (b : BodyView) (old : List (List Open)) (a : List Slot) (i : ℕ) (d : Slot) (h : i < length a) (e : d ≡ get_or a i d) where
  abbrev M : List (walk.Slot shapes.Shape)
  M = map (slot_of old) a

  at_index : slot_at M i ≡ slot_of old d
  at_index = get_map (slot_of old) a i d bare h ∙ ap (slot_of old) (sym e)

  pub mark_is : map (slot_of old) (set a i (record { shape = d.shape; looked = true; clash = d.clash })) ≡ set M i (seen_slot (slot_at M i))
  mark_is = map_set (slot_of old) a i _ ∙ ap (λ z. set M i (seen_slot z)) (sym at_index)

  pub mark_fit : list_all (slot_fits old) a ≡ true → list_all (slot_fits old) (set a i (record { shape = d.shape; looked = true; clash = d.clash })) ≡ true
  mark_fit f = all_set (slot_fits old) a i _ f (ap (slot_fits old) e ∙ all_get (slot_fits old) a i d f h)

  pub looked_none : list_all (slot_fits old) a ≡ true → None ≡ d.shape
      → Steps old old a (set a i (record { shape = d.shape; looked = true; clash = d.clash })) (look (space x g b) i M)
  looked_none f n = record {
    more = record { more = omega arith; same = λ k l. refl };
    slots = mark_is ∙ ap (λ z. note_all (space x g b) (set M i (seen_slot (slot_at M i))) (gives_at (space x g b) i z))
        (ap (option_map (shape_of old)) n ∙ sym (ap (λ z. z.shape) at_index));
    fit = mark_fit f;
    count = length_set a i _;
  }

  pub looked_some : (new : List (List Open)) (c : List Slot) (s : Shape) → Some s ≡ d.shape
      → Steps old new (set a i (record { shape = d.shape; looked = true; clash = d.clash })) c
      (note_all tested (map (slot_of old) (set a i (record { shape = d.shape; looked = true; clash = d.clash }))) ((space x g b).gives i (shape_of old s)))
      → Steps old new a c (look (space x g b) i M)
  looked_some new c s n st = record {
    more = st.more;
    slots = st.slots ∙ same_notes x g b ((space x g b).gives i (shape_of old s))
        (map (slot_of old) (set a i (record { shape = d.shape; looked = true; clash = d.clash })))
        ∙ ap (λ z. note_all (space x g b) z ((space x g b).gives i (shape_of old s))) mark_is
        ∙ ap (λ z. note_all (space x g b) (set M i (seen_slot (slot_at M i))) (gives_at (space x g b) i z))
        (ap (option_map (shape_of old)) n ∙ sym (ap (λ z. z.shape) at_index));
    fit = st.fit;
    count = st.count ∙ length_set a i _;
  }

-- ---- the start

pub bares_are : (table : List (List Open)) (n : ℕ) → map (slot_of table) (replicate n (record { shape = None; looked = false; clash = false }))
    ≡ replicate n bare
bares_are table zero = refl
bares_are table (suc n) = ap (λ z. bare ∷ z) (bares_are table n)

bares_fit : (table : List (List Open)) (n : ℕ) → list_all (slot_fits table) (replicate n (record { shape = None; looked = false; clash = false })) ≡ true
bares_fit table zero = refl
bares_fit table (suc n) = bares_fit table n

length_bares : (n : ℕ) (s : Slot) → length (replicate n s) ≡ n
length_bares zero s = refl
length_bares (suc n) s = ap suc (length_bares n s)

pub slots_bare : (table : List (List Open)) (n : ℕ) (a : List Slot) → a ≡ replicate n (record { shape = None; looked = false; clash = false })
    → list_all (slot_fits table) a ≡ true
slots_bare table n a e = ap (list_all (slot_fits table)) e ∙ bares_fit table n

-- the first index is given the entry's shape
module _ (x : Table) (g : Signature) (b : BodyView) (t : List (List Open)) (a c : List Slot)
    (e : a ≡ replicate (length b.code) (record { shape = None; looked = false; clash = false })) (n : Notes t a c (given 0 (entry g) ∷ [])) where
  first_noted : (k : ℕ) → 0 < k → note tested (replicate k bare) (given 0 (entry g)) ≡ set (replicate k bare) 0 (slot (Some (entry g)) false false)
  first_noted zero h = absurd (omega (arith, h))
  first_noted (suc k) h = ap (λ z. if z then set (replicate (suc k) bare) 0 (slot (Some (entry g)) false false) else replicate (suc k) bare)
      (lt-ltb 0 (length (replicate (suc k) (bare {S = shapes.Shape}))) (omega arith))

  pub start_slots : 0 < length b.code → map (slot_of t) c ≡ start (space x g b)
  start_slots h = n.slots ∙ ap (λ z. note tested (map (slot_of t) z) (given 0 (entry g))) e
      ∙ ap (λ z. note tested z (given 0 (entry g))) (bares_are t (length b.code)) ∙ first_noted (length b.code) h

  pub start_count : length c ≡ length b.code
  start_count = n.count ∙ ap length e ∙ length_bares (length b.code) _
