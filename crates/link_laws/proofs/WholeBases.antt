-- No chain of bases of a linked image is a circle: it is the chain of one object.
use Rattle.std.proofs.Common.{Bool, true, false, ◌≡◌, ◌<◌, ◌≤◌, ℕ, suc, zero, ◌+◌, List, [], ◌∷◌, ◌++◌, map, length, refl, sym, ap, ◌∙◌, arith, Option, Some}
use Rattle.std.proofs.Common.{None, ◌&&◌, ◌||◌, not, nat_eq, nat_lt, cond, slice_get, ◌⊎◌, inl, inr, ⊎_elim, subst, get_or, unwrap_or}
use Rattle.std.specs.List.{list_all, list_any, position_from}
use Rattle.std.specs.Option.{option_map, option_map_or}
use Rattle.std.specs.Str.{bytes_eq}
use borrow.Author.Tests.{eqb-true, ltb-true}
use Rattle.tx_code.specs.Objects.{ObjectView, ClassView}
use Rattle.tx_code.specs.WellFormed.{ascends, ascends_from, bytes_lt, class_fits, class_named, chain_ends, bases_fit, IsObject}
use Rattle.tx_code.specs.Images.{base_ends, base_in, bases_end}
use Rattle.tx_code.specs.Linked.{ClassDef, class_def, class_defs, class_name, has_class_name, classes_after, kept_classes, class_number, or_none, image_class}
use Rattle.tx_code.specs.Linked.{name_in}
use Rattle.link_faults.specs.Answers.{NoneOf}
use Rattle.link_faults.specs.Faults.{ClassRecord, class_record, classes_of, class_records, any_two, classes_differ, same_class, same_or_none, text_in}
use Rattle.link_faults.specs.Faults.{is_different}
use Rattle.std.proofs.lemmas.List.{length-map}
use Rattle.tx_code.specs.Images.{ImageView}
use Rattle.tx_code.specs.Linked.{ImageOf}
use Rattle.link_faults.proofs.Ascending.{and_left, and_right, same_bytes, equals_itself, below_trans, below_not_same, head_below, tail_ascends}
use Rattle.link_faults.proofs.ListedEntries.{and_both}
use Rattle.link_faults.proofs.FirstClaims.{any_of_append, inside}
use Rattle.link_laws.proofs.WholeImages.{AllObjects, none, some, position_found, get_map}
use Rattle.link_laws.proofs.MainThere.{or_both}

-- ---- bases by name

-- the number of a class of this name
abbrev pub number_named : List ObjectView → Option (List ℕ) → Option ℕ
number_named os None = None
number_named os (Some name) = position_from (has_class_name name) 0 (kept_classes os)

number_by_name : (os : List ObjectView) (o : ObjectView) (base : ℕ) → or_none (class_number os o) base ≡ number_named os (text_in o base)
number_by_name os o zero = refl
number_by_name os o (suc n) = refl

same_option : (a b : Option (List ℕ)) → same_or_none a b ≡ true → a ≡ b
same_option None None h = refl
same_option None (Some b) h = cc
same_option (Some a) None h = cc
same_option (Some a) (Some b) h = ap (λ n. Some n) (same_bytes a b h)

not_not : (b : Bool) → not b ≡ false → b ≡ true
not_not true h = refl
not_not false h = cc

same_bases : (a b : ClassRecord) → same_class a b ≡ true → a.base ≡ b.base
same_bases a b h = same_option a.base b.base (and_right (nat_eq a.size b.size && nat_eq a.align b.align) _
    (and_left _ _ (and_left _ _ (and_left _ _ (and_left _ _ h)))))

-- two records of one name that do not differ have one base
agree : (name : List ℕ) (a b : ClassRecord) → bytes_eq a.name name ≡ true → bytes_eq b.name name ≡ true → classes_differ name a b ≡ false → a.base ≡ b.base
agree name a b p q h = same_bases a b (not_not (same_class a b) (by (bytes_eq a.name name) (bytes_eq b.name name) (not (same_class a b)) p q h))
  where
    by : (x y z : Bool) → x ≡ true → y ≡ true → (x && y && z) ≡ false → z ≡ false
    by true true z e f g = g
    by true false z e f g = cc
    by false y z e f g = cc

-- ---- records at places

pub data Among {A : Type 0} (x : A) : List A → Type 0 where
  first : {xs : List A} → Among x (x ∷ xs)
  later : {y : A} {xs : List A} → Among x xs → Among x (y ∷ xs)

among_none : {A : Type 0} (t : A → Bool) {x : A} {xs : List A} → Among x xs → list_any t xs ≡ false → t x ≡ false
among_none t first h = (or_both _ _ h).0
among_none t (later a) h = among_none t a (or_both _ _ h).1

-- of two among a list of which no two differ one stands first
one_base : (name : List ℕ) {a b : ClassRecord} {rs : List ClassRecord} → Among a rs → Among b rs → any_two (classes_differ name) rs ≡ false
    → bytes_eq a.name name ≡ true → bytes_eq b.name name ≡ true → a.base ≡ b.base
one_base name first first h p q = refl
one_base name {a} {b} first (later j) h p q = agree name a b p q (among_none (classes_differ name a) j (or_both _ _ h).0)
one_base name {a} {b} (later i) first h p q = sym (agree name b a q p (among_none (classes_differ name b) i (or_both _ _ h).0))
one_base name (later i) (later j) h p q = one_base name i j (or_both _ _ h).1 p q

among_append_left : {A : Type 0} {x : A} {xs : List A} (ys : List A) → Among x xs → Among x (xs ++ ys)
among_append_left ys first = first
among_append_left ys (later a) = later (among_append_left ys a)

among_append_right : {A : Type 0} {x : A} (xs : List A) {ys : List A} → Among x ys → Among x (xs ++ ys)
among_append_right [] a = a
among_append_right (y ∷ xs) a = later (among_append_right xs a)

among_map : {A B : Type 0} (f : A → B) {x : A} {xs : List A} → Among x xs → Among (f x) (map f xs)
among_map f first = first
among_map f (later a) = later (among_map f a)

-- an object among all
pub class_among : {o : ObjectView} {os : List ObjectView} (c : ClassView) → Among o os → Among c o.classes → Among (class_record o c) (class_records os)
class_among {o = o} c first i = among_append_left _ (among_map (class_record o) i)
class_among c (later {y = p} a) i = among_append_right (classes_of p) (class_among c a i)

-- a kept class is one of an object
pub record Comes (os : List ObjectView) (d : ClassDef) : Type 0 where
  pub object : Among d.object os
  pub class : Among d.class d.object.classes

pub data AllCome (os : List ObjectView) : List ClassDef → Type 0 where
  empty : AllCome os []
  joined : {d : ClassDef} {ds : List ClassDef} → Comes os d → AllCome os ds → AllCome os (d ∷ ds)

come_append : (os : List ObjectView) (ds es : List ClassDef) → AllCome os ds → AllCome os es → AllCome os (ds ++ es)
come_append os [] es h g = g
come_append os (d ∷ ds) es (joined c h) g = joined c (come_append os ds es h g)

here_come : (os : List ObjectView) (at : ℕ) (o : ObjectView) → Among o os → (cs : List ClassView) → ((c : ClassView) → Among c cs → Among c o.classes)
    → AllCome os (map (class_def at o) cs)
here_come os at o a [] f = empty
here_come os at o a (c ∷ cs) f = joined (record { object = a; class = f c first }) (here_come os at o a cs (λ k i. f k (later i)))

defs_come : (os : List ObjectView) (at : ℕ) (rest : List ObjectView) → ((o : ObjectView) → Among o rest → Among o os) → AllCome os (class_defs at rest)
defs_come os at [] f = empty
defs_come os at (o ∷ rest) f = come_append os (map (class_def at o) o.classes) (class_defs (at + 1) rest) (here_come os at o (f o first) o.classes (λ c i. i))
    (defs_come os (at + 1) rest (λ p i. f p (later i)))

kept_come : (os : List ObjectView) (kept ds : List ClassDef) → AllCome os kept → AllCome os ds → AllCome os (classes_after kept ds)
kept_come os kept [] h g = h
kept_come os kept (d ∷ ds) h (joined c g) = by (list_any (has_class_name (class_name d)) kept) (λ ks k. kept_come os ks ds k g)
  where
    by : (b : Bool) → ((ks : List ClassDef) → AllCome os ks → AllCome os (classes_after ks ds)) → AllCome os (classes_after (cond b kept (kept ++ d ∷ [])) ds)
    by true f = f kept h
    by false f = f (kept ++ d ∷ []) (come_append os kept (d ∷ []) h (joined c empty))

pub all_come : (os : List ObjectView) → AllCome os (kept_classes os)
all_come os = kept_come os [] (class_defs 0 os) empty (defs_come os 0 os (λ o i. i))

pub come_at : (os : List ObjectView) (ds : List ClassDef) (k : ℕ) (d : ClassDef) → AllCome os ds → slice_get ds k ≡ Some d → Comes os d
come_at os [] k d h e = cc
come_at os (x ∷ ds) zero d (joined c h) e = let s : x ≡ d = inside x d e in rw (← s) c
come_at os (x ∷ ds) (suc k) d (joined c h) e = come_at os ds k d h e

-- ---- a chain of an object is one of the image

abbrev pub bases_of : List ObjectView → List (Option ℕ)
bases_of os = map base_in (map (image_class os) (kept_classes os))

named_among : (cs : List ClassView) (name : ℕ) (c : ClassView) → class_named cs name ≡ Some c → Among c cs × (c.name ≡ name)
named_among [] name c e = cc
named_among (x ∷ cs) name c e = by (nat_eq x.name name) refl e (named_among cs name c)
  where
    by : (b : Bool) → nat_eq x.name name ≡ b → cond b (Some x) (class_named cs name) ≡ Some c → (class_named cs name ≡ Some c → Among c cs × (c.name ≡ name))
        → Among c (x ∷ cs) × (c.name ≡ name)
    by true f g i = let s : x ≡ c = inside x c g in (rw s first, rw (← s) (eqb-true x.name name f))
    by false f g i = let r = i g in (later r.0, r.1)

chain : (os : List ObjectView) (o : ObjectView) → NoneOf (is_different os) → Among o os → (most base : ℕ) → chain_ends o.classes most base ≡ true
    → base_ends (bases_of os) most (number_named os (text_in o base)) ≡ true
chain os o n a most zero h = by most
  where
    by : (m : ℕ) → base_ends (bases_of os) m None ≡ true
    by zero = refl
    by (suc m) = refl
chain os o n a zero (suc name) h = cc
chain os o n a (suc most) (suc name) h = at (class_named o.classes name) refl h (λ base. chain os o n a most base)
  where
    none_ends : (m : ℕ) → base_ends (bases_of os) m None ≡ true
    none_ends zero = refl
    none_ends (suc m) = refl

    at : (r : Option ClassView) → class_named o.classes name ≡ r → option_map_or (λ c. chain_ends o.classes most c.base) r false ≡ true
        → ((base : ℕ) → chain_ends o.classes most base ≡ true → base_ends (bases_of os) most (number_named os (text_in o base)) ≡ true)
        → base_ends (bases_of os) (suc most) (position_from (has_class_name (name_in o name)) 0 (kept_classes os)) ≡ true
    at None e g goes = cc
    at (Some c) e g goes = with-number (position_from (has_class_name (name_in o name)) 0 (kept_classes os)) refl
      where
        with-number : (k : Option ℕ) → position_from (has_class_name (name_in o name)) 0 (kept_classes os) ≡ k → base_ends (bases_of os) (suc most) k ≡ true
        with-number None f = none_ends (suc most)
        with-number (Some k) f =
            let r = position_found (has_class_name (name_in o name)) 0 (kept_classes os) k f in
            let d = r.1.0 in
            let i : k ≡ r.0 = let s = r.1.1.index in omega (arith, s) in
            let comes = come_at os (kept_classes os) r.0 d (all_come os) r.1.1.is in
            let mine = named_among o.classes name c e in
            let other : bytes_eq (class_record d.object d.class).name (name_in o name) ≡ true = r.1.1.passes in
            let own : bytes_eq (class_record o c).name (name_in o name) ≡ true = ap (λ m. bytes_eq (name_in o m) (name_in o name)) mine.1
            ∙ equals_itself (name_in o name) in
            let none-differ = (or_both (any_two (classes_differ (name_in o name)) (class_records os)) _
            ((or_both _ _ ((or_both _ _ (n.none (name_in o name))).0)).0)).0 in
            let same : text_in d.object d.class.base ≡ text_in o c.base =
            one_base (name_in o name) (class_among d.class comes.object comes.class) (class_among c a mine.0) none-differ other own in
            let there : slice_get (bases_of os) k ≡ Some (number_named os (text_in o c.base)) =
            get_map base_in (map (image_class os) (kept_classes os)) k
            ∙ ap (option_map base_in) (get_map (image_class os) (kept_classes os) k ∙ ap (λ j. option_map (image_class os) (slice_get (kept_classes os) j)) i
            ∙ ap (option_map (image_class os)) r.1.1.is)
            ∙ ap (λ b. Some b) (number_by_name os d.object d.class.base ∙ ap (number_named os) same) in
            rw there (goes c.base g)

-- ---- an object has no more classes than the image

more_steps : (bases : List (Option ℕ)) (m n : ℕ) (b : Option ℕ) → m ≤ n → base_ends bases m b ≡ true → base_ends bases n b ≡ true
more_steps bases m zero None l h = refl
more_steps bases m (suc n) None l h = refl
more_steps bases zero n (Some c) l h = cc
more_steps bases (suc m) zero (Some c) l h = absurd (omega arith)
more_steps bases (suc m) (suc n) (Some c) l h = by (slice_get bases c) h (λ b g. more_steps bases m n b (omega arith) g)
  where
    by : (r : Option (Option ℕ)) → option_map_or (base_ends bases m) r false ≡ true → ((b : Option ℕ) → base_ends bases m b ≡ true → base_ends bases n b ≡ true)
        → option_map_or (base_ends bases n) r false ≡ true
    by None g f = cc
    by (Some b) g f = f b g

data Distinct {A : Type 0} : List A → Type 0 where
  nothing : Distinct []
  more : {x : A} {xs : List A} → (Among x xs → ⊥) → Distinct xs → Distinct (x ∷ xs)

record Without {A : Type 0} (x : A) (ys zs : List A) : Type 0 where
  shorter : length ys ≡ length zs + 1
  others : (y : A) → Among y ys → (y ≡ x) ⊎ Among y zs

either_first : {A : Type 0} {y x : A} {zs : List A} → Among y (x ∷ zs) → (y ≡ x) ⊎ Among y zs
either_first first = inl refl
either_first (later a) = inr a

either_later : {A : Type 0} {y x p : A} {ys zs : List A} → ((y : A) → Among y ys → (y ≡ x) ⊎ Among y zs) → Among y (p ∷ ys) → (y ≡ x) ⊎ Among y (p ∷ zs)
either_later f first = inr first
either_later {y = y} f (later a) = ⊎_elim (λ e. inl e) (λ i. inr (later i)) (f y a)

take_out : {A : Type 0} {x : A} {ys : List A} → Among x ys → (zs : List A) × Without x ys zs
take_out (first {xs = xs}) = (xs, record { shorter = omega arith; others = λ y a. either_first a })
take_out (later {y = p} a) = let r = take_out a in (
  p ∷ r.0,
  record { shorter = (let s = r.1.shorter in omega (arith, s)); others = λ y i. either_later r.1.others i },
)

pigeons : {A : Type 0} (xs ys : List A) → Distinct xs → ((x : A) → Among x xs → Among x ys) → length xs ≤ length ys
pigeons [] ys d h = omega arith
pigeons {A} (x ∷ xs) ys (more n d) h =
    let r = take_out (h x first) in
    let s = r.1.shorter in
    let rest : length xs ≤ length r.0 = pigeons xs r.0 d
    (λ y a. ⊎_elim (λ e. absurd (n (subst (λ z. Among z xs) e a))) (λ i. i) (r.1.others y (h y (later a)))) in
    omega (arith, s, rest)

class_named_within : (n : ℕ) (c : ClassView) → class_fits n c ≡ true → nat_lt c.name n ≡ true
class_named_within n c h = and_left _ _ (and_left _ _ (and_left _ _ (and_left _ _ (and_left _ _ (and_left _ _ h)))))

-- the names of an object's classes are distinct
abbrev pub class_label : ObjectView → ClassView → List ℕ
class_label o c = name_in o c.name

get_is : (ys : List (List ℕ)) (j : ℕ) → j < length ys → get_or ys j [] ≡ unwrap_or (slice_get ys j) []
get_is [] j m = absurd (omega arith)
get_is (y ∷ ys) zero m = refl
get_is (y ∷ ys) (suc j) m = get_is ys j (omega arith)

label_below : (ns : List (List ℕ)) (i j : ℕ) → ascends bytes_lt ns ≡ true → i < j → j < length ns
    → bytes_lt (unwrap_or (slice_get ns i) []) (unwrap_or (slice_get ns j) []) ≡ true
label_below [] i j h l w = absurd (omega arith)
label_below (x ∷ xs) i zero h l w = absurd (omega arith)
label_below (x ∷ xs) zero (suc j) h l w = let m : j < length xs = omega arith in rw (← get_is xs j m) (head_below x xs j h m)
label_below (x ∷ xs) (suc i) (suc j) h l w = label_below xs i j (tail_ascends x xs h) (omega arith) (omega arith)

-- a name of a later class is above
later_above : (o : ObjectView) → ascends bytes_lt o.names ≡ true → (c : ClassView) (cs : List ClassView)
    → ascends_from (λ (a b : ClassView). nat_lt a.name b.name) c cs ≡ true → list_all (class_fits (length o.names)) cs ≡ true
    → {x : List ℕ} → Among x (map (class_label o) cs) → bytes_lt (class_label o c) x ≡ true
later_above o h c [] s f a = none_among a
  where
    none_among : {x : List ℕ} → Among x [] → bytes_lt (class_label o c) x ≡ true
    none_among a = absurd (no_among a)
      where
        no_among : {x : List ℕ} → Among x [] → ⊥
        no_among a = elim a [ ]
later_above o h c (d ∷ ds) s f a =
    let less : c.name < d.name = ltb-true c.name d.name (and_left _ _ s) in
    let within : d.name < length o.names = ltb-true _ _ (class_named_within (length o.names) d (and_left _ _ f)) in
    by (label_below o.names c.name d.name h less within)
    (λ x i. later_above o h d ds (and_right (nat_lt c.name d.name) _ s) (and_right (class_fits (length o.names) d) _ f) {x = x} i) a
  where
    by : bytes_lt (class_label o c) (class_label o d) ≡ true → ((x : List ℕ) → Among x (map (class_label o) ds) → bytes_lt (class_label o d) x ≡ true)
        → {x : List ℕ} → Among x (class_label o d ∷ map (class_label o) ds) → bytes_lt (class_label o c) x ≡ true
    by e r first = e
    by e r {x} (later i) = below_trans (class_label o c) (class_label o d) x e (r x i)

distinct_labels : (o : ObjectView) → ascends bytes_lt o.names ≡ true → (cs : List ClassView) → ascends (λ (a b : ClassView). nat_lt a.name b.name) cs ≡ true
    → list_all (class_fits (length o.names)) cs ≡ true → Distinct (map (class_label o) cs)
distinct_labels o h [] s f = nothing
distinct_labels o h (c ∷ cs) s f =
    more (λ a. below_not_same (class_label o c) (class_label o c) (later_above o h c cs s (and_right (class_fits (length o.names) c) _ f) a) refl)
    (distinct_labels o h cs (from_tail c cs s) (and_right (class_fits (length o.names) c) _ f))
  where
    from_tail : (c : ClassView) (cs : List ClassView) → ascends_from (λ (a b : ClassView). nat_lt a.name b.name) c cs ≡ true
        → ascends (λ (a b : ClassView). nat_lt a.name b.name) cs ≡ true
    from_tail c [] g = refl
    from_tail c (d ∷ ds) g = and_right (nat_lt c.name d.name) _ g

-- ---- each class has one of its name among those that are kept

or_start : (a b : Bool) → a ≡ true → (a || b) ≡ true
or_start true b h = refl
or_start false b h = cc

pub kept_has : (name : List ℕ) (kept ds : List ClassDef) → (list_any (has_class_name name) kept || list_any (has_class_name name) ds) ≡ true
    → list_any (has_class_name name) (classes_after kept ds) ≡ true
kept_has name kept [] h = no_more (list_any (has_class_name name) kept) h
  where
    no_more : (b : Bool) → (b || false) ≡ true → b ≡ true
    no_more true g = refl
    no_more false g = cc
kept_has name kept (d ∷ ds) h = by (list_any (has_class_name (class_name d)) kept) refl (bytes_eq (class_name d) name) refl (λ ks k. kept_has name ks ds k)
  where
    moved : (a b c : Bool) → (a || (b || c)) ≡ true → ((a || (b || false)) || c) ≡ true
    moved true b c g = refl
    moved false true c g = refl
    moved false false c g = g

    dropped : (a c : Bool) → (a || (false || c)) ≡ true → (a || c) ≡ true
    dropped true c g = refl
    dropped false c g = g

    by : (r : Bool) → list_any (has_class_name (class_name d)) kept ≡ r → (e : Bool) → bytes_eq (class_name d) name ≡ e
        → ((ks : List ClassDef) → (list_any (has_class_name name) ks || list_any (has_class_name name) ds) ≡ true
        → list_any (has_class_name name) (classes_after ks ds) ≡ true)
        → list_any (has_class_name name) (classes_after (cond r kept (kept ++ d ∷ [])) ds) ≡ true
    by true f true g i = let s : class_name d ≡ name = same_bytes (class_name d) name g in
        i kept (or_start _ _ (ap (λ m. list_any (has_class_name m) kept) (sym s) ∙ f))
    by true f false g i = i kept (dropped (list_any (has_class_name name) kept) (list_any (has_class_name name) ds)
        (ap (λ b. list_any (has_class_name name) kept || (b || list_any (has_class_name name) ds)) (sym g) ∙ h))
    by false f e g i = i (kept ++ d ∷ []) (ap (λ b. b || list_any (has_class_name name) ds) (any_of_append (has_class_name name) kept (d ∷ [])) ∙ moved
        (list_any (has_class_name name) kept) (bytes_eq (class_name d) name) (list_any (has_class_name name) ds) h)

any_among : {A : Type 0} (t : A → Bool) {x : A} {xs : List A} → Among x xs → t x ≡ true → list_any t xs ≡ true
any_among t first e = or_start _ _ e
any_among t (later {y = y} a) e = ap (λ b. t y || b) (any_among t a e) ∙ or_end (t y)
  where
    or_end : (b : Bool) → (b || true) ≡ true
    or_end true = refl
    or_end false = refl

pub defs_have : {o : ObjectView} (at : ℕ) {os : List ObjectView} (c : ClassView) → Among o os → Among c o.classes
    → list_any (has_class_name (name_in o c.name)) (class_defs at os) ≡ true
defs_have {o = o} at c (first {xs = os}) i =
    any_of_append (has_class_name (name_in o c.name)) (map (class_def at o) o.classes) (class_defs (at + 1) os)
    ∙ or_start _ _ (any_among (has_class_name (name_in o c.name)) (among_map (class_def at o) i) (equals_itself (name_in o c.name)))
defs_have {o = o} at c (later {y = p} {xs = os} a) i =
    any_of_append (has_class_name (name_in o c.name)) (map (class_def at p) p.classes) (class_defs (at + 1) os)
    ∙ ap (λ b. list_any (has_class_name (name_in o c.name)) (map (class_def at p) p.classes) || b) (defs_have (at + 1) c a i)
    ∙ or_end (list_any (has_class_name (name_in o c.name)) (map (class_def at p) p.classes))
  where
    or_end : (b : Bool) → (b || true) ≡ true
    or_end true = refl
    or_end false = refl

named_kept : (name : List ℕ) (ds : List ClassDef) → list_any (has_class_name name) ds ≡ true → Among name (map class_name ds)
named_kept name [] h = cc
named_kept name (d ∷ ds) h = by (bytes_eq (class_name d) name) refl h (named_kept name ds)
  where
    by : (b : Bool) → bytes_eq (class_name d) name ≡ b → (b || list_any (has_class_name name) ds) ≡ true
        → (list_any (has_class_name name) ds ≡ true → Among name (map class_name ds)) → Among name (class_name d ∷ map class_name ds)
    by true e g r = subst (λ m. Among m (class_name d ∷ map class_name ds)) (same_bytes (class_name d) name e) first
    by false e g r = later (r g)

of_label : (o : ObjectView) (cs : List ClassView) (P : List ℕ → Type 0) → ((c : ClassView) → Among c cs → P (class_label o c)) → {x : List ℕ}
    → Among x (map (class_label o) cs) → P x
of_label o [] P f a = absurd (no_among a)
  where
    no_among : {x : List ℕ} → Among x [] → ⊥
    no_among a = elim a [ ]
of_label o (c ∷ cs) P f a = by (λ x i. of_label o cs P (λ d j. f d (later j)) {x = x} i) a
  where
    by : ((x : List ℕ) → Among x (map (class_label o) cs) → P x) → {x : List ℕ} → Among x (class_label o c ∷ map (class_label o) cs) → P x
    by r first = f c first
    by r {x} (later i) = r x i

few_classes : (os : List ObjectView) (o : ObjectView) → IsObject o → Among o os → length o.classes ≤ length (kept_classes os)
few_classes os o i a =
    let l = pigeons (map (class_label o) o.classes) (map class_name (kept_classes os)) (distinct_labels o i.names_ascend o.classes i.classes_ascend i.classes)
    (λ x m. of_label o o.classes (λ y. Among y (map class_name (kept_classes os)))
    (λ c j. named_kept (name_in o c.name) (kept_classes os) (kept_has (name_in o c.name) [] (class_defs 0 os) (defs_have 0 c a j))) m) in
    omega (arith, l, length-map o.classes (class_label o), length-map (kept_classes os) class_name)

-- ---- of an image

object_is : {os : List ObjectView} {o : ObjectView} → AllObjects os → Among o os → IsObject o
object_is none a = absurd (no_among a)
  where
    no_among : {x : ObjectView} → Among x [] → ⊥
    no_among a = elim a [ ]
object_is (some i h) first = i
object_is (some i h) (later a) = object_is h a

all_at : {A : Type 0} (t : A → Bool) {x : A} {xs : List A} → Among x xs → list_all t xs ≡ true → t x ≡ true
all_at t first h = and_left _ _ h
all_at t (later {y = y} a) h = all_at t a (and_right (t y) _ h)

all_bases : (os : List ObjectView) → AllObjects os → NoneOf (is_different os) → (ds : List ClassDef) → AllCome os ds
    → list_all (base_ends (bases_of os) (length (map (image_class os) (kept_classes os)))) (map base_in (map (image_class os) ds)) ≡ true
all_bases os h n [] c = refl
all_bases os h n (d ∷ ds) (joined e c) =
    let i = object_is h e.object in
    let ends : chain_ends d.object.classes (length d.object.classes) d.class.base ≡ true = all_at (bases_fit d.object.classes) e.class i.bases in
    let few = few_classes os d.object i e.object in
    let steps : length d.object.classes ≤ length (map (image_class os) (kept_classes os)) = omega (arith, few, length-map (kept_classes os) (image_class os)) in
    let here : base_ends (bases_of os) (length d.object.classes) (or_none (class_number os d.object) d.class.base) ≡ true =
    rw (number_by_name os d.object d.class.base) (chain os d.object n e.object (length d.object.classes) d.class.base ends) in
    and_both _ _ (more_steps (bases_of os) (length d.object.classes) (length (map (image_class os) (kept_classes os)))
    (or_none (class_number os d.object) d.class.base) steps here) (all_bases os h n ds c)

pub bases_image : (os : List ObjectView) (i : ImageView) → AllObjects os → NoneOf (is_different os) → ImageOf os i → bases_end i.classes ≡ true
bases_image os i h n o = ap bases_end o.classes ∙ all_bases os h n (kept_classes os) (all_come os)
