-- The function that an entry of an object stands for.
use Rattle.std.proofs.Common.{Bool, true, false, ◌≡◌, ◌<◌, ◌⊎◌, ℕ, zero, suc, ◌+◌, List, [], ◌∷◌, ◌++◌, map, filter, Option, Some, None, refl, sym, ap, ◌∙◌}
use Rattle.std.proofs.Common.{subst, arith, inl, inr, ⊎_elim, cond, eq-eqb}
use Rattle.std.specs.Prelude.{slice_get, nat_lt, nat_eq, ◌&&◌, ◌||◌, not}
use Rattle.std.specs.List.{list_any, position_from}
use Rattle.std.specs.Option.{option_map, option_map_or}
use Rattle.std.specs.Str.{bytes_eq}
use borrow.Author.Tests.{eqb-true, ltb-true}
use Rattle.std.proofs.lemmas.Bool.{true≢false}
use Rattle.tx_code.specs.Objects.{ObjectView, FuncView}
use Rattle.tx_code.specs.WellFormed.{IsObject, ascends, ascends_from, has_safe, is_defined, is_wanted_safe}
use Rattle.tx_code.specs.Shapes.{Among, here, there}
use Rattle.tx_code.specs.Linked.{FuncDef, func_def, func_defs, func_number, func_symbol, is_internal, defines, repeats, kept_with, kept_after, kept_funcs}
use Rattle.tx_code.specs.Linked.{is_own, name_in, or_else}
use Rattle.link_faults.specs.Answers.{Links, NoneOf}
use Rattle.link_faults.specs.Faults.{Entry, func_entry, funcs_of, func_entries, any_two, first_of, global_entries, has_unlisted, is_missing, is_undefined}
use Rattle.link_faults.specs.Faults.{is_unsafe, kept_is_safe, shows, types_differ, wants}
use Rattle.link_faults.specs.Faults.{defines as entry_defines}
use Rattle.link_faults.proofs.Ascending.{and_left, and_right, same_bytes, equals_itself}
use Rattle.link_faults.proofs.ListedEntries.{and_both}
use Rattle.link_faults.proofs.FirstClaims.{any_of_append, or_left, inside}
use Rattle.link_laws.proofs.WholeImages.{AllObjects, none, some, position_found}
use Rattle.link_laws.proofs.MainThere.{or_both}

-- ---- lists

pub nowhere : {A : Type 0} {P : Type 0} {x : A} → Among x [] → P
nowhere m = elim m [ ]

pub among_head : {A : Type 0} {x y : A} {ys : List A} → Among x (y ∷ ys) → (x ≡ y) ⊎ Among x ys
among_head here = inl refl
among_head (there m) = inr m

pub among_left : {A : Type 0} {x : A} {xs : List A} (ys : List A) → Among x xs → Among x (xs ++ ys)
among_left ys here = here
among_left ys (there m) = there (among_left ys m)

pub among_right : {A : Type 0} {x : A} (xs : List A) {ys : List A} → Among x ys → Among x (xs ++ ys)
among_right [] m = m
among_right (y ∷ xs) m = there (among_right xs m)

pub among_either : {A : Type 0} {x : A} (xs ys : List A) → Among x (xs ++ ys) → Among x xs ⊎ Among x ys
among_either [] ys m = inr m
among_either (y ∷ xs) ys here = inl here
among_either (y ∷ xs) ys (there m) = ⊎_elim (λ a. inl (there a)) (λ b. inr b) (among_either xs ys m)

pub among_map : {A B : Type 0} (f : A → B) {x : A} {xs : List A} → Among x xs → Among (f x) (map f xs)
among_map f here = here
among_map f (there m) = there (among_map f m)

pub among_back : {A B : Type 0} (f : A → B) (xs : List A) {y : B} → Among y (map f xs) → (x : A) × (Among x xs × (f x ≡ y))
among_back f [] m = nowhere m
among_back f (x ∷ xs) here = (x, (here, refl))
among_back f (x ∷ xs) (there m) = let r = among_back f xs m in (r.0, (there r.1.0, r.1.1))

pub among_filter : {A : Type 0} (p : A → Bool) {x : A} {xs : List A} → Among x xs → p x ≡ true → Among x (filter p xs)
among_filter p {x} (here {xs = xs}) e = by (p x) e
  where
    by : (b : Bool) → b ≡ true → Among x (cond b (x ∷ filter p xs) (filter p xs))
    by true g = here
    by false g = cc
among_filter p {x} (there {b = y} {xs = xs} m) e = by (p y) (among_filter p m e)
  where
    by : (b : Bool) → Among x (filter p xs) → Among x (cond b (y ∷ filter p xs) (filter p xs))
    by true r = there r
    by false r = r

pub filter_among : {A : Type 0} (p : A → Bool) (xs : List A) {x : A} → Among x (filter p xs) → Among x xs × (p x ≡ true)
filter_among p [] m = nowhere m
filter_among p (y ∷ ys) {x} m = by (p y) refl m (λ n. filter_among p ys n)
  where
    by : (b : Bool) → p y ≡ b → Among x (cond b (y ∷ filter p ys) (filter p ys)) → (Among x (filter p ys) → Among x ys × (p x ≡ true)) → Among x (y ∷ ys)
        × (p x ≡ true)
    by true e n f = ⊎_elim (λ q. (subst (λ z. Among z (y ∷ ys)) (sym q) here, subst (λ z. p z ≡ true) (sym q) e)) (λ i. let r = f i in (there r.0, r.1))
        (among_head n)
    by false e n f = let r = f n in (there r.0, r.1)

pub any_among : {A : Type 0} (t : A → Bool) {x : A} {xs : List A} → Among x xs → t x ≡ true → list_any t xs ≡ true
any_among t (here {xs = xs}) e = or_left _ _ e
any_among t (there {b = y} {xs = xs} m) e = ap (λ (b : Bool). t y || b) (any_among t m e) ∙ or_true (t y)
  where
    or_true : (b : Bool) → (b || true) ≡ true
    or_true true = refl
    or_true false = refl

pub none_among : {A : Type 0} (t : A → Bool) {x : A} {xs : List A} → Among x xs → list_any t xs ≡ false → t x ≡ false
none_among t here h = (or_both _ _ h).0
none_among t (there m) h = none_among t m (or_both _ _ h).1

pub one_among : {A : Type 0} (t : A → Bool) (xs : List A) → list_any t xs ≡ true → (x : A) × (Among x xs × (t x ≡ true))
one_among t [] h = cc
one_among {A} t (x ∷ xs) h = by (t x) refl h (one_among t xs)
  where
    by : (b : Bool) → t x ≡ b → (b || list_any t xs) ≡ true → (list_any t xs ≡ true → (y : A) × (Among y xs × (t y ≡ true))) → (y : A)
        × (Among y (x ∷ xs) × (t y ≡ true))
    by true e g f = (x, (here, e))
    by false e g f = let r = f g in (r.0, (there r.1.0, r.1.1))

pub get_among : {A : Type 0} (xs : List A) (k : ℕ) (x : A) → slice_get xs k ≡ Some x → Among x xs
get_among [] k x e = cc
get_among (y ∷ ys) zero x e = subst (λ z. Among z (y ∷ ys)) (inside y x e) here
get_among (y ∷ ys) (suc k) x e = there (get_among ys k x e)

-- of two that stand in a list one stands first
pub pair_among : {A : Type 0} (t : A → A → Bool) {x y : A} {xs : List A} → any_two t xs ≡ false → Among x xs → Among y xs → (x ≡ y)
    ⊎ ((t x y ≡ false) ⊎ (t y x ≡ false))
pair_among t h here here = inl refl
pair_among t {x} {y} h here (there m) = inr (inl (none_among (t x) m (or_both _ _ h).0))
pair_among t {x} {y} h (there m) here = inr (inr (none_among (t y) m (or_both _ _ h).0))
pair_among t h (there m) (there n) = pair_among t (or_both _ _ h).1 m n

-- ---- firsts and positions

pub first_passes : {A : Type 0} (t : A → Bool) (xs : List A) (x : A) → first_of t xs ≡ Some x → t x ≡ true
first_passes t [] x e = cc
first_passes t (y ∷ ys) x e = by (t y) refl e (first_passes t ys x)
  where
    by : (b : Bool) → t y ≡ b → cond b (Some y) (first_of t ys) ≡ Some x → (first_of t ys ≡ Some x → t x ≡ true) → t x ≡ true
    by true g h f = subst (λ z. t z ≡ true) (inside y x h) g
    by false g h f = f h

pub position_first : {A : Type 0} (t : A → Bool) (n : ℕ) (xs : List A) (k : ℕ) → position_from t n xs ≡ Some k → (j : ℕ)
    × ((k ≡ n + j) × (slice_get xs j ≡ first_of t xs))
position_first t n [] k e = cc
position_first t n (x ∷ xs) k e = by (t x) e (position_first t (n + 1) xs k)
  where
    same : (a b : ℕ) → Some a ≡ Some b → b ≡ a
    same a b q = cc

    by : (b : Bool) → cond b (Some n) (position_from t (n + 1) xs) ≡ Some k
        → (position_from t (n + 1) xs ≡ Some k → (j : ℕ) × ((k ≡ n + 1 + j) × (slice_get xs j ≡ first_of t xs))) → (j : ℕ)
        × ((k ≡ n + j) × (slice_get (x ∷ xs) j ≡ cond b (Some x) (first_of t xs)))
    by true g f = (0, ((let s = same n k g in omega (arith, s)), refl))
    by false g f = let r = f g in (suc r.0, ((let s = r.1.0 in omega (arith, s)), r.1.1))

pub first_at : {A : Type 0} (t : A → Bool) (xs : List A) (k : ℕ) → position_from t 0 xs ≡ Some k → slice_get xs k ≡ first_of t xs
first_at t xs k e = let r = position_first t 0 xs k e in let s : k ≡ r.0 = (let i = r.1.0 in omega (arith, i)) in ap (slice_get xs) s ∙ r.1.1

pub some_first : {A : Type 0} (t : A → Bool) (xs : List A) → list_any t xs ≡ true → (x : A) × (first_of t xs ≡ Some x)
some_first t [] h = cc
some_first {A} t (x ∷ xs) h = by (t x) h (some_first t xs)
  where
    by : (b : Bool) → (b || list_any t xs) ≡ true → (list_any t xs ≡ true → (y : A) × (first_of t xs ≡ Some y)) → (y : A)
        × (cond b (Some x) (first_of t xs) ≡ Some y)
    by true g f = (x, refl)
    by false g f = f g

pub some_position : {A : Type 0} (t : A → Bool) (n : ℕ) (xs : List A) → list_any t xs ≡ true → (k : ℕ) × (position_from t n xs ≡ Some k)
some_position t n [] h = cc
some_position t n (x ∷ xs) h = by (t x) h (some_position t (n + 1) xs)
  where
    by : (b : Bool) → (b || list_any t xs) ≡ true → (list_any t xs ≡ true → (k : ℕ) × (position_from t (n + 1) xs ≡ Some k)) → (k : ℕ)
        × (cond b (Some n) (position_from t (n + 1) xs) ≡ Some k)
    by true g f = (n, refl)
    by false g f = f g

pub no_position : {A : Type 0} (t : A → Bool) (n : ℕ) (xs : List A) → position_from t n xs ≡ None → list_any t xs ≡ false
no_position t n [] e = refl
no_position t n (x ∷ xs) e = by (t x) e (no_position t (n + 1) xs)
  where
    by : (b : Bool) → cond b (Some n) (position_from t (n + 1) xs) ≡ None → (position_from t (n + 1) xs ≡ None → list_any t xs ≡ false)
        → (b || list_any t xs) ≡ false
    by true g f = cc
    by false g f = f g

-- the first of two lists
pub or_first : {A : Type 0} → Option A → Option A → Option A
or_first None o = o
or_first (Some x) o = Some x

first_append : {A : Type 0} (t : A → Bool) (xs ys : List A) → first_of t (xs ++ ys) ≡ cond (list_any t xs) (first_of t xs) (first_of t ys)
first_append t [] ys = refl
first_append t (x ∷ xs) ys = by (t x) (first_append t xs ys)
  where
    by : (b : Bool) → first_of t (xs ++ ys) ≡ cond (list_any t xs) (first_of t xs) (first_of t ys)
        → cond b (Some x) (first_of t (xs ++ ys)) ≡ cond (b || list_any t xs) (cond b (Some x) (first_of t xs)) (first_of t ys)
    by true r = refl
    by false r = r

-- ---- kept definitions

pub record Comes (os : List ObjectView) (d : FuncDef) : Type 0 where
  pub at : slice_get os d.at ≡ Some d.object
  pub func : Among d.func d.object.funcs
  pub defined : is_defined d.func ≡ true

defs_come : (os : List ObjectView) (at : ℕ) (rest : List ObjectView) → ((k : ℕ) → slice_get os (at + k) ≡ slice_get rest k) → (d : FuncDef)
    → Among d (func_defs at rest) → Comes os d
defs_come os at [] g d m = nowhere m
defs_come os at (o ∷ rest) g d m =
    ⊎_elim
    (λ a. let b = among_back (func_def at o) (filter is_defined o.funcs) a in let f = filter_among is_defined o.funcs b.1.0 in
    subst (λ e. Comes os e) b.1.1 (let s : at ≡ at + 0 = omega arith in record { at = ap (slice_get os) s ∙ g 0; func = f.0; defined = f.1 }))
    (λ a. defs_come os (at + 1) rest (λ k. (let s : at + 1 + k ≡ at + suc k = omega arith in ap (slice_get os) s) ∙ g (suc k)) d a)
    (among_either (map (func_def at o) (filter is_defined o.funcs)) (func_defs (at + 1) rest) m)

kept_among : (kept ds : List FuncDef) (d : FuncDef) → Among d (kept_after kept ds) → Among d kept ⊎ Among d ds
kept_among kept [] d m = inl m
kept_among kept (x ∷ ds) d m = by (repeats kept x) (λ ks n. kept_among ks ds d n) m
  where
    one : Among d (x ∷ []) → Among d (x ∷ ds)
    one n = ⊎_elim (λ q. subst (λ z. Among z (x ∷ ds)) (sym q) here) (λ i. nowhere i) (among_head n)

    by : (b : Bool) → ((ks : List FuncDef) → Among d (kept_after ks ds) → Among d ks ⊎ Among d ds) → Among d (kept_after (cond b kept (kept ++ x ∷ [])) ds)
        → Among d kept ⊎ Among d (x ∷ ds)
    by true f n = ⊎_elim (λ a. inl a) (λ b. inr (there b)) (f kept n)
    by false f n = ⊎_elim (λ a. ⊎_elim (λ c. inl c) (λ c. inr (one c)) (among_either kept (x ∷ []) a)) (λ b. inr (there b)) (f (kept ++ x ∷ []) n)

pub kept_comes : (os : List ObjectView) (d : FuncDef) → Among d (kept_funcs os) → Comes os d
kept_comes os d m = ⊎_elim (λ a. nowhere a) (λ a. defs_come os 0 os (λ k. let s : 0 + k ≡ k = omega arith in ap (slice_get os) s) d a)
    (kept_among [] (func_defs 0 os) d m)

stays : (kept ds : List FuncDef) (d : FuncDef) → Among d kept → Among d (kept_after kept ds)
stays kept [] d m = m
stays kept (x ∷ ds) d m = by (repeats kept x) (λ ks n. stays ks ds d n)
  where
    by : (b : Bool) → ((ks : List FuncDef) → Among d ks → Among d (kept_after ks ds)) → Among d (kept_after (cond b kept (kept ++ x ∷ [])) ds)
    by true f = f kept m
    by false f = f (kept ++ x ∷ []) (among_left (x ∷ []) m)

internal_kept : (kept ds : List FuncDef) (d : FuncDef) → is_internal d ≡ true → Among d ds → Among d (kept_after kept ds)
internal_kept kept [] d i m = nowhere m
internal_kept kept (x ∷ ds) d i m = first m (λ ks n. internal_kept ks ds d i n)
  where
    new : is_internal x ≡ true → repeats kept x ≡ false
    new e = ap (λ (b : Bool). not b && list_any (defines (func_symbol x)) kept) e

    later : (b : Bool) → ((ks : List FuncDef) → Among d ds → Among d (kept_after ks ds)) → Among d ds → Among d (kept_after (cond b kept (kept ++ x ∷ [])) ds)
    later true f n = f kept n
    later false f n = f (kept ++ x ∷ []) n

    now : is_internal x ≡ true → Among x (kept_after (kept_with kept x) ds)
    now e = subst (λ (b : Bool). Among x (kept_after (cond b kept (kept ++ x ∷ [])) ds)) (sym (new e)) (stays (kept ++ x ∷ []) ds x (among_right kept here))

    first : Among d (x ∷ ds) → ((ks : List FuncDef) → Among d ds → Among d (kept_after ks ds)) → Among d (kept_after (kept_with kept x) ds)
    first n f = ⊎_elim (λ q. subst (λ z. Among z (kept_after (kept_with kept x) ds)) (sym q) (now (subst (λ z. is_internal z ≡ true) q i)))
        (λ r. later (repeats kept x) f r) (among_head n)

defs_among : (os : List ObjectView) (base at : ℕ) (o : ObjectView) (f : FuncView) → slice_get os at ≡ Some o → Among f o.funcs → is_defined f ≡ true
    → Among (func_def (base + at) o f) (func_defs base os)
defs_among [] base at o f e m d = cc
defs_among (p ∷ os) base zero o f e m d =
    let s : base ≡ base + 0 = omega arith in
    among_left (func_defs (base + 1) os) (subst (λ q. Among (func_def (base + 0) o f) (map (func_def base q) (filter is_defined q.funcs))) (sym (inside p o e))
    (subst (λ (n : ℕ). Among (func_def n o f) (map (func_def base o) (filter is_defined o.funcs))) s
    (among_map (func_def base o) (among_filter is_defined m d))))
defs_among (p ∷ os) base (suc at) o f e m d =
    let s : base + 1 + at ≡ base + suc at = omega arith in
    among_right (map (func_def base p) (filter is_defined p.funcs))
    (subst (λ (n : ℕ). Among (func_def n o f) (func_defs (base + 1) os)) s (defs_among os (base + 1) at o f e m d))

-- ---- the first definition of a symbol

append_nil : {A : Type 0} (xs : List A) → xs ++ [] ≡ xs
append_nil [] = refl
append_nil (x ∷ xs) = ap (λ ys. x ∷ ys) (append_nil xs)

append_assoc : {A : Type 0} (xs ys zs : List A) → (xs ++ ys) ++ zs ≡ xs ++ (ys ++ zs)
append_assoc [] ys zs = refl
append_assoc (x ∷ xs) ys zs = ap (λ ws. x ∷ ws) (append_assoc xs ys zs)

first_kept : (symbol : List ℕ) (kept ds : List FuncDef) → first_of (defines symbol) (kept_after kept ds) ≡ first_of (defines symbol) (kept ++ ds)
first_kept symbol kept [] = ap (first_of (defines symbol)) (sym (append_nil kept))
first_kept symbol kept (d ∷ ds) = by (repeats kept d) refl (λ ks. first_kept symbol ks ds)
  where
    hidden : repeats kept d ≡ true → first_of (defines symbol) (kept ++ ds) ≡ first_of (defines symbol) (kept ++ d ∷ ds)
    hidden e = two (defines symbol d) refl
      where
        two : (b : Bool) → defines symbol d ≡ b → first_of (defines symbol) (kept ++ ds) ≡ first_of (defines symbol) (kept ++ d ∷ ds)
        two true g =
            let same : func_symbol d ≡ symbol = same_bytes (func_symbol d) symbol (and_right (not (is_internal d)) _ g) in
            let there-is : list_any (defines symbol) kept ≡ true = subst (λ n. list_any (defines n) kept ≡ true) same (and_right (not (is_internal d)) _ e) in
            first_append (defines symbol) kept ds ∙ ap (λ (b : Bool). cond b (first_of (defines symbol) kept) (first_of (defines symbol) ds)) there-is
            ∙ sym (first_append (defines symbol) kept (d ∷ ds) ∙ ap
            (λ (b : Bool). cond b (first_of (defines symbol) kept) (first_of (defines symbol) (d ∷ ds))) there-is)
        two false g =
            first_append (defines symbol) kept ds
            ∙ ap (λ (b : Bool). cond (list_any (defines symbol) kept) (first_of (defines symbol) kept) (cond b (Some d) (first_of (defines symbol) ds))) (sym g)
            ∙ sym (first_append (defines symbol) kept (d ∷ ds))

    by : (b : Bool) → repeats kept d ≡ b → ((ks : List FuncDef) → first_of (defines symbol) (kept_after ks ds) ≡ first_of (defines symbol) (ks ++ ds))
        → first_of (defines symbol) (kept_after (cond b kept (kept ++ d ∷ [])) ds) ≡ first_of (defines symbol) (kept ++ d ∷ ds)
    by true e f = f kept ∙ hidden e
    by false e f = f (kept ++ d ∷ []) ∙ ap (first_of (defines symbol)) (append_assoc kept (d ∷ []) ds)

abbrev pub entry_of_def : FuncDef → Entry
entry_of_def d = func_entry d.object d.func

first_here : (symbol : List ℕ) (at : ℕ) (o : ObjectView) (fs : List FuncView)
    → first_of (entry_defines symbol) (map (func_entry o) fs) ≡ option_map entry_of_def (first_of (defines symbol) (map (func_def at o) (filter is_defined fs)))
first_here symbol at o [] = refl
first_here symbol at o (f ∷ fs) = by (is_defined f) (defines symbol (func_def at o f)) (first_here symbol at o fs)
    ∙ ap (option_map entry_of_def) (sym (pull (is_defined f)))
  where
    pull : (b : Bool) → first_of (defines symbol) (map (func_def at o) (cond b (f ∷ filter is_defined fs) (filter is_defined fs)))
        ≡ cond b (cond (defines symbol (func_def at o f)) (Some (func_def at o f)) (first_of (defines symbol) (map (func_def at o) (filter is_defined fs))))
        (first_of (defines symbol) (map (func_def at o) (filter is_defined fs)))
    pull true = refl
    pull false = refl

    by : (b t : Bool) → first_of (entry_defines symbol) (map (func_entry o) fs)
        ≡ option_map entry_of_def (first_of (defines symbol) (map (func_def at o) (filter is_defined fs)))
        → cond (b && t) (Some (func_entry o f)) (first_of (entry_defines symbol) (map (func_entry o) fs))
        ≡ option_map entry_of_def (cond b (cond t (Some (func_def at o f)) (first_of (defines symbol) (map (func_def at o) (filter is_defined fs))))
        (first_of (defines symbol) (map (func_def at o) (filter is_defined fs))))
    by true true r = refl
    by true false r = r
    by false t r = r

any_here : (symbol : List ℕ) (at : ℕ) (o : ObjectView) (fs : List FuncView)
    → list_any (entry_defines symbol) (map (func_entry o) fs) ≡ list_any (defines symbol) (map (func_def at o) (filter is_defined fs))
any_here symbol at o [] = refl
any_here symbol at o (f ∷ fs) = by (is_defined f) (defines symbol (func_def at o f)) (any_here symbol at o fs) ∙ sym (pull (is_defined f))
  where
    pull : (b : Bool) → list_any (defines symbol) (map (func_def at o) (cond b (f ∷ filter is_defined fs) (filter is_defined fs)))
        ≡ cond b (defines symbol (func_def at o f) || list_any (defines symbol) (map (func_def at o) (filter is_defined fs)))
        (list_any (defines symbol) (map (func_def at o) (filter is_defined fs)))
    pull true = refl
    pull false = refl

    by : (b t : Bool) → list_any (entry_defines symbol) (map (func_entry o) fs) ≡ list_any (defines symbol) (map (func_def at o) (filter is_defined fs))
        → ((b && t) || list_any (entry_defines symbol) (map (func_entry o) fs))
        ≡ cond b (t || list_any (defines symbol) (map (func_def at o) (filter is_defined fs)))
        (list_any (defines symbol) (map (func_def at o) (filter is_defined fs)))
    by true t r = ap (λ (c : Bool). t || c) r
    by false t r = r

join : (b : Bool) (x y : Option FuncDef) → cond b (option_map entry_of_def x) (option_map entry_of_def y) ≡ option_map entry_of_def (cond b x y)
join true x y = refl
join false x y = refl

first_of_defs : (symbol : List ℕ) (at : ℕ) (os : List ObjectView)
    → first_of (entry_defines symbol) (func_entries os) ≡ option_map entry_of_def (first_of (defines symbol) (func_defs at os))
first_of_defs symbol at [] = refl
first_of_defs symbol at (o ∷ os) =
    let ds : List FuncDef = map (func_def at o) (filter is_defined o.funcs) in
    first_append (entry_defines symbol) (funcs_of o) (func_entries os)
    ∙ ap (λ (b : Bool). cond b (first_of (entry_defines symbol) (funcs_of o)) (first_of (entry_defines symbol) (func_entries os)))
    (any_here symbol at o o.funcs)
    ∙ ap (λ (x : Option Entry). cond (list_any (defines symbol) ds) x (first_of (entry_defines symbol) (func_entries os))) (first_here symbol at o o.funcs)
    ∙ ap (λ (x : Option Entry). cond (list_any (defines symbol) ds) (option_map entry_of_def (first_of (defines symbol) ds)) x)
    (first_of_defs symbol (at + 1) os)
    ∙ join (list_any (defines symbol) ds) (first_of (defines symbol) ds) (first_of (defines symbol) (func_defs (at + 1) os))
    ∙ ap (option_map entry_of_def) (sym (first_append (defines symbol) ds (func_defs (at + 1) os)))

any_of_defs : (symbol : List ℕ) (at : ℕ) (os : List ObjectView)
    → list_any (entry_defines symbol) (func_entries os) ≡ list_any (defines symbol) (func_defs at os)
any_of_defs symbol at [] = refl
any_of_defs symbol at (o ∷ os) =
    any_of_append (entry_defines symbol) (funcs_of o) (func_entries os)
    ∙ ap (λ (b : Bool). b || list_any (entry_defines symbol) (func_entries os)) (any_here symbol at o o.funcs)
    ∙ ap (λ (b : Bool). list_any (defines symbol) (map (func_def at o) (filter is_defined o.funcs)) || b) (any_of_defs symbol (at + 1) os)
    ∙ sym (any_of_append (defines symbol) (map (func_def at o) (filter is_defined o.funcs)) (func_defs (at + 1) os))

-- ---- entries

entry_among : {os : List ObjectView} {o : ObjectView} (f : FuncView) → Among o os → Among f o.funcs → Among (func_entry o f) (func_entries os)
entry_among {o = o} f (here {xs = os}) i = among_left (func_entries os) (among_map (func_entry o) i)
entry_among f (there {b = p} m) i = among_right (funcs_of p) (entry_among f m i)

below_among : (f : FuncView) (fs : List FuncView) → ascends_from (λ (a b : FuncView). nat_lt a.symbol b.symbol) f fs ≡ true → {g : FuncView} → Among g fs
    → f.symbol < g.symbol
below_among f [] h m = nowhere m
below_among f (k ∷ ks) h here = ltb-true f.symbol k.symbol (and_left _ _ h)
below_among f (k ∷ ks) h {g = g} (there m) = let a = ltb-true f.symbol k.symbol (and_left _ _ h) in let b =
    below_among k ks (and_right (nat_lt f.symbol k.symbol) _ h) {g = g} m in omega (arith, a, b)

tail_of : (f : FuncView) (fs : List FuncView) → ascends_from (λ (a b : FuncView). nat_lt a.symbol b.symbol) f fs ≡ true
    → ascends (λ (a b : FuncView). nat_lt a.symbol b.symbol) fs ≡ true
tail_of f [] h = refl
tail_of f (k ∷ ks) h = and_right (nat_lt f.symbol k.symbol) _ h

-- an object has one entry of a symbol
one_entry : (fs : List FuncView) → ascends (λ (a b : FuncView). nat_lt a.symbol b.symbol) fs ≡ true → {f g : FuncView} → Among f fs → Among g fs
    → f.symbol ≡ g.symbol → f ≡ g
one_entry [] h m n e = nowhere m
one_entry (k ∷ ks) h here here e = refl
one_entry (k ∷ ks) h {f = f} {g = g} here (there n) e = let l = below_among k ks h {g = g} n in absurd (omega (arith, l, e))
one_entry (k ∷ ks) h {f} {g = g} (there m) here e = let l = below_among k ks h {g = f} m in absurd (omega (arith, l, e))
one_entry (k ∷ ks) h (there m) (there n) e = one_entry ks (tail_of k ks h) m n e

pub object_is : {os : List ObjectView} {o : ObjectView} → AllObjects os → Among o os → IsObject o
object_is none m = nowhere m
object_is (some i h) here = i
object_is (some i h) (there m) = object_is h m

pub no_missing_func : (os : List ObjectView) (symbol : List ℕ) → NoneOf (is_undefined os)
    → list_any (is_missing (func_entries os) symbol) (func_entries os) ≡ false
no_missing_func os symbol u =
    let funcs = list_any (is_missing (func_entries os) symbol) (func_entries os) in
    let globals = list_any (is_missing (global_entries os) symbol) (global_entries os) in
    (or_both funcs globals ((or_both (funcs || globals) (list_any (has_unlisted symbol) os) (u.none symbol)).0)).0

pub no_missing_global : (os : List ObjectView) (symbol : List ℕ) → NoneOf (is_undefined os)
    → list_any (is_missing (global_entries os) symbol) (global_entries os) ≡ false
no_missing_global os symbol u =
    let funcs = list_any (is_missing (func_entries os) symbol) (func_entries os) in
    let globals = list_any (is_missing (global_entries os) symbol) (global_entries os) in
    (or_both funcs globals ((or_both (funcs || globals) (list_any (has_unlisted symbol) os) (u.none symbol)).0)).1

three : (a b c : Bool) → a ≡ true → b ≡ true → ((a && b) && not c) ≡ false → c ≡ true
three true true true e f h = refl
three true true false e f h = cc
three true false c e f h = cc
three false b c e f h = cc

-- what an entry of an object stands for: a kept definition of the same type, that is safe where it is wanted so
pub record Stands (os : List ObjectView) (at : ℕ) (o : ObjectView) (f : FuncView) (k : ℕ) (d : FuncDef) : Type 0 where
  pub number : func_number os at o f.symbol ≡ Some k
  pub is : slice_get (kept_funcs os) k ≡ Some d
  pub ty : name_in d.object d.func.ty ≡ name_in o f.ty
  pub safe : is_wanted_safe f ≡ true → has_safe d.func ≡ true

wanted : (os : List ObjectView) → NoneOf (is_unsafe os) → (o : ObjectView) (f : FuncView) → Among (func_entry o f) (func_entries os) → is_wanted_safe f ≡ true
    → kept_is_safe (func_entries os) (func_entry o f) ≡ true
wanted os u o f m w =
    three (bytes_eq (name_in o f.symbol) (name_in o f.symbol)) (is_wanted_safe f) (kept_is_safe (func_entries os) (func_entry o f))
    (equals_itself (name_in o f.symbol)) w
    (none_among (wants (func_entries os) (name_in o f.symbol)) m (u.none (name_in o f.symbol)))

own_stands : (os : List ObjectView) → AllObjects os → Links os → (at : ℕ) (o : ObjectView) → slice_get os at ≡ Some o → (f : FuncView) → Among f o.funcs
    → (k : ℕ) → position_from (is_own at f.symbol) 0 (kept_funcs os) ≡ Some k
    → (d : FuncDef) × Stands os at o f k d
own_stands os h l at o e f m k p =
    let r = position_found (is_own at f.symbol) 0 (kept_funcs os) k p in
    let d = r.1.0 in
    let j : r.0 ≡ k = let s = r.1.1.index in omega (arith, s) in
    let is : slice_get (kept_funcs os) k ≡ Some d = ap (slice_get (kept_funcs os)) (sym j) ∙ r.1.1.is in
    let comes = kept_comes os d (get_among (kept_funcs os) k d is) in
    let at-is : d.at ≡ at = eqb-true d.at at (and_left _ _ (and_left _ _ r.1.1.passes)) in
    let internal : nat_eq d.func.linkage 1 ≡ true = and_right (nat_eq d.at at) _ (and_left _ _ r.1.1.passes) in
    let symbol : d.func.symbol ≡ f.symbol = eqb-true d.func.symbol f.symbol (and_right (nat_eq d.at at && is_internal d) _ r.1.1.passes) in
    let object : d.object ≡ o = inside d.object o (sym comes.at ∙ ap (slice_get os) at-is ∙ e) in
    let func : d.func ≡ f = one_entry o.funcs (object_is h (get_among os at o e)).funcs_ascend
    (subst (λ (q : ObjectView). Among d.func q.funcs) object comes.func) m symbol in
    let f-internal : nat_eq f.linkage 1 ≡ true = ap (λ (g : FuncView). nat_eq g.linkage 1) (sym func) ∙ internal in (
      d,
      record {
        number = ap (λ (q : Option ℕ). or_else q (position_from (defines (name_in o f.symbol)) 0 (kept_funcs os))) p;
        is = is;
        ty = ap (λ (q : ObjectView). name_in q d.func.ty) object ∙ ap (λ (g : FuncView). name_in o g.ty) func;
        safe = λ w. ap (λ (g : FuncView). has_safe g) func
            ∙ sym (ap (λ (b : Bool). cond b (has_safe f)
            (option_map_or (λ (x : Entry). x.safe) (first_of (entry_defines (name_in o f.symbol)) (func_entries os)) false)) f-internal)
            ∙ wanted os l.unsafe o f (entry_among f (get_among os at o e) m) w;
      },
    )

any_of_first : {A : Type 0} (t : A → Bool) (xs : List A) (x : A) → first_of t xs ≡ Some x → list_any t xs ≡ true
any_of_first t [] x e = cc
any_of_first t (y ∷ ys) x e = by (t y) e (any_of_first t ys x)
  where
    by : (b : Bool) → cond b (Some y) (first_of t ys) ≡ Some x → (first_of t ys ≡ Some x → list_any t ys ≡ true) → (b || list_any t ys) ≡ true
    by true g f = refl
    by false g f = f g

-- an entry that is not internal has a definition
defined_somewhere : (os : List ObjectView) → Links os → (o : ObjectView) (f : FuncView) → Among (func_entry o f) (func_entries os) → nat_eq f.linkage 1 ≡ false
    → list_any (entry_defines (name_in o f.symbol)) (func_entries os) ≡ true
defined_somewhere os l o f m i = by (is_defined f) refl
  where
    symbol : List ℕ
    symbol = name_in o f.symbol

    missing : is_missing (func_entries os) symbol (func_entry o f) ≡ false
    missing = none_among (is_missing (func_entries os) symbol) m (no_missing_func os symbol l.undefined)

    left : (d : Bool) (j : Bool) (a : Bool) → d ≡ false → j ≡ false → ((bytes_eq symbol symbol && not d) && (j || not a)) ≡ false → a ≡ true
    left d j a e g h = again (bytes_eq symbol symbol) (equals_itself symbol) d e j g a h
      where
        again : (b : Bool) → b ≡ true → (d : Bool) → d ≡ false → (j : Bool) → j ≡ false → (a : Bool) → ((b && not d) && (j || not a)) ≡ false → a ≡ true
        again true p false q false r true h = refl
        again true p false q false r false h = cc
        again true p false q true r a h = cc
        again true p true q j r a h = cc
        again false p d q j r a h = cc

    by : (b : Bool) → is_defined f ≡ b → list_any (entry_defines symbol) (func_entries os) ≡ true
    by true e = any_among (entry_defines symbol) m (and_both _ _ e (and_both _ _ (ap not i) (equals_itself symbol)))
    by false e = left (is_defined f) (nat_eq f.linkage 1) (list_any (entry_defines symbol) (func_entries os)) e i missing

seen_stands : (os : List ObjectView) → AllObjects os → Links os → (at : ℕ) (o : ObjectView) → slice_get os at ≡ Some o → (f : FuncView) → Among f o.funcs
    → nat_eq f.linkage 1 ≡ false → position_from (is_own at f.symbol) 0 (kept_funcs os) ≡ None
    → (k : ℕ) × ((d : FuncDef) × Stands os at o f k d)
seen_stands os h l at o e f m i p =
    let symbol = name_in o f.symbol in
    let entry = entry_among f (get_among os at o e) m in
    let some-entry = defined_somewhere os l o f entry i in
    let found = some_first (defines symbol) (func_defs 0 os) (sym (any_of_defs symbol 0 os) ∙ some-entry) in
    let d = found.0 in
    let kept : first_of (defines symbol) (kept_funcs os) ≡ Some d = first_kept symbol [] (func_defs 0 os) ∙ found.1 in
    let place = some_position (defines symbol) 0 (kept_funcs os) (any_of_first (defines symbol) (kept_funcs os) d kept) in
    let is : slice_get (kept_funcs os) place.0 ≡ Some d = first_at (defines symbol) (kept_funcs os) place.0 place.1 ∙ kept in
    let comes = kept_comes os d (get_among (kept_funcs os) place.0 d is) in
    let other = entry_among d.func (get_among os d.at d.object comes.at) comes.func in
    let passes : defines symbol d ≡ true = first_passes (defines symbol) (kept_funcs os) d kept in
    let types = (or_both _ _ ((or_both _ _ (l.different.none symbol)).0)).1 in (
      place.0,
      (
        d,
        record {
          number = ap (λ (q : Option ℕ). or_else q (position_from (defines symbol) 0 (kept_funcs os))) p ∙ place.1;
          is = is;
          ty = ⊎_elim (λ q. ap (λ (x : Entry). x.ty) q)
              (λ q. ⊎_elim
              (λ g. same_bytes (name_in d.object d.func.ty) (name_in o f.ty)
              (three (shows symbol (entry_of_def d)) (shows symbol (func_entry o f)) (bytes_eq (name_in d.object d.func.ty) (name_in o f.ty)) passes
              (shown o f i) g))
              (λ g. sym (same_bytes (name_in o f.ty) (name_in d.object d.func.ty)
              (three (shows symbol (func_entry o f)) (shows symbol (entry_of_def d)) (bytes_eq (name_in o f.ty) (name_in d.object d.func.ty))
              (shown o f i) passes g))) q)
              (pair_among (types_differ symbol) types other entry);
          safe = λ w. sym (ap (λ (b : Bool). cond b (has_safe f)
              (option_map_or (λ (x : Entry). x.safe) (first_of (entry_defines symbol) (func_entries os)) false)) i
              ∙ ap (λ (x : Option Entry). option_map_or (λ (y : Entry). y.safe) x false) (first_of_defs symbol 0 os ∙ ap (option_map entry_of_def) found.1))
              ∙ wanted os l.unsafe o f entry w;
        },
      ),
    )
  where
    shown : (o : ObjectView) (f : FuncView) → nat_eq f.linkage 1 ≡ false → shows (name_in o f.symbol) (func_entry o f) ≡ true
    shown o f i = and_both _ _ (ap not i) (equals_itself (name_in o f.symbol))

pub stands : (os : List ObjectView) → AllObjects os → Links os → (at : ℕ) (o : ObjectView) → slice_get os at ≡ Some o → (f : FuncView) → Among f o.funcs
    → (k : ℕ) × ((d : FuncDef) × Stands os at o f k d)
stands os h l at o e f m = by (position_from (is_own at f.symbol) 0 (kept_funcs os)) refl
  where
    entry : Among (func_entry o f) (func_entries os)
    entry = entry_among f (get_among os at o e) m

    -- an internal entry has its own definition
    defined : nat_eq f.linkage 1 ≡ true → is_defined f ≡ true
    defined i = two (is_defined f) refl
      where
        shut : (b : Bool) → b ≡ true → (j : Bool) → j ≡ true → (a : Bool) → ((b && not false) && (j || not a)) ≡ false → false ≡ true
        shut true p true q a h = cc
        shut true p false q a h = cc
        shut false p j q a h = cc

        two : (d : Bool) → is_defined f ≡ d → d ≡ true
        two true g = refl
        two false g =
            let n = none_among (is_missing (func_entries os) (name_in o f.symbol)) entry (no_missing_func os (name_in o f.symbol) l.undefined) in
            shut (bytes_eq (name_in o f.symbol) (name_in o f.symbol)) (equals_itself (name_in o f.symbol)) (nat_eq f.linkage 1) i
            (list_any (entry_defines (name_in o f.symbol)) (func_entries os))
            (ap (λ (b : Bool). (bytes_eq (name_in o f.symbol) (name_in o f.symbol) && not b)
            && (nat_eq f.linkage 1 || not (list_any (entry_defines (name_in o f.symbol)) (func_entries os)))) (sym g) ∙ n)

    own : nat_eq f.linkage 1 ≡ true → list_any (is_own at f.symbol) (kept_funcs os) ≡ true
    own i =
        let s : 0 + at ≡ at = omega arith in
        let d : Among (func_def at o f) (func_defs 0 os) =
        subst (λ (n : ℕ). Among (func_def n o f) (func_defs 0 os)) s (defs_among os 0 at o f e m (defined i)) in
        any_among (is_own at f.symbol) (internal_kept [] (func_defs 0 os) (func_def at o f) i d)
        (and_both _ _ (and_both _ _ (same_number at) i) (same_number f.symbol))
      where
        same_number : (n : ℕ) → nat_eq n n ≡ true
        same_number n = eq-eqb n n refl

    by : (q : Option ℕ) → position_from (is_own at f.symbol) 0 (kept_funcs os) ≡ q → (k : ℕ) × ((d : FuncDef) × Stands os at o f k d)
    by (Some k) p = (k, own_stands os h l at o e f m k p)
    by None p = two (nat_eq f.linkage 1) refl
      where
        two : (b : Bool) → nat_eq f.linkage 1 ≡ b → (k : ℕ) × ((d : FuncDef) × Stands os at o f k d)
        two true i = let n = no_position (is_own at f.symbol) 0 (kept_funcs os) p in let y = own i in absurd (true≢false (sym y ∙ n))
        two false i = seen_stands os h l at o e f m i p
