-- Where an object defines an external `main()` of type `int()`, one of the kept functions is it.
use Rattle.std.proofs.Common.{Bool, true, false, ◌≡◌, ℕ, ◌+◌, List, [], ◌∷◌, ◌++◌, map, filter, refl, sym, ap, ◌∙◌, Some, None, ◌&&◌, ◌||◌, not, nat_eq, cond}
use Rattle.std.proofs.Common.{codes}
use Rattle.std.specs.List.{list_any, position_from}
use Rattle.std.specs.Str.{bytes_eq}
use borrow.Author.Tests.{eqb-true}
use Rattle.tx_code.specs.Objects.{ObjectView, FuncView}
use Rattle.tx_code.specs.WellFormed.{is_defined}
use Rattle.tx_code.specs.Images.{main_type}
use Rattle.tx_code.specs.Linked.{FuncDef, func_def, func_defs, func_symbol, is_internal, defines, repeats, kept_with, kept_after, kept_funcs, is_main_def}
use Rattle.tx_code.specs.Linked.{name_in}
use Rattle.link_faults.specs.Answers.{NoneOf}
use Rattle.link_faults.specs.Faults.{Entry, func_entry, funcs_of, func_entries, any_two, clash, is_twice, has_main, is_main}
use Rattle.link_faults.proofs.Ascending.{and_left, and_right, equals_itself}
use Rattle.link_faults.proofs.ListedEntries.{and_both}
use Rattle.link_faults.proofs.FirstClaims.{any_of_append, or_left}

-- two definitions of one symbol of which one is external
abbrev pub clashes : FuncDef → FuncDef → Bool
clashes a b = defines (func_symbol b) a && nat_eq b.func.linkage 0

-- no kept one clashes with one that comes, and no two that come clash
pub data Apart : List FuncDef → List FuncDef → Type 0 where
  done : {kept : List FuncDef} → Apart kept []
  next : {kept : List FuncDef} {d : FuncDef} {ds : List FuncDef} → list_any (λ k. clashes k d) kept ≡ false → Apart (kept ++ d ∷ []) ds → Apart kept ds
      → Apart kept (d ∷ ds)

any_front : {A : Type 0} (t : A → Bool) (xs ys : List A) → list_any t xs ≡ true → list_any t (xs ++ ys) ≡ true
any_front t xs ys h = any_of_append t xs ys ∙ or_left (list_any t xs) _ h

stays : (t : FuncDef → Bool) (kept ds : List FuncDef) → list_any t kept ≡ true → list_any t (kept_after kept ds) ≡ true
stays t kept [] h = h
stays t kept (d ∷ ds) h = by (repeats kept d) (λ ks g. stays t ks ds g)
  where
    by : (b : Bool) → ((ks : List FuncDef) → list_any t ks ≡ true → list_any t (kept_after ks ds) ≡ true)
        → list_any t (kept_after (cond b kept (kept ++ d ∷ [])) ds) ≡ true
    by true f = f kept h
    by false f = f (kept ++ d ∷ []) (any_front t kept (d ∷ []) h)

last_passes : {A : Type 0} (t : A → Bool) (xs : List A) (x : A) → t x ≡ true → list_any t (xs ++ x ∷ []) ≡ true
last_passes t [] x h = rw h refl
last_passes t (y ∷ ys) x h = ap (λ b. t y || b) (last_passes t ys x h) ∙ or_true (t y)
  where
    or_true : (b : Bool) → (b || true) ≡ true
    or_true true = refl
    or_true false = refl

-- an external one that comes does not repeat
fresh : (kept : List FuncDef) (d : FuncDef) → nat_eq d.func.linkage 0 ≡ true → list_any (λ k. clashes k d) kept ≡ false → repeats kept d ≡ false
fresh kept d e h = both (not (is_internal d)) (list_any (defines (func_symbol d)) kept) (none kept h)
  where
    both : (a b : Bool) → b ≡ false → (a && b) ≡ false
    both true b g = g
    both false b g = refl

    none : (ks : List FuncDef) → list_any (λ k. clashes k d) ks ≡ false → list_any (defines (func_symbol d)) ks ≡ false
    none [] g = refl
    none (k ∷ ks) g = one (defines (func_symbol d) k) (list_any (λ k. clashes k d) ks) (nat_eq d.func.linkage 0) e g (none ks)
      where
        one : (a r x : Bool) → x ≡ true → ((a && x) || r) ≡ false → (r ≡ false → list_any (defines (func_symbol d)) ks ≡ false)
            → (a || list_any (defines (func_symbol d)) ks) ≡ false
        one true r true p q f = cc
        one true r false p q f = cc
        one false r x p q f = f q

pub main_kept : (kept ds : List FuncDef) → Apart kept ds → list_any is_main_def ds ≡ true → list_any is_main_def (kept_after kept ds) ≡ true
main_kept kept [] a h = cc
main_kept kept (d ∷ ds) (next c a b) h = by (is_main_def d) refl h (main_kept kept ds b) (main_kept (kept ++ d ∷ []) ds a)
  where
    ahead : (r : Bool) → list_any is_main_def ds ≡ true → (list_any is_main_def ds ≡ true → list_any is_main_def (kept_after kept ds) ≡ true)
        → (list_any is_main_def ds ≡ true → list_any is_main_def (kept_after (kept ++ d ∷ []) ds) ≡ true)
        → list_any is_main_def (kept_after (cond r kept (kept ++ d ∷ [])) ds) ≡ true
    ahead true g p q = p g
    ahead false g p q = q g

    by : (m : Bool) → is_main_def d ≡ m → (m || list_any is_main_def ds) ≡ true
        → (list_any is_main_def ds ≡ true → list_any is_main_def (kept_after kept ds) ≡ true)
        → (list_any is_main_def ds ≡ true → list_any is_main_def (kept_after (kept ++ d ∷ []) ds) ≡ true)
        → list_any is_main_def (kept_after (kept_with kept d) ds) ≡ true
    by true e g p q =
        let f : repeats kept d ≡ false = fresh kept d (and_left _ _ (and_left _ _ e)) c in
        ap (λ r. list_any is_main_def (kept_after (cond r kept (kept ++ d ∷ [])) ds)) f
        ∙ stays is_main_def (kept ++ d ∷ []) ds (last_passes is_main_def kept d e)
    by false e g p q = ahead (repeats kept d) g p q

pub position_there : {A : Type 0} (t : A → Bool) (n : ℕ) (xs : List A) → list_any t xs ≡ true → position_from t n xs ≡ None → ⊥
position_there t n [] h e = cc
position_there t n (x ∷ xs) h e = by (t x) h e (position_there t (n + 1) xs)
  where
    by : (b : Bool) → (b || list_any t xs) ≡ true → cond b (Some n) (position_from t (n + 1) xs) ≡ None
        → (list_any t xs ≡ true → position_from t (n + 1) xs ≡ None → ⊥) → ⊥
    by true h e f = cc
    by false h e f = f h e

-- ---- definitions of objects that are not defined twice

pub or_both : (a b : Bool) → (a || b) ≡ false → (a ≡ false) × (b ≡ false)
or_both true b h = cc
or_both false b h = (refl, h)

none_skips : {A : Type 0} (t : A → Bool) (xs : List A) (d : A) (ys : List A) → list_any t (xs ++ d ∷ ys) ≡ false → list_any t (xs ++ ys) ≡ false
none_skips t [] d ys h = (or_both (t d) (list_any t ys) h).1
none_skips t (x ∷ xs) d ys h = let p = or_both (t x) (list_any t (xs ++ d ∷ ys)) h in rw (p.0, none_skips t xs d ys p.1) refl

two_skips : {A : Type 0} (t : A → A → Bool) (xs : List A) (d : A) (ys : List A) → any_two t (xs ++ d ∷ ys) ≡ false → any_two t (xs ++ ys) ≡ false
two_skips t [] d ys h = (or_both (list_any (t d) ys) (any_two t ys) h).1
two_skips t (x ∷ xs) d ys h = let p = or_both (list_any (t x) (xs ++ d ∷ ys)) (any_two t (xs ++ d ∷ ys)) h in
    rw (none_skips (t x) xs d ys p.0, two_skips t xs d ys p.1) refl

none_at : {A : Type 0} (t : A → Bool) (xs : List A) (d : A) (ys : List A) → list_any t (xs ++ d ∷ ys) ≡ false → t d ≡ false
none_at t [] d ys h = (or_both (t d) (list_any t ys) h).0
none_at t (x ∷ xs) d ys h = none_at t xs d ys (or_both (t x) (list_any t (xs ++ d ∷ ys)) h).1

two_pair : {A : Type 0} (t : A → A → Bool) (xs : List A) (d : A) (ys : List A) → any_two t (xs ++ d ∷ ys) ≡ false → list_any (λ x. t x d) xs ≡ false
two_pair t [] d ys h = refl
two_pair t (x ∷ xs) d ys h = let p = or_both (list_any (t x) (xs ++ d ∷ ys)) (any_two t (xs ++ d ∷ ys)) h in
    rw (none_at (t x) xs d ys p.0, two_pair t xs d ys p.1) refl

append_assoc : {A : Type 0} (xs ys zs : List A) → (xs ++ ys) ++ zs ≡ xs ++ (ys ++ zs)
append_assoc [] ys zs = refl
append_assoc (x ∷ xs) ys zs = ap (λ ws. x ∷ ws) (append_assoc xs ys zs)

-- definitions clash where their entries do
abbrev pub defs_clash : List ℕ → FuncDef → FuncDef → Bool
defs_clash symbol a b = clash symbol (func_entry a.object a.func) (func_entry b.object b.func)

data AllDefined : List FuncDef → Type 0 where
  none : AllDefined []
  some : {d : FuncDef} {ds : List FuncDef} → is_defined d.func ≡ true → AllDefined ds → AllDefined (d ∷ ds)

defined_append : (xs ys : List FuncDef) → AllDefined xs → AllDefined ys → AllDefined (xs ++ ys)
defined_append [] ys h g = g
defined_append (x ∷ xs) ys (some e h) g = some e (defined_append xs ys h g)

no_clash : (symbol : List ℕ) (a b : FuncDef) → is_defined a.func ≡ true → is_defined b.func ≡ true → symbol ≡ func_symbol b → defs_clash symbol a b ≡ false
    → clashes a b ≡ false
no_clash symbol a b da db s h = by (clashes a b) refl
  where
    by : (c : Bool) → clashes a b ≡ c → c ≡ false
    by false e = refl
    by true e =
        let first : defines (func_symbol b) a ≡ true = and_left _ _ e in
        let external : nat_eq b.func.linkage 0 ≡ true = and_right (defines (func_symbol b) a) _ e in
        let seen : not (nat_eq b.func.linkage 1) ≡ true = not_one b.func.linkage external in
        let t : defs_clash symbol a b ≡ true = rw s (and_both _ _
        (and_both _ _ (and_both _ _ da first) (and_both _ _ db (and_both _ _ seen (equals_itself (func_symbol b)))))
        (or_right_true (nat_eq a.func.linkage 0) _ external)) in
        cc
      where
        not_one : (l : ℕ) → nat_eq l 0 ≡ true → not (nat_eq l 1) ≡ true
        not_one l g = let z = eqb-true l 0 g in rw z refl

        or_right_true : (x y : Bool) → y ≡ true → (x || y) ≡ true
        or_right_true true y g = refl
        or_right_true false y g = g

none_clashes : (d : FuncDef) (kept : List FuncDef) → is_defined d.func ≡ true → AllDefined kept → list_any (λ k. defs_clash (func_symbol d) k d) kept ≡ false
    → list_any (λ k. clashes k d) kept ≡ false
none_clashes d [] e a h = refl
none_clashes d (k ∷ ks) e (some f a) h =
    let p = or_both (defs_clash (func_symbol d) k d) (list_any (λ k. defs_clash (func_symbol d) k d) ks) h in
    rw (no_clash (func_symbol d) k d f e refl p.0, none_clashes d ks e a p.1) refl

apart_from : (kept ds : List FuncDef) → AllDefined kept → AllDefined ds → ((symbol : List ℕ) → any_two (defs_clash symbol) (kept ++ ds) ≡ false) → Apart kept ds
apart_from kept [] a b h = done
apart_from kept (d ∷ ds) a (some e b) h =
    next (none_clashes d kept e a (two_pair (defs_clash (func_symbol d)) kept d ds (h (func_symbol d))))
    (apart_from (kept ++ d ∷ []) ds (defined_append kept (d ∷ []) a (some e none)) b (λ symbol. rw (append_assoc kept (d ∷ []) ds) (h symbol)))
    (apart_from kept ds a b (λ symbol. two_skips (defs_clash symbol) kept d ds (h symbol)))

-- the entries of definitions are among those of all functions
here_defined : (at : ℕ) (o : ObjectView) (fs : List FuncView) → AllDefined (map (func_def at o) (filter is_defined fs))
here_defined at o [] = none
here_defined at o (f ∷ fs) = by (is_defined f) refl (here_defined at o fs)
  where
    by : (b : Bool) → is_defined f ≡ b → AllDefined (map (func_def at o) (filter is_defined fs))
        → AllDefined (map (func_def at o) (cond b (f ∷ filter is_defined fs) (filter is_defined fs)))
    by true e r = some e r
    by false e r = r

all_defined : (at : ℕ) (os : List ObjectView) → AllDefined (func_defs at os)
all_defined at [] = none
all_defined at (o ∷ os) = defined_append (map (func_def at o) (filter is_defined o.funcs)) (func_defs (at + 1) os) (here_defined at o o.funcs)
    (all_defined (at + 1) os)

-- a sublist, item by item
data Within {A B : Type 0} (f : A → B) : List A → List B → Type 0 where
  ends : Within f [] []
  takes : {x : A} {xs : List A} {ys : List B} → Within f xs ys → Within f (x ∷ xs) (f x ∷ ys)
  leaves : {y : B} {xs : List A} {ys : List B} → Within f xs ys → Within f xs (y ∷ ys)

within_none : {A B : Type 0} (f : A → B) (t : B → Bool) {xs : List A} {ys : List B} → Within f xs ys → list_any t ys ≡ false
    → list_any (λ x. t (f x)) xs ≡ false
within_none f t ends h = refl
within_none f t (takes {x = x} {xs = xs} {ys = ys} w) h = let p = or_both (t (f x)) (list_any t ys) h in rw (p.0, within_none f t w p.1) refl
within_none f t (leaves w) h = within_none f t w (or_both _ _ h).1

within_two : {A B : Type 0} (f : A → B) (t : B → B → Bool) {xs : List A} {ys : List B} → Within f xs ys → any_two t ys ≡ false
    → any_two (λ x y. t (f x) (f y)) xs ≡ false
within_two f t ends h = refl
within_two f t (takes {x = x} {xs = xs} {ys = ys} w) h = let p = or_both (list_any (t (f x)) ys) (any_two t ys) h in
    rw (within_none f (t (f x)) w p.0, within_two f t w p.1) refl
within_two f t (leaves w) h = within_two f t w (or_both _ _ h).1

abbrev pub entry_of : FuncDef → Entry
entry_of d = func_entry d.object d.func

within_append : {xs ys : List FuncDef} {es fs : List Entry} → Within entry_of xs es → Within entry_of ys fs → Within entry_of (xs ++ ys) (es ++ fs)
within_append ends v = v
within_append (takes w) v = takes (within_append w v)
within_append (leaves w) v = leaves (within_append w v)

here_within : (at : ℕ) (o : ObjectView) (fs : List FuncView) → Within entry_of (map (func_def at o) (filter is_defined fs)) (map (func_entry o) fs)
here_within at o [] = ends
here_within at o (f ∷ fs) = by (is_defined f) (here_within at o fs)
  where
    by : (b : Bool) → Within entry_of (map (func_def at o) (filter is_defined fs)) (map (func_entry o) fs)
        → Within entry_of (map (func_def at o) (cond b (f ∷ filter is_defined fs) (filter is_defined fs))) (func_entry o f ∷ map (func_entry o) fs)
    by true r = takes r
    by false r = leaves r

all_within : (at : ℕ) (os : List ObjectView) → Within entry_of (func_defs at os) (func_entries os)
all_within at [] = ends
all_within at (o ∷ os) = within_append (here_within at o o.funcs) (all_within (at + 1) os)

-- ---- main

main_here : (at : ℕ) (o : ObjectView) (fs : List FuncView)
    → list_any is_main (map (func_entry o) fs) ≡ list_any is_main_def (map (func_def at o) (filter is_defined fs))
main_here at o [] = refl
main_here at o (f ∷ fs) = by (is_defined f) (nat_eq f.linkage 0) (bytes_eq (name_in o f.symbol) (codes "main()")) (bytes_eq (name_in o f.ty) main_type)
    (main_here at o fs) ∙ sym (pull (is_defined f))
  where
    pull : (b : Bool) → list_any is_main_def (map (func_def at o) (cond b (f ∷ filter is_defined fs) (filter is_defined fs)))
        ≡ cond b (is_main_def (func_def at o f) || list_any is_main_def (map (func_def at o) (filter is_defined fs)))
        (list_any is_main_def (map (func_def at o) (filter is_defined fs)))
    pull true = refl
    pull false = refl

    by : (d e s t : Bool) → list_any is_main (map (func_entry o) fs) ≡ list_any is_main_def (map (func_def at o) (filter is_defined fs))
        → ((d && e && (s && t)) || list_any is_main (map (func_entry o) fs))
        ≡ cond d ((e && s && t) || list_any is_main_def (map (func_def at o) (filter is_defined fs)))
        (list_any is_main_def (map (func_def at o) (filter is_defined fs)))
    by true true true t h = ap (λ b. t || b) h
    by true true false t h = h
    by true false s t h = h
    by false e s t h = h

main_among : (at : ℕ) (os : List ObjectView) → list_any is_main (func_entries os) ≡ list_any is_main_def (func_defs at os)
main_among at [] = refl
main_among at (o ∷ os) =
    any_of_append is_main (funcs_of o) (func_entries os)
    ∙ ap (λ b. b || list_any is_main (func_entries os)) (main_here at o o.funcs)
    ∙ ap (λ b. list_any is_main_def (map (func_def at o) (filter is_defined o.funcs)) || b) (main_among (at + 1) os)
    ∙ sym (any_of_append is_main_def (map (func_def at o) (filter is_defined o.funcs)) (func_defs (at + 1) os))

pub main_there : (os : List ObjectView) → NoneOf (is_twice os) → has_main os ≡ true → list_any is_main_def (kept_funcs os) ≡ true
main_there os n h =
    main_kept [] (func_defs 0 os)
    (apart_from [] (func_defs 0 os) none (all_defined 0 os)
    (λ symbol. within_two entry_of (clash symbol) (all_within 0 os) (or_both (any_two (clash symbol) (func_entries os)) _ (n.none symbol)).0))
    (sym (main_among 0 os) ∙ h)
