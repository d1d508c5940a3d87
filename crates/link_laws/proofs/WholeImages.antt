-- What the type `Image` keeps holds of each image that objects link to.
use Rattle.std.proofs.Common.{Bool, true, false, ◌≡◌, ◌<◌, ◌≤◌, ℕ, suc, zero, ◌+◌, ◌%◌, List, [], ◌∷◌, ◌++◌, map, filter, length, refl, ap, ◌∙◌, arith, Option}
use Rattle.std.proofs.Common.{Some, None, ◌&&◌, nat_eq, nat_lt, nat_le, cond, slice_get, unwrap_or, length-append, codes, eq-eqb}
use Rattle.std.specs.List.{All, flat_map, list_all, position_from}
use Rattle.std.specs.Option.{option_map}
use Rattle.std.specs.Str.{bytes_eq}
use borrow.Author.Tests.{ltb-true}
use Rattle.std.proofs.lemmas.Bool.{lt-ltb, le-leb}
use Rattle.std.proofs.lemmas.List.{length-map}
use Rattle.tx_code.specs.Objects.{ObjectView, FuncView}
use Rattle.tx_code.specs.WellFormed.{ascends, ascends_from, is_defined, func_fits, is_multiple, IsObject}
use Rattle.tx_code.specs.Images.{ImageView, size_fits, main_type, is_main, slot_fits, slots_fit}
use Rattle.tx_code.specs.Linked.{absent, FuncDef, GlobalDef, ClassDef, func_def, func_defs, kept_after, kept_funcs, kept_classes, repeats, or_else, or_none}
use Rattle.tx_code.specs.Linked.{func_number, is_own, defines, name_in, image_func, image_class, is_main_def, func_symbol, global_defs, rounded, end_of}
use Rattle.tx_code.specs.Linked.{ImageOf}
use Rattle.link_faults.specs.Ranks.{names_of}
use Rattle.link_faults.proofs.Ascending.{and_left, and_right}
use Rattle.link_faults.proofs.ListedEntries.{and_both, func_symbol as func_symbol_fits}

-- ---- the size

pub end_multiple : (start : ℕ) (ds : List GlobalDef) → start % 8 ≡ 0 → end_of start ds % 8 ≡ 0
end_multiple start [] e = e
end_multiple start (d ∷ ds) e = end_multiple (start + rounded d.global.size) ds (omega arith)

pub end_above : (start : ℕ) (ds : List GlobalDef) → start ≤ end_of start ds
end_above start [] = omega arith
end_above start (d ∷ ds) = let e = end_above (start + rounded d.global.size) ds in omega (arith, e)

-- ---- positions

pub record FoundAt {A : Type 0} (t : A → Bool) (n : ℕ) (xs : List A) (i k : ℕ) (x : A) : Type 0 where
  pub index : i ≡ n + k
  pub within : k < length xs
  pub is : slice_get xs k ≡ Some x
  pub passes : t x ≡ true

pub position_found : {A : Type 0} (t : A → Bool) (n : ℕ) (xs : List A) (i : ℕ) → position_from t n xs ≡ Some i → (k : ℕ) × ((x : A) × FoundAt t n xs i k x)
position_found t n [] i e = cc
position_found {A} t n (x ∷ xs) i e = by (t x) refl e (position_found t (n + 1) xs i)
  where
    by : (b : Bool) → t x ≡ b → cond b (Some n) (position_from t (n + 1) xs) ≡ Some i
        → (position_from t (n + 1) xs ≡ Some i → (k : ℕ) × ((y : A) × FoundAt t (n + 1) xs i k y)) → (k : ℕ) × ((y : A) × FoundAt t n (x ∷ xs) i k y)
    by true f g h = (0, (x, record { index = (let s : n ≡ i = inside_number n i g in omega (arith, s)); within = omega arith; is = refl; passes = f }))
      where
        inside_number : (a b : ℕ) → Some a ≡ Some b → a ≡ b
        inside_number a b q = cc
    by false f g h = let r = h g in (
      suc r.0,
      (
        r.1.0,
        record {
          index = (let s = r.1.1.index in omega (arith, s));
          within = (let w = r.1.1.within in omega (arith, w));
          is = r.1.1.is;
          passes =
              r.1.1.passes;
        },
      ),
    )

pub get_map : {A B : Type 0} (f : A → B) (xs : List A) (i : ℕ) → slice_get (map f xs) i ≡ option_map f (slice_get xs i)
get_map f [] i = refl
get_map f (x ∷ xs) zero = refl
get_map f (x ∷ xs) (suc i) = get_map f xs i

-- ---- main

main_passes : (d : FuncDef) → is_main_def d ≡ true → bytes_eq (name_in d.object d.func.ty) main_type ≡ true
main_passes d e = and_right (nat_eq d.func.linkage 0 && bytes_eq (func_symbol d) (codes "main()")) _ e

pub main_starts : (os : List ObjectView) (types : List (List ℕ)) (main : ℕ) → position_from is_main_def 0 (kept_funcs os) ≡ Some main
    → is_main (map (image_func os types) (kept_funcs os)) main ≡ true
main_starts os types main e =
    let r = position_found is_main_def 0 (kept_funcs os) main e in
    let i : main ≡ r.0 = let s = r.1.1.index in omega (arith, s) in
    let at : slice_get (map (image_func os types) (kept_funcs os)) main ≡ Some (image_func os types r.1.0) =
    get_map (image_func os types) (kept_funcs os) main ∙ ap (λ k. option_map (image_func os types) (slice_get (kept_funcs os) k)) i
    ∙ ap (option_map (image_func os types)) r.1.1.is in
    rw at (main_passes r.1.0 r.1.1.passes)

-- ---- slots

number_within : {A : Type 0} (t : A → Bool) (xs : List A) (o : Option ℕ) → position_from t 0 xs ≡ o → slot_fits (length xs) o ≡ true
number_within t xs None e = refl
number_within t xs (Some i) e = let r = position_found t 0 xs i e in lt-ltb i (length xs) (let a = r.1.1.index in let b = r.1.1.within in omega (arith, a, b))

either_within : (n : ℕ) (a b : Option ℕ) → slot_fits n a ≡ true → slot_fits n b ≡ true → slot_fits n (or_else a b) ≡ true
either_within n None b h g = g
either_within n (Some k) b h g = h

slot_within : (os : List ObjectView) (at : ℕ) (o : ObjectView) (slot : ℕ) → slot_fits (length (kept_funcs os)) (or_none (func_number os at o) slot) ≡ true
slot_within os at o zero = refl
slot_within os at o (suc name) = either_within (length (kept_funcs os)) (position_from (is_own at name) 0 (kept_funcs os))
    (position_from (defines (name_in o name)) 0 (kept_funcs os)) (number_within (is_own at name) (kept_funcs os) _ refl)
    (number_within (defines (name_in o name)) (kept_funcs os) _ refl)

slots_within : (os : List ObjectView) (at : ℕ) (o : ObjectView) (slots : List ℕ)
    → list_all (slot_fits (length (kept_funcs os))) (map (or_none (func_number os at o)) slots) ≡ true
slots_within os at o [] = refl
slots_within os at o (s ∷ ss) = and_both _ _ (slot_within os at o s) (slots_within os at o ss)

pub all_slots : (os : List ObjectView) (ds : List ClassDef) → slots_fit (length (kept_funcs os)) (map (image_class os) ds) ≡ true
all_slots os [] = refl
all_slots os (d ∷ ds) = and_both _ _ (slots_within os d.at d.object d.class.slots) (all_slots os ds)

-- ---- few functions

kept_fewer : (kept ds : List FuncDef) → length (kept_after kept ds) ≤ length kept + length ds
kept_fewer kept [] = omega arith
kept_fewer kept (d ∷ ds) = by (repeats kept d) (λ ks. kept_fewer ks ds)
  where
    by : (b : Bool) → ((ks : List FuncDef) → length (kept_after ks ds) ≤ length ks + length ds)
        → length (kept_after (cond b kept (kept ++ d ∷ [])) ds) ≤ length kept + length (d ∷ ds)
    by true f = let r = f kept in omega (arith, r)
    by false f = let r = f (kept ++ d ∷ []) in let l = length-append kept (d ∷ []) in omega (arith, r, l)

filter_shorter : {A : Type 0} (p : A → Bool) (xs : List A) → length (filter p xs) ≤ length xs
filter_shorter p [] = omega arith
filter_shorter {A} p (x ∷ xs) = by (p x) (filter_shorter p xs)
  where
    by : (b : Bool) → length (filter p xs) ≤ length xs → length (cond b (x ∷ filter p xs) (filter p xs)) ≤ length (x ∷ xs)
    by true r = omega (arith, r)
    by false r = omega (arith, r)

above : (v n : ℕ) (f : FuncView) (fs : List FuncView) → ascends_from (λ (a b : FuncView). nat_lt a.symbol b.symbol) f fs ≡ true
    → list_all (func_fits v n) (f ∷ fs) ≡ true → f.symbol + length (f ∷ fs) ≤ n
above v n f [] h l = let s = ltb-true f.symbol n (func_symbol_fits v n f (and_left (func_fits v n f) _ l)) in omega (arith, s)
above v n f (k ∷ ks) h l =
    let less = ltb-true f.symbol k.symbol (and_left _ _ h) in
    let rest = above v n k ks (and_right (nat_lt f.symbol k.symbol) _ h) (and_right (func_fits v n f) _ l) in
    omega (arith, less, rest)

few_funcs : (v n : ℕ) (fs : List FuncView) → ascends (λ (a b : FuncView). nat_lt a.symbol b.symbol) fs ≡ true → list_all (func_fits v n) fs ≡ true
    → length fs ≤ n
few_funcs v n [] h l = omega arith
few_funcs v n (f ∷ fs) h l = let a = above v n f fs h l in omega (arith, a)

pub data AllObjects : List ObjectView → Type 0 where
  none : AllObjects []
  some : {o : ObjectView} {os : List ObjectView} → IsObject o → AllObjects os → AllObjects (o ∷ os)

few_defs : (at : ℕ) (os : List ObjectView) → AllObjects os → length (func_defs at os) ≤ length (flat_map names_of os)
few_defs at [] h = omega arith
few_defs at (o ∷ os) (some i h) =
    let here = few_funcs o.version (length o.names) o.funcs i.funcs_ascend i.funcs in
    let shorter = filter_shorter is_defined o.funcs in
    let rest = few_defs (at + 1) os h in
    let a = length-map (filter is_defined o.funcs) (func_def at o) in
    let b = length-append (map (func_def at o) (filter is_defined o.funcs)) (func_defs (at + 1) os) in
    let c = length-append o.names (flat_map names_of os) in
    let d : length (func_defs at (o ∷ os)) ≡ length (map (func_def at o) (filter is_defined o.funcs) ++ func_defs (at + 1) os) = refl in
    let e : length (flat_map names_of (o ∷ os)) ≡ length (o.names ++ flat_map names_of os) = refl in
    omega (arith, here, shorter, rest, a, b, c, d, e)

pub few_kept : (os : List ObjectView) → AllObjects os → length (kept_funcs os) ≤ length (flat_map names_of os)
few_kept os h = let a = kept_fewer [] (func_defs 0 os) in let b = few_defs 0 os h in omega (arith, a, b)

pub number_bounded : (os : List ObjectView) (at : ℕ) (o : ObjectView) (n : ℕ) → length (kept_funcs os) ≤ 4294967295
    → unwrap_or (func_number os at o n) absent ≤ 4294967295
number_bounded os at o n few = by (func_number os at o n) (slot_within os at o (suc n))
  where
    by : (r : Option ℕ) → slot_fits (length (kept_funcs os)) r ≡ true → unwrap_or r absent ≤ 4294967295
    by None h = omega arith
    by (Some i) h = let l = ltb-true i (length (kept_funcs os)) h in omega (arith, l)

-- ---- of an image

pub all_objects : (os : List ObjectView) → All IsObject os → AllObjects os
all_objects [] h = none
all_objects (o ∷ os) h = some (h 0 o (omega arith)) (all_objects os (λ k d l. h (suc k) d (omega arith)))

pub few_image : (os : List ObjectView) (i : ImageView) → AllObjects os → length (flat_map names_of os) < 4294967295 → ImageOf os i → length i.funcs < 4294967295
few_image os i h l o =
    let a : length i.funcs ≡ length (kept_funcs os) = ap length o.funcs ∙ length-map (kept_funcs os) (image_func os i.types) in
    let b = few_kept os h in
    omega (arith, a, b, l)

pub starts_image : (os : List ObjectView) (i : ImageView) → ImageOf os i → is_main i.funcs i.main ≡ true
starts_image os i o = ap (λ fs. is_main fs i.main) o.funcs ∙ main_starts os i.types i.main o.main

pub slots_image : (os : List ObjectView) (i : ImageView) → ImageOf os i → slots_fit (length i.funcs) i.classes ≡ true
slots_image os i o =
    let a : length i.funcs ≡ length (kept_funcs os) = ap length o.funcs ∙ length-map (kept_funcs os) (image_func os i.types) in
    ap (λ n. slots_fit n i.classes) a ∙ ap (slots_fit (length (kept_funcs os))) o.classes ∙ all_slots os (kept_classes os)

pub size_image : (os : List ObjectView) (i : ImageView) → ImageOf os i → i.size ≤ 1048576 → size_fits i.size ≡ true
size_image os i o l =
    let m : end_of 0 (global_defs 0 os) % 8 ≡ 0 = end_multiple 0 (global_defs 0 os) refl in
    let e : i.size % 8 ≡ 0 = ap (λ n. n % 8) o.size ∙ m in
    and_both (is_multiple i.size 8) (nat_le i.size 1048576) (eq-eqb (i.size % 8) 0 e) (le-leb i.size 1048576 l)
