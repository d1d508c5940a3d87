-- Objects: the fields that are read are spelled so, and what is spelled so is read.
use Rattle.std.proofs.Common.{◌≡◌, ℕ, zero, suc, ◌+◌, ◌^◌, ◌<◌, nat_eq, nat_lt, nat_le, arith, Bool, true, false, cond, List, [], ◌∷◌, length, get_or, Option}
use Rattle.std.proofs.Common.{Some, None, Ordering, Less, Equal, Greater, refl, sym, ap, subst, ◌∙◌, ◌&&◌, ◌||◌, inl, inr}
use Rattle.std.specs.List.{list_all, list_any, slice_get}
use Rattle.std.specs.Str.{bytes_eq}
use Rattle.std.specs.Ordering.{is_lt, nat_cmp}
use Rattle.std.specs.Cmp.Lexicographic.{slice_cmp}
use Rattle.std.proofs.lemmas.Bool.{and_parts, and_from, lt-ltb, le-leb, leb-true, ltb-true, false≢true, cases_Bool, false_from_ne_true, or_right}
use Rattle.std.proofs.lemmas.Cmp.{nat_list_cmp_total, tied_itself}
use Rattle.std.proofs.lemmas.Slice.Eq.{bytes_eq-Decides}
use Rattle.std.proofs.lemmas.Option.{slice_get-get_or, slice_get_within}
use Rattle.tx_code.specs.Objects.{ClassView, GlobalView, FuncView, ObjectView}
use Rattle.tx_code.specs.WellFormed.{bytes_lt, is_count, is_length, is_name_or_none, ascends, ascends_from, ascends_by, source_fits, class_fits, global_fits}
use Rattle.tx_code.specs.WellFormed.{func_fits}
use Rattle.object_bytes.specs.Spelling.{u32_bytes, list_bytes, name_bytes, class_bytes, global_bytes, magic, number_of, source_number, source_bytes}
use Rattle.object_bytes.specs.Spelling.{object_bytes, is_u8, is_u32, class_is_wide, global_is_wide, func_is_wide, is_wide}
use Rattle.object_bytes.specs.Decoder.{done, bind}
use Rattle.object_bytes.specs.Fields.{above, is_name_length, name_or_none, text, name_item}
use Rattle.object_bytes.specs.Objects.{source_of, source_field, entries, object}
use Rattle.object_bytes.proofs.Codec.{Reads, Is, Again, reads_weaken, reads_done, reads_field, reads_last, reads_test, again_done, again_bind, again_last}
use Rattle.object_bytes.proofs.Codec.{again_test, u32_reads, u32_again, raw_reads, raw_again}
use Rattle.object_bytes.proofs.Parts.{parts5}
use Rattle.object_bytes.proofs.Lists.{ItemFits, OneFits, ordered, ordered_ascends, list_reads, list_again}
use Rattle.object_bytes.proofs.EntryLaws.{name_or_none_reads, name_or_none_again, class_reads, class_again, classes_ascend, global_reads, global_again}
use Rattle.object_bytes.proofs.EntryLaws.{globals_ascend, func_reads, func_again, funcs_ascend}

-- ---- order of bytes

less_is : (o : Ordering) → is_lt o ≡ true → o ≡ Less
less_is Less h = refl
less_is Equal h = absurd (false≢true h)
less_is Greater h = absurd (false≢true h)

lt_trans : (a b c : List ℕ) → bytes_lt a b ≡ true → bytes_lt b c ≡ true → bytes_lt a c ≡ true
lt_trans a b c h k = ap is_lt (nat_list_cmp_total.trans a b c (less_is (slice_cmp nat_cmp a b) h) (less_is (slice_cmp nat_cmp b c) k))

lt_itself : (a : List ℕ) → bytes_lt a a ≡ true → ⊥
lt_itself a h = false≢true (sym (ap is_lt (tied_itself nat_list_cmp_total a)) ∙ h)

bytes_same : (a b : List ℕ) → bytes_eq a b ≡ true → a ≡ b
bytes_same a b h = (bytes_eq-Decides a b).0 h

bytes_itself : (a : List ℕ) → bytes_eq a a ≡ true
bytes_itself a = (bytes_eq-Decides a a).1 refl

lt_not_eq : (a b : List ℕ) → bytes_lt a b ≡ true → bytes_eq b a ≡ false
lt_not_eq a b h = false_from_ne_true (bytes_eq b a) (λ e. lt_itself a (subst (λ (z : List ℕ). bytes_lt a z ≡ true) (bytes_same b a e) h))

-- ---- names

abbrev pub name_order : Option (List ℕ) → List ℕ → Bool
name_order before name = above bytes_lt before name

length_wide : (name : List ℕ) → is_length name ≡ true → is_u32 (length name) ≡ true
length_wide name h =
    let p = and_parts (nat_lt 0 (length name)) (nat_le (length name) 1048576) h in
    lt-ltb (length name) (2 ^ 32) (omega (arith, leb-true (length name) 1048576 p.1))

text_reads : Reads text (Is name_bytes (OneFits is_length (list_all is_u8)))
unfolding text
text_reads = reads_field (reads_test is_name_length u32_reads)
    (λ n hn. reads_weaken (λ p x h. record { spelled = rw (h.spelled, h.fits.0) refl; fits = record { test = rw h.fits.0 hn.1; wide = h.fits.1 } })
    (raw_reads n))

text_again : (name : List ℕ) → is_length name ≡ true → Again text (name_bytes name) name
unfolding text
text_again name h = again_bind _ (u32_bytes (length name)) name (again_test _ (u32_again (length name) (length_wide name h)) h) (raw_again name)

name_reads : (before : Option (List ℕ)) → Reads (name_item before) (Is name_bytes (ItemFits is_length (list_all is_u8) name_order before))
unfolding name_item
name_reads before = reads_weaken (λ p x h. record { spelled = h.spelled; fits = record { test = h.fits.0.test; wide = h.fits.0.wide; order = h.fits.1 } })
    (reads_test _ text_reads)

name_again : (before : Option (List ℕ)) (name : List ℕ) → ItemFits is_length (list_all is_u8) name_order before name
    → Again (name_item before) (name_bytes name) name
unfolding name_item
name_again before name fits = again_test _ (text_again name fits.test) fits.order

names_ascend : (names : List (List ℕ)) → ordered (λ name. name) name_order None names ≡ ascends bytes_lt names
names_ascend names = ordered_ascends (λ name. name) name_order (λ name. refl) names

-- ---- the source

ascends_rest : (a : List ℕ) (xs : List (List ℕ)) → ascends_from bytes_lt a xs ≡ true → ascends bytes_lt xs ≡ true
ascends_rest a [] h = refl
ascends_rest a (x ∷ xs) h = (and_parts (bytes_lt a x) (ascends_from bytes_lt x xs) h).1

all_above : (a : List ℕ) (xs : List (List ℕ)) (i : ℕ) (x : List ℕ) → ascends_from bytes_lt a xs ≡ true → slice_get xs i ≡ Some x → bytes_lt a x ≡ true
all_above a [] i x h e = absurd cc
all_above a (y ∷ ys) zero x h e =
    let same : y ≡ x = cc in
    subst (λ (z : List ℕ). bytes_lt a z ≡ true) same (and_parts (bytes_lt a y) (ascends_from bytes_lt y ys) h).0
all_above a (y ∷ ys) (suc i) x h e =
    let p = and_parts (bytes_lt a y) (ascends_from bytes_lt y ys) h in
    lt_trans a y x p.0 (all_above y ys i x p.1 e)

number_found : (k : ℕ) (names : List (List ℕ)) (i : ℕ) (x : List ℕ) → ascends bytes_lt names ≡ true → slice_get names i ≡ Some x → number_of k names x ≡ k + i
number_found k [] i x h e = absurd cc
number_found k (y ∷ ys) zero x h e =
    let same : x ≡ y = cc in
    let eq : bytes_eq x y ≡ true = rw same (bytes_itself y) in
    let k0 : k ≡ k + 0 = omega arith in
    rw eq k0
number_found k (y ∷ ys) (suc i) x h e =
    let ne : bytes_eq x y ≡ false = lt_not_eq y x (all_above y ys i x h e) in
    let more : number_of (k + 1) ys x ≡ k + 1 + i = number_found (k + 1) ys i x (ascends_rest y ys h) e in
    let k1 : k + 1 + i ≡ k + suc i = omega arith in
    rw ne (more ∙ k1)

pub number_back : (k : ℕ) (names : List (List ℕ)) (x : List ℕ) → list_any (bytes_eq x) names ≡ true → (i : ℕ) × (number_of k names x ≡ k + i)
    × (slice_get names i ≡ Some x)
number_back k [] x h = absurd (false≢true h)
number_back k (y ∷ ys) x h =
    elim (cases_Bool (bytes_eq x y)) [
      | inl eq ↦
          let k0 : k ≡ k + 0 = omega arith in
          (0, rw eq k0, ap (λ (z : List ℕ). Some z) (sym (bytes_same x y eq)))
      | inr ne ↦
          let rest : list_any (bytes_eq x) ys ≡ true = rw ne at h in
          let b = number_back (k + 1) ys x rest in
          let k1 : k + 1 + b.0 ≡ k + suc b.0 = omega arith in
          (suc b.0, rw ne (b.1 ∙ k1), b.2)
    ]

abbrev pub fits_by : Bool → List (List ℕ) → Option (List ℕ) → Bool
fits_by b names None = true
fits_by b names (Some name) = b && list_any (bytes_eq name) names

pub source_fits_is : (version : ℕ) (names : List (List ℕ)) (source : Option (List ℕ))
    → source_fits version names source ≡ fits_by (nat_eq version 2) names source
source_fits_is version names None = refl
source_fits_is version names (Some name) = refl

found_in : (names : List (List ℕ)) (i : ℕ) (x : List ℕ) → slice_get names i ≡ Some x → list_any (bytes_eq x) names ≡ true
found_in [] i x e = absurd cc
found_in (y ∷ ys) zero x e =
    let same : x ≡ y = cc in
    let eq : bytes_eq x y ≡ true = rw same (bytes_itself y) in
    rw eq refl
found_in (y ∷ ys) (suc i) x e = or_right (bytes_eq x y) (list_any (bytes_eq x) ys) (found_in ys i x e)

pub record Numbered (names : List (List ℕ)) (i : ℕ) (source : Option (List ℕ)) : Type 0 where
  pub number : i ≡ source_number names source
  pub named : fits_by true names source ≡ true

pub numbered : (names : List (List ℕ)) (i : ℕ) → ascends bytes_lt names ≡ true → is_name_or_none (length names) i ≡ true → Numbered names i (source_of names i)
numbered names zero h fits = record { number = refl; named = refl }
numbered names (suc i) h fits =
    let lt : i < length names = omega (arith, leb-true (suc i) (length names) fits) in
    let e : slice_get names i ≡ Some (get_or names i []) = slice_get-get_or names i [] lt in
    let k1 : 1 + i ≡ suc i = omega arith in
    rw e (record { number = sym (number_found 1 names i (get_or names i []) h e ∙ k1); named = found_in names i (get_or names i []) e })

source_read : (b : Bool) (names : List (List ℕ)) → ascends bytes_lt names ≡ true
    → Reads (cond b (bind (name_or_none (length names)) (λ i. done (source_of names i))) (done None))
    (Is (λ s. cond b (u32_bytes (source_number names s)) []) (λ s. fits_by b names s ≡ true))
source_read true names h = reads_last _ (name_or_none_reads (length names)) (λ i hi.
    let n = numbered names i h hi.test in
    record { spelled = ap u32_bytes n.number; fits = n.named })
source_read false names h = reads_done _ (record { spelled = refl; fits = refl })

source_again : (b : Bool) (names : List (List ℕ)) (source : Option (List ℕ)) → is_count names ≡ true → fits_by b names source ≡ true
    → Again (cond b (bind (name_or_none (length names)) (λ i. done (source_of names i))) (done None))
    (cond b (u32_bytes (source_number names source)) []) source
source_again true names None count h = again_last (λ i. source_of names i)
    (name_or_none_again (length names) 0 (record { test = le-leb 0 (length names) (omega arith); wide = refl }))
source_again true names (Some x) count h =
    let b = number_back 1 names x h in
    let lt : b.0 < length names = slice_get_within names b.0 x b.2 in
    let k1 : number_of 1 names x ≡ suc b.0 = b.1 ∙ omega arith in
    let small : length names < 2 ^ 32 = ltb-true _ _ count in
    let here : Again (bind (name_or_none (length names)) (λ i. done (source_of names i))) (u32_bytes (suc b.0)) (slice_get names b.0) =
    again_last (λ i. source_of names i) (name_or_none_again (length names) (suc b.0)
    (record { test = le-leb (suc b.0) (length names) (omega arith); wide = lt-ltb (suc b.0) (2 ^ 32) (omega arith) })) in
    subst (λ (k : ℕ). Again (bind (name_or_none (length names)) (λ i. done (source_of names i))) (u32_bytes k) (Some x)) (sym k1)
    (subst (λ (s : Option (List ℕ)). Again (bind (name_or_none (length names)) (λ i. done (source_of names i))) (u32_bytes (suc b.0)) s) b.2 here)
source_again false names None count h = again_done _
source_again false names (Some x) count h = absurd (false≢true h)

-- ---- objects

-- all conditions of an object but those that speak of the whole
pub record FieldsFit (o : ObjectView) : Type 0 where
  pub version : (nat_eq o.version 1 || nat_eq o.version 2) ≡ true
  pub name_count : is_count o.names ≡ true
  pub names : list_all is_length o.names ≡ true
  pub names_ascend : ascends bytes_lt o.names ≡ true
  pub source : source_fits o.version o.names o.source ≡ true
  pub class_count : is_count o.classes ≡ true
  pub classes : list_all (class_fits (length o.names)) o.classes ≡ true
  pub classes_ascend : ascends_by (λ (c : ClassView). c.name) o.classes ≡ true
  pub global_count : is_count o.globals ≡ true
  pub globals : list_all (global_fits (length o.names)) o.globals ≡ true
  pub globals_ascend : ascends_by (λ (g : GlobalView). g.symbol) o.globals ≡ true
  pub func_count : is_count o.funcs ≡ true
  pub funcs : list_all (func_fits o.version (length o.names)) o.funcs ≡ true
  pub funcs_ascend : ascends_by (λ (f : FuncView). f.symbol) o.funcs ≡ true
  pub wide : is_wide o ≡ true

pub object_reads : Reads object (Is object_bytes FieldsFit)
unfolding object entries source_field object_bytes is_wide
object_reads = reads_field (reads_test _ (raw_reads 4))
    (λ head h1. reads_field (reads_test _ u32_reads) (λ version h2. reads_field (list_reads name_reads) (λ names h3.
    let ascend : ascends bytes_lt names ≡ true = sym (names_ascend names) ∙ h3.1.orders in
    reads_field (source_read (nat_eq version 2) names ascend)
    (λ source h4. reads_field (list_reads (class_reads (length names)))
    (λ classes h5. reads_field (list_reads (global_reads (length names)))
    (λ globals h6. reads_last _ (list_reads (func_reads version (length names))) (λ funcs h7.
    record {
      spelled = rw (bytes_same head magic h1.1) refl;
      fits = record {
        version = h2.1;
        name_count = h3.0;
        names = h3.1.tests;
        names_ascend = ascend;
        source = source_fits_is version names source ∙ h4;
        class_count = h5.0;
        classes = h5.1.tests;
        classes_ascend = sym (classes_ascend classes) ∙ h5.1.orders;
        global_count = h6.0;
        globals = h6.1.tests;
        globals_ascend = sym (globals_ascend globals) ∙ h6.1.orders;
        func_count = h7.0;
        funcs = h7.1.tests;
        funcs_ascend = sym (funcs_ascend funcs) ∙ h7.1.orders;
        wide = and_from _ _ (and_from _ _ (and_from _ _ (and_from _ _ h2.0 h3.1.wides) h5.1.wides) h6.1.wides) h7.1.wides;
      };
    })))))))

pub object_again : (o : ObjectView) → FieldsFit o → Again object (object_bytes o) o
unfolding object entries source_field object_bytes is_wide
object_again o f =
    let w = parts5 (is_u32 o.version) (list_all (list_all is_u8) o.names) (list_all class_is_wide o.classes) (list_all global_is_wide o.globals)
    (list_all func_is_wide o.funcs) f.wide in
    again_bind _ magic _ (again_test _ (raw_again magic) refl) (again_bind _ (u32_bytes o.version) _ (again_test _ (u32_again o.version w.0) f.version)
    (again_bind _ (list_bytes name_bytes o.names) _ (list_again name_again o.names f.name_count
    (record { tests = f.names; wides = w.1; orders = names_ascend o.names ∙ f.names_ascend }))
    (again_bind _ (source_bytes o.version o.names o.source) _
    (source_again (nat_eq o.version 2) o.names o.source f.name_count (sym (source_fits_is o.version o.names o.source) ∙ f.source))
    (again_bind _ (list_bytes class_bytes o.classes) _
    (list_again (class_again (length o.names)) o.classes f.class_count
    (record { tests = f.classes; wides = w.2; orders = classes_ascend o.classes ∙ f.classes_ascend }))
    (again_bind _ (list_bytes global_bytes o.globals) _
    (list_again (global_again (length o.names)) o.globals f.global_count
    (record { tests = f.globals; wides = w.3; orders = globals_ascend o.globals ∙ f.globals_ascend }))
    (again_last _ (list_again (func_again o.version (length o.names)) o.funcs f.func_count
    (record { tests = f.funcs; wides = w.4; orders = funcs_ascend o.funcs ∙ f.funcs_ascend }))))))))
