-- Lists of items, each of which may depend on the one before it.
use Rattle.std.proofs.Common.{◌≡◌, ℕ, zero, suc, Bool, true, List, [], ◌∷◌, ◌++◌, length, Option, Some, None, refl, ap, ◌&&◌}
use Rattle.std.specs.List.{list_all, flat_map}
use Rattle.std.proofs.lemmas.Bool.{and_parts, and_from}
use Rattle.std.proofs.lemmas.List.{append-nil}
use Rattle.tx_code.specs.WellFormed.{is_count, ascends, ascends_from}
use Rattle.object_bytes.specs.Spelling.{u32_bytes, list_bytes}
use Rattle.object_bytes.specs.Decoder.{Decoder, items, list, each}
use Rattle.object_bytes.proofs.Codec.{Reads, Is, Again, reads_weaken, reads_done, reads_field, reads_bind, again_done, again_bind, again_last, u32_reads}
use Rattle.object_bytes.proofs.Codec.{u32_again}

-- what holds of an item: its test, its widths, and its order to the one before it
pub record ItemFits {A K : Type 0} (t w : A → Bool) (o : Option K → A → Bool) (before : Option K) (x : A) : Type 0 where
  pub test : t x ≡ true
  pub wide : w x ≡ true
  pub order : o before x ≡ true

-- each item is in order behind the one before it
abbrev pub ordered : {A K : Type 0} → (A → K) → (Option K → A → Bool) → Option K → List A → Bool
ordered key order before [] = true
ordered key order before (x ∷ xs) = order before x && ordered key order (Some (key x)) xs

pub record ListFits {A K : Type 0} (key : A → K) (test wide : A → Bool) (order : Option K → A → Bool) (before : Option K) (xs : List A) : Type 0 where
  pub tests : list_all test xs ≡ true
  pub wides : list_all wide xs ≡ true
  pub orders : ordered key order before xs ≡ true

none_fit : {A K : Type 0} {key : A → K} {test wide : A → Bool} {order : Option K → A → Bool} {before : Option K} → ListFits key test wide order before []
none_fit = record { tests = refl; wides = refl; orders = refl }

more_fit : {A K : Type 0} {key : A → K} {test wide : A → Bool} {order : Option K → A → Bool} {before : Option K} {x : A} {xs : List A}
    → ItemFits test wide order before x → ListFits key test wide order (Some (key x)) xs → ListFits key test wide order before (x ∷ xs)
more_fit a b = record { tests = and_from _ _ a.test b.tests; wides = and_from _ _ a.wide b.wides; orders = and_from _ _ a.order b.orders }

pub items_read : {A K : Type 0} (key : A → K) (test wide : A → Bool) (order : Option K → A → Bool) (spell : A → List ℕ) (item : Option K → Decoder A)
    → ((before : Option K) → Reads (item before) (Is spell (ItemFits test wide order before)))
    → (n : ℕ) (before : Option K) → Reads (items key item before n) (Is (flat_map spell) (λ xs. (length xs ≡ n) × ListFits key test wide order before xs))
unfolding items
items_read key test wide order spell item reads zero before = reads_done _ (record { spelled = refl; fits = (refl, none_fit) })
items_read key test wide order spell item reads (suc n) before =
    reads_field (reads before) (λ x hx. reads_bind (items_read key test wide order spell item reads n (Some (key x)))
    (λ xs p hxs. reads_done _ (record {
      spelled = rw hxs.spelled (ap (λ (z : List ℕ). spell x ++ z) (append-nil (flat_map spell xs)));
      fits =
          (ap suc hxs.fits.0, more_fit hx hxs.fits.1);
    })))

pub list_reads : {A K : Type 0} {key : A → K} {test wide : A → Bool} {order : Option K → A → Bool} {spell : A → List ℕ} {item : Option K → Decoder A}
    → ((before : Option K) → Reads (item before) (Is spell (ItemFits test wide order before)))
    → Reads (list key item) (Is (list_bytes spell) (λ xs. (is_count xs ≡ true) × ListFits key test wide order None xs))
unfolding list
list_reads {key = key} {test = test} {wide = wide} {order = order} {spell = spell} {item = item} reads =
    reads_field u32_reads (λ n hn. reads_weaken (λ p xs h. record { spelled = rw (h.spelled, h.fits.0) refl; fits = (rw h.fits.0 hn, h.fits.1) })
    (items_read key test wide order spell item reads n None))

pub items_again : {A K : Type 0} (key : A → K) (test wide : A → Bool) (order : Option K → A → Bool) (spell : A → List ℕ) (item : Option K → Decoder A)
    → ((before : Option K) (x : A) → ItemFits test wide order before x → Again (item before) (spell x) x)
    → (xs : List A) (before : Option K) → ListFits key test wide order before xs → Again (items key item before (length xs)) (flat_map spell xs) xs
unfolding items
items_again key test wide order spell item again [] before fits = again_done _
items_again key test wide order spell item again (x ∷ xs) before fits =
    let t = and_parts _ _ fits.tests in
    let w = and_parts _ _ fits.wides in
    let o = and_parts _ _ fits.orders in
    let hx : ItemFits test wide order before x = record { test = t.0; wide = w.0; order = o.0 } in
    let hxs : ListFits key test wide order (Some (key x)) xs = record { tests = t.1; wides = w.1; orders = o.1 } in
    again_bind _ (spell x) (flat_map spell xs) (again before x hx) (again_last _ (items_again key test wide order spell item again xs (Some (key x)) hxs))

pub list_again : {A K : Type 0} {key : A → K} {test wide : A → Bool} {order : Option K → A → Bool} {spell : A → List ℕ} {item : Option K → Decoder A}
    → ((before : Option K) (x : A) → ItemFits test wide order before x → Again (item before) (spell x) x)
    → (xs : List A) → is_count xs ≡ true → ListFits key test wide order None xs → Again (list key item) (list_bytes spell xs) xs
unfolding list
list_again {key = key} {test = test} {wide = wide} {order = order} {spell = spell} {item = item} again xs count fits =
    again_bind _ (u32_bytes (length xs)) (flat_map spell xs) (u32_again (length xs) count) (items_again key test wide order spell item again xs None fits)

-- ---- items that do not depend on one another

abbrev pub any_order : {A : Type 0} → Option A → A → Bool
any_order before x = true

pub record EachFits {A : Type 0} (test wide : A → Bool) (xs : List A) : Type 0 where
  pub tests : list_all test xs ≡ true
  pub wides : list_all wide xs ≡ true

pub record OneFits {A : Type 0} (t w : A → Bool) (x : A) : Type 0 where
  pub test : t x ≡ true
  pub wide : w x ≡ true

pub each_reads : {A : Type 0} {test wide : A → Bool} {spell : A → List ℕ} {item : Decoder A} → Reads item (Is spell (OneFits test wide))
    → Reads (each item) (Is (list_bytes spell) (λ xs. (is_count xs ≡ true) × EachFits test wide xs))
each_reads {test = test} {wide = wide} {spell = spell} {item = item} reads =
    reads_weaken (λ p xs h. record { spelled = h.spelled; fits = (h.fits.0, record { tests = h.fits.1.tests; wides = h.fits.1.wides }) })
    (list_reads {key = λ x. x} {test = test} {wide = wide} {order = any_order} {spell = spell} {item = λ _. item}
    (λ before. reads_weaken (λ p x h. record { spelled = h.spelled; fits = record { test = h.fits.test; wide = h.fits.wide; order = refl } }) reads))

in_any_order : {A : Type 0} (before : Option A) (xs : List A) → ordered (λ (x : A). x) any_order before xs ≡ true
in_any_order before [] = refl
in_any_order before (x ∷ xs) = in_any_order (Some x) xs

pub each_again : {A : Type 0} {test wide : A → Bool} {spell : A → List ℕ} {item : Decoder A} → ((x : A) → OneFits test wide x → Again item (spell x) x)
    → (xs : List A) → is_count xs ≡ true → EachFits test wide xs → Again (each item) (list_bytes spell xs) xs
each_again {test = test} {wide = wide} {spell = spell} {item = item} again xs count fits =
    list_again {key = λ x. x} {test = test} {wide = wide} {order = any_order} {spell = spell} {item = λ _. item}
    (λ before x h. again x (record { test = h.test; wide = h.wide })) xs count
    (record { tests = fits.tests; wides = fits.wides; orders = in_any_order None xs })

-- ---- order

ordered_from : {A K : Type 0} (key : A → K) (order : Option K → A → Bool) (a : A) (xs : List A)
    → ordered key order (Some (key a)) xs ≡ ascends_from (λ b y. order (Some (key b)) y) a xs
ordered_from key order a [] = refl
ordered_from key order a (x ∷ xs) = ap (λ b. order (Some (key a)) x && b) (ordered_from key order x xs)

pub ordered_ascends : {A K : Type 0} (key : A → K) (order : Option K → A → Bool) → ((x : A) → order None x ≡ true) → (xs : List A)
    → ordered key order None xs ≡ ascends (λ b y. order (Some (key b)) y) xs
ordered_ascends key order first [] = refl
ordered_ascends key order first (x ∷ xs) = rw (first x) (ordered_from key order x xs)
