-- Reading items one after the other, as a loop does.
use Rattle.std.proofs.Common.{◌≡◌, ℕ, zero, suc, ◌-◌, ◌+◌, ◌≤◌, ◌<◌, List, [], ◌∷◌, ◌++◌, Option, Some, None, Result, Ok, Err, refl, sym, ap, ◌∙◌, append_assoc}
use Rattle.std.proofs.Common.{arith}
use Rattle.std.proofs.lemmas.List.{append-nil}
use Rattle.object_file.specs.declared.fault.ReadError.{ReadError}
use Rattle.object_file.specs.declared.fault.ReadError.TheVariants.{Memory, Wrong}
use Rattle.object_bytes.specs.Decoder.{Decoder, go_on, done, bind, u32, items, list, each}
use Rattle.object_file.specs.Reading.{Fails}

-- what was read before, and what is still read
abbrev pub with_front : {A : Type 0} → List A → Result (List A × List ℕ) ℕ → Result (List A × List ℕ) ℕ
with_front front (Ok x) = Ok (front ++ x.0, x.1)
with_front front (Err left) = Err left

no_front : {A : Type 0} (read : Result (List A × List ℕ) ℕ) → with_front [] read ≡ read
no_front (Ok x) = refl
no_front (Err left) = refl

pub begins : {A K : Type 0} (key : A → K) (item : Option K → Decoder A) (bytes : List ℕ) (n : ℕ) (rest : List ℕ) → u32 bytes ≡ Ok (n, rest)
    → with_front [] (items key item None (n - 0) rest) ≡ list key item bytes
unfolding bind list
begins key item bytes n rest e =
    let k : n - 0 ≡ n = omega arith in
    rw k (no_front (items key item None n rest) ∙ sym (rw e refl))

pub starts : {A K : Type 0} (key : A → K) (item : Option K → Decoder A) (bytes : List ℕ) (n : ℕ)
    → with_front [] (items key item None (n - 0) bytes) ≡ items key item None n bytes
starts key item bytes n =
    let k : n - 0 ≡ n = omega arith in
    rw k (no_front (items key item None n bytes))

one_more : {A : Type 0} (front : List A) (x : A) (read : Result (List A × List ℕ) ℕ)
    → with_front front (go_on read (λ xs. done (x ∷ xs))) ≡ with_front (front ++ x ∷ []) read
unfolding done
one_more {A = A} front x (Ok y) = ap (λ (xs : List A). Ok (xs, y.1)) (simp append_assoc)
one_more front x (Err left) = refl

pub goes_on : {A K : Type 0} (key : A → K) (item : Option K → Decoder A) (front : List A) (before : Option K) (count i : ℕ) (bytes : List ℕ) (x : A)
    (after : List ℕ) (total : Result (List A × List ℕ) ℕ) → i < count → item before bytes ≡ Ok (x, after)
    → with_front front (items key item before (count - i) bytes) ≡ total
    → with_front (front ++ x ∷ []) (items key item (Some (key x)) (count - (i + 1)) after) ≡ total
unfolding items bind done
goes_on key item front before count i bytes x after total lt h so_far =
    let k : count - i ≡ suc (count - (i + 1)) = omega arith in
    let one : with_front front (items key item before (count - i) bytes)
    ≡ with_front (front ++ x ∷ []) (items key item (Some (key x)) (count - (i + 1)) after) =
    rw (k, h) (one_more front x (items key item (Some (key x)) (count - (i + 1)) after)) in
    sym one ∙ so_far

pub ends : {A K : Type 0} (key : A → K) (item : Option K → Decoder A) (e : ReadError) (front : List A) (before : Option K) (count i : ℕ) (bytes : List ℕ)
    (total : Result (List A × List ℕ) ℕ) → i < count → Fails e (item before bytes)
    → with_front front (items key item before (count - i) bytes) ≡ total → Fails e total
unfolding items bind done
ends key item Memory front before count i bytes total lt h so_far = tt
ends key item (Wrong left) front before count i bytes total lt h so_far =
    let k : count - i ≡ suc (count - (i + 1)) = omega arith in
    let one : with_front front (items key item before (count - i) bytes) ≡ Err left = rw (k, h) refl in
    sym so_far ∙ one

pub is_done : {A K : Type 0} (key : A → K) (item : Option K → Decoder A) (front : List A) (before : Option K) (count i : ℕ) (bytes : List ℕ)
    (total : Result (List A × List ℕ) ℕ) → count ≤ i → with_front front (items key item before (count - i) bytes) ≡ total → total ≡ Ok (front, bytes)
unfolding items done
is_done {A = A} key item front before count i bytes total le so_far =
    let k : count - i ≡ 0 = omega arith in
    let one : with_front front (items key item before (count - i) bytes) ≡ Ok (front, bytes) = rw k (ap (λ (xs : List A). Ok (xs, bytes)) (append-nil front)) in
    sym so_far ∙ one

-- ---- where an item does not depend on the one before it

any_before : {A : Type 0} (item : Decoder A) (before : Option A) (n : ℕ) (bytes : List ℕ)
    → items (λ x. x) (λ _. item) before n bytes ≡ items (λ x. x) (λ _. item) None n bytes
unfolding items
any_before item before zero bytes = refl
any_before item before (suc n) bytes = refl

pub each_begins : {A : Type 0} (item : Decoder A) (bytes : List ℕ) (n : ℕ) (rest : List ℕ) → u32 bytes ≡ Ok (n, rest)
    → with_front [] (items (λ x. x) (λ _. item) None (n - 0) rest) ≡ each item bytes
each_begins item bytes n rest e = begins (λ x. x) (λ _. item) bytes n rest e

pub each_goes_on : {A : Type 0} (item : Decoder A) (front : List A) (count i : ℕ) (bytes : List ℕ) (x : A) (after : List ℕ) (total : Result (List A × List ℕ) ℕ)
    → i < count → item bytes ≡ Ok (x, after)
    → with_front front (items (λ x. x) (λ _. item) None (count - i) bytes) ≡ total
    → with_front (front ++ x ∷ []) (items (λ x. x) (λ _. item) None (count - (i + 1)) after) ≡ total
each_goes_on item front count i bytes x after total lt h so_far =
    ap (with_front (front ++ x ∷ [])) (sym (any_before item (Some x) (count - (i + 1)) after))
    ∙ goes_on (λ x. x) (λ _. item) front None count i bytes x after total lt h so_far

pub each_ends : {A : Type 0} (item : Decoder A) (e : ReadError) (front : List A) (count i : ℕ) (bytes : List ℕ) (total : Result (List A × List ℕ) ℕ) → i < count
    → Fails e (item bytes)
    → with_front front (items (λ x. x) (λ _. item) None (count - i) bytes) ≡ total → Fails e total
each_ends item e front count i bytes total lt h so_far = ends (λ x. x) (λ _. item) e front None count i bytes total lt h so_far

pub each_is_done : {A : Type 0} (item : Decoder A) (front : List A) (count i : ℕ) (bytes : List ℕ) (total : Result (List A × List ℕ) ℕ) → count ≤ i
    → with_front front (items (λ x. x) (λ _. item) None (count - i) bytes) ≡ total → total ≡ Ok (front, bytes)
each_is_done item front count i bytes total le so_far = is_done (λ x. x) (λ _. item) front None count i bytes total le so_far

-- a step that fails
pub fails_on : {A B : Type 0} (e : ReadError) (r : Result (A × List ℕ) ℕ) (next : A → Decoder B) → Fails e r → Fails e (go_on r next)
fails_on Memory r next h = tt
fails_on (Wrong left) r next h = ap (λ z. go_on z next) h
