-- How decoders are taken apart: what a decoder took from the front, and what it reads again.
use Rattle.std.proofs.Common.{◌≡◌, ℕ, suc, ◌+◌, ◌^◌, ◌<◌, ◌≤◌, Bool, true, false, cond, ltb, List, [], ◌∷◌, ◌++◌, length, get_or, take, drop, Result, Ok, Err}
use Rattle.std.proofs.Common.{refl, sym, ap, subst, ◌∙◌, append_assoc, arith, inl, inr}
use Rattle.std.specs.List.{list_all}
use Rattle.std.specs.Int.{Width, w32, w64, byte_len, from_le_bytes, to_le_bytes}
use Rattle.std.proofs.lemmas.Bool.{cases_lt, ltb-true, ltb-false, le-ltb, lt-ltb, and_from}
use Rattle.std.proofs.lemmas.List.{take_at, drop_at, take-append-drop, length-append, length-take, get_or-drop, get_or-take, get_or_past, append-nil}
use Rattle.std.proofs.lemmas.Nat.{le_bytes_4, le_bytes_8, from_le_bytes-to_le_bytes_4, from_le_bytes-to_le_bytes_8}
use Rattle.object_bytes.specs.Spelling.{u32_bytes, u64_bytes, is_u8, is_u32, is_u64}
use Rattle.object_bytes.specs.Decoder.{Decoder, done, bind, go_on, such_that, tested, u8, u32, u64, number, raw}

-- ---- bytes

abbrev pub IsBytes : List ℕ → Type 0
IsBytes bytes = (i : ℕ) → get_or bytes i 0 < 256

pub IsBytes-drop : (n : ℕ) (bytes : List ℕ) → IsBytes bytes → IsBytes (drop n bytes)
IsBytes-drop n bytes h i = rw get_or-drop (h (n + i))

pub IsBytes-take : (n : ℕ) (bytes : List ℕ) → IsBytes bytes → IsBytes (take n bytes)
IsBytes-take n bytes h i =
    elim (cases_lt i n) [
      | inl lt ↦ rw (get_or-take n bytes i 0 lt) (h i)
      | inr le ↦ rw (get_or_past (take n bytes) i 0 (omega (arith, length-take n bytes))) (omega arith)
    ]

pub IsBytes-rest : (b : ℕ) (bytes : List ℕ) → IsBytes (b ∷ bytes) → IsBytes bytes
IsBytes-rest b bytes h i = h (suc i)

pub all_u8 : (bytes : List ℕ) → IsBytes bytes → list_all is_u8 bytes ≡ true
all_u8 [] h = refl
all_u8 (b ∷ bytes) h = and_from (is_u8 b) (list_all is_u8 bytes) (lt-ltb b 256 (h 0)) (all_u8 bytes (IsBytes-rest b bytes h))

-- ---- what a decoder took

-- a part of the bytes of which P holds
pub record Took {A : Type 0} (P : List ℕ → A → Type 0) (bytes : List ℕ) (x : A) (rest : List ℕ) : Type 0 where
  pub part : List ℕ
  pub parts : bytes ≡ part ++ rest
  pub rest_fits : IsBytes rest
  pub holds : P part x

pub record Reads {A : Type 0} (d : Decoder A) (P : List ℕ → A → Type 0) : Type 0 where
  pub took : (bytes : List ℕ) (x : A) (rest : List ℕ) → IsBytes bytes → d bytes ≡ Ok (x, rest) → Took P bytes x rest

-- the part is the spelling
pub record Is {A : Type 0} (spell : A → List ℕ) (good : A → Type 0) (part : List ℕ) (x : A) : Type 0 where
  pub spelled : part ≡ spell x
  pub fits : good x

went_on : {A B : Type 0} (r : Result (A × List ℕ) ℕ) (next : A → Decoder B) (y : B) (rest : List ℕ) → go_on r next ≡ Ok (y, rest) → (x : A) × (mid : List ℕ)
    × (r ≡ Ok (x, mid)) × (next x mid ≡ Ok (y, rest))
went_on (Ok x) next y rest e = (x.0, x.1, refl, e)
went_on (Err left) next y rest e = absurd cc

ok_is : {A : Type 0} (p q : A × List ℕ) → Path (Result (A × List ℕ) ℕ) (Ok p) (Ok q) → p ≡ q
ok_is p q e = cc

ok_are : {A : Type 0} (x y : A) (a b : List ℕ) → Path (Result (A × List ℕ) ℕ) (Ok (x, a)) (Ok (y, b)) → (x ≡ y) × (a ≡ b)
ok_are {A = A} x y a b e =
    let h = ok_is (x, a) (y, b) e in
    (ap (λ (p : A × List ℕ). p.0) h, ap (λ (p : A × List ℕ). p.1) h)

pub reads_weaken : {A : Type 0} {d : Decoder A} {P Q : List ℕ → A → Type 0} → ((p : List ℕ) (x : A) → P p x → Q p x) → Reads d P → Reads d Q
reads_weaken f r = record {
  took = λ bytes x rest fits e. let t = r.took bytes x rest fits e in
      record { part = t.part; parts = t.parts; rest_fits = t.rest_fits; holds = f t.part x t.holds };
}

pub reads_done : {A : Type 0} {P : List ℕ → A → Type 0} (x : A) → P [] x → Reads (done x) P
unfolding done
reads_done {A = A} {P = P} x h = record {
  took = λ bytes y rest fits e.
      let p = ok_are x y bytes rest e in
      record { part = []; parts = p.1; rest_fits = subst IsBytes p.1 fits; holds = subst (λ (z : A). P [] z) p.0 h };
}

pub reads_bind : {A B : Type 0} {d : Decoder A} {next : A → Decoder B} {P : List ℕ → A → Type 0} {Q : List ℕ → B → Type 0} → Reads d P
    → ((a : A) (p : List ℕ) → P p a → Reads (next a) (λ q y. Q (p ++ q) y)) → Reads (bind d next) Q
unfolding bind
reads_bind {d = d} {next = next} first then = record {
  took = λ bytes y rest fits e.
      let w = went_on (d bytes) next y rest e in
      let t = first.took bytes w.0 w.1 fits w.2 in
      let u = (then w.0 t.part t.holds).took w.1 y rest t.rest_fits w.3 in
      record {
        part = t.part ++ u.part;
        parts = t.parts ∙ ap (λ (z : List ℕ). t.part ++ z) u.parts ∙ sym (append_assoc t.part u.part rest);
        rest_fits =
            u.rest_fits;
        holds = u.holds;
      };
}

-- a field, and the fields behind it
pub reads_field : {A B : Type 0} {d : Decoder A} {next : A → Decoder B} {spell : A → List ℕ} {fits : A → Type 0} {Q : List ℕ → B → Type 0}
    → Reads d (Is spell fits) → ((a : A) → fits a → Reads (next a) (λ q y. Q (spell a ++ q) y)) → Reads (bind d next) Q
reads_field {B = B} {next = next} {Q = Q} first then =
    reads_bind first (λ a p h. subst (λ (z : List ℕ). Reads (next a) (λ q y. Q (z ++ q) y)) (sym h.spelled) (then a h.fits))

-- the last field
pub reads_last : {A B : Type 0} {d : Decoder A} (make : A → B) {spell : A → List ℕ} {fits : A → Type 0} {Q : List ℕ → B → Type 0} → Reads d (Is spell fits)
    → ((a : A) → fits a → Q (spell a) (make a)) → Reads (bind d (λ a. done (make a))) Q
reads_last make {Q = Q} first then = reads_bind first
    (λ a p h. reads_done (make a) (subst (λ (z : List ℕ). Q z (make a)) (sym h.spelled ∙ sym (append-nil p)) (then a h.fits)))

chosen : {A : Type 0} (b : Bool) (y : A × List ℕ) (left : ℕ) (x : A) (rest : List ℕ) → Path (Result (A × List ℕ) ℕ) (cond b (Ok y) (Err left)) (Ok (x, rest))
    → (b ≡ true) × (y ≡ (x, rest))
chosen true y left x rest e = (refl, cc)
chosen false y left x rest e = absurd cc

was_tested : {A : Type 0} (r : Result (A × List ℕ) ℕ) (test : A → Bool) (left : ℕ) (x : A) (rest : List ℕ) → tested r test left ≡ Ok (x, rest)
    → (r ≡ Ok (x, rest)) × (test x ≡ true)
was_tested {A = A} (Ok y) test left x rest e =
    let c = chosen (test y.0) y left x rest e in
    (ap (λ (z : A × List ℕ). Ok z) c.1, sym (ap (λ (z : A × List ℕ). test z.0) c.1) ∙ c.0)
was_tested (Err d) test left x rest e = absurd cc

pub reads_test : {A : Type 0} {d : Decoder A} (test : A → Bool) {spell : A → List ℕ} {fits : A → Type 0} → Reads d (Is spell fits)
    → Reads (such_that d test) (Is spell (λ x. fits x × (test x ≡ true)))
unfolding such_that
reads_test {d = d} test r = record {
  took = λ bytes x rest fits e.
      let w = was_tested (d bytes) test (length bytes) x rest e in
      let t = r.took bytes x rest fits w.0 in
      record { part = t.part; parts = t.parts; rest_fits = t.rest_fits; holds = record { spelled = t.holds.spelled; fits = (t.holds.fits, w.1) } };
}

-- ---- what is read again

pub record Again {A : Type 0} (d : Decoder A) (part : List ℕ) (x : A) : Type 0 where
  pub again : (rest : List ℕ) → d (part ++ rest) ≡ Ok (x, rest)

pub again_done : {A : Type 0} (x : A) → Again (done x) [] x
unfolding done
again_done x = record { again = λ rest. refl }

pub again_bind : {A B : Type 0} {d : Decoder A} (next : A → Decoder B) (p q : List ℕ) {a : A} {y : B} → Again d p a → Again (next a) q y
    → Again (bind d next) (p ++ q) y
unfolding bind
again_bind {d = d} next p q first then = record {
  again = λ rest. ap (λ (z : List ℕ). go_on (d z) next) (append_assoc p q rest) ∙ ap (λ r. go_on r next)
      (first.again (q ++ rest)) ∙ then.again rest;
}

pub again_last : {A B : Type 0} {d : Decoder A} (make : A → B) {p : List ℕ} {a : A} → Again d p a → Again (bind d (λ a. done (make a))) p (make a)
unfolding bind done
again_last make first = record { again = λ rest. ap (λ r. go_on r (λ a. done (make a))) (first.again rest) }

pub again_test : {A : Type 0} {d : Decoder A} (test : A → Bool) {p : List ℕ} {x : A} → Again d p x → test x ≡ true → Again (such_that d test) p x
unfolding such_that
again_test test {p = p} {x = x} r e = record { again = λ rest. ap (λ z. tested z test (length (p ++ rest))) (r.again rest) ∙ rw e refl }

-- ---- numbers

u8_took : (bytes : List ℕ) (x : ℕ) (rest : List ℕ) → IsBytes bytes → u8 bytes ≡ Ok (x, rest) → Took (Is (λ n. n ∷ []) (λ n. is_u8 n ≡ true)) bytes x rest
unfolding u8
u8_took [] x rest fits e = absurd cc
u8_took (b ∷ bytes) x rest fits e =
    let p = ok_are b x bytes rest e in
    record {
      part = x ∷ [];
      parts = rw (p.0, p.1) refl;
      rest_fits = subst IsBytes p.1 (IsBytes-rest b bytes fits);
      holds =
          record { spelled = refl; fits = rw (← p.0) (lt-ltb b 256 (fits 0)) };
    }

pub u8_reads : Reads u8 (Is (λ n. n ∷ []) (λ n. is_u8 n ≡ true))
unfolding u8
u8_reads = record { took = λ bytes x rest fits e. u8_took bytes x rest fits e }

pub u8_again : (n : ℕ) → Again u8 (n ∷ []) n
unfolding u8
u8_again n = record { again = λ rest. refl }

pub record IsWide (w : Width) (limit : ℕ) : Type 0 where
  pub len : (n : ℕ) → length (to_le_bytes w n) ≡ byte_len w
  pub back : (bytes : List ℕ) → length bytes ≡ byte_len w → IsBytes bytes → to_le_bytes w (from_le_bytes w bytes) ≡ bytes
  pub again : (n : ℕ) → n < limit → from_le_bytes w (to_le_bytes w n) ≡ n
  pub below : (bytes : List ℕ) → IsBytes bytes → from_le_bytes w bytes < limit

wide32 : IsWide w32 (2 ^ 32)
wide32 = record {
  len = λ n. refl;
  back = λ bytes len fits. le_bytes_4 bytes _ len fits refl;
  again = λ n lt. from_le_bytes-to_le_bytes_4 n lt;
  below = λ bytes fits. omega (arith, fits 0, fits 1, fits 2, fits 3);
}

wide64 : IsWide w64 (2 ^ 64)
wide64 = record {
  len = λ n. refl;
  back = λ bytes len fits. le_bytes_8 bytes _ len fits refl;
  again = λ n lt. from_le_bytes-to_le_bytes_8 n lt;
  below = λ bytes fits. omega (arith, fits 0, fits 1, fits 2, fits 3, fits 4, fits 5, fits 6, fits 7);
}

fits_or_short : {A : Type 0} (b : Bool) (x y : A) → Path (Result A ℕ) (cond b (Err 0) (Ok x)) (Ok y) → (b ≡ false) × (x ≡ y)
fits_or_short true x y e = absurd cc
fits_or_short false x y e = (refl, cc)

number_took : (w : Width) (limit : ℕ) (wide : IsWide w limit) (bytes : List ℕ) (n : ℕ) (rest : List ℕ) → IsBytes bytes → number w bytes ≡ Ok (n, rest)
    → Took (Is (to_le_bytes w) (λ n. n < limit)) bytes n rest
number_took w limit wide bytes n rest fits e =
    let g = fits_or_short (ltb (length bytes) (byte_len w)) (from_le_bytes w (take (byte_len w) bytes), drop (byte_len w) bytes) (n, rest) e in
    let long : byte_len w ≤ length bytes = ltb-false _ _ g.0 in
    let n-is : from_le_bytes w (take (byte_len w) bytes) ≡ n = ap (λ (p : ℕ × List ℕ). p.0) g.1 in
    let rest-is : drop (byte_len w) bytes ≡ rest = ap (λ (p : ℕ × List ℕ). p.1) g.1 in
    let front : to_le_bytes w n ≡ take (byte_len w) bytes =
    rw (← n-is) (wide.back (take (byte_len w) bytes) (omega (arith, length-take (byte_len w) bytes)) (IsBytes-take (byte_len w) bytes fits)) in
    record {
      part = to_le_bytes w n;
      parts = rw (front, ← rest-is) (sym (take-append-drop (byte_len w) bytes));
      rest_fits =
          rw (← rest-is) (IsBytes-drop (byte_len w) bytes fits);
      holds =
          record { spelled = refl; fits = rw (← n-is) (wide.below (take (byte_len w) bytes) (IsBytes-take (byte_len w) bytes fits)) };
    }

number_again : (w : Width) (limit : ℕ) (wide : IsWide w limit) (n : ℕ) (rest : List ℕ) → n < limit → number w (to_le_bytes w n ++ rest) ≡ Ok (n, rest)
number_again w limit wide n rest lt =
    let len = wide.len n in
    let long : ltb (length (to_le_bytes w n ++ rest)) (byte_len w) ≡ false = le-ltb _ _ (omega (arith, length-append (to_le_bytes w n) rest)) in
    rw (long, take_at (to_le_bytes w n) rest (byte_len w) len, drop_at (to_le_bytes w n) rest (byte_len w) len, wide.again n lt) refl

pub u32_reads : Reads u32 (Is u32_bytes (λ n. is_u32 n ≡ true))
unfolding u32 u32_bytes
u32_reads = record {
  took = λ bytes n rest fits e.
      let t = number_took w32 (2 ^ 32) wide32 bytes n rest fits e in
      record { part = t.part; parts = t.parts; rest_fits = t.rest_fits; holds = record { spelled = t.holds.spelled; fits = lt-ltb n (2 ^ 32) t.holds.fits } };
}

pub u64_reads : Reads u64 (Is u64_bytes (λ n. is_u64 n ≡ true))
unfolding u64 u64_bytes
u64_reads = record {
  took = λ bytes n rest fits e.
      let t = number_took w64 (2 ^ 64) wide64 bytes n rest fits e in
      record { part = t.part; parts = t.parts; rest_fits = t.rest_fits; holds = record { spelled = t.holds.spelled; fits = lt-ltb n (2 ^ 64) t.holds.fits } };
}

pub u32_again : (n : ℕ) → is_u32 n ≡ true → Again u32 (u32_bytes n) n
unfolding u32 u32_bytes
u32_again n e = record { again = λ rest. number_again w32 (2 ^ 32) wide32 n rest (ltb-true n (2 ^ 32) e) }

pub u64_again : (n : ℕ) → is_u64 n ≡ true → Again u64 (u64_bytes n) n
unfolding u64 u64_bytes
u64_again n e = record { again = λ rest. number_again w64 (2 ^ 64) wide64 n rest (ltb-true n (2 ^ 64) e) }

pub raw_reads : (n : ℕ) → Reads (raw n) (Is (λ x. x) (λ x. (length x ≡ n) × (list_all is_u8 x ≡ true)))
unfolding raw
raw_reads n = record {
  took = λ bytes x rest fits e.
      let g = fits_or_short (ltb (length bytes) n) (take n bytes, drop n bytes) (x, rest) e in
      let long : n ≤ length bytes = ltb-false _ _ g.0 in
      let x-is : take n bytes ≡ x = ap (λ (p : List ℕ × List ℕ). p.0) g.1 in
      let rest-is : drop n bytes ≡ rest = ap (λ (p : List ℕ × List ℕ). p.1) g.1 in
      record {
        part = x;
        parts = rw (← x-is, ← rest-is) (sym (take-append-drop n bytes));
        rest_fits = rw (← rest-is) (IsBytes-drop n bytes fits);
        holds =
            record {
              spelled = refl;
              fits = (
                rw (← x-is) (omega (arith, length-take n bytes)),
                rw (← x-is)
                    (all_u8 (take n bytes) (IsBytes-take n bytes fits)),
              );
            };
      };
}

pub raw_again : (x : List ℕ) → Again (raw (length x)) x x
unfolding raw
raw_again x = record {
  again = λ rest.
      let long : ltb (length (x ++ rest)) (length x) ≡ false = le-ltb _ _ (omega (arith, length-append x rest)) in
      rw (long, take_at x rest (length x) refl, drop_at x rest (length x) refl) refl;
}
