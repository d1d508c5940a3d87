-- Names in quotes: there is one way to read them.
use Rattle.std.proofs.Common.{◌≡◌, ◌≢◌, ℕ, ◌+◌, ◌-◌, ◌*◌, ◌/◌, ◌%◌, ◌<◌, ◌≤◌, ◌^◌, zero, suc, Bool, true, false, cond, not, List, [], ◌∷◌, ◌++◌, length, Option}
use Rattle.std.proofs.Common.{Some, None, refl, sym, ap, subst, ◌∙◌, ◌&&◌, arith, append_assoc, length-append}
use Rattle.std.specs.Prelude.{nat_eq, nat_le}
use Rattle.std.specs.List.{list_all, flat_map}
use Rattle.std.proofs.lemmas.Bool.{and_parts, and_from, ltb-true, lt-ltb, le-ltb, leb-true, eqb-true}
use Rattle.object_bytes.specs.Spelling.{is_u8}
use Rattle.assembly_text.specs.Lines.{is_plain, hex, byte_text, quoted_text}
use Rattle.assembly_text.specs.Options.{and_then}
use Rattle.assembly_text.specs.Front.{digit, unless_plain, escaped, byte_of, Bytes, no_byte, one_byte, NameBehind, NoName}
use Rattle.assembly_text.proofs.RecordLaws.{some_is, bound}
use Rattle.assembly_text.proofs.FieldLaws.{tails}

-- ---- digits

digit_hex : (d : ℕ) → d < 16 → digit (hex d) ≡ Some d
digit_hex zero h = refl
digit_hex (suc zero) h = refl
digit_hex (suc (suc zero)) h = refl
digit_hex (suc (suc (suc zero))) h = refl
digit_hex (suc (suc (suc (suc zero)))) h = refl
digit_hex (suc (suc (suc (suc (suc zero))))) h = refl
digit_hex (suc (suc (suc (suc (suc (suc zero)))))) h = refl
digit_hex (suc (suc (suc (suc (suc (suc (suc zero))))))) h = refl
digit_hex (suc (suc (suc (suc (suc (suc (suc (suc zero)))))))) h = refl
digit_hex (suc (suc (suc (suc (suc (suc (suc (suc (suc zero))))))))) h = refl
digit_hex (suc (suc (suc (suc (suc (suc (suc (suc (suc (suc zero)))))))))) h = refl
digit_hex (suc (suc (suc (suc (suc (suc (suc (suc (suc (suc (suc zero))))))))))) h = refl
digit_hex (suc (suc (suc (suc (suc (suc (suc (suc (suc (suc (suc (suc zero)))))))))))) h = refl
digit_hex (suc (suc (suc (suc (suc (suc (suc (suc (suc (suc (suc (suc (suc zero))))))))))))) h = refl
digit_hex (suc (suc (suc (suc (suc (suc (suc (suc (suc (suc (suc (suc (suc (suc zero)))))))))))))) h = refl
digit_hex (suc (suc (suc (suc (suc (suc (suc (suc (suc (suc (suc (suc (suc (suc (suc zero))))))))))))))) h = refl
digit_hex (suc (suc (suc (suc (suc (suc (suc (suc (suc (suc (suc (suc (suc (suc (suc (suc n)))))))))))))))) h = absurd (omega arith)

record IsHex (c d : ℕ) : Type 0 where
  glyph : hex d ≡ c
  small : d < 16

hex_low : (d : ℕ) → d < 10 → hex d ≡ 48 + d
hex_low d h = ap (λ (b : Bool). cond b (48 + d) (87 + d)) (lt-ltb d 10 h)

hex_high : (d : ℕ) → 10 ≤ d → hex d ≡ 87 + d
hex_high d h = ap (λ (b : Bool). cond b (48 + d) (87 + d)) (le-ltb d 10 h)

is_hex : (c d : ℕ) → digit c ≡ Some d → IsHex c d
is_hex c d e = by_range (nat_le 48 c && nat_le c 57) (nat_le 97 c && nat_le c 102) refl refl e
  where
    by_range : (low high : Bool) → (nat_le 48 c && nat_le c 57) ≡ low → (nat_le 97 c && nat_le c 102) ≡ high
        → cond low (Some (c - 48)) (cond high (Some (c - 87)) None) ≡ Some d → IsHex c d
    by_range true high l h e =
        let p = and_parts _ _ l in
        let a = leb-true 48 c p.0 in
        let b = leb-true c 57 p.1 in
        let same = some_is (c - 48) d e in
        record { glyph = hex_low d (omega arith) ∙ omega arith; small = omega arith }
    by_range false true l h e =
        let p = and_parts _ _ h in
        let a = leb-true 97 c p.0 in
        let b = leb-true c 102 p.1 in
        let same = some_is (c - 87) d e in
        record { glyph = hex_high d (omega arith) ∙ omega arith; small = omega arith }
    by_range false false l h e = absurd cc

-- ---- one byte

pub record ByteAt (text : List ℕ) (b : ℕ) (rest : List ℕ) : Type 0 where
  pub written : text ≡ byte_text b ++ rest
  pub wide : is_u8 b ≡ true

pair_is : (x y : ℕ) (r s : List ℕ) → Path (Option (ℕ × List ℕ)) (Some (x, r)) (Some (y, s)) → (x ≡ y) × (r ≡ s)
pair_is x y r s e = let same : Path (ℕ × List ℕ) (x, r) (y, s) = some_is (x, r) (y, s) e in
    (ap (λ (p : ℕ × List ℕ). p.0) same, ap (λ (p : ℕ × List ℕ). p.1) same)

plain_text : (b : ℕ) → is_plain b ≡ true → byte_text b ≡ b ∷ []
plain_text b h = rw h refl

other_text : (b : ℕ) → is_plain b ≡ false → byte_text b ≡ 92 ∷ 120 ∷ hex (b / 16) ∷ hex (b % 16) ∷ []
other_text b h = rw h refl

plain_small : (b : ℕ) → is_plain b ≡ true → is_u8 b ≡ true
plain_small b h =
    let p = and_parts (nat_le 32 b && nat_le b 126 && not (nat_eq b 34)) (not (nat_eq b 92)) h in
    let q = and_parts (nat_le 32 b && nat_le b 126) (not (nat_eq b 34)) p.0 in
    let r = leb-true b 126 (and_parts (nat_le 32 b) (nat_le b 126) q.0).1 in
    lt-ltb b (2 ^ 8) (omega arith)

not_plain : (b x : ℕ) (rest s : List ℕ) → unless_plain b rest ≡ Some (x, s) → (is_plain b ≡ false) × (b ≡ x) × (rest ≡ s)
not_plain b x rest s e = by_test (is_plain b) refl e
  where
    by_test : (t : Bool) → is_plain b ≡ t → Path (Option (ℕ × List ℕ)) (cond t None (Some (b, rest))) (Some (x, s)) → (is_plain b ≡ false) × (b ≡ x)
        × (rest ≡ s)
    by_test true h e = absurd cc
    by_test false h e = let p = pair_is b x rest s e in (h, p.0, p.1)

two_digits : (b h l a c : ℕ) (rest : List ℕ) → IsHex h a → IsHex l c → 16 * a + c ≡ b → is_plain b ≡ false → ByteAt (92 ∷ 120 ∷ h ∷ l ∷ rest) b rest
two_digits b h l a c rest x y e p =
    let high : b / 16 ≡ a = omega (arith, x.small, y.small) in
    let low : b % 16 ≡ c = omega (arith, x.small, y.small) in
    record { written = rw (other_text b p, high, low, x.glyph, y.glyph) refl; wide = lt-ltb b (2 ^ 8) (omega (arith, x.small, y.small)) }

escaped_took : (text : List ℕ) (b : ℕ) (rest : List ℕ) → escaped text ≡ Some (b, rest) → ByteAt (92 ∷ text) b rest
escaped_took [] b rest e = absurd cc
escaped_took (x ∷ []) b rest e = absurd cc
escaped_took (x ∷ h ∷ []) b rest e = absurd cc
escaped_took (x ∷ h ∷ l ∷ others) b rest e = by_mark (nat_eq x 120) refl e
  where
    by_mark : (t : Bool) → nat_eq x 120 ≡ t → cond t (and_then (digit h) (λ a. and_then (digit l) (λ c. unless_plain (16 * a + c) others))) None
        ≡ Some (b, rest) → ByteAt (92 ∷ x ∷ h ∷ l ∷ others) b rest
    by_mark true m e =
        let mark = eqb-true x 120 m in
        let one = bound (digit h) _ (b, rest) e in
        let two = bound (digit l) _ (b, rest) one.behind in
        let p = not_plain (16 * one.x + two.x) b others rest two.behind in
        let plain : is_plain b ≡ false = subst (λ (z : ℕ). is_plain z ≡ false) p.1 p.0 in
        let at = two_digits b h l one.x two.x rest (is_hex h one.x one.first) (is_hex l two.x two.first) p.1 plain in
        record { written = ap (λ (z : ℕ). 92 ∷ z ∷ h ∷ l ∷ others) mark ∙ ap (λ (z : List ℕ). 92 ∷ 120 ∷ h ∷ l ∷ z) p.2 ∙ at.written; wide = at.wide }
    by_mark false m e = absurd cc

pub byte_took : (text : List ℕ) (b : ℕ) (rest : List ℕ) → byte_of text ≡ Some (b, rest) → ByteAt text b rest
byte_took [] b rest e = absurd cc
byte_took (c ∷ others) b rest e = by_plain (is_plain c) (nat_eq c 92) refl refl e
  where
    by_plain : (t u : Bool) → is_plain c ≡ t → nat_eq c 92 ≡ u
        → Path (Option (ℕ × List ℕ)) (cond t (Some (c, others)) (cond u (escaped others) None)) (Some (b, rest)) → ByteAt (c ∷ others) b rest
    by_plain true u p q e =
        let same = pair_is c b others rest e in
        let plain : is_plain b ≡ true = subst (λ (z : ℕ). is_plain z ≡ true) same.0 p in
        record {
          written = ap (λ (z : ℕ). z ∷ others) same.0 ∙ ap (λ (z : List ℕ). b ∷ z) same.1 ∙ ap (λ (z : List ℕ). z ++ rest) (sym (plain_text b plain));
          wide = plain_small b plain;
        }
    by_plain false true p q e =
        let slash = eqb-true c 92 q in
        let at = escaped_took others b rest e in
        record { written = ap (λ (z : ℕ). z ∷ others) slash ∙ at.written; wide = at.wide }
    by_plain false false p q e = absurd cc

byte_again : (b : ℕ) (rest : List ℕ) → is_u8 b ≡ true → byte_of (byte_text b ++ rest) ≡ Some (b, rest)
byte_again b rest wide = by_plain (is_plain b) refl
  where
    by_plain : (t : Bool) → is_plain b ≡ t → byte_of (byte_text b ++ rest) ≡ Some (b, rest)
    by_plain true p = ap (λ (z : List ℕ). byte_of (z ++ rest)) (plain_text b p) ∙ rw p refl
    by_plain false p =
        let lt = ltb-true b (2 ^ 8) wide in
        let high = digit_hex (b / 16) (omega arith) in
        let low = digit_hex (b % 16) (omega arith) in
        let whole : 16 * (b / 16) + b % 16 ≡ b = omega arith in
        ap (λ (z : List ℕ). byte_of (z ++ rest)) (other_text b p)
        ∙ ap (λ (o : Option ℕ). and_then o (λ x. and_then (digit (hex (b % 16))) (λ y. unless_plain (16 * x + y) rest))) high
        ∙ ap (λ (o : Option ℕ). and_then o (λ y. unless_plain (16 * (b / 16) + y) rest)) low
        ∙ ap (λ (z : ℕ). unless_plain z rest) whole
        ∙ rw p refl

pub byte_shorter : (text : List ℕ) (b : ℕ) (rest : List ℕ) → byte_of text ≡ Some (b, rest) → length rest < length text
byte_shorter text b rest e =
    let at = byte_took text b rest e in
    omega (arith, ap length at.written, length-append (byte_text b) rest, some_bytes (is_plain b))
  where
    some_bytes : (t : Bool) → 0 < length (cond t (b ∷ []) (92 ∷ 120 ∷ hex (b / 16) ∷ hex (b % 16) ∷ []))
    some_bytes true = omega arith
    some_bytes false = omega arith

-- ---- several

pub bytes_append : {bs text rest : List ℕ} (b : ℕ) (after : List ℕ) → Bytes bs text rest → byte_of rest ≡ Some (b, after) → Bytes (bs ++ b ∷ []) text after
bytes_append b after no_byte e = one_byte e no_byte
bytes_append b after (one_byte h bs) e = one_byte h (bytes_append b after bs e)

pub record BytesAt (bs text rest : List ℕ) : Type 0 where
  pub written : text ≡ flat_map byte_text bs ++ rest
  pub wide : list_all is_u8 bs ≡ true

pub bytes_at : {bs text rest : List ℕ} → Bytes bs text rest → BytesAt bs text rest
bytes_at no_byte = record { written = refl; wide = refl }
bytes_at {rest = rest} (one_byte {b = b} {bs = bs} {text = text} {rest = mid} h more) =
    let at = byte_took text b mid h in
    let others = bytes_at more in
    record {
      written = at.written ∙ ap (λ (z : List ℕ). byte_text b ++ z) others.written ∙ sym (append_assoc (byte_text b) (flat_map byte_text bs) rest);
      wide =
          and_from _ _ at.wide others.wide;
    }

pub record SameBytes (bs ms left s : List ℕ) : Type 0 where
  pub bytes : bs ≡ ms
  pub rest : left ≡ 34 ∷ s

none_some : (x : ℕ × List ℕ) → Path (Option (ℕ × List ℕ)) None (Some x) → ⊥
none_some x e = absurd cc

first_byte : (m : ℕ) (ms s : List ℕ) → is_u8 m ≡ true → byte_of (flat_map byte_text (m ∷ ms) ++ 34 ∷ s) ≡ Some (m, flat_map byte_text ms ++ 34 ∷ s)
first_byte m ms s wide = ap byte_of (append_assoc (byte_text m) (flat_map byte_text ms) (34 ∷ s)) ∙ byte_again m (flat_map byte_text ms ++ 34 ∷ s) wide

pub same_bytes : {bs text rest : List ℕ} (ms s : List ℕ) → Bytes bs text rest → byte_of rest ≡ None → list_all is_u8 ms ≡ true
    → text ≡ flat_map byte_text ms ++ 34 ∷ s → SameBytes bs ms rest s
same_bytes [] s no_byte stop wide e = record { bytes = refl; rest = e }
same_bytes (m ∷ ms) s no_byte stop wide e =
    let w = and_parts (is_u8 m) (list_all is_u8 ms) wide in
    absurd (none_some (m, flat_map byte_text ms ++ 34 ∷ s) (sym stop ∙ ap byte_of e ∙ first_byte m ms s w.0))
same_bytes [] s (one_byte {b = b} {rest = mid} h more) stop wide e =
    let quote : byte_of (34 ∷ s) ≡ None = refl in
    absurd (none_some (b, mid) (sym quote ∙ ap byte_of (sym e) ∙ h))
same_bytes (m ∷ ms) s (one_byte {b = b} {rest = mid} h more) stop wide e =
    let w = and_parts (is_u8 m) (list_all is_u8 ms) wide in
    let same = pair_is b m mid (flat_map byte_text ms ++ 34 ∷ s) (sym h ∙ ap byte_of e ∙ first_byte m ms s w.0) in
    let others = same_bytes ms s more stop w.1 same.1 in
    record { bytes = rw (same.0, others.bytes) refl; rest = others.rest }

-- ---- names

quoted : (name rest : List ℕ) → quoted_text name ++ rest ≡ 32 ∷ 34 ∷ (flat_map byte_text name ++ 34 ∷ 10 ∷ rest)
quoted name rest = ap (λ (z : List ℕ). 32 ∷ 34 ∷ z) (append_assoc (flat_map byte_text name) (34 ∷ 10 ∷ []) rest)

pub name_there : (text name inside rest : List ℕ) → text ≡ 32 ∷ 34 ∷ inside → Bytes name inside (34 ∷ 10 ∷ rest) → NameBehind text name rest
name_there text name inside rest e bs =
    let at = bytes_at bs in
    record { wide = at.wide; written = e ∙ ap (λ (z : List ℕ). 32 ∷ 34 ∷ z) at.written ∙ sym (quoted name rest) }

pub no_quote : (text : List ℕ) → ((rest : List ℕ) → text ≢ 32 ∷ 34 ∷ rest) → NoName text
no_quote text other name rest b = other (flat_map byte_text name ++ 34 ∷ 10 ∷ rest) (b.written ∙ quoted name rest)

pub no_close : (text name inside left : List ℕ) → text ≡ 32 ∷ 34 ∷ inside → Bytes name inside left → byte_of left ≡ None
    → ((rest : List ℕ) → left ≢ 34 ∷ 10 ∷ rest) → NoName text
no_close text name inside left e bs stop other m rest b =
    let both : 32 ∷ 34 ∷ inside ≡ 32 ∷ 34 ∷ (flat_map byte_text m ++ 34 ∷ 10 ∷ rest) = sym e ∙ b.written ∙ quoted m rest in
    let inner = tails 34 34 inside (flat_map byte_text m ++ 34 ∷ 10 ∷ rest) (tails 32 32 (34 ∷ inside) (34 ∷ (flat_map byte_text m ++ 34 ∷ 10 ∷ rest)) both) in
    other rest (same_bytes m (10 ∷ rest) bs stop b.wide inner).rest

bytes_there : (ms s : List ℕ) → list_all is_u8 ms ≡ true → Bytes ms (flat_map byte_text ms ++ 34 ∷ s) (34 ∷ s)
bytes_there [] s wide = no_byte
bytes_there (m ∷ ms) s wide =
    let w = and_parts (is_u8 m) (list_all is_u8 ms) wide in
    one_byte (first_byte m ms s w.0) (bytes_there ms s w.1)

pub record SameNames (n m rest tail : List ℕ) : Type 0 where
  pub same : n ≡ m
  pub rests : rest ≡ tail

pub same_names : (text n m rest tail : List ℕ) → NameBehind text n rest → NameBehind text m tail → SameNames n m rest tail
same_names text n m rest tail a b =
    let both : 32 ∷ 34 ∷ (flat_map byte_text n ++ 34 ∷ 10 ∷ rest) ≡ 32 ∷ 34 ∷ (flat_map byte_text m ++ 34 ∷ 10 ∷ tail) = sym (quoted n rest) ∙ sym a.written
    ∙ b.written ∙ quoted m tail in
    let inner = tails 34 34 (flat_map byte_text n ++ 34 ∷ 10 ∷ rest) (flat_map byte_text m ++ 34 ∷ 10 ∷ tail)
    (tails 32 32 (34 ∷ (flat_map byte_text n ++ 34 ∷ 10 ∷ rest)) (34 ∷ (flat_map byte_text m ++ 34 ∷ 10 ∷ tail)) both) in
    let bs = same_bytes m (10 ∷ tail) (bytes_there n (10 ∷ rest) a.wide) refl b.wide inner in
    record { same = bs.bytes; rests = tails 10 10 rest tail (tails 34 34 (10 ∷ rest) (10 ∷ tail) bs.rest) }
