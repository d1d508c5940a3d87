-- Words and numbers at the front of a text: there is one way to read them.
use Rattle.std.proofs.Common.{◌≡◌, ◌≢◌, ℕ, ◌+◌, ◌<◌, ◌^◌, suc, Bool, true, false, cond, List, [], ◌∷◌, ◌++◌, length, Option, Some, None, refl, sym, ap, subst}
use Rattle.std.proofs.Common.{◌∙◌, arith, append_assoc, length-append}
use Rattle.std.specs.Char.{is_ascii_lowercase}
use Rattle.std.specs.Fmt.{decimal}
use Rattle.std.specs.List.{list_all, flat_map, prefix_len}
use Rattle.std.proofs.lemmas.Bool.{and_parts, ltb-true}
use Rattle.std.proofs.lemmas.List.{take_at, drop_at}
use Rattle.decimal_text.specs.Number.{IsBehind}
use Rattle.decimal_text.proofs.Numbers.{same_number}
use Rattle.object_bytes.specs.Spelling.{is_u64}
use Rattle.assembly_text.specs.declared.line.Record.{Record}
use Rattle.assembly_text.specs.Words.{Words, number_text, numbers_text}
use Rattle.assembly_text.specs.Lines.{words_of}
use Rattle.assembly_text.specs.Front.{front_word, behind_word, Field, NoField, Fields, none, more, RecordBehind, NoRecord}
use Rattle.assembly_text.specs.Reading.{record_by}
use Rattle.assembly_text.proofs.RecordLaws.{record_made}
use Rattle.assembly_text.proofs.RecordsAgain.{spelled}

-- ---- one number

pub heads : (a c : ℕ) (x y : List ℕ) → a ∷ x ≡ c ∷ y → a ≡ c
heads a c x y e = cc

pub tails : (a c : ℕ) (x y : List ℕ) → a ∷ x ≡ c ∷ y → x ≡ y
tails a c x y e = cc

pub field_text : {t r : List ℕ} {n : ℕ} → Field t n r → t ≡ number_text n ++ r
field_text f = f.space ∙ ap (λ (z : List ℕ). 32 ∷ z) f.begins.written

pub field_shorter : {t r : List ℕ} {n : ℕ} → Field t n r → length r < length t
field_shorter {t = t} {r = r} {n = n} f = omega (arith, ap length (field_text f), length-append (decimal n) r)

pub no_space : (b : ℕ) (bs : List ℕ) → (b ≡ 32 → ⊥) → NoField (b ∷ bs)
no_space b bs other n rest f = other (heads b 32 bs f.number f.space)

-- ---- several

pub fields_append : {ns t r s : List ℕ} {n : ℕ} → Fields ns t r → Field r n s → Fields (ns ++ n ∷ []) t s
fields_append none f = more f none
fields_append (more g fs) f = more g (fields_append fs f)

pub fields_text : {ns t r : List ℕ} → Fields ns t r → t ≡ flat_map number_text ns ++ r
fields_text none = refl
fields_text {r = r} (more {n = n} {ns = ns} f fs) = field_text f ∙ ap (λ (z : List ℕ). number_text n ++ z) (fields_text fs)
    ∙ sym (append_assoc (number_text n) (flat_map number_text ns) r)

behind_numbers : (ms r : List ℕ) → IsBehind (flat_map number_text ms ++ 10 ∷ r)
behind_numbers [] r = refl
behind_numbers (m ∷ ms) r = refl

field_there : (t : List ℕ) (m : ℕ) (rest : List ℕ) → is_u64 m ≡ true → t ≡ 32 ∷ (decimal m ++ rest) → IsBehind rest → Field t m rest
field_there t m rest wide e behind =
    let lt = ltb-true m (2 ^ 64) wide in
    record { number = decimal m ++ rest; space = e; begins = record { bound = omega arith; written = refl; behind = behind } }

pub fields_there : (ns r : List ℕ) → list_all is_u64 ns ≡ true → Fields ns (flat_map number_text ns ++ 10 ∷ r) (10 ∷ r)
fields_there [] r wide = none
fields_there (n ∷ ns) r wide =
    let w = and_parts (is_u64 n) (list_all is_u64 ns) wide in
    let behind = flat_map number_text ns ++ 10 ∷ r in
    more (field_there (flat_map number_text (n ∷ ns) ++ 10 ∷ r) n behind w.0 (append_assoc (number_text n) (flat_map number_text ns) (10 ∷ r))
    (behind_numbers ns r)) (fields_there ns r w.1)

pub record SameNumbers (ns ms left s : List ℕ) : Type 0 where
  pub numbers : ns ≡ ms
  pub rest : left ≡ 10 ∷ s

first_of : (m : ℕ) (ms s : List ℕ) → flat_map number_text (m ∷ ms) ++ 10 ∷ s ≡ 32 ∷ (decimal m ++ (flat_map number_text ms ++ 10 ∷ s))
first_of m ms s = append_assoc (number_text m) (flat_map number_text ms) (10 ∷ s)

pub same_numbers : {ns t r : List ℕ} (ms s : List ℕ) → Fields ns t r → NoField r → list_all is_u64 ms ≡ true → t ≡ flat_map number_text ms ++ 10 ∷ s
    → SameNumbers ns ms r s
same_numbers [] s none stop wide e = record { numbers = refl; rest = e }
same_numbers (m ∷ ms) s (none {text = t}) stop wide e =
    let w = and_parts (is_u64 m) (list_all is_u64 ms) wide in
    absurd (stop m (flat_map number_text ms ++ 10 ∷ s) (field_there t m (flat_map number_text ms ++ 10 ∷ s) w.0 (e ∙ first_of m ms s) (behind_numbers ms s)))
same_numbers [] s (more f fs) stop wide e =
    let differs = heads 32 10 f.number s (sym f.space ∙ e) in
    absurd (omega arith)
same_numbers (m ∷ ms) s (more {n = n} {ns = ns} {rest = rest} f fs) stop wide e =
    let w = and_parts (is_u64 m) (list_all is_u64 ms) wide in
    let lt = ltb-true m (2 ^ 64) w.0 in
    let behind = flat_map number_text ms ++ 10 ∷ s in
    let numbers : decimal n ++ rest ≡ decimal m ++ behind = sym f.begins.written
    ∙ tails 32 32 f.number (decimal m ++ behind) (sym f.space ∙ e ∙ first_of m ms s) in
    let same = same_number n m rest behind (omega (arith, f.begins.bound)) lt numbers f.begins.behind (behind_numbers ms s) in
    let others = same_numbers ms s fs stop w.1 same.rest in
    record { numbers = rw (same.number, others.numbers) refl; rest = others.rest }

-- ---- records

line_of_numbers : (ns rest : List ℕ) → numbers_text ns ++ rest ≡ flat_map number_text ns ++ 10 ∷ rest
line_of_numbers ns rest = append_assoc (flat_map number_text ns) (10 ∷ []) rest

pub found : (word text ns rest : List ℕ) (r : Record) → Fields ns text (10 ∷ rest) → record_by word ns ≡ Some r → RecordBehind word text r rest
found word text ns rest r fs e =
    let m = record_made word ns r e in
    record {
      wide = m.wide;
      word_is = ap (λ (w : Words). w.word) m.words;
      written = fields_text fs ∙ sym (line_of_numbers ns rest) ∙ ap (λ (w : Words). numbers_text w.numbers ++ rest) (sym m.words);
    }

numbers_behind : {word text ns left : List ℕ} (r : Record) (rest : List ℕ) → Fields ns text left → NoField left → RecordBehind word text r rest
    → SameNumbers ns (words_of r).numbers left rest
numbers_behind r rest fs stop b = same_numbers (words_of r).numbers rest fs stop (spelled r b.wide).longs
    (b.written ∙ line_of_numbers (words_of r).numbers rest)

pub record SameRecords (r s : Record) (rest tail : List ℕ) : Type 0 where
  pub same : r ≡ s
  pub rests : rest ≡ tail

one_record : (r s : Record) → Path (Option Record) (Some r) (Some s) → r ≡ s
one_record r s e = cc

pub same_records : (word text : List ℕ) (r s : Record) (rest tail : List ℕ) → RecordBehind word text r rest → RecordBehind word text s tail
    → SameRecords r s rest tail
same_records word text r s rest tail a b =
    let first = b.written ∙ line_of_numbers (words_of s).numbers tail in
    let fs = fields_there (words_of s).numbers tail (spelled s b.wide).longs in
    let at = subst (λ (z : List ℕ). Fields (words_of s).numbers z (10 ∷ tail)) (sym first) fs in
    let n = numbers_behind r rest at (no_space 10 tail (λ e. omega (arith, e))) a in
    let again : record_by (words_of s).word (words_of s).numbers ≡ Some r = ap (λ (z : List ℕ). record_by z (words_of s).numbers) (b.word_is ∙ sym a.word_is)
    ∙ ap (λ (z : List ℕ). record_by (words_of r).word z) n.numbers ∙ (spelled r a.wide).again in
    record { same = one_record r s (sym again ∙ (spelled s b.wide).again); rests = tails 10 10 rest tail (sym n.rest) }

pub no_end : (word text ns left : List ℕ) → Fields ns text left → NoField left → ((z : List ℕ) → left ≢ 10 ∷ z) → NoRecord word text
no_end word text ns left fs stop other r rest b = other rest (numbers_behind r rest fs stop b).rest

none_some : (r : Record) → Path (Option Record) None (Some r) → ⊥
none_some r e = absurd cc

pub none_made : (word text ns left : List ℕ) → Fields ns text left → NoField left → record_by word ns ≡ None → NoRecord word text
none_made word text ns left fs stop e r rest b =
    let same = numbers_behind r rest fs stop b in
    let again : record_by word ns ≡ Some r = ap (λ (z : List ℕ). record_by z ns) (sym b.word_is)
    ∙ ap (λ (z : List ℕ). record_by (words_of r).word z) same.numbers ∙ (spelled r b.wide).again in
    none_some r (sym e ∙ again)

-- ---- words

count_letter : (c : ℕ) (cs : List ℕ) → is_ascii_lowercase c ≡ true → prefix_len is_ascii_lowercase (c ∷ cs) ≡ suc (prefix_len is_ascii_lowercase cs)
count_letter c cs e = ap (λ (b : Bool). cond b (1 + prefix_len is_ascii_lowercase cs) 0) e ∙ omega arith

count_none : (c : ℕ) (cs : List ℕ) → is_ascii_lowercase c ≡ false → prefix_len is_ascii_lowercase (c ∷ cs) ≡ 0
count_none c cs e = ap (λ (b : Bool). cond b (1 + prefix_len is_ascii_lowercase cs) 0) e

word_cut : (w : List ℕ) (c : ℕ) (z : List ℕ) → list_all is_ascii_lowercase w ≡ true → is_ascii_lowercase c ≡ false
    → prefix_len is_ascii_lowercase (w ++ c ∷ z) ≡ length w
word_cut [] c z letters other = count_none c z other
word_cut (x ∷ w) c z letters other =
    let p = and_parts (is_ascii_lowercase x) (list_all is_ascii_lowercase w) letters in
    count_letter x (w ++ c ∷ z) p.0 ∙ ap suc (word_cut w c z p.1 other)

pub record IsCut (text w z : List ℕ) : Type 0 where
  pub front : front_word text ≡ w
  pub behind : behind_word text ≡ z

pub is_cut : (text w : List ℕ) (c : ℕ) (z : List ℕ) → text ≡ w ++ c ∷ z → list_all is_ascii_lowercase w ≡ true → is_ascii_lowercase c ≡ false
    → IsCut text w (c ∷ z)
is_cut text w c z e letters other =
    let n = word_cut w c z letters other in
    record {
      front = ap front_word e ∙ take_at w (c ∷ z) (prefix_len is_ascii_lowercase (w ++ c ∷ z)) (sym n);
      behind = ap behind_word e ∙ drop_at w (c ∷ z) (prefix_len is_ascii_lowercase (w ++ c ∷ z)) (sym n);
    }
