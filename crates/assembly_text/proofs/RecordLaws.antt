-- What a word and numbers make is the record of that word and those numbers.
use Rattle.std.proofs.Common.{◌≡◌, ℕ, Bool, true, false, cond, List, [], ◌∷◌, Option, Some, None, refl, sym, ap, subst, ◌∙◌}
use Rattle.std.specs.Prelude.{codes}
use Rattle.std.specs.List.{list_all}
use Rattle.std.specs.Str.{bytes_eq}
use Rattle.std.proofs.lemmas.Bool.{and_from, and_parts}
use Rattle.std.proofs.lemmas.Slice.Eq.{bytes_eq-Decides}
use Rattle.tx_code.specs.declared.instr.Instr.TheVariants as instrs
use Rattle.object_bytes.specs.declared.op.Op.{Op}
use Rattle.object_bytes.specs.declared.op.Op.TheVariants.{Push, Dup, Pop, Swap, FrameAddr, GlobalAddr, FuncAddr, ClassAddr, Load, Store, TLoad, TStore, VLoad}
use Rattle.object_bytes.specs.declared.op.Op.TheVariants.{VStore, Bin, Neg, Conv, Jump, JumpZero, Call, TCall, CallIndirect, TCallIndirect, Slot, Ret, Begin}
use Rattle.object_bytes.specs.declared.op.Op.TheVariants.{End, BeginSync, EndSync, Out, Inp, Spawn, Join, Abort, NewException, PutException, Throw, Rethrow}
use Rattle.object_bytes.specs.declared.op.Op.TheVariants.{GetException, EndHandler, Resume, Over}
use Rattle.object_bytes.specs.Spelling.{is_u8, is_u32, is_u64, instr_is_wide}
use Rattle.assembly_text.specs.declared.key.Key.{Key}
use Rattle.assembly_text.specs.declared.key.Key.TheVariants as key
use Rattle.assembly_text.specs.declared.line.Record.{Record}
use Rattle.assembly_text.specs.declared.line.Record.TheVariants as kind
use Rattle.assembly_text.specs.Words.{Words, Keyed, keys, key_by, key_of}
use Rattle.assembly_text.specs.Lines.{words_of, record_is_wide}
use Rattle.assembly_text.specs.Options.{given, and_then}
use Rattle.assembly_text.specs.Reading.{◌>>=◌, or_else, long, word, byte, alone, one_long, one_word, one_byte, two_bytes, word_and_byte, two_words, class_head}
use Rattle.assembly_text.specs.Reading.{global_head, func_head, member_of, cell_of, row_of, line_of, made_by_op, made, record_by}

-- the record is that of the word and the numbers, each of which fits its field
pub record Made (w : List ℕ) (ns : List ℕ) (r : Record) : Type 0 where
  pub words : words_of r ≡ record { word = w; numbers = ns }
  pub wide : record_is_wide r ≡ true

-- ---- steps taken apart

pub some_is : {A : Type 0} (x y : A) → Path (Option A) (Some x) (Some y) → x ≡ y
some_is x y e = cc

pub was_given : {A : Type 0} (b : Bool) (x y : A) → given b x ≡ Some y → (b ≡ true) × (x ≡ y)
was_given true x y e = (refl, some_is x y e)
was_given false x y e = absurd cc

cons_same : {a x : ℕ} {xs ys : List ℕ} → a ≡ x → xs ≡ ys → a ∷ xs ≡ x ∷ ys
cons_same e h = rw (e, h) refl

with_word : (w : List ℕ) {ns ms : List ℕ} → ns ≡ ms → Path Words (record { word = w; numbers = ns }) (record { word = w; numbers = ms })
with_word w e = rw e refl

pub record Bound {A B : Type 0} (o : Option A) (next : A → Option B) (y : B) : Type 0 where
  pub x : A
  pub first : o ≡ Some x
  pub behind : next x ≡ Some y

pub bound : {A B : Type 0} (o : Option A) (next : A → Option B) (y : B) → and_then o next ≡ Some y → Bound o next y
bound (Some x) next y e = record { x = x; first = refl; behind = e }
bound None next y e = absurd cc

long_took : (n x : ℕ) → long n ≡ Some x → (n ≡ x) × (is_u64 x ≡ true)
long_took n x e = let g = was_given (is_u64 n) n x e in (g.1, subst (λ (y : ℕ). is_u64 y ≡ true) g.1 g.0)

word_took : (n x : ℕ) → word n ≡ Some x → (n ≡ x) × (is_u32 x ≡ true)
word_took n x e = let g = was_given (is_u32 n) n x e in (g.1, subst (λ (y : ℕ). is_u32 y ≡ true) g.1 g.0)

byte_took : (n x : ℕ) → byte n ≡ Some x → (n ≡ x) × (is_u8 x ≡ true)
byte_took n x e = let g = was_given (is_u8 n) n x e in (g.1, subst (λ (y : ℕ). is_u8 y ≡ true) g.1 g.0)

-- ---- rows by their shapes

alone_row : (made : Record) (w : List ℕ) → words_of made ≡ record { word = w; numbers = [] } → record_is_wide made ≡ true → (ns : List ℕ) (r : Record)
    → alone ns made ≡ Some r → Made w ns r
alone_row made w words wide [] r e = subst (Made w []) (some_is made r e) (record { words = words; wide = wide })
alone_row made w words wide (a ∷ ns) r e = absurd cc

one_long_took : (ns : List ℕ) (x : ℕ) → one_long ns ≡ Some x → (ns ≡ x ∷ []) × (is_u64 x ≡ true)
one_long_took [] x e = absurd cc
one_long_took (a ∷ []) x e = let t = long_took a x e in (cons_same t.0 refl, t.1)
one_long_took (a ∷ b ∷ ns) x e = absurd cc

long_row : (make : ℕ → Record) (w : List ℕ) → ((a : ℕ) → words_of (make a) ≡ record { word = w; numbers = a ∷ [] })
    → ((a : ℕ) → is_u64 a ≡ true → record_is_wide (make a) ≡ true) → (ns : List ℕ) (r : Record) → (one_long ns >>= λ a. Some (make a)) ≡ Some r → Made w ns r
long_row make w words wide ns r e =
    let b = bound (one_long ns) _ r e in
    let t = one_long_took ns b.x b.first in
    subst (Made w ns) (some_is (make b.x) r b.behind) (record { words = words b.x ∙ with_word w (sym t.0); wide = wide b.x t.1 })

one_word_took : (ns : List ℕ) (x : ℕ) → one_word ns ≡ Some x → (ns ≡ x ∷ []) × (is_u32 x ≡ true)
one_word_took [] x e = absurd cc
one_word_took (a ∷ []) x e = let t = word_took a x e in (cons_same t.0 refl, t.1)
one_word_took (a ∷ b ∷ ns) x e = absurd cc

word_row : (make : ℕ → Record) (w : List ℕ) → ((a : ℕ) → words_of (make a) ≡ record { word = w; numbers = a ∷ [] })
    → ((a : ℕ) → is_u32 a ≡ true → record_is_wide (make a) ≡ true) → (ns : List ℕ) (r : Record) → (one_word ns >>= λ a. Some (make a)) ≡ Some r → Made w ns r
word_row make w words wide ns r e =
    let b = bound (one_word ns) _ r e in
    let t = one_word_took ns b.x b.first in
    subst (Made w ns) (some_is (make b.x) r b.behind) (record { words = words b.x ∙ with_word w (sym t.0); wide = wide b.x t.1 })

one_byte_took : (ns : List ℕ) (x : ℕ) → one_byte ns ≡ Some x → (ns ≡ x ∷ []) × (is_u8 x ≡ true)
one_byte_took [] x e = absurd cc
one_byte_took (a ∷ []) x e = let t = byte_took a x e in (cons_same t.0 refl, t.1)
one_byte_took (a ∷ b ∷ ns) x e = absurd cc

byte_row : (make : ℕ → Record) (w : List ℕ) → ((a : ℕ) → words_of (make a) ≡ record { word = w; numbers = a ∷ [] })
    → ((a : ℕ) → is_u8 a ≡ true → record_is_wide (make a) ≡ true) → (ns : List ℕ) (r : Record) → (one_byte ns >>= λ a. Some (make a)) ≡ Some r → Made w ns r
byte_row make w words wide ns r e =
    let b = bound (one_byte ns) _ r e in
    let t = one_byte_took ns b.x b.first in
    subst (Made w ns) (some_is (make b.x) r b.behind) (record { words = words b.x ∙ with_word w (sym t.0); wide = wide b.x t.1 })

two_bytes_took : (ns : List ℕ) (p : ℕ × ℕ) → two_bytes ns ≡ Some p → (ns ≡ p.0 ∷ p.1 ∷ []) × (is_u8 p.0 ≡ true) × (is_u8 p.1 ≡ true)
two_bytes_took [] p e = absurd cc
two_bytes_took (a ∷ []) p e = absurd cc
two_bytes_took (a ∷ b ∷ []) p e =
    let one = bound (byte a) _ p e in
    let two = bound (byte b) _ p one.behind in
    let t = byte_took a one.x one.first in
    let u = byte_took b two.x two.first in
    let same : (one.x, two.x) ≡ p = some_is (one.x, two.x) p two.behind in
    subst (λ (q : ℕ × ℕ). (a ∷ b ∷ [] ≡ q.0 ∷ q.1 ∷ []) × (is_u8 q.0 ≡ true) × (is_u8 q.1 ≡ true)) same (cons_same t.0 (cons_same u.0 refl), t.1, u.1)
two_bytes_took (a ∷ b ∷ c ∷ ns) p e = absurd cc

two_bytes_row : (make : ℕ → ℕ → Record) (w : List ℕ) → ((a b : ℕ) → words_of (make a b) ≡ record { word = w; numbers = a ∷ b ∷ [] })
    → ((a b : ℕ) → is_u8 a ≡ true → is_u8 b ≡ true → record_is_wide (make a b) ≡ true) → (ns : List ℕ) (r : Record)
    → (two_bytes ns >>= λ p. Some (make p.0 p.1)) ≡ Some r → Made w ns r
two_bytes_row make w words wide ns r e =
    let b = bound (two_bytes ns) _ r e in
    let t = two_bytes_took ns b.x b.first in
    subst (Made w ns) (some_is (make b.x.0 b.x.1) r b.behind) (record { words = words b.x.0 b.x.1 ∙ with_word w (sym t.0); wide = wide b.x.0 b.x.1 t.1 t.2 })

word_and_byte_took : (ns : List ℕ) (p : ℕ × ℕ) → word_and_byte ns ≡ Some p → (ns ≡ p.0 ∷ p.1 ∷ []) × (is_u32 p.0 ≡ true) × (is_u8 p.1 ≡ true)
word_and_byte_took [] p e = absurd cc
word_and_byte_took (a ∷ []) p e = absurd cc
word_and_byte_took (a ∷ b ∷ []) p e =
    let one = bound (word a) _ p e in
    let two = bound (byte b) _ p one.behind in
    let t = word_took a one.x one.first in
    let u = byte_took b two.x two.first in
    let same : (one.x, two.x) ≡ p = some_is (one.x, two.x) p two.behind in
    subst (λ (q : ℕ × ℕ). (a ∷ b ∷ [] ≡ q.0 ∷ q.1 ∷ []) × (is_u32 q.0 ≡ true) × (is_u8 q.1 ≡ true)) same (cons_same t.0 (cons_same u.0 refl), t.1, u.1)
word_and_byte_took (a ∷ b ∷ c ∷ ns) p e = absurd cc

word_and_byte_row : (make : ℕ → ℕ → Record) (w : List ℕ) → ((a b : ℕ) → words_of (make a b) ≡ record { word = w; numbers = a ∷ b ∷ [] })
    → ((a b : ℕ) → is_u32 a ≡ true → is_u8 b ≡ true → record_is_wide (make a b) ≡ true) → (ns : List ℕ) (r : Record)
    → (word_and_byte ns >>= λ p. Some (make p.0 p.1)) ≡ Some r → Made w ns r
word_and_byte_row make w words wide ns r e =
    let b = bound (word_and_byte ns) _ r e in
    let t = word_and_byte_took ns b.x b.first in
    subst (Made w ns) (some_is (make b.x.0 b.x.1) r b.behind) (record { words = words b.x.0 b.x.1 ∙ with_word w (sym t.0); wide = wide b.x.0 b.x.1 t.1 t.2 })

two_words_took : (ns : List ℕ) (p : ℕ × ℕ) → two_words ns ≡ Some p → (ns ≡ p.0 ∷ p.1 ∷ []) × (is_u32 p.0 ≡ true) × (is_u32 p.1 ≡ true)
two_words_took [] p e = absurd cc
two_words_took (a ∷ []) p e = absurd cc
two_words_took (a ∷ b ∷ []) p e =
    let one = bound (word a) _ p e in
    let two = bound (word b) _ p one.behind in
    let t = word_took a one.x one.first in
    let u = word_took b two.x two.first in
    let same : (one.x, two.x) ≡ p = some_is (one.x, two.x) p two.behind in
    subst (λ (q : ℕ × ℕ). (a ∷ b ∷ [] ≡ q.0 ∷ q.1 ∷ []) × (is_u32 q.0 ≡ true) × (is_u32 q.1 ≡ true)) same (cons_same t.0 (cons_same u.0 refl), t.1, u.1)
two_words_took (a ∷ b ∷ c ∷ ns) p e = absurd cc

two_words_row : (make : ℕ → ℕ → Record) (w : List ℕ) → ((a b : ℕ) → words_of (make a b) ≡ record { word = w; numbers = a ∷ b ∷ [] })
    → ((a b : ℕ) → is_u32 a ≡ true → is_u32 b ≡ true → record_is_wide (make a b) ≡ true) → (ns : List ℕ) (r : Record)
    → (two_words ns >>= λ p. Some (make p.0 p.1)) ≡ Some r → Made w ns r
two_words_row make w words wide ns r e =
    let b = bound (two_words ns) _ r e in
    let t = two_words_took ns b.x b.first in
    subst (Made w ns) (some_is (make b.x.0 b.x.1) r b.behind) (record { words = words b.x.0 b.x.1 ∙ with_word w (sym t.0); wide = wide b.x.0 b.x.1 t.1 t.2 })

either_row : {P : Type 0} (first other : Option Record) (r : Record) → (first ≡ Some r → P) → (other ≡ Some r → P) → or_else first other ≡ Some r → P
either_row (Some x) other r f g e = f e
either_row None other r f g e = g e

class_head_made : (ns : List ℕ) (r : Record) → class_head ns ≡ Some r → Made (codes "class") ns r
class_head_made ([]) r e = absurd cc
class_head_made (a ∷ []) r e = absurd cc
class_head_made (a ∷ b ∷ []) r e = absurd cc
class_head_made (a ∷ b ∷ c ∷ []) r e = absurd cc
class_head_made (a ∷ b ∷ c ∷ d ∷ []) r e = absurd cc
class_head_made (a ∷ b ∷ c ∷ d ∷ p ∷ []) r e = absurd cc
class_head_made (a ∷ b ∷ c ∷ d ∷ p ∷ q ∷ []) r e =
    let b0 = bound (word a) _ r e in
    let t0 = word_took a b0.x b0.first in
    let b1 = bound (word b) _ r b0.behind in
    let t1 = word_took b b1.x b1.first in
    let b2 = bound (word c) _ r b1.behind in
    let t2 = word_took c b2.x b2.first in
    let b3 = bound (word d) _ r b2.behind in
    let t3 = word_took d b3.x b3.first in
    let b4 = bound (word p) _ r b3.behind in
    let t4 = word_took p b4.x b4.first in
    let b5 = bound (word q) _ r b4.behind in
    let t5 = word_took q b5.x b5.first in
    let same = some_is (kind.Class (record { name = b0.x; size = b1.x; align = b2.x; base = b3.x; pointer = b4.x; text = b5.x })) r b5.behind in
    subst (Made (codes "class") (a ∷ b ∷ c ∷ d ∷ p ∷ q ∷ [])) same
    (record {
      words = with_word (codes "class") (sym
          (cons_same t0.0 (cons_same t1.0 (cons_same t2.0 (cons_same t3.0 (cons_same t4.0 (cons_same t5.0 refl)))))));
      wide =
          (and_from _ _ (and_from _ _ (and_from _ _ (and_from _ _ (and_from _ _ t0.1 t1.1) t2.1) t3.1) t4.1) t5.1);
    })
class_head_made (a ∷ b ∷ c ∷ d ∷ p ∷ q ∷ z ∷ ns) r e = absurd cc

global_head_made : (ns : List ℕ) (r : Record) → global_head ns ≡ Some r → Made (codes "global") ns r
global_head_made ([]) r e = absurd cc
global_head_made (a ∷ []) r e = absurd cc
global_head_made (a ∷ b ∷ []) r e = absurd cc
global_head_made (a ∷ b ∷ c ∷ []) r e = absurd cc
global_head_made (a ∷ b ∷ c ∷ d ∷ []) r e = absurd cc
global_head_made (a ∷ b ∷ c ∷ d ∷ p ∷ []) r e =
    let b0 = bound (word a) _ r e in
    let t0 = word_took a b0.x b0.first in
    let b1 = bound (word b) _ r b0.behind in
    let t1 = word_took b b1.x b1.first in
    let b2 = bound (byte c) _ r b1.behind in
    let t2 = byte_took c b2.x b2.first in
    let b3 = bound (byte d) _ r b2.behind in
    let t3 = byte_took d b3.x b3.first in
    let b4 = bound (word p) _ r b3.behind in
    let t4 = word_took p b4.x b4.first in
    let same = some_is (kind.Global (record { symbol = b0.x; ty = b1.x; linkage = b2.x; defined = b3.x; size = b4.x })) r b4.behind in
    subst (Made (codes "global") (a ∷ b ∷ c ∷ d ∷ p ∷ [])) same
    (record {
      words = with_word (codes "global") (sym (cons_same t0.0 (cons_same t1.0 (cons_same t2.0 (cons_same t3.0 (cons_same t4.0 refl))))));
      wide =
          (and_from _ _ (and_from _ _ (and_from _ _ (and_from _ _ t0.1 t1.1) t2.1) t3.1) t4.1);
    })
global_head_made (a ∷ b ∷ c ∷ d ∷ p ∷ z ∷ ns) r e = absurd cc

func_head_made : (ns : List ℕ) (r : Record) → func_head ns ≡ Some r → Made (codes "func") ns r
func_head_made ([]) r e = absurd cc
func_head_made (a ∷ []) r e = absurd cc
func_head_made (a ∷ b ∷ []) r e = absurd cc
func_head_made (a ∷ b ∷ c ∷ []) r e = absurd cc
func_head_made (a ∷ b ∷ c ∷ d ∷ []) r e = absurd cc
func_head_made (a ∷ b ∷ c ∷ d ∷ p ∷ []) r e = absurd cc
func_head_made (a ∷ b ∷ c ∷ d ∷ p ∷ q ∷ []) r e =
    let b0 = bound (word a) _ r e in
    let t0 = word_took a b0.x b0.first in
    let b1 = bound (word b) _ r b0.behind in
    let t1 = word_took b b1.x b1.first in
    let b2 = bound (byte c) _ r b1.behind in
    let t2 = byte_took c b2.x b2.first in
    let b3 = bound (byte d) _ r b2.behind in
    let t3 = byte_took d b3.x b3.first in
    let b4 = bound (word p) _ r b3.behind in
    let t4 = word_took p b4.x b4.first in
    let b5 = bound (word q) _ r b4.behind in
    let t5 = word_took q b5.x b5.first in
    let same = some_is (kind.Func (record { symbol = b0.x; ty = b1.x; linkage = b2.x; flags = b3.x; text = b4.x; frame = b5.x })) r b5.behind in
    subst (Made (codes "func") (a ∷ b ∷ c ∷ d ∷ p ∷ q ∷ [])) same
    (record {
      words = with_word (codes "func") (sym
          (cons_same t0.0 (cons_same t1.0 (cons_same t2.0 (cons_same t3.0 (cons_same t4.0 (cons_same t5.0 refl)))))));
      wide =
          (and_from _ _ (and_from _ _ (and_from _ _ (and_from _ _ (and_from _ _ t0.1 t1.1) t2.1) t3.1) t4.1) t5.1);
    })
func_head_made (a ∷ b ∷ c ∷ d ∷ p ∷ q ∷ z ∷ ns) r e = absurd cc

member_of_made : (ns : List ℕ) (r : Record) → member_of ns ≡ Some r → Made (codes "member") ns r
member_of_made ([]) r e = absurd cc
member_of_made (a ∷ []) r e = absurd cc
member_of_made (a ∷ b ∷ []) r e = absurd cc
member_of_made (a ∷ b ∷ c ∷ []) r e =
    let b0 = bound (word a) _ r e in
    let t0 = word_took a b0.x b0.first in
    let b1 = bound (word b) _ r b0.behind in
    let t1 = word_took b b1.x b1.first in
    let b2 = bound (word c) _ r b1.behind in
    let t2 = word_took c b2.x b2.first in
    let same = some_is (kind.Member (record { name = b0.x; offset = b1.x; ty = b2.x })) r b2.behind in
    subst (Made (codes "member") (a ∷ b ∷ c ∷ [])) same
    (record {
      words = with_word (codes "member") (sym (cons_same t0.0 (cons_same t1.0 (cons_same t2.0 refl))));
      wide =
          (and_from _ _ (and_from _ _ t0.1 t1.1) t2.1);
    })
member_of_made (a ∷ b ∷ c ∷ z ∷ ns) r e = absurd cc

cell_of_made : (ns : List ℕ) (r : Record) → cell_of ns ≡ Some r → Made (codes "cell") ns r
cell_of_made ([]) r e = absurd cc
cell_of_made (a ∷ []) r e = absurd cc
cell_of_made (a ∷ b ∷ []) r e = absurd cc
cell_of_made (a ∷ b ∷ c ∷ []) r e = absurd cc
cell_of_made (a ∷ b ∷ c ∷ d ∷ []) r e = absurd cc
cell_of_made (a ∷ b ∷ c ∷ d ∷ p ∷ []) r e =
    let b0 = bound (word a) _ r e in
    let t0 = word_took a b0.x b0.first in
    let b1 = bound (byte b) _ r b0.behind in
    let t1 = byte_took b b1.x b1.first in
    let b2 = bound (byte c) _ r b1.behind in
    let t2 = byte_took c b2.x b2.first in
    let b3 = bound (long d) _ r b2.behind in
    let t3 = long_took d b3.x b3.first in
    let b4 = bound (word p) _ r b3.behind in
    let t4 = word_took p b4.x b4.first in
    let same = some_is (kind.Cell (record { offset = b0.x; size = b1.x; what = b2.x; value = b3.x; symbol = b4.x })) r b4.behind in
    subst (Made (codes "cell") (a ∷ b ∷ c ∷ d ∷ p ∷ [])) same
    (record {
      words = with_word (codes "cell") (sym (cons_same t0.0 (cons_same t1.0 (cons_same t2.0 (cons_same t3.0 (cons_same t4.0 refl))))));
      wide =
          (and_from _ _ (and_from _ _ (and_from _ _ (and_from _ _ t0.1 t1.1) t2.1) t3.1) t4.1);
    })
cell_of_made (a ∷ b ∷ c ∷ d ∷ p ∷ z ∷ ns) r e = absurd cc

row_of_made : (ns : List ℕ) (r : Record) → row_of ns ≡ Some r → Made (codes "row") ns r
row_of_made ([]) r e = absurd cc
row_of_made (a ∷ []) r e = absurd cc
row_of_made (a ∷ b ∷ []) r e = absurd cc
row_of_made (a ∷ b ∷ c ∷ []) r e = absurd cc
row_of_made (a ∷ b ∷ c ∷ d ∷ []) r e = absurd cc
row_of_made (a ∷ b ∷ c ∷ d ∷ p ∷ []) r e = absurd cc
row_of_made (a ∷ b ∷ c ∷ d ∷ p ∷ q ∷ []) r e =
    let b0 = bound (word a) _ r e in
    let t0 = word_took a b0.x b0.first in
    let b1 = bound (word b) _ r b0.behind in
    let t1 = word_took b b1.x b1.first in
    let b2 = bound (word c) _ r b1.behind in
    let t2 = word_took c b2.x b2.first in
    let b3 = bound (byte d) _ r b2.behind in
    let t3 = byte_took d b3.x b3.first in
    let b4 = bound (word p) _ r b3.behind in
    let t4 = word_took p b4.x b4.first in
    let b5 = bound (word q) _ r b4.behind in
    let t5 = word_took q b5.x b5.first in
    let same = some_is (kind.Row (record { from = b0.x; to = b1.x; target = b2.x; what = b3.x; ty = b4.x; depth = b5.x })) r b5.behind in
    subst (Made (codes "row") (a ∷ b ∷ c ∷ d ∷ p ∷ q ∷ [])) same
    (record {
      words = with_word (codes "row") (sym
          (cons_same t0.0 (cons_same t1.0 (cons_same t2.0 (cons_same t3.0 (cons_same t4.0 (cons_same t5.0 refl)))))));
      wide =
          (and_from _ _ (and_from _ _ (and_from _ _ (and_from _ _ (and_from _ _ t0.1 t1.1) t2.1) t3.1) t4.1) t5.1);
    })
row_of_made (a ∷ b ∷ c ∷ d ∷ p ∷ q ∷ z ∷ ns) r e = absurd cc

line_of_made : (ns : List ℕ) (r : Record) → line_of ns ≡ Some r → Made (codes "line") ns r
line_of_made ([]) r e = absurd cc
line_of_made (a ∷ []) r e = absurd cc
line_of_made (a ∷ b ∷ []) r e =
    let b0 = bound (word a) _ r e in
    let t0 = word_took a b0.x b0.first in
    let b1 = bound (word b) _ r b0.behind in
    let t1 = word_took b b1.x b1.first in
    let same = some_is (kind.Line (record { from = b0.x; line = b1.x })) r b1.behind in
    subst (Made (codes "line") (a ∷ b ∷ [])) same (record {
      words = with_word (codes "line") (sym (cons_same t0.0 (cons_same t1.0 refl)));
      wide =
          (and_from _ _ t0.1 t1.1);
    })
line_of_made (a ∷ b ∷ z ∷ ns) r e = absurd cc

-- ---- words

op_word : Op → List ℕ
op_word Push = codes "push"
op_word Dup = codes "dup"
op_word Pop = codes "drop"
op_word Swap = codes "swap"
op_word FrameAddr = codes "frame"
op_word GlobalAddr = codes "global"
op_word FuncAddr = codes "func"
op_word ClassAddr = codes "class"
op_word Load = codes "load"
op_word Store = codes "store"
op_word TLoad = codes "tload"
op_word TStore = codes "tstore"
op_word VLoad = codes "vload"
op_word VStore = codes "vstore"
op_word Bin = codes "bin"
op_word Neg = codes "neg"
op_word Conv = codes "conv"
op_word Jump = codes "jump"
op_word JumpZero = codes "jzero"
op_word Call = codes "call"
op_word TCall = codes "tcall"
op_word CallIndirect = codes "calli"
op_word TCallIndirect = codes "tcalli"
op_word Slot = codes "slot"
op_word Ret = codes "ret"
op_word Begin = codes "begin"
op_word End = codes "end"
op_word BeginSync = codes "bsync"
op_word EndSync = codes "esync"
op_word Out = codes "out"
op_word Inp = codes "inp"
op_word Spawn = codes "spawn"
op_word Join = codes "join"
op_word Abort = codes "abort"
op_word NewException = codes "xnew"
op_word PutException = codes "xput"
op_word Throw = codes "throw"
op_word Rethrow = codes "rethrow"
op_word GetException = codes "xget"
op_word EndHandler = codes "xdone"
op_word Resume = codes "resume"
op_word Over = codes "over"

key_word : Key → List ℕ
key_word key.Txob = codes "txob"
key_word key.Source = codes "source"
key_word key.Member = codes "member"
key_word key.Cell = codes "cell"
key_word key.Plain = codes "plain"
key_word key.Safe = codes "safe"
key_word key.Row = codes "row"
key_word key.Line = codes "line"
key_word (key.Op op) = op_word op

abbrev is_key_word : Keyed → Bool
is_key_word row = bytes_eq row.word (key_word row.key)

table : list_all is_key_word keys ≡ true
unfolding keys key_word op_word
table = refl

by_row : (b : Bool) (row : Keyed) (others : Option Key) (w : List ℕ) (k : Key) → bytes_eq row.word w ≡ b → is_key_word row ≡ true
    → (others ≡ Some k → w ≡ key_word k) → cond b (Some row.key) others ≡ Some k → w ≡ key_word k
by_row true row others w k same right more e = sym ((bytes_eq-Decides row.word w).0 same) ∙ (bytes_eq-Decides row.word (key_word row.key)).0 right
    ∙ ap key_word (some_is row.key k e)
by_row false row others w k same right more e = more e

key_found : (rows : List Keyed) (w : List ℕ) (k : Key) → list_all is_key_word rows ≡ true → key_by rows w ≡ Some k → w ≡ key_word k
key_found [] w k right e = absurd cc
key_found (row ∷ rows) w k right e =
    let a = and_parts _ _ right in
    by_row (bytes_eq row.word w) row (key_by rows w) w k refl a.0 (key_found rows w k a.1) e

-- ---- records

op_made : (op : Op) (ns : List ℕ) (r : Record) → made_by_op op ns ≡ Some r → Made (op_word op) ns r
unfolding made_by_op instr_is_wide op_word
op_made Push ns r e = long_row (λ a. kind.Code (instrs.Push a)) (codes "push") (λ a. refl) (λ a h. and_from _ _ h refl) ns r e
op_made Dup ns r e = alone_row (kind.Code instrs.Dup) (codes "dup") refl refl ns r e
op_made Pop ns r e = alone_row (kind.Code instrs.Pop) (codes "drop") refl refl ns r e
op_made Swap ns r e = alone_row (kind.Code instrs.Swap) (codes "swap") refl refl ns r e
op_made FrameAddr ns r e = word_row (λ a. kind.Code (instrs.FrameAddr a)) (codes "frame") (λ a. refl) (λ a h. and_from _ _ h refl) ns r e
op_made GlobalAddr ns r e = either_row (one_word ns >>= λ a. Some (kind.Code (instrs.GlobalAddr a))) (global_head ns) r
    (word_row (λ a. kind.Code (instrs.GlobalAddr a)) (codes "global") (λ a. refl) (λ a h. and_from _ _ h refl) ns r) (global_head_made ns r) e
op_made FuncAddr ns r e = either_row (one_word ns >>= λ a. Some (kind.Code (instrs.FuncAddr a))) (func_head ns) r
    (word_row (λ a. kind.Code (instrs.FuncAddr a)) (codes "func") (λ a. refl) (λ a h. and_from _ _ h refl) ns r) (func_head_made ns r) e
op_made ClassAddr ns r e = either_row (one_word ns >>= λ a. Some (kind.Code (instrs.ClassAddr a))) (class_head ns) r
    (word_row (λ a. kind.Code (instrs.ClassAddr a)) (codes "class") (λ a. refl) (λ a h. and_from _ _ h refl) ns r) (class_head_made ns r) e
op_made Load ns r e = byte_row (λ a. kind.Code (instrs.Load a)) (codes "load") (λ a. refl) (λ a h. and_from _ _ h refl) ns r e
op_made Store ns r e = byte_row (λ a. kind.Code (instrs.Store a)) (codes "store") (λ a. refl) (λ a h. and_from _ _ h refl) ns r e
op_made TLoad ns r e = byte_row (λ a. kind.Code (instrs.TLoad a)) (codes "tload") (λ a. refl) (λ a h. and_from _ _ h refl) ns r e
op_made TStore ns r e = byte_row (λ a. kind.Code (instrs.TStore a)) (codes "tstore") (λ a. refl) (λ a h. and_from _ _ h refl) ns r e
op_made VLoad ns r e = byte_row (λ a. kind.Code (instrs.VLoad a)) (codes "vload") (λ a. refl) (λ a h. and_from _ _ h refl) ns r e
op_made VStore ns r e = byte_row (λ a. kind.Code (instrs.VStore a)) (codes "vstore") (λ a. refl) (λ a h. and_from _ _ h refl) ns r e
op_made Bin ns r e = two_bytes_row (λ a b. kind.Code (instrs.Bin a b)) (codes "bin") (λ a b. refl) (λ a b h k. and_from _ _ (and_from _ _ h k) refl) ns r e
op_made Neg ns r e = byte_row (λ a. kind.Code (instrs.Neg a)) (codes "neg") (λ a. refl) (λ a h. and_from _ _ h refl) ns r e
op_made Conv ns r e = two_bytes_row (λ a b. kind.Code (instrs.Conv a b)) (codes "conv") (λ a b. refl) (λ a b h k. and_from _ _ (and_from _ _ h k) refl) ns r e
op_made Jump ns r e = word_row (λ a. kind.Code (instrs.Jump a)) (codes "jump") (λ a. refl) (λ a h. and_from _ _ h refl) ns r e
op_made JumpZero ns r e = word_row (λ a. kind.Code (instrs.JumpZero a)) (codes "jzero") (λ a. refl) (λ a h. and_from _ _ h refl) ns r e
op_made Call ns r e = word_and_byte_row (λ a b. kind.Code (instrs.Call a b)) (codes "call") (λ a b. refl)
    (λ a b h k. and_from _ _ (and_from _ _ h k) refl) ns r e
op_made TCall ns r e = word_and_byte_row (λ a b. kind.Code (instrs.TCall a b)) (codes "tcall") (λ a b. refl)
    (λ a b h k. and_from _ _ (and_from _ _ h k) refl) ns r e
op_made CallIndirect ns r e = word_and_byte_row (λ a b. kind.Code (instrs.CallIndirect a b)) (codes "calli") (λ a b. refl)
    (λ a b h k. and_from _ _ (and_from _ _ h k) refl) ns r e
op_made TCallIndirect ns r e = word_and_byte_row (λ a b. kind.Code (instrs.TCallIndirect a b)) (codes "tcalli") (λ a b. refl)
    (λ a b h k. and_from _ _ (and_from _ _ h k) refl) ns r e
op_made Slot ns r e = either_row (one_word ns >>= λ a. Some (kind.Slot a)) (two_words ns >>= λ p. Some (kind.Code (instrs.Slot p.0 p.1))) r
    (word_row (λ a. kind.Slot a) (codes "slot") (λ a. refl) (λ a h. h) ns r)
    (two_words_row (λ a b. kind.Code (instrs.Slot a b)) (codes "slot") (λ a b. refl) (λ a b h k. and_from _ _ (and_from _ _ h k) refl) ns r) e
op_made Ret ns r e = byte_row (λ a. kind.Code (instrs.Ret a)) (codes "ret") (λ a. refl) (λ a h. and_from _ _ h refl) ns r e
op_made Begin ns r e = byte_row (λ a. kind.Code (instrs.Begin a)) (codes "begin") (λ a. refl) (λ a h. and_from _ _ h refl) ns r e
op_made End ns r e = alone_row kind.End (codes "end") refl refl ns r e
op_made BeginSync ns r e = alone_row (kind.Code instrs.BeginSync) (codes "bsync") refl refl ns r e
op_made EndSync ns r e = alone_row (kind.Code instrs.EndSync) (codes "esync") refl refl ns r e
op_made Out ns r e = alone_row (kind.Code instrs.Out) (codes "out") refl refl ns r e
op_made Inp ns r e = alone_row (kind.Code instrs.Inp) (codes "inp") refl refl ns r e
op_made Spawn ns r e = alone_row (kind.Code instrs.Spawn) (codes "spawn") refl refl ns r e
op_made Join ns r e = alone_row (kind.Code instrs.Join) (codes "join") refl refl ns r e
op_made Abort ns r e = alone_row (kind.Code instrs.Abort) (codes "abort") refl refl ns r e
op_made NewException ns r e = word_row (λ a. kind.Code (instrs.NewException a)) (codes "xnew") (λ a. refl) (λ a h. and_from _ _ h refl) ns r e
op_made PutException ns r e = two_bytes_row (λ a b. kind.Code (instrs.PutException a b)) (codes "xput") (λ a b. refl)
    (λ a b h k. and_from _ _ (and_from _ _ h k) refl) ns r e
op_made Throw ns r e = alone_row (kind.Code instrs.Throw) (codes "throw") refl refl ns r e
op_made Rethrow ns r e = alone_row (kind.Code instrs.Rethrow) (codes "rethrow") refl refl ns r e
op_made GetException ns r e = two_bytes_row (λ a b. kind.Code (instrs.GetException a b)) (codes "xget") (λ a b. refl)
    (λ a b h k. and_from _ _ (and_from _ _ h k) refl) ns r e
op_made EndHandler ns r e = alone_row (kind.Code instrs.EndHandler) (codes "xdone") refl refl ns r e
op_made Resume ns r e = alone_row (kind.Code instrs.Resume) (codes "resume") refl refl ns r e
op_made Over ns r e = alone_row (kind.Code instrs.Over) (codes "over") refl refl ns r e

key_made : (k : Key) (ns : List ℕ) (r : Record) → made k ns ≡ Some r → Made (key_word k) ns r
unfolding made key_word
key_made key.Txob ns r e = word_row kind.Txob (codes "txob") (λ a. refl) (λ a h. h) ns r e
key_made key.Source ns r e = word_row kind.Source (codes "source") (λ a. refl) (λ a h. h) ns r e
key_made key.Member ns r e = member_of_made ns r e
key_made key.Cell ns r e = cell_of_made ns r e
key_made key.Plain ns r e = alone_row kind.Plain (codes "plain") refl refl ns r e
key_made key.Safe ns r e = alone_row kind.Safe (codes "safe") refl refl ns r e
key_made key.Row ns r e = row_of_made ns r e
key_made key.Line ns r e = line_of_made ns r e
key_made (key.Op op) ns r e = op_made op ns r e

pub record_made : (w ns : List ℕ) (r : Record) → record_by w ns ≡ Some r → Made w ns r
unfolding record_by key_of
record_made w ns r e =
    let b = bound (key_of w) _ r e in
    subst (λ (z : List ℕ). Made z ns r) (sym (key_found keys w b.x table b.first)) (key_made b.x ns r b.behind)
