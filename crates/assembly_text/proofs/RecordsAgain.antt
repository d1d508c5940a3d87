-- The word and the numbers of a record make that record.
use Rattle.std.proofs.Common.{◌≡◌, ℕ, ◌^◌, Bool, true, false, [], ◌∷◌, Option, Some, None, refl, ap, ◌&&◌, arith}
use Rattle.std.specs.Char.{is_ascii_lowercase}
use Rattle.std.specs.List.{list_all}
use Rattle.std.proofs.lemmas.Bool.{and_from, and_parts, false≢true, ltb-true, lt-ltb}
use Rattle.tx_code.specs.declared.instr.Instr.{Instr}
use Rattle.tx_code.specs.declared.instr.Instr.TheVariants.{Push, Dup, Pop, Swap, FrameAddr, GlobalAddr, FuncAddr, ClassAddr, Load, Store, TLoad, TStore, VLoad}
use Rattle.tx_code.specs.declared.instr.Instr.TheVariants.{VStore, Bin, Neg, Conv, Jump, JumpZero, Call, TCall, CallIndirect, TCallIndirect, Slot, Ret, Begin}
use Rattle.tx_code.specs.declared.instr.Instr.TheVariants.{End, BeginSync, EndSync, Out, Inp, Spawn, Join, Abort, NewException, PutException, Throw, Rethrow}
use Rattle.tx_code.specs.declared.instr.Instr.TheVariants.{GetException, EndHandler, Resume, Over}
use Rattle.tx_code.specs.declared.instr.Instr.TheVariants as instrs
use Rattle.tx_code.specs.declared.body.Row.{Row}
use Rattle.tx_code.specs.declared.body.LineRow.{LineRow}
use Rattle.tx_code.specs.declared.object.ObjMember.{ObjMember}
use Rattle.tx_code.specs.declared.object.ObjCell.{ObjCell}
use Rattle.object_bytes.specs.Spelling.{is_u8, is_u32, is_u64, instr_is_wide}
use Rattle.assembly_text.specs.declared.line.ClassHead.{ClassHead}
use Rattle.assembly_text.specs.declared.line.GlobalHead.{GlobalHead}
use Rattle.assembly_text.specs.declared.line.FuncHead.{FuncHead}
use Rattle.assembly_text.specs.declared.line.Record.{Record}
use Rattle.assembly_text.specs.declared.line.Record.TheVariants as kind
use Rattle.assembly_text.specs.Words.{keys, key_of}
use Rattle.assembly_text.specs.Lines.{words_of, record_is_wide}
use Rattle.assembly_text.specs.Options.{given}
use Rattle.assembly_text.specs.Reading.{◌>>=◌, or_else, class_head, global_head, func_head, member_of, cell_of, row_of, line_of, made_by_op, made, record_by}

pub record Spelled (r : Record) : Type 0 where
  pub letters : list_all is_ascii_lowercase (words_of r).word ≡ true
  pub longs : list_all is_u64 (words_of r).numbers ≡ true
  pub again : record_by (words_of r).word (words_of r).numbers ≡ Some r

word_long : (n : ℕ) → is_u32 n ≡ true → is_u64 n ≡ true
word_long n h = let lt = ltb-true n (2 ^ 32) h in lt-ltb n (2 ^ 64) (omega arith)

byte_long : (n : ℕ) → is_u8 n ≡ true → is_u64 n ≡ true
byte_long n h = let lt = ltb-true n (2 ^ 8) h in lt-ltb n (2 ^ 64) (omega arith)

one_again : (b : Bool) (a : ℕ) (make : ℕ → Record) → b ≡ true → (given b a >>= λ x. Some (make x)) ≡ Some (make a)
one_again true a make h = refl
one_again false a make h = absurd (false≢true h)

abbrev pair_of : ℕ → ℕ → Option (ℕ × ℕ)
pair_of i j = Some (i, j)

pair_again : (b c : Bool) (x y : ℕ) (make : ℕ → ℕ → Record) → b ≡ true → c ≡ true
    → ((given b x >>= λ i. given c y >>= λ j. pair_of i j) >>= λ p. Some (make p.0 p.1)) ≡ Some (make x y)
pair_again true true x y make h k = refl
pair_again true false x y make h k = absurd (false≢true k)
pair_again false c x y make h k = absurd (false≢true h)

class_head_again : (x : ClassHead) → is_u32 x.name ≡ true → is_u32 x.size ≡ true → is_u32 x.align ≡ true → is_u32 x.base ≡ true → is_u32 x.pointer ≡ true
    → is_u32 x.text ≡ true → class_head (x.name ∷ x.size ∷ x.align ∷ x.base ∷ x.pointer ∷ x.text ∷ []) ≡ Some (kind.Class x)
class_head_again x h0 h1 h2 h3 h4 h5 = rw (h0, h1, h2, h3, h4, h5) refl

spelled_class : (x : ClassHead) → record_is_wide (kind.Class x) ≡ true → Spelled (kind.Class x)
unfolding record_by key_of keys made made_by_op
spelled_class x w =
    let p5 = and_parts ((is_u32 x.name) && (is_u32 x.size) && (is_u32 x.align) && (is_u32 x.base) && (is_u32 x.pointer)) (is_u32 x.text) w in
    let p4 = and_parts ((is_u32 x.name) && (is_u32 x.size) && (is_u32 x.align) && (is_u32 x.base)) (is_u32 x.pointer) p5.0 in
    let p3 = and_parts ((is_u32 x.name) && (is_u32 x.size) && (is_u32 x.align)) (is_u32 x.base) p4.0 in
    let p2 = and_parts ((is_u32 x.name) && (is_u32 x.size)) (is_u32 x.align) p3.0 in
    let p1 = and_parts (is_u32 x.name) (is_u32 x.size) p2.0 in
    record {
      letters = refl;
      longs = (and_from _ _ (word_long x.name p1.0)
          (and_from _ _ (word_long x.size p1.1) (and_from _ _ (word_long x.align p2.1)
          (and_from _ _ (word_long x.base p3.1) (and_from _ _ (word_long x.pointer p4.1) (and_from _ _ (word_long x.text p5.1) refl))))));
      again =
          class_head_again x p1.0 p1.1 p2.1 p3.1 p4.1 p5.1;
    }

global_head_again : (x : GlobalHead) → is_u32 x.symbol ≡ true → is_u32 x.ty ≡ true → is_u8 x.linkage ≡ true → is_u8 x.defined ≡ true → is_u32 x.size ≡ true
    → global_head (x.symbol ∷ x.ty ∷ x.linkage ∷ x.defined ∷ x.size ∷ []) ≡ Some (kind.Global x)
global_head_again x h0 h1 h2 h3 h4 = rw (h0, h1, h2, h3, h4) refl

spelled_global : (x : GlobalHead) → record_is_wide (kind.Global x) ≡ true → Spelled (kind.Global x)
unfolding record_by key_of keys made made_by_op
spelled_global x w =
    let p4 = and_parts ((is_u32 x.symbol) && (is_u32 x.ty) && (is_u8 x.linkage) && (is_u8 x.defined)) (is_u32 x.size) w in
    let p3 = and_parts ((is_u32 x.symbol) && (is_u32 x.ty) && (is_u8 x.linkage)) (is_u8 x.defined) p4.0 in
    let p2 = and_parts ((is_u32 x.symbol) && (is_u32 x.ty)) (is_u8 x.linkage) p3.0 in
    let p1 = and_parts (is_u32 x.symbol) (is_u32 x.ty) p2.0 in
    record {
      letters = refl;
      longs = (and_from _ _ (word_long x.symbol p1.0)
          (and_from _ _ (word_long x.ty p1.1) (and_from _ _ (byte_long x.linkage p2.1)
          (and_from _ _ (byte_long x.defined p3.1) (and_from _ _ (word_long x.size p4.1) refl)))));
      again = global_head_again x p1.0 p1.1 p2.1 p3.1 p4.1;
    }

func_head_again : (x : FuncHead) → is_u32 x.symbol ≡ true → is_u32 x.ty ≡ true → is_u8 x.linkage ≡ true → is_u8 x.flags ≡ true → is_u32 x.text ≡ true
    → is_u32 x.frame ≡ true → func_head (x.symbol ∷ x.ty ∷ x.linkage ∷ x.flags ∷ x.text ∷ x.frame ∷ []) ≡ Some (kind.Func x)
func_head_again x h0 h1 h2 h3 h4 h5 = rw (h0, h1, h2, h3, h4, h5) refl

spelled_func : (x : FuncHead) → record_is_wide (kind.Func x) ≡ true → Spelled (kind.Func x)
unfolding record_by key_of keys made made_by_op
spelled_func x w =
    let p5 = and_parts ((is_u32 x.symbol) && (is_u32 x.ty) && (is_u8 x.linkage) && (is_u8 x.flags) && (is_u32 x.text)) (is_u32 x.frame) w in
    let p4 = and_parts ((is_u32 x.symbol) && (is_u32 x.ty) && (is_u8 x.linkage) && (is_u8 x.flags)) (is_u32 x.text) p5.0 in
    let p3 = and_parts ((is_u32 x.symbol) && (is_u32 x.ty) && (is_u8 x.linkage)) (is_u8 x.flags) p4.0 in
    let p2 = and_parts ((is_u32 x.symbol) && (is_u32 x.ty)) (is_u8 x.linkage) p3.0 in
    let p1 = and_parts (is_u32 x.symbol) (is_u32 x.ty) p2.0 in
    record {
      letters = refl;
      longs = (and_from _ _ (word_long x.symbol p1.0)
          (and_from _ _ (word_long x.ty p1.1) (and_from _ _ (byte_long x.linkage p2.1)
          (and_from _ _ (byte_long x.flags p3.1) (and_from _ _ (word_long x.text p4.1) (and_from _ _ (word_long x.frame p5.1) refl))))));
      again =
          func_head_again x p1.0 p1.1 p2.1 p3.1 p4.1 p5.1;
    }

member_of_again : (x : ObjMember) → is_u32 x.name ≡ true → is_u32 x.offset ≡ true → is_u32 x.ty ≡ true
    → member_of (x.name ∷ x.offset ∷ x.ty ∷ []) ≡ Some (kind.Member x)
member_of_again x h0 h1 h2 = rw (h0, h1, h2) refl

spelled_member : (x : ObjMember) → record_is_wide (kind.Member x) ≡ true → Spelled (kind.Member x)
unfolding record_by key_of keys made made_by_op
spelled_member x w =
    let p2 = and_parts ((is_u32 x.name) && (is_u32 x.offset)) (is_u32 x.ty) w in
    let p1 = and_parts (is_u32 x.name) (is_u32 x.offset) p2.0 in
    record {
      letters = refl;
      longs = (and_from _ _ (word_long x.name p1.0) (and_from _ _ (word_long x.offset p1.1) (and_from _ _ (word_long x.ty p2.1) refl)));
      again = member_of_again x p1.0 p1.1 p2.1;
    }

cell_of_again : (x : ObjCell) → is_u32 x.offset ≡ true → is_u8 x.size ≡ true → is_u8 x.what ≡ true → is_u64 x.value ≡ true → is_u32 x.symbol ≡ true
    → cell_of (x.offset ∷ x.size ∷ x.what ∷ x.value ∷ x.symbol ∷ []) ≡ Some (kind.Cell x)
cell_of_again x h0 h1 h2 h3 h4 = rw (h0, h1, h2, h3, h4) refl

spelled_cell : (x : ObjCell) → record_is_wide (kind.Cell x) ≡ true → Spelled (kind.Cell x)
unfolding record_by key_of keys made made_by_op
spelled_cell x w =
    let p4 = and_parts ((is_u32 x.offset) && (is_u8 x.size) && (is_u8 x.what) && (is_u64 x.value)) (is_u32 x.symbol) w in
    let p3 = and_parts ((is_u32 x.offset) && (is_u8 x.size) && (is_u8 x.what)) (is_u64 x.value) p4.0 in
    let p2 = and_parts ((is_u32 x.offset) && (is_u8 x.size)) (is_u8 x.what) p3.0 in
    let p1 = and_parts (is_u32 x.offset) (is_u8 x.size) p2.0 in
    record {
      letters = refl;
      longs = (and_from _ _ (word_long x.offset p1.0)
          (and_from _ _ (byte_long x.size p1.1) (and_from _ _ (byte_long x.what p2.1) (and_from _ _ p3.1 (and_from _ _ (word_long x.symbol p4.1) refl)))));
      again = cell_of_again x p1.0 p1.1 p2.1 p3.1 p4.1;
    }

row_of_again : (x : Row) → is_u32 x.from ≡ true → is_u32 x.to ≡ true → is_u32 x.target ≡ true → is_u8 x.what ≡ true → is_u32 x.ty ≡ true → is_u32 x.depth ≡ true
    → row_of (x.from ∷ x.to ∷ x.target ∷ x.what ∷ x.ty ∷ x.depth ∷ []) ≡ Some (kind.Row x)
row_of_again x h0 h1 h2 h3 h4 h5 = rw (h0, h1, h2, h3, h4, h5) refl

spelled_row : (x : Row) → record_is_wide (kind.Row x) ≡ true → Spelled (kind.Row x)
unfolding record_by key_of keys made made_by_op
spelled_row x w =
    let p5 = and_parts ((is_u32 x.from) && (is_u32 x.to) && (is_u32 x.target) && (is_u8 x.what) && (is_u32 x.ty)) (is_u32 x.depth) w in
    let p4 = and_parts ((is_u32 x.from) && (is_u32 x.to) && (is_u32 x.target) && (is_u8 x.what)) (is_u32 x.ty) p5.0 in
    let p3 = and_parts ((is_u32 x.from) && (is_u32 x.to) && (is_u32 x.target)) (is_u8 x.what) p4.0 in
    let p2 = and_parts ((is_u32 x.from) && (is_u32 x.to)) (is_u32 x.target) p3.0 in
    let p1 = and_parts (is_u32 x.from) (is_u32 x.to) p2.0 in
    record {
      letters = refl;
      longs = (and_from _ _ (word_long x.from p1.0)
          (and_from _ _ (word_long x.to p1.1) (and_from _ _ (word_long x.target p2.1)
          (and_from _ _ (byte_long x.what p3.1) (and_from _ _ (word_long x.ty p4.1) (and_from _ _ (word_long x.depth p5.1) refl))))));
      again =
          row_of_again x p1.0 p1.1 p2.1 p3.1 p4.1 p5.1;
    }

line_of_again : (x : LineRow) → is_u32 x.from ≡ true → is_u32 x.line ≡ true → line_of (x.from ∷ x.line ∷ []) ≡ Some (kind.Line x)
line_of_again x h0 h1 = rw (h0, h1) refl

spelled_line : (x : LineRow) → record_is_wide (kind.Line x) ≡ true → Spelled (kind.Line x)
unfolding record_by key_of keys made made_by_op
spelled_line x w =
    let p1 = and_parts (is_u32 x.from) (is_u32 x.line) w in
    record { letters = refl; longs = (and_from _ _ (word_long x.from p1.0) (and_from _ _ (word_long x.line p1.1) refl)); again = line_of_again x p1.0 p1.1 }

spelled_code : (i : Instr) → record_is_wide (kind.Code i) ≡ true → Spelled (kind.Code i)
unfolding record_by key_of keys made made_by_op instr_is_wide
spelled_code (Push a) w = record {
  letters = refl;
  longs = and_from _ _ (and_parts (is_u64 a) true w).0 refl;
  again = one_again (is_u64 a) a
      (λ x. kind.Code (instrs.Push x)) (and_parts (is_u64 a) true w).0;
}
spelled_code Dup w = record { letters = refl; longs = refl; again = refl }
spelled_code Pop w = record { letters = refl; longs = refl; again = refl }
spelled_code Swap w = record { letters = refl; longs = refl; again = refl }
spelled_code (FrameAddr a) w = record {
  letters = refl;
  longs = and_from _ _ (word_long a (and_parts (is_u32 a) true w).0) refl;
  again = one_again (is_u32 a) a
      (λ x. kind.Code (instrs.FrameAddr x)) (and_parts (is_u32 a) true w).0;
}
spelled_code (GlobalAddr a) w = record {
  letters = refl;
  longs = and_from _ _ (word_long a (and_parts (is_u32 a) true w).0) refl;
  again = ap
      (λ o. or_else o (global_head (a ∷ []))) (one_again (is_u32 a) a (λ x. kind.Code (instrs.GlobalAddr x)) (and_parts (is_u32 a) true w).0);
}
spelled_code (FuncAddr a) w = record {
  letters = refl;
  longs = and_from _ _ (word_long a (and_parts (is_u32 a) true w).0) refl;
  again = ap
      (λ o. or_else o (func_head (a ∷ []))) (one_again (is_u32 a) a (λ x. kind.Code (instrs.FuncAddr x)) (and_parts (is_u32 a) true w).0);
}
spelled_code (ClassAddr a) w = record {
  letters = refl;
  longs = and_from _ _ (word_long a (and_parts (is_u32 a) true w).0) refl;
  again = ap
      (λ o. or_else o (class_head (a ∷ []))) (one_again (is_u32 a) a (λ x. kind.Code (instrs.ClassAddr x)) (and_parts (is_u32 a) true w).0);
}
spelled_code (Load a) w = record {
  letters = refl;
  longs = and_from _ _ (byte_long a (and_parts (is_u8 a) true w).0) refl;
  again = one_again (is_u8 a) a
      (λ x. kind.Code (instrs.Load x)) (and_parts (is_u8 a) true w).0;
}
spelled_code (Store a) w = record {
  letters = refl;
  longs = and_from _ _ (byte_long a (and_parts (is_u8 a) true w).0) refl;
  again = one_again (is_u8 a) a
      (λ x. kind.Code (instrs.Store x)) (and_parts (is_u8 a) true w).0;
}
spelled_code (TLoad a) w = record {
  letters = refl;
  longs = and_from _ _ (byte_long a (and_parts (is_u8 a) true w).0) refl;
  again = one_again (is_u8 a) a
      (λ x. kind.Code (instrs.TLoad x)) (and_parts (is_u8 a) true w).0;
}
spelled_code (TStore a) w = record {
  letters = refl;
  longs = and_from _ _ (byte_long a (and_parts (is_u8 a) true w).0) refl;
  again = one_again (is_u8 a) a
      (λ x. kind.Code (instrs.TStore x)) (and_parts (is_u8 a) true w).0;
}
spelled_code (VLoad a) w = record {
  letters = refl;
  longs = and_from _ _ (byte_long a (and_parts (is_u8 a) true w).0) refl;
  again = one_again (is_u8 a) a
      (λ x. kind.Code (instrs.VLoad x)) (and_parts (is_u8 a) true w).0;
}
spelled_code (VStore a) w = record {
  letters = refl;
  longs = and_from _ _ (byte_long a (and_parts (is_u8 a) true w).0) refl;
  again = one_again (is_u8 a) a
      (λ x. kind.Code (instrs.VStore x)) (and_parts (is_u8 a) true w).0;
}
spelled_code (Bin a b) w =
    let h = and_parts (is_u8 a) (is_u8 b) (and_parts (is_u8 a && is_u8 b) true w).0 in
    record {
      letters = refl;
      longs = and_from _ _ (byte_long a h.0) (and_from _ _ (byte_long b h.1) refl);
      again =
          pair_again (is_u8 a) (is_u8 b) a b (λ x y. kind.Code (instrs.Bin x y)) h.0 h.1;
    }
spelled_code (Neg a) w = record {
  letters = refl;
  longs = and_from _ _ (byte_long a (and_parts (is_u8 a) true w).0) refl;
  again = one_again (is_u8 a) a
      (λ x. kind.Code (instrs.Neg x)) (and_parts (is_u8 a) true w).0;
}
spelled_code (Conv a b) w =
    let h = and_parts (is_u8 a) (is_u8 b) (and_parts (is_u8 a && is_u8 b) true w).0 in
    record {
      letters = refl;
      longs = and_from _ _ (byte_long a h.0) (and_from _ _ (byte_long b h.1) refl);
      again =
          pair_again (is_u8 a) (is_u8 b) a b (λ x y. kind.Code (instrs.Conv x y)) h.0 h.1;
    }
spelled_code (Jump a) w = record {
  letters = refl;
  longs = and_from _ _ (word_long a (and_parts (is_u32 a) true w).0) refl;
  again = one_again (is_u32 a) a
      (λ x. kind.Code (instrs.Jump x)) (and_parts (is_u32 a) true w).0;
}
spelled_code (JumpZero a) w = record {
  letters = refl;
  longs = and_from _ _ (word_long a (and_parts (is_u32 a) true w).0) refl;
  again = one_again (is_u32 a) a
      (λ x. kind.Code (instrs.JumpZero x)) (and_parts (is_u32 a) true w).0;
}
spelled_code (Call a b) w =
    let h = and_parts (is_u32 a) (is_u8 b) (and_parts (is_u32 a && is_u8 b) true w).0 in
    record {
      letters = refl;
      longs = and_from _ _ (word_long a h.0) (and_from _ _ (byte_long b h.1) refl);
      again =
          pair_again (is_u32 a) (is_u8 b) a b (λ x y. kind.Code (instrs.Call x y)) h.0 h.1;
    }
spelled_code (TCall a b) w =
    let h = and_parts (is_u32 a) (is_u8 b) (and_parts (is_u32 a && is_u8 b) true w).0 in
    record {
      letters = refl;
      longs = and_from _ _ (word_long a h.0) (and_from _ _ (byte_long b h.1) refl);
      again =
          pair_again (is_u32 a) (is_u8 b) a b (λ x y. kind.Code (instrs.TCall x y)) h.0 h.1;
    }
spelled_code (CallIndirect a b) w =
    let h = and_parts (is_u32 a) (is_u8 b) (and_parts (is_u32 a && is_u8 b) true w).0 in
    record {
      letters = refl;
      longs = and_from _ _ (word_long a h.0) (and_from _ _ (byte_long b h.1) refl);
      again =
          pair_again (is_u32 a) (is_u8 b) a b (λ x y. kind.Code (instrs.CallIndirect x y)) h.0 h.1;
    }
spelled_code (TCallIndirect a b) w =
    let h = and_parts (is_u32 a) (is_u8 b) (and_parts (is_u32 a && is_u8 b) true w).0 in
    record {
      letters = refl;
      longs = and_from _ _ (word_long a h.0) (and_from _ _ (byte_long b h.1) refl);
      again =
          pair_again (is_u32 a) (is_u8 b) a b (λ x y. kind.Code (instrs.TCallIndirect x y)) h.0 h.1;
    }
spelled_code (Slot a b) w =
    let h = and_parts (is_u32 a) (is_u32 b) (and_parts (is_u32 a && is_u32 b) true w).0 in
    record {
      letters = refl;
      longs = and_from _ _ (word_long a h.0) (and_from _ _ (word_long b h.1) refl);
      again =
          pair_again (is_u32 a) (is_u32 b) a b (λ x y. kind.Code (instrs.Slot x y)) h.0 h.1;
    }
spelled_code (Ret a) w = record {
  letters = refl;
  longs = and_from _ _ (byte_long a (and_parts (is_u8 a) true w).0) refl;
  again = one_again (is_u8 a) a
      (λ x. kind.Code (instrs.Ret x)) (and_parts (is_u8 a) true w).0;
}
spelled_code (Begin a) w = record {
  letters = refl;
  longs = and_from _ _ (byte_long a (and_parts (is_u8 a) true w).0) refl;
  again = one_again (is_u8 a) a
      (λ x. kind.Code (instrs.Begin x)) (and_parts (is_u8 a) true w).0;
}
spelled_code End w = absurd (false≢true w)
spelled_code BeginSync w = record { letters = refl; longs = refl; again = refl }
spelled_code EndSync w = record { letters = refl; longs = refl; again = refl }
spelled_code Out w = record { letters = refl; longs = refl; again = refl }
spelled_code Inp w = record { letters = refl; longs = refl; again = refl }
spelled_code Spawn w = record { letters = refl; longs = refl; again = refl }
spelled_code Join w = record { letters = refl; longs = refl; again = refl }
spelled_code Abort w = record { letters = refl; longs = refl; again = refl }
spelled_code (NewException a) w = record {
  letters = refl;
  longs = and_from _ _ (word_long a (and_parts (is_u32 a) true w).0) refl;
  again = one_again
      (is_u32 a) a (λ x. kind.Code (instrs.NewException x)) (and_parts (is_u32 a) true w).0;
}
spelled_code (PutException a b) w =
    let h = and_parts (is_u8 a) (is_u8 b) (and_parts (is_u8 a && is_u8 b) true w).0 in
    record {
      letters = refl;
      longs = and_from _ _ (byte_long a h.0) (and_from _ _ (byte_long b h.1) refl);
      again =
          pair_again (is_u8 a) (is_u8 b) a b (λ x y. kind.Code (instrs.PutException x y)) h.0 h.1;
    }
spelled_code Throw w = record { letters = refl; longs = refl; again = refl }
spelled_code Rethrow w = record { letters = refl; longs = refl; again = refl }
spelled_code (GetException a b) w =
    let h = and_parts (is_u8 a) (is_u8 b) (and_parts (is_u8 a && is_u8 b) true w).0 in
    record {
      letters = refl;
      longs = and_from _ _ (byte_long a h.0) (and_from _ _ (byte_long b h.1) refl);
      again =
          pair_again (is_u8 a) (is_u8 b) a b (λ x y. kind.Code (instrs.GetException x y)) h.0 h.1;
    }
spelled_code EndHandler w = record { letters = refl; longs = refl; again = refl }
spelled_code Resume w = record { letters = refl; longs = refl; again = refl }
spelled_code Over w = record { letters = refl; longs = refl; again = refl }

pub spelled : (r : Record) → record_is_wide r ≡ true → Spelled r
unfolding record_by key_of keys made made_by_op
spelled (kind.Txob a) w = record { letters = refl; longs = and_from _ _ (word_long a w) refl; again = one_again (is_u32 a) a kind.Txob w }
spelled (kind.Source a) w = record { letters = refl; longs = and_from _ _ (word_long a w) refl; again = one_again (is_u32 a) a kind.Source w }
spelled (kind.Class x) w = spelled_class x w
spelled (kind.Member x) w = spelled_member x w
spelled (kind.Slot a) w = record {
  letters = refl;
  longs = and_from _ _ (word_long a w) refl;
  again = ap (λ o. or_else o None)
      (one_again (is_u32 a) a kind.Slot w);
}
spelled (kind.Global x) w = spelled_global x w
spelled (kind.Cell x) w = spelled_cell x w
spelled (kind.Func x) w = spelled_func x w
spelled kind.Plain w = record { letters = refl; longs = refl; again = refl }
spelled kind.Safe w = record { letters = refl; longs = refl; again = refl }
spelled (kind.Code i) w = spelled_code i w
spelled (kind.Row x) w = spelled_row x w
spelled (kind.Line x) w = spelled_line x w
spelled kind.End w = record { letters = refl; longs = refl; again = refl }
