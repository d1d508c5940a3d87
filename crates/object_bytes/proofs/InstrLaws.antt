-- Instructions: each op byte with the operands that it asks for.
use Rattle.std.proofs.Common.{◌≡◌, ℕ, zero, suc, ◌+◌, nat_eq, arith, Bool, true, List, [], ◌∷◌, ◌++◌, Option, Some, None, refl, sym, ap, ◌∙◌, ◌&&◌}
use Rattle.std.specs.List.{list_all, slice_get}
use Rattle.std.specs.Option.{is_some}
use Rattle.std.proofs.lemmas.Bool.{and_parts, and_from, eqb-true}
use Rattle.tx_code.specs.declared.instr.Instr.{Instr}
use Rattle.tx_code.specs.declared.instr.Instr.TheVariants.{Push, Dup, Pop, Swap, FrameAddr, GlobalAddr, FuncAddr, ClassAddr, Load, Store, TLoad, TStore, VLoad}
use Rattle.tx_code.specs.declared.instr.Instr.TheVariants.{VStore, Bin, Neg, Conv, Jump, JumpZero, Call, TCall, CallIndirect, TCallIndirect, Slot, Ret, Begin}
use Rattle.tx_code.specs.declared.instr.Instr.TheVariants.{End, BeginSync, EndSync, Out, Inp, Spawn, Join, Abort, NewException, PutException, Throw, Rethrow}
use Rattle.tx_code.specs.declared.instr.Instr.TheVariants.{GetException, EndHandler, Resume, Over}
use Rattle.tx_code.specs.WellFormed.{is_name, named_by}
use Rattle.object_bytes.specs.declared.op.Op.{Op}
use Rattle.object_bytes.specs.declared.op.Op.TheVariants as o
use Rattle.object_bytes.specs.Spelling.{u32_bytes, u64_bytes, instr_bytes, instr_is_wide, is_u8, is_u32}
use Rattle.object_bytes.specs.Instructions.{name, ops, op_or_fail, op, operands, instr}
use Rattle.object_bytes.proofs.Codec.{Reads, Is, Again, reads_weaken, reads_done, reads_field, reads_last, reads_test, again_done, again_bind, again_last}
use Rattle.object_bytes.proofs.Codec.{again_test, u8_reads, u8_again, u32_reads, u32_again, u64_reads, u64_again}
use Rattle.object_bytes.proofs.Lists.{OneFits}

abbrev pub names_in : (n : ℕ) → Instr → Bool
names_in n i = list_all (is_name n) (named_by i)

pub name_reads : (n : ℕ) → Reads (name n) (Is u32_bytes (λ x. (is_u32 x ≡ true) × (is_name n x ≡ true)))
name_reads n = reads_test _ u32_reads

pub name_again : (n x : ℕ) → is_u32 x ≡ true → is_name n x ≡ true → Again (name n) (u32_bytes x) x
name_again n x wide fits = again_test _ (u32_again x wide) fits

one_name : (n x : ℕ) → (is_name n x && true) ≡ true → is_name n x ≡ true
one_name n x h = (and_parts (is_name n x) true h).0

-- the op byte
unfoldable op_byte : Op → ℕ
op_byte o.Push = 0
op_byte o.Dup = 1
op_byte o.Pop = 2
op_byte o.Swap = 3
op_byte o.FrameAddr = 4
op_byte o.GlobalAddr = 5
op_byte o.FuncAddr = 6
op_byte o.ClassAddr = 7
op_byte o.Load = 8
op_byte o.Store = 9
op_byte o.TLoad = 10
op_byte o.TStore = 11
op_byte o.VLoad = 12
op_byte o.VStore = 13
op_byte o.Bin = 14
op_byte o.Neg = 15
op_byte o.Conv = 16
op_byte o.Jump = 17
op_byte o.JumpZero = 18
op_byte o.Call = 19
op_byte o.TCall = 20
op_byte o.CallIndirect = 21
op_byte o.TCallIndirect = 22
op_byte o.Slot = 23
op_byte o.Ret = 24
op_byte o.Begin = 25
op_byte o.End = 26
op_byte o.BeginSync = 27
op_byte o.EndSync = 28
op_byte o.Out = 29
op_byte o.Inp = 30
op_byte o.Spawn = 31
op_byte o.Join = 32
op_byte o.Abort = 33
op_byte o.NewException = 34
op_byte o.PutException = 35
op_byte o.Throw = 36
op_byte o.Rethrow = 37
op_byte o.GetException = 38
op_byte o.EndHandler = 39
op_byte o.Resume = 40
op_byte o.Over = 41

-- the table has each op at its byte
op_is_there : (p : Op) → slice_get ops (op_byte p) ≡ Some p
unfolding op_byte
op_is_there o.Push = refl
op_is_there o.Dup = refl
op_is_there o.Pop = refl
op_is_there o.Swap = refl
op_is_there o.FrameAddr = refl
op_is_there o.GlobalAddr = refl
op_is_there o.FuncAddr = refl
op_is_there o.ClassAddr = refl
op_is_there o.Load = refl
op_is_there o.Store = refl
op_is_there o.TLoad = refl
op_is_there o.TStore = refl
op_is_there o.VLoad = refl
op_is_there o.VStore = refl
op_is_there o.Bin = refl
op_is_there o.Neg = refl
op_is_there o.Conv = refl
op_is_there o.Jump = refl
op_is_there o.JumpZero = refl
op_is_there o.Call = refl
op_is_there o.TCall = refl
op_is_there o.CallIndirect = refl
op_is_there o.TCallIndirect = refl
op_is_there o.Slot = refl
op_is_there o.Ret = refl
op_is_there o.Begin = refl
op_is_there o.End = refl
op_is_there o.BeginSync = refl
op_is_there o.EndSync = refl
op_is_there o.Out = refl
op_is_there o.Inp = refl
op_is_there o.Spawn = refl
op_is_there o.Join = refl
op_is_there o.Abort = refl
op_is_there o.NewException = refl
op_is_there o.PutException = refl
op_is_there o.Throw = refl
op_is_there o.Rethrow = refl
op_is_there o.GetException = refl
op_is_there o.EndHandler = refl
op_is_there o.Resume = refl
op_is_there o.Over = refl

abbrev numbered : ℕ → List Op → Bool
numbered k [] = true
numbered k (p ∷ ps) = nat_eq (op_byte p) k && numbered (k + 1) ps

number_at : (k : ℕ) (ps : List Op) (i : ℕ) (p : Op) → numbered k ps ≡ true → slice_get ps i ≡ Some p → op_byte p ≡ k + i
number_at k [] i p h e = absurd cc
number_at k (q ∷ ps) zero p h e =
    let same : q ≡ p = cc in
    let a = and_parts (nat_eq (op_byte q) k) (numbered (k + 1) ps) h in
    let b : op_byte q ≡ k = eqb-true _ _ a.0 in
    ap op_byte (sym same) ∙ b ∙ omega arith
number_at k (q ∷ ps) (suc i) p h e =
    let a = and_parts (nat_eq (op_byte q) k) (numbered (k + 1) ps) h in
    number_at (k + 1) ps i p a.1 e ∙ omega arith

all_numbered : numbered 0 ops ≡ true
unfolding op_byte
all_numbered = refl

byte_of_op : (b : ℕ) (p : Op) → slice_get ops b ≡ Some p → b ≡ op_byte p
byte_of_op b p e = sym (number_at 0 ops b p all_numbered e ∙ omega arith)

op_found : (b : ℕ) (found : Option Op) → slice_get ops b ≡ found → is_some found ≡ true → Reads (op_or_fail found) (λ q p. b ∷ q ≡ op_byte p ∷ [])
op_found b None e h = absurd cc
op_found b (Some p) e h = reads_done _ (ap (λ (z : ℕ). z ∷ []) (byte_of_op b p e))

op_reads : Reads op (Is (λ p. op_byte p ∷ []) (λ p. Unit {0}))
unfolding op
op_reads = reads_weaken (λ part p h. record { spelled = h; fits = tt }) (reads_field (reads_test _ u8_reads) (λ b hb. op_found b (slice_get ops b) refl hb.1))

op_again : (p : Op) → Again op (op_byte p ∷ []) p
unfolding op
op_again p =
    let there : is_some (slice_get ops (op_byte p)) ≡ true = rw (op_is_there p) refl in
    let found : Again (op_or_fail (slice_get ops (op_byte p))) [] p = rw (op_is_there p) (again_done p) in
    again_bind _ (op_byte p ∷ []) [] (again_test _ (u8_again (op_byte p)) there) found

-- ---- operands

operands_read : (n : ℕ) (p : Op) → Reads (operands n p) (λ q i. (op_byte p ∷ q ≡ instr_bytes i) × OneFits (names_in n) instr_is_wide i)
unfolding operands op_byte instr_bytes instr_is_wide
operands_read n o.Push = reads_last _ u64_reads (λ a ha. (refl, record { test = refl; wide = ha }))
operands_read n o.Dup = reads_done _ (refl, record { test = refl; wide = refl })
operands_read n o.Pop = reads_done _ (refl, record { test = refl; wide = refl })
operands_read n o.Swap = reads_done _ (refl, record { test = refl; wide = refl })
operands_read n o.FrameAddr = reads_last _ u32_reads (λ a ha. (refl, record { test = refl; wide = ha }))
operands_read n o.GlobalAddr = reads_last _ (name_reads n) (λ a ha. (refl, record { test = and_from (is_name n a) true ha.1 refl; wide = ha.0 }))
operands_read n o.FuncAddr = reads_last _ (name_reads n) (λ a ha. (refl, record { test = and_from (is_name n a) true ha.1 refl; wide = ha.0 }))
operands_read n o.ClassAddr = reads_last _ (name_reads n) (λ a ha. (refl, record { test = and_from (is_name n a) true ha.1 refl; wide = ha.0 }))
operands_read n o.Load = reads_last _ u8_reads (λ a ha. (refl, record { test = refl; wide = ha }))
operands_read n o.Store = reads_last _ u8_reads (λ a ha. (refl, record { test = refl; wide = ha }))
operands_read n o.TLoad = reads_last _ u8_reads (λ a ha. (refl, record { test = refl; wide = ha }))
operands_read n o.TStore = reads_last _ u8_reads (λ a ha. (refl, record { test = refl; wide = ha }))
operands_read n o.VLoad = reads_last _ u8_reads (λ a ha. (refl, record { test = refl; wide = ha }))
operands_read n o.VStore = reads_last _ u8_reads (λ a ha. (refl, record { test = refl; wide = ha }))
operands_read n o.Bin = reads_field u8_reads (λ a ha. reads_last _ u8_reads (λ b hb. (refl, record { test = refl; wide = and_from (is_u8 a) (is_u8 b) ha hb })))
operands_read n o.Neg = reads_last _ u8_reads (λ a ha. (refl, record { test = refl; wide = ha }))
operands_read n o.Conv = reads_field u8_reads (λ a ha. reads_last _ u8_reads
    (λ b hb. (refl, record { test = refl; wide = and_from (is_u8 a) (is_u8 b) ha hb })))
operands_read n o.Jump = reads_last _ u32_reads (λ a ha. (refl, record { test = refl; wide = ha }))
operands_read n o.JumpZero = reads_last _ u32_reads (λ a ha. (refl, record { test = refl; wide = ha }))
operands_read n o.Call = reads_field (name_reads n) (λ a ha. reads_last _ u8_reads
    (λ b hb. (refl, record { test = and_from (is_name n a) true ha.1 refl; wide = and_from (is_u32 a) (is_u8 b) ha.0 hb })))
operands_read n o.TCall = reads_field (name_reads n) (λ a ha. reads_last _ u8_reads
    (λ b hb. (refl, record { test = and_from (is_name n a) true ha.1 refl; wide = and_from (is_u32 a) (is_u8 b) ha.0 hb })))
operands_read n o.CallIndirect = reads_field (name_reads n)
    (λ a ha. reads_last _ u8_reads (λ b hb. (refl, record { test = and_from (is_name n a) true ha.1 refl; wide = and_from (is_u32 a) (is_u8 b) ha.0 hb })))
operands_read n o.TCallIndirect = reads_field (name_reads n)
    (λ a ha. reads_last _ u8_reads (λ b hb. (refl, record { test = and_from (is_name n a) true ha.1 refl; wide = and_from (is_u32 a) (is_u8 b) ha.0 hb })))
operands_read n o.Slot = reads_field (name_reads n) (λ a ha. reads_last _ u32_reads
    (λ b hb. (refl, record { test = and_from (is_name n a) true ha.1 refl; wide = and_from (is_u32 a) (is_u32 b) ha.0 hb })))
operands_read n o.Ret = reads_last _ u8_reads (λ a ha. (refl, record { test = refl; wide = ha }))
operands_read n o.Begin = reads_last _ u8_reads (λ a ha. (refl, record { test = refl; wide = ha }))
operands_read n o.End = reads_done _ (refl, record { test = refl; wide = refl })
operands_read n o.BeginSync = reads_done _ (refl, record { test = refl; wide = refl })
operands_read n o.EndSync = reads_done _ (refl, record { test = refl; wide = refl })
operands_read n o.Out = reads_done _ (refl, record { test = refl; wide = refl })
operands_read n o.Inp = reads_done _ (refl, record { test = refl; wide = refl })
operands_read n o.Spawn = reads_done _ (refl, record { test = refl; wide = refl })
operands_read n o.Join = reads_done _ (refl, record { test = refl; wide = refl })
operands_read n o.Abort = reads_done _ (refl, record { test = refl; wide = refl })
operands_read n o.NewException = reads_last _ (name_reads n) (λ a ha. (refl, record { test = and_from (is_name n a) true ha.1 refl; wide = ha.0 }))
operands_read n o.PutException = reads_field u8_reads
    (λ a ha. reads_last _ u8_reads (λ b hb. (refl, record { test = refl; wide = and_from (is_u8 a) (is_u8 b) ha hb })))
operands_read n o.Throw = reads_done _ (refl, record { test = refl; wide = refl })
operands_read n o.Rethrow = reads_done _ (refl, record { test = refl; wide = refl })
operands_read n o.GetException = reads_field u8_reads
    (λ a ha. reads_last _ u8_reads (λ b hb. (refl, record { test = refl; wide = and_from (is_u8 a) (is_u8 b) ha hb })))
operands_read n o.EndHandler = reads_done _ (refl, record { test = refl; wide = refl })
operands_read n o.Resume = reads_done _ (refl, record { test = refl; wide = refl })
operands_read n o.Over = reads_done _ (refl, record { test = refl; wide = refl })

pub instr_reads : (n : ℕ) → Reads (instr n) (Is instr_bytes (OneFits (names_in n) instr_is_wide))
unfolding instr
instr_reads n = reads_field op_reads (λ p hp. reads_weaken (λ q i h. record { spelled = h.0; fits = h.1 }) (operands_read n p))

pub instr_again : (n : ℕ) (i : Instr) → OneFits (names_in n) instr_is_wide i → Again (instr n) (instr_bytes i) i
unfolding instr operands op_byte instr_bytes instr_is_wide
instr_again n (Push a) fits = again_bind _ (0 ∷ []) (u64_bytes a) (op_again o.Push) (again_last _ (u64_again a fits.wide))
instr_again n Dup fits = again_bind _ (1 ∷ []) [] (op_again o.Dup) (again_done _)
instr_again n Pop fits = again_bind _ (2 ∷ []) [] (op_again o.Pop) (again_done _)
instr_again n Swap fits = again_bind _ (3 ∷ []) [] (op_again o.Swap) (again_done _)
instr_again n (FrameAddr a) fits = again_bind _ (4 ∷ []) (u32_bytes a) (op_again o.FrameAddr) (again_last _ (u32_again a fits.wide))
instr_again n (GlobalAddr a) fits = again_bind _ (5 ∷ []) (u32_bytes a) (op_again o.GlobalAddr)
    (again_last _ (name_again n a fits.wide (one_name n a fits.test)))
instr_again n (FuncAddr a) fits = again_bind _ (6 ∷ []) (u32_bytes a) (op_again o.FuncAddr) (again_last _ (name_again n a fits.wide (one_name n a fits.test)))
instr_again n (ClassAddr a) fits = again_bind _ (7 ∷ []) (u32_bytes a) (op_again o.ClassAddr) (again_last _ (name_again n a fits.wide (one_name n a fits.test)))
instr_again n (Load a) fits = again_bind _ (8 ∷ []) (a ∷ []) (op_again o.Load) (again_last _ (u8_again a))
instr_again n (Store a) fits = again_bind _ (9 ∷ []) (a ∷ []) (op_again o.Store) (again_last _ (u8_again a))
instr_again n (TLoad a) fits = again_bind _ (10 ∷ []) (a ∷ []) (op_again o.TLoad) (again_last _ (u8_again a))
instr_again n (TStore a) fits = again_bind _ (11 ∷ []) (a ∷ []) (op_again o.TStore) (again_last _ (u8_again a))
instr_again n (VLoad a) fits = again_bind _ (12 ∷ []) (a ∷ []) (op_again o.VLoad) (again_last _ (u8_again a))
instr_again n (VStore a) fits = again_bind _ (13 ∷ []) (a ∷ []) (op_again o.VStore) (again_last _ (u8_again a))
instr_again n (Bin a b) fits =
    let w = and_parts (is_u8 a) (is_u8 b) fits.wide in
    again_bind _ (14 ∷ []) ((a ∷ []) ++ (b ∷ [])) (op_again o.Bin) (again_bind _ (a ∷ []) (b ∷ []) (u8_again a) (again_last _ (u8_again b)))
instr_again n (Neg a) fits = again_bind _ (15 ∷ []) (a ∷ []) (op_again o.Neg) (again_last _ (u8_again a))
instr_again n (Conv a b) fits =
    let w = and_parts (is_u8 a) (is_u8 b) fits.wide in
    again_bind _ (16 ∷ []) ((a ∷ []) ++ (b ∷ [])) (op_again o.Conv) (again_bind _ (a ∷ []) (b ∷ []) (u8_again a) (again_last _ (u8_again b)))
instr_again n (Jump a) fits = again_bind _ (17 ∷ []) (u32_bytes a) (op_again o.Jump) (again_last _ (u32_again a fits.wide))
instr_again n (JumpZero a) fits = again_bind _ (18 ∷ []) (u32_bytes a) (op_again o.JumpZero) (again_last _ (u32_again a fits.wide))
instr_again n (Call a b) fits =
    let w = and_parts (is_u32 a) (is_u8 b) fits.wide in
    again_bind _ (19 ∷ []) ((u32_bytes a) ++ (b ∷ [])) (op_again o.Call)
    (again_bind _ (u32_bytes a) (b ∷ []) (name_again n a w.0 (one_name n a fits.test)) (again_last _ (u8_again b)))
instr_again n (TCall a b) fits =
    let w = and_parts (is_u32 a) (is_u8 b) fits.wide in
    again_bind _ (20 ∷ []) ((u32_bytes a) ++ (b ∷ [])) (op_again o.TCall)
    (again_bind _ (u32_bytes a) (b ∷ []) (name_again n a w.0 (one_name n a fits.test)) (again_last _ (u8_again b)))
instr_again n (CallIndirect a b) fits =
    let w = and_parts (is_u32 a) (is_u8 b) fits.wide in
    again_bind _ (21 ∷ []) ((u32_bytes a) ++ (b ∷ [])) (op_again o.CallIndirect)
    (again_bind _ (u32_bytes a) (b ∷ []) (name_again n a w.0 (one_name n a fits.test)) (again_last _ (u8_again b)))
instr_again n (TCallIndirect a b) fits =
    let w = and_parts (is_u32 a) (is_u8 b) fits.wide in
    again_bind _ (22 ∷ []) ((u32_bytes a) ++ (b ∷ [])) (op_again o.TCallIndirect)
    (again_bind _ (u32_bytes a) (b ∷ []) (name_again n a w.0 (one_name n a fits.test)) (again_last _ (u8_again b)))
instr_again n (Slot a b) fits =
    let w = and_parts (is_u32 a) (is_u32 b) fits.wide in
    again_bind _ (23 ∷ []) ((u32_bytes a) ++ (u32_bytes b)) (op_again o.Slot)
    (again_bind _ (u32_bytes a) (u32_bytes b) (name_again n a w.0 (one_name n a fits.test)) (again_last _ (u32_again b w.1)))
instr_again n (Ret a) fits = again_bind _ (24 ∷ []) (a ∷ []) (op_again o.Ret) (again_last _ (u8_again a))
instr_again n (Begin a) fits = again_bind _ (25 ∷ []) (a ∷ []) (op_again o.Begin) (again_last _ (u8_again a))
instr_again n End fits = again_bind _ (26 ∷ []) [] (op_again o.End) (again_done _)
instr_again n BeginSync fits = again_bind _ (27 ∷ []) [] (op_again o.BeginSync) (again_done _)
instr_again n EndSync fits = again_bind _ (28 ∷ []) [] (op_again o.EndSync) (again_done _)
instr_again n Out fits = again_bind _ (29 ∷ []) [] (op_again o.Out) (again_done _)
instr_again n Inp fits = again_bind _ (30 ∷ []) [] (op_again o.Inp) (again_done _)
instr_again n Spawn fits = again_bind _ (31 ∷ []) [] (op_again o.Spawn) (again_done _)
instr_again n Join fits = again_bind _ (32 ∷ []) [] (op_again o.Join) (again_done _)
instr_again n Abort fits = again_bind _ (33 ∷ []) [] (op_again o.Abort) (again_done _)
instr_again n (NewException a) fits = again_bind _ (34 ∷ []) (u32_bytes a) (op_again o.NewException)
    (again_last _ (name_again n a fits.wide (one_name n a fits.test)))
instr_again n (PutException a b) fits =
    let w = and_parts (is_u8 a) (is_u8 b) fits.wide in
    again_bind _ (35 ∷ []) ((a ∷ []) ++ (b ∷ [])) (op_again o.PutException) (again_bind _ (a ∷ []) (b ∷ []) (u8_again a) (again_last _ (u8_again b)))
instr_again n Throw fits = again_bind _ (36 ∷ []) [] (op_again o.Throw) (again_done _)
instr_again n Rethrow fits = again_bind _ (37 ∷ []) [] (op_again o.Rethrow) (again_done _)
instr_again n (GetException a b) fits =
    let w = and_parts (is_u8 a) (is_u8 b) fits.wide in
    again_bind _ (38 ∷ []) ((a ∷ []) ++ (b ∷ [])) (op_again o.GetException) (again_bind _ (a ∷ []) (b ∷ []) (u8_again a) (again_last _ (u8_again b)))
instr_again n EndHandler fits = again_bind _ (39 ∷ []) [] (op_again o.EndHandler) (again_done _)
instr_again n Resume fits = again_bind _ (40 ∷ []) [] (op_again o.Resume) (again_done _)
instr_again n Over fits = again_bind _ (41 ∷ []) [] (op_again o.Over) (again_done _)
