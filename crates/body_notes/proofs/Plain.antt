-- An instruction that is no call and no return fits where what comes of it does.
use Rattle.std.proofs.Common.{ℕ, ◌≡◌, true, List, refl}
use Rattle.std.proofs.lemmas.Bool.{true≢false}
use Rattle.std.proofs.Common.{sym}
use Rattle.tx_code.specs.declared.instr.Instr.{Instr}
use Rattle.tx_code.specs.declared.instr.Instr.TheVariants.{Push, Dup, Pop, Swap, FrameAddr, GlobalAddr, FuncAddr, ClassAddr, Load, Store, TLoad, TStore, VLoad, VStore, Bin, Neg, Conv, Jump, JumpZero, Slot, Begin, End, BeginSync, EndSync, Out, Inp, Spawn, Join, Abort, NewException, PutException, Throw, Rethrow, GetException, EndHandler, Resume, Over, Call, TCall, CallIndirect, TCallIndirect, Ret}
use Rattle.src_mean.specs.Linked.{Program}
use Rattle.symbolic_source.specs.Outcomes.{Outcome}
use Rattle.symbolic_code.specs.Facts.{Fact}
use Rattle.symbolic_code.specs.Following.{followed}
use Rattle.symbolic_code.specs.Places.{Place}
use Rattle.body_check.specs.Notes.{Bounds, Fits}
use Rattle.body_check.specs.Linked.{Held}
use Rattle.body_check.specs.Calls.{Book, StepFits}
use Rattle.body_notes.specs.Checked.{is_plain}

module _ (p : Program) (b : Bounds) (book : Book) (h : Held) (known : List Fact) (lead rank index : ℕ) (q : Place) (o : Outcome) where
  abbrev Follows : Instr → Type 0
  Follows a = Fits p h.func b h.notes book.thrown book.numbers h.rows known lead rank (followed h.table known index a q o)

  pub plain_step : (a : Instr) → is_plain a ≡ true → Follows a → StepFits p b book h known lead rank index a q o
  plain_step (Push m) e fits = fits
  plain_step Dup e fits = fits
  plain_step Pop e fits = fits
  plain_step Swap e fits = fits
  plain_step (FrameAddr m) e fits = fits
  plain_step (GlobalAddr m) e fits = fits
  plain_step (FuncAddr m) e fits = fits
  plain_step (ClassAddr m) e fits = fits
  plain_step (Load m) e fits = fits
  plain_step (Store m) e fits = fits
  plain_step (TLoad m) e fits = fits
  plain_step (TStore m) e fits = fits
  plain_step (VLoad m) e fits = fits
  plain_step (VStore m) e fits = fits
  plain_step (Bin m n) e fits = fits
  plain_step (Neg m) e fits = fits
  plain_step (Conv m n) e fits = fits
  plain_step (Jump m) e fits = fits
  plain_step (JumpZero m) e fits = fits
  plain_step (Slot m n) e fits = fits
  plain_step (Begin m) e fits = fits
  plain_step End e fits = fits
  plain_step BeginSync e fits = fits
  plain_step EndSync e fits = fits
  plain_step Out e fits = fits
  plain_step Inp e fits = fits
  plain_step Spawn e fits = fits
  plain_step Join e fits = fits
  plain_step Abort e fits = fits
  plain_step (NewException m) e fits = fits
  plain_step (PutException m n) e fits = fits
  plain_step Throw e fits = fits
  plain_step Rethrow e fits = fits
  plain_step (GetException m n) e fits = fits
  plain_step EndHandler e fits = fits
  plain_step Resume e fits = fits
  plain_step Over e fits = fits
  plain_step (Call m n) e fits = absurd (true≢false (sym e))
  plain_step (TCall m n) e fits = absurd (true≢false (sym e))
  plain_step (CallIndirect m n) e fits = absurd (true≢false (sym e))
  plain_step (TCallIndirect m n) e fits = absurd (true≢false (sym e))
  plain_step (Ret m) e fits = absurd (true≢false (sym e))

-- an instruction that is none of these
pub plain_other : (a : Instr) → ((f w : ℕ) → a ≡ Call f w → ⊥) → ((f w : ℕ) → a ≡ TCall f w → ⊥) → ((ty w : ℕ) → a ≡ CallIndirect ty w → ⊥) → ((ty w : ℕ) → a ≡ TCallIndirect ty w → ⊥) → ((n : ℕ) → a ≡ Ret n → ⊥) → true ≡ is_plain a
plain_other (Push m) c t i j r = refl
plain_other Dup c t i j r = refl
plain_other Pop c t i j r = refl
plain_other Swap c t i j r = refl
plain_other (FrameAddr m) c t i j r = refl
plain_other (GlobalAddr m) c t i j r = refl
plain_other (FuncAddr m) c t i j r = refl
plain_other (ClassAddr m) c t i j r = refl
plain_other (Load m) c t i j r = refl
plain_other (Store m) c t i j r = refl
plain_other (TLoad m) c t i j r = refl
plain_other (TStore m) c t i j r = refl
plain_other (VLoad m) c t i j r = refl
plain_other (VStore m) c t i j r = refl
plain_other (Bin m n) c t i j r = refl
plain_other (Neg m) c t i j r = refl
plain_other (Conv m n) c t i j r = refl
plain_other (Jump m) c t i j r = refl
plain_other (JumpZero m) c t i j r = refl
plain_other (Slot m n) c t i j r = refl
plain_other (Begin m) c t i j r = refl
plain_other End c t i j r = refl
plain_other BeginSync c t i j r = refl
plain_other EndSync c t i j r = refl
plain_other Out c t i j r = refl
plain_other Inp c t i j r = refl
plain_other Spawn c t i j r = refl
plain_other Join c t i j r = refl
plain_other Abort c t i j r = refl
plain_other (NewException m) c t i j r = refl
plain_other (PutException m n) c t i j r = refl
plain_other Throw c t i j r = refl
plain_other Rethrow c t i j r = refl
plain_other (GetException m n) c t i j r = refl
plain_other EndHandler c t i j r = refl
plain_other Resume c t i j r = refl
plain_other Over c t i j r = refl
plain_other (Call m n) c t i j r = absurd (c m n refl)
plain_other (TCall m n) c t i j r = absurd (t m n refl)
plain_other (CallIndirect m n) c t i j r = absurd (i m n refl)
plain_other (TCallIndirect m n) c t i j r = absurd (j m n refl)
plain_other (Ret m) c t i j r = absurd (r m refl)
