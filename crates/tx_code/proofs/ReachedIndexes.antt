-- What the clauses of sound code say at an index that is reached.
use Rattle.std.proofs.Common.{Bool, true, false, ◌≡◌, ◌<◌, ◌≤◌, ◌⊎◌, ℕ, zero, suc, ◌+◌, List, [], ◌∷◌, length, Some, refl, sym, ap, ◌∙◌, subst, arith, inl, inr}
use Rattle.std.proofs.Common.{⊎_elim}
use Rattle.std.specs.Prelude.{slice_get, nat_lt, nat_le, ◌&&◌, ◌||◌}
use Rattle.std.specs.List.{list_all}
use Rattle.std.specs.Option.{option_map_or}
use Rattle.std.proofs.lemmas.Bool.{true≢false, ltb-true, ltb-false}
use Rattle.std.proofs.lemmas.Option.{same_Some}
use Rattle.tx_code.specs.declared.instr.Instr.{Instr}
use Rattle.tx_code.specs.declared.instr.Instr.TheVariants.{Push, Dup, Pop, Swap, FrameAddr, GlobalAddr, FuncAddr, ClassAddr, Load, Store, TLoad, TStore, VLoad}
use Rattle.tx_code.specs.declared.instr.Instr.TheVariants.{VStore, Bin, Neg, Conv, Jump, JumpZero, Call, TCall, CallIndirect, TCallIndirect, Slot, Ret, Begin}
use Rattle.tx_code.specs.declared.instr.Instr.TheVariants.{End, BeginSync, EndSync, Out, Inp, Spawn, Join, Abort, NewException, PutException, Throw, Rethrow}
use Rattle.tx_code.specs.declared.instr.Instr.TheVariants.{GetException, EndHandler, Resume, Over}
use Rattle.tx_code.specs.Objects.{BodyView}
use Rattle.tx_code.specs.Shapes.{Shape, Table, targets, Among, here, there, Reaches, enters, falls, lands}
use Rattle.tx_code.specs.Sound.{Signature, entry, target_lies, row_lies, is_last, SoundBody}

-- ---- tests

pub and_left : (b c : Bool) → (b && c) ≡ true → b ≡ true
and_left true c h = refl
and_left false c h = absurd (true≢false (sym h))

pub and_right : (b c : Bool) → (b && c) ≡ true → c ≡ true
and_right true c h = h
and_right false c h = absurd (true≢false (sym h))

pub or_false : (b c : Bool) → b ≡ false → (b || c) ≡ true → c ≡ true
or_false true c e h = absurd (true≢false e)
or_false false c e h = h

-- ---- lists

pub get_at : {A : Type 0} (xs : List A) (n : ℕ) → n < length xs → (x : A) × (slice_get xs n ≡ Some x)
get_at [] n h = let no : ⊥ = omega arith in absurd no
get_at (x ∷ xs) zero h = (x, refl)
get_at (x ∷ xs) (suc n) h = get_at xs n (omega arith)

pub all_at : {A : Type 0} (p : A → Bool) (xs : List A) (n : ℕ) (x : A) → list_all p xs ≡ true → slice_get xs n ≡ Some x → p x ≡ true
all_at p [] n x h e = absurd (cc)
all_at p (y ∷ ys) zero x h e = subst (λ z. p z ≡ true) (same_Some y x e) (and_left (p y) (list_all p ys) h)
all_at p (y ∷ ys) (suc n) x h e = all_at p ys n x (and_right (p y) (list_all p ys) h) e

pub all_among : {A : Type 0} (p : A → Bool) {x : A} {xs : List A} → Among x xs → list_all p xs ≡ true → p x ≡ true
all_among p {x} (here {xs}) h = and_left (p x) (list_all p xs) h
all_among p (there {b} {xs} m) h = all_among p m (and_right (p b) (list_all p xs) h)

-- ---- where instructions lead

le_cases : (k n : ℕ) → k ≤ n → (k < n) ⊎ (k ≡ n)
le_cases k n h = by_test (nat_lt k n) refl where
  by_test : (b : Bool) → nat_lt k n ≡ b → (k < n) ⊎ (k ≡ n)
  by_test true e = inl (ltb-true k n e)
  by_test false e = let l : n ≤ k = ltb-false k n e in inr (omega arith)

nowhere : {P : Type 0} {j : ℕ} → Among j [] → P
nowhere m = elim m [ ]

next_in : {k j : ℕ} (n : ℕ) → k < n → Among j (k ∷ []) → j < n
next_in n h here = h
next_in n h (there m) = nowhere m

either_in : {k l j : ℕ} (n : ℕ) → k < n → l < n → Among j (k ∷ l ∷ []) → j < n
either_in n h g here = h
either_in n h g (there m) = next_in n g m

less_or_last : (k n : ℕ) → k ≤ n → (k ≡ n → false ≡ true) → k < n
less_or_last k n h last = ⊎_elim (λ (l : k < n). l) (λ (e : k ≡ n). absurd (true≢false (sym (last e)))) (le_cases k n h)

goes_on : (i n : ℕ) → i < n → (i + 1 ≡ n → false ≡ true) → i + 1 < n
goes_on i n h last = less_or_last (i + 1) n (omega arith) last

-- an instruction that is in the body leads into it
pub led : (a : Instr) (i j n : ℕ) → target_lies n a ≡ true → (i + 1 ≡ n → is_last a ≡ true) → i < n → Among j (targets a i) → j < n
led (Push v) i j n lies last within m = next_in n (goes_on i n within last) m
led Dup i j n lies last within m = next_in n (goes_on i n within last) m
led Pop i j n lies last within m = next_in n (goes_on i n within last) m
led Swap i j n lies last within m = next_in n (goes_on i n within last) m
led Over i j n lies last within m = next_in n (goes_on i n within last) m
led (FrameAddr v) i j n lies last within m = next_in n (goes_on i n within last) m
led (GlobalAddr v) i j n lies last within m = next_in n (goes_on i n within last) m
led (FuncAddr v) i j n lies last within m = next_in n (goes_on i n within last) m
led (ClassAddr v) i j n lies last within m = next_in n (goes_on i n within last) m
led (Load k) i j n lies last within m = next_in n (goes_on i n within last) m
led (Store k) i j n lies last within m = next_in n (goes_on i n within last) m
led (TLoad k) i j n lies last within m = next_in n (goes_on i n within last) m
led (TStore k) i j n lies last within m = next_in n (goes_on i n within last) m
led (VLoad k) i j n lies last within m = next_in n (goes_on i n within last) m
led (VStore k) i j n lies last within m = next_in n (goes_on i n within last) m
led (Bin op k) i j n lies last within m = next_in n (goes_on i n within last) m
led (Neg k) i j n lies last within m = next_in n (goes_on i n within last) m
led (Conv k l) i j n lies last within m = next_in n (goes_on i n within last) m
led (Jump v) i j n lies last within m = next_in n (ltb-true v n lies) m
led (JumpZero v) i j n lies last within m = either_in n (ltb-true v n lies) (goes_on i n within last) m
led (Call v k) i j n lies last within m = next_in n (goes_on i n within last) m
led (TCall v k) i j n lies last within m = next_in n (goes_on i n within last) m
led (CallIndirect v k) i j n lies last within m = next_in n (goes_on i n within last) m
led (TCallIndirect v k) i j n lies last within m = next_in n (goes_on i n within last) m
led (Slot v k) i j n lies last within m = next_in n (goes_on i n within last) m
led (Ret k) i j n lies last within m = nowhere m
led (Begin k) i j n lies last within m = next_in n (goes_on i n within last) m
led End i j n lies last within m = next_in n (goes_on i n within last) m
led BeginSync i j n lies last within m = next_in n (goes_on i n within last) m
led EndSync i j n lies last within m = next_in n (goes_on i n within last) m
led Out i j n lies last within m = next_in n (goes_on i n within last) m
led Inp i j n lies last within m = next_in n (goes_on i n within last) m
led Spawn i j n lies last within m = next_in n (goes_on i n within last) m
led Join i j n lies last within m = next_in n (goes_on i n within last) m
led Abort i j n lies last within m = nowhere m
led (NewException v) i j n lies last within m = next_in n (goes_on i n within last) m
led (PutException v k) i j n lies last within m = next_in n (goes_on i n within last) m
led Throw i j n lies last within m = nowhere m
led Rethrow i j n lies last within m = nowhere m
led (GetException v k) i j n lies last within m = next_in n (goes_on i n within last) m
led EndHandler i j n lies last within m = next_in n (goes_on i n within last) m
led Resume i j n lies last within m = nowhere m

module _ (x : Table) (g : Signature) (safe : Bool) (b : BodyView) (sound : SoundBody x g safe b) where
  last_one : (i : ℕ) (a : Instr) → slice_get b.code i ≡ Some a → i + 1 ≡ length b.code → is_last a ≡ true
  last_one i a e h = ap (λ o. option_map_or is_last o false) (sym e ∙ ap (slice_get b.code) (omega arith)) ∙ sound.last

  pub within : {i : ℕ} {s : Shape} → Reaches x g.gives b (entry g) i s → i < length b.code
  within enters = ltb-true 0 (length b.code) sound.filled
  within (falls {i} {j} reached e m) = led e.instr i j (length b.code) (all_at (target_lies (length b.code)) b.code i e.instr sound.targets e.is)
      (last_one i e.instr e.is) (within reached) m
  within (lands reached e r m c) = ltb-true r.target (length b.code)
      (and_right (nat_lt r.from (length b.code) && nat_le r.to (length b.code)) (nat_lt r.target (length b.code))
      (all_among (row_lies (length b.code)) m sound.rows))

  -- the instruction at an index that is reached
  pub instr_at : {i : ℕ} {s : Shape} → Reaches x g.gives b (entry g) i s → (a : Instr) × (slice_get b.code i ≡ Some a)
  instr_at {i} reached = get_at b.code i (within reached)
