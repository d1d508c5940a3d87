-- Code starts threads in functions alone that an address finds.
use Rattle.std.proofs.Common.{ℕ, zero, suc, ℤ, ◌≡◌, Bool, true, false, refl, sym, subst, List, [], ◌∷◌, Option, Some, None, Result, Ok, Err}
use Rattle.std.specs.Prelude.{slice_get, if◌then◌else◌, nat_eq}
use Rattle.tx_ints.specs.declared.kinds.IntKind.{IntKind}
use Rattle.tx_ints.specs.declared.kinds.ArithTrap.{ArithTrap}
use Rattle.tx_ints.specs.Integers.{apply_of, negate_of}
use Rattle.tx_ints.specs.Words.{value_of_word}
use Rattle.tx_events.specs.declared.End.TheVariants.{Exit}
use Rattle.tx_events.specs.declared.Event.{Event}
use Rattle.tx_events.specs.declared.Event.TheVariants.{Spawn as SpawnOf, Done, Stop}
use Rattle.tx_code.specs.declared.instr.Instr.{Instr}
use Rattle.tx_code.specs.declared.instr.Instr.TheVariants.{Push, Dup, Pop, Swap, FrameAddr, GlobalAddr, FuncAddr, ClassAddr, Load, Store, TLoad, TStore, VLoad}
use Rattle.tx_code.specs.declared.instr.Instr.TheVariants.{VStore, Bin, Neg, Conv, Jump, JumpZero, Call, TCall, CallIndirect, TCallIndirect, Slot, Ret, Begin}
use Rattle.tx_code.specs.declared.instr.Instr.TheVariants.{End, BeginSync, EndSync, Out, Inp, Spawn, Join, Abort, NewException, PutException, Throw, Rethrow}
use Rattle.tx_code.specs.declared.instr.Instr.TheVariants.{GetException, EndHandler, Resume, Over}
use Rattle.tx_code.specs.declared.body.Row.{Row}
use Rattle.tx_code.specs.Meaning.{Names, Exception, Held, Free, Building, Flying, Home, Frame, State, Runs, Unwinds, Act, Does, Ends, Lost, one, two, moved}
use Rattle.tx_code.specs.Meaning.{if_some, with_kind, kinds, operators, block_kinds, right_kind, result_act, load_act, store_act, entered_act, call_act}
use Rattle.tx_code.specs.Meaning.{checked_act, call_indirect_act, finish, status_of, back_act, ret_act, built, flown, in_handler, current, act, next_home, fits}
use Rattle.tx_code.specs.Meaning.{in_transaction, at, fetch, find, rows_in, cut, row_act, leave_act, unwind_act, step_act, event_of, thread}

module _ (x : Names) where
  -- where the event starts a thread, an address finds its function
  abbrev Found : Event → Type 0
  Found (SpawnOf func arg) = (address : ℕ) × (x.spawned address ≡ Some func)
  Found e = Unit {0}

  abbrev Finds : Act → Type 0
  Finds (Does e on) = Found e
  Finds (Ends e) = Found e
  Finds Lost = Unit {0}

  one_finds : (ws : List ℕ) (f : ℕ → List ℕ → Act) → ((w : ℕ) (ws : List ℕ) → Finds (f w ws)) → Finds (one ws f)
  one_finds [] f h = tt
  one_finds (w ∷ ws) f h = h w ws

  two_finds : (ws : List ℕ) (f : ℕ → ℕ → List ℕ → Act) → ((a b : ℕ) (ws : List ℕ) → Finds (f a b ws)) → Finds (two ws f)
  two_finds [] f h = tt
  two_finds (b ∷ []) f h = tt
  two_finds (b ∷ a ∷ ws) f h = h a b ws

  moved_finds : (n : ℕ) (ws args : List ℕ) (f : List ℕ → List ℕ → Act) → ((args ws : List ℕ) → Finds (f args ws)) → Finds (moved n ws args f)
  moved_finds zero ws args f h = h args ws
  moved_finds (suc n) [] args f h = tt
  moved_finds (suc n) (w ∷ ws) args f h = moved_finds n ws (w ∷ args) f h

  some_finds : {A : Type 0} (o : Option A) (a : Act) (f : A → Act) → Finds a → ((z : A) → o ≡ Some z → Finds (f z)) → Finds (if_some o a f)
  some_finds None a f g h = g
  some_finds (Some z) a f g h = h z refl

  if_finds : (b : Bool) (s t : Act) → Finds s → Finds t → Finds (if b then s else t)
  if_finds true s t g h = g
  if_finds false s t g h = h

  kind_finds : (n : ℕ) (f : IntKind → Act) → ((k : IntKind) → Finds (f k)) → Finds (with_kind n f)
  kind_finds n f h = some_finds (slice_get kinds n) Lost f tt (λ k e. h k)

  result_finds : (r : Result ℤ ArithTrap) (f : ℤ → Act) → ((v : ℤ) → Finds (f v)) → Finds (result_act r f)
  result_finds (Ok v) f h = h v
  result_finds (Err t) f h = tt

  built_finds : (held : Held) (f : Exception → Act) → ((e : Exception) → Finds (f e)) → Finds (built held f)
  built_finds (Building e) f h = h e
  built_finds Free f h = tt
  built_finds (Flying e) f h = tt

  flown_finds : (held : Held) (f : Exception → Act) → ((e : Exception) → Finds (f e)) → Finds (flown held f)
  flown_finds (Flying e) f h = h e
  flown_finds Free f h = tt
  flown_finds (Building e) f h = tt

  handler_finds : (es : List Exception) (a : Act) → Finds a → Finds (in_handler es a)
  handler_finds [] a h = tt
  handler_finds (e ∷ es) a h = h

  finish_finds : (b : Bool) (v : ℤ) (n : ℕ) → (nat_eq n 0 ≡ b) → Found (finish n v)
  finish_finds true v n e = subst (λ z. Found (if z then Stop (Exit v) else Done)) (sym e) tt
  finish_finds false v n e = subst (λ z. Found (if z then Stop (Exit v) else Done)) (sym e) tt

  back_finds : (h : Home) (ws : List ℕ) (rest : List Frame) → Finds (back_act h ws rest)
  back_finds h ws [] = finish_finds (nat_eq h.thread 0) (status_of ws) h.thread refl
  back_finds h ws (g ∷ rest) = tt

  ret_finds : (n : ℕ) (f : Frame) (rest : List Frame) → Finds (ret_act n f rest)
  ret_finds zero f rest = back_finds f.home [] rest
  ret_finds (suc zero) f rest = one_finds f.words _ (λ w ws. back_finds f.home (w ∷ []) rest)
  ret_finds (suc (suc n)) f rest = tt

  entered_finds : (func : ℕ) (safe : Bool) (args : List ℕ) (f : Frame) (rest : List Frame) → Finds (entered_act x func safe args f rest)
  entered_finds func safe args f rest = some_finds (x.body func safe) Lost _ tt (λ b e. if_finds (fits x (next_home x f.home func safe)) _ _ tt tt)

  call_finds : (func : ℕ) (safe : Bool) (n : ℕ) (f : Frame) (rest : List Frame) → Finds (call_act x func safe n f rest)
  call_finds func safe n f rest = moved_finds n f.words [] _ (λ args ws. entered_finds func safe args (at f f.index ws) rest)

  checked_finds : (func : ℕ) (transaction : Bool) (ok : Act) → Finds ok → Finds (checked_act x func transaction ok)
  checked_finds func false ok h = h
  checked_finds func true ok h = some_finds (x.body func true) _ _ tt (λ b e. h)

  indirect_finds : (ty : ℕ) (safe : Bool) (n : ℕ) (f : Frame) (rest : List Frame) → Finds (call_indirect_act x ty safe n f rest)
  indirect_finds ty safe n f rest = moved_finds n f.words [] _ (λ args ws. one_finds ws _ (λ a below. some_finds (x.called ty a) _ _ tt (λ func e.
      checked_finds func (in_transaction f rest) _ (entered_finds func safe args (at f f.index below) rest))))

  load_finds : (n : ℕ) (volatile : Bool) (f : Frame) (rest : List Frame) → Finds (load_act n volatile f rest)
  load_finds n volatile f rest = kind_finds n _ (λ k. one_finds f.words _ (λ a ws. tt))

  store_finds : (n : ℕ) (volatile : Bool) (f : Frame) (rest : List Frame) → Finds (store_act n volatile f rest)
  store_finds n volatile f rest = kind_finds n _ (λ k. two_finds f.words _ (λ a v ws. tt))

  act_finds : (i : Instr) (f : Frame) (rest : List Frame) → Finds (act x i f rest)
  act_finds (Push v) f rest = tt
  act_finds Dup f rest = one_finds f.words _ (λ w ws. tt)
  act_finds Pop f rest = one_finds f.words _ (λ w ws. tt)
  act_finds Swap f rest = two_finds f.words _ (λ a b ws. tt)
  act_finds Over f rest = two_finds f.words _ (λ a b ws. tt)
  act_finds (FrameAddr n) f rest = tt
  act_finds (GlobalAddr s) f rest = tt
  act_finds (FuncAddr s) f rest = tt
  act_finds (ClassAddr s) f rest = tt
  act_finds (Load k) f rest = load_finds k false f rest
  act_finds (Store k) f rest = store_finds k false f rest
  act_finds (TLoad k) f rest = load_finds k false f rest
  act_finds (TStore k) f rest = store_finds k false f rest
  act_finds (VLoad k) f rest = load_finds k true f rest
  act_finds (VStore k) f rest = store_finds k true f rest
  act_finds (Bin op k) f rest = some_finds (slice_get operators op) Lost _ tt (λ o e. kind_finds k _ (λ j. two_finds f.words _ (λ a b ws.
      result_finds (apply_of o j (value_of_word j a) (value_of_word (right_kind o j) b)) _ (λ v. tt))))
  act_finds (Neg k) f rest = kind_finds k _ (λ j. one_finds f.words _ (λ v ws. result_finds (negate_of j (value_of_word j v)) _ (λ u. tt)))
  act_finds (Conv k l) f rest = kind_finds k _ (λ j. kind_finds l _ (λ m. one_finds f.words _ (λ v ws. tt)))
  act_finds (Jump n) f rest = tt
  act_finds (JumpZero n) f rest = one_finds f.words _ (λ w ws. tt)
  act_finds (Call s n) f rest = call_finds s false n f rest
  act_finds (TCall s n) f rest = call_finds s true n f rest
  act_finds (CallIndirect ty n) f rest = indirect_finds ty false n f rest
  act_finds (TCallIndirect ty n) f rest = indirect_finds ty true n f rest
  act_finds (Slot c n) f rest = one_finds f.words _ (λ a ws. some_finds (x.slot_of c a n) _ _ tt (λ func e. tt))
  act_finds (Ret n) f rest = ret_finds n f rest
  act_finds (Begin n) f rest = some_finds (slice_get block_kinds n) Lost _ tt (λ kind e. tt)
  act_finds End f rest = tt
  act_finds BeginSync f rest = tt
  act_finds EndSync f rest = tt
  act_finds Out f rest = one_finds f.words _ (λ v ws. tt)
  act_finds Inp f rest = tt
  act_finds Spawn f rest = two_finds f.words _ (λ a v ws. some_finds (x.spawned a) _ _ tt (λ func e. (a, e)))
  act_finds Join f rest = one_finds f.words _ (λ v ws. tt)
  act_finds Abort f rest = tt
  act_finds (NewException ty) f rest = tt
  act_finds (PutException n k) f rest = kind_finds k _ (λ j. built_finds f.nest.held _ (λ e. one_finds f.words _ (λ v ws. tt)))
  act_finds Throw f rest = built_finds f.nest.held _ (λ e. tt)
  act_finds Rethrow f rest = some_finds (current (f ∷ rest)) _ _ tt (λ e i. tt)
  act_finds (GetException n k) f rest = kind_finds k _ (λ j. some_finds (current (f ∷ rest)) Lost _ tt (λ e i. tt))
  act_finds EndHandler f rest = handler_finds f.nest.caught _ tt
  act_finds Resume f rest = flown_finds f.nest.held _ (λ e. tt)

  row_finds : (what target : ℕ) (ws : List ℕ) (e : Exception) (f : Frame) (rest : List Frame) → Finds (row_act x what target ws e f rest)
  row_finds zero target ws e f rest = tt
  row_finds (suc zero) target ws e f rest = tt
  row_finds (suc (suc zero)) target ws e f rest = tt
  row_finds (suc (suc (suc zero))) target ws e f rest = tt
  row_finds (suc (suc (suc (suc zero)))) target ws e f rest = tt
  row_finds (suc (suc (suc (suc (suc zero))))) target ws e f rest = tt
  row_finds (suc (suc (suc (suc (suc (suc zero)))))) target ws e f rest = tt
  row_finds (suc (suc (suc (suc (suc (suc (suc n))))))) target ws e f rest = tt

  leave_finds : (e : Exception) (f : Frame) (rest : List Frame) → Finds (leave_act x e f rest)
  leave_finds e f [] = tt
  leave_finds e f (g ∷ rest) = if_finds (x.no_except f.home.func) _ _ tt tt

  unwind_finds : (o : Option Row) (e : Exception) (f : Frame) (rest : List Frame) → Finds (unwind_act x o e f rest)
  unwind_finds None e f rest = leave_finds e f rest
  unwind_finds (Some r) e f rest = row_finds r.what r.target (cut r.depth f.words) e f rest

  step_finds : (s : State) → Finds (step_act x s)
  step_finds (Runs f rest) = some_finds (fetch x f.home f.index) Lost _ tt (λ i e. act_finds i f rest)
  step_finds (Unwinds e f rest) = unwind_finds (find (rows_in x f.home) f.index e.ty) e f rest

  event_found : (a : Act) → Finds a → Found (event_of a)
  event_found (Does e on) h = h
  event_found (Ends e) h = h
  event_found Lost h = tt

  -- where a thread of code starts a thread, an address finds the function
  pub started_found : (s : State) (func : ℕ) (arg : ℤ) → (thread x).next s ≡ SpawnOf func arg → (address : ℕ) × (x.spawned address ≡ Some func)
  started_found s func arg e = subst Found e (event_found (step_act x s) (step_finds s))
