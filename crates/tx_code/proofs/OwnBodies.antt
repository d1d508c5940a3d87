-- A linked body and the object's own, with its own names, take the same steps.
use Rattle.std.proofs.Common.{Bool, true, false, ◌≡◌, ℕ, zero, suc, List, [], ◌∷◌, map, Option, Some, None, refl, sym, ap, ◌∙◌, subst}
use Rattle.std.specs.Prelude.{slice_get, nat_eq, if◌then◌else◌}
use Rattle.std.specs.Option.{option_map, option_map_or, option_and_then}
use Rattle.tx_events.specs.declared.Reply.{Reply}
use Rattle.tx_events.specs.Same.{SameEvents, StepsWithin}
use Rattle.tx_code.specs.declared.instr.Instr.{Instr}
use Rattle.tx_code.specs.declared.instr.Instr.TheVariants.{Push, Dup, Pop, Swap, FrameAddr, GlobalAddr, FuncAddr, ClassAddr, Load, Store, TLoad, TStore, VLoad}
use Rattle.tx_code.specs.declared.instr.Instr.TheVariants.{VStore, Bin, Neg, Conv, Jump, JumpZero, Call, TCall, CallIndirect, TCallIndirect, Slot, Ret, Begin}
use Rattle.tx_code.specs.declared.instr.Instr.TheVariants.{End, BeginSync, EndSync, Out, Inp, Spawn, Join, Abort, NewException, PutException, Throw, Rethrow}
use Rattle.tx_code.specs.declared.instr.Instr.TheVariants.{GetException, EndHandler, Resume, Over}
use Rattle.tx_code.specs.declared.body.Row.{Row}
use Rattle.tx_code.specs.Objects.{BodyView, ObjectView}
use Rattle.tx_code.specs.Images.{ImageFuncView, ImageView}
use Rattle.tx_code.specs.Renaming.{Numbering, itself, renamed, renamed_row, renamed_body}
use Rattle.tx_events.specs.declared.Trap.TheVariants.{UnsafeCall}
use Rattle.tx_code.specs.Meaning.{Names, Home, Frame, State, Runs, Unwinds, Exception, Act, Lost, traps, one, moved, at, if_some, act, enter_act, entered_act}
use Rattle.tx_code.specs.Meaning.{checked_act, call_act, call_indirect_act, in_transaction, row_act, leave_act, unwind_act, find, cut, code_of, rows_of, fetch}
use Rattle.tx_code.specs.Meaning.{rows_in, step_act, event_of, state_after, thread}
use Rattle.tx_code.specs.Program.{names_of, body_in}
use Rattle.tx_code.specs.Linked.{FuncDef, ImageOf, image_func, kept_funcs, own_body, own_names, numbering_at}
use Rattle.tx_code.proofs.Lockstep.{lock_same, lock_within}

-- a name that stands for itself changes nothing
pub same_instr : (i : Instr) → renamed itself i ≡ i
same_instr (Push v) = refl
same_instr Dup = refl
same_instr Pop = refl
same_instr Swap = refl
same_instr Over = refl
same_instr (FrameAddr n) = refl
same_instr (GlobalAddr s) = refl
same_instr (FuncAddr s) = refl
same_instr (ClassAddr s) = refl
same_instr (Load k) = refl
same_instr (Store k) = refl
same_instr (TLoad k) = refl
same_instr (TStore k) = refl
same_instr (VLoad k) = refl
same_instr (VStore k) = refl
same_instr (Bin op k) = refl
same_instr (Neg k) = refl
same_instr (Conv k j) = refl
same_instr (Jump n) = refl
same_instr (JumpZero n) = refl
same_instr (Call s n) = refl
same_instr (TCall s n) = refl
same_instr (CallIndirect ty n) = refl
same_instr (TCallIndirect ty n) = refl
same_instr (Slot c n) = refl
same_instr (Ret n) = refl
same_instr (Begin n) = refl
same_instr End = refl
same_instr BeginSync = refl
same_instr EndSync = refl
same_instr Out = refl
same_instr Inp = refl
same_instr Spawn = refl
same_instr Join = refl
same_instr Abort = refl
same_instr (NewException ty) = refl
same_instr (PutException n k) = refl
same_instr Throw = refl
same_instr Rethrow = refl
same_instr (GetException n k) = refl
same_instr EndHandler = refl
same_instr Resume = refl

same_if : (b : Bool) (n : ℕ) → (if b then n else n) ≡ n
same_if true n = refl
same_if false n = refl

pub same_row : (r : Row) → renamed_row itself r ≡ r
same_row r = ap (λ ty. record { from = r.from; to = r.to; target = r.target; what = r.what; ty = ty; depth = r.depth }) (same_if (nat_eq r.what 1) r.ty)

module _ (x : Numbering) where
  fetched : (is : List Instr) (n : ℕ) → option_map (renamed itself) (slice_get (map (renamed x) is) n) ≡ option_map (renamed x) (slice_get is n)
  fetched [] n = refl
  fetched (i ∷ is) zero = ap Some (same_instr (renamed x i))
  fetched (i ∷ is) (suc n) = fetched is n

  rows_again : (rs : List Row) → map (renamed_row itself) (map (renamed_row x) rs) ≡ map (renamed_row x) rs
  rows_again [] = refl
  rows_again (r ∷ rs) = ap (λ z. z ∷ map (renamed_row itself) (map (renamed_row x) rs)) (same_row (renamed_row x r))
      ∙ ap (λ z. renamed_row x r ∷ z) (rows_again rs)

  code_same : (o : Option BodyView) (n : ℕ) → option_map (renamed itself) (slice_get (code_of (option_map (renamed_body x) o)) n)
      ≡ option_map (renamed x) (slice_get (code_of o) n)
  code_same None n = refl
  code_same (Some b) n = fetched b.code n

  rows_same : (o : Option BodyView) → map (renamed_row itself) (rows_of (option_map (renamed_body x) o)) ≡ map (renamed_row x) (rows_of o)
  rows_same None = refl
  rows_same (Some b) = rows_again b.rows

got : {A B : Type 0} (f : A → B) (xs : List A) (n : ℕ) → slice_get (map f xs) n ≡ option_map f (slice_get xs n)
got f [] n = refl
got f (x ∷ xs) zero = refl
got f (x ∷ xs) (suc n) = got f xs n

module _ (os : List ObjectView) (i : ImageView) (image : ImageOf os i) where
  abbrev x : Names
  x = own_names os i

  abbrev y : Names
  y = names_of i

  -- a function's body in the image, by what it is in its object
  body_is : (o : Option FuncDef) (safe : Bool) → option_and_then (λ (g : ImageFuncView). body_in g safe) (option_map (image_func os i.types) o)
      ≡ option_map (renamed_body (option_map_or (numbering_at os i.types) o itself)) (option_and_then (own_body safe) o)
  body_is None safe = refl
  body_is (Some d) true = refl
  body_is (Some d) false = refl

  body_same : (f : ℕ) (safe : Bool) → y.body f safe ≡ option_map (renamed_body (x.numbering f)) (x.body f safe)
  body_same f safe = ap (λ fs. option_and_then (λ (g : ImageFuncView). body_in g safe) (slice_get fs f)) image.funcs
      ∙ ap (option_and_then (λ (g : ImageFuncView). body_in g safe)) (got (image_func os i.types) (kept_funcs os) f)
      ∙ body_is (slice_get (kept_funcs os) f) safe

  fetch_same : (h : Home) (n : ℕ) → fetch y h n ≡ fetch x h n
  fetch_same h n = ap (λ o. option_map (renamed itself) (slice_get (code_of o) n)) (body_same h.func h.safe)
      ∙ code_same (x.numbering h.func) (x.body h.func h.safe) n

  rows_in_same : (h : Home) → rows_in y h ≡ rows_in x h
  rows_in_same h = ap (λ o. map (renamed_row itself) (rows_of o)) (body_same h.func h.safe) ∙ rows_same (x.numbering h.func) (x.body h.func h.safe)

  -- what is done does not depend on the names in a body that is entered
  there : (n : Numbering) (o : Option BodyView) (a c : Act) → if_some (option_map (renamed_body n) o) a (λ b. c) ≡ if_some o a (λ b. c)
  there n None a c = refl
  there n (Some b) a c = refl

  entered_same : (func : ℕ) (safe : Bool) (args : List ℕ) (f : Frame) (rest : List Frame)
      → entered_act y func safe args f rest ≡ entered_act x func safe args f rest
  entered_same func safe args f rest = ap (λ o. if_some o Lost (λ b. enter_act x func safe args f rest)) (body_same func safe)
      ∙ there (x.numbering func) (x.body func safe) Lost (enter_act x func safe args f rest)

  checked_same : (func : ℕ) (inside : Bool) (a c : Act) → a ≡ c → checked_act y func inside a ≡ checked_act x func inside c
  checked_same func false a c e = e
  checked_same func true a c e = ap (λ z. if_some (y.body func true) (traps UnsafeCall) (λ b. z)) e
      ∙ ap (λ o. if_some o (traps UnsafeCall) (λ b. c)) (body_same func true) ∙ there (x.numbering func) (x.body func true) (traps UnsafeCall) c

  moved_same : (n : ℕ) (ws args : List ℕ) (p q : List ℕ → List ℕ → Act) → ((args ws : List ℕ) → p args ws ≡ q args ws) → moved n ws args p ≡ moved n ws args q
  moved_same zero ws args p q h = h args ws
  moved_same (suc n) [] args p q h = refl
  moved_same (suc n) (w ∷ ws) args p q h = moved_same n ws (w ∷ args) p q h

  one_same : (ws : List ℕ) (p q : ℕ → List ℕ → Act) → ((w : ℕ) (ws : List ℕ) → p w ws ≡ q w ws) → one ws p ≡ one ws q
  one_same [] p q h = refl
  one_same (w ∷ ws) p q h = h w ws

  some_same : {A : Type 0} (o : Option A) (a : Act) (p q : A → Act) → ((z : A) → p z ≡ q z) → if_some o a p ≡ if_some o a q
  some_same None a p q h = refl
  some_same (Some z) a p q h = h z

  call_same : (func : ℕ) (safe : Bool) (n : ℕ) (f : Frame) (rest : List Frame) → call_act y func safe n f rest ≡ call_act x func safe n f rest
  call_same func safe n f rest = moved_same n f.words [] _ _ (λ args ws. entered_same func safe args (at f f.index ws) rest)

  indirect_same : (ty : ℕ) (safe : Bool) (n : ℕ) (f : Frame) (rest : List Frame) → call_indirect_act y ty safe n f rest ≡ call_indirect_act x ty safe n f rest
  indirect_same ty safe n f rest = moved_same n f.words [] _ _
      (λ args ws. one_same ws _ _ (λ a below. some_same (x.called ty a) _ _ _
      (λ func. checked_same func (in_transaction f rest) _ _ (entered_same func safe args (at f f.index below) rest))))

  act_same : (i : Instr) (f : Frame) (rest : List Frame) → act y i f rest ≡ act x i f rest
  act_same (Push v) f rest = refl
  act_same Dup f rest = refl
  act_same Pop f rest = refl
  act_same Swap f rest = refl
  act_same Over f rest = refl
  act_same (FrameAddr n) f rest = refl
  act_same (GlobalAddr s) f rest = refl
  act_same (FuncAddr s) f rest = refl
  act_same (ClassAddr s) f rest = refl
  act_same (Load k) f rest = refl
  act_same (Store k) f rest = refl
  act_same (TLoad k) f rest = refl
  act_same (TStore k) f rest = refl
  act_same (VLoad k) f rest = refl
  act_same (VStore k) f rest = refl
  act_same (Bin op k) f rest = refl
  act_same (Neg k) f rest = refl
  act_same (Conv k j) f rest = refl
  act_same (Jump n) f rest = refl
  act_same (JumpZero n) f rest = refl
  act_same (Call s n) f rest = call_same s false n f rest
  act_same (TCall s n) f rest = call_same s true n f rest
  act_same (CallIndirect ty n) f rest = indirect_same ty false n f rest
  act_same (TCallIndirect ty n) f rest = indirect_same ty true n f rest
  act_same (Slot c n) f rest = refl
  act_same (Ret n) f rest = refl
  act_same (Begin n) f rest = refl
  act_same End f rest = refl
  act_same BeginSync f rest = refl
  act_same EndSync f rest = refl
  act_same Out f rest = refl
  act_same Inp f rest = refl
  act_same Spawn f rest = refl
  act_same Join f rest = refl
  act_same Abort f rest = refl
  act_same (NewException ty) f rest = refl
  act_same (PutException n k) f rest = refl
  act_same Throw f rest = refl
  act_same Rethrow f rest = refl
  act_same (GetException n k) f rest = refl
  act_same EndHandler f rest = refl
  act_same Resume f rest = refl

  row_same : (what target : ℕ) (ws : List ℕ) (e : Exception) (f : Frame) (rest : List Frame)
      → row_act y what target ws e f rest ≡ row_act x what target ws e f rest
  row_same zero target ws e f rest = refl
  row_same (suc zero) target ws e f rest = refl
  row_same (suc (suc zero)) target ws e f rest = refl
  row_same (suc (suc (suc zero))) target ws e f rest = refl
  row_same (suc (suc (suc (suc zero)))) target ws e f rest = refl
  row_same (suc (suc (suc (suc (suc zero))))) target ws e f rest = refl
  row_same (suc (suc (suc (suc (suc (suc zero)))))) target ws e f rest = refl
  row_same (suc (suc (suc (suc (suc (suc (suc n))))))) target ws e f rest = refl

  leave_same : (e : Exception) (f : Frame) (rest : List Frame) → leave_act y e f rest ≡ leave_act x e f rest
  leave_same e f [] = refl
  leave_same e f (g ∷ rest) = refl

  unwind_same : (o : Option Row) (e : Exception) (f : Frame) (rest : List Frame) → unwind_act y o e f rest ≡ unwind_act x o e f rest
  unwind_same None e f rest = leave_same e f rest
  unwind_same (Some r) e f rest = row_same r.what r.target (cut r.depth f.words) e f rest

  step_same : (s : State) → step_act y s ≡ step_act x s
  step_same (Runs f rest) = ap (λ o. if_some o Lost (λ i. act y i f rest)) (fetch_same f.home f.index)
      ∙ some_same (fetch x f.home f.index) Lost _ _ (λ i. act_same i f rest)
  step_same (Unwinds e f rest) = ap (λ rs. unwind_act y (find rs f.index e.ty) e f rest) (rows_in_same f.home)
      ∙ unwind_same (find (rows_in x f.home) f.index e.ty) e f rest

  next_same : (s t : State) → s ≡ t → (thread y).next t ≡ (thread x).next s
  next_same s t e = subst (λ z. event_of (step_act y z) ≡ event_of (step_act x s)) e (ap event_of (step_same s))

  after_same : (s t : State) (r : Reply) → s ≡ t → (thread x).after s r ≡ (thread y).after t r
  after_same s t r e = subst (λ z. state_after s (step_act x s) r ≡ state_after z (step_act y z) r) e (sym (ap (λ (a : Act). state_after s a r) (step_same s)))

  pub own_same : (s : State) → SameEvents (thread x) (thread y) s s
  own_same s = lock_same (thread x) (thread y) (λ s t. s ≡ t) next_same after_same s s refl

  pub own_within : (s : State) → StepsWithin (thread x) (thread y) 1 0 s s
  own_within s = lock_within (thread x) (thread y) (λ s t. s ≡ t) next_same after_same s s refl
