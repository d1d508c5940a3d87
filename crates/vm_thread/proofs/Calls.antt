-- What calls come to.
use Rattle.std.proofs.Common.{Bool, true, false, ◌≡◌, ◌<◌, ◌≤◌, ℕ, ◌+◌, List, ◌∷◌, length, take, drop, reverse, refl, sym, ap, ◌∙◌, arith}
use Rattle.std.specs.Prelude.{Option, Some, None, is_some, not, nat_le, ◌&&◌, if◌then◌else◌}
use Rattle.std.proofs.lemmas.Bool.{true≢false, leb-false}
use Rattle.std.proofs.lemmas.Bool.Decides.{Decides-ltb}
use Rattle.tx_events.specs.declared.Trap.TheVariants.{StackOverflow, UnsafeCall, BadCall}
use Rattle.tx_events.specs.declared.End.TheVariants.{Trapped}
use Rattle.tx_events.specs.declared.Event.TheVariants.{Silent, Stop}
use Rattle.tx_code.specs.Meaning.{Names, Frame, Act, Lost, Runs, goes, traps, one, if_some, at, first_frame, fits, next_home, entered_act, call_act}
use Rattle.tx_code.specs.Meaning.{call_indirect_act, checked_act, in_transaction}
use Rattle.vm_frames.specs.declared.step.Step.{Step}
use Rattle.vm_frames.specs.declared.step.Step.TheVariants.{Does, Ends, Lost as NoStep}
use Rattle.vm_frames.specs.declared.step.Change.TheVariants.{Call, CallIndirect}
use Rattle.vm_frames.specs.Steps.{Means}
use Rattle.vm_thread.proofs.Operands.{none_is, some_is, moved_are, moved_lost, under_lost}

pub const_some : {A : Type 0} (o : Option A) (l a : Act) → is_some o ≡ true → if_some o l (λ b. a) ≡ a
const_some None l a h = absurd (true≢false (sym h))
const_some (Some x) l a h = refl

pub const_none : {A : Type 0} (o : Option A) (l : Act) (g : A → Act) → is_some o ≡ false → if_some o l g ≡ l
const_none None l g h = refl
const_none (Some x) l g h = absurd (true≢false h)

if_true : (b : Bool) (c d : Act) → b ≡ true → (if b then c else d) ≡ c
if_true b c d h = ap (λ z. if z then c else d) h

if_false : (b : Bool) (c d : Act) → b ≡ false → (if b then c else d) ≡ d
if_false b c d h = ap (λ z. if z then c else d) h

both_true : (b c : Bool) → b ≡ true → c ≡ true → (b && c) ≡ true
both_true b c h k = ap (λ z. z && c) h ∙ k

le_true : (a b : ℕ) → a ≤ b → nat_le a b ≡ true
le_true a b h = by_test (nat_le a b) refl where
  by_test : (t : Bool) → nat_le a b ≡ t → t ≡ true
  by_test true e = refl
  by_test false e = let l : b < a = leb-false a b e in absurd (omega arith)

module _ (x : Names) (func : ℕ) (safe : Bool) where
  module _ (args : List ℕ) (g : Frame) (rest : List Frame) where
    entered_lost : is_some (x.body func safe) ≡ false → entered_act x func safe args g rest ≡ Lost
    entered_lost h = const_none (x.body func safe) Lost _ h

    entered_over : is_some (x.body func safe) ≡ true → fits x (next_home x g.home func safe) ≡ false → entered_act x func safe args g rest ≡ traps StackOverflow
    entered_over h k = const_some (x.body func safe) Lost _ h ∙ if_false (fits x (next_home x g.home func safe)) _ _ k

    entered_in : is_some (x.body func safe) ≡ true → fits x (next_home x g.home func safe) ≡ true
        → entered_act x func safe args g rest ≡ goes (Runs (first_frame (next_home x g.home func safe) args) (g ∷ rest))
    entered_in h k = const_some (x.body func safe) Lost _ h ∙ if_true (fits x (next_home x g.home func safe)) _ _ k

  module _ (f : Frame) (rest : List Frame) (n : ℕ) where
    abbrev args : List ℕ
    args = reverse (take n f.words)

    -- ---- calls by name

    pub call_short : length f.words < n → Means NoStep (call_act x func safe n f rest) f rest
    call_short h = record { is = sym (moved_lost n f.words _ h); fits = refl }

    pub call_lost : n ≤ length f.words → is_some (x.body func safe) ≡ false → Means NoStep (call_act x func safe n f rest) f rest
    call_lost h k = record { is = sym (moved_are n f.words _ h ∙ entered_lost args (at f f.index (drop n f.words)) rest k); fits = refl }

    pub call_over : n ≤ length f.words → is_some (x.body func safe) ≡ true → fits x (next_home x f.home func safe) ≡ false
        → Means (Ends (Stop (Trapped StackOverflow))) (call_act x func safe n f rest) f rest
    call_over h k o = record { is = sym (moved_are n f.words _ h ∙ entered_over args (at f f.index (drop n f.words)) rest k o); fits = refl }

    -- a frame at an address
    at_address : ℕ → List Frame → Act
    at_address a gs = goes (Runs (first_frame (record { thread = f.home.thread; func = func; safe = safe; base = a }) args) gs)

    pub call_in : (a : ℕ) → n ≤ length f.words → f.index < 18446744073709551615 → is_some (x.body func safe) ≡ true
        → fits x (next_home x f.home func safe) ≡ true → a ≡ f.home.base + x.frame f.home.func
        → Means (Does Silent (Call (record { func = func; safe = safe; address = a; words = n }))) (call_act x func safe n f rest) f rest
    unfolding at_address
    call_in a h i k o e = record {
      is = ap (λ z. at_address z (at f f.index (drop n f.words) ∷ rest)) e
          ∙ sym (moved_are n f.words _ h ∙ entered_in args (at f f.index (drop n f.words)) rest k o);
      fits = both_true _ _ (le_true n (length f.words) h) ((Decides-ltb f.index 18446744073709551615).1 i);
    }

    -- ---- calls by address

    pub enter_lost : is_some (x.body func safe) ≡ false → Means NoStep (entered_act x func safe args (at f f.index (drop (n + 1) f.words)) rest) f rest
    enter_lost k = record { is = sym (entered_lost args (at f f.index (drop (n + 1) f.words)) rest k); fits = refl }

    pub enter_over : is_some (x.body func safe) ≡ true → fits x (next_home x f.home func safe) ≡ false
        → Means (Ends (Stop (Trapped StackOverflow))) (entered_act x func safe args (at f f.index (drop (n + 1) f.words)) rest) f rest
    enter_over k o = record { is = sym (entered_over args (at f f.index (drop (n + 1) f.words)) rest k o); fits = refl }

    pub enter_in : (a : ℕ) → n < length f.words → f.index < 18446744073709551615 → is_some (x.body func safe) ≡ true
        → fits x (next_home x f.home func safe) ≡ true → a ≡ f.home.base + x.frame f.home.func
        → Means (Does Silent (CallIndirect (record { func = func; safe = safe; address = a; words = n })))
        (entered_act x func safe args (at f f.index (drop (n + 1) f.words)) rest) f rest
    unfolding at_address
    enter_in a h i k o e = record {
      is = ap (λ z. at_address z (at f f.index (drop (n + 1) f.words) ∷ rest)) e ∙ sym (entered_in args (at f f.index (drop (n + 1) f.words)) rest k o);
      fits = both_true _ _ ((Decides-ltb n (length f.words)).1 h) ((Decides-ltb f.index 18446744073709551615).1 i);
    }

module _ (x : Names) (ty : ℕ) (safe : Bool) (f : Frame) (rest : List Frame) (n : ℕ) where
  pub indirect_short : length f.words ≤ n → Means NoStep (call_indirect_act x ty safe n f rest) f rest
  indirect_short h = record { is = sym (under_lost n f.words _ h); fits = refl }

  -- what is done where the address is there
  abbrev with_address : ℕ → List ℕ → Act
  with_address a below = if_some (x.called ty a) (traps BadCall)
      (λ func. checked_act x func (in_transaction f rest) (entered_act x func safe (reverse (take n f.words)) (at f f.index below) rest))

  addressed : (a : ℕ) → n < length f.words → drop n f.words ≡ a ∷ drop (n + 1) f.words
      → call_indirect_act x ty safe n f rest ≡ with_address a (drop (n + 1) f.words)
  addressed a h e = moved_are n f.words _ (omega arith) ∙ ap (λ z. one z with_address) e

  pub indirect_bad : (a : ℕ) → n < length f.words → drop n f.words ≡ a ∷ drop (n + 1) f.words → x.called ty a ≡ None
      → Means (Ends (Stop (Trapped BadCall))) (call_indirect_act x ty safe n f rest) f rest
  indirect_bad a h e c = record { is = sym (addressed a h e ∙ none_is (x.called ty a) (traps BadCall) _ c); fits = refl }

  pub indirect_unsafe : (a func : ℕ) → n < length f.words → drop n f.words ≡ a ∷ drop (n + 1) f.words → x.called ty a ≡ Some func → in_transaction f rest ≡ safe
      → (safe && not (is_some (x.body func true))) ≡ true → Means (Ends (Stop (Trapped UnsafeCall))) (call_indirect_act x ty safe n f rest) f rest
  indirect_unsafe a func h e c m u = record {
    is = sym
        (addressed a h e ∙ some_is (x.called ty a) func (traps BadCall) _ c
        ∙ ap (λ z. checked_act x func z (entered_act x func safe (reverse (take n f.words)) (at f f.index (drop (n + 1) f.words)) rest)) m ∙ checked safe _ u);
    fits = refl;
  } where
    unsafe : (b : Bool) → not b ≡ true → b ≡ false
    unsafe true h = absurd (true≢false (sym h))
    unsafe false h = refl

    checked : (s : Bool) (ok : Act) → (s && not (is_some (x.body func true))) ≡ true → checked_act x func s ok ≡ traps UnsafeCall
    checked true ok u = const_none (x.body func true) (traps UnsafeCall) _ (unsafe (is_some (x.body func true)) u)
    checked false ok u = absurd (true≢false (sym u))

  pub indirect_in : (a func : ℕ) (step : Step) → n < length f.words → drop n f.words ≡ a ∷ drop (n + 1) f.words → x.called ty a ≡ Some func
      → in_transaction f rest ≡ safe → (safe && not (is_some (x.body func true))) ≡ false
      → Means step (entered_act x func safe (reverse (take n f.words)) (at f f.index (drop (n + 1) f.words)) rest) f rest
      → Means step (call_indirect_act x ty safe n f rest) f rest
  indirect_in a func step h e c m u k = record {
    is = k.is ∙ sym
        (addressed a h e ∙ some_is (x.called ty a) func (traps BadCall) _ c
        ∙ ap (λ z. checked_act x func z (entered_act x func safe (reverse (take n f.words)) (at f f.index (drop (n + 1) f.words)) rest)) m ∙ checked safe _ u);
    fits = k.fits;
  } where
    there : (b : Bool) → not b ≡ false → b ≡ true
    there true h = refl
    there false h = absurd (true≢false h)

    checked : (s : Bool) (ok : Act) → (s && not (is_some (x.body func true))) ≡ false → checked_act x func s ok ≡ ok
    checked true ok u = const_some (x.body func true) (traps UnsafeCall) ok (there (is_some (x.body func true)) u)
    checked false ok u = refl
