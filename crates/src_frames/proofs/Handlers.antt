-- Which frames an entered handler stands in.
use Rattle.std.proofs.Common.{◌≡◌, ◌∙◌, ℕ, zero, suc, ◌+◌, ◌-◌, ◌<◌, ◌≤◌, List, [], ◌∷◌, ◌++◌, length, get_or, set, sym, ap, refl, arith, take, cond}
use Rattle.std.proofs.Common.{append_assoc}
use Rattle.std.specs.Prelude.{Option, Some, None, is_some, option_map, slice_get}
use Rattle.std.proofs.lemmas.List.{append-nil}
use Rattle.std.proofs.lemmas.Option.{same_Some, slice_get-get_or}
use Rattle.std.proofs.Math.Seq.{take-suc, take-length}
use Rattle.src_mean.specs.Frames as frames
use Rattle.src_bind.specs.Tables.{Given}
use Rattle.src_frames.specs.declared.frames.Exception.{Exception}
use Rattle.src_frames.specs.declared.frames.Frame.{Frame}
use Rattle.src_frames.specs.declared.frames.Frame.TheVariants.{Gives}
use Rattle.src_frames.specs.Shown.{frames_shown, exception_shown}
use Rattle.src_frames.specs.Sorts.{first_of, handling, place_in, handlers_from, handlers_in, newest_handled}
use Rattle.src_frames.proofs.Sorts.{handled_step}
use Rattle.src_frames.proofs.Stacks.{shown_push, shown_none}

-- the first of two

first_none : {A : Type 0} (o : Option A) → first_of o None ≡ o
first_none None = refl
first_none (Some x) = refl

first_three : {A : Type 0} (o p q : Option A) → first_of (first_of o p) q ≡ first_of o (first_of p q)
first_three None p q = refl
first_three (Some x) p q = refl

first_map : {A B : Type 0} (v : A → B) (o p : Option A) → first_of (option_map v o) (option_map v p) ≡ option_map v (first_of o p)
first_map v None p = refl
first_map v (Some x) p = refl

-- a frame on the others

push_from : (n : ℕ) (fs : List Frame) (f : Frame) → handlers_from n (fs ++ f ∷ []) ≡ handlers_from n fs ++ place_in f (n + length fs)
push_from n [] f = append-nil (place_in f n) ∙ ap (place_in f) (omega arith)
push_from n (x ∷ fs) f =
    ap (λ z. place_in x n ++ z) (push_from (n + 1) fs f)
    ∙ sym (append_assoc (place_in x n) (handlers_from (n + 1) fs) (place_in f (n + 1 + length fs)))
    ∙ ap (λ z. (place_in x n ++ handlers_from (n + 1) fs) ++ place_in f z) (omega arith)

pub handlers_push : (fs : List Frame) (f : Frame) → handlers_in (fs ++ f ∷ []) ≡ handlers_in fs ++ place_in f (length fs)
handlers_push fs f = push_from 0 fs f ∙ ap (λ z. handlers_in fs ++ place_in f z) (omega arith)

newest_push : (fs : List Frame) (f : Frame) → newest_handled (fs ++ f ∷ []) ≡ first_of (handling f) (newest_handled fs)
newest_push [] f = sym (first_none (handling f))
newest_push (x ∷ fs) f = ap (λ z. first_of z (handling x)) (newest_push fs f) ∙ first_three (handling f) (newest_handled fs) (handling x)

-- a frame in place of another one with the same handler

set_from : (k : ℕ) (fs : List Frame) (n : ℕ) (f d : Frame) → n < length fs → d ≡ get_or fs n d → handling f ≡ handling d
    → handlers_from k (set fs n f) ≡ handlers_from k fs
set_from k [] n f d h i w = absurd (omega (arith, h))
set_from k (x ∷ xs) zero f d h i w = ap (λ z. cond (is_some z) (k ∷ []) [] ++ handlers_from (k + 1) xs) (w ∙ ap handling i)
set_from k (x ∷ xs) (suc n) f d h i w = ap (λ z. place_in x k ++ z) (set_from (k + 1) xs n f d (omega (arith, h)) i w)

pub handlers_set : (fs : List Frame) (n : ℕ) (f d : Frame) → n < length fs → d ≡ get_or fs n d → handling f ≡ handling d
    → handlers_in (set fs n f) ≡ handlers_in fs
handlers_set fs n f d h i w = set_from 0 fs n f d h i w

-- the exception of the innermost one is what the definition finds

newest_to : (g : Given) (fs : List Frame) (m : ℕ) → m ≤ length fs
    → option_map (exception_shown g.program) (newest_handled (take m fs)) ≡ frames.handled (frames_shown g (take m fs))
newest_to g fs zero h = sym (ap frames.handled (shown_none g))
newest_to g fs (suc m) h =
    let f : Frame = get_or fs m (Gives 0) in
    let below : m < length fs = omega (arith, h) in
    let split : take (suc m) fs ≡ take m fs ++ f ∷ [] = take-suc fs m (Gives 0) below in
    ap (λ z. option_map (exception_shown g.program) (newest_handled z)) split
    ∙ ap (option_map (exception_shown g.program)) (newest_push (take m fs) f)
    ∙ sym (first_map (exception_shown g.program) (handling f) (newest_handled (take m fs)))
    ∙ ap (λ z. first_of (option_map (exception_shown g.program) (handling f)) z) (newest_to g fs m (omega (arith, h)))
    ∙ sym (handled_step g f (frames_shown g (take m fs)))
    ∙ sym (ap frames.handled (shown_push g (take m fs) f))
    ∙ ap (λ z. frames.handled (frames_shown g z)) (sym split)

pub newest_shown : (g : Given) (fs : List Frame) → option_map (exception_shown g.program) (newest_handled fs) ≡ frames.handled (frames_shown g fs)
newest_shown g fs =
    ap (λ z. option_map (exception_shown g.program) (newest_handled z)) (sym (take-length fs))
    ∙ newest_to g fs (length fs) (omega arith)
    ∙ ap (λ z. frames.handled (frames_shown g z)) (take-length fs)

-- the last of the indices is that of its frame

tail_same : (a b : ℕ) (xs ys : List ℕ) → a ∷ xs ≡ b ∷ ys → xs ≡ ys
tail_same a b xs ys e = cc

head_same : (a b : ℕ) (xs ys : List ℕ) → a ∷ xs ≡ b ∷ ys → a ≡ b
head_same a b xs ys e = cc

none_long : (xs : List ℕ) → length xs ≡ 0 → xs ≡ []
none_long [] e = refl
none_long (x ∷ xs) e = absurd (omega (arith, e))

-- in these frames, of which the first has the index n, the innermost entered handler stands in the one with the index i
pub record Newest (n : ℕ) (fs : List Frame) (i : ℕ) : Type 0 where
  pub index : ℕ
  pub place : i ≡ n + index
  pub frame : Frame
  pub there : slice_get fs index ≡ Some frame
  pub exception : Exception
  pub handles : handling frame ≡ Some exception
  pub newest : newest_handled fs ≡ Some exception

none_by : (n : ℕ) (f : Frame) (rest : List ℕ) (o : Option Exception) → cond (is_some o) (n ∷ []) [] ++ rest ≡ [] → (o ≡ None) × (rest ≡ [])
none_by n f rest None e = (refl, e)
none_by n f rest (Some x) e = absurd cc

none_from : (n : ℕ) (fs : List Frame) → handlers_from n fs ≡ [] → newest_handled fs ≡ None
none_from n [] e = refl
none_from n (f ∷ fs) e =
    let h = none_by n f (handlers_from (n + 1) fs) (handling f) e in
    ap (λ z. first_of z (handling f)) (none_from (n + 1) fs h.1) ∙ h.0

last_by : (n : ℕ) (f : Frame) (fs : List Frame) → ((hs : List ℕ) → hs ≡ handlers_from (n + 1) fs → (k i : ℕ) → length hs ≡ suc k → slice_get hs k ≡ Some i →
    Newest (n + 1) fs i)
    → (o : Option Exception) → handling f ≡ o → (hs : List ℕ) → hs ≡ cond (is_some o) (n ∷ []) [] ++ handlers_from (n + 1) fs → (k i : ℕ) → length hs ≡ suc k
    → slice_get hs k ≡ Some i → Newest n (f ∷ fs) i
last_by n f fs more None h hs e k i l s =
    let r = more hs e k i l s in
    record {
      index = suc r.index;
      place = r.place ∙ omega arith;
      frame = r.frame;
      there = r.there;
      exception = r.exception;
      handles = r.handles;
      newest =
          ap (λ z. first_of z (handling f)) r.newest;
    }
last_by n f fs more (Some x) h [] e k i l s = absurd (omega (arith, l))
last_by n f fs more (Some x) h (m ∷ hs) e zero i l s =
    let same : m ≡ n = head_same m n hs (handlers_from (n + 1) fs) e in
    let rest : hs ≡ handlers_from (n + 1) fs = tail_same m n hs (handlers_from (n + 1) fs) e in
    let none : newest_handled fs ≡ None = none_from (n + 1) fs (sym rest ∙ none_long hs (omega (arith, l))) in
    record {
      index = 0;
      place = sym (same_Some m i s) ∙ same ∙ omega arith;
      frame = f;
      there = refl;
      exception = x;
      handles = h;
      newest =
          ap (λ z. first_of z (handling f)) none ∙ h;
    }
last_by n f fs more (Some x) h (m ∷ hs) e (suc k) i l s =
    let r = more hs (tail_same m n hs (handlers_from (n + 1) fs) e) k i (omega (arith, l)) s in
    record {
      index = suc r.index;
      place = r.place ∙ omega arith;
      frame = r.frame;
      there = r.there;
      exception = r.exception;
      handles = r.handles;
      newest =
          ap (λ z. first_of z (handling f)) r.newest;
    }

last_from : (n : ℕ) (fs : List Frame) (hs : List ℕ) → hs ≡ handlers_from n fs → (k i : ℕ) → length hs ≡ suc k → slice_get hs k ≡ Some i → Newest n fs i
last_from n [] hs e k i l s = let none : length hs ≡ 0 = ap length e in absurd (omega (arith, l, none))
last_from n (f ∷ fs) hs e k i l s = last_by n f fs (last_from (n + 1) fs) (handling f) refl hs e k i l s

-- there is none
pub none_last : (fs : List Frame) (hs : List ℕ) → hs ≡ handlers_in fs → slice_get hs (length hs - 1) ≡ None → newest_handled fs ≡ None
none_last fs [] e s = none_from 0 fs (sym e)
none_last fs (h ∷ hs) e s =
    let last : length hs ≡ length (h ∷ hs) - 1 = omega arith in
    let no : Some (get_or (h ∷ hs) (length hs) h) ≡ None = sym (slice_get-get_or (h ∷ hs) (length hs) h (omega arith)) ∙ (ap (slice_get (h ∷ hs)) last ∙ s) in
    absurd cc

-- the innermost one
pub some_last : (fs : List Frame) (hs : List ℕ) (i : ℕ) → hs ≡ handlers_in fs → slice_get hs (length hs - 1) ≡ Some i → Newest 0 fs i
some_last fs [] i e s = absurd cc
some_last fs (h ∷ hs) i e s = let last : length hs ≡ length (h ∷ hs) - 1 = omega arith in
    last_from 0 fs (h ∷ hs) e (length hs) i refl (ap (slice_get (h ∷ hs)) last ∙ s)
