-- A call of a checked body, and its return.
use Rattle.std.proofs.Common.{ℕ, zero, suc, ◌≡◌, ◌+◌, ◌^◌, ◌<◌, ◌≤◌, nat_lt, Bool, true, false, refl, ap, ap₂, sym, ◌∙◌, subst, List, [], ◌∷◌, Option, Some}
use Rattle.std.proofs.Common.{arith}
use Rattle.std.specs.Prelude.{nat_le}
use Rattle.std.proofs.lemmas.Bool.{leb-true, ltb-true, ltb-false, leb-false}
use Rattle.tx_events.specs.declared.Event.TheVariants.{Silent}
use Rattle.tx_code.specs.Meaning.{Names, Home, Frame, Runs, Act, Ends, Lost, act, if_some, step_act, thread}
use Rattle.tx_code.specs.Meaning as code
use Rattle.src_mean.specs.Linked.{Func, Program}
use Rattle.src_mean.specs.Frames.{State}
use Rattle.src_mean.specs.Frames as frames
use Rattle.src_mean.specs.Source.{inside}
use Rattle.symbolic_source.specs.Terms.{Term, Values}
use Rattle.symbolic_source.specs.Frames.{Waiting as Waits, Frame as Form, value, Passes, Then, words_of, below, here_of}
use Rattle.symbolic_source.specs.Outcomes.{silent, goes, Shows}
use Rattle.symbolic_source.specs.Small.{IsSmall, AreWords}
use Rattle.symbolic_source.proofs.TermLemmas.{term_below}
use Rattle.body_check.specs.Notes.{variables}
use Rattle.body_check.specs.Calls.{taken_off}

-- Words that are taken off

pair_same : (x y : List Term × List Term) → ◌≡◌ {A = Option (List Term × List Term)} (Some x) (Some y) → x ≡ y
pair_same x y e = cc

abbrev pub count_of : {A : Type 0} → List A → ℕ
count_of [] = 0
count_of (a ∷ others) = suc (count_of others)

module _ (p : Program) (f : Func) (x : Values) where
  pub moved_is : (n : ℕ) (ws args a u : List Term) (go : List ℕ → List ℕ → Act) → taken_off n ws args ≡ Some (a, u)
      → code.moved n (words_of p f x ws) (words_of p f x args) go ≡ go (words_of p f x a) (words_of p f x u)
  moved_is zero ws args a u go e =
      let same = pair_same (args, ws) (a, u) e in
      ap₂ go (ap (λ (z : List Term × List Term). words_of p f x z.0) same) (ap (λ (z : List Term × List Term). words_of p f x z.1) same)
  moved_is (suc n) [] args a u go e = absurd cc
  moved_is (suc n) (w ∷ ws) args a u go e = moved_is n ws (w ∷ args) a u go e

pub taken_count : (n : ℕ) (ws args a u : List Term) → taken_off n ws args ≡ Some (a, u) → count_of a ≡ n + count_of args
taken_count zero ws args a u e = ap (λ (z : List Term × List Term). count_of z.0) (sym (pair_same (args, ws) (a, u) e)) ∙ none (count_of args)
  where
    none : (n : ℕ) → n ≡ 0 + n
    none n = omega arith
taken_count (suc n) [] args a u e = absurd cc
taken_count (suc n) (w ∷ ws) args a u e = taken_count n ws (w ∷ args) a u e ∙ turned n (count_of args)
  where
    turned : (n m : ℕ) → n + suc m ≡ suc n + m
    turned n m = omega arith

-- the word with this number, where there is one
abbrev pub word_at : List ℕ → ℕ → ℕ
word_at [] n = 0
word_at (w ∷ ws) zero = w
word_at (w ∷ ws) (suc n) = word_at ws n

module _ (p : Program) (f : Func) (x : Values) where
  -- the variables from k on stand for these words
  pub variables_are : (ws : List ℕ) (k : ℕ) → ((i : ℕ) → x.word (k + i) ≡ word_at ws i) → words_of p f x (variables k (count_of ws)) ≡ ws
  variables_are [] k h = refl
  variables_are (w ∷ ws) k h = ap₂ (λ (a : ℕ) (b : List ℕ). a ∷ b) (ap x.word (none k) ∙ h 0)
      (variables_are ws (suc k) (λ i. ap x.word (turned k i) ∙ h (suc i)))
    where
      none : (k : ℕ) → k ≡ k + 0
      none k = omega arith

      turned : (k i : ℕ) → suc k + i ≡ k + suc i
      turned k i = omega arith

-- the stack's end

pub fits_or_not : (a b : ℕ) {A : Type 0} → (nat_le a b ≡ true → nat_lt b a ≡ false → A) → (nat_le a b ≡ false → nat_lt b a ≡ true → A) → A
fits_or_not a b {A} g h = by_test (nat_le a b) refl
  where
    by_lower : (t : Bool) → nat_lt b a ≡ t → nat_le a b ≡ true → A
    by_lower true e i = absurd (over a b (leb-true a b i) (ltb-true b a e))
      where
        over : (a b : ℕ) → a ≤ b → b < a → ⊥
        over a b i e = omega (arith, i, e)
    by_lower false e i = g i e

    by_upper : (t : Bool) → nat_lt b a ≡ t → nat_le a b ≡ false → A
    by_upper true e i = h i e
    by_upper false e i = absurd (over a b (leb-false a b i) (ltb-false b a e))
      where
        over : (a b : ℕ) → b < a → a ≤ b → ⊥
        over a b i e = omega (arith, i, e)

    by_test : (t : Bool) → nat_le a b ≡ t → A
    by_test true e = by_lower (nat_lt b a) refl e
    by_test false e = by_upper (nat_lt b a) refl e

-- words of terms are words
module _ (p : Program) (f : Func) (x : Values) (bounded : AreWords x) where
  pub words_below : (ws : List Term) (n : ℕ) → word_at (words_of p f x ws) n < 2 ^ 64
  words_below [] n = omega arith
  words_below (w ∷ ws) zero = term_below p f x bounded w
  words_below (w ∷ ws) (suc n) = words_below ws n

  pub words_counted : (ws : List Term) → count_of (words_of p f x ws) ≡ count_of ws
  words_counted [] = refl
  words_counted (w ∷ ws) = ap suc (words_counted ws)

-- the variables of a function that is entered are its words
abbrev pub values_in : Values → (words : List ℕ) → (base : ℕ) → Values
values_in x words base = record { word = λ n. word_at words n; exception = x.exception; base = base; limit = x.limit }

-- The source enters the function

module _ (p : Program) (small : IsSmall p) (f g : Func) (x : Values) (bounded : AreWords x) (ws : List Waits) (k : List Form) (rest : List frames.Frame)
    (args : List Term) where
  abbrev new : Values
  new = values_in x (words_of p f x args) (x.base + f.size)

  abbrev callers_left : List frames.Frame
  callers_left = frames.Called (here_of p f x ws) g.stops ∷ below p f x k rest

  abbrev first : State
  first = frames.at Silent (inside (here_of p f x ws) g) (frames.Passes (words_of p f x args) g.words ∷ frames.Then frames.value g.body ∷ callers_left)

  pub new_variables : (n : ℕ) → count_of args ≡ n → words_of p g new (variables 0 n) ≡ words_of p f x args
  new_variables n e = subst (λ z. words_of p g new (variables 0 z) ≡ words_of p f x args) (words_counted p f x bounded args ∙ e)
      (variables_are p g new (words_of p f x args) 0 (λ i. ap (λ z. word_at (words_of p f x args) z) (none i)))
    where
      none : (i : ℕ) → 0 + i ≡ i
      none i = omega arith

  pub entered : (n : ℕ) → count_of args ≡ n → Shows p g new callers_left (goes silent [] (Passes (variables 0 n) g.words ∷ Then value g.body ∷ [])) first
  entered n e =
      ap (λ (z : List ℕ). frames.at Silent (inside (here_of p f x ws) g) (frames.Passes z g.words ∷ frames.Then frames.value g.body ∷ callers_left))
      (sym (new_variables n e))

  pub new_words : AreWords new
  new_words n = words_below p f x bounded args n
