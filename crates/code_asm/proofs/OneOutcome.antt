-- A text has one outcome.
use Rattle.std.proofs.Common.{◌≡◌, ℕ, ◌<◌, ◌≤◌, List, [], Option, Some, None, refl, sym, ap, subst, ◌∙◌, inl, inr, arith}
use Rattle.std.proofs.lemmas.Bool.{cases_lt}
use Rattle.tx_code.specs.Objects.{ObjectView}
use Rattle.assembly_text.specs.Lines.{Line}
use Rattle.code_asm.specs.Steps.{State, Ended, step, is_nil}
use Rattle.code_asm.specs.Answers.{Reaches, begins, goes_on, IsFirstWrong}
use Rattle.assembly_text.specs.Front.{LineHere}
use Rattle.assembly_text.proofs.LineLaws.{same_lines, shorter}

some_is : (s t : State) → Path (Option State) (Some s) (Some t) → s ≡ t
some_is s t e = cc

none_some : (s : State) → Path (Option State) None (Some s) → ⊥
none_some s e = absurd cc

from_one : {text rest : List ℕ} {n : ℕ} {s : State} → Reaches text n s rest → 1 ≤ n
from_one begins = omega arith
from_one (goes_on {number = n} l before here e) = omega (arith, from_one before)

-- behind as many lines one state is reached
pub record SameReach (s t : State) (rest tail : List ℕ) : Type 0 where
  pub state : s ≡ t
  pub rests : rest ≡ tail

pub same_reach : {text rest tail : List ℕ} {m n : ℕ} {s t : State} → Reaches text m s rest → Reaches text n t tail → m ≡ n → SameReach s t rest tail
same_reach begins begins same = record { state = refl; rests = refl }
same_reach begins (goes_on {number = n} l before here e) same = let one = from_one before in absurd (omega arith)
same_reach (goes_on {number = n} l before here e) begins same = let one = from_one before in absurd (omega arith)
same_reach {rest = rest} {tail = tail} (goes_on {number = m} {s = s} {t = u} {left = left} l before here e)
    (goes_on {number = n} {s = t} {t = v} {left = other} k earlier there h) same =
    let r = same_reach before earlier (omega arith) in
    let lines = same_lines left l k rest tail here (subst (λ (z : List ℕ). LineHere z k tail) (sym r.rests) there) in
    let steps : step s l (is_nil rest) ≡ step t k (is_nil tail) = ap (λ (z : State). step z l (is_nil rest)) r.state
    ∙ ap (λ (z : Line). step t z (is_nil rest)) lines.same ∙ ap (λ (z : List ℕ). step t k (is_nil z)) lines.rests in
    record { state = some_is u v (sym e ∙ steps ∙ h); rests = lines.rests }

-- a line is taken behind fewer lines
record Passed (text : List ℕ) (n : ℕ) : Type 0 where
  state : State
  rest : List ℕ
  reached : Reaches text n state rest
  line : Line
  tail : List ℕ
  here : LineHere rest line tail
  next : State
  taken : step state line (is_nil tail) ≡ Some next

passed : {text rest : List ℕ} {m : ℕ} {s : State} (n : ℕ) → Reaches text m s rest → 1 ≤ n → n < m → Passed text n
passed n begins one less = absurd (omega arith)
passed {text = text} {rest = rest} n (goes_on {number = m} {s = s} {t = t} {left = left} l before here e) one less =
    elim (cases_lt n m) [
      | inl lt ↦ passed n before one lt
      | inr le ↦
          let same : m ≡ n = omega arith in
          record {
            state = s;
            rest = left;
            reached = subst (λ (k : ℕ). Reaches text k s left) same before;
            line = l;
            tail = rest;
            here = here;
            next = t;
            taken =
                e;
          }
    ]

-- where a line is wrong, none is taken
no_more : {text : List ℕ} {n : ℕ} → IsFirstWrong text n → Passed text n → ⊥
no_more w p =
    let same = same_reach p.reached w.reached refl in
    let stop = w.no_line p.line p.tail (subst (λ (z : List ℕ). LineHere z p.line p.tail) same.rests p.here) in
    none_some p.next (sym stop ∙ ap (λ (z : State). step z p.line (is_nil p.tail)) (sym same.state) ∙ p.taken)

-- behind the end of the text none is taken
at_end : {text : List ℕ} {n : ℕ} {s : State} → Reaches text n s [] → Passed text n → ⊥
at_end h p =
    let same = same_reach p.reached h refl in
    let short = shorter (subst (λ (z : List ℕ). LineHere z p.line p.tail) same.rests p.here) in
    omega arith

pub never_both : (text : List ℕ) (m n : ℕ) (o : ObjectView) → Reaches text m (record { object = o; place = Ended }) [] → IsFirstWrong text n → ⊥
never_both text m n o h w =
    elim (cases_lt n m) [
      | inl lt ↦ no_more w (passed n h (from_one w.reached) lt)
      | inr le ↦
          elim (cases_lt m n) [
            | inl lt ↦ at_end h (passed m w.reached (from_one h) lt)
            | inr ge ↦
                let same = same_reach h w.reached (omega arith) in
                w.too_early (sym same.rests) (ap (λ (z : State). z.place) (sym same.state))
          ]
    ]

pub one_fault : (text : List ℕ) (m n : ℕ) → IsFirstWrong text m → IsFirstWrong text n → m ≡ n
one_fault text m n v w =
    elim (cases_lt m n) [
      | inl lt ↦ absurd (no_more v (passed m w.reached (from_one v.reached) lt))
      | inr le ↦
          elim (cases_lt n m) [
            | inl lt ↦ absurd (no_more w (passed n v.reached (from_one w.reached) lt))
            | inr ge ↦ omega arith
          ]
    ]

pub one_object : (text : List ℕ) (m n : ℕ) (o p : ObjectView) → Reaches text m (record { object = o; place = Ended }) []
    → Reaches text n (record { object = p; place = Ended }) [] → o ≡ p
one_object text m n o p h k =
    elim (cases_lt m n) [
      | inl lt ↦ absurd (at_end h (passed m k (from_one h) lt))
      | inr le ↦
          elim (cases_lt n m) [
            | inl lt ↦ absurd (at_end k (passed n h (from_one k) lt))
            | inr ge ↦ ap (λ (z : State). z.object) (same_reach h k (omega arith)).state
          ]
    ]
