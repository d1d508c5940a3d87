-- A list of events that keeps the laws is a lawful thread.
use Rattle.std.specs.Prelude.{ℕ, ℤ, zero, suc, ◌≡◌, ◌≤◌, ◌+◌, Bool, true, false, cond, nat_lt, ◌&&◌, List, [], ◌∷◌, length, refl}
use Rattle.std.proofs.Common.{sym, ap, ◌∙◌, subst, add-one, arith}
use Rattle.std.proofs.lemmas.Bool.{ltb-false, false≢true}
use Rattle.tx_events.specs.declared.Event.{Event}
use Rattle.tx_events.specs.declared.Event.TheVariants.{Silent, Spawn}
use Rattle.tx_events.specs.Thread.{Open, blocks_after, may_come, is_empty, Lawful}
use Rattle.tx_events.specs.Script.{Cursor, event_at, open_at, keeps, starts_free, all_start_free, next_at, script, IsLawful}

left : (b c : Bool) → (b && c) ≡ true → b ≡ true
left true c h = refl
left false c h = absurd (false≢true h)

right : (b c : Bool) → (b && c) ≡ true → c ≡ true
right true c h = h
right false c h = absurd (false≢true h)

comes_at : (es : List Event) (n : ℕ) (bs : List Open) → keeps es bs ≡ true → may_come (event_at es n) (open_at es n bs) ≡ true
comes_at [] zero bs h = refl
comes_at [] (suc n) bs h = refl
comes_at (e ∷ es) zero bs h = left (may_come e bs) (keeps es (blocks_after e bs)) h
comes_at (e ∷ es) (suc n) bs h = comes_at es n (blocks_after e bs) (right (may_come e bs) (keeps es (blocks_after e bs)) h)

opens : (es : List Event) (n : ℕ) (bs : List Open) → open_at es (suc n) bs ≡ blocks_after (event_at es n) (open_at es n bs)
opens [] zero bs = refl
opens [] (suc n) bs = refl
opens (e ∷ es) zero bs = at_zero es (blocks_after e bs)
  where
    at_zero : (es : List Event) (bs : List Open) → open_at es zero bs ≡ bs
    at_zero [] bs = refl
    at_zero (e ∷ es) bs = refl
opens (e ∷ es) (suc n) bs = opens es n (blocks_after e bs)

past_end : (es : List Event) (n : ℕ) → length es ≤ n → event_at es n ≡ Silent
past_end [] zero h = refl
past_end [] (suc n) h = refl
past_end (e ∷ es) zero h = absurd (omega (arith, h))
past_end (e ∷ es) (suc n) h = past_end es n (omega (arith, h))

opens_after : (es : List Event) (n : ℕ) → open_at es (next_at es n) [] ≡ blocks_after (event_at es n) (open_at es n [])
opens_after es n = elim (nat_lt n (length es)) as (λ b. nat_lt n (length es) ≡ b → open_at es (cond b (n + 1) n) [] ≡ blocks_after (event_at es n)
    (open_at es n [])) [
      | true ↦ λ e. ap (λ k. open_at es k []) (add-one n) ∙ opens es n []
      | false ↦ λ e. ap (λ v. blocks_after v (open_at es n [])) (sym (past_end es n (ltb-false n (length es) e)))
    ] refl

spawned : (all es : List Event) (n func : ℕ) (arg : ℤ) → all_start_free all es ≡ true → event_at es n ≡ Spawn func arg → is_empty (open_at all func []) ≡ true
spawned all [] zero func arg h e = absurd (cc)
spawned all [] (suc n) func arg h e = absurd (cc)
spawned all (x ∷ es) zero func arg h e = subst (λ v. starts_free all v ≡ true) e (left (starts_free all x) (all_start_free all es) h)
spawned all (x ∷ es) (suc n) func arg h e = spawned all es n func arg (right (starts_free all x) (all_start_free all es) h) e

empty_is : (bs : List Open) → is_empty bs ≡ true → bs ≡ []
empty_is [] h = refl
empty_is (b ∷ bs) h = absurd (false≢true h)

pub script_laws : Lawful Cursor IsLawful script
script_laws = record {
  goes_on = λ s reply k a. k;
  starts = λ s number func arg k e. k;
  starts_free = λ s number func arg k e. empty_is (open_at s.events func [])
      (spawned s.events s.events s.at func arg (right (keeps s.events []) (all_start_free s.events s.events) k) e);
  comes = λ s k. comes_at s.events s.at [] (left (keeps s.events []) (all_start_free s.events s.events) k);
  blocks = λ s reply k a. opens_after s.events s.at;
}
