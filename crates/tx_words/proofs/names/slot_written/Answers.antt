use Rattle.std.proofs.Common.{◌≡◌, ◌∙◌, ℕ, List, Option, Some, None, Result, Ok, MatchOption, ap, sym, arith, get_or}
use Rattle.std.specs.Prelude.{◌≢◌}
use Rattle.std.specs.Fmt.{decimal}
use Rattle.std.specs.Str.Parse.{ParsesUnsigned}
use Rattle.tx_words.specs.Names.{IsSlot}
use Rattle.tx_words.proofs.Slots.{written, is_read, begins}
use Rattle.tx_words.proofs.names.slot_written.Goals as goal
use Rattle.tx_words.proofs.names.slot_written.Goals.{then-first-eq43-via-then-first-eq43, then-first-eq43-via-else-first-eq43+then-first-eq48}

pub returns-then-first-eq43 : goal.returns-then-first-eq43
returns-then-first-eq43 c n slot e =
    let far = begins c.args.digits.now n (omega arith) (omega arith) e in
    elim c.then-first-eq43.branch [
      | then-first-eq43-via-then-first-eq43 w ↦ absurd
          (omega arith)
      | then-first-eq43-via-else-first-eq43+then-first-eq48 w ↦ absurd (omega arith)
    ]

bounds : {E : Type 0} (ds : List ℕ) (s : ℕ) (r : Result ℕ E) (o : Option ℕ) → ParsesUnsigned 32 10 ds r → r ≡ Ok s → get_or ds 0 0 ≢ 43 → get_or ds 0 0 ≢ 48
    → MatchOption o (IsSlot s → ⊥) (λ n. (n ≡ s) × IsSlot s) → MatchOption o ((n : ℕ) → IsSlot n → ds ≡ decimal n → ⊥) (λ n. (ds ≡ decimal n) × IsSlot n)
bounds ds s r None p e plus zero h = λ n slot is. let same = is_read ds n r p (omega arith) is in let again : n ≡ s = cc in h (rw (← again) slot)
bounds ds s r (Some n) p e plus zero h = (written ds s r p e plus zero ∙ ap decimal (sym h.0), rw h.0 h.1)

pub returns-in-Ok : goal.returns-in-Ok
returns-in-Ok c = bounds c.args.digits.now c.in-Ok.slot c.parse.result c.bounded.result c.parse.ensures.value.0 c.in-Ok.is
    (λ e. c.if-first-eq43.false (c.first_byte-first.ensures ∙ e)) (λ e. c.if-first-eq48.false (c.first_byte-first.ensures ∙ e)) c.bounded.ensures

pub returns-in-Err : goal.returns-in-Err
returns-in-Err c n slot e = let r = is_read c.args.digits.now n c.parse.result c.parse.ensures.value.0 (omega arith) e in cc
