use Rattle.std.proofs.Common.{arith, ◌≡◌, ℕ, ◌<◌, ◌+◌, List, length, drop, ap, sym, ◌∙◌, add-one, drop-cons}
use Rattle.tx_events.specs.World.{input_after}
use Rattle.tx_runtime.proofs.input.Input.advance.Goals as goal

one_less : (xs : List ℕ) (n : ℕ) → n < length xs → drop (n + 1) xs ≡ input_after (drop n xs)
one_less xs n h = ap (λ k. drop k xs) (add-one n) ∙ ap input_after (sym (drop-cons xs n 0 h))

pub returns-then-self-len : goal.returns-then-self-len
returns-then-self-len c = one_less c.args.self.now.bytes.items c.args.self.now.taken (omega (arith, c.if-self-len.true, c.len.ensures))
