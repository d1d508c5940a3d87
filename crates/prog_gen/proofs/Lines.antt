-- Texts that are put together.
use Rattle.std.proofs.Common.{◌≡◌, ◌∙◌, ◌+◌, ◌++◌, ap, sym, ℕ, List, [], append_assoc, add-one}
use Rattle.prog_gen.specs.Program.{lines}

-- the line of one number more
pub lines_more : (line : ℕ → List ℕ) (n : ℕ) (old before new : List ℕ) → before ≡ old ++ lines line n → new ≡ before ++ line n → new ≡ old ++ lines line (n + 1)
lines_more line n old before new e f = f ∙ (ap (λ t. t ++ line n) e ∙
    (append_assoc old (lines line n) (line n) ∙ ap (λ k. old ++ lines line k) (sym (add-one n))))

-- pieces that are written one after the other
pub main_pieces : (old p a b f d g z x1 x2 x3 x4 x5 : List ℕ) → x1 ≡ old ++ p → x2 ≡ x1 ++ a → x3 ≡ x2 ++ b → x4 ≡ x3 ++ (f ++ (d ++ g)) → x5 ≡ x4 ++ z
    → x5 ≡ old ++ (p ++ (a ++ (b ++ (f ++ (d ++ (g ++ z))))))
main_pieces old p a b f d g z x1 x2 x3 x4 x5 e1 e2 e3 e4 e5 = rw (e5, e4, e3, e2, e1) (simp append_assoc)

pub worker_pieces : (old a b z x1 x2 x3 : List ℕ) → x1 ≡ old ++ a → x2 ≡ x1 ++ b → x3 ≡ x2 ++ z → x3 ≡ old ++ (a ++ (b ++ z))
worker_pieces old a b z x1 x2 x3 e1 e2 e3 = rw (e3, e2, e1) (simp append_assoc)

pub program_pieces : (old a b c p x1 x2 x3 x4 : List ℕ) → old ≡ [] → x1 ≡ old ++ a → x2 ≡ x1 ++ b → x3 ≡ x2 ++ c → x4 ≡ x3 ++ p → x4 ≡ a ++ (b ++ (c ++ p))
program_pieces old a b c p x1 x2 x3 x4 e0 e1 e2 e3 e4 = rw (e4, e3, e2, e1, e0) (simp append_assoc)
