use Rattle.std.proofs.Common.{ℕ, zero, suc, ◌≡◌, get_or, refl, replicate}
use Rattle.src_replay.proofs.turns.Ahead.new.Goals as goal

zeros : (n k : ℕ) → ◌≡◌ {A = ℕ} (get_or (replicate n 0) k 0) 0
zeros zero k = refl
zeros (suc n) zero = refl
zeros (suc n) (suc k) = zeros n k

pub returns : goal.returns
returns c k = zeros 256 k
