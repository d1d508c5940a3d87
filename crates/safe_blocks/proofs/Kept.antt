-- A test that stays true is true of all states that threads come to.
use Rattle.std.proofs.Common.{◌≡◌, ℕ, Bool, true}
use Rattle.std.specs.Prelude.{ℤ}
use Rattle.src_mean.specs.Linked.{Program}
use Rattle.src_mean.specs.Frames.{State}
use Rattle.src_mean.specs.Source.{begins, main_state}
use Rattle.src_mean.specs.Laws.{StaysSafe}
use Rattle.safe_blocks.specs.UnsafeFree.{Comes, main, begun, goes_on, HidesBlocks}

pub tested : (p : Program) (test : State → Bool) → StaysSafe p test → test (main_state p) ≡ true
    → ((number func : ℕ) (arg : ℤ) → test (begins p number func arg) ≡ true) → (s : State) → Comes p s → test s ≡ true
tested p test k m b _ main = m
tested p test k m b _ (begun number func arg) = b number func arg
tested p test k m b _ (goes_on {s = s} reply c) = k.goes_on s reply (tested p test k m b s c)

pub blocks_hidden : (p : Program) (test : State → Bool) → StaysSafe p test → test (main_state p) ≡ true
    → ((number func : ℕ) (arg : ℤ) → test (begins p number func arg) ≡ true) → HidesBlocks p
blocks_hidden p test k m b = record { hidden = λ s c. k.safe s (tested p test k m b s c) }
