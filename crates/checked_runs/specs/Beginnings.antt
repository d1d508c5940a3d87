-- What has to hold where the threads of a program begin, so that a run of its code is a run of its source.
use Rattle.std.specs.Prelude.{ℕ, ◌≡◌, ◌==◌, ◌≤◌, Bool, true, false, [], ◌∷◌, Some}
use Rattle.tx_code.specs.Objects.{BodyView}
use Rattle.tx_code.specs.Meaning.{Names}
use Rattle.tx_events.specs.Memory.{stack_size}
use Rattle.src_mean.specs.Linked.{Program}
use Rattle.src_mean.specs.Source.{empty_stack, thread_signature}
use Rattle.body_check.specs.Calls.{Book, Begins}

-- main can begin, and so can, under each other number and with each argument, every function that an address finds as one of the type of threads
pub record AllBegin (p : Program) (names : Names) (book : Book) : Type 0 where
  pub main : Begins p names book 0 p.main []
  pub started : (address n : ℕ) → p.pointed address thread_signature ≡ Some n → (id word : ℕ) → (id == 0) ≡ false → Begins p names book id n (word ∷ [])

-- the code has the stacks of its threads where the source has them
pub record SameStacks (names : Names) : Type 0 where
  pub starts : (thread : ℕ) → names.stack_start thread ≡ (empty_stack thread).end
  pub ends : (thread : ℕ) → names.stack_end thread ≡ (empty_stack thread).limit

-- a function can be the first of a thread: it is there, hands back a word or none, takes so many, and its frame is no greater than a stack
pub record CanBegin (names : Names) (book : Book) (n : ℕ) (gives : Bool) (takes : ℕ) : Type 0 where
  pub body : BodyView
  pub there : names.body n false ≡ Some body
  pub gives_so : book.gives n ≡ gives
  pub takes_so : book.takes n ≡ takes
  pub room : names.frame n ≤ stack_size

-- so can main, which hands back a word and takes none, and each function that an address finds as one of the type of threads, which hands back none and takes
-- one
pub record CanStart (p : Program) (names : Names) (book : Book) : Type 0 where
  pub stacks : SameStacks names
  pub main : CanBegin names book p.main true 0
  pub started : (address n : ℕ) → p.pointed address thread_signature ≡ Some n → CanBegin names book n false 1
