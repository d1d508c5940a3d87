-- What symbolic steps rest on.
use Rattle.std.specs.Prelude.{◌≡◌, ◌<◌, ℕ, ◌^◌, Bool, true, false, List, Some}
use Rattle.cpp_tree.specs.cpp_layout.Layout.{function_address}
use Rattle.cpp_tree.specs.Trees.{Tree, typ_in}
use Rattle.cpp_tree.specs.tx_events.Simulation.{Path}
use Rattle.src_mean.specs.Linked.{Func, Program}
use Rattle.src_mean.specs.Exceptions.{catches}
use Rattle.src_mean.specs.Frames.{State}
use Rattle.src_mean.specs.Frames as frames
use Rattle.src_mean.specs.Source.{source}
use Rattle.symbolic_source.specs.Terms.{Values}
use Rattle.symbolic_source.specs.Steps.{Answers, advanced}
use Rattle.symbolic_source.specs.Outcomes.{Outcome, stuck, Shows}

-- addresses are words
pub record IsSmall (p : Program) : Type 0 where
  pub globals : (unit n : ℕ) → p.global unit n < 2 ^ 64
  pub functions : (unit n : ℕ) → function_address (p.number unit n) < 2 ^ 64
  pub tables : (c : ℕ) → p.table c < 2 ^ 64
  pub slots : (a c s n : ℕ) → p.slot a c s ≡ Some n → function_address n < 2 ^ 64

-- what variables stand for are words
abbrev pub AreWords : Values → Type 0
AreWords x = (n : ℕ) → x.word n < 2 ^ 64

-- the answers on unknown exceptions are those of the program
abbrev pub AreRight : Program → Values → Answers → Type 0
AreRight p x answers = (n : ℕ) (handler : Tree) (answer : Bool) → answers n handler ≡ Some answer
    → catches p.classes (typ_in handler) (x.exception n).typ ≡ answer

abbrev pub is_stuck : Outcome → Bool
is_stuck stuck = true
is_stuck o = false

-- so many silent steps lead to what is foreseen
pub record Advanced (p : Program) (f : Func) (x : Values) (answers : Answers) (rest : List frames.Frame) (n : ℕ) (o : Outcome) (s : State) : Type 0 where
  pub to : State
  pub steps : ℕ
  pub long : steps ≡ n
  pub path : Path (source p) steps s to
  pub shows : Shows p f x rest (advanced p f answers n o) to
