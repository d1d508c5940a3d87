-- What a reader of a form answers, and what it leaves in the builder of trees.
use Rattle.std.specs.Prelude.{◌≡◌, ℕ, ◌+◌, ◌≤◌, Bool, true, false, List, length, Option, Some, None, Result, Ok, Err}
use Rattle.std.specs.declared.alloc.AllocError.{AllocError}
use Rattle.cpp_ast.specs.declared.kinds.NodeKind.{NodeKind}
use Rattle.cpp_ast.specs.Trees.{Trees, none, more}
use Rattle.cpp_syntax.specs.Source.{Source, position_at}
use Rattle.cpp_syntax.specs.Rules.{Nonterminal, Rule, form}
use Rattle.cpp_syntax.specs.Derivations.{Read, no_read, reads_node, kept_apart}
use Rattle.cpp_syntax.specs.Lookahead.{lookahead}
use Rattle.cpp_syntax.specs.Longest.{LongestMatch, NoDerivation}
use Rattle.cpp_syntax.specs.declared.positions.Checkpoint.{Checkpoint}
use Rattle.cpp_syntax.specs.View.{BuilderState, appended, IsMark}

-- something was read behind what was there
pub record Leaves (old new : BuilderState) : Type 0 where
  pub extra : Read
  pub gained : new ≡ appended old extra

-- The longest text of a rule was read, from one index to another, with its marked token.
pub record ReadsLongest (source : Source) (p : Rule) (from next : ℕ) (k : Option ℕ) (old new : BuilderState) : Type 0 where
  pub got : Read
  pub long : LongestMatch (lookahead source) kept_apart source p no_read from next k got
  pub gained : new ≡ appended old got
  pub ahead : from ≤ next
  pub inside : next ≤ length source.terminals

abbrev pub ReadsForm : Source → Nonterminal → ℕ → ℕ → BuilderState → BuilderState → Type 0
ReadsForm source f from next old new = ReadsLongest source (form f) from next None old new

abbrev pub NoneOf : Source → Rule → ℕ → Type 0
NoneOf source p from = NoDerivation (lookahead source) kept_apart source p no_read from

-- What a reader of a rule answers: the index behind the longest text, or that there is none.
abbrev pub ParsesLongest : Source → Rule → ℕ → Option ℕ → BuilderState → BuilderState → Result (Option ℕ) AllocError → Type 0
ParsesLongest source p from k old new (Ok (Some next)) = ReadsLongest source p from next k old new
ParsesLongest source p from k old new (Ok None) = Leaves old new × NoneOf source p from
ParsesLongest source p from k old new (Err e) = Leaves old new

abbrev pub ParsesForm : Source → Nonterminal → ℕ → BuilderState → BuilderState → Result (Option ℕ) AllocError → Type 0
ParsesForm source f from old new result = ParsesLongest source (form f) from None old new result

-- Of a rule that has a text everywhere.
abbrev pub ParsesAlways : Source → Rule → ℕ → Option ℕ → BuilderState → BuilderState → Result ℕ AllocError → Type 0
ParsesAlways source p from k old new (Ok next) = ReadsLongest source p from next k old new
ParsesAlways source p from k old new (Err e) = Leaves old new

-- The longest text of a rule was read behind what was read before, of which it may make nodes.
pub record ReadsBehind (source : Source) (p : Rule) (before : BuilderState) (read : Read) (from next : ℕ) (new : BuilderState) : Type 0 where
  pub marked : Option ℕ
  pub got : Read
  pub long : LongestMatch (lookahead source) kept_apart source p read from next marked got
  pub gained : new ≡ appended before got
  pub ahead : from ≤ next
  pub inside : next ≤ length source.terminals

-- there are some trees
abbrev pub has_trees : Trees → Bool
has_trees none = false
has_trees (more t ts) = true

-- What a reader of such a rule answers, that has a text everywhere: what was read since a mark, of which there are some
-- trees, is part of it.
abbrev pub ParsesAlwaysBehind : Source → Rule → Checkpoint → ℕ → BuilderState → BuilderState → Result ℕ AllocError → Type 0
ParsesAlwaysBehind source p mark from old new (Ok next) =
    (before : BuilderState) (read : Read) → IsMark mark before → old ≡ appended before read → has_trees read.trees ≡ true → ReadsBehind source p
    before read from next new
ParsesAlwaysBehind source p mark from old new (Err e) =
    (before : BuilderState) (read : Read) → IsMark mark before → old ≡ appended before read → has_trees read.trees ≡ true → Leaves before new

-- A node that is one token was read.
abbrev pub ReadsLeaf : Source → ℕ → NodeKind → BuilderState → BuilderState → Result ℕ AllocError → Type 0
ReadsLeaf source at kind old new (Ok next) = (next ≡ at + 1) × (new ≡ appended old (reads_node kind (position_at source at) (Some at) no_read))
ReadsLeaf source at kind old new (Err e) = new ≡ old
