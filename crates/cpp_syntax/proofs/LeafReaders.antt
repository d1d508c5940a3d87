-- What readers of one token answer.
use Rattle.std.proofs.Common.{◌≡◌, ℕ, ◌+◌, ◌<◌, ◌≤◌, Bool, true, false, refl, sym as back, ◌∙◌, arith, subst, List, length, Option, Some, None, Result, Ok, Err}
use Rattle.std.specs.declared.alloc.AllocError.{AllocError}
use Rattle.cpp_ast.specs.declared.kinds.NodeKind.{NodeKind}
use Rattle.cpp_syntax.specs.declared.terminal.Terminal.{Terminal}
use Rattle.cpp_syntax.specs.Source.{Source, terminal_at}
use Rattle.cpp_syntax.specs.Rules.{Rule, mark, optional}
use Rattle.cpp_syntax.specs.Grammar.{leaf}
use Rattle.cpp_syntax.specs.FirstSets.{rule_nullable}
use Rattle.cpp_syntax.specs.View.{BuilderState}
use Rattle.cpp_syntax.specs.Parsed.{ReadsLongest, ReadsLeaf, ParsesAlways}
use Rattle.cpp_syntax.proofs.Readers.{leaves_same, reads_leaf, reads_taken}

-- a node was read that is one token
pub always_leaf : (s : Source) (kind : NodeKind) (test : Terminal → Bool) (a : ℕ) (v w : BuilderState) (r : Result ℕ AllocError)
    → test (terminal_at s a) ≡ true → a < length s.terminals → ReadsLeaf s a kind v w r → ParsesAlways s (leaf kind test) a None v w r
always_leaf s kind test a v w (Ok next) t i h = subst (λ (n : ℕ). ReadsLongest s (leaf kind test) a n None v w) (back h.0) (reads_leaf t i h.1)
always_leaf s kind test a v w (Err e) t i h = leaves_same h

-- what is read always may be left out too
pub always_taken : (s : Source) (p : Rule) (a : ℕ) (k : Option ℕ) (v w : BuilderState) (r : Result ℕ AllocError) → rule_nullable p ≡ false
    → ParsesAlways s p a k v w r → ParsesAlways s (optional p) a k v w r
always_taken s p a k v w (Ok next) e h = reads_taken h e
always_taken s p a k v w (Err x) e h = h
