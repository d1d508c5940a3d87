use Rattle.std.proofs.Common.{◌≡◌, ℕ, ◌+◌}
use Rattle.cpp_tree.specs.cpp_types.declared.classes.At.{At}
use Rattle.low_code.specs.declared.scopes.ScopeKind.{ScopeKind}
use Rattle.low_code.specs.Writer.{body_of, entered_all, temporary_in}
use Rattle.low_code.proofs.writer.Writer.inner_scopes.Given as goal

-- `k` more scopes may be looked at
abbrev pub invariant-loop : goal.invariant-loop
invariant-loop l = (k : ℕ) → l.counter + k ≡ l.most → (kind : ScopeKind) (at : At)
    → temporary_in l.most l.self.scope kind at (body_of l.self) ≡ entered_all l.inner.items (temporary_in k l.number kind at (body_of l.self))
