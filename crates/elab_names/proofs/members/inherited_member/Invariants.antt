use Rattle.std.proofs.Common.{◌≡◌, ℕ, ◌+◌}
use Rattle.elab_conv.specs.cpp_types.Class.{classes_of}
use Rattle.elab_conv.specs.cpp_types.Conversion.{chain}
use Rattle.elab_conv.specs.elab_ctx.Ctx.{ctx_of}
use Rattle.elab_conv.specs.elab_rules.Names.{found_along}
use Rattle.elab_names.proofs.members.inherited_member.Given as goal

-- `k` more bases may be looked at
abbrev pub invariant-loop-passed : goal.invariant-loop-passed
invariant-loop-passed l = (k : ℕ) → l._passed + k ≡ l.most
    → found_along (ctx_of l.env) l.name (chain l.most (classes_of l.env.classes.items) l.fn.class)
    ≡ found_along (ctx_of l.env) l.name (chain k (classes_of l.env.classes.items) l.below)
