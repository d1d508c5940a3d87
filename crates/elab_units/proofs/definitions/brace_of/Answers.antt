use Rattle.std.proofs.Common.{◌∙◌, Option, ap, sym, ℕ}
use Rattle.elab_entry.specs.cpp_ast.Trees.{node}
use Rattle.elab_entry.specs.elab_rules.Units.{brace_of}
use Rattle.elab_entry.specs.elab_types.Syntax.{syntax_of, trees_at}
use Rattle.elab_units.proofs.definitions.brace_of.Goals as goal

pub returns-in-Some : goal.returns-in-Some
returns-in-Some c = sym (ap brace_of c.node_at.ensures.node ∙ ap
    (λ (z : Option ℕ). brace_of (node c.node_at.result.now.kind c.node_at.result.now.at z
    (trees_at (syntax_of c.args.nodes.now) c.node_at.result.now.kids.items))) c.in-Some.is)

pub returns-in-None : goal.returns-in-None
returns-in-None c = sym (ap brace_of c.node_at.ensures.node ∙ ap
    (λ (z : Option ℕ). brace_of (node c.node_at.result.now.kind c.node_at.result.now.at z
    (trees_at (syntax_of c.args.nodes.now) c.node_at.result.now.kids.items))) c.in-None.is)
