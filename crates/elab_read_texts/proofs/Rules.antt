-- Tests on rules of the grammar: what they mark are tokens, and a `try` has a handler.
use Rattle.std.specs.Prelude.{ℕ, ◌+◌, Bool, true, false, not, ◌&&◌, nat_le, if◌then◌else◌}
use Rattle.cpp_ast.specs.declared.kinds.NodeKind.{NodeKind}
use Rattle.cpp_ast.specs.declared.kinds.NodeKind.TheVariants as k
use Rattle.cpp_syntax.specs.declared.terminal.Terminal.TheVariants as terminal
use Rattle.cpp_syntax.specs.Rules.{Nonterminal, compound_statement, handler, Rule, nothing, word, mark, mark_next, mark_name, ◌·◌, ◌∣◌, many, form}
use Rattle.cpp_syntax.specs.Rules.{node_at, wrap, with_body, where_, before_no, if_, unless}
use Rattle.cpp_syntax.specs.FirstSets.{rule_nullable}

abbrev pub marks_next : Rule → Bool
marks_next mark_next = true
marks_next _ = false

-- the rule keeps the trees that were read before
abbrev pub keeps : Rule → Bool
keeps (p · q) = keeps p && keeps q
keeps (p ∣ q) = keeps p && keeps q
keeps (many p) = keeps p
keeps (wrap kind p) = false
keeps (where_ test p) = keeps p
keeps (before_no test p) = keeps p
keeps (if_ look p) = keeps p
keeps (unless look p) = keeps p
keeps _ = true

-- how many trees it adds at least
abbrev pub form_adds : Nonterminal → ℕ
form_adds compound_statement = 1
form_adds handler = 1
form_adds _ = 0

abbrev pub adds : Rule → ℕ
adds (p · q) = adds p + adds q
adds (form f) = form_adds f
adds _ = 0

abbrev pub is_try : NodeKind → Bool
is_try k.TryBlock = true
is_try _ = false

-- a `try` has two kids at least
abbrev pub is_tried : NodeKind → Rule → Bool
is_tried kind p = if is_try kind then keeps p && nat_le 2 (adds p) else true

-- what a rule marks is a token: where it marks the next one, it reads that, and no token that it reads is the end
abbrev pub reads_well : Rule → Bool
reads_well nothing = true
reads_well (word test) = not (test terminal.End)
reads_well (mark test) = not (test terminal.End)
reads_well mark_next = false
reads_well mark_name = true
reads_well (p · q) = (if marks_next p then not (rule_nullable q) else reads_well p) && reads_well q
reads_well (p ∣ q) = reads_well p && reads_well q
reads_well (many p) = reads_well p
reads_well (form f) = true
reads_well (node_at positioning kind p) = is_tried kind p && reads_well p
reads_well (wrap kind p) = not (is_try kind) && reads_well p
reads_well (with_body kind p) = not (is_try kind) && reads_well p
reads_well (where_ test p) = reads_well p
reads_well (before_no test p) = reads_well p
reads_well (if_ look p) = reads_well p
reads_well (unless look p) = reads_well p
