use Rattle.std.proofs.Common.{◌-◌, length}
use Rattle.cpp_syntax.specs.Terminals.{comma}
use Rattle.cpp_syntax.specs.Rules.{◌·◌, form, word, init_declarator}
use Rattle.cpp_syntax.specs.Names.{naming_of}
use Rattle.cpp_syntax.proofs.ReaderLoops.{ReadsChain}
use Rattle.cpp_parse.proofs.initializers.init_declarators.Given as goal

abbrev pub invariant-items : goal.invariant-items
invariant-items l =
    ReadsChain l.text (form (init_declarator (naming_of l.naming))) (word comma · form (init_declarator (naming_of l.naming))) l.at l.next l.fn.out
    l.out

abbrev pub decreases-items : goal.decreases-items
decreases-items l = length l.text.terminals - l.next
