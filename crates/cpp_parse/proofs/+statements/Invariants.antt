-- Each nested statement has less depth left.
use Rattle.std.proofs.Common.{◌+◌, ◌-◌, ◌*◌, length}
use Rattle.cpp_syntax.specs.Rules.{form, statement, handler}
use Rattle.cpp_syntax.specs.Derivations.{no_read}
use Rattle.cpp_syntax.proofs.ReaderLoops.{ReadsChain, ReadsMany}
use Rattle.cpp_parse.proofs.+statements.Given as goal

abbrev pub decreases-statements::statement : goal.decreases-statements::statement
decreases-statements::statement l = l.depth_left * 16 + 10

abbrev pub decreases-statements::compound_statement : goal.decreases-statements::compound_statement
decreases-statements::compound_statement l = l.depth_left * 16 + 4

abbrev pub decreases-statements::if_statement : goal.decreases-statements::if_statement
decreases-statements::if_statement l = l.depth_left * 16 + 9

abbrev pub decreases-statements::switch_statement : goal.decreases-statements::switch_statement
decreases-statements::switch_statement l = l.depth_left * 16 + 9

abbrev pub decreases-statements::case_statement : goal.decreases-statements::case_statement
decreases-statements::case_statement l = l.depth_left * 16 + 9

abbrev pub decreases-statements::default_statement : goal.decreases-statements::default_statement
decreases-statements::default_statement l = l.depth_left * 16 + 9

abbrev pub decreases-statements::labelled_statement : goal.decreases-statements::labelled_statement
decreases-statements::labelled_statement l = l.depth_left * 16 + 11

abbrev pub decreases-loops::while_statement : goal.decreases-loops::while_statement
decreases-loops::while_statement l = l.depth_left * 16 + 9

abbrev pub decreases-loops::do_statement : goal.decreases-loops::do_statement
decreases-loops::do_statement l = l.depth_left * 16 + 9

abbrev pub decreases-loops::for_statement : goal.decreases-loops::for_statement
decreases-loops::for_statement l = l.depth_left * 16 + 9

abbrev pub decreases-loops::for_rest : goal.decreases-loops::for_rest
decreases-loops::for_rest l = l.depth_left * 16 + 11

abbrev pub decreases-blocks::marked_block : goal.decreases-blocks::marked_block
decreases-blocks::marked_block l = l.depth_left * 16 + 9

abbrev pub decreases-blocks::try_block : goal.decreases-blocks::try_block
decreases-blocks::try_block l = l.depth_left * 16 + 9

abbrev pub decreases-blocks::handlers : goal.decreases-blocks::handlers
decreases-blocks::handlers l = l.depth_left * 16 + 6

abbrev pub decreases-blocks::handler : goal.decreases-blocks::handler
decreases-blocks::handler l = l.depth_left * 16 + 5

abbrev pub invariant-statements::compound_statement-statements : goal.invariant-statements::compound_statement-statements
invariant-statements::compound_statement-statements l = ReadsMany l.text (form statement) l.fn.out no_read (l.at + 1) l.next l.out

abbrev pub decreases-statements::compound_statement-statements : goal.decreases-statements::compound_statement-statements
decreases-statements::compound_statement-statements l = length l.text.terminals - l.next

abbrev pub invariant-blocks::handlers-handlers : goal.invariant-blocks::handlers-handlers
invariant-blocks::handlers-handlers l = ReadsChain l.text (form handler) (form handler) l.at l.next l.fn.out l.out

abbrev pub decreases-blocks::handlers-handlers : goal.decreases-blocks::handlers-handlers
decreases-blocks::handlers-handlers l = length l.text.terminals - l.next
