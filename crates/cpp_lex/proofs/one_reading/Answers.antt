use Rattle.cpp_lex.proofs.Laws.{one_tokens, fault_has_no_tokens, one_fault, tokens_ascending, tokens_typed}
use Rattle.cpp_lex.proofs.one_reading.Goals as goal

pub returns : goal.returns
returns c = record { one = one_tokens; none = fault_has_no_tokens; first = one_fault; ordered = tokens_ascending; typed = tokens_typed }
