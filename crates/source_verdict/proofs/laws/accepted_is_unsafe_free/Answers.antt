use Rattle.std.proofs.Common.{ℕ, List}
use Rattle.cpp_tree.specs.declared.program.Program.{Program}
use Rattle.cpp_tree.specs.Units.{program_of}
use Rattle.elab_well_formed.proofs.Words.{programs_have_call_words}
use Rattle.safe_blocks.specs.UnsafeFree.{IsUnmarked}
use Rattle.safe_blocks.proofs.Theorem.{unsafe_free}
use Rattle.source_verdict.specs.Verdict.{Accepts}
use Rattle.source_verdict.proofs.Unmarked.{unmarked}
use Rattle.source_verdict.proofs.laws.accepted_is_unsafe_free.Goals as goal

unmarked_of : (texts : List (List ℕ)) (p : Program) → Accepts texts p → IsUnmarked (program_of p)
unmarked_of texts p a = unmarked programs_have_call_words texts (program_of p) a.elaborated a.safe a.offsets

pub returns : goal.returns
returns c = record {
  hides = λ texts p symbol entry a l. (unsafe_free p).free symbol entry a.well_formed a.safe l (unmarked_of texts p a);
  enters = λ texts p symbol entry a l. (unsafe_free p).enters symbol entry a.well_formed a.safe l (unmarked_of texts p a);
}
