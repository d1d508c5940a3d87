use Rattle.std.proofs.Common.{IsTrue, false}
use Rattle.cpp_lex.proofs.LineStarts.{no_hash_line}
use Rattle.cpp_lex.proofs.skipped.hash_line_end.Goals as goal

pub returns-else-is_marker : goal.returns-else-is_marker
returns-else-is_marker c = no_hash_line c.args.text.now c.args.from c.run_end-marker_at.result c.run_end-marker_at.ensures.run
    (λ m. let no_marker : IsTrue false = c.if-is_marker.ensures.1 m in cc)
