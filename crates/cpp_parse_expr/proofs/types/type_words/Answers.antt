use Rattle.std.proofs.Common.{ℕ, Option, None, refl, ap, arith}
use Rattle.cpp_syntax.specs.Terminals.{is_type_word}
use Rattle.cpp_syntax.specs.Derivations.{first_or}
use Rattle.cpp_ast.specs.declared.kinds.NodeKind.TheVariants.{SimpleTypeSpecifier}
use Rattle.cpp_syntax.specs.Grammar.{leaf}
use Rattle.cpp_syntax.specs.Parsed.{ReadsLongest}
use Rattle.cpp_syntax.proofs.Readers.{leaves_same}
use Rattle.cpp_syntax.proofs.ReaderLoops.{within, loop_begins, loop_more}
use Rattle.cpp_parse_expr.proofs.ReaderAnswers.{always_err, leaf_there}
use Rattle.cpp_parse_expr.proofs.TypeWordReaders.{reads_words}
use Rattle.cpp_parse_expr.proofs.types.type_words.Goals as goal

pub returns-in_err-next : goal.returns-in_err-next
returns-in_err-next c = always_err _ _ _ _ c.from_residual.result c.from_residual.ensures.0 (leaves_same c.in_err-next.ensures)

pub words-init : goal.words-init
words-init c =
    let x : ReadsLongest c.args.text.now (leaf SimpleTypeSpecifier is_type_word) c.args.at c.in_ok-next.next None c.args.out.now c.leaf.new.out =
    leaf_there c.requires.begins (within c.args.text.now c.args.at is_type_word refl c.requires.begins) c.in_ok-next.ensures in
    let more = (c.behind_type_words-end.ensures).begins c.requires.begins in
    let step = c.in_ok-next.ensures.0 in
    (loop_begins x refl, refl, omega (arith, more, step))

pub words-preserved : goal.words-preserved
words-preserved c =
    let w = c.behind_type_words-end.ensures in
    let here = c.words.invariant.0 in
    let t = w.words c.words.next here.ahead (omega arith) in
    let step = c.in_ok-next-2.ensures.0 in (
      loop_more here (leaf_there t (within c.args.text.now c.words.next is_type_word refl t) c.in_ok-next-2.ensures) refl refl refl,
      ap
          (λ (k : Option ℕ). first_or k None) c.words.invariant.1,
      omega (arith, step),
    )

pub returns : goal.returns
returns c =
    let le = c.words.invariant.2 in
    reads_words c.behind_type_words-end.ensures c.words.invariant.0 c.words.invariant.1 (omega (arith, le))
    ((c.behind_type_words-end.ensures).begins c.requires.begins)
