use Rattle.std.proofs.Common.{◌≡◌, take, refl, ap, sym, ◌∙◌, arith}
use Rattle.tx_memory.specs.View.{words_of}
use Rattle.undo_log.specs.Notes.{put_back}
use Rattle.undo_log.proofs.NoteLists.{put_back_step}
use Rattle.undo_log.proofs.notes.put_all_back.Goals as goal

pub loop-left-preserved : goal.loop-left-preserved
loop-left-preserved c = (
  omega (arith, c.loop-left.invariant.0),
  c.put_word.ensures.layout ∙ c.loop-left.invariant.1,
  put_back_step c.args.notes.now c.loop-left.left _ _ (words_of c.loop-left.memory)
      (words_of c.put_word.new.memory) c.loop-left-test.true c.loop-left.invariant.0 refl c.put_word.ensures.words ∙ c.loop-left.invariant.2,
)

pub returns-clause-words : goal.returns-clause-words
returns-clause-words c =
    let none : c.loop-left.left ≡ 0 = omega (arith, c.loop-left-test.false) in
    ap (λ n. put_back (take n c.args.notes.now) (words_of c.loop-left.memory)) (sym none) ∙ c.loop-left.invariant.2
