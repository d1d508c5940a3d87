use Rattle.std.proofs.Common.{sym, ◌∙◌, [], ◌∷◌}
use Rattle.tx_code.specs.Meaning as meaning
use Rattle.vm_frames.specs.FrameStacks.{top_of, rest_of}
use Rattle.vm_thread.proofs.Operands.{one_is}
use Rattle.vm_frames.proofs.Below.{returns_word}
use Rattle.vm_thread.proofs.deciding.ret_word.Goals as goal

pub returns-else-is_outermost : goal.returns-else-is_outermost
returns-else-is_outermost c =
    let m = returns_word (top_of c.args.frames.now) (rest_of c.args.frames.now) (top_of c.args.frames.now).home c.in-Some.word
    (sym c.if-is_outermost.ensures) in
    record {
      is = m.is ∙ sym (one_is _ _ (λ w ws. meaning.back_act (top_of c.args.frames.now).home (w ∷ []) (rest_of c.args.frames.now)) c.in-Some.ensures);
      fits = m.fits;
    }
