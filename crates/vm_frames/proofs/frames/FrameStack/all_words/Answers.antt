use Rattle.std.proofs.Common.{◌∙◌}
use Rattle.vm_frames.proofs.Whole.{all_words_are}
use Rattle.vm_frames.proofs.frames.FrameStack.all_words.Goals as goal

pub returns : goal.returns
returns c = c.all.ensures ∙ all_words_are c.args.self.now.thread _ c.args.self.now.words.base _ _ c.args.self.now.words.items.items _ _ c.args.self.now.nested
