use Rattle.std.proofs.Common.{◌≡◌, ◌∙◌, Some, sym, ap}
use Rattle.std.specs.Prelude.{slice_get}
use Rattle.src_bind.specs.Infos.{word_of}
use Rattle.src_mean.specs.Source.{plus}
use Rattle.src_frames.specs.Shown.{words_of_func}
use Rattle.src_frames.specs.Bounds.{here_of, frames_of, linked_in}
use Rattle.src_frames.proofs.Steps.{pass_one}
use Rattle.src_frames.proofs.state.State.pass_word.Goals as goal

pub returns : goal.returns
returns c v =
    let b = c.args.bound.now in
    let word : slice_get c.args.words.items c.args.from ≡ Some c.in-Some.word =
    sym (c.in-Some.ensures ∙ ap (λ z. slice_get z c.args.from) c.deref.ensures.value) in
    let step = pass_one (linked_in b) (here_of b c.args.self.now) v c.args.words.items
    (words_of_func ((linked_in b).func c.args.func)) c.args.from c.in-Some.word (word_of c.in-Some-word_place.place)
    (frames_of b c.args.self.now) word c.in-Some-word_place.ensures in
    let addr : c.plus-addr.result ≡ plus (here_of b c.args.self.now).frame c.in-Some-word_place.place.offset = cc in
    rw step (rw addr at c.write.ensures)
