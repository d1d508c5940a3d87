use Rattle.std.proofs.Common.{◌≡◌, Option, refl, arith}
use Rattle.own_table.specs.declared.held.HeldWords.{HeldWords}
use Rattle.own_table.specs.Words.{times_in}
use Rattle.own_table.specs.Stripes.{words_in}
use Rattle.own_table.proofs.TableLemmas.{each_get-push}
use Rattle.own_table.proofs.words.no_words.Goals as goal

pub loop-thread-preserved : goal.loop-thread-preserved
loop-thread-preserved c = (
  omega (arith, c.in_ok-push.ensures.len, c.loop-thread.invariant.0),
  rw c.in_ok-push.ensures.items (λ t w. each_get-push (λ (o : Option HeldWords). times_in (words_in o) w ≡ 0) c.loop-thread.all.items c.new.result refl
      (c.new.ensures w) (λ k. c.loop-thread.invariant.1 k w) t),
)
