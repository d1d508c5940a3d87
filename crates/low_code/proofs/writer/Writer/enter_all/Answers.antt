use Rattle.std.proofs.Common.{◌∙◌, sym, ap}
use Rattle.low_code.specs.Writer.{body_of, entered_all}
use Rattle.low_code.proofs.Ways.{entered_push}
use Rattle.low_code.proofs.writer.Writer.enter_all.Goals as goal

pub loop-scope-preserved : goal.loop-scope-preserved
loop-scope-preserved c =
    ap (entered_all c.pop.new.self.items) c.in_ok-enter_at.ensures.body
    ∙ sym (entered_push c.pop.new.self.items c.in-Some.scope (body_of c.loop-scope.self))
    ∙ ap (λ ss. entered_all ss (body_of c.loop-scope.self)) (sym c.in-Some.ensures.items)
    ∙ c.loop-scope.invariant
