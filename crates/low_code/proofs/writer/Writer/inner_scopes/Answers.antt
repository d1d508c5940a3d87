use Rattle.std.proofs.Common.{◌≡◌, ◌∙◌, ℕ, suc, ◌+◌, ◌-◌, length, sym, ap, arith}
use Rattle.low_code.specs.Writer.{body_of, entered_all, temporary_in}
use Rattle.low_code.proofs.Ways.{entered_push, temporary_next, temporary_here}
use Rattle.low_code.proofs.writer.Writer.inner_scopes.Goals as goal

pub returns-then-is_full : goal.returns-then-is_full
returns-then-is_full c kind at =
    let b = body_of c.args.self.now in
    let k : ℕ = c.len-most.result - (c.loop.counter + 1) in
    let h : c.loop.counter + suc k ≡ c.len-most.result = omega arith in
    let all : c.len-most.result ≡ length c.args.self.now.scopes.items = c.len-most.ensures ∙ c.args.self.now.scopes.ok.0 in
    ap (λ n. temporary_in n b.scope kind at b) (sym all) ∙ c.loop.invariant (suc k) h kind at
    ∙ ap (entered_all c.loop.inner.items)
    (temporary_here k c.loop.number kind at b c.in_ok-scope.scope c.in_ok-scope.ensures.is (sym c.is_full.ensures ∙ c.if-is_full.true))

pub loop-preserved : goal.loop-preserved
loop-preserved c k e kind at =
    let b = body_of c.args.self.now in
    let h : c.loop.counter + suc k ≡ c.len-most.result = omega arith in
    c.loop.invariant (suc k) h kind at
    ∙ ap (entered_all c.loop.inner.items)
    (temporary_next k c.loop.number kind at b c.in_ok-scope.scope c.in_ok-scope.ensures.is (sym c.is_full.ensures ∙ c.if-is_full.false))
    ∙ sym (entered_push c.loop.inner.items c.in_ok-scope.scope (temporary_in k c.in_ok-scope.scope.parent kind at b))
    ∙ ap (λ ss. entered_all ss (temporary_in k c.in_ok-scope.scope.parent kind at b)) (sym c.in_ok-push.ensures.items)
