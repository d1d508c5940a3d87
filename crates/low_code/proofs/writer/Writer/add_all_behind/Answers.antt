use Rattle.std.proofs.Common.{◌≡◌, ◌∙◌, ℕ, zero, suc, ◌+◌, ◌-◌, length, sym, ap, arith}
use Rattle.low_code.specs.Writer.{body_of, behind_from}
use Rattle.low_code.proofs.Ways.{behind_step, behind_done}
use Rattle.low_code.proofs.writer.Writer.add_all_behind.Goals as goal

pub returns-then-edge-eq0 : goal.returns-then-edge-eq0
returns-then-edge-eq0 c =
    let k : ℕ = c.len-most.result - c.loop.counter in
    let h : c.loop.counter + k ≡ c.len-most.result = omega arith in
    let all : c.len-most.result ≡ length c.args.self.now.scopes.items = c.len-most.ensures ∙ c.args.self.now.scopes.ok.0 in
    sym (c.loop.invariant k h ∙ behind_done k c.loop.edge c.loop.last c.args.at (body_of c.loop.self) c.if-edge-eq0.true)
    ∙ ap (λ n. behind_from n c.args.first 0 c.args.at (body_of c.args.self.now)) all

pub loop-preserved : goal.loop-preserved
loop-preserved c k e =
    let h : c.loop.counter + suc k ≡ c.len-most.result = omega arith in
    c.loop.invariant (suc k) h
    ∙ behind_step k c.loop.edge c.loop.last c.in_ok-outer.outer c.in_ok-last.last c.args.at (body_of c.loop.self) (body_of c.add_behind.new.self)
    c.if-edge-eq0.false c.in_ok-outer.ensures c.in_ok-last.ensures.number c.in_ok-last.ensures.body

pub returns : goal.returns
returns c =
    let h : c.loop.counter + zero ≡ c.len-most.result = omega arith in
    let all : c.len-most.result ≡ length c.args.self.now.scopes.items = c.len-most.ensures ∙ c.args.self.now.scopes.ok.0 in
    sym (c.loop.invariant zero h) ∙ ap (λ n. behind_from n c.args.first 0 c.args.at (body_of c.args.self.now)) all
