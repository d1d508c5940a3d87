use Rattle.std.proofs.Common.{◌≡◌, ◌∙◌, ◌++◌, ℕ, zero, suc, ◌+◌, ◌-◌, length, sym, ap, arith}
use Rattle.std.proofs.lemmas.List.{append-nil}
use Rattle.low_code.specs.Writer.{body_of}
use Rattle.low_code.specs.Rows.{chain_rows, chain_last}
use Rattle.low_code.proofs.Chains.{rows_end, rows_go, last_end, last_go}
use Rattle.low_code.proofs.rows.add_chain.Goals as goal

pub returns-in-Some-clause-rows : goal.returns-in-Some-clause-rows
returns-in-Some-clause-rows c =
    let b = body_of c.args.body.now in
    let k : ℕ = c.len-most.result - (c.loop.counter + 1) in
    let h : c.loop.counter + suc k ≡ c.len-most.result = omega arith in
    let all : c.len-most.result ≡ length c.args.body.now.scopes.items = c.len-most.ensures ∙ c.args.body.now.scopes.ok.0 in
    rows_end k b c.args.from c.args.to c.loop.number c.in_ok-found.found c.in_ok-found.ensures.is c.in_ok-last.field-0
    c.loop.rows.items c.add_scope.new.rows.items c.in_ok-last.ensures.rows c.in-Some.last c.in-Some.is
    ∙ (c.loop.invariant (suc k) h).0
    ∙ ap (λ n. c.args.rows.now.items ++ chain_rows n b c.args.from c.args.to c.args.scope) all

pub returns-in-Some-clause-last : goal.returns-in-Some-clause-last
returns-in-Some-clause-last c =
    let b = body_of c.args.body.now in
    let k : ℕ = c.len-most.result - (c.loop.counter + 1) in
    let h : c.loop.counter + suc k ≡ c.len-most.result = omega arith in
    let all : c.len-most.result ≡ length c.args.body.now.scopes.items = c.len-most.ensures ∙ c.args.body.now.scopes.ok.0 in
    last_end k b c.args.from c.args.to c.loop.number c.in_ok-found.found c.in_ok-found.ensures.is c.in_ok-last.field-0
    c.in_ok-last.ensures.last c.in-Some.last c.in-Some.is
    ∙ (c.loop.invariant (suc k) h).1
    ∙ ap (λ n. chain_last n b c.args.scope) all

pub loop-preserved : goal.loop-preserved
loop-preserved c k e =
    let b = body_of c.args.body.now in
    let h : c.loop.counter + suc k ≡ c.len-most.result = omega arith in (
      rows_go k b c.args.from c.args.to c.loop.number c.in_ok-found.found c.in_ok-found.ensures.is c.in_ok-last.field-0
          c.loop.rows.items c.add_scope.new.rows.items c.in_ok-last.ensures.rows c.in-None.is
          ∙ (c.loop.invariant (suc k) h).0,
      last_go k b c.args.from c.args.to c.loop.number c.in_ok-found.found c.in_ok-found.ensures.is c.in_ok-last.field-0
          c.in_ok-last.ensures.last c.in-None.is
          ∙ (c.loop.invariant (suc k) h).1,
    )

pub returns-clause-rows : goal.returns-clause-rows
returns-clause-rows c =
    let h : c.loop.counter + zero ≡ c.len-most.result = omega arith in
    let all : c.len-most.result ≡ length c.args.body.now.scopes.items = c.len-most.ensures ∙ c.args.body.now.scopes.ok.0 in
    sym (append-nil c.loop.rows.items) ∙ (c.loop.invariant zero h).0
    ∙ ap (λ n. c.args.rows.now.items ++ chain_rows n (body_of c.args.body.now) c.args.from c.args.to c.args.scope) all

pub returns-clause-last : goal.returns-clause-last
returns-clause-last c =
    let h : c.loop.counter + zero ≡ c.len-most.result = omega arith in
    let all : c.len-most.result ≡ length c.args.body.now.scopes.items = c.len-most.ensures ∙ c.args.body.now.scopes.ok.0 in
    (c.loop.invariant zero h).1 ∙ ap (λ n. chain_last n (body_of c.args.body.now) c.args.scope) all
