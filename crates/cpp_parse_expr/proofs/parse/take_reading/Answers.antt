use Rattle.std.proofs.Common.{◌≡◌, ℕ, Option, Some, None, Result, Ok, ◌∙◌, ap, subst, arith}
use Rattle.std.specs.declared.alloc.AllocError.{AllocError}
use Rattle.cpp_syntax.specs.Parsed.{ParsesLongest, ReadsLongest, Leaves, NoneOf}
use Rattle.cpp_parse_expr.proofs.ParseAnswers.{found, left}
use Rattle.cpp_parse_expr.proofs.parse.take_reading.Goals as goal

pub returns-in-Ok-Some : goal.returns-in-Ok-Some
returns-in-Ok-Some c = λ rule before empty parsed.
    let some : c.in-Ok-Some.field-0 ≡ Some c.in-Ok-Some.next = rw c.in-Ok-Some.is at c.in-Ok-Some.field-0-is in
    let result : c.args.read ≡ Ok (Some c.in-Ok-Some.next) = c.in-Ok-Some.is ∙ ap (λ (o : Option ℕ). Ok o) some in
    let reads : ReadsLongest c.args.types.now rule c.args.from c.in-Ok-Some.next None before c.args.out = subst
    (λ (r : Result (Option ℕ) AllocError). ParsesLongest c.args.types.now rule c.args.from None before c.args.out r) result parsed in (
      found c.args.types.now rule c.args.from before c.args.out c.into_parts-grown.result.nodes c.into_parts-grown.result.roots.items
          c.into_parts-grown.result.bodies.items empty c.into_parts-grown.ensures.built c.into_parts-grown.ensures.grown
          c.into_parts-grown.ensures.shown c.in-Ok-Some.next reads,
      (let least = c.min-token.ensures in let long = c.len-len.ensures.len in omega (arith, least, long)),
    )

pub returns-in-Ok-None : goal.returns-in-Ok-None
returns-in-Ok-None c = λ rule before empty parsed.
    let none : c.in-Ok-None.field-0 ≡ None = rw c.in-Ok-None.is at c.in-Ok-None.field-0-is in
    let result : c.args.read ≡ Ok None = c.in-Ok-None.is ∙ ap (λ (o : Option ℕ). Ok o) none in
    let reads : Leaves before c.args.out × NoneOf c.args.types.now rule c.args.from = subst
    (λ (r : Result (Option ℕ) AllocError). ParsesLongest c.args.types.now rule c.args.from None before c.args.out r) result parsed in (
      (
        reads.1,
        left c.args.types.now rule c.args.from before c.args.out c.into_parts-grown.result.nodes c.into_parts-grown.result.roots.items
            c.into_parts-grown.result.bodies.items empty c.into_parts-grown.ensures.built c.into_parts-grown.ensures.grown
            c.into_parts-grown.ensures.shown reads.0,
      ),
      (let least = c.min-token-in-Ok-None.ensures in let long = c.len-len.ensures.len in omega (arith, least, long)),
    )
