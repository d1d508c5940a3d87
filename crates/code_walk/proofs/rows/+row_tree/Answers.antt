use Rattle.std.proofs.Common.{◌≡◌, ◌++◌, [], sym, subst}
use Rattle.code_walk.specs.RowTrees.{rows_of, SpanOf, Right}
use Rattle.code_walk.proofs.rows.+row_tree.Goals as goal

pub span_of-requires : goal.span_of-requires
span_of-requires t c = c.in_ok-left.ensures.right [] []

pub span_of-requires-2 : goal.span_of-requires-2
span_of-requires-2 t c = c.in_ok-right.ensures.right [] []

pub returns-clause-right : goal.returns-clause-right
returns-clause-right t c = λ u ss.
    let el : c.in_ok-new.field-0.value ≡ c.in_ok-left.left = c.in_ok-new.ensures.ok in
    let er : c.in_ok-new-2.field-0.value ≡ c.in_ok-right.right = c.in_ok-new-2.ensures.ok in (
      subst (Right u ss) (sym el) (c.in_ok-left.ensures.right u ss),
      subst (Right u ss) (sym er) (c.in_ok-right.ensures.right u ss),
      subst (λ z. SpanOf c.joined-span.result (rows_of z ++ rows_of c.in_ok-new-2.field-0.value)) (sym el)
          (subst (λ z. SpanOf c.joined-span.result (rows_of c.in_ok-left.left ++ rows_of z)) (sym er)
          (c.joined-span.ensures (rows_of c.in_ok-left.left) (rows_of c.in_ok-right.right) c.span_of.ensures c.span_of-2.ensures)),
      tt,
    )
