use Rattle.std.proofs.Common.{◌∙◌, ℕ, List, [], Some, None, sym, ap, subst, length, arith}
use Rattle.std.proofs.lemmas.Option.{none-some}
use Rattle.cpp_syntax.specs.declared.positions.OpenBody.{OpenBody}
use Rattle.cpp_parse_expr.specs.Depths.{deep_node, lambda_depths, Searches}
use Rattle.cpp_parse_expr.specs.Parse.{form_of, IsTooDeep, IsParsed}
use Rattle.cpp_parse_expr.proofs.ParseAnswers.{single_of, form_root, is_read, root_inside, too_deep, each_depth, parsed, none_noted}
use Rattle.cpp_parse_expr.proofs.parse.parse_text.Goals as goal

pub index-root-requires : goal.index-root-requires
index-root-requires c =
    let r = rw c.in-Some.is at c.in_ok-found.ensures.0 in
    let one = form_root _ _ _ _ _ _ _ _ (single_of c.args.form) r in
    let long = c.in-Some.field-0.roots.ok.0 in
    omega (arith, one, long)

pub first_deep-requires-clause-inside : goal.first_deep-requires-clause-inside
first_deep-requires-clause-inside c =
    let r = rw c.in-Some.is at c.in_ok-found.ensures.0 in
    root_inside _ _ _ _ _ _ _ _ (is_read _ _ _ _ _ _ _ _ (single_of c.args.form) r c.index-root.result.now c.index-root.ensures)

pub first_deep-requires-clause-there : goal.first_deep-requires-clause-there
first_deep-requires-clause-there c = λ k body e. absurd (none-some (Some body) e)

pub returns-in_default : goal.returns-in_default
returns-in_default c =
    let n = rw c.in_default.is at c.in_ok-found.ensures.0 in
    (record { nothing = n.0; inside = c.in_ok-found.ensures.1 }, n.1)

pub returns-in-Some-2 : goal.returns-in-Some-2
returns-in-Some-2 c =
    let r = rw c.in-Some.is at c.in_ok-found.ensures.0 in
    let read = is_read _ _ _ _ _ _ _ _ (single_of c.args.form) r c.index-root.result.now c.index-root.ensures in
    let deep = (rw c.in-Some-2.is at c.in_ok-position.ensures) [] read.tree none_noted read.shows in (
      subst (λ (d : ℕ). IsTooDeep c.args.types.now (form_of c.args.form) c.args.from d c.args.limit c.token_at-token.result) c.from.ensures
          (too_deep _ _ _ _ _ _ _ _ read c.from.result c.args.limit c.token_at-token.result c.in-Some-2.position deep c.token_at-token.ensures.inside
          c.token_at-token.ensures.position),
      read.grown,
    )

pub with_depths-requires : goal.with_depths-requires
with_depths-requires c =
    let r = rw c.in-Some.is at c.in_ok-found.ensures.0 in
    let read = is_read _ _ _ _ _ _ _ _ (single_of c.args.form) r c.index-root.result.now c.index-root.ensures in
    let shallow = subst (λ (old : List ℕ). Searches (deep_node c.args.limit c.from.result read.tree) (lambda_depths c.from.result read.tree) old
    c.first_deep.new.lambdas.items None) c.new-depths.ensures.items ((rw c.in_default-2.is at c.in_ok-position.ensures) [] read.tree none_noted read.shows) in
    ap (λ (ds : List ℕ). length ds) c.deref-2.ensures.value
    ∙ each_depth _ _ _ _ _ _ _ _ read c.from.result c.args.limit c.first_deep.new.lambdas.items shallow
    ∙ sym (ap (λ (bs : List OpenBody). length bs) c.deref.ensures.value)

pub returns : goal.returns
returns c =
    let r = rw c.in-Some.is at c.in_ok-found.ensures.0 in
    let read = is_read _ _ _ _ _ _ _ _ (single_of c.args.form) r c.index-root.result.now c.index-root.ensures in
    let shallow = subst (λ (old : List ℕ). Searches (deep_node c.args.limit c.from.result read.tree) (lambda_depths c.from.result read.tree) old
    c.first_deep.new.lambdas.items None) c.new-depths.ensures.items ((rw c.in_default-2.is at c.in_ok-position.ensures) [] read.tree none_noted read.shows) in
    subst (λ (d : ℕ). IsParsed c.args.types.now (form_of c.args.form) c.args.from d c.args.limit c.args.nodes.now c.read_text.new.nodes
    (record { root = c.index-root.result.now; next = c.in-Some.field-0.next; bodies = c.in_ok-bodies.bodies })) c.from.ensures
    (parsed _ _ _ _ _ _ _ _ read c.from.result c.args.limit c.first_deep.new.lambdas.items c.in_ok-bodies.bodies shallow
    (c.in_ok-bodies.ensures.bodies ∙ c.deref.ensures.value) (c.in_ok-bodies.ensures.depths ∙ c.deref-2.ensures.value))
