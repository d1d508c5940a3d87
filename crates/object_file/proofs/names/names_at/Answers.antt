use Rattle.std.proofs.lemmas.Result.{err_from_is_err_and}
use Rattle.std.proofs.lemmas.List.{map_push}
use Rattle.std.proofs.Common.{◌≡◌, map, rules}
use Rattle.tx_code.specs.Objects.{bytes_of}
use Rattle.object_bytes.specs.Fields.{lent, name_item}
use Rattle.object_file.proofs.Loop.{begins, goes_on, ends, is_done}
use Rattle.object_file.proofs.names.names_at.Goals as goal

pub loop-init : goal.loop-init
loop-init c = rw c.new-names.ensures.items (begins (λ x. x) (name_item) _ _ _ c.in_ok-count.ensures)

pub returns-in_err-text : goal.returns-in_err-text
returns-in_err-text c =
    let p = err_from_is_err_and c.from_residual-in_err-text.result c.from_residual-in_err-text.ensures.1 in
    rw (p.1, p.2) (ends (λ x. x) (name_item) c.in_err-text.field-0.0 (map bytes_of c.loop.names.items)
    (lent c.loop.before) _ _ _ _ c.loop-test.true c.in_err-text.ensures c.loop.invariant)

pub loop-preserved : goal.loop-preserved
loop-preserved c =
    let e : c.in_ok-name.name.items ≡ c.in_ok-text.text.now = search rules in
    rw (c.in_ok-push.ensures.items, map_push bytes_of c.loop.names.items c.in_ok-name.name, e)
    (goes_on (λ x. x) (name_item) (map bytes_of c.loop.names.items) (lent c.loop.before) _ _ _ _ _ _ c.loop-test.true c.in_ok-text.ensures c.loop.invariant)

pub returns : goal.returns
returns c = is_done (λ x. x) (name_item) (map bytes_of c.loop.names.items) (lent c.loop.before) _ _ _ _ c.loop-test.false c.loop.invariant
