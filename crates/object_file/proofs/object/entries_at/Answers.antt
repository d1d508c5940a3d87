use Rattle.std.proofs.Common.{refl}
use Rattle.std.proofs.lemmas.Result.{err_from_is_err_and}
use Rattle.object_bytes.specs.Decoder.{bind, done}
use Rattle.object_bytes.specs.Objects.{entries}
use Rattle.object_file.proofs.Loop.{fails_on}
use Rattle.object_file.proofs.object.entries_at.Goals as goal

pub returns-in_err-globals : goal.returns-in_err-globals
unfolding entries bind done
returns-in_err-globals c =
    let classes = rw c.deref.ensures.value at c.in_ok-classes.ensures in
    let globals = rw c.deref-2.ensures.value at c.in_err-globals.ensures in
    let p = err_from_is_err_and c.from_residual-in_err-globals.result c.from_residual-in_err-globals.ensures.1 in
    rw (p.1, p.2, classes) (fails_on c.in_err-globals.field-0.0 _ _ globals)

pub returns-in_err-funcs : goal.returns-in_err-funcs
unfolding entries bind done
returns-in_err-funcs c =
    let classes = rw c.deref.ensures.value at c.in_ok-classes.ensures in
    let globals = rw c.deref-2.ensures.value at c.in_ok-globals.ensures in
    let funcs = rw c.deref-3.ensures.value at c.in_err-funcs.ensures in
    let p = err_from_is_err_and c.from_residual-in_err-funcs.result c.from_residual-in_err-funcs.ensures.1 in
    rw (p.1, p.2, classes, globals) (fails_on c.in_err-funcs.field-0.0 _ _ funcs)

pub returns : goal.returns
unfolding entries bind done
returns c =
    let classes = rw c.deref.ensures.value at c.in_ok-classes.ensures in
    let globals = rw c.deref-2.ensures.value at c.in_ok-globals.ensures in
    let funcs = rw c.deref-3.ensures.value at c.in_ok-funcs.ensures in
    rw (classes, globals, funcs) refl
