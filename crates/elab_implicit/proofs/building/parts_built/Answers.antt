use Rattle.std.proofs.Common.{◌≡◌, Err, ap, rules}
use Rattle.elab_entry.specs.elab_ctx.Ctx.{Ctx}
use Rattle.elab_entry.specs.elab_scopes.States.{state_of}
use Rattle.elab_implicit.proofs.GivenParts.{there_grown}
use Rattle.elab_implicit.proofs.PartLists.{parts_done, parts_fail, parts_refused, lists_fail}
use Rattle.elab_implicit.proofs.building.parts_built.Goals as goal

pub returns : goal.returns
returns c = parts_done c.args.st.now _ _ c.args.at c.args.class c.args.given.now c.given_for-found.result _ _ c.in_ok-are_there.ensures
    c.given_for-found.ensures c.in_ok-list.ensures.made
    (ap (λ (z : Ctx). record (state_of c.args.st.now) { ctx = z }) c.in_ok-list.ensures.ctx) c.in_ok-members_built.ensures

pub returns-in_err-list : goal.returns-in_err-list
returns-in_err-list c =
    let is_error : c.from_residual-in_err-list.result ≡ Err c.in_err-list.field-0.0 = search rules in
    lists_fail _ _ _ _ _ is_error
    (parts_refused c.args.st.now c.args.at c.args.class c.args.given.now c.given_for-found.result _ c.given_for-found.ensures c.in_err-list.ensures.made)

pub returns-in_err-members_built : goal.returns-in_err-members_built
returns-in_err-members_built c =
    let is_error : c.from_residual-in_err-members_built.result ≡ Err c.in_err-members_built.field-0.0 = search rules in
    lists_fail _ _ _ _ _ is_error (parts_fail c.args.st.now
    (record c.args.st.now { env = c.first_parts.new.env; work = record c.args.st.now.work { nodes = c.first_parts.new.nodes } }) c.args.at c.args.class
    c.args.given.now c.given_for-found.result _ _ c.in_ok-are_there.ensures c.given_for-found.ensures c.in_ok-list.ensures.made
    (ap (λ (z : Ctx). record (state_of c.args.st.now) { ctx = z }) c.in_ok-list.ensures.ctx) c.in_err-members_built.ensures)

pub members_built-requires-clause-there : goal.members_built-requires-clause-there
members_built-requires-clause-there c = there_grown _ _ c.args.given.now c.in_ok-list.ensures.made.grows c.in_ok-are_there.ensures
