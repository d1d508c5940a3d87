use Rattle.std.proofs.Common.{◌<◌, ◌≤◌, length, rules, arith, true}
use Rattle.elab_ctx.proofs.PlaceLists.{changed_is, changed_past}
use Rattle.elab_ctx.proofs.functions.define_at.Goals as goal

pub returns-in-Some : goal.returns-in-Some
returns-in-Some c =
    let within : c.args.place < length c.args.list.now.items = search rules in
    changed_is (λ f. record f {
      is_defined = true;
      params = c.args.params;
      text = c.args.text;
      closed_at =
          c.args.closed_at;
    }) c.args.list.now.items c.args.place c.in-Some.found.now within c.in-Some.ensures.value

pub returns-in-None : goal.returns-in-None
returns-in-None c =
    let past : length c.args.list.now.items ≤ c.args.place = search (rules, arith) in
    changed_past (λ f. record f {
      is_defined = true;
      params = c.args.params;
      text = c.args.text;
      closed_at =
          c.args.closed_at;
    }) c.args.list.now.items c.args.place past
