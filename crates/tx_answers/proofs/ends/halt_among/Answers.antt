use Rattle.std.proofs.Common.{subst, sym, ap, ◌∙◌, map, string_bytes, Some}
use Rattle.std.specs.Prelude.{IfOk}
use Rattle.std.proofs.lemmas.Option.{slice_get-get_or}
use Rattle.command_io.specs.Reads.{wanted, wanted_each}
use Rattle.command_io.specs.Writes.{written_of}
use Rattle.tx_answers.specs.Ends.{HaltsAmong, IsLimited}
use Rattle.tx_answers.proofs.Endings.{at_limit_among}
use Rattle.tx_answers.proofs.ends.halt_among.Goals as goal

pub returns-in-Some : goal.returns-in-Some
returns-in-Some g c =
    let before = g.H.Host.state c.args.host.now in
    let after = g.H.Host.state c.settle.new.host in
    let found = c.in-Some.ensures.lookup in
    subst (λ u. HaltsAmong (wanted_each c.args.kind (map string_bytes c.args.names.now)) u before after c.settle.result) (sym c.in-TooLong.is)
    (at_limit_among c.args.kind c.args.names.now c.in-TooLong.index c.in-Some.name.now before after c.over_limit.result c.settle.result
    (slice_get-get_or c.args.names.now c.in-TooLong.index c.in-Some.name.now found.3.0 ∙ ap Some (sym found.1))
    (subst (λ n. IfOk c.over_limit.result (λ x. IsLimited (wanted c.args.kind n) x.answer
    (map written_of x.writes.items))) c.as_str.ensures.value c.over_limit.ensures) c.settle.ensures)
