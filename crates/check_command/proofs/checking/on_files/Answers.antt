use Rattle.std.proofs.Common.{map, string_bytes, subst}
use Rattle.std.specs.Prelude.{IfOk}
use Rattle.command_io.specs.Reads.{StopsReading, ReadsWithin, wanted_each}
use Rattle.command_io.specs.Writes.{written_of}
use Rattle.command_io.specs.declared.files.FileKind.TheVariants.{Source}
use Rattle.tx_answers.specs.Ends.{HaltsAmong}
use Rattle.tx_answers.proofs.Endings.{ends_settled, halted_ends}
use Rattle.check_command.specs.Check.{DecidesTexts, wants_of}
use Rattle.check_command.proofs.checking.on_files.Goals as goal

pub returns-in-Err : goal.returns-in-Err
returns-in-Err g c =
    let state = g.H.Host.state in
    halted_ends (wants_of c.args.check.now) (DecidesTexts c.args.check.now) (state c.args.host.now) (state c.read_each.new.host)
    (state c.halt_among.new.host) c.in-Err.unread c.halt_among.result (
      subst (λ l. StopsReading (state c.args.host.now) (wanted_each Source (map string_bytes l))
          (state c.read_each.new.host) c.in-Err.unread) c.as_slice-names.ensures.value c.in-Err.ensures.unread,
      subst (λ l. HaltsAmong (wanted_each Source (map string_bytes l)) c.in-Err.unread (state c.read_each.new.host)
          (state c.halt_among.new.host) c.halt_among.result) c.as_slice-names.ensures.value c.halt_among.ensures,
    )

pub returns : goal.returns
returns g c =
    let state = g.H.Host.state in
    ends_settled (wants_of c.args.check.now) (DecidesTexts c.args.check.now) (state c.args.host.now) (state c.read_each.new.host) (state c.settle.new.host)
    (map (λ text. text.items) c.in-Ok.texts.items) c.decided.result c.settle.result
    (subst (λ l. ReadsWithin (state c.args.host.now) (wanted_each Source (map string_bytes l)) (map (λ text. text.items) c.in-Ok.texts.items)
    (state c.read_each.new.host)) c.as_slice-names.ensures.value c.in-Ok.ensures.read)
    (subst (λ l. IfOk c.decided.result (λ d. DecidesTexts c.args.check.now (map (λ text. text.items) l) d.answer
    (map written_of d.writes.items))) c.as_slice.ensures.value c.decided.ensures)
    c.settle.ensures
