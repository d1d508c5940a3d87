use Rattle.std.proofs.Common.{subst, sym, ap, ◌∙◌, [], ◌∷◌, ◌++◌, map, string_bytes, rules, take, ◌≡◌, ◌+◌}
use Rattle.std.proofs.lemmas.List.{map-append}
use Rattle.command_io.specs.Reads.{ReadsWithin, wanted_each}
use Rattle.command_io.proofs.Steps.{stops_next, reads_next, reads_some}
use Rattle.command_io.proofs.files.read_each.Goals as goal

pub returns-in-Err-clause-unread : goal.returns-in-Err-clause-unread
returns-in-Err-clause-unread g c =
    stops_next c.args.kind c.args.names.now (g.H.Host.state c.args.host.now) (g.H.Host.state c.files.host)
    (g.H.Host.state c.read_at.new.host) c.files.index c.index-names-index.result c.as_str.result.now _ c.in-Err.unread c.files-test.true
    (c.as_str.ensures.value ∙ ap string_bytes c.index-names-index.is) c.files.invariant c.in-Err.ensures.unread

pub returns-then-is_err-clause-unread : goal.returns-then-is_err-clause-unread
returns-then-is_err-clause-unread g c =
    reads_some c.args.kind c.args.names.now (g.H.Host.state c.args.host.now) (g.H.Host.state c.read_at.new.host) (c.files.index + 1) _
    (reads_next c.args.kind c.args.names.now (g.H.Host.state c.args.host.now) (g.H.Host.state c.files.host)
    (g.H.Host.state c.read_at.new.host) c.files.index c.index-names-index.result c.as_str.result.now _ c.in-Ok.text.items c.files-test.true
    (c.as_str.ensures.value ∙ ap string_bytes c.index-names-index.is) c.files.invariant c.in-Ok.ensures.read)

pub files-preserved : goal.files-preserved
files-preserved g c =
    let pushed : c.push.new.self.items ≡ c.files.texts.items ++ c.in-Ok.text ∷ [] = search rules in
    subst (λ texts. ReadsWithin (g.H.Host.state c.args.host.now) (wanted_each c.args.kind (map string_bytes (take (c.files.index + 1) c.args.names.now))) texts
    (g.H.Host.state c.read_at.new.host)) (sym (ap (map (λ text. text.items)) pushed ∙ map-append (λ text. text.items) c.files.texts.items
    (c.in-Ok.text ∷ [])))
    (reads_next c.args.kind c.args.names.now (g.H.Host.state c.args.host.now) (g.H.Host.state c.files.host)
    (g.H.Host.state c.read_at.new.host) c.files.index c.index-names-index.result c.as_str.result.now _ c.in-Ok.text.items c.files-test.true
    (c.as_str.ensures.value ∙ ap string_bytes c.index-names-index.is) c.files.invariant c.in-Ok.ensures.read)
