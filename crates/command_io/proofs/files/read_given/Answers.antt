use Rattle.std.proofs.Common.{refl, sym, subst, [], Option, Some, None, String, Global, ℕ, List, string_bytes}
use Rattle.std.specs.Option.{option_map}
use Rattle.command_io.specs.Reads.{ReadsWithin, wanted_given, bytes_of}
use Rattle.command_io.proofs.files.read_given.Goals as goal

pub returns-in-None-clause-read : goal.returns-in-None-clause-read
returns-in-None-clause-read g c =
    let state = g.H.Host.state c.args.host.now in
    subst (λ (n : Option (String Global)). ReadsWithin state (wanted_given c.args.kind (option_map string_bytes n))
    (bytes_of (option_map string_bytes n) c.new.result.items) state) (sym c.in-None.is) refl
