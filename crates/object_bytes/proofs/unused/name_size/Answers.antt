use Rattle.std.proofs.Common.{arith}
use Rattle.object_bytes.proofs.Positions.{length_name}
use Rattle.object_bytes.proofs.unused.name_size.Goals as goal

pub returns : goal.returns
returns c = omega (arith, length_name c.args.name.now)
