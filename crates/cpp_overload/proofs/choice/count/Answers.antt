use Rattle.std.proofs.Common.{sym}
use Rattle.cpp_overload.proofs.Params.{count_of-typs_of}
use Rattle.cpp_overload.proofs.choice.count.Goals as goal

pub returns : goal.returns
returns c = sym (count_of-typs_of c.args.types.now)
