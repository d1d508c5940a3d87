use Rattle.cpp_types.proofs.Bases.{bases_unroll, bases_are_whole, base_is_earlier}
use Rattle.cpp_types.proofs.laws.base_laws.Goals as goal

pub returns : goal.returns
returns c = record { unroll = bases_unroll; whole = bases_are_whole; earlier = base_is_earlier }
