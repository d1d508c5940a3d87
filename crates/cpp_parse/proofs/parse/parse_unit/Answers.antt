use Rattle.cpp_parse.proofs.parse.parse_unit.Goals as goal

pub returns-in-Err : goal.returns-in-Err
returns-in-Err c = c.fault_without_room.ensures c.args.source
