use Rattle.std.proofs.Common.{rules}
use Rattle.tx_host.specs.Mem.{shown}
use Rattle.tx_host.proofs.Parts.{half_file_fails, half_out_fails, half_err_fails}
use Rattle.tx_host.proofs.mem.MemHostHost.TheImpl.Goals as goal

pub write_file-tells : goal.write_file-tells
write_file-tells c = record {
  written = search rules;
  memory = search rules;
  failed = λ e. half_file_fails (shown c.args.self.now) (shown c.new.self.now) c.args.name.now c.args.bytes.now c.args.self.now.faults.small
      (c.ensures.failed e);
}

pub write_out-tells : goal.write_out-tells
write_out-tells c = record {
  written = search rules;
  memory = search rules;
  failed = λ e. half_out_fails (shown c.args.self.now) (shown c.new.self.now) c.args.bytes.now c.args.self.now.faults.small (c.ensures.failed e);
}

pub write_err-tells : goal.write_err-tells
write_err-tells c = record {
  written = search rules;
  memory = search rules;
  failed = λ e. half_err_fails (shown c.args.self.now) (shown c.new.self.now) c.args.bytes.now c.args.self.now.faults.small (c.ensures.failed e);
}
