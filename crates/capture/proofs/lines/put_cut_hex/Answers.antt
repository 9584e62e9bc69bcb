use Rattle.capture.proofs.Typing.{hex-none}
use Rattle.capture.proofs.lines.put_cut_hex.Goals as goal

pub loop-b-init : goal.loop-b-init
loop-b-init c = hex-none (record { buffer = c.args.out.now; at = c.args.at }) c.args.octets.now
