use Rattle.tx_serial.proofs.OrderGains.{order_grows}
use Rattle.tx_serial.proofs.order.order_grows.Goals as goal

pub returns : goal.returns
returns g c = λ p answer t m l goes. order_grows g.A.Actor.thread p answer t m l goes
