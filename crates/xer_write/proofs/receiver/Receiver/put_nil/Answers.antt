use Rattle.xer_write.proofs.Receiving.{nil-told}
use Rattle.xer_write.proofs.receiver.Receiver.put_nil.Goals as goal

pub returns-in_ok-push-in-Items : goal.returns-in_ok-push-in-Items
returns-in_ok-push-in-Items c =
    nil-told c.args.self.now c.in-Items.built c.push.new.self c.in_ok-space-in-Items.space c.in_ok-local-in-Items.local c.in_ok-text-in-Items.text c.in-Items.is c.in_ok-push-in-Items.ensures.items
    c.in_ok-space-in-Items.ensures c.in_ok-local-in-Items.ensures c.in_ok-text-in-Items.ensures
