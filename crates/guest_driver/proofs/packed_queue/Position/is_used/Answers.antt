use Rattle.std.proofs.Common.{rules, ◌≡◌, cond}
use Rattle.guest_driver.proofs.Rounds.{seen_used}
use Rattle.guest_driver.proofs.packed_queue.Position.is_used.Goals as goal
use Rattle.guest_driver.proofs.packed_queue.Position.is_used.Goals.{then-self, else-self}

pub returns : goal.returns
returns c =
    let wanted : c.if-self.result ≡ cond c.args.self.wrap 32896 0 = elim c.if-self.branch [ then-self w ↦ search rules | else-self w ↦ search rules ] in
    λ wrap len is. seen_used c.args.self.wrap wrap c.args.flags len c.if-self.result is wanted
