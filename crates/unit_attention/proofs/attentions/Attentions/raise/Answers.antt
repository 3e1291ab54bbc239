use Rattle.std.proofs.Common.{◌≡◌, false, lit<}
use Rattle.unit_attention.specs.Pending.{is_pending}
use Rattle.unit_attention.proofs.Distinct.{has_room, with_one_more}
use Rattle.unit_attention.proofs.attentions.Attentions.raise.Goals as goal

pub push-requires : goal.push-requires
push-requires c =
    let absent : is_pending c.self.inside.codes.items c.args.code ≡ false = cc in
    (lit< tt, has_room _ _ c.self.invariant c.requires absent)

pub invariant_of-self : goal.invariant_of-self
invariant_of-self c =
    let absent : is_pending c.self.inside.codes.items c.args.code ≡ false = cc in
    rw c.push.ensures.items (with_one_more _ _ c.self.invariant c.requires absent)
