use Rattle.std.proofs.Common.{refl}
use Rattle.close_audit.proofs.Keeping.{receipts_kept}
use Rattle.close_audit.proofs.kept.Kept.make_room.Goals as goal

pub returns-in_default-clause-kept : goal.returns-in_default-clause-kept
returns-in_default-clause-kept c = (
  receipts_kept c.args.self.now.receipts.items c.args.self.now.receipts.items c.args.self.now.replies.items c.make_slots.new.replies.items refl c.make_slots.ensures.same,
  refl,
)

pub returns-in_default-reserve-clause-kept : goal.returns-in_default-reserve-clause-kept
returns-in_default-reserve-clause-kept c = (
  receipts_kept c.args.self.now.receipts.items c.reserve.new.self.items c.args.self.now.replies.items c.make_slots.new.replies.items c.reserve.ensures.items c.make_slots.ensures.same,
  refl,
)

pub returns-in_default-reserve-2-clause-kept : goal.returns-in_default-reserve-2-clause-kept
returns-in_default-reserve-2-clause-kept c = (
  receipts_kept c.args.self.now.receipts.items c.reserve.new.self.items c.args.self.now.replies.items c.make_slots.new.replies.items c.reserve.ensures.items c.make_slots.ensures.same,
  c.reserve-2.ensures.items,
)

pub returns-clause-kept : goal.returns-clause-kept
returns-clause-kept c = (
  receipts_kept c.args.self.now.receipts.items c.reserve.new.self.items c.args.self.now.replies.items c.make_slots.new.replies.items c.reserve.ensures.items c.make_slots.ensures.same,
  c.reserve-2.ensures.items,
)
