-- What a seat kept may go to another thread. The search alone finds it of small types only.
use denote.Param.Send.{IsSend, struct_send}
use denote.Struct.Declared.{shape}
use Rattle.std.proofs.Crossing.{crosses}
use Rattle.std.proofs.option.Option.TheSendSync as option
use Rattle.logical_unit.proofs.outcomes.BareReceipt.TheSendSync as receipt
use Rattle.command_model.proofs.reply.Reply.TheSendSync as reply
use Rattle.phases.proofs.note.Note.TheSendSync as note
use Rattle.close_audit.specs.contracts.kept.Kept.{the_field, the_type}

pub kept_sends : IsSend the_field.row
kept_sends = struct_send (shape the_type) (search (crosses, receipt.the_send), (search (crosses, option.the_send, reply.the_send), (search (crosses, note.the_send), tt)))
