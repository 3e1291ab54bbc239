-- The port may go to another thread. The search alone finds it of types without records only.
use denote.Param.Send.{IsSend, sendable, recorded_send, struct_send}
use denote.Struct.Declared.{shape}
use Rattle.std.proofs.Crossing.{crosses}
use Rattle.ring_core.proofs.chain.Chain.TheSendSync as chain
use Rattle.event_queue.specs.contracts.buffer.EventBuffer.{the_row as buffer_row}
use Rattle.event_queue.specs.contracts.buffer.EventBuffer.TheInside as buffer
use Rattle.event_queue.specs.contracts.port.EventPort.{the_row as port_row}
use Rattle.event_queue.specs.contracts.port.EventPort.TheInside as port

buffer_fields : IsSend buffer.the_row
buffer_fields = recorded_send buffer.the_field.row _ _ buffer.the_type.to_one
    (struct_send (shape buffer.the_type) (chain.the_send, (search sendable, tt)))

buffer_sends : IsSend buffer_row
buffer_sends = search (sendable, buffer_fields)

port_fields : IsSend port.the_row
port_fields = recorded_send port.the_field.row _ _ port.the_type.to_one
    (struct_send (shape port.the_type) (search (crosses, buffer_sends), (search sendable, (search sendable, tt))))

pub port_sends : IsSend port_row
port_sends = search (sendable, port_fields)
