use Rattle.std.proofs.Common.{arith}
use Rattle.device_steps.proofs.aside.JobsAside.has_room.Goals as goal

pub overflow_add-result : goal.overflow_add-result
overflow_add-result c =
    omega (arith, c.limit-limit.ensures, c.limit-limit.type_inv, c.len.ensures, c.len-2.ensures, c.self.invariant.room)
