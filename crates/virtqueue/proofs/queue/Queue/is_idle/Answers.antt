use Rattle.std.proofs.Common.{◌≡◌, ◌∙◌, refl}
use Rattle.virtqueue.proofs.queue.Queue.is_idle.Goals as goal

pub returns : goal.returns
returns c =
    let still = c.is_idle_in.new.memory in
    let same : still.memory.now ≡ c.args.memory.now = c.is_idle_in.ensures.stays still.memory.now refl ∙ c.of-still.ensures in
    rw same at (c.is_idle_in.ensures.idle still.memory.now refl)
