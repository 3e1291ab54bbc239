use Rattle.std.proofs.Common.{◌≡◌, ◌∙◌, refl}
use Rattle.virtqueue.proofs.queue.Queue.fetch.Goals as goal

pub returns : goal.returns
returns c =
    let still = c.fetch_in.new.memory in
    let same : still.memory.now ≡ c.args.memory.now = c.fetch_in.ensures.stays still.memory.now refl ∙ c.of-still.ensures in
    rw same at (c.fetch_in.ensures.looks still.memory.now refl)
