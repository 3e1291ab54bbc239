use Rattle.virtqueue.proofs.queue.Queue.least_outstanding.Goals as goal

pub returns : goal.returns
returns c = rw (← c.self.view_is) c.least_outstanding.ensures
