use Rattle.std.proofs.Common.{◌≡◌, sym, subst}
use Rattle.shared_trace.specs.Events.{events_of}
use Rattle.shared_trace.specs.Halves.{part_of}
use Rattle.shared_trace.proofs.Wholes.{comes}
use Rattle.device_model.specs.After.{after}
use Rattle.device_model.specs.Happens.{Happens}
use Rattle.host_trace.specs.Trace.{Agree, touches}
use Rattle.host_trace.proofs.share.add_share.Goals as goal

pub step-requires-clause-may : goal.step-requires-clause-may
step-requires-clause-may g c = λ past on lawful below same.
    let s = g.S.Setup in
    let m = c.args.mark.now in
    comes after Happens (touches s.number) (Agree s.number) s.world m.own m.known past g.T.Said.event on
    (subst (λ k. events_of part_of k past ≡ events_of part_of k m.own) (sym c.requires.part) same) c.requires.may
