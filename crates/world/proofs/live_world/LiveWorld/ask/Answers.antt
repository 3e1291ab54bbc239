use Rattle.std.proofs.Common.{◌≡◌, ◌≤◌, ◌+◌, ℕ, Ok, length, refl, subst, replicate}
use Rattle.std.proofs.lemmas.List.{length-replicate}
use Rattle.std.specs.Option.{IfSome}
use Rattle.guest_mem.specs.Memory.{LiesIn}
use Rattle.ring_core.specs.Writes.{Write}
use Rattle.device_model.specs.Events.{Event}
use Rattle.device_steps.specs.Apart.{FitsIn, Stored}
use Rattle.device_steps.proofs.InMemory.{none_known}
use Rattle.device_steps.specs.Asking.{asking_at}
use Rattle.world.specs.LiveWorld.{PlainLive, IsSteadyIn}
use Rattle.world.proofs.Asked.{found, lies, asked_live, asked_live_promised}
use Rattle.world.proofs.Lively.{fits_live, step_promised}
use Rattle.world.proofs.live_world.LiveWorld.ask.Goals as goal

pub returns-in-Some-clause-asks : goal.returns-in-Some-clause-asks
returns-in-Some-clause-asks g c =
    let shared = g.M.Memory.shared in
    let old : PlainLive g.row.M.Denot = c.args.self.now in
    let size = g.M.Memory.extent old.memory in
    let a = c.in-Some.asking in
    let x : Write = record { addr = c.addr.result; bytes = c.bytes.result.now } in
    let o = asking_at old.device.queues c.args.number c.args.notify in
    let asks = subst (λ (z : PlainLive g.row.M.Denot). c.asking.result ≡ asking_at z.device.queues c.args.number c.args.notify)
    c.self.view_is c.asking.ensures.asks in
    let inside = subst
    (λ (z : PlainLive g.row.M.Denot). (n : ℕ) → FitsIn n z.device → IfSome c.asking.result (λ (y : Write). y.addr + length y.bytes ≤ n))
    c.self.view_is c.asking.ensures.inside in
    let steady = subst (λ (z : PlainLive g.row.M.Denot). IsSteadyIn shared (g.M.Memory.extent z.memory) z.device)
    c.self.view_is c.self.invariant in
    let fits : FitsIn size old.device = fits_live shared size old.device (replicate size 0) (length-replicate size 0) steady in
    let there : LiesIn size x.addr (length x.bytes) =
    lies size x.addr x.bytes a c.asking.result c.addr.ensures c.bytes.ensures c.in-Some.is (inside size fits) in
    asked_live shared g.M.Memory.begins g.M.Memory.may_be (Stored g.M.Memory.stored g.M.Memory.storing) old o x c.write_by.result c.write_by.new.self
    (found x.addr x.bytes a c.asking.result o c.addr.ensures c.bytes.ensures c.in-Some.is asks)
    (c.write_by.ensures.inside there) c.write_by.ensures.steps

pub returns-in-Some-clause-promise : goal.returns-in-Some-clause-promise
returns-in-Some-clause-promise g c =
    let shared = g.M.Memory.shared in
    let old : PlainLive g.row.M.Denot = c.args.self.now in
    let size = g.M.Memory.extent old.memory in
    let a = c.in-Some.asking in
    let x : Write = record { addr = c.addr.result; bytes = c.bytes.result.now } in
    let o = asking_at old.device.queues c.args.number c.args.notify in
    let asks = subst (λ (z : PlainLive g.row.M.Denot). c.asking.result ≡ asking_at z.device.queues c.args.number c.args.notify)
    c.self.view_is c.asking.ensures.asks in
    let inside = subst
    (λ (z : PlainLive g.row.M.Denot). (n : ℕ) → FitsIn n z.device → IfSome c.asking.result (λ (y : Write). y.addr + length y.bytes ≤ n))
    c.self.view_is c.asking.ensures.inside in
    let steady = subst (λ (z : PlainLive g.row.M.Denot). IsSteadyIn shared (g.M.Memory.extent z.memory) z.device)
    c.self.view_is c.self.invariant in
    let fits : FitsIn size old.device = fits_live shared size old.device (replicate size 0) (length-replicate size 0) steady in
    let there : LiesIn size x.addr (length x.bytes) =
    lies size x.addr x.bytes a c.asking.result c.addr.ensures c.bytes.ensures c.in-Some.is (inside size fits) in
    asked_live_promised shared size old.device o x c.write_by.result c.write_by.new.self.device
    (found x.addr x.bytes a c.asking.result o c.addr.ensures c.bytes.ensures c.in-Some.is asks)
    (c.write_by.ensures.inside there)
    (step_promised c.the_promise_is_kept.ensures c.every_run_goes_on.ensures.run c.a_live_run_is_a_run.ensures
    (Stored g.M.Memory.stored g.M.Memory.storing) shared size old (Event.Poke x) (Ok c.write_by.result) c.write_by.new.self
    (none_known g.M.Memory.stored g.M.Memory.storing g.met.M.Memory.none old.memory old.memory refl) c.write_by.ensures.ran)
