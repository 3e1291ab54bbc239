use Rattle.std.proofs.Common.{◌<◌, refl, sym, subst, length, arith}
use Rattle.std.specs.Prelude.{map}
use Rattle.std.proofs.lemmas.List.{length-map}
use Rattle.std.proofs.lemmas.Option.{slice_get_read}
use Rattle.device_steps.specs.Apart.{PlainDevice, standing}
use Rattle.device_steps.specs.Kept.{KeptSeat, seat_of}
use Rattle.device_steps.specs.contracts.device.Device.{the_view}
use Rattle.device_steps.proofs.Seats.{shown}
use Rattle.device_steps.proofs.Looks.{false_true, hand_steps, job_steps, idle_there, no_worker, takes, tries_again}
use Rattle.device_steps.proofs.device.Device.seat_goes_on.Goals as goal

pub returns-then-not-has_empty_hand : goal.returns-then-not-has_empty_hand
returns-then-not-has_empty_hand c shared m =
    let d = c.self.inside in
    let w = standing shared m (the_view d) in
    let k = c.args.number in
    let s : KeptSeat = c.index-seat.result.now in
    let there : k < length (map seat_of d.seats.items) =
    subst (λ (z : PlainDevice). k < length z.seats) (sym c.self.view_is) c.requires.there in
    let at = shown w d.seats.items k s refl
    (slice_get_read d.seats.items d.seats.len k s d.seats.ok.0
    (omega (arith, there, d.seats.ok.0, length-map d.seats.items seat_of)) c.index-seat.ensures) in
    rw (← c.self.view_is)
    (hand_steps w k s.hand s.jobs at (λ free. false_true (c.if-not-has_empty_hand.ensures.1 free)))

pub returns-then-not-is_idle : goal.returns-then-not-is_idle
returns-then-not-is_idle c shared m =
    let d = c.self.inside in
    let w = standing shared m (the_view d) in
    let k = c.args.number in
    let s : KeptSeat = c.index-seat.result.now in
    let there : k < length (map seat_of d.seats.items) =
    subst (λ (z : PlainDevice). k < length z.seats) (sym c.self.view_is) c.requires.there in
    let at = shown w d.seats.items k s refl
    (slice_get_read d.seats.items d.seats.len k s d.seats.ok.0
    (omega (arith, there, d.seats.ok.0, length-map d.seats.items seat_of)) c.index-seat.ensures) in
    rw (← c.self.view_is)
    (job_steps w k s.hand s.jobs at (c.if-not-has_empty_hand.ensures.0 refl)
    (λ idle. false_true (c.if-not-is_idle.ensures.1 idle)))

pub returns-then-number-self : goal.returns-then-number-self
returns-then-number-self c shared m =
    let d = c.self.inside in
    let w = standing shared m (the_view d) in
    let k = c.args.number in
    let s : KeptSeat = c.index-seat.result.now in
    let there : k < length (map seat_of d.seats.items) =
    subst (λ (z : PlainDevice). k < length z.seats) (sym c.self.view_is) c.requires.there in
    let at = shown w d.seats.items k s refl
    (slice_get_read d.seats.items d.seats.len k s d.seats.ok.0
    (omega (arith, there, d.seats.ok.0, length-map d.seats.items seat_of)) c.index-seat.ensures) in
    rw (← c.self.view_is)
    (no_worker w k (idle_there w k s.hand s.jobs at (c.if-not-is_idle.ensures.0 refl))
    (λ worker. omega (arith, worker, c.if-number-self.true)))

pub returns-then-has_woken : goal.returns-then-has_woken
returns-then-has_woken c shared m =
    let d = c.self.inside in
    let w = standing shared m (the_view d) in
    let k = c.args.number in
    let s : KeptSeat = c.index-seat.result.now in
    let there : k < length (map seat_of d.seats.items) =
    subst (λ (z : PlainDevice). k < length z.seats) (sym c.self.view_is) c.requires.there in
    let at = shown w d.seats.items k s refl
    (slice_get_read d.seats.items d.seats.len k s d.seats.ok.0
    (omega (arith, there, d.seats.ok.0, length-map d.seats.items seat_of)) c.index-seat.ensures) in
    rw (← c.self.view_is)
    (tries_again w k (idle_there w k s.hand s.jobs at (c.if-not-is_idle.ensures.0 refl)) c.if-number-self.false
    (rw c.if-has_woken.true at c.has_woken.ensures))

pub returns : goal.returns
returns c shared m =
    let d = c.self.inside in
    let w = standing shared m (the_view d) in
    let k = c.args.number in
    let s : KeptSeat = c.index-seat.result.now in
    let there : k < length (map seat_of d.seats.items) =
    subst (λ (z : PlainDevice). k < length z.seats) (sym c.self.view_is) c.requires.there in
    let at = shown w d.seats.items k s refl
    (slice_get_read d.seats.items d.seats.len k s d.seats.ok.0
    (omega (arith, there, d.seats.ok.0, length-map d.seats.items seat_of)) c.index-seat.ensures) in
    rw (← c.self.view_is)
    (takes w k c.has_job.result (rw c.if-has_woken.false at c.has_woken.ensures)
    (idle_there w k s.hand s.jobs at (c.if-not-is_idle.ensures.0 refl)) c.if-number-self.false
    c.has_job.ensures)
