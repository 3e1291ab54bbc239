use Rattle.std.proofs.Common.{sym, ap, ◌∙◌}
use Rattle.std.specs.Prelude.{slice_get}
use Rattle.device_steps.specs.Apart.{PlainDevice, standing}
use Rattle.device_model.specs.Order.{IsQuietOf, NoneApplies}
use Rattle.device_steps.specs.Inner.Cursors.{of_function, NoDirect, NoSeat, NoEnter}
use Rattle.device_steps.specs.Settling.{asks}
use Rattle.device_steps.proofs.Looks.{denied, told, raised, no_raise, function_quiet, raise_quiet, direct_quiet, seat_quiet, enter_quiet, last_look}
use Rattle.device_steps.proofs.device.Device.has_step.Goals as goal

pub returns-then-function_goes_on-clause-denies : goal.returns-then-function_goes_on-clause-denies
returns-then-function_goes_on-clause-denies g c =
    λ m may.
    let w = standing g.M.Memory.shared m c.args.self.now in (
      may,
      denied (NoneApplies w of_function) (IsQuietOf (asks c.args.queues) w) c.function_goes_on.result
          c.if-function_goes_on.true (c.function_goes_on.ensures g.M.Memory.shared m) (function_quiet (asks c.args.queues) w),
    )

pub returns-then-has_answer-clause-denies : goal.returns-then-has_answer-clause-denies
returns-then-has_answer-clause-denies g c =
    λ m may.
    let w = standing g.M.Memory.shared m c.args.self.now in (
      may,
      denied (NoDirect w) (IsQuietOf (asks c.args.queues) w) c.has_answer.result c.if-has_answer.true
          (c.has_answer.ensures g.M.Memory.shared m) (direct_quiet (asks c.args.queues) w),
    )

pub returns-then-has_turn-clause-denies : goal.returns-then-has_turn-clause-denies
returns-then-has_turn-clause-denies g c =
    λ m may.
    let w = standing g.M.Memory.shared m c.args.self.now in (
      may,
      denied (NoSeat w) (IsQuietOf (asks c.args.queues) w) c.has_turn.result c.if-has_turn.true
          (c.has_turn.ensures g.M.Memory.shared m) (seat_quiet (asks c.args.queues) w),
    )

pub returns-then-has_arrival-clause-denies : goal.returns-then-has_arrival-clause-denies
returns-then-has_arrival-clause-denies g c =
    λ m may.
    let w = standing g.M.Memory.shared m c.args.self.now in (
      may,
      denied (NoEnter w) (IsQuietOf (asks c.args.queues) w) c.has_arrival.result c.if-has_arrival.true
          (c.has_arrival.ensures g.M.Memory.shared m) (enter_quiet (asks c.args.queues) w),
    )

pub returns-then-is_some-clause-denies : goal.returns-then-is_some-clause-denies
returns-then-is_some-clause-denies g c =
    let first = c.oldest.ensures.oldest ∙ ap (λ (z : PlainDevice). slice_get z.waiting 0) c.self.view_is in
    λ m may.
    let w = standing g.M.Memory.shared m c.args.self.now in (
      may,
      λ quiet.
          raise_quiet (asks c.args.queues) w quiet
          (raised w c.oldest.result first (sym c.is_some.ensures ∙ c.if-is_some.true)),
    )

pub returns-clause-denies : goal.returns-clause-denies
returns-clause-denies g c =
    let shared = g.M.Memory.shared in
    let first = c.oldest.ensures.oldest ∙ ap (λ (z : PlainDevice). slice_get z.waiting 0) c.self.view_is in
    λ m may.
    let w = standing shared m c.args.self.now in
    let f = c.has_chain.ensures.denies m may in (
      f.0,
      last_look (asks c.args.queues) w c.has_chain.result
          (told (NoneApplies w of_function) c.function_goes_on.result c.if-function_goes_on.false
          (c.function_goes_on.ensures shared m))
          (no_raise w c.oldest.result first (sym c.is_some.ensures ∙ c.if-is_some.false))
          (told (NoDirect w) c.has_answer.result c.if-has_answer.false (c.has_answer.ensures shared m))
          (told (NoSeat w) c.has_turn.result c.if-has_turn.false (c.has_turn.ensures shared m))
          (told (NoEnter w) c.has_arrival.result c.if-has_arrival.false (c.has_arrival.ensures shared m)) f.1,
    )
