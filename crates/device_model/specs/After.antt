-- The world after a transition.
use Rattle.device_model.specs.World.{PlainWorld}
use Rattle.device_model.specs.Transitions.{Transition}
use Rattle.device_model.specs.Event.Poke.{after_poke}
use Rattle.device_model.specs.Event.Fetch.{after_arrive, after_refuse, after_open, after_hold, after_use_buffer, after_break}
use Rattle.device_model.specs.Event.Enter.{after_run, after_park, after_enter_full, after_enter_busy, after_enter_stale}
use Rattle.device_model.specs.Event.Direct.{after_direct}
use Rattle.device_model.specs.Event.HandOff.{after_put, after_keep, after_take}
use Rattle.device_model.specs.Event.Commit.{after_commit, after_commit_busy, after_commit_aborted, after_commit_unknown, after_withhold, after_conclude}
use Rattle.device_model.specs.Event.Answer.{after_answer}
use Rattle.device_model.specs.Event.Leave.{after_leave}
use Rattle.device_model.specs.Event.Mark.{after_mark, after_ask, after_mark_refused}
use Rattle.device_model.specs.Event.Check.{after_check}
use Rattle.device_model.specs.Event.AnswerTmf.{after_respond}
use Rattle.device_model.specs.Event.Hard.{after_hard}
use Rattle.device_model.specs.Event.Resize.{after_resize}
use Rattle.device_model.specs.Event.Deal.{after_deal}
use Rattle.device_model.specs.Event.Raise.{after_give, after_miss}
use Rattle.device_model.specs.Event.Wake.{after_defer, after_wake, after_resume}

abbrev pub after : Transition → PlainWorld → PlainWorld
after (Transition.Poke x) w = after_poke x w
after (Transition.Arrive f x) w = after_arrive f x w
after (Transition.Refuse f a) w = after_refuse f a w
after (Transition.Open f g) w = after_open f g w
after (Transition.Hold f) w = after_hold f w
after (Transition.UseBuffer f xs) w = after_use_buffer f xs w
after (Transition.Break q n) w = after_break q n w
after (Transition.Run x) w = after_run x w
after (Transition.Park x) w = after_park x w
after (Transition.EnterFull x) w = after_enter_full x w
after (Transition.EnterBusy x) w = after_enter_busy x w
after (Transition.EnterStale x) w = after_enter_stale x w
after (Transition.Direct c o xs) w = after_direct c o xs w
after (Transition.Put k x) w = after_put k x w
after (Transition.Keep k x) w = after_keep k x w
after (Transition.Take k from x) w = after_take k from x w
after (Transition.Commit k x r) w = after_commit k x r w
after (Transition.CommitBusy k x) w = after_commit_busy k x w
after (Transition.CommitAborted k x why) w = after_commit_aborted k x why w
after (Transition.CommitUnknown k x) w = after_commit_unknown k x w
after (Transition.Defer k x) w = after_defer k x w
after (Transition.Withhold k x r) w = after_withhold k x r w
after (Transition.Conclude k x r) w = after_conclude k x r w
after Transition.Wake w = after_wake w
after (Transition.Resume k x) w = after_resume k x w
after (Transition.Answer k x o xs) w = after_answer k x o xs w
after (Transition.Leave k u t jobs) w = after_leave k u t jobs w
after (Transition.Mark t p m jobs) w = after_mark t p m jobs w
after (Transition.Ask t u rule b) w = after_ask t u rule b w
after (Transition.MarkRefused t) w = after_mark_refused t w
after (Transition.Check t p) w = after_check t p w
after (Transition.Respond c r xs) w = after_respond c r xs w
after (Transition.Hard p jobs) w = after_hard p jobs w
after (Transition.Resize unit_index blocks) w = after_resize unit_index blocks w
after (Transition.Deal unit_index x) w = after_deal unit_index x w
after (Transition.Give e c xs) w = after_give e c xs w
after (Transition.Miss e) w = after_miss e w
after (Transition.Idle e) w = w
