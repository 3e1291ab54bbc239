-- What a task that was found may do for a job.
use Rattle.std.specs.Prelude.{◌≡◌, ◌≢◌, ◌⊎◌, true, false, Some, None}
use Rattle.unit_model.specs.Seen.{Seen}
use Rattle.unit_model.specs.Jobs.{PlainJob}
use Rattle.unit_model.specs.Asking.{asked_of}
use Rattle.logical_unit.specs.declared.turn.Turn.{Turn}
use Rattle.logical_unit.specs.declared.turn.Turn.TheVariants as turn

abbrev pub Turns : Seen → PlainJob → Turn → Type 0
Turns s j turn.Unknown =
    (asked_of s.entry ≢ asked_of j.entry) ⊎ ((s.done ≡ true) ⊎ ((s.mark ≡ None) × (s.enabled ≡ false)))
Turns s j (turn.Aborted reason) = (asked_of s.entry ≡ asked_of j.entry) × (s.done ≡ false) × (s.mark ≡ Some reason)
Turns s j turn.Ready =
    (asked_of s.entry ≡ asked_of j.entry) × (s.done ≡ false) × (s.mark ≡ None) × (s.enabled ≡ true)
