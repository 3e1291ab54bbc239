-- By which memory a notice is decided.
use Rattle.std.specs.Prelude.{ℕ, ◌≡◌, List, Option, Some, None}
use Rattle.device_model.specs.Parts.{Completion}

-- by this memory the notice of a completion is decided; where nothing is completed, memory is seen as it was left
abbrev pub SeesBy : Option Completion → List ℕ → List ℕ → Type 0
SeesBy (Some xs) left seen = xs.seen ≡ seen
SeesBy None left seen = seen ≡ left
