-- The queues of a configuration that the device takes.
use Rattle.std.proofs.Common.{◌≡◌, ◌&&◌, ◌≤◌, ℕ, Bool, true, false, List, length, refl, arith}
use Rattle.std.specs.Prelude.{Option, Some, None}
use Rattle.ring_core.specs.declared.layout.Form.{Form}
use Rattle.ring_core.specs.declared.layout.Layout.{Layout}
use Rattle.config.specs.Config.{are_queues, form_of, is_config_for}
use Rattle.config.specs.declared.config.Config.{Config}

few_of : (form : Option Form) (size : ℕ) (queues : List Layout) → are_queues form size queues ≡ true → length queues ≤ 18
few_of None size queues taken = grind arith
few_of (Some form) size queues taken = grind arith

-- the first of these conditions holds where all do
first : (a b c d e f : Bool) → (a && b && c && d && e && f) ≡ true → a ≡ true
first true b c d e f all = refl
first false b c d e f all = all

pub few : (size : ℕ) (c : Config) → is_config_for size c ≡ true → length c.queues.items ≤ 18
few size c taken = few_of (form_of c.features) size c.queues.items (first _ _ _ _ _ _ taken)
