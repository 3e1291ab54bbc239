-- A function of numbers as a list; and the table of outstanding chains as one: under each head or id the chain that has it.
use Rattle.std.specs.Prelude.{ℕ, zero, suc, List, [], ◌∷◌, ◌++◌, nat_eq, Option, Some, None, if◌then◌else◌}
use Rattle.std.specs.Ordering.{nat_cmp}
use Rattle.std.specs.BTreeMap.{get}
use Rattle.ring_core.specs.declared.outstanding.OutstandingChain.{OutstandingChain}
use Rattle.ring_core.specs.declared.by_id.ChainsById.{ChainsById}
use Rattle.ring_core.specs.declared.by_id.IdAndChain.{IdAndChain}
use Rattle.ring_core.specs.declared.outstanding.Entries.{Entries}
use Rattle.ring_core.specs.declared.outstanding.Entries.TheVariants.{ByHead, ById}

-- f at 0, 1, and so on, below n
unfoldable pub tabulated : {X : Type 0} → (ℕ → X) → ℕ → List X
tabulated f zero = []
tabulated f (suc n) = tabulated f n ++ f n ∷ []

-- the chain under an id, where one stands by itself and others in a map
abbrev pub under_one : Option IdAndChain → ℕ → Option OutstandingChain → Option OutstandingChain
under_one None id other = other
under_one (Some one) id other = if nat_eq one.id id then Some one.chain else other

-- the chain under an id
abbrev pub found_under : ChainsById → ℕ → Option OutstandingChain
found_under chains id = under_one chains.first id (get nat_cmp chains.others id)

-- the chains under the first so many heads or ids
abbrev pub entries_listed : Entries → ℕ → List (Option OutstandingChain)
entries_listed (ByHead entries) ids = entries.items
entries_listed (ById chains) ids = tabulated (found_under chains) ids
