-- Pages that stand in a queue.
use Rattle.std.specs.Prelude.{ℕ, Bool, Option, nat_eq, length, slice_get}
use Rattle.std.specs.List.{list_any}
use Rattle.backed_store.specs.declared.queue.PageQueue.{PageQueue}

-- whether page p stands in it
abbrev pub stands : PageQueue → ℕ → Bool
stands q p = list_any (nat_eq p) q.pages.items

-- how many entries it has
abbrev pub queue_len : PageQueue → ℕ
queue_len q = length q.pages.items

-- the page that stands first
abbrev pub front : PageQueue → Option ℕ
front q = slice_get q.pages.items 0
