-- What the host's storage has, by what the host was given and kept.
use Rattle.std.specs.Prelude.{List, [], ◌∷◌}
use Rattle.block_store.specs.Storage as storage
use Rattle.block_store.specs.Storage.{Storage, dealt}
use Rattle.backed_store.specs.declared.dealing.Dealing.{Dealing}
use Rattle.backed_store.specs.declared.dealing.Dealing.TheVariants.{Given, Kept, Lost, Denied, Loaded, Cut}

-- as it is said of a storage
abbrev pub plain : Dealing → storage.Dealing
plain (Given g) = storage.Dealing.Give g.page g.bytes.items
plain (Kept p) = storage.Dealing.Keep p
plain (Lost p) = storage.Dealing.Lose p
plain (Denied p) = storage.Dealing.Deny p
plain (Loaded p) = storage.Dealing.Load p
plain (Cut n) = storage.Dealing.Cut n

abbrev pub after : Dealing → Storage → Storage
after d s = dealt (plain d) s

-- once all of this was done, the first of it first
abbrev pub after_all : List Dealing → Storage → Storage
after_all [] s = s
after_all (d ∷ more) s = after_all more (after d s)
