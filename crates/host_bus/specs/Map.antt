-- What a host in C mapped.
use Rattle.std.specs.Prelude.{ℕ}
use Rattle.host_bus.specs.declared.HostBus.{HostBus}

-- the number of what was mapped, over which a bus is
abbrev pub map_of : HostBus → ℕ
map_of b = b.map
