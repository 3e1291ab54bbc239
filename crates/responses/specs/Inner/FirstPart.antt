-- The first part of a chain into which bytes go.
use Rattle.std.specs.Prelude.{List, [], ◌∷◌, Option, Some, None, if◌then◌else◌}
use Rattle.ring_core.specs.declared.descriptor.Part.{Part}

-- the first part that may be written
abbrev pub first_open : List Part → Option Part
first_open [] = None
first_open (p ∷ parts) = if p.writable then Some p else first_open parts
