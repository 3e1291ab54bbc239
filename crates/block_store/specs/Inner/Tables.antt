-- Rests on `specs/Tables.antt`; no promise rests on it.
use Rattle.std.specs.Prelude.{ℕ, ◌<◌}
use Rattle.block_store.specs.Tables.{more_rows}
use Rattle.std.proofs.Common.{arith}
use Rattle.std.proofs.lemmas.Bool.Decides.{nat_tests}

pub some-rows : (n : ℕ) → 0 < n → 0 < more_rows n
some-rows n some = grind (arith, nat_tests)
