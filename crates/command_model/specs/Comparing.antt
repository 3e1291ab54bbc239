-- Blocks and the data that they are compared with.
use Rattle.std.specs.Prelude.{ℕ, ◌*◌, ◌==◌, not, List, take, drop, Option, None, Some, Err, position}
use Rattle.std.specs.List.{zip}
use Rattle.sense.specs.Conditions.{miscompare}
use Rattle.cdb.specs.declared.wide_commands.VerifyData.{VerifyData}
use Rattle.cdb.specs.declared.wide_commands.VerifyData.TheVariants.{EachBlock, OneBlock}
use Rattle.block_store.specs.Blocks.{Blocks, nth_block}
use Rattle.command_model.specs.Data.{Answer, done}

-- the data of COMPARE AND WRITE, SBC-3 §5.2: so many blocks to compare with, and then as many to write

abbrev pub to_compare : ℕ → List ℕ → List ℕ
to_compare count bytes = take (512 * count) bytes

abbrev pub to_write : ℕ → List ℕ → List ℕ
to_write count bytes = drop (512 * count) bytes

-- the offset of the first byte in which the two differ
abbrev pub first_unequal : List ℕ → List ℕ → Option ℕ
first_unequal left right = position (λ pair. not (pair.0 == pair.1)) (zip left right)

-- the answer of a comparison, by that offset
abbrev pub compared : Option ℕ → Answer
compared None = done
compared (Some offset) = Err (miscompare offset)

-- the data of VERIFY as blocks, SBC-3 §5.29: that with which the block of each index in the range is compared
abbrev pub to_verify : VerifyData → List ℕ → Blocks
to_verify EachBlock bytes k = nth_block bytes k
to_verify OneBlock bytes k = bytes
