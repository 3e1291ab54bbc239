use Rattle.std.proofs.Common.{◌==◌, ap, sym, arith}
use Rattle.std.proofs.lemmas.Nat.Bits.{bit_at_above, shr_and_one}
use Rattle.c_calls.proofs.rings.is_marked.Goals as goal

pub returns-then-queue-ge32 : goal.returns-then-queue-ge32
returns-then-queue-ge32 c = ap (λ n. n == 1) (sym (bit_at_above c.args.bits 32 c.args.queue (omega arith) (omega arith)))

pub returns : goal.returns
returns c = ap (λ n. n == 1) (shr_and_one c.args.bits c.args.queue)
