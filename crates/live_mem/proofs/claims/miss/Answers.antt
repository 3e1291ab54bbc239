use Rattle.std.proofs.Common.{◌≡◌, ◌<◌, ap, ◌∙◌, arith, inl, inr, true}
use Rattle.std.proofs.lemmas.Bool.{cases_lt}
use Rattle.std.proofs.lemmas.List.{get_or_default}
use Rattle.live_mem.specs.Access.{spans}
use Rattle.live_mem.specs.Claims.{claims_at}
use Rattle.live_mem.specs.declared.claims.Claim.{Claim}
use Rattle.live_mem.proofs.claims.miss.Goals as goal

pub loop-run-init : goal.loop-run-init
loop-run-init c = record { free = λ k p e lt at a b. absurd (omega (arith, lt)) }

pub loop-run-preserved : goal.loop-run-preserved
loop-run-preserved c =
    let i = c.loop-run.run-index in
    record {
      free = λ k p e lt at a b.
          elim (cases_lt k i) [
            | inl less ↦ c.loop-run.invariant.free k p e less at a b
            | inr le ↦
                let same : i ≡ k = omega (arith, le, lt) in
                let inside : i < _ = c.loop-run-test.true in
                let now : claims_at c.args.runs.now i e p ≡ true = rw same at in
                c.meets.ensures c.if-meets.false p (ap (λ (x : Claim). spans x.addr x.len p) (get_or_default c.args.runs.now i (record { addr = 0; len = 0 }) e inside) ∙ now) a b
          ];
    }

pub returns : goal.returns
returns c = λ so k p e lt at a b. c.loop-run.invariant.free k p e (omega (arith, lt, c.loop-run-test.false)) at a b
