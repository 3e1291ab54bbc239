use Rattle.std.proofs.Common.{◌≡◌, ◌∷◌, ◌++◌, [], refl, ap, arith, length-append}
use Rattle.unit_model.specs.Jobs.{Jobs}
use Rattle.device_steps.specs.Off.{jobs_of}
use Rattle.device_steps.proofs.Making.{everywhere_more}
use Rattle.device_steps.proofs.Setting.{each_image}
use Rattle.device_steps.proofs.handed_off.HandedOff.new.Goals as goal

pub loop-number-preserved : goal.loop-number-preserved
loop-number-preserved c =
    let pushed : c.push.new.self.items ≡ c.loop-number.lists.items ++ c.in_ok-list.list ∷ [] =
    rw (c.push.ensures.items, c.if-is_err.ensures.negation) refl in
    record {
      count =
          rw pushed
          (omega (arith, length-append c.loop-number.lists.items (c.in_ok-list.list ∷ []), c.loop-number.invariant.count));
      each =
          rw pushed
          (everywhere_more (λ (j : Jobs). j ≡ record { jobs = []; limit = c.args.limit }) c.loop-number.lists.items
          c.in_ok-list.list c.loop-number.invariant.each c.in_ok-list.ensures);
    }

pub returns-clause-bare : goal.returns-clause-bare
returns-clause-bare c =
    each_image jobs_of (λ (jobs : _). jobs ≡ []) c.loop-number.lists.items
    (λ k l at. ap (λ (j : Jobs). j.jobs) (c.loop-number.invariant.each k l at))
