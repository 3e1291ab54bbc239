use Rattle.std.proofs.Common.{◌≡◌, ◌<◌, length, Some, refl, sym, ap, ◌∙◌, inl, inr, arith}
use Rattle.std.specs.Prelude.{slice_get}
use Rattle.std.proofs.lemmas.List.{length-map}
use Rattle.device_model.proofs.Lists.{same}
use Rattle.device_steps.specs.Off.{KeptOff, jobs_of}
use Rattle.device_steps.proofs.Choosing.{below_next}
use Rattle.device_steps.proofs.Off.{list_there, has_job, is_bare}
use Rattle.device_steps.proofs.handed_off.HandedOff.first_between.Goals as goal

pub returns-then-len-gt0 : goal.returns-then-len-gt0
returns-then-len-gt0 c =
    let items = c.self.inside.lists.items in
    let n = c.loop-at.at in
    let l = c.index.result.now in
    let many : length c.args.self.now.lists ≡ length items =
    ap (λ (h : KeptOff). length h.lists) (sym c.self.view_is) ∙ length-map items jobs_of in
    let within : n < length items = omega (arith, c.loop-at-test.true, many, c.requires.1) in
    let there : slice_get c.args.self.now.lists n ≡ Some (jobs_of l) =
    ap (λ (h : KeptOff). slice_get h.lists n) (sym c.self.view_is) ∙ list_there items (length items) n l refl within c.index.ensures in (
      c.loop-at.invariant.low,
      c.loop-at-test.true,
      has_job c.args.self.now.lists n (jobs_of l) there (omega (arith, c.if-len-gt0.true, c.len.ensures)),
      c.loop-at.invariant.bare,
    )

pub loop-at-preserved : goal.loop-at-preserved
loop-at-preserved c =
    let items = c.self.inside.lists.items in
    let n = c.loop-at.at in
    let l = c.index.result.now in
    let many : length c.args.self.now.lists ≡ length items =
    ap (λ (h : KeptOff). length h.lists) (sym c.self.view_is) ∙ length-map items jobs_of in
    let within : n < length items = omega (arith, c.loop-at-test.true, many, c.requires.1) in
    let there : slice_get c.args.self.now.lists n ≡ Some (jobs_of l) =
    ap (λ (h : KeptOff). slice_get h.lists n) (sym c.self.view_is) ∙ list_there items (length items) n l refl within c.index.ensures in
    record {
      low = omega (arith, c.loop-at.invariant.low);
      bare = λ i jobs le lt at.
          elim (below_next i n lt) [
            | inl less ↦ c.loop-at.invariant.bare i jobs le less at
            | inr here ↦
                same (sym at ∙ ap (λ j. slice_get c.args.self.now.lists j) here ∙ there)
                ∙ is_bare (jobs_of l) (omega (arith, c.if-len-gt0.false, c.len.ensures))
          ];
    }
