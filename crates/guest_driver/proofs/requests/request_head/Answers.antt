use Rattle.std.proofs.Common.{rules, arith, ◌≡◌, ◌<◌, ◌^◌, ◌++◌, ◌∷◌, length}
use Rattle.std.proofs.lemmas.Grind.{common_steps}
use Rattle.std.specs.Int.{w64, to_le_bytes}
use Rattle.guest_driver.proofs.Heads.{head_is}
use Rattle.guest_driver.proofs.requests.request_head.Goals as goal

pub returns : goal.returns
returns c =
    let s = c.args.send.now in
    let is : c.extend_from_slice-4.new.self.items ≡ s.lun ++ (to_le_bytes w64 s.id ++ (s.attribute ∷ 0 ∷ 0 ∷ s.cdb)) = grind (arith, common_steps) in
    let eight : length s.lun ≡ 8 = search rules in
    let block : length s.cdb ≡ 32 = search rules in
    let fits : s.id < 2 ^ 64 = search rules in
    head_is c.extend_from_slice-4.new.self.items s eight block fits is
