use Rattle.std.proofs.Common.{rules, ◌≡◌, ◌∙◌, ◌<◌, ◌^◌, length}
use Rattle.guest_driver.proofs.Functions.{written_is}
use Rattle.guest_driver.proofs.requests.function_request.Goals as goal

pub returns : goal.returns
returns c =
    let f = c.args.function.now in
    let eight : length f.lun ≡ 8 = search rules in
    let small : f.subtype < 2 ^ 32 = search rules in
    let fits : f.id < 2 ^ 64 = search rules in
    written_is c.copy_from_slice.new.self c.copy_from_slice-2.new.self c.copy_from_slice-3.new.self f eight small fits
    (c.copy_from_slice.ensures.after ∙ c.to_le_bytes.ensures) c.copy_from_slice-2.ensures.after
    (c.copy_from_slice-3.ensures.after ∙ c.to_le_bytes-2.ensures)
