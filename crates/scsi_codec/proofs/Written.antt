-- What is written tells what it was written of.
use Rattle.std.proofs.Common.{rules, ◌≡◌, ℕ, ◌/◌, ◌%◌, ◌<◌, ◌^◌, ◌==◌, cond, List, replicate, Option, Some, None, refl, ap, sym, ◌∙◌, arith}
use Rattle.std.proofs.lemmas.List.{append_cancel_right}
use Rattle.std.specs.Prelude.{◌≤◌, ◌-◌, ◌++◌, IfSome}
use Rattle.arrayvec.specs.ArrayVec.{ArrayVec, array_vec_len}
use Rattle.scsi_codec.specs.Responses.{response_bytes, response_number, sense_len, sense_area, IsResponse}
use Rattle.scsi_codec.specs.declared.responses.Response.{Response}
use Rattle.scsi_codec.specs.declared.responses.ResponseCode.{ResponseCode}
use Rattle.scsi_codec.specs.declared.responses.ResponseCode.TheVariants as code

-- the response with a number
unfoldable code_of : ℕ → ResponseCode
code_of n =
    cond (n == 0) code.Ok (cond (n == 1) code.Overrun (cond (n == 2) code.Aborted (cond (n == 3) code.BadTarget
    (cond (n == 4) code.Reset (cond (n == 5) code.Busy (cond (n == 6) code.TransportFailure
    (cond (n == 7) code.TargetFailure (cond (n == 8) code.NexusFailure code.Failure))))))))

code_of-response_number : (c : ResponseCode) → code_of (response_number c) ≡ c
unfolding code_of
code_of-response_number code.Ok = refl
code_of-response_number code.Overrun = refl
code_of-response_number code.Aborted = refl
code_of-response_number code.BadTarget = refl
code_of-response_number code.Reset = refl
code_of-response_number code.Busy = refl
code_of-response_number code.TransportFailure = refl
code_of-response_number code.TargetFailure = refl
code_of-response_number code.NexusFailure = refl
code_of-response_number code.Failure = refl

one_code : (a b : ResponseCode) → response_number a ≡ response_number b → a ≡ b
one_code a b e = sym (code_of-response_number a) ∙ ap code_of e ∙ code_of-response_number b

four_bytes : (x y : ℕ) → x < 2 ^ 32 → y < 2 ^ 32 → x % 256 ≡ y % 256 → x / 256 % 256 ≡ y / 256 % 256
    → x / 65536 % 256 ≡ y / 65536 % 256 → x / 16777216 % 256 ≡ y / 16777216 % 256 → x ≡ y
four_bytes x y hx hy e0 e1 e2 e3 = omega arith

same_items : (x y : ArrayVec ℕ) → x.items ≡ y.items → x ≡ y
same_items x y e = ap (λ (l : List ℕ). record { items = l }) e

one_sense : (a b : Option (ArrayVec ℕ)) → IfSome a (λ s. 0 < array_vec_len s) → IfSome b (λ s. 0 < array_vec_len s)
    → sense_len a ≡ sense_len b → sense_area a ≡ sense_area b → a ≡ b
one_sense None None some_a some_b len area = refl
one_sense None (Some y) some_a some_b len area = absurd (omega (arith, some_b, len))
one_sense (Some x) None some_a some_b len area = absurd (omega (arith, some_a, len))
one_sense (Some x) (Some y) some_a some_b len area =
    let same : x.items ++ replicate (96 - array_vec_len y) 0 ≡ y.items ++ replicate (96 - array_vec_len y) 0 =
    sym (ap (λ n. x.items ++ replicate (96 - n) 0) len) ∙ area in
    ap Some (same_items x y (append_cancel_right x.items y.items (replicate (96 - array_vec_len y) 0) same))

sense_len-low : (a : Option (ArrayVec ℕ)) → IfSome a (λ s. array_vec_len s ≤ 96) → sense_len a % 256 ≡ sense_len a
sense_len-low None fits = refl
sense_len-low (Some x) fits = omega (arith, fits)

same_fields : (a b : Response) → a.code ≡ b.code → a.status ≡ b.status → a.residual ≡ b.residual → a.sense ≡ b.sense → a ≡ b
same_fields a b c s r e = search rules

pub known_by_bytes : (a b : Response) → IsResponse a → IsResponse b → response_bytes a ≡ response_bytes b → a ≡ b
known_by_bytes a b ia ib e =
    let number : response_number a.code ≡ response_number b.code = cc in
    let status : a.status ≡ b.status = cc in
    let r0 : a.residual % 256 ≡ b.residual % 256 = cc in
    let r1 : a.residual / 256 % 256 ≡ b.residual / 256 % 256 = cc in
    let r2 : a.residual / 65536 % 256 ≡ b.residual / 65536 % 256 = cc in
    let r3 : a.residual / 16777216 % 256 ≡ b.residual / 16777216 % 256 = cc in
    let low : sense_len a.sense % 256 ≡ sense_len b.sense % 256 = cc in
    let area : sense_area a.sense ≡ sense_area b.sense = cc in
    same_fields a b (one_code a.code b.code number) status
    (four_bytes a.residual b.residual ia.residual ib.residual r0 r1 r2 r3)
    (one_sense a.sense b.sense ia.some ib.some (sym (sense_len-low a.sense ia.fits) ∙ low ∙ sense_len-low b.sense ib.fits) area)
