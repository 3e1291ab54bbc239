-- Words of digits, and what parsing says of them.
use Rattle.std.proofs.Common.{arith, ◌≡◌, ◌≤◌, ◌<◌, ◌^◌, ℕ, List, [], ◌∷◌, ap, refl, Bool, ◌&&◌, true, false, ◌⊎◌, inl, inr, Ok, Err, OnErr, sym, ◌∙◌, true≢false}
use Rattle.std.specs.Char.{is_ascii_digit}
use Rattle.std.specs.List.{after_first, before_first, list_all}
use Rattle.std.specs.Str.{all_ascii_digits}
use Rattle.std.specs.Str.Parse.{ExplainsUnsignedError, HasUnsignedDigitsIfOk, ParsesUnsigned}
use Rattle.std.proofs.lemmas.Str.Parse.{numerals_by_value, tells_all_ascii_digits, parse_digits}
use Rattle.std.specs.declared.result.Result.{Result}
use Rattle.std.specs.declared.num.ParseIntError.{ParseIntError}
use Rattle.script_syntax.specs.Inner.Values.{IsNumber, IsUnit, IsUnitPair, is_colon}
use Rattle.scsi_codec.specs.declared.lun.Address.{Address}

pub all_digits : (word : List ℕ) → list_all is_ascii_digit word ≡ all_ascii_digits word
all_digits [] = refl
all_digits (first ∷ word) = ap (λ (rest : Bool). is_ascii_digit first && rest) (all_digits word)

-- a word that is read as a number of so many bits is that number, below each bound that it keeps to
pub is_number : (bits bound : ℕ) (word : List ℕ) (number : ℕ)
    → (all_ascii_digits word ≡ true) × (ParsesUnsigned {E = ParseIntError} bits 10 word (Ok number)
    × ExplainsUnsignedError {T = ℕ} 10 word (Ok number) × HasUnsignedDigitsIfOk {E = ParseIntError} word (Ok number))
    → number < bound → IsNumber bound word number
is_number bits bound word number taken below =
    let result : Result ℕ ParseIntError = Ok number in
    let parsed = parse_digits (numerals_by_value _ tells_all_ascii_digits) bits word result taken.1.0 taken.0 in
    record { digits = taken.0; some = parsed.0.0; value = parsed.1; below = below }

-- a word that isn't read as a number of so many bits is no number that has room in them
pub not_number : (bits bound : ℕ) (word : List ℕ) → bound ≤ 2 ^ bits
    → (all_ascii_digits word ≡ false) ⊎ ((error : ParseIntError)
    × (ParsesUnsigned bits 10 word (Err error) × ExplainsUnsignedError {T = ℕ} 10 word (Err error) × HasUnsignedDigitsIfOk {T = ℕ} word (Err error)))
    → (number : ℕ) → ¬ IsNumber bound word number
not_number bits bound word room (inl none) number is = true≢false (sym is.digits ∙ none)
not_number bits bound word room (inr refused) number is =
    parse_digits (numerals_by_value _ tells_all_ascii_digits) bits word (Err refused.0) refused.1.0 is.digits (is.some, omega (arith, is.value, is.below, room))

pub on_err : {T E : Type 0} {A : Type 0} (result : Result T E) → A → OnErr result A
on_err (Ok value) a = tt
on_err (Err error) a = a

pub not_pair : {T E : Type 0} (result : Result T E) (word target lun : List ℕ)
    → target ≡ before_first is_colon word → lun ≡ after_first is_colon word
    → OnErr result ((unit : Address) → ¬ IsUnit target lun unit)
    → OnErr result ((unit : Address) → ¬ IsUnitPair word unit)
not_pair (Ok value) word target lun before behind none = none
not_pair (Err error) word target lun before behind none = λ unit is. none unit (rw (before, behind) is.sides)
