-- What the bytes of sense data say is what they were made of.
use Rattle.std.proofs.Common.{◌≡◌, ℕ, ◌<◌, ◌^◌, ◌%◌, Option, None, Some, arith, ap, ◌∙◌}
use Rattle.std.specs.Prelude.{IfSome}
use Rattle.std.specs.Int.{w32, w64, to_be_bytes, from_be_bytes}
use Rattle.std.proofs.lemmas.Nat.{from_be_bytes-to_be_bytes_4, from_be_bytes-to_be_bytes_8}
use Rattle.sense.specs.Format.{bytes_in}
use Rattle.sense.specs.Reading.{read_sense}
use Rattle.sense.specs.declared.Sense.{Sense}
use Rattle.sense.specs.declared.SenseFormat.{SenseFormat}
use Rattle.sense.specs.declared.SenseFormat.TheVariants.{Fixed, Descriptor}

-- sense data by its parts
abbrev of_parts : SenseFormat → ℕ → ℕ → ℕ → Option ℕ → Sense
of_parts f key asc ascq information = record { key = key; asc = asc; ascq = ascq; format = f; information = information }

module _ (key asc ascq : ℕ) (small : key < 16) where
  same_key : key % 16 ≡ key
  same_key = omega (arith, small)

  without : (f : SenseFormat) (k : ℕ) → k ≡ key → Some (of_parts f k asc ascq None) ≡ Some (of_parts f key asc ascq None)
  without f k same = ap (λ n. Some (of_parts f n asc ascq None)) same

  with : (f : SenseFormat) (k i j : ℕ) → k ≡ key → i ≡ j →
      Some (of_parts f k asc ascq (Some i)) ≡ Some (of_parts f key asc ascq (Some j))
  with f k i j same is =
      ap (λ n. Some (of_parts f n asc ascq (Some i))) same ∙ ap (λ n. Some (of_parts f key asc ascq (Some n))) is

  pub said : (f g : SenseFormat) (information : Option ℕ) → IfSome information (λ i. i < 2 ^ 32) →
      read_sense (bytes_in f (of_parts g key asc ascq information)) ≡ Some (of_parts f key asc ascq information)
  said Fixed g None fits = without Fixed (key % 16) same_key
  said Descriptor g None fits = without Descriptor (key % 16) same_key
  said Fixed g (Some i) fits =
      with Fixed (key % 16) (from_be_bytes w32 (to_be_bytes w32 i)) i same_key (from_be_bytes-to_be_bytes_4 i fits)
  said Descriptor g (Some i) fits =
      let wide : i < 2 ^ 64 = omega (arith, fits) in
      with Descriptor (key % 16) (from_be_bytes w64 (to_be_bytes w64 i)) i same_key (from_be_bytes-to_be_bytes_8 i wide)
