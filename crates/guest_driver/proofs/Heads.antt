-- The bytes of a request, one field after the other, hold each field in its place.
use Rattle.std.proofs.Common.{◌≡◌, ℕ, ◌+◌, ◌-◌, ◌<◌, ◌^◌, List, [], ◌∷◌, ◌++◌, length, get_or, take, drop, sym, ◌∙◌, ap, subst, arith, length-append}
use Rattle.std.proofs.Math.Seq.{take_all, take-append_seam, drop-append-add, get_or-append_right}
use Rattle.std.proofs.lemmas.List.{drop_all}
use Rattle.std.specs.Int.{w64, to_le_bytes}
use Rattle.scsi_codec.specs.Lun.{IsAddress}
use Rattle.guest_driver.specs.Inner.Requests.{IsHead}
use Rattle.guest_driver.proofs.Numbers.{number_from, reads_8}
use Rattle.script_syntax.specs.declared.send.Send.{Send}

-- the first n elements of a list of n and more are that list
pub take_first : (n : ℕ) (xs ys : List ℕ) → length xs ≡ n → take n (xs ++ ys) ≡ xs
take_first n xs ys e = subst (λ (k : ℕ). take k (xs ++ ys) ≡ xs) e (take-append_seam xs ys)

-- n + k elements less of a list of n and more are k less of the others
pub drop_first : (n k : ℕ) (xs ys : List ℕ) → length xs ≡ n → drop (n + k) (xs ++ ys) ≡ drop k ys
drop_first n k xs ys e = subst (λ (j : ℕ). drop (j + k) (xs ++ ys) ≡ drop k ys) e (drop-append-add xs ys k)

module _ (bytes lun cdb : List ℕ) (id attribute : ℕ)
    (eight : length lun ≡ 8) (block : length cdb ≡ 32)
    (is : bytes ≡ lun ++ (to_le_bytes w64 id ++ (attribute ∷ 0 ∷ 0 ∷ cdb))) where
  whole : length bytes ≡ 51
  whole = ap length is ∙ length-append lun (to_le_bytes w64 id ++ (attribute ∷ 0 ∷ 0 ∷ cdb)) ∙ omega (arith, eight, block)

  lun_at_0 : take 8 bytes ≡ lun
  lun_at_0 = ap (λ (xs : List ℕ). take 8 xs) is ∙ take_first 8 lun (to_le_bytes w64 id ++ (attribute ∷ 0 ∷ 0 ∷ cdb)) eight

  from_8 : (k : ℕ) → drop (8 + k) bytes ≡ drop k (to_le_bytes w64 id ++ (attribute ∷ 0 ∷ 0 ∷ cdb))
  from_8 k = ap (λ (xs : List ℕ). drop (8 + k) xs) is ∙ drop_first 8 k lun (to_le_bytes w64 id ++ (attribute ∷ 0 ∷ 0 ∷ cdb)) eight

  id_at_8 : id < 2 ^ 64 → id ≡ number_from 0 8 (drop 8 bytes)
  id_at_8 fits =
      sym (ap (λ (xs : List ℕ). number_from 0 8 xs) (from_8 0) ∙ reads_8 id (attribute ∷ 0 ∷ 0 ∷ cdb) fits)

  attribute_at_16 : attribute ≡ get_or bytes 16 0
  attribute_at_16 =
      sym (ap (λ (xs : List ℕ). get_or xs 16 0) is
      ∙ get_or-append_right lun (to_le_bytes w64 id ++ (attribute ∷ 0 ∷ 0 ∷ cdb)) 16 0 (omega (arith, eight))
      ∙ ap (λ (n : ℕ). get_or (to_le_bytes w64 id ++ (attribute ∷ 0 ∷ 0 ∷ cdb)) (16 - n) 0) eight)

  cdb_at_19 : cdb ≡ take 32 (drop 19 bytes)
  cdb_at_19 = sym (ap (λ (xs : List ℕ). take 32 xs) (from_8 11) ∙ take_all 32 cdb (omega (arith, block)))

  nothing_from_51 : [] ≡ drop 51 bytes
  nothing_from_51 = sym (drop_all 51 bytes (omega (arith, whole)))

pub head_is : (bytes : List ℕ) (s : Send) → length s.lun ≡ 8 → length s.cdb ≡ 32 → s.id < 2 ^ 64
    → bytes ≡ s.lun ++ (to_le_bytes w64 s.id ++ (s.attribute ∷ 0 ∷ 0 ∷ s.cdb)) → IsHead bytes s
head_is bytes s eight block fits is =
    record {
      whole = whole bytes s.lun s.cdb s.id s.attribute eight block is;
      read = λ unit names. record {
        whole = omega (arith, whole bytes s.lun s.cdb s.id s.attribute eight block is);
        lun_at_0 = subst (λ (xs : List ℕ). IsAddress xs unit) (sym (lun_at_0 bytes s.lun s.cdb s.id s.attribute eight block is)) names;
        id_at_8 = id_at_8 bytes s.lun s.cdb s.id s.attribute eight block is fits;
        task_attr_at_16 = attribute_at_16 bytes s.lun s.cdb s.id s.attribute eight block is;
        cdb_at_19 = cdb_at_19 bytes s.lun s.cdb s.id s.attribute eight block is;
        data_from_51 = nothing_from_51 bytes s.lun s.cdb s.id s.attribute eight block is;
      };
    }
